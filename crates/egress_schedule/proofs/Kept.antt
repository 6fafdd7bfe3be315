-- The patience is kept.
use Rattle.std.specs.Prelude.{ℕ, ◌≡◌, ◌≢◌, ◌==◌, ◌⊎◌, ◌&&◌, ◌||◌, not, nat_lt, Bool, true, false}
use Rattle.std.specs.Prelude.{ℤ, pos, ◌+ℤ◌, List, [], ◌∷◌, length, get_or, Option, Some, None, IfSome, refl, if◌then◌else◌}
use Rattle.std.specs.Borrow.{Bor}
use Rattle.std.specs.Ordering.{int_cmp, is_le}
use Rattle.std.proofs.Common.{inl, inr, sym, ap, ◌∙◌, subst}
use Rattle.std.proofs.lemmas.Bool.{and_from, ne_eqb, not_from_false, or_left}
use Rattle.ip_address.specs.declared.ip.IpAddress.{IpAddress}
use Rattle.egress_schedule.specs.declared.watch.Waiting.{Waiting}
use Rattle.egress_schedule.specs.declared.watch.Watch.{Watch}
use Rattle.egress_schedule.specs.LongPackets.{after_setting_aside, after_setting_aside_at, has_long, next_long}
use Rattle.egress_schedule.specs.Asides.{nobody, with_wait_aside}
use Rattle.egress_schedule.specs.Patience.{is_at_end, must_go}
use Rattle.egress_schedule.specs.Plan.{Plan, Planned, each_of, idle, waiting_at, with_watch}
use Rattle.egress_schedule.specs.Rounds.{with_long_set_aside, with_packets_brought, with_turns_taken}
use Rattle.egress_schedule.specs.Runs.{Ends, IsGivenUp, IsLeft, IsWaiting, MayGiveUp, Round, Then, WaitsThrough, ended, prepared}
use Rattle.egress_schedule.specs.Turns.{after_hold_at, after_taking_turns, comes_before, if_held, is_held, next_to_ask, plan_asked, waiting_asked, with_wait_longer}
use Rattle.egress_schedule.specs.Laws.{PatienceIsKept}
use Rattle.egress_schedule.proofs.Ends.{after_patience_of, kept, patience_ends}
use Rattle.egress_schedule.proofs.GoesOn.{waits_go_on}
use Rattle.egress_schedule.proofs.Passes.{all_brought_keep, passing_keeps}

abbrev L : Type 0
L = Bor (Unit {0})

abbrev patience_of : Planned L → ℕ
patience_of r = r.plan.patience

-- the patience is the same in a round
held_patience : (now : ℤ) (next i : ℕ) (r : Planned L) → patience_of (after_hold_at now next i r) ≡ patience_of r
held_patience now next i r = by (waiting_at i r) where
  none : (b : Bool) → patience_of (if b then with_wait_aside now i r else r) ≡ patience_of r
  none false = refl
  none true = refl

  by : (o : Option Waiting) → patience_of (if_held now next i r o) ≡ patience_of r
  by None = none (comes_before now next i r)
  by (Some w) = two (is_held r.plan.patience now (must_go now i r w) (nat_lt i next) w) where
    two : (b : Bool) → patience_of (if b then with_wait_longer now i w r else r) ≡ patience_of r
    two false = refl
    two true = refl

asked_patience : (now : ℤ) (next : ℕ) (plan : Plan) → (plan_asked now next plan).patience ≡ plan.patience
asked_patience now next plan = by (nat_lt next (length plan.watches)) where
  new : Watch
  new = record (get_or plan.watches next idle) { waiting = waiting_asked now (get_or plan.watches next idle).waiting }

  by : (b : Bool) → (if b then record (with_watch next new plan) { asked = Some now } else plan).patience ≡ plan.patience
  by false = refl
  by true = refl

turns_patience : (now : ℤ) (r : Planned L) → patience_of (with_turns_taken now r) ≡ patience_of r
turns_patience now r = by r.plan.is_waiting where
  held : Planned L
  held = each_of (after_hold_at now (next_to_ask now r)) (length r.plan.watches) r

  by : (b : Bool) → patience_of (if b then after_taking_turns now r else r) ≡ patience_of r
  by false = refl
  by true = asked_patience now (next_to_ask now r) held.plan
      ∙ kept patience_of (after_hold_at now (next_to_ask now r)) (held_patience now (next_to_ask now r)) (length r.plan.watches) r

aside_patience : (now : ℤ) (mtu next i : ℕ) (r : Planned L) → patience_of (after_setting_aside_at mtu now next i r) ≡ patience_of r
aside_patience now mtu next i r = by (has_long mtu r.sockets i && not (i == next)) where
  by : (b : Bool) → patience_of (if b then with_wait_aside now i r else r) ≡ patience_of r
  by false = refl
  by true = refl

prepared_patience : (p : Round) (r : Planned L) → patience_of (prepared p r) ≡ patience_of r
prepared_patience p r =
    passing_keeps p.known p.now patience_of (λ i s. refl) (with_turns_taken p.now (with_long_set_aside p.mtu p.now p.is_piece_left s))
    ∙ (turns_patience p.now (with_long_set_aside p.mtu p.now p.is_piece_left s)
    ∙ (by s.plan.may_have_long ∙ all_brought_keep p.known p.now (λ plan waits. plan.patience) r)) where
      s : Planned L
      s = with_packets_brought p.known p.now r

      next : ℕ
      next = next_long p.mtu p.is_piece_left s

      by : (b : Bool) → patience_of (if b then after_setting_aside p.mtu p.now p.is_piece_left s else s) ≡ patience_of s
      by false = refl
      by true = kept patience_of (after_setting_aside_at p.mtu p.now next) (aside_patience p.now p.mtu next) (length s.plan.watches) s

-- what waited for so long is at its end
is_at_its_end : (patience : ℕ) (now : ℤ) (must : Bool) (w : Waiting) (since : ℤ) → patience ≢ 0 → w.since ≡ since →
    is_le (int_cmp (since +ℤ pos patience) now) ≡ true → is_at_end patience now must w ≡ true
is_at_its_end patience now must w since some is over =
    and_from (not (patience == 0)) (is_le (int_cmp (w.since +ℤ pos patience) now) || must)
    (not_from_false (patience == 0) (ne_eqb patience 0 some))
    (or_left (is_le (int_cmp (w.since +ℤ pos patience) now)) must (ap (λ (t : ℤ). is_le (int_cmp (t +ℤ pos patience) now)) is ∙ over))

-- a socket that waits, as it says
says : (i : ℕ) (d : IpAddress) (since : ℤ) (r : Planned L) (is : IsWaiting i d since r) → waiting_at i r ≡ Some is.waiting
says i d since r is = rw is.is_set is.is_noted

-- after a round it hasn't waited so long
not_so_long : (i : ℕ) (d : IpAddress) (since : ℤ) (p : Round) (r : Planned L) → r.plan.patience ≢ 0 →
    is_le (int_cmp (since +ℤ pos r.plan.patience) p.now) ≡ true → IsWaiting i d since (ended p r) → ⊥
not_so_long i d since p r some over is = absurd (let never : true ≡ false = sym at_end ∙ fresh in cc) where
  ready : Planned L
  ready = record { plan = (prepared p r).plan; sockets = p.polled }

  same : ready.plan.patience ≡ r.plan.patience
  same = prepared_patience p r

  must : Bool
  must = must_go p.now i (ended p r) is.waiting

  fresh : is_at_end r.plan.patience p.now must is.waiting ≡ false
  fresh = subst (λ (n : ℕ). is_at_end n p.now must is.waiting ≡ false) same
      (subst (λ (o : Option Waiting). IfSome o (λ w. is_at_end ready.plan.patience p.now (must_go p.now i (ended p r) w) w ≡ false))
      (says i d since (ended p r) is)
      (patience_ends p.now ready i))

  at_end : is_at_end r.plan.patience p.now must is.waiting ≡ true
  at_end = is_at_its_end r.plan.patience p.now must is.waiting since some is.since_when over

-- the owner leaves it so
left_waiting : (i : ℕ) (d : IpAddress) (since : ℤ) (r next : Planned L) → IsLeft i r next → IsWaiting i d since r → IsWaiting i d since next
left_waiting i d since r next left is = record {
  waiting = is.waiting;
  is_noted = ap (λ (ws : List Watch). (get_or ws i idle).waiting) left.watches ∙ is.is_noted;
  for_whom = is.for_whom;
  since_when = is.since_when;
  is_set = left.wait ∙ is.is_set;
  is_own = ap (λ (ws : List Watch). (get_or ws i idle).set_aside) left.watches ∙ is.is_own;
  is_watched = rw left.watches is.is_watched;
  has_wait = rw left.waits is.has_wait;
}

-- the patience of a schedule doesn't change in a round
round_patience : (p : Round) (r : Planned L) → patience_of (ended p r) ≡ patience_of r
round_patience p r = after_patience_of p.now (record { plan = (prepared p r).plan; sockets = p.polled }) ∙ prepared_patience p r

-- what wasn't given up still waits
still_waits : (i : ℕ) (d : IpAddress) (since : ℤ) (p : Round) (r : Planned L) → (IsGivenUp i d p r → ⊥) →
    (IsWaiting i d since (ended p r) ⊎ (IsGivenUp i d p r × MayGiveUp i d since p r)) → IsWaiting i d since (ended p r)
still_waits i d since p r isnt (inl still) = still
still_waits i d since p r isnt (inr gone) = absurd (isnt gone.0)

-- through many rounds
through : (i : ℕ) (d : IpAddress) (since : ℤ) (r last : Planned L) (rounds : List Round) → d ≢ nobody → IsWaiting i d since r →
    WaitsThrough i d r rounds last → IsWaiting i d since last × (last.plan.patience ≡ r.plan.patience)
through i d since r last [] else_than is (Ends _) = (is, refl)
through i d since r last (q ∷ rounds) else_than is (Then _ _ _ next _ there goes_on isnt left rest) =
    let still : IsWaiting i d since (ended q r) = still_waits i d since q r isnt (waits_go_on q r i d since else_than there is goes_on) in
    let later : IsWaiting i d since last × (last.plan.patience ≡ next.plan.patience) =
    through i d since next last rounds else_than (left_waiting i d since (ended q r) next left still) rest in
    (later.0, later.1 ∙ (left.patience ∙ round_patience q r))

pub patience_is_kept : PatienceIsKept
patience_is_kept i d since r last rounds p else_than some is all has_wait waits over =
    by (waits_go_on p last i d since else_than has_wait so_far.0 waits) where
      so_far : IsWaiting i d since last × (last.plan.patience ≡ r.plan.patience)
      so_far = through i d since r last rounds else_than is all

      by : (IsWaiting i d since (ended p last) ⊎ (IsGivenUp i d p last × MayGiveUp i d since p last)) → IsGivenUp i d p last
      by (inl still) = absurd (not_so_long i d since p last (λ none. some (sym so_far.1 ∙ none)) (rw so_far.1 over) still)
      by (inr gone) = gone.0
