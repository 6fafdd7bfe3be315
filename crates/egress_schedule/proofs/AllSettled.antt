-- Where all is settled, the end of a round changes nothing, and where no wait is over, its beginning.
use Rattle.std.specs.Prelude.{ℕ, zero, suc, ◌≡◌, ◌<◌, ◌≤◌, ◌+◌, ◌-◌, ◌⊎◌, ◌&&◌, ◌||◌, not, nat_lt, Bool, true, false, ℤ}
use Rattle.std.specs.Prelude.{List, [], ◌∷◌, is_none, is_some, length, get_or, slice_set, Option, Some, None, refl, if◌then◌else◌}
use Rattle.std.specs.Option.{option_and_then}
use Rattle.std.specs.Ordering.{int_eq, int_cmp, is_gt, is_le}
use Rattle.std.proofs.Common.{inl, inr, sym, ap, ◌∙◌, arith}
use Rattle.std.proofs.lemmas.Bool.{and_parts, cases_lt, eqb-true, le-ltb}
use Rattle.std.proofs.lemmas.Bool.Decides.{Decides-int_eq}
use Rattle.ip_address.specs.declared.ip.IpAddress.{IpAddress}
use Rattle.ip_address.specs.declared.ip.IpAddress.TheVariants.{Ipv4, Ipv6}
use Rattle.sockets.specs.Source.{is_same}
use Rattle.sockets.specs.declared.socket.SocketOf.{SocketOf}
use Rattle.socket_set.specs.SocketMeta.{Wait}
use Rattle.socket_set.specs.SocketSet.{socket_at, wait_at, wait_of, with_wait}
use Rattle.egress_schedule.specs.declared.watch.Waiting.{Waiting}
use Rattle.egress_schedule.specs.declared.watch.Watch.{Watch}
use Rattle.egress_schedule.specs.Patience.{after_alignment, after_alignment_at, after_alignment_to, after_look, after_look_at, after_patience}
use Rattle.egress_schedule.specs.Patience.{after_patience_at, begun_or_before, earlier_of, earliest_end, earliest_with, if_asked, if_given_up, if_waiting}
use Rattle.egress_schedule.specs.Patience.{is_given_up, is_new, may_ask, must_go, plan_after_look, turn_if, unreachable_after, waiting_after}
use Rattle.egress_schedule.specs.Plan.{Plan, Planned, each_of, first_from, idle, watch_at, with_watch}
use Rattle.egress_schedule.specs.Queues.{has_packets}
use Rattle.egress_schedule.specs.Rounds.{with_waits_ended}
use Rattle.egress_schedule.specs.Details.Settled.{ends_at, is_settled, is_settled_as, is_some_over, is_written, waits_at}
use Rattle.egress_schedule.specs.Turns.{after_hold_at, after_taking_turns, asks_at, comes_before, if_asking, if_held, is_free, next_to_ask}
use Rattle.egress_schedule.proofs.Ends.{past_get}
use Rattle.egress_schedule.proofs.GoesOn.{same_itself}
use Rattle.egress_schedule.proofs.Unnoted.{look_idle, passed}

-- what is set to what it is stays
same_set : {A : Type 0} (xs : List A) (i : ℕ) (d : A) → slice_set xs i (get_or xs i d) ≡ xs
same_set [] i d = refl
same_set (x ∷ xs) zero d = refl
same_set (x ∷ xs) (suc i) d = ap (λ ys. x ∷ ys) (same_set xs i d)

or_true : (b : Bool) → (b || true) ≡ true
or_true true = refl
or_true false = refl

or_false : (b : Bool) → (b || false) ≡ b
or_false true = refl
or_false false = refl

pub if_not : (b : Bool) → not b ≡ true → b ≡ false
if_not true is = absurd cc
if_not false is = refl

-- what holds below an index and at it
pub one_further : (p : ℕ → Bool) (n : ℕ) → ((i : ℕ) → i < n → p i ≡ true) → p n ≡ true → (i : ℕ) → i < n + 1 → p i ≡ true
one_further p n before here i within = by (cases_lt i n) where
  by : ((i < n) ⊎ (n ≤ i)) → p i ≡ true
  by (inl less) = before i less
  by (inr past) = ap p (let same : i ≡ n = omega (arith, past, within) in same) ∙ here

pub none_if : {A : Type 0} (o : Option A) → is_none o ≡ true → o ≡ None
none_if None is = refl
none_if (Some x) is = absurd cc

-- addresses that are the same are equal
same_address : (a b : IpAddress) → is_same a b ≡ true → a ≡ b
same_address (Ipv4 a) (Ipv4 b) is = ap (λ n. Ipv4 (record { bits = n })) (eqb-true a.bits b.bits is)
same_address (Ipv4 a) (Ipv6 b) is = absurd cc
same_address (Ipv6 a) (Ipv4 b) is = absurd cc
same_address (Ipv6 a) (Ipv6 b) is = ap (λ n. Ipv6 (record { bits = n })) (eqb-true a.bits b.bits is)

-- what is written down of a wait
record Written (end : ℤ) (wait : IpAddress × ℤ) (w : Waiting) : Type 0 where
  pub neighbor : w.neighbor ≡ wait.0
  pub until : w.until ≡ end
  pub ends : wait.1 ≡ end

written : (end : ℤ) (wait : IpAddress × ℤ) (w : Waiting) → is_written end wait w ≡ true → Written end wait w
written end wait w is =
    let parts = and_parts (is_same w.neighbor wait.0) (int_eq w.until end && int_eq wait.1 end) is in
    let rest = and_parts (int_eq w.until end) (int_eq wait.1 end) parts.1 in
    record {
      neighbor = same_address w.neighbor wait.0 parts.0;
      until = (Decides-int_eq w.until end).0 rest.0;
      ends = (Decides-int_eq wait.1 end).0 rest.1;
    }

-- a wait that goes on as it is written down
goes_on : (now : ℤ) (last : Option ℤ) (end : ℤ) (wait : IpAddress × ℤ) (w : Waiting) → is_gt (int_cmp end now) ≡ true → Written end wait w →
    waiting_after now last (Some wait) (Some w) ≡ Some w
goes_on now last end wait w later is = ap inside (ap (λ (t : ℤ). is_gt (int_cmp t now)) is.ends ∙ later) ∙ ap Some kept where
  inside : Bool → Option Waiting
  inside b = if b then Some (begun_or_before now last wait (Some w)) else None

  same : is_same w.neighbor wait.0 ≡ true
  same = ap (λ (a : IpAddress). is_same w.neighbor a) (sym is.neighbor) ∙ same_itself w.neighbor

  kept : begun_or_before now last wait (Some w) ≡ w
  kept = rw same (ap (λ (a : IpAddress). record w { neighbor = a; until = wait.1 }) (sym is.neighbor)
      ∙ ap (λ (t : ℤ). record w { until = t }) (is.ends ∙ sym is.until))

-- a look at a socket whose wait goes on
same_look : (now : ℤ) (i : ℕ) (plan : Plan) (end : ℤ) (wait : IpAddress × ℤ) (w : Waiting) → (get_or plan.watches i idle).waiting ≡ Some w →
    is_gt (int_cmp end now) ≡ true → Written end wait w → plan_after_look now i (Some wait) plan ≡ record plan { is_waiting = plan.is_waiting || true }
same_look now i plan end wait w at later is = ap looked goes ∙ (ap asks new ∙ ap sets watch_stays) where
  watch : Watch
  watch = get_or plan.watches i idle

  looked : Option Waiting → Plan
  looked o = record (with_watch i (record watch { waiting = o; unreachable = unreachable_after o watch.unreachable }) plan) {
    asked = if_asked (is_new o watch.waiting && may_ask now plan.asked) now plan.asked;
    discovery_turn = turn_if (is_new o watch.waiting && may_ask now plan.asked) (length plan.watches) plan.discovery_turn i;
    is_waiting = plan.is_waiting || is_some o;
  }

  goes : waiting_after now plan.asked (Some wait) watch.waiting ≡ Some w
  goes = ap (waiting_after now plan.asked (Some wait)) at ∙ goes_on now plan.asked end wait w later is

  asks : Bool → Plan
  asks b = record (with_watch i (record watch { waiting = Some w }) plan) {
    asked = if_asked (b && may_ask now plan.asked) now plan.asked;
    discovery_turn = turn_if (b && may_ask now plan.asked) (length plan.watches) plan.discovery_turn i;
    is_waiting = plan.is_waiting || true;
  }

  new : is_new (Some w) watch.waiting ≡ false
  new = ap (is_new (Some w)) at ∙ ap not (same_itself w.neighbor)

  sets : List Watch → Plan
  sets ws = record plan { watches = ws; is_waiting = plan.is_waiting || true }

  watch_stays : slice_set plan.watches i (record watch { waiting = Some w }) ≡ plan.watches
  watch_stays = ap (λ (o : Option Waiting). slice_set plan.watches i (record watch { waiting = o })) (sym at) ∙ same_set plan.watches i idle

-- whether one of the first n sockets waits, as it is written down
abbrev some_wait : ℕ → List Watch → Bool
some_wait zero watches = false
some_wait (suc n) watches = some_wait n watches || waits_at watches n

one_waits : (n i : ℕ) (watches : List Watch) → i < n → waits_at watches i ≡ true → some_wait n watches ≡ true
one_waits zero i watches within waits = absurd (omega (arith, within))
one_waits (suc n) i watches within waits =
    by (cases_lt i n) (λ less. one_waits n i watches less waits) (λ past. let last : n ≡ i = omega (arith, past, within) in ap (waits_at watches) last ∙ waits) where
      by : ((i < n) ⊎ (n ≤ i)) → (i < n → some_wait n watches ≡ true) → (n ≤ i → waits_at watches n ≡ true) →
          (some_wait n watches || waits_at watches n) ≡ true
      by (inl less) before here = ap (λ b. b || waits_at watches n) (before less)
      by (inr past) before here = ap (λ b. some_wait n watches || b) (here past) ∙ or_true (some_wait n watches)

-- one that waits is there
is_there : (watches : List Watch) (i : ℕ) → waits_at watches i ≡ true → i < length watches
is_there watches i waits = by (cases_lt i (length watches)) where
  by : ((i < length watches) ⊎ (length watches ≤ i)) → i < length watches
  by (inl less) = less
  by (inr past) = absurd (let never : false ≡ true = (ap (λ (w : Watch). is_some w.waiting) (sym (past_get watches i idle past)) ∙ waits) in cc)

module _ {L : Type 0} where
  -- with another word on whether some socket waits
  abbrev flagged : Bool → Planned L → Planned L
  flagged b r = record r { plan = record r.plan { is_waiting = b } }

  module _ (now end : ℤ) (later : is_gt (int_cmp end now) ≡ true) (r : Planned L) where
    abbrev Settled : ℕ → Type 0
    Settled i = is_settled now end r i ≡ true

    -- a look
    look_settled : (i : ℕ) (b : Bool) → Settled i → after_look_at now i (flagged b r) ≡ flagged (b || waits_at r.plan.watches i) r
    look_settled i b = by (wait_of r.sockets i) (watch_at i r).waiting refl refl where
      by : (wait : Wait) (w : Option Waiting) → wait_of r.sockets i ≡ wait → (watch_at i r).waiting ≡ w → is_settled_as now end r i wait w ≡ true →
          after_look_at now i (flagged b r) ≡ flagged (b || waits_at r.plan.watches i) r
      by None None none at is =
          look_idle now i (flagged b r) none (record { waiting = at; unreachable = none_if (watch_at i r).unreachable is })
          ∙ ap (λ (c : Bool). flagged c r) (sym (ap (λ (o : Option Waiting). b || is_some o) at ∙ or_false b))
      by None (Some w) none at is = absurd cc
      by (Some wait) None waits at is = absurd cc
      by (Some wait) (Some w) waits at is =
          ap (λ (x : Wait). record r { plan = plan_after_look now i x (record r.plan { is_waiting = b }) }) waits
          ∙ (ap (λ (p : Plan). record r { plan = p })
          (same_look now i (record r.plan { is_waiting = b }) end wait w at later (written end wait w (and_parts _ _ is).0))
          ∙ ap (λ (c : Bool). flagged c r) (sym (ap (λ (o : Option Waiting). b || is_some o) at)))

    look_all : (n : ℕ) → ((i : ℕ) → i < n → Settled i) →
        each_of (after_look_at now) n (flagged false r) ≡ flagged (some_wait n r.plan.watches) r
    look_all zero all = refl
    look_all (suc n) all = ap (after_look_at now n) (look_all n (λ i h. all i (omega (arith, h))))
        ∙ look_settled n (some_wait n r.plan.watches) (all n (omega arith))

    -- the instant
    until_end : (i : ℕ) → Settled i → (e : Option ℤ) (b : Bool) → e ≡ (if b then Some end else None) →
        earliest_with (watch_at i r).waiting e ≡ (if b || waits_at r.plan.watches i then Some end else None)
    until_end i is e b so_far = by (wait_of r.sockets i) (watch_at i r).waiting refl refl is where
      by : (wait : Wait) (w : Option Waiting) → wait_of r.sockets i ≡ wait → (watch_at i r).waiting ≡ w → is_settled_as now end r i wait w ≡ true →
          earliest_with (watch_at i r).waiting e ≡ (if b || waits_at r.plan.watches i then Some end else None)
      by None None none at is = rw at (so_far ∙ ap (λ (c : Bool). if c then Some end else None) (sym (or_false b)))
      by None (Some w) none at is = absurd cc
      by (Some wait) None waits at is = absurd cc
      by (Some wait) (Some w) waits at is = rw at (ap (λ (o : Option ℤ). Some (earlier_of o w.until)) so_far ∙ (two b
          ∙ ap (λ (c : Bool). if c then Some end else None) (sym (or_true b)))) where
            ends : w.until ≡ end
            ends = (written end wait w (and_parts _ _ is).0).until

            least : (c : Bool) → (if c then end else w.until) ≡ end
            least true = refl
            least false = ends

            two : (c : Bool) → Some (earlier_of (if c then Some end else None) w.until) ≡ Some end
            two true = ap Some (least (is_le (int_cmp end w.until)))
            two false = ap Some ends

    all_until_end : (n : ℕ) → ((i : ℕ) → i < n → Settled i) →
        earliest_end n r.plan.watches ≡ (if some_wait n r.plan.watches then Some end else None)
    all_until_end zero all = refl
    all_until_end (suc n) all = until_end n (all n (omega arith)) (earliest_end n r.plan.watches) (some_wait n r.plan.watches)
        (all_until_end n (λ i h. all i (omega (arith, h))))

    -- the alignment
    wait_there : (socket : Option (SocketOf L)) (wait : Wait) (x : IpAddress × ℤ) → option_and_then (λ it. wait) socket ≡ Some x → wait ≡ Some x
    wait_there None wait x is = absurd cc
    wait_there (Some socket) wait x is = is

    align_settled : (i : ℕ) → Settled i → after_alignment_at end i r ≡ r
    align_settled i = by (wait_of r.sockets i) (watch_at i r).waiting refl refl where
      by : (wait : Wait) (w : Option Waiting) → wait_of r.sockets i ≡ wait → (watch_at i r).waiting ≡ w → is_settled_as now end r i wait w ≡ true →
          if_waiting end i r (watch_at i r).waiting ≡ r
      by None None none at is = rw at refl
      by None (Some w) none at is = absurd cc
      by (Some wait) None waits at is = absurd cc
      by (Some wait) (Some w) waits at is = rw at (ap both watches_stay ∙ ap with_waits waits_stay) where
        is_so : Written end wait w
        is_so = written end wait w (and_parts _ _ is).0

        both : List Watch → Planned L
        both ws = record { plan = record r.plan { watches = ws }; sockets = with_wait r.sockets i (Some (w.neighbor, end)) }

        watches_stay : slice_set r.plan.watches i (record (watch_at i r) { waiting = Some (record w { until = end }) }) ≡ r.plan.watches
        watches_stay = ap (λ (o : Option Waiting). slice_set r.plan.watches i (record (watch_at i r) { waiting = o }))
            (ap (λ (t : ℤ). Some (record w { until = t })) (sym is_so.until) ∙ sym at) ∙ same_set r.plan.watches i idle

        with_waits : List Wait → Planned L
        with_waits ws = record r { sockets = record r.sockets { waits = ws } }

        waits_stay : slice_set r.sockets.waits i (Some (w.neighbor, end)) ≡ r.sockets.waits
        waits_stay = ap (λ (a : IpAddress). slice_set r.sockets.waits i (Some (a, end))) is_so.neighbor
            ∙ (ap (λ (t : ℤ). slice_set r.sockets.waits i (Some (wait.0, t))) (sym is_so.ends)
            ∙ (ap (λ (x : Wait). slice_set r.sockets.waits i x) (sym (wait_there (socket_at r.sockets i) (wait_at r.sockets i) wait waits))
            ∙ same_set r.sockets.waits i None))

    -- the patience
    keep_settled : (i : ℕ) → Settled i → after_patience_at now i r ≡ r
    keep_settled i = by (wait_of r.sockets i) (watch_at i r).waiting refl refl where
      by : (wait : Wait) (w : Option Waiting) → wait_of r.sockets i ≡ wait → (watch_at i r).waiting ≡ w → is_settled_as now end r i wait w ≡ true →
          if_given_up i now r (if is_some (wait_of r.sockets i) then (watch_at i r).waiting else None) ≡ r
      by None None none at is = rw none refl
      by None (Some w) none at is = absurd cc
      by (Some wait) None waits at is = absurd cc
      by (Some wait) (Some w) waits at is = rw (waits, at) (rw kept refl) where
        kept : is_given_up r.plan.patience now (must_go now i r w) (watch_at i r).unreachable w ≡ false
        kept = if_not _ (and_parts (is_written end wait w) _ is).1

    pub settled_stay : (n i : ℕ) → n ≡ length r.plan.watches → r.plan.is_waiting ≡ true → ((i : ℕ) → i < n → Settled i) →
        waits_at r.plan.watches i ≡ true → with_waits_ended now (after_look now r) ≡ r
    settled_stay n i count is_waiting all waits = ap (with_waits_ended now) looked ∙ (ap ended is_waiting ∙ (ap (after_patience now) aligned ∙ patient)) where
      within : i < n
      within = let there = is_there r.plan.watches i waits in omega (arith, count, there)

      some : some_wait (length r.plan.watches) r.plan.watches ≡ true
      some = ap (λ (k : ℕ). some_wait k r.plan.watches) (sym count) ∙ one_waits n i r.plan.watches within waits

      all_here : (k : ℕ) → k < length r.plan.watches → Settled k
      all_here k h = all k (omega (arith, count, h))

      looked : after_look now r ≡ r
      looked = look_all (length r.plan.watches) all_here ∙ ap (λ (b : Bool). flagged b r) (some ∙ sym is_waiting)

      ended : Bool → Planned L
      ended b = if b then after_patience now (after_alignment r) else r

      aligned : after_alignment r ≡ r
      aligned = ap (λ (e : Option ℤ). after_alignment_to e r)
          (all_until_end (length r.plan.watches) all_here ∙ ap (λ (b : Bool). if b then Some end else None) some)
          ∙ passed (after_alignment_at end) r r 0 (length r.plan.watches) (omega arith) refl (λ k h less. align_settled k (all_here k less))

      patient : after_patience now r ≡ r
      patient = passed (after_patience_at now) r r 0 (length r.plan.watches) (omega arith) refl (λ k h less. keep_settled k (all_here k less))

  -- where no wait is over
  module _ (now : ℤ) (r : Planned L) (none : (i : ℕ) → i < length r.plan.watches → ends_at now r.plan.watches i ≡ false) where
    none_at_all : (i : ℕ) → ends_at now r.plan.watches i ≡ false
    none_at_all i = by (cases_lt i (length r.plan.watches)) where
      by : ((i < length r.plan.watches) ⊎ (length r.plan.watches ≤ i)) → ends_at now r.plan.watches i ≡ false
      by (inl less) = none i less
      by (inr past) = ap (λ (w : Watch). is_some_over now w.waiting) (past_get r.plan.watches i idle past)

    none_asks : (i : ℕ) → asks_at now r i ≡ false
    none_asks i = by (is_some (wait_of r.sockets i)) (watch_at i r).waiting (none_at_all i) where
      by : (b : Bool) (w : Option Waiting) → is_some_over now w ≡ false → if_asking now r i (if b then w else None) ≡ false
      by true None is = refl
      by true (Some w) is = rw is refl
      by false w is = refl

    -- where none asks, nobody comes before who does
    none_before : (next i : ℕ) → nat_lt next (length r.plan.watches) ≡ false → comes_before now next i r ≡ false
    none_before next i behind = by (is_free now (wait_of r.sockets i)) (nat_lt i next) where
      by : (a b : Bool) → (a && (b && (nat_lt next (length r.plan.watches) && has_packets (socket_at r.sockets i)))) ≡ false
      by false b = refl
      by true false = refl
      by true true = rw behind refl

    none_held : (next i : ℕ) → nat_lt next (length r.plan.watches) ≡ false → after_hold_at now next i r ≡ r
    none_held next i behind = by (is_some (wait_of r.sockets i)) (watch_at i r).waiting (none_at_all i) where
      by : (b : Bool) (w : Option Waiting) → is_some_over now w ≡ false → if_held now next i r (if b then w else None) ≡ r
      by true None is = rw (none_before next i behind) refl
      by true (Some w) is = rw is refl
      by false w is = rw (none_before next i behind) refl

    not_found : (from k : ℕ) → from + k ≤ first_from (asks_at now r) from k
    not_found from zero = omega arith
    not_found from (suc k) = rw (none_asks from) (let later = not_found (suc from) k in omega (arith, later))

    pub no_turns : after_taking_turns now r ≡ r
    no_turns = rw (passed (after_hold_at now next) r r 0 n (omega arith) refl (λ i h less. none_held next i behind)) (rw behind refl) where
      n : ℕ
      n = length r.plan.watches

      next : ℕ
      next = next_to_ask now r

      behind : nat_lt next n ≡ false
      behind = le-ltb next n past where
        past : n ≤ next
        past = by (nat_lt (first_from (asks_at now r) r.plan.discovery_turn (n - r.plan.discovery_turn)) n) where
          by : (b : Bool) → n ≤ (
              if b then first_from (asks_at now r) r.plan.discovery_turn (n - r.plan.discovery_turn) else first_from (asks_at now r) 0 n)
          by true = let late = not_found r.plan.discovery_turn (n - r.plan.discovery_turn) in omega (arith, late)
          by false = let late = not_found 0 n in omega (arith, late)
