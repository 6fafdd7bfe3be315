-- Waits go on.
use Rattle.std.specs.Prelude.{ℕ, zero, suc, ◌≡◌, ◌≢◌, ◌<◌, ◌≤◌, ◌==◌, ◌⊎◌, ◌&&◌, ◌||◌, not, nat_lt, Bool, true, false, is_some}
use Rattle.std.specs.Prelude.{ℤ, pos, ◌+ℤ◌, List, [], ◌∷◌, length, get_or, slice_get, slice_set, Option, Some, None, refl, if◌then◌else◌}
use Rattle.std.specs.Borrow.{Bor}
use Rattle.std.specs.Option.{option_and_then, option_map}
use Rattle.std.specs.Ordering.{int_cmp, is_gt, is_le}
use Rattle.std.specs.declared.cmp.Ordering.{Ordering}
use Rattle.std.specs.declared.cmp.Ordering.TheVariants.{Less, Equal, Greater}
use Rattle.std.proofs.Common.{inl, inr, sym, ap, ◌∙◌, subst, arith}
use Rattle.std.proofs.lemmas.Bool.{cases_eq, and_parts, eq-eqb, lt-ltb, or_left, or_right}
use Rattle.net_base.specs.Time.{silence_from}
use Rattle.ip_address.specs.declared.ip.IpAddress.{IpAddress}
use Rattle.ip_address.specs.declared.ip.IpAddress.TheVariants.{Ipv4, Ipv6}
use Rattle.sockets.specs.Source.{is_same}
use Rattle.sockets.specs.declared.socket.SocketOf.{SocketOf}
use Rattle.socket_set.specs.SocketMeta.{Wait}
use Rattle.socket_set.specs.SocketSet.{socket_at, wait_at, wait_of, with_wait}
use Rattle.egress_schedule.specs.declared.watch.Waiting.{Waiting}
use Rattle.egress_schedule.specs.declared.watch.Watch.{Watch}
use Rattle.egress_schedule.specs.LongPackets.{after_setting_aside, after_setting_aside_at, has_long}
use Rattle.egress_schedule.specs.Asides.{after_putting_all_back, after_putting_back_at, if_set_aside, is_over, nobody, own_wait, until_unasked, waiting_unasked, with_wait_aside}
use Rattle.egress_schedule.specs.LongPackets.{is_long, may_have_long, next_long, some_may_have_long}
use Rattle.egress_schedule.specs.Patience.{after_alignment, after_alignment_at, after_alignment_to, after_giving_up, after_look, after_look_at}
use Rattle.egress_schedule.specs.Patience.{after_patience, after_patience_at, earliest_end, if_given_up, if_waiting, is_at_end, is_given_up, must_go}
use Rattle.egress_schedule.specs.Patience.{unreachable_after, waiting_after, watch_after_giving_up, without_first}
use Rattle.egress_schedule.specs.Plan.{Planned, each_of, first_from, idle, turn_after, waiting_at, watch_at, with_watch}
use Rattle.egress_schedule.specs.Passing.{after_bringing, after_passing, goes_first, is_first_for, may_pass, with_first_for, without_packet_for}
use Rattle.egress_schedule.specs.Queues.{has_others}
use Rattle.egress_schedule.specs.Rounds.{after_round, with_packets_brought, with_packets_passing, with_waits_put_back, with_long_set_aside}
use Rattle.egress_schedule.specs.Rounds.{with_turns_taken, with_waits_ended}
use Rattle.egress_schedule.specs.Runs.{IsSameAs, MayGiveUp, Asked, IsGivenUp, IsPassed, IsWaiting, Passed, StillWaits, Unasked, ended, prepared}
use Rattle.egress_schedule.specs.Turns.{after_hold_at, after_taking_turns, comes_before, first_asked, if_held, is_held, next_to_ask, plan_asked}
use Rattle.egress_schedule.specs.Turns.{waiting_asked, with_wait_longer}
use Rattle.egress_schedule.specs.Laws.{WaitsGoOn}
use Rattle.egress_schedule.proofs.Apart.{lasts_longer}
use Rattle.egress_schedule.proofs.Ends.{here_set, kept, len_set, other_get, other_set}
use Rattle.egress_schedule.proofs.First.{below}
use Rattle.egress_schedule.proofs.Passes.{nobody_stays, passing_keeps}
use Rattle.egress_schedule.proofs.Seen.{Seen, brought_in, brought_seen, change, change_watch, fold_seen, if_some_waits, passed_in, passed_seen, seen, wait_in, waiting_in}

-- an address is the same as itself
pub same_itself : (a : IpAddress) → is_same a a ≡ true
same_itself (Ipv4 a) = eq-eqb a.bits a.bits refl
same_itself (Ipv6 a) = eq-eqb a.bits a.bits refl

-- what isn't over ends later
pub later : (a b : ℤ) → is_le (int_cmp a b) ≡ false → is_gt (int_cmp a b) ≡ true
later a b isnt = by (int_cmp a b) isnt where
  by : (o : Ordering) → is_le o ≡ false → is_gt o ≡ true
  by Less e = absurd cc
  by Equal e = absurd cc
  by Greater e = refl

get_set : {A : Type 0} (xs : List A) (i : ℕ) (x y : A) → slice_get xs i ≡ Some y → slice_get (slice_set xs i x) i ≡ Some x
get_set [] i x y is = absurd cc
get_set (z ∷ zs) zero x y is = refl
get_set (z ∷ zs) (suc i) x y is = get_set zs i x y is

-- another wait of a socket that is there
new_wait : {L : Type 0} (socket : Option (SocketOf L)) (old new : Wait) (x : IpAddress × ℤ) → option_and_then (λ it. old) socket ≡ Some x →
    option_and_then (λ it. new) socket ≡ new
new_wait None old new x is = absurd cc
new_wait (Some socket) old new x is = refl

-- the same, of one of which it is known that it is there
own_new : {L : Type 0} (socket : Option (SocketOf L)) (new : Wait) → is_some socket ≡ true → option_and_then (λ it. new) socket ≡ new
own_new None new is = absurd cc
own_new (Some socket) new is = refl

-- who waits is there
is_there_by : {L : Type 0} (socket : Option (SocketOf L)) (wait : Wait) (x : IpAddress × ℤ) → option_and_then (λ it. wait) socket ≡ Some x →
    is_some socket ≡ true
is_there_by None wait x is = absurd cc
is_there_by (Some socket) wait x is = refl

abbrev L : Type 0
L = Bor (Unit {0})

-- what is known of a socket after the interface polled
record Start : Type 0 where
  pub socket : Option (SocketOf L)
  pub patience : ℕ
  pub unreachable : Option IpAddress

-- and stays
abbrev IsSame : Start → Seen → Type 0
IsSame s0 x = (x.socket ≡ s0.socket) × (x.patience ≡ s0.patience) × (x.watch.unreachable ≡ s0.unreachable)

either : (a b : Bool) → (a || b) ≡ true → (a ≡ true) ⊎ (b ≡ true)
either true b is = inl refl
either false b is = inr is

-- why a packet is given up
why : (patience : ℕ) (now : ℤ) (must : Bool) (u : Option IpAddress) (w : Waiting) → is_given_up patience now must u w ≡ true →
    (is_le (int_cmp (w.since +ℤ pos patience) now) ≡ true) ⊎ ((must ≡ true) ⊎ IsSameAs w.neighbor u)
why patience now must u w is = by u is where
  at_end : is_at_end patience now must w ≡ true → (is_le (int_cmp (w.since +ℤ pos patience) now) ≡ true) ⊎ (must ≡ true)
  at_end ends = either (is_le (int_cmp (w.since +ℤ pos patience) now)) must
      (and_parts (not (patience == 0)) (is_le (int_cmp (w.since +ℤ pos patience) now) || must) ends).1

  one : (o : Option IpAddress) → ((is_le (int_cmp (w.since +ℤ pos patience) now) ≡ true) ⊎ (must ≡ true)) →
      (is_le (int_cmp (w.since +ℤ pos patience) now) ≡ true) ⊎ ((must ≡ true) ⊎ IsSameAs w.neighbor o)
  one o (inl over) = inl over
  one o (inr has) = inr (inl has)

  by : (o : Option IpAddress) → is_given_up patience now must o w ≡ true →
      (is_le (int_cmp (w.since +ℤ pos patience) now) ≡ true) ⊎ ((must ≡ true) ⊎ IsSameAs w.neighbor o)
  by None ends = one None (at_end ends)
  by (Some a) ends = two (either (is_at_end patience now must w) (is_same a w.neighbor) ends) where
    two : ((is_at_end patience now must w ≡ true) ⊎ (is_same a w.neighbor ≡ true)) →
        (is_le (int_cmp (w.since +ℤ pos patience) now) ≡ true) ⊎ ((must ≡ true) ⊎ (is_same a w.neighbor ≡ true))
    two (inl e) = one (Some a) (at_end e)
    two (inr same) = inr (inr same)

module _ (now since : ℤ) (mtu : ℕ) (d : IpAddress) where
  -- it waits for the neighbour, by its own wait
  pub record Own (i : ℕ) (x : Seen) : Type 0 where
    pub w : Waiting
    pub is_noted : x.watch.waiting ≡ Some w
    pub for_whom : w.neighbor ≡ d
    pub since_when : w.since ≡ since
    pub is_own : x.watch.set_aside ≡ None
    pub is_set : wait_in x ≡ Some (d, w.until)
    pub is_watched : i < x.watches
    pub has_wait : i < x.waits

  -- it does, and isn't asked
  pub record Aside (i : ℕ) (x : Seen) : Type 0 where
    pub w : Waiting
    pub is_noted : x.watch.waiting ≡ Some w
    pub for_whom : w.neighbor ≡ d
    pub since_when : w.since ≡ since
    pub is_aside : x.watch.set_aside ≡ Some (Some (d, w.until))
    pub is_on : is_over now w ≡ false
    pub is_long : is_long mtu x.socket ≡ true
    pub is_set : wait_in x ≡ Some (nobody, silence_from now)
    pub expects : x.may_have_long ≡ true
    pub is_watched : i < x.watches
    pub has_wait : i < x.waits

  abbrev pub Kept : ℕ → Seen → Type 0
  Kept i x = Own i x ⊎ Aside i x

  pub aside_leaves : (next i j : ℕ) (r : Planned L) → i ≢ j → seen i (after_setting_aside_at mtu now next j r) ≡ seen i r
  aside_leaves next i j r other = by (has_long mtu r.sockets j && not (j == next)) where
    by : (b : Bool) → seen i (if b then with_wait_aside now j r else r) ≡ seen i r
    by false = refl
    by true = change i j r _ _ other

  aside_here : (next i : ℕ) (r : Planned L) → Own i (seen i r) → r.plan.may_have_long ≡ true → Kept i (seen i (after_setting_aside_at mtu now next i r))
  aside_here next i r own may = by (has_long mtu r.sockets i && not (i == next)) refl where
    w' : Waiting
    w' = record own.w { until = until_unasked now own.w }

    unasked : Option Waiting
    unasked = waiting_unasked now (watch_at i r).waiting

    unasked_is : unasked ≡ Some w'
    unasked_is = ap (waiting_unasked now) own.is_noted

    new : Watch
    new = record (watch_at i r) { waiting = unasked; set_aside = Some (own_wait unasked (wait_of r.sockets i)) }

    here : get_or (slice_set r.plan.watches i new) i idle ≡ new
    here = here_set r.plan.watches i new idle own.is_watched

    own_is : own_wait unasked (wait_of r.sockets i) ≡ Some (d, w'.until)
    own_is = rw (unasked_is, own.is_set) (ap (λ (a : IpAddress). Some (a, w'.until)) own.for_whom)

    by : (b : Bool) → (has_long mtu r.sockets i && not (i == next)) ≡ b → Kept i (seen i (if b then with_wait_aside now i r else r))
    by false is = inl own
    by true is = inr (record {
      w = w';
      is_noted = ap (λ (x : Watch). x.waiting) here ∙ unasked_is;
      for_whom = own.for_whom;
      since_when = own.since_when;
      is_aside = ap (λ (x : Watch). x.set_aside) here ∙ ap (λ (o : Wait). Some o) own_is;
      is_on = lasts_longer now own.w;
      is_long = (and_parts (has_long mtu r.sockets i) (not (i == next)) is).0;
      is_set = new_wait (socket_at r.sockets i) (wait_at r.sockets i) _ (d, own.w.until) own.is_set
          ∙ here_set r.sockets.waits i (Some (nobody, silence_from now)) None own.has_wait;
      expects = may;
      is_watched = rw (len_set r.plan.watches i new) own.is_watched;
      has_wait = rw (len_set r.sockets.waits i (Some (nobody, silence_from now))) own.has_wait;
    })

  pub hold_leaves : (next i j : ℕ) (r : Planned L) → i ≢ j → seen i (after_hold_at now next j r) ≡ seen i r
  hold_leaves next i j r other = by (waiting_at j r) where
    none : (b : Bool) → seen i (if b then with_wait_aside now j r else r) ≡ seen i r
    none false = refl
    none true = change i j r _ _ other

    by : (o : Option Waiting) → seen i (if_held now next j r o) ≡ seen i r
    by None = none (comes_before now next j r)
    by (Some w) = two (is_held r.plan.patience now (must_go now j r w) (nat_lt j next) w) where
      two : (b : Bool) → seen i (if b then with_wait_longer now j w r else r) ≡ seen i r
      two false = refl
      two true = change i j r _ _ other

  hold_here : (next i : ℕ) (r : Planned L) → Kept i (seen i r) → Kept i (seen i (after_hold_at now next i r))
  hold_here next i r (inl own) = subst (λ (o : Option Waiting). Kept i (seen i (if_held now next i r o))) (sym at)
      (by (is_held r.plan.patience now (must_go now i r own.w) (nat_lt i next) own.w)) where
        at : waiting_at i r ≡ Some own.w
        at = rw own.is_set own.is_noted

        w' : Waiting
        w' = record own.w { until = silence_from now }

        new : Watch
        new = record (watch_at i r) { waiting = Some w' }

        here : get_or (slice_set r.plan.watches i new) i idle ≡ new
        here = here_set r.plan.watches i new idle own.is_watched

        by : (b : Bool) → Kept i (seen i (if b then with_wait_longer now i own.w r else r))
        by false = inl own
        by true = inl (record {
          w = w';
          is_noted = ap (λ (x : Watch). x.waiting) here;
          for_whom = own.for_whom;
          since_when = own.since_when;
          is_own = ap (λ (x : Watch). x.set_aside) here ∙ own.is_own;
          is_set = new_wait (socket_at r.sockets i) (wait_at r.sockets i) _ (d, own.w.until) own.is_set
              ∙ (here_set r.sockets.waits i (Some (own.w.neighbor, silence_from now)) None own.has_wait
              ∙ ap (λ (a : IpAddress). Some (a, silence_from now)) own.for_whom);
          is_watched = rw (len_set r.plan.watches i new) own.is_watched;
          has_wait = rw (len_set r.sockets.waits i (Some (own.w.neighbor, silence_from now))) own.has_wait;
        })
  hold_here next i r (inr aside) = subst (λ (o : Option Waiting). Kept i (seen i (if_held now next i r o))) (sym at) still where
    at : waiting_at i r ≡ Some aside.w
    at = rw aside.is_set aside.is_noted

    by : (b : Bool) → b ≡ false → Kept i (seen i (if b then with_wait_longer now i aside.w r else r))
    by false is = inr aside
    by true is = absurd cc

    not_held : is_held r.plan.patience now (must_go now i r aside.w) (nat_lt i next) aside.w ≡ false
    not_held = rw aside.is_on refl

    still : Kept i (seen i (if_held now next i r (Some aside.w)))
    still = by (is_held r.plan.patience now (must_go now i r aside.w) (nat_lt i next) aside.w) not_held

  -- it does where a socket asks
  abbrev asked_at : ℕ → Planned L → ℕ → Planned L
  asked_at turn r k = record r {
    plan = record (with_watch k (record (watch_at k r) { waiting = waiting_asked now (watch_at k r).waiting }) r.plan) {
      asked = Some now;
      discovery_turn = turn;
    };
  }

  asked_here : (turn i : ℕ) (r : Planned L) → Kept i (seen i r) → Kept i (seen i (asked_at turn r i))
  asked_here turn i r (inl own) = inl (record {
    w = record own.w { asked = first_asked now own.w.asked };
    is_noted = ap (λ (x : Watch). x.waiting) (here_set r.plan.watches i _ idle own.is_watched) ∙ ap (waiting_asked now) own.is_noted;
    for_whom = own.for_whom;
    since_when = own.since_when;
    is_own = ap (λ (x : Watch). x.set_aside) (here_set r.plan.watches i _ idle own.is_watched) ∙ own.is_own;
    is_set = own.is_set;
    is_watched = rw (len_set r.plan.watches i (record (watch_at i r) { waiting = waiting_asked now (watch_at i r).waiting })) own.is_watched;
    has_wait = own.has_wait;
  })
  asked_here turn i r (inr aside) = inr (record {
    w = record aside.w { asked = first_asked now aside.w.asked };
    is_noted = ap (λ (x : Watch). x.waiting) (here_set r.plan.watches i _ idle aside.is_watched) ∙ ap (waiting_asked now) aside.is_noted;
    for_whom = aside.for_whom;
    since_when = aside.since_when;
    is_aside = ap (λ (x : Watch). x.set_aside) (here_set r.plan.watches i _ idle aside.is_watched) ∙ aside.is_aside;
    is_on = aside.is_on;
    is_long = aside.is_long;
    is_set = aside.is_set;
    expects = aside.expects;
    is_watched = rw (len_set r.plan.watches i (record (watch_at i r) { waiting = waiting_asked now (watch_at i r).waiting })) aside.is_watched;
    has_wait = aside.has_wait;
  })

  asked_kept : (turn next i : ℕ) (r : Planned L) → Kept i (seen i r) →
      Kept i (seen i (record r { plan = record (plan_asked now next r.plan) { discovery_turn = turn } }))
  asked_kept turn next i r holds = by (nat_lt next (length r.plan.watches)) where
    new : Watch
    new = record (watch_at next r) { waiting = waiting_asked now (watch_at next r).waiting }

    two : ((i ≡ next) ⊎ (i ≡ next → ⊥)) → Kept i (seen i (asked_at turn r next))
    two (inl same) = subst (λ (k : ℕ). Kept i (seen i (asked_at turn r k))) same (asked_here turn i r holds)
    two (inr other) = subst (Kept i) (sym (change_watch i next r new other)) holds

    by : (b : Bool) →
        Kept i (seen i (record r { plan = record (if b then record (with_watch next new r.plan) { asked = Some now } else r.plan) { discovery_turn = turn } }))
    by false = holds
    by true = two (cases_eq i next)

  pub turns_kept : (i : ℕ) (r : Planned L) → Kept i (seen i r) → i < length r.plan.watches → Kept i (seen i (with_turns_taken now r))
  turns_kept i r holds there = by r.plan.is_waiting where
    next : ℕ
    next = next_to_ask now r

    held : Planned L
    held = each_of (after_hold_at now next) (length r.plan.watches) r

    by : (b : Bool) → Kept i (seen i (if b then after_taking_turns now r else r))
    by false = holds
    by true = asked_kept (turn_after (length r.plan.watches) r.plan.discovery_turn next) next i held
        ((fold_seen (Kept i) (Kept i) (after_hold_at now next) i (hold_leaves next i) (hold_here next i) (length r.plan.watches) r holds).1 there)

  -- where a socket has a long packet, one is expected
  expected : (i : ℕ) (r : Planned L) → i < length r.plan.watches → is_long mtu (socket_at r.sockets i) ≡ true → some_may_have_long mtu r ≡ true
  expected i r there long =
      let found : first_from (may_have_long mtu r.sockets) 0 (length r.plan.watches) ≤ i =
      below (may_have_long mtu r.sockets) 0 (length r.plan.watches) i (omega arith) (omega (arith, there))
      (or_left (is_long mtu (socket_at r.sockets i)) (has_others (socket_at r.sockets i)) long) in
      lt-ltb (first_from (may_have_long mtu r.sockets) 0 (length r.plan.watches)) (length r.plan.watches) (omega (arith, found, there))

  -- it does where long packets are set aside
  pub aside_kept : (left : Bool) (i : ℕ) (r : Planned L) → Own i (seen i r) → Kept i (seen i (with_long_set_aside mtu now left r))
  aside_kept left i r own = by r.plan.may_have_long refl where
    n : ℕ
    n = length r.plan.watches

    next : ℕ
    next = next_long mtu left r

    P : Seen → Type 0
    P x = Own i x × (x.may_have_long ≡ true) × (x.socket ≡ socket_at r.sockets i)

    Q : Seen → Type 0
    Q x = Kept i x × (x.socket ≡ socket_at r.sockets i)

    step : (s : Planned L) → P (seen i s) → Q (seen i (after_setting_aside_at mtu now next i s))
    step s holds = (aside_here next i s holds.0 holds.1, same (has_long mtu s.sockets i && not (i == next))) where
      same : (b : Bool) → socket_at (if b then with_wait_aside now i s else s).sockets i ≡ socket_at r.sockets i
      same false = holds.2
      same true = holds.2

    last : Planned L
    last = each_of (after_setting_aside_at mtu now next) n r

    flagged : Kept i (seen i last) → socket_at last.sockets i ≡ socket_at r.sockets i → Kept i (seen i (after_setting_aside mtu now left r))
    flagged (inl kept) same = inl (record {
      w = kept.w;
      is_noted = kept.is_noted;
      for_whom = kept.for_whom;
      since_when = kept.since_when;
      is_own = kept.is_own;
      is_set = kept.is_set;
      is_watched = kept.is_watched;
      has_wait = kept.has_wait;
    })
    flagged (inr kept) same = inr (record {
      w = kept.w;
      is_noted = kept.is_noted;
      for_whom = kept.for_whom;
      since_when = kept.since_when;
      is_aside = kept.is_aside;
      is_on = kept.is_on;
      is_long = kept.is_long;
      is_set = kept.is_set;
      expects = expected i r own.is_watched (ap (is_long mtu) (sym same) ∙ kept.is_long);
      is_watched = kept.is_watched;
      has_wait = kept.has_wait;
    })

    by : (b : Bool) → r.plan.may_have_long ≡ b → Kept i (seen i (if b then after_setting_aside mtu now left r else r))
    by false is = inl own
    by true is = let all = (fold_seen P Q (after_setting_aside_at mtu now next) i (aside_leaves next i) step n r (own, is, refl)).1 own.is_watched in
        flagged all.0 all.1

  -- another packet passes it: its own wait is set aside
  record Passing (i : ℕ) (x : Seen) : Type 0 where
    pub w : Waiting
    pub is_noted : x.watch.waiting ≡ Some w
    pub for_whom : w.neighbor ≡ d
    pub since_when : w.since ≡ since
    pub is_aside : x.watch.set_aside ≡ Some (Some (d, w.until))
    pub is_on : is_over now w ≡ false
    pub is_free : wait_in x ≡ None
    pub is_watched : i < x.watches
    pub has_wait : i < x.waits

  -- what isn't yet is later
  still_on : (a b : ℤ) → is_gt (int_cmp a b) ≡ true → is_le (int_cmp a b) ≡ false
  still_on a b is = by (int_cmp a b) is where
    by : (o : Ordering) → is_gt o ≡ true → is_le o ≡ false
    by Less e = absurd cc
    by Equal e = absurd cc
    by Greater e = refl

  free_none : (socket : Option (SocketOf L)) (wait : Wait) → wait ≡ None → option_and_then (λ it. wait) socket ≡ None
  free_none None wait is = refl
  free_none (Some socket) wait is = is

  passed_by : (known : IpAddress → Bool) (i : ℕ) (x : Seen) → Kept i x → Kept i (passed_in known now x) ⊎ Passing i (passed_in known now x)
  passed_by known i x (inl own) = by (may_pass known now x.socket (wait_in x)) refl where
    y : Seen
    y = record x { watch = record x.watch { set_aside = Some (wait_in x) }; wait = None }

    ends : may_pass known now x.socket (wait_in x) ≡ true → is_gt (int_cmp own.w.until now) ≡ true
    ends is = (and_parts (is_gt (int_cmp own.w.until now)) (not (known d) && is_first_for known x.socket)
        (and_parts (not (is_same d nobody)) (is_gt (int_cmp own.w.until now) && (not (known d) && is_first_for known x.socket))
        (ap (λ (wait : Wait). may_pass known now x.socket wait) (sym own.is_set) ∙ is)).1).0

    by : (b : Bool) → may_pass known now x.socket (wait_in x) ≡ b → Kept i (if b then y else x) ⊎ Passing i (if b then y else x)
    by false is = inl (inl own)
    by true is = inr (record {
      w = own.w;
      is_noted = own.is_noted;
      for_whom = own.for_whom;
      since_when = own.since_when;
      is_aside = ap (λ (wait : Wait). Some wait) own.is_set;
      is_on = still_on own.w.until now (ends is);
      is_free = free_none x.socket None refl;
      is_watched = own.is_watched;
      has_wait = own.has_wait;
    })
  passed_by known i x (inr aside) =
      subst (λ (b : Bool). Kept i (if b then y else x) ⊎ Passing i (if b then y else x))
      (sym (nobody_stays known now (silence_from now) x.socket (wait_in x) aside.is_set)) (inl (inr aside)) where
        y : Seen
        y = record x { watch = record x.watch { set_aside = Some (wait_in x) }; wait = None }

  pass_kept : (known : IpAddress → Bool) (i : ℕ) (r : Planned L) → i < length r.plan.watches → i < length r.sockets.waits → Kept i (seen i r) →
      Kept i (seen i (with_packets_passing known now r))
      ⊎ (Passing i (seen i (with_packets_passing known now r)) × ((with_packets_passing known now r).plan.is_waiting ≡ true))
  pass_kept known i r there has_wait holds = by r.plan.is_waiting refl where
    end : Planned L
    end = with_packets_passing known now r

    still : end.plan.is_waiting ≡ r.plan.is_waiting
    still = passing_keeps known now (λ s. s.plan.is_waiting) (λ j s. refl) r

    with_waits : r.plan.is_waiting ≡ true → Kept i (seen i end) ⊎ Passing i (seen i end) →
        Kept i (seen i end) ⊎ (Passing i (seen i end) × (end.plan.is_waiting ≡ true))
    with_waits is (inl k) = inl k
    with_waits is (inr k) = inr (k, still ∙ is)

    by : (b : Bool) → r.plan.is_waiting ≡ b → Kept i (seen i end) ⊎ (Passing i (seen i end) × (end.plan.is_waiting ≡ true))
    by true is = with_waits is (subst (λ (x : Seen). Kept i x ⊎ Passing i x) (sym (passed_seen known now i r is there has_wait)) (passed_by known i (seen i r) holds))
    by false is = inl (subst (λ (b : Bool). Kept i (seen i (if b then after_passing known now r else r))) (sym is) holds)

  -- it still does where a packet comes forward
  pub bring_own : (known : IpAddress → Bool) (i : ℕ) (r : Planned L) → Own i (seen i r) → Own i (seen i (with_packets_brought known now r))
  bring_own known i r own = by r.plan.is_waiting refl where
    end : Planned L
    end = with_packets_brought known now r

    one : (p : IpAddress → Bool) (o : Option (SocketOf L)) (wait : Wait) →
        option_and_then (λ it. wait) (option_map (with_first_for p) o) ≡ option_and_then (λ it. wait) o
    one p None wait = refl
    one p (Some s) wait = refl

    two : (o : Option Waiting) → Own i (if_some_waits known now (seen i r) o)
    two None = own
    two (Some w) = record {
      w = own.w;
      is_noted = own.is_noted;
      for_whom = own.for_whom;
      since_when = own.since_when;
      is_own = own.is_own;
      is_set = one (goes_first known now w) (socket_at r.sockets i) (wait_at r.sockets i) ∙ own.is_set;
      is_watched = own.is_watched;
      has_wait = own.has_wait;
    }

    by : (b : Bool) → r.plan.is_waiting ≡ b → Own i (seen i end)
    by true is = subst (Own i) (sym (brought_seen known now i r is own.is_watched)) (two (waiting_in (seen i r)))
    by false is = subst (λ (b : Bool). Own i (seen i (if b then after_bringing known now r else r))) (sym is) own

  -- after the interface polled, and what was set aside is put back: it waits until later, by its own wait
  record Settled (s0 : Start) (i : ℕ) (x : Seen) : Type 0 where
    pub w : Waiting
    pub until : ℤ
    pub is_noted : x.watch.waiting ≡ Some w
    pub for_whom : w.neighbor ≡ d
    pub since_when : w.since ≡ since
    pub is_own : x.watch.set_aside ≡ None
    pub is_set : wait_in x ≡ Some (d, until)
    pub is_later : is_gt (int_cmp until now) ≡ true
    pub is_same_socket : IsSame s0 x
    pub is_watched : i < x.watches
    pub has_wait : i < x.waits

  -- before that, where it wasn't asked
  record Left (s0 : Start) (i : ℕ) (x : Seen) : Type 0 where
    pub w : Waiting
    pub is_noted : x.watch.waiting ≡ Some w
    pub for_whom : w.neighbor ≡ d
    pub since_when : w.since ≡ since
    pub is_aside : x.watch.set_aside ≡ Some (Some (d, w.until))
    pub is_on : is_over now w ≡ false
    pub is_there : is_some x.socket ≡ true
    pub is_same_socket : IsSame s0 x
    pub is_watched : i < x.watches
    pub has_wait : i < x.waits

  back_leaves : (i j : ℕ) (r : Planned L) → i ≢ j → seen i (after_putting_back_at j r) ≡ seen i r
  back_leaves i j r other = by (watch_at j r).set_aside where
    by : (o : Option Wait) → seen i (if_set_aside j r o) ≡ seen i r
    by None = refl
    by (Some wait) = change i j r _ wait other

  back_own : (s0 : Start) (i : ℕ) (r : Planned L) → Settled s0 i (seen i r) → Settled s0 i (seen i (after_putting_back_at i r))
  back_own s0 i r settled = subst (λ (o : Option Wait). Settled s0 i (seen i (if_set_aside i r o))) (sym settled.is_own) settled

  back_left : (s0 : Start) (i : ℕ) (r : Planned L) → Left s0 i (seen i r) → Settled s0 i (seen i (after_putting_back_at i r))
  back_left s0 i r left = subst (λ (o : Option Wait). Settled s0 i (seen i (if_set_aside i r o))) (sym left.is_aside) put where
    new : Watch
    new = record (watch_at i r) { set_aside = None }

    here : get_or (slice_set r.plan.watches i new) i idle ≡ new
    here = here_set r.plan.watches i new idle left.is_watched

    put : Settled s0 i (seen i (if_set_aside i r (Some (Some (d, left.w.until)))))
    put = record {
      w = left.w;
      until = left.w.until;
      is_noted = ap (λ (x : Watch). x.waiting) here ∙ left.is_noted;
      for_whom = left.for_whom;
      since_when = left.since_when;
      is_own = ap (λ (x : Watch). x.set_aside) here;
      is_set = own_new (socket_at r.sockets i) _ left.is_there
          ∙ here_set r.sockets.waits i (Some (d, left.w.until)) None left.has_wait;
      is_later = later left.w.until now left.is_on;
      is_same_socket = (
        left.is_same_socket.0,
        left.is_same_socket.1,
        ap (λ (x : Watch). x.unreachable) here ∙ left.is_same_socket.2,
      );
      is_watched = rw (len_set r.plan.watches i new) left.is_watched;
      has_wait = rw (len_set r.sockets.waits i (Some (d, left.w.until))) left.has_wait;
    }

  put_back_own : (s0 : Start) (i : ℕ) (r : Planned L) → Settled s0 i (seen i r) → Settled s0 i (seen i (with_waits_put_back r))
  put_back_own s0 i r settled = by (r.plan.may_have_long || r.plan.is_waiting) where
    by : (b : Bool) → Settled s0 i (seen i (if b then after_putting_all_back r else r))
    by false = settled
    by true = (fold_seen (Settled s0 i) (Settled s0 i) after_putting_back_at i (back_leaves i) (back_own s0 i)
        (length r.plan.watches) r settled).1 settled.is_watched

  put_back_left : (s0 : Start) (i : ℕ) (r : Planned L) → (r.plan.may_have_long || r.plan.is_waiting) ≡ true → Left s0 i (seen i r) →
      Settled s0 i (seen i (with_waits_put_back r))
  put_back_left s0 i r may left = subst (λ (b : Bool). Settled s0 i (seen i (if b then after_putting_all_back r else r)))
      (sym may)
      ((fold_seen (Left s0 i) (Settled s0 i) after_putting_back_at i (back_leaves i) (back_left s0 i) (length r.plan.watches) r left).1 left.is_watched)

  -- it is written down
  abbrev Noted : Start → ℕ → Seen → Type 0
  Noted s0 i x = Own i x × IsSame s0 x

  look_here : (s0 : Start) (i : ℕ) (r : Planned L) → Settled s0 i (seen i r) → Noted s0 i (seen i (after_look_at now i r))
  look_here s0 i r settled = (own, same_start) where
    w' : Waiting
    w' = record settled.w { neighbor = d; until = settled.until }

    same : is_same settled.w.neighbor d ≡ true
    same = ap (λ (a : IpAddress). is_same a d) settled.for_whom ∙ same_itself d

    waiting : Option Waiting
    waiting = waiting_after now r.plan.asked (wait_of r.sockets i) (watch_at i r).waiting

    waiting_is : waiting ≡ Some w'
    waiting_is = rw (settled.is_set, settled.is_noted) (rw settled.is_later (rw same refl))

    new : Watch
    new = record (watch_at i r) { waiting = waiting; unreachable = unreachable_after waiting (watch_at i r).unreachable }

    here : get_or (slice_set r.plan.watches i new) i idle ≡ new
    here = here_set r.plan.watches i new idle settled.is_watched

    same_start : IsSame s0 (seen i (after_look_at now i r))
    same_start = (
      settled.is_same_socket.0,
      settled.is_same_socket.1,
      ap (λ (x : Watch). x.unreachable) here
          ∙ (ap (λ (o : Option Waiting). unreachable_after o (watch_at i r).unreachable) waiting_is ∙ settled.is_same_socket.2),
    )

    own : Own i (seen i (after_look_at now i r))
    own = record {
      w = w';
      is_noted = ap (λ (x : Watch). x.waiting) here ∙ waiting_is;
      for_whom = refl;
      since_when = settled.since_when;
      is_own = ap (λ (x : Watch). x.set_aside) here ∙ settled.is_own;
      is_set = settled.is_set;
      is_watched = rw (len_set r.plan.watches i new) settled.is_watched;
      has_wait = settled.has_wait;
    }

  looked : (s0 : Start) (i : ℕ) (r : Planned L) → Settled s0 i (seen i r) → Noted s0 i (seen i (after_look now r))
  looked s0 i r settled =
      (fold_seen (Settled s0 i) (Noted s0 i) (after_look_at now) i (λ j s other. change_watch i j s _ other) (look_here s0 i) (length r.plan.watches)
      (record r { plan = record r.plan { is_waiting = false } }) (record {
        w = settled.w;
        until = settled.until;
        is_noted = settled.is_noted;
        for_whom = settled.for_whom;
        since_when = settled.since_when;
        is_own = settled.is_own;
        is_set = settled.is_set;
        is_later = settled.is_later;
        is_same_socket = settled.is_same_socket;
        is_watched = settled.is_watched;
        has_wait = settled.has_wait;
      })).1 settled.is_watched

  -- it asks again with the others
  align_leaves : (end : ℤ) (i j : ℕ) (r : Planned L) → i ≢ j → seen i (after_alignment_at end j r) ≡ seen i r
  align_leaves end i j r other = by (watch_at j r).waiting where
    by : (o : Option Waiting) → seen i (if_waiting end j r o) ≡ seen i r
    by None = refl
    by (Some w) = change i j r _ _ other

  align_here : (s0 : Start) (end : ℤ) (i : ℕ) (r : Planned L) → Noted s0 i (seen i r) → Noted s0 i (seen i (after_alignment_at end i r))
  align_here s0 end i r noted = subst (λ (o : Option Waiting). Noted s0 i (seen i (if_waiting end i r o))) (sym own.is_noted) (aligned, same_start) where
    own : Own i (seen i r)
    own = noted.0

    new : Watch
    new = record (watch_at i r) { waiting = Some (record own.w { until = end }) }

    here : get_or (slice_set r.plan.watches i new) i idle ≡ new
    here = here_set r.plan.watches i new idle own.is_watched

    same_start : IsSame s0 (seen i (if_waiting end i r (Some own.w)))
    same_start = (noted.1.0, noted.1.1, ap (λ (x : Watch). x.unreachable) here ∙ noted.1.2)

    aligned : Own i (seen i (if_waiting end i r (Some own.w)))
    aligned = record {
      w = record own.w { until = end };
      is_noted = ap (λ (x : Watch). x.waiting) here;
      for_whom = own.for_whom;
      since_when = own.since_when;
      is_own = ap (λ (x : Watch). x.set_aside) here ∙ own.is_own;
      is_set = new_wait (socket_at r.sockets i) (wait_at r.sockets i) _ (d, own.w.until) own.is_set
          ∙ (here_set r.sockets.waits i (Some (own.w.neighbor, end)) None own.has_wait ∙ ap (λ (a : IpAddress). Some (a, end)) own.for_whom);
      is_watched = rw (len_set r.plan.watches i new) own.is_watched;
      has_wait = rw (len_set r.sockets.waits i (Some (own.w.neighbor, end))) own.has_wait;
    }

  aligned_all : (s0 : Start) (i : ℕ) (r : Planned L) → Noted s0 i (seen i r) → Noted s0 i (seen i (after_alignment r))
  aligned_all s0 i r noted = by (earliest_end (length r.plan.watches) r.plan.watches) where
    by : (o : Option ℤ) → Noted s0 i (seen i (after_alignment_to o r))
    by None = noted
    by (Some end) = (fold_seen (Noted s0 i) (Noted s0 i) (after_alignment_at end) i (align_leaves end i) (align_here s0 end i)
        (length r.plan.watches) r noted).1
        noted.0.is_watched

  -- it still does so, or its packet is given up
  abbrev Reason : Start → Type 0
  Reason s0 = (is_le (int_cmp (since +ℤ pos s0.patience) now) ≡ true) ⊎ ((has_others s0.socket ≡ true) ⊎ IsSameAs d s0.unreachable)

  abbrev Last : Start → ℕ → Seen → Type 0
  Last s0 i x = Own i x ⊎ ((x.socket ≡ option_map (without_packet_for d) s0.socket) × Reason s0)

  give_leaves : (i j : ℕ) (r : Planned L) → i ≢ j → seen i (after_patience_at now j r) ≡ seen i r
  give_leaves i j r other = by (waiting_at j r) where
    by : (o : Option Waiting) → seen i (if_given_up j now r o) ≡ seen i r
    by None = refl
    by (Some w) = two (is_given_up r.plan.patience now (must_go now j r w) (watch_at j r).unreachable w) where
      new : Watch
      new = watch_after_giving_up now w.neighbor (watch_at j r)

      gone : (o : Option (SocketOf L)) →
          seen i (record { plan = with_watch j new r.plan; sockets = with_wait (without_first j w.neighbor r.sockets o) j None }) ≡ seen i r
      gone None = change i j r new None other
      gone (Some socket) = rw (
        other_set r.plan.watches j i new idle other,
        other_set r.sockets.waits j i None None other,
        other_get r.sockets.places j i (Some (without_packet_for w.neighbor socket)) other,
        len_set r.plan.watches j new,
        len_set r.sockets.waits j None,
      ) refl

      two : (b : Bool) → seen i (if b then after_giving_up now j w.neighbor r else r) ≡ seen i r
      two false = refl
      two true = gone (socket_at r.sockets j)

  give_here : (s0 : Start) (i : ℕ) (r : Planned L) → Noted s0 i (seen i r) → Last s0 i (seen i (after_patience_at now i r))
  give_here s0 i r noted = subst (λ (o : Option Waiting). Last s0 i (seen i (if_given_up i now r o))) (sym at)
      (by (is_given_up r.plan.patience now (must_go now i r own.w) (watch_at i r).unreachable own.w) refl) where
        own : Own i (seen i r)
        own = noted.0

        at : waiting_at i r ≡ Some own.w
        at = rw own.is_set own.is_noted

        gone : (o : Option (SocketOf L)) → socket_at r.sockets i ≡ o →
            socket_at (without_first i own.w.neighbor r.sockets o) i ≡ option_map (without_packet_for own.w.neighbor) o
        gone None is = is
        gone (Some socket) is = ap (option_and_then (λ place. place)) (set (slice_get r.sockets.places i) refl is) where
          set : (place : Option (Option (SocketOf L))) → slice_get r.sockets.places i ≡ place → option_and_then (λ p. p) place ≡ Some socket →
              slice_get (slice_set r.sockets.places i (Some (without_packet_for own.w.neighbor socket))) i
              ≡ Some (Some (without_packet_for own.w.neighbor socket))
          set None at is = absurd cc
          set (Some y) at is = get_set r.sockets.places i (Some (without_packet_for own.w.neighbor socket)) y at

        reason : ((is_le (int_cmp (own.w.since +ℤ pos r.plan.patience) now) ≡ true) ⊎
            ((must_go now i r own.w ≡ true) ⊎ IsSameAs own.w.neighbor (watch_at i r).unreachable)) →
            Reason s0
        reason (inl over) =
            inl (ap (λ (n : ℕ). is_le (int_cmp (since +ℤ pos n) now)) (sym noted.1.1) ∙
            (ap (λ (t : ℤ). is_le (int_cmp (t +ℤ pos r.plan.patience) now)) (sym own.since_when) ∙ over))
        reason (inr (inl must)) = inr (inl (ap has_others (sym noted.1.0) ∙ (and_parts (has_others (socket_at r.sockets i)) _ must).0))
        reason (inr (inr same)) = inr (inr (subst (λ (o : Option IpAddress). IsSameAs d o) noted.1.2
            (subst (λ (a : IpAddress). IsSameAs a (watch_at i r).unreachable) own.for_whom same)))

        by : (b : Bool) → is_given_up r.plan.patience now (must_go now i r own.w) (watch_at i r).unreachable own.w ≡ b →
            Last s0 i (seen i (if b then after_giving_up now i own.w.neighbor r else r))
        by false isnt = inl own
        by true is = inr (
          gone (socket_at r.sockets i) refl
              ∙ (ap (option_map (without_packet_for own.w.neighbor)) noted.1.0
              ∙ ap (λ (a : IpAddress). option_map (without_packet_for a) s0.socket) own.for_whom),
          reason (why r.plan.patience now (must_go now i r own.w) (watch_at i r).unreachable own.w is),
        )

  waits_end : (s0 : Start) (i : ℕ) (r : Planned L) → Noted s0 i (seen i r) → Last s0 i (seen i (with_waits_ended now r))
  waits_end s0 i r noted = by r.plan.is_waiting where
    aligned : Noted s0 i (seen i (after_alignment r))
    aligned = aligned_all s0 i r noted

    by : (b : Bool) → Last s0 i (seen i (if b then after_patience now (after_alignment r) else r))
    by false = inl noted.0
    by true = (fold_seen (Noted s0 i) (Last s0 i) (after_patience_at now) i (give_leaves i) (give_here s0 i) (length (after_alignment r).plan.watches)
        (after_alignment r) aligned).1 aligned.0.is_watched

  all_ended : (s0 : Start) (i : ℕ) (r : Planned L) → Settled s0 i (seen i (with_waits_put_back r)) → Last s0 i (seen i (after_round now r))
  all_ended s0 i r settled = waits_end s0 i (after_look now (with_waits_put_back r)) (looked s0 i (with_waits_put_back r) settled)

pub waits_go_on : WaitsGoOn
waits_go_on p r i d since else_than has_wait is waits = result (all_ended p.now since p.mtu d s0 i ready (settled kept waits)) where
  s0 : Start
  s0 = record {
    socket = socket_at p.polled i;
    patience = (prepared p r).plan.patience;
    unreachable = (watch_at i (prepared p r)).unreachable;
  }

  ready : Planned L
  ready = record { plan = (prepared p r).plan; sockets = p.polled }

  own : Own p.now since p.mtu d i (seen i r)
  own = record {
    w = is.waiting;
    is_noted = is.is_noted;
    for_whom = is.for_whom;
    since_when = is.since_when;
    is_own = is.is_own;
    is_set = is.is_set;
    is_watched = is.is_watched;
    has_wait = is.has_wait;
  }

  start : Planned L
  start = with_packets_brought p.known p.now r

  turned : Planned L
  turned = with_turns_taken p.now (with_long_set_aside p.mtu p.now p.is_piece_left start)

  aside : Kept p.now since p.mtu d i (seen i (with_long_set_aside p.mtu p.now p.is_piece_left start))
  aside = aside_kept p.now since p.mtu d p.is_piece_left i start (bring_own p.now since p.mtu d p.known i r own)

  there : (s : Planned L) → Kept p.now since p.mtu d i (seen i s) → i < length s.plan.watches
  there s (inl k) = k.is_watched
  there s (inr k) = k.is_watched

  waits_there : (s : Planned L) → Kept p.now since p.mtu d i (seen i s) → i < length s.sockets.waits
  waits_there s (inl k) = k.has_wait
  waits_there s (inr k) = k.has_wait

  taken : Kept p.now since p.mtu d i (seen i turned)
  taken = turns_kept p.now since p.mtu d i (with_long_set_aside p.mtu p.now p.is_piece_left start) aside
      (there (with_long_set_aside p.mtu p.now p.is_piece_left start) aside)

  kept : Kept p.now since p.mtu d i (seen i (prepared p r))
      ⊎ (Passing p.now since p.mtu d i (seen i (prepared p r)) × ((prepared p r).plan.is_waiting ≡ true))
  kept = pass_kept p.now since p.mtu d p.known i turned (there turned taken) (waits_there turned taken) taken

  first_or : Wait → IpAddress
  first_or None = nobody
  first_or (Some x) = x.0

  same_wait : (end other : ℤ) (o : Wait) → o ≡ Some (d, end) → o ≡ Some (nobody, other) → d ≡ nobody
  same_wait end other o e f = ap first_or (sym e ∙ f)

  put_back_passing : Passing p.now since p.mtu d i (seen i (prepared p r)) → (prepared p r).plan.is_waiting ≡ true →
      is_some (socket_at p.polled i) ≡ true → Settled p.now since p.mtu d s0 i (seen i (with_waits_put_back ready))
  put_back_passing k waits is_there =
      put_back_left p.now since p.mtu d s0 i ready (or_right (prepared p r).plan.may_have_long (prepared p r).plan.is_waiting waits) (record {
        w = k.w;
        is_noted = k.is_noted;
        for_whom = k.for_whom;
        since_when = k.since_when;
        is_aside = k.is_aside;
        is_on = k.is_on;
        is_there = is_there;
        is_same_socket = (refl, refl, refl);
        is_watched = k.is_watched;
        has_wait = has_wait;
      })

  settled : (Kept p.now since p.mtu d i (seen i (prepared p r))
      ⊎ (Passing p.now since p.mtu d i (seen i (prepared p r)) × ((prepared p r).plan.is_waiting ≡ true))) → StillWaits i d p r →
      Settled p.now since p.mtu d s0 i (seen i (with_waits_put_back ready))
  settled (inl (inl k)) (Unasked unasked left) =
      absurd (else_than (same_wait k.w.until (silence_from p.now) (wait_of (prepared p r).sockets i) k.is_set unasked))
  settled (inl (inl k)) (Asked until asked set is_later) = put_back_own p.now since p.mtu d s0 i ready (record {
    w = k.w;
    until = until;
    is_noted = k.is_noted;
    for_whom = k.for_whom;
    since_when = k.since_when;
    is_own = k.is_own;
    is_set = set;
    is_later = is_later;
    is_same_socket = (refl, refl, refl);
    is_watched = k.is_watched;
    has_wait = has_wait;
  })
  settled (inl (inl k)) (Passed passed) = absurd (let never : Some (d, k.w.until) ≡ None = sym k.is_set ∙ passed.is_free in cc)
  settled (inl (inr k)) (Unasked unasked left) =
      put_back_left p.now since p.mtu d s0 i ready (or_left (prepared p r).plan.may_have_long (prepared p r).plan.is_waiting k.expects) (record {
        w = k.w;
        is_noted = k.is_noted;
        for_whom = k.for_whom;
        since_when = k.since_when;
        is_aside = k.is_aside;
        is_on = k.is_on;
        is_there = is_there_by (socket_at p.polled i) (wait_at p.polled i) (nobody, silence_from p.now) left;
        is_same_socket = (refl, refl, refl);
        is_watched = k.is_watched;
        has_wait = has_wait;
      })
  settled (inl (inr k)) (Asked until asked set is_later) = absurd (asked k.is_set)
  settled (inl (inr k)) (Passed passed) = absurd (let never : Some (nobody, silence_from p.now) ≡ None = sym k.is_set ∙ passed.is_free in cc)
  settled (inr k) (Unasked unasked left) = absurd (let never : Some (nobody, silence_from p.now) ≡ None = sym unasked ∙ k.0.is_free in cc)
  settled (inr k) (Asked until asked set is_later) = put_back_passing k.0 k.1 (is_there_by (socket_at p.polled i) (wait_at p.polled i) (d, until) set)
  settled (inr k) (Passed passed) = put_back_passing k.0 k.1 passed.is_there

  result : Last p.now since p.mtu d s0 i (seen i (ended p r)) → IsWaiting i d since (ended p r) ⊎ (IsGivenUp i d p r × MayGiveUp i d since p r)
  result (inl k) = inl (record {
    waiting = k.w;
    is_noted = k.is_noted;
    for_whom = k.for_whom;
    since_when = k.since_when;
    is_set = k.is_set;
    is_own = k.is_own;
    is_watched = k.is_watched;
    has_wait = k.has_wait;
  })
  result (inr gone) = inr gone
