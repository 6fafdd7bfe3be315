-- Patience ends.
use Rattle.std.specs.Prelude.{ℕ, zero, suc, ◌≡◌, ◌≢◌, ◌<◌, ◌≤◌, ◌⊎◌, ◌&&◌, ◌||◌, Bool, true, false, is_some, ℤ, pos}
use Rattle.std.specs.Prelude.{List, [], ◌∷◌, length, get_or, slice_get, slice_set, Option, Some, None, IfSome, refl, if◌then◌else◌}
use Rattle.std.specs.Option.{option_and_then}
use Rattle.std.proofs.Common.{inl, inr, sym, ap, ◌∙◌, subst, arith}
use Rattle.sockets.specs.Source.{is_same}
use Rattle.std.proofs.lemmas.Bool.{cases_eq, cases_lt, or_parts}
use Rattle.ip_address.specs.declared.ip.IpAddress.{IpAddress}
use Rattle.sockets.specs.declared.socket.SocketOf.{SocketOf}
use Rattle.socket_set.specs.SocketMeta.{Wait}
use Rattle.socket_set.specs.SocketSet.{Sockets, socket_at, wait_of, with_wait}
use Rattle.egress_schedule.specs.declared.watch.Waiting.{Waiting}
use Rattle.egress_schedule.specs.declared.watch.Watch.{Watch}
use Rattle.egress_schedule.specs.Plan.{Planned, each_of, idle, waiting_at, watch_at}
use Rattle.egress_schedule.specs.Patience.{after_alignment, after_alignment_at, after_alignment_to, after_giving_up, after_look, after_look_at}
use Rattle.egress_schedule.specs.Patience.{after_patience, after_patience_at, earliest_end, earliest_with, if_given_up, if_waiting}
use Rattle.egress_schedule.specs.Patience.{is_at_end, is_given_up, is_recent, is_second_over, must_go}
use Rattle.egress_schedule.specs.Patience.{unreachable_after, waiting_after, watch_after_giving_up, without_first}
use Rattle.egress_schedule.specs.Passing.{without_packet_for}
use Rattle.egress_schedule.specs.Queues.{has_others, is_crowded}
use Rattle.egress_schedule.specs.Asides.{after_putting_all_back, after_putting_back_at, if_set_aside}
use Rattle.egress_schedule.specs.Rounds.{after_round, with_waits_put_back, with_waits_ended}
use Rattle.egress_schedule.specs.Laws.{PatienceEnds, WaitsEndTogether}

-- lists with another element at an index
pub len_set : {A : Type 0} (xs : List A) (i : ℕ) (x : A) → length (slice_set xs i x) ≡ length xs
len_set [] i x = refl
len_set (y ∷ ys) zero x = refl
len_set (y ∷ ys) (suc i) x = ap suc (len_set ys i x)

pub here_set : {A : Type 0} (xs : List A) (i : ℕ) (x d : A) → i < length xs → get_or (slice_set xs i x) i d ≡ x
here_set [] i x d within = absurd (omega (arith, within))
here_set (y ∷ ys) zero x d within = refl
here_set (y ∷ ys) (suc i) x d within = here_set ys i x d (omega (arith, within))

pub other_set : {A : Type 0} (xs : List A) (j i : ℕ) (x d : A) → i ≢ j → get_or (slice_set xs j x) i d ≡ get_or xs i d
other_set [] j i x d other = refl
other_set (y ∷ ys) zero zero x d other = absurd (other refl)
other_set (y ∷ ys) zero (suc i) x d other = refl
other_set (y ∷ ys) (suc j) zero x d other = refl
other_set (y ∷ ys) (suc j) (suc i) x d other = other_set ys j i x d (λ same. other (ap suc same))

pub other_get : {A : Type 0} (xs : List A) (j i : ℕ) (x : A) → i ≢ j → slice_get (slice_set xs j x) i ≡ slice_get xs i
other_get [] j i x other = refl
other_get (y ∷ ys) zero zero x other = absurd (other refl)
other_get (y ∷ ys) zero (suc i) x other = refl
other_get (y ∷ ys) (suc j) zero x other = refl
other_get (y ∷ ys) (suc j) (suc i) x other = other_get ys j i x (λ same. other (ap suc same))

pub past_get : {A : Type 0} (xs : List A) (i : ℕ) (d : A) → length xs ≤ i → get_or xs i d ≡ d
past_get [] i d past = refl
past_get (y ∷ ys) zero d past = absurd (omega (arith, past))
past_get (y ∷ ys) (suc i) d past = past_get ys i d (omega (arith, past))

if_waits : (b : Bool) (x : Option Waiting) (P : Waiting → Type 0) → IfSome x P → IfSome (if b then x else None) P
if_waits true x P holds = holds
if_waits false x P holds = tt

none_is : (o : Option Waiting) → is_some o ≡ false → o ≡ None
none_is None is = refl
none_is (Some w) is = absurd cc

-- what is kept has not waited so long
fresh : (patience : ℕ) (now : ℤ) (must : Bool) (unreachable : Option IpAddress) (w : Waiting) →
    is_given_up patience now must unreachable w ≡ false → is_at_end patience now must w ≡ false
fresh patience now must None w kept = kept
fresh patience now must (Some unreachable) w kept =
    (or_parts (is_at_end patience now must w) (is_same unreachable w.neighbor) kept).0

never_some : (o : Option Waiting) (end : Option ℤ) → earliest_with o end ≡ None → (o ≡ None) × (end ≡ None)
never_some None end is = (refl, is)
never_some (Some w) end is = absurd cc

-- two that end at one instant
together : (a b : Option Waiting) (end : ℤ) → IfSome a (λ w. w.until ≡ end) → IfSome b (λ w. w.until ≡ end) →
    IfSome a (λ w. IfSome b (λ x. w.until ≡ x.until))
together None b end one two = tt
together (Some w) None end one two = tt
together (Some w) (Some x) end one two = one ∙ sym two

-- a wait that hasn't lasted that long
abbrev IsFresh : ℤ → ℕ → (Waiting → Bool) → Waiting → Type 0
IsFresh now patience must w = is_at_end patience now (must w) w ≡ false

-- a packet has to go by its socket and what is written down of that
abbrev must_by : {L : Type 0} → ℤ → Option (SocketOf L) → Watch → Waiting → Bool
must_by now socket watch x =
    has_others socket && (is_second_over now x.asked || is_crowded socket && is_recent now watch.dropped)

module _ {L : Type 0} where
  -- what a wait for another socket's index leaves
  pub other_socket : (s : Sockets L) (j i : ℕ) (d : IpAddress) (place : Option (SocketOf L)) → i ≢ j →
      socket_at (without_first j d s place) i ≡ socket_at s i
  other_socket s j i d None other = refl
  other_socket s j i d (Some socket) other = ap (option_and_then (λ p. p)) (other_get s.places j i (Some (without_packet_for d socket)) other)

  pub same_waits : (s : Sockets L) (j : ℕ) (d : IpAddress) (place : Option (SocketOf L)) → (without_first j d s place).waits ≡ s.waits
  same_waits s j d None = refl
  same_waits s j d (Some socket) = refl

  pub other_wait : (s : Sockets L) (j i : ℕ) (d : IpAddress) (place : Option (SocketOf L)) (wait : Wait) → i ≢ j →
      wait_of (with_wait (without_first j d s place) j wait) i ≡ wait_of s i
  other_wait s j i d place wait other =
      let waits : get_or (slice_set (without_first j d s place).waits j wait) i None ≡ get_or s.waits i None =
      other_set (without_first j d s place).waits j i wait None other ∙ ap (λ ws. get_or ws i None) (same_waits s j d place) in
      rw (waits, other_socket s j i d place other) refl

  -- a property of a plan that each step keeps
  pub kept : {A : Type 0} (of : Planned L → A) (step : ℕ → Planned L → Planned L) → ((i : ℕ) (r : Planned L) → of (step i r) ≡ of r) →
      (n : ℕ) (r : Planned L) → of (each_of step n r) ≡ of r
  kept of step same zero r = refl
  kept of step same (suc n) r = same n (each_of step n r) ∙ kept of step same n r

  -- what is written down of a socket says for whom it waits, as far as it still does
  of_watch : (i : ℕ) (r : Planned L) (P : Waiting → Type 0) → IfSome (watch_at i r).waiting P → IfSome (waiting_at i r) P
  of_watch i r P holds = if_waits (is_some (wait_of r.sockets i)) (watch_at i r).waiting P holds

  abbrev patience_of : Planned L → ℕ
  patience_of r = r.plan.patience

  abbrev count_of : Planned L → ℕ
  count_of r = length r.plan.watches

  module _ (now : ℤ) where
    giving_keeps_patience : (i : ℕ) (r : Planned L) → patience_of (after_patience_at now i r) ≡ patience_of r
    giving_keeps_patience i r = by (waiting_at i r) where
      by : (w : Option Waiting) → patience_of (if_given_up i now r w) ≡ patience_of r
      by None = refl
      by (Some w) = two (is_given_up r.plan.patience now (must_go now i r w) (watch_at i r).unreachable w) where
        two : (b : Bool) → patience_of (if b then after_giving_up now i w.neighbor r else r) ≡ patience_of r
        two true = refl
        two false = refl

    giving_keeps_count : (i : ℕ) (r : Planned L) → count_of (after_patience_at now i r) ≡ count_of r
    giving_keeps_count i r = by (waiting_at i r) where
      by : (w : Option Waiting) → count_of (if_given_up i now r w) ≡ count_of r
      by None = refl
      by (Some w) = two (is_given_up r.plan.patience now (must_go now i r w) (watch_at i r).unreachable w) where
        two : (b : Bool) → count_of (if b then after_giving_up now i w.neighbor r else r) ≡ count_of r
        two true = len_set r.plan.watches i _
        two false = refl

    abbrev Holds : ℕ → ℕ → Planned L → Type 0
    Holds patience i r = IfSome (waiting_at i r) (IsFresh now patience (must_go now i r))

    -- it holds of an index once that had its step
    step_here : (i : ℕ) (r : Planned L) → i < count_of r → Holds (patience_of r) i (after_patience_at now i r)
    step_here i r within = by (waiting_at i r) refl where
      by : (w : Option Waiting) → waiting_at i r ≡ w → Holds (patience_of r) i (if_given_up i now r w)
      by None is = rw is tt
      by (Some w) is = two (is_given_up r.plan.patience now (must_go now i r w) (watch_at i r).unreachable w) refl where
        new : Watch
        new = watch_after_giving_up now w.neighbor (watch_at i r)

        two : (b : Bool) → is_given_up r.plan.patience now (must_go now i r w) (watch_at i r).unreachable w ≡ b →
            Holds (patience_of r) i (if b then after_giving_up now i w.neighbor r else r)
        two false stays = rw is (fresh r.plan.patience now (must_go now i r w) (watch_at i r).unreachable w stays)
        two true given = of_watch i (after_giving_up now i w.neighbor r)
            (IsFresh now (patience_of r) (must_go now i (after_giving_up now i w.neighbor r)))
            (subst (λ (x : Watch). IfSome x.waiting (IsFresh now (patience_of r) (must_go now i (after_giving_up now i w.neighbor r))))
            (sym (here_set r.plan.watches i new idle within)) tt)

    -- and stays so in the steps of others
    step_other : (patience j i : ℕ) (r : Planned L) → i ≢ j → Holds patience i r → Holds patience i (after_patience_at now j r)
    step_other patience j i r other holds = by (waiting_at j r) where
      by : (w : Option Waiting) → Holds patience i (if_given_up j now r w)
      by None = holds
      by (Some w) = two (is_given_up r.plan.patience now (must_go now j r w) (watch_at j r).unreachable w) where
        two : (b : Bool) → Holds patience i (if b then after_giving_up now j w.neighbor r else r)
        two false = holds
        two true =
            subst (λ (s : Option (SocketOf L)). IfSome (waiting_at i given) (IsFresh now patience (must_by now s (watch_at i given)))) (sym others)
            (subst (λ (x : Watch). IfSome (waiting_at i given) (IsFresh now patience (must_by now (socket_at r.sockets i) x))) (sym noted)
            (subst (λ (x : Option Waiting). IfSome x (IsFresh now patience (must_go now i r))) (sym same) holds)) where
              given : Planned L
              given = after_giving_up now j w.neighbor r

              new : Watch
              new = watch_after_giving_up now w.neighbor (watch_at j r)

              others : socket_at given.sockets i ≡ socket_at r.sockets i
              others = other_socket r.sockets j i w.neighbor (socket_at r.sockets j) other

              noted : watch_at i given ≡ watch_at i r
              noted = other_set r.plan.watches j i new idle other

              same : waiting_at i given ≡ waiting_at i r
              same = rw (other_wait r.sockets j i w.neighbor (socket_at r.sockets j) None other, other_set r.plan.watches j i new idle other) refl

    step_all : (r : Planned L) (n i : ℕ) → n ≤ count_of r → i < n → Holds (patience_of r) i (each_of (after_patience_at now) n r)
    step_all r zero i all within = absurd (omega (arith, within))
    step_all r (suc m) i all within = by (cases_eq i m) (λ less. step_all r m i (omega (arith, all)) less) where
      mid : Planned L
      mid = each_of (after_patience_at now) m r

      count : count_of mid ≡ count_of r
      count = kept count_of (after_patience_at now) giving_keeps_count m r

      patience : patience_of mid ≡ patience_of r
      patience = kept patience_of (after_patience_at now) giving_keeps_patience m r

      by : ((i ≡ m) ⊎ (i ≡ m → ⊥)) → (i < m → Holds (patience_of r) i mid) → Holds (patience_of r) i (after_patience_at now m mid)
      by (inl same) before =
          rw same (subst (λ (p : ℕ). Holds p m (after_patience_at now m mid)) patience (step_here m mid (rw count (omega (arith, all)))))
      by (inr other) before = step_other (patience_of r) m i mid other (before (omega (arith, within, other)))

    -- of an index after all nothing is written down
    none_past : (i : ℕ) (r : Planned L) → count_of r ≤ i → (watch_at i r).waiting ≡ None
    none_past i r past = ap (λ (w : Watch). w.waiting) (past_get r.plan.watches i idle past)

    gives_up : (r : Planned L) (i : ℕ) → Holds (patience_of r) i (after_patience now r)
    gives_up r i = by (cases_lt i (count_of r)) where
      given : Planned L
      given = after_patience now r

      by : ((i < count_of r) ⊎ (count_of r ≤ i)) → Holds (patience_of r) i given
      by (inl within) = step_all r (count_of r) i (omega arith) within
      by (inr past) = of_watch i given (IsFresh now (patience_of r) (must_go now i given))
          (rw (none_past i given (rw (kept count_of (after_patience_at now) giving_keeps_count (count_of r) r) past)) tt)

    looking_keeps_count : (i : ℕ) (r : Planned L) → count_of (after_look_at now i r) ≡ count_of r
    looking_keeps_count i r = len_set r.plan.watches i _

    -- where it is written down that no socket waits, none does
    none_waits : (r : Planned L) (n i : ℕ) → n ≤ count_of r → i < n → (each_of (after_look_at now) n r).plan.is_waiting ≡ false →
        (watch_at i (each_of (after_look_at now) n r)).waiting ≡ None
    none_waits r zero i all within is = absurd (omega (arith, within))
    none_waits r (suc m) i all within is = by (cases_eq i m) (λ less. none_waits r m i (omega (arith, all)) less) where
      mid : Planned L
      mid = each_of (after_look_at now) m r

      this : Option Waiting
      this = waiting_after now mid.plan.asked (wait_of mid.sockets m) (watch_at m mid).waiting

      new : Watch
      new = record (watch_at m mid) { waiting = this; unreachable = unreachable_after this (watch_at m mid).unreachable }

      parts : (mid.plan.is_waiting ≡ false) × (is_some this ≡ false)
      parts = or_parts mid.plan.is_waiting (is_some this) is

      there : m < count_of mid
      there = rw (kept count_of (after_look_at now) looking_keeps_count m r) (omega (arith, all))

      by : ((i ≡ m) ⊎ (i ≡ m → ⊥)) → (i < m → mid.plan.is_waiting ≡ false → (watch_at i mid).waiting ≡ None) →
          (get_or (slice_set mid.plan.watches m new) i idle).waiting ≡ None
      by (inl same) before = rw (same, here_set mid.plan.watches m new idle there) (none_is this parts.1)
      by (inr other) before = rw (other_set mid.plan.watches m i new idle other) (before (omega (arith, within, other)) parts.0)

    looked_over : (r : Planned L) (i : ℕ) → (after_look now r).plan.is_waiting ≡ false → (watch_at i (after_look now r)).waiting ≡ None
    looked_over r i is = by (cases_lt i (count_of r)) where
      cleared : Planned L
      cleared = record r { plan = record r.plan { is_waiting = false } }

      by : ((i < count_of r) ⊎ (count_of r ≤ i)) → (watch_at i (after_look now r)).waiting ≡ None
      by (inl within) = none_waits cleared (count_of r) i (omega arith) within is
      by (inr past) = none_past i (after_look now r) (rw (kept count_of (after_look_at now) looking_keeps_count (count_of r) cleared) past)

    -- aligned waits end at one instant
    abbrev EndsAt : ℤ → ℕ → Planned L → Type 0
    EndsAt end i r = IfSome (watch_at i r).waiting (λ w. w.until ≡ end)

    aligning_keeps_patience : (end : ℤ) (i : ℕ) (r : Planned L) → patience_of (after_alignment_at end i r) ≡ patience_of r
    aligning_keeps_patience end i r = by (watch_at i r).waiting where
      by : (o : Option Waiting) → patience_of (if_waiting end i r o) ≡ patience_of r
      by None = refl
      by (Some w) = refl

    aligning_keeps_count : (end : ℤ) (i : ℕ) (r : Planned L) → count_of (after_alignment_at end i r) ≡ count_of r
    aligning_keeps_count end i r = by (watch_at i r).waiting where
      by : (o : Option Waiting) → count_of (if_waiting end i r o) ≡ count_of r
      by None = refl
      by (Some w) = len_set r.plan.watches i _

    aligned_here : (end : ℤ) (i : ℕ) (r : Planned L) → i < count_of r → EndsAt end i (after_alignment_at end i r)
    aligned_here end i r within = by (watch_at i r).waiting refl where
      by : (o : Option Waiting) → (watch_at i r).waiting ≡ o → EndsAt end i (if_waiting end i r o)
      by None is = rw is tt
      by (Some w) is = rw (here_set r.plan.watches i (record (watch_at i r) { waiting = Some (record w { until = end }) }) idle within) refl

    aligned_other : (end : ℤ) (j i : ℕ) (r : Planned L) → i ≢ j → EndsAt end i r → EndsAt end i (after_alignment_at end j r)
    aligned_other end j i r other ends = by (watch_at j r).waiting where
      by : (o : Option Waiting) → EndsAt end i (if_waiting end j r o)
      by None = ends
      by (Some w) = rw (other_set r.plan.watches j i (record (watch_at j r) { waiting = Some (record w { until = end }) }) idle other) ends

    aligned_all : (end : ℤ) (r : Planned L) (n i : ℕ) → n ≤ count_of r → i < n → EndsAt end i (each_of (after_alignment_at end) n r)
    aligned_all end r zero i all within = absurd (omega (arith, within))
    aligned_all end r (suc m) i all within = by (cases_eq i m) (λ less. aligned_all end r m i (omega (arith, all)) less) where
      mid : Planned L
      mid = each_of (after_alignment_at end) m r

      by : ((i ≡ m) ⊎ (i ≡ m → ⊥)) → (i < m → EndsAt end i mid) → EndsAt end i (after_alignment_at end m mid)
      by (inl same) before =
          rw same (aligned_here end m mid (rw (kept count_of (after_alignment_at end) (aligning_keeps_count end) m r) (omega (arith, all))))
      by (inr other) before = aligned_other end m i mid other (before (omega (arith, within, other)))

    -- where no wait has an end, none waits
    none_ends : (r : Planned L) (n i : ℕ) → i < n → earliest_end n r.plan.watches ≡ None → (watch_at i r).waiting ≡ None
    none_ends r zero i within is = absurd (omega (arith, within))
    none_ends r (suc m) i within is = by (cases_eq i m) (λ less. none_ends r m i less) where
      parts : ((watch_at m r).waiting ≡ None) × (earliest_end m r.plan.watches ≡ None)
      parts = never_some (watch_at m r).waiting (earliest_end m r.plan.watches) is

      by : ((i ≡ m) ⊎ (i ≡ m → ⊥)) → (i < m → earliest_end m r.plan.watches ≡ None → (watch_at i r).waiting ≡ None) → (watch_at i r).waiting ≡ None
      by (inl same) before = rw same parts.0
      by (inr other) before = before (omega (arith, within, other)) parts.1

    aligned : (r : Planned L) → (end : ℤ) × ((i : ℕ) → EndsAt end i (after_alignment r))
    aligned r = by (earliest_end (count_of r) r.plan.watches) refl where
      by : (o : Option ℤ) → earliest_end (count_of r) r.plan.watches ≡ o → (end : ℤ) × ((i : ℕ) → EndsAt end i (after_alignment_to o r))
      by None is = (pos 0, λ i. two i (cases_lt i (count_of r))) where
        two : (i : ℕ) → ((i < count_of r) ⊎ (count_of r ≤ i)) → EndsAt (pos 0) i r
        two i (inl within) = rw (none_ends r (count_of r) i within is) tt
        two i (inr past) = rw (none_past i r past) tt
      by (Some end) is = (end, λ i. two i (cases_lt i (count_of r))) where
        all : Planned L
        all = each_of (after_alignment_at end) (count_of r) r

        two : (i : ℕ) → ((i < count_of r) ⊎ (count_of r ≤ i)) → EndsAt end i all
        two i (inl within) = aligned_all end r (count_of r) i (omega arith) within
        two i (inr past) = rw (none_past i all (rw (kept count_of (after_alignment_at end) (aligning_keeps_count end) (count_of r) r) past)) tt

    alignment_keeps_patience : (r : Planned L) → patience_of (after_alignment r) ≡ patience_of r
    alignment_keeps_patience r = by (earliest_end (count_of r) r.plan.watches) where
      by : (o : Option ℤ) → patience_of (after_alignment_to o r) ≡ patience_of r
      by None = refl
      by (Some end) = kept patience_of (after_alignment_at end) (aligning_keeps_patience end) (count_of r) r

    -- and still do where packets are given up
    giving_keeps_end : (end : ℤ) (j i : ℕ) (r : Planned L) → EndsAt end i r → EndsAt end i (after_patience_at now j r)
    giving_keeps_end end j i r ends = by (waiting_at j r) where
      by : (w : Option Waiting) → EndsAt end i (if_given_up j now r w)
      by None = ends
      by (Some w) = two (is_given_up r.plan.patience now (must_go now j r w) (watch_at j r).unreachable w) where
        two : (b : Bool) → EndsAt end i (if b then after_giving_up now j w.neighbor r else r)
        two false = ends
        two true = three (cases_eq i j) (cases_lt j (count_of r)) where
          new : Watch
          new = watch_after_giving_up now w.neighbor (watch_at j r)

          three : ((i ≡ j) ⊎ (i ≡ j → ⊥)) → ((j < count_of r) ⊎ (count_of r ≤ j)) →
              IfSome (get_or (slice_set r.plan.watches j new) i idle).waiting (λ x. x.until ≡ end)
          three (inl same) (inl within) = rw (same, here_set r.plan.watches j new idle within) tt
          three (inl same) (inr past) = rw (same, past_get (slice_set r.plan.watches j new) j idle (rw (len_set r.plan.watches j new) past)) tt
          three (inr other) place = rw (other_set r.plan.watches j i new idle other) ends

    end_kept : (end : ℤ) (n i : ℕ) (r : Planned L) → EndsAt end i r → EndsAt end i (each_of (after_patience_at now) n r)
    end_kept end zero i r ends = ends
    end_kept end (suc m) i r ends = giving_keeps_end end m i (each_of (after_patience_at now) m r) (end_kept end m i r ends)

    putting_keeps_patience : (i : ℕ) (r : Planned L) → patience_of (after_putting_back_at i r) ≡ patience_of r
    putting_keeps_patience i r = by (watch_at i r).set_aside where
      by : (o : Option Wait) → patience_of (if_set_aside i r o) ≡ patience_of r
      by None = refl
      by (Some wait) = refl

    put_back_patience : (r : Planned L) → patience_of (with_waits_put_back r) ≡ patience_of r
    put_back_patience r = by (r.plan.may_have_long || r.plan.is_waiting) where
      by : (b : Bool) → patience_of (if b then after_putting_all_back r else r) ≡ patience_of r
      by true = kept patience_of after_putting_back_at putting_keeps_patience (count_of r) r
      by false = refl

    look_patience : (r : Planned L) → patience_of (after_look now r) ≡ patience_of r
    look_patience r = kept patience_of (after_look_at now) (λ i s. refl) (count_of r) (record r { plan = record r.plan { is_waiting = false } })

    abbrev seen : Planned L → Planned L
    seen r = after_look now (with_waits_put_back r)

    give_patience : (r : Planned L) → patience_of (with_waits_ended now r) ≡ patience_of r
    give_patience r = by r.plan.is_waiting where
      by : (b : Bool) → patience_of (if b then after_patience now (after_alignment r) else r) ≡ patience_of r
      by false = refl
      by true = kept patience_of (after_patience_at now) giving_keeps_patience (count_of (after_alignment r)) (after_alignment r)
          ∙ alignment_keeps_patience r

    pub after_patience_of : (r : Planned L) → patience_of (after_round now r) ≡ patience_of r
    after_patience_of r = give_patience (seen r) ∙ (look_patience (with_waits_put_back r) ∙ put_back_patience r)

    ends : (r : Planned L) (i : ℕ) → Holds (patience_of r) i (after_round now r)
    ends r i = by (seen r).plan.is_waiting refl where
      patience : patience_of (after_alignment (seen r)) ≡ patience_of r
      patience = alignment_keeps_patience (seen r) ∙ (look_patience (with_waits_put_back r) ∙ put_back_patience r)

      by : (b : Bool) → (seen r).plan.is_waiting ≡ b → Holds (patience_of r) i (if b then after_patience now (after_alignment (seen r)) else seen r)
      by true is = subst (λ (p : ℕ). Holds p i (after_patience now (after_alignment (seen r)))) patience (gives_up (after_alignment (seen r)) i)
      by false is = of_watch i (seen r) (IsFresh now (patience_of r) (must_go now i (seen r))) (rw (looked_over (with_waits_put_back r) i is) tt)

    -- two sockets that wait may ask again at one instant
    abbrev Together : ℕ → ℕ → Planned L → Type 0
    Together i j r = IfSome (waiting_at i r) (λ w. IfSome (waiting_at j r) (λ x. w.until ≡ x.until))

    ends_together : (r : Planned L) (i j : ℕ) → Together i j (after_round now r)
    ends_together r i j = by (seen r).plan.is_waiting refl where
      by : (b : Bool) → (seen r).plan.is_waiting ≡ b → Together i j (if b then after_patience now (after_alignment (seen r)) else seen r)
      by true is = together (waiting_at i given) (waiting_at j given) at.0 (at_end i) (at_end j) where
        start : Planned L
        start = after_alignment (seen r)

        given : Planned L
        given = after_patience now start

        at : (end : ℤ) × ((k : ℕ) → EndsAt end k start)
        at = aligned (seen r)

        at_end : (k : ℕ) → IfSome (waiting_at k given) (λ w. w.until ≡ at.0)
        at_end k = of_watch k given (λ w. w.until ≡ at.0) (end_kept at.0 (count_of start) k start (at.1 k))
      by false is = together (waiting_at i (seen r)) (waiting_at j (seen r)) (pos 0) (none i) (none j) where
        none : (k : ℕ) → IfSome (waiting_at k (seen r)) (λ w. w.until ≡ pos 0)
        none k = of_watch k (seen r) (λ w. w.until ≡ pos 0) (rw (looked_over (with_waits_put_back r) k is) tt)

pub patience_ends : PatienceEnds
patience_ends now r i = ends now r i

pub waits_end_together : WaitsEndTogether
waits_end_together now r i j = ends_together now r i j
