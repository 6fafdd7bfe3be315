-- Where a socket has its turn to ask, none before it is asked.
use Rattle.std.specs.Prelude.{ℕ, ◌≡◌, ◌<◌, ◌==◌, ◌⊎◌, ◌&&◌, ◌||◌, not, nat_lt, Bool, true, false, is_some}
use Rattle.std.specs.Prelude.{ℤ, ◌<ℤ◌, List, length, get_or, slice_get, slice_set, Option, Some, None, IfSome, refl, if◌then◌else◌}
use Rattle.std.specs.Borrow.{Bor}
use Rattle.std.specs.Cmp.{int_ranks}
use Rattle.std.specs.Option.{option_and_then, option_map}
use Rattle.std.specs.Ordering.{int_cmp, is_ge, is_gt, is_le, MatchOrdering}
use Rattle.std.specs.declared.cmp.Ordering.{Ordering}
use Rattle.std.specs.declared.cmp.Ordering.TheVariants.{Less, Equal, Greater}
use Rattle.std.proofs.Common.{inl, inr, sym, ap, ◌∙◌, subst, arith}
use Rattle.std.proofs.lemmas.Bool.{and_parts, lt-ltb}
use Rattle.std.proofs.lemmas.Int.{ints}
use Rattle.net_base.specs.Time.{silence_from}
use Rattle.ip_address.specs.declared.ip.IpAddress.{IpAddress}
use Rattle.sockets.specs.declared.socket.SocketOf.{SocketOf}
use Rattle.socket_set.specs.SocketMeta.{Wait}
use Rattle.socket_set.specs.SocketSet.{socket_at, wait_at, wait_of}
use Rattle.egress_schedule.specs.declared.watch.Waiting.{Waiting}
use Rattle.egress_schedule.specs.declared.watch.Watch.{Watch}
use Rattle.egress_schedule.specs.Asides.{is_over, nobody, own_wait, waiting_unasked, with_wait_aside}
use Rattle.egress_schedule.specs.LongPackets.{after_setting_aside, after_setting_aside_at, has_long, next_long}
use Rattle.egress_schedule.specs.Patience.{is_at_end, must_go}
use Rattle.egress_schedule.specs.Plan.{Planned, each_of, waiting_at, watch_at}
use Rattle.sockets.specs.Kinds.{destinations}
use Rattle.sockets.specs.Source.{is_same}
use Rattle.egress_schedule.specs.Queues.{has_packets}
use Rattle.egress_schedule.specs.Passing.{before_first, goes_first, is_first_for, may_pass, with_first_for}
use Rattle.egress_schedule.specs.Rounds.{with_long_set_aside, with_packets_brought, with_packets_passing, with_turns_taken}
use Rattle.egress_schedule.specs.Turns.{after_hold_at, after_taking_turns, comes_before, if_held, is_free, is_held, next_to_ask, with_wait_longer}
use Rattle.egress_schedule.specs.Laws.{IsWritten, TurnsAreKept, WaitsForKnown, may_be_asked}
use Rattle.egress_schedule.proofs.Apart.{later_than}
use Rattle.egress_schedule.proofs.Brought.{brought_destinations, length_brought}
use Rattle.egress_schedule.proofs.Order.{count_is}
use Rattle.egress_schedule.proofs.Passes.{all_brought_keep, not_passing, passing_keeps}
use Rattle.egress_schedule.proofs.Ends.{here_set, kept, len_set}
use Rattle.egress_schedule.proofs.GoesOn.{aside_leaves, hold_leaves}
use Rattle.egress_schedule.proofs.Seen.{Seen, brought_in, brought_seen, fold_seen, if_some_waits, seen, wait_in}

abbrev L : Type 0
L = Bor (Unit {0})

-- what hasn't passed isn't to be asked again
not_passed : (a b : ℤ) → is_le (int_cmp a b) ≡ false → is_ge (int_cmp b a) ≡ false
not_passed a b = by (int_cmp a b) (int_ranks a b) (int_cmp b a) (int_ranks b a) where
  by : (o : Ordering) → MatchOrdering o (a <ℤ b) (a ≡ b) (b <ℤ a) → (p : Ordering) → MatchOrdering p (b <ℤ a) (b ≡ a) (a <ℤ b) →
      is_le o ≡ false → is_ge p ≡ false
  by Less m p k isnt = absurd cc
  by Equal m p k isnt = absurd cc
  by Greater m Less k isnt = refl
  by Greater m Equal k isnt = absurd (omega (arith, ints, m, k))
  by Greater m Greater k isnt = absurd (omega (arith, ints, m, k))

-- a socket with something to send is there, so a wait that is set is its own
set_wait_is : (socket : Option (SocketOf L)) (old new : Wait) → has_packets socket ≡ true → old ≡ new → option_and_then (λ it. old) socket ≡ new
set_wait_is None old new sends is = absurd cc
set_wait_is (Some socket) old new sends is = is

module _ (now : ℤ) where
  -- a wait of which it is written down that it isn't over hasn't passed
  abbrev AgreesWith : Option Waiting → Wait → Type 0
  AgreesWith noted wait = IfSome (if is_some wait then noted else None) (λ w. is_over now w ≡ false → is_free now wait ≡ false)

  on : (noted : Option Waiting) (wait : Wait) → is_free now wait ≡ false → AgreesWith noted wait
  on noted None isnt = tt
  on None (Some x) isnt = tt
  on (Some w) (Some x) isnt = λ over. isnt

  -- a socket before the one that asks, of n
  record Early (n next i : ℕ) (x : Seen) : Type 0 where
    pub agrees : AgreesWith x.watch.waiting (wait_in x)
    pub has_wait : i < x.waits
    pub sends : has_packets x.socket ≡ true
    pub count : x.watches ≡ n

  -- it isn't asked
  abbrev IsLeft : Seen → Type 0
  IsLeft x = is_free now (wait_in x) ≡ false

  aside_is_left : (i : ℕ) (r : Planned L) → i < length r.sockets.waits → has_packets (socket_at r.sockets i) ≡ true →
      IsLeft (seen i (with_wait_aside now i r))
  aside_is_left i r has_wait sends =
      ap (is_free now) (set_wait_is (socket_at r.sockets i) _ (Some (nobody, silence_from now)) sends
      (here_set r.sockets.waits i (Some (nobody, silence_from now)) None has_wait))
      ∙ later_than now

  aside_keeps : (mtu n next other i : ℕ) (r : Planned L) → Early n next i (seen i r) →
      Early n next i (seen i (after_setting_aside_at mtu now other i r))
  aside_keeps mtu n next other i r early = by (has_long mtu r.sockets i && not (i == other)) where
    by : (b : Bool) → Early n next i (seen i (if b then with_wait_aside now i r else r))
    by false = early
    by true = record {
      agrees = on _ (wait_in (seen i (with_wait_aside now i r))) (aside_is_left i r early.has_wait early.sends);
      has_wait = subst (λ (k : ℕ). i < k) (sym (len_set r.sockets.waits i (Some (nobody, silence_from now)))) early.has_wait;
      sends = early.sends;
      count = len_set r.plan.watches i _ ∙ early.count;
    }

  hold_leaves_it : (n next i : ℕ) (r : Planned L) → i < next → next < n → Early n next i (seen i r) →
      IsLeft (seen i (after_hold_at now next i r))
  hold_leaves_it n next i r before asks early =
      by (wait_in (seen i r)) refl (watch_at i r).waiting early.agrees where
        none : (b : Bool) → is_free now (wait_in (seen i r)) ≡ b → IsLeft (seen i (if comes_before now next i r then with_wait_aside now i r else r))
        none true is = subst (λ (b : Bool). IsLeft (seen i (if b then with_wait_aside now i r else r))) (sym comes)
            (aside_is_left i r early.has_wait early.sends) where
              comes : comes_before now next i r ≡ true
              comes = rw (is, lt-ltb i next before, early.count, lt-ltb next n asks, early.sends) refl
        none false is = subst (λ (b : Bool). IsLeft (seen i (if b then with_wait_aside now i r else r))) (sym stays) is where
          stays : comes_before now next i r ≡ false
          stays = rw is refl

        longer : (w : Waiting) → IsLeft (seen i (with_wait_longer now i w r))
        longer w =
            ap (is_free now) (set_wait_is (socket_at r.sockets i) _ (Some (w.neighbor, silence_from now)) early.sends
            (here_set r.sockets.waits i (Some (w.neighbor, silence_from now)) None early.has_wait))
            ∙ later_than now

        some : (w : Waiting) → (is_over now w ≡ false → IsLeft (seen i r)) → IsLeft (seen i (if_held now next i r (Some w)))
        some w agrees = two (is_over now w) refl where
          two : (b : Bool) → is_over now w ≡ b → IsLeft (seen i (if_held now next i r (Some w)))
          two true is = subst (λ (b : Bool). IsLeft (seen i (if b then with_wait_longer now i w r else r))) (sym yes) (longer w) where
            yes : is_held r.plan.patience now (must_go now i r w) (nat_lt i next) w ≡ true
            yes = rw (is, lt-ltb i next before) refl
          two false is = subst (λ (b : Bool). IsLeft (seen i (if b then with_wait_longer now i w r else r))) (sym no) (agrees is) where
            no : is_held r.plan.patience now (must_go now i r w) (nat_lt i next) w ≡ false
            no = rw is refl

        by : (wait : Wait) → wait_in (seen i r) ≡ wait → (noted : Option Waiting) → AgreesWith noted wait →
            IsLeft (seen i (if_held now next i r (if is_some wait then noted else None)))
        by None is noted agrees = none (is_free now (wait_in (seen i r))) refl
        by (Some x) is None agrees = none (is_free now (wait_in (seen i r))) refl
        by (Some x) is (Some w) agrees = some w (λ over. ap (is_free now) is ∙ agrees over)

  -- by all steps of a round
  turns_leave_it : (i : ℕ) (r : Planned L) → r.plan.is_waiting ≡ true → i < length r.plan.watches → i < next_to_ask now r →
      next_to_ask now r < length r.plan.watches → Early (length r.plan.watches) (next_to_ask now r) i (seen i r) →
      IsLeft (seen i (with_turns_taken now r))
  turns_leave_it i r waits there before asks early = subst (λ (b : Bool). IsLeft (seen i (if b then after_taking_turns now r else r))) (sym waits)
      ((fold_seen (Early n next i) IsLeft (after_hold_at now next) i (hold_leaves now now n nobody next i)
      (λ s e. hold_leaves_it n next i s before asks e) n r early).1 there) where
        n : ℕ
        n = length r.plan.watches

        next : ℕ
        next = next_to_ask now r

  aside_keeps_all : (mtu n next i : ℕ) (left : Bool) (r : Planned L) → i < length r.plan.watches → Early n next i (seen i r) →
      Early n next i (seen i (with_long_set_aside mtu now left r))
  aside_keeps_all mtu n next i left r there early = by r.plan.may_have_long where
    other : ℕ
    other = next_long mtu left r

    all : Early n next i (seen i (each_of (after_setting_aside_at mtu now other) (length r.plan.watches) r))
    all = (fold_seen (Early n next i) (Early n next i) (after_setting_aside_at mtu now other) i (aside_leaves now now mtu nobody other i)
        (λ s e. aside_keeps mtu n next other i s e) (length r.plan.watches) r early).1 there

    by : (b : Bool) → Early n next i (seen i (if b then after_setting_aside mtu now left r else r))
    by false = early
    by true = record { agrees = all.agrees; has_wait = all.has_wait; sends = all.sends; count = all.count }

-- a socket before the one that asks has as many packets where one of them comes forward
counted : (known : IpAddress → Bool) (now : ℤ) (x : Seen) → has_packets (brought_in known now x).socket ≡ has_packets x.socket
counted known now x = by (if is_some (wait_in x) then x.watch.waiting else None) where
  one : (p : IpAddress → Bool) (o : Option (SocketOf L)) → has_packets (option_map (with_first_for p) o) ≡ has_packets o
  one p None = refl
  one p (Some s) = ap (nat_lt 0) (sym (count_is (with_first_for p s))
      ∙ (ap length (brought_destinations (before_first p (destinations s)) s) ∙ (length_brought (before_first p (destinations s)) (destinations s) ∙ count_is s)))

  by : (o : Option Waiting) → has_packets (if_some_waits known now x o).socket ≡ has_packets x.socket
  by None = refl
  by (Some w) = one (goes_first known now w) x.socket

-- nor does its wait change
same_wait : (known : IpAddress → Bool) (now : ℤ) (x : Seen) → wait_in (brought_in known now x) ≡ wait_in x
same_wait known now x = by (if is_some (wait_in x) then x.watch.waiting else None) where
  one : (p : IpAddress → Bool) (o : Option (SocketOf L)) (wait : Wait) →
      option_and_then (λ it. wait) (option_map (with_first_for p) o) ≡ option_and_then (λ it. wait) o
  one p None wait = refl
  one p (Some s) wait = refl

  by : (o : Option Waiting) → wait_in (if_some_waits known now x o) ≡ wait_in x
  by None = refl
  by (Some w) = one (goes_first known now w) x.socket x.wait

same_watch : (known : IpAddress → Bool) (now : ℤ) (x : Seen) → (brought_in known now x).watch ≡ x.watch
same_watch known now x = by (if is_some (wait_in x) then x.watch.waiting else None) where
  by : (o : Option Waiting) → (if_some_waits known now x o).watch ≡ x.watch
  by None = refl
  by (Some w) = refl

-- it passes only where its first packet is for a neighbour that is known
first_is_known : (known : IpAddress → Bool) (now : ℤ) (socket : Option (SocketOf L)) (wait : Wait) → may_pass known now socket wait ≡ true →
    is_first_for known socket ≡ true
first_is_known known now socket None is = absurd cc
first_is_known known now socket (Some wait) is =
    (and_parts (not (known wait.0)) (is_first_for known socket)
    (and_parts (is_gt (int_cmp wait.1 now)) (not (known wait.0) && is_first_for known socket)
    (and_parts (not (is_same wait.0 nobody)) (is_gt (int_cmp wait.1 now) && (not (known wait.0) && is_first_for known socket)) is).1).1).1

pub turns_are_kept : TurnsAreKept
turns_are_kept known now mtu left r0 i nobodys waits0 written0 has_wait0 before asks0 sends0 asked =
    last (may_pass known now (socket_at turned.sockets i) (wait_of turned.sockets i)) refl where
      r : Planned L
      r = with_packets_brought known now r0

      start : Planned L
      start = with_long_set_aside mtu now left r

      turned : Planned L
      turned = with_turns_taken now start

      n : ℕ
      n = length r.plan.watches

      count0 : n ≡ length r0.plan.watches
      count0 = all_brought_keep known now (λ plan waits. length plan.watches) r0

      there0 : i < length r0.plan.watches
      there0 = omega (arith, before, asks0)

      waits : r.plan.is_waiting ≡ true
      waits = all_brought_keep known now (λ plan waits. plan.is_waiting) r0 ∙ waits0

      brought : seen i r ≡ brought_in known now (seen i r0)
      brought = brought_seen known now i r0 waits0 there0

      wait_is : wait_of r.sockets i ≡ wait_of r0.sockets i
      wait_is = ap wait_in brought ∙ same_wait known now (seen i r0)

      watch_is : watch_at i r ≡ watch_at i r0
      watch_is = ap (λ (x : Seen). x.watch) brought ∙ same_watch known now (seen i r0)

      written : IfSome (waiting_at i r) (λ w. wait_of r.sockets i ≡ Some (w.neighbor, w.until))
      written = subst (λ (p : Wait × Watch). IfSome (if is_some p.0 then p.1.waiting else None) (λ w. p.0 ≡ Some (w.neighbor, w.until)))
          (sym (ap (λ (x : Wait). (x, watch_at i r)) wait_is ∙ ap (λ (x : Watch). (wait_of r0.sockets i, x)) watch_is)) written0

      has_wait : i < length r.sockets.waits
      has_wait = subst (λ (k : ℕ). i < k) (sym (all_brought_keep known now (λ plan waits. length waits) r0)) has_wait0

      sends : has_packets (socket_at r.sockets i) ≡ true
      sends = ap (λ (x : Seen). has_packets x.socket) brought ∙ (counted known now (seen i r0) ∙ sends0)

      asks : next_to_ask now start < n
      asks = subst (λ (k : ℕ). next_to_ask now start < k) (sym count0) asks0

      agrees : (noted : Option Waiting) (wait : Wait) →
          IfSome (if is_some wait then noted else None) (λ w. wait ≡ Some (w.neighbor, w.until)) → AgreesWith now noted wait
      agrees noted None is = tt
      agrees None (Some x) is = tt
      agrees (Some w) (Some x) is = λ over. ap (is_free now) is ∙ over

      early : Early now n (next_to_ask now start) i (seen i start)
      early = aside_keeps_all now mtu n (next_to_ask now start) i left r (omega (arith, before, asks)) (record {
        agrees = agrees (watch_at i r).waiting (wait_of r.sockets i) written;
        has_wait = has_wait;
        sends = sends;
        count = refl;
      })

      aside_waits : start.plan.is_waiting ≡ true
      aside_waits = by r.plan.may_have_long where
        step : (j : ℕ) (s : Planned L) → (after_setting_aside_at mtu now (next_long mtu left r) j s).plan.is_waiting ≡ s.plan.is_waiting
        step j s = two (has_long mtu s.sockets j && not (j == next_long mtu left r)) where
          two : (b : Bool) → (if b then with_wait_aside now j s else s).plan.is_waiting ≡ s.plan.is_waiting
          two false = refl
          two true = refl

        by : (b : Bool) → (if b then after_setting_aside mtu now left r else r).plan.is_waiting ≡ true
        by false = waits
        by true = kept (λ (s : Planned L). s.plan.is_waiting) (after_setting_aside_at mtu now (next_long mtu left r)) step n r ∙ waits

      left_is : is_free now (wait_of turned.sockets i) ≡ false
      left_is = turns_leave_it now i start aside_waits (subst (λ (k : ℕ). i < k) (sym early.count) (omega (arith, before, asks))) before
          (subst (λ (k : ℕ). next_to_ask now start < k) (sym early.count) asks)
          (subst (λ (k : ℕ). Early now k (next_to_ask now start) i (seen i start)) (sym early.count) early)

      known_is : (wait : Wait) → is_free now wait ≡ false → may_be_asked known now wait ≡ true → WaitsForKnown known wait
      known_is None isnt may = absurd cc
      known_is (Some wait) isnt may = by (known wait.0) may where
        by : (b : Bool) → (b || is_ge (int_cmp now wait.1)) ≡ true → b ≡ true
        by true holds = refl
        by false holds = sym (not_passed wait.1 now isnt) ∙ holds

      end : Planned L
      end = with_packets_passing known now turned

      last : (b : Bool) → may_pass known now (socket_at turned.sockets i) (wait_of turned.sockets i) ≡ b →
          WaitsForKnown known (wait_of end.sockets i) ⊎ (is_first_for known (socket_at end.sockets i) ≡ true)
      last true is = inr (ap (λ (ps : List (Option (SocketOf L))). is_first_for known (option_and_then (λ place. place) (slice_get ps i)))
          (passing_keeps known now (λ s. s.sockets.places) (λ j s. refl) turned)
          ∙ first_is_known known now (socket_at turned.sockets i) (wait_of turned.sockets i) is)
      last false is = inl (subst (WaitsForKnown known) (sym same)
          (known_is (wait_of turned.sockets i) left_is (ap (may_be_asked known now) (sym same) ∙ asked))) where
            same : wait_of end.sockets i ≡ wait_of turned.sockets i
            same = not_passing known now i turned is
