-- Long packets are expected as long as one is queued.
use Rattle.std.specs.Prelude.{ℕ, zero, suc, ◌≡◌, ◌<◌, ◌≤◌, ◌==◌, ◌⊎◌, ◌&&◌, not, nat_lt, Bool, true, false, ◌||◌}
use Rattle.std.specs.Prelude.{ℤ, List, [], ◌∷◌, length, drop, get_or, slice_get, slice_set}
use Rattle.std.specs.Prelude.{Option, Some, None, IfSome, refl, if◌then◌else◌}
use Rattle.std.specs.Borrow.{Bor}
use Rattle.std.specs.Option.{option_and_then}
use Rattle.std.proofs.Common.{inl, inr, sym, ap, ◌∙◌, subst, arith}
use Rattle.std.proofs.lemmas.Bool.{cases_lt, lt-ltb, or_parts}
use Rattle.sockets.specs.Queue.{first_of}
use Rattle.ip_address.specs.declared.ip.IpAddress.{IpAddress}
use Rattle.sockets.specs.Kinds.{socket_after_told}
use Rattle.sockets.specs.Source.{is_same}
use Rattle.sockets.specs.declared.socket.SocketOf.{SocketOf}
use Rattle.sockets.specs.declared.socket.SocketOf.TheVariants.{Raw, Icmp, Udp, Tcp}
use Rattle.socket_set.specs.SocketMeta.{Wait}
use Rattle.socket_set.specs.SocketSet.{Sockets, socket_at}
use Rattle.egress_schedule.specs.declared.watch.Waiting.{Waiting}
use Rattle.egress_schedule.specs.declared.watch.Watch.{Watch}
use Rattle.egress_schedule.specs.LongPackets.{after_setting_aside, after_setting_aside_at, has_long}
use Rattle.egress_schedule.specs.Asides.{after_putting_all_back, after_putting_back_at, if_set_aside, with_wait_aside}
use Rattle.egress_schedule.specs.LongPackets.{may_be_long, may_have_long, next_long, some_may_have_long}
use Rattle.egress_schedule.specs.Patience.{after_alignment, after_alignment_at, after_alignment_to, after_giving_up, after_look, after_look_at}
use Rattle.egress_schedule.specs.Patience.{after_patience, after_patience_at, earliest_end, if_given_up, if_waiting, is_given_up, must_go, without_first}
use Rattle.egress_schedule.specs.Plan.{Plan, Planned, each_of, first_from, idle, waiting_at, watch_at, with_watch}
use Rattle.egress_schedule.specs.Queues.{count_to_send, each_behind, first_len, len_behind, lens_to_send}
use Rattle.egress_schedule.specs.Passing.{with_first_for, without_packet_for}
use Rattle.egress_schedule.specs.Rounds.{after_round, before_round, with_packets_brought, with_waits_put_back, with_long_set_aside, with_turns_taken, with_waits_ended}
use Rattle.egress_schedule.specs.Turns.{after_hold_at, after_taking_turns, comes_before, if_held, is_held, next_to_ask, plan_asked, waiting_asked, with_wait_longer}
use Rattle.egress_schedule.specs.Laws.{IsTold, LongPacketsExpected, NoneIsLong, OnlyTaken}
use Rattle.egress_schedule.proofs.Ends.{kept, len_set}
use Rattle.egress_schedule.proofs.Apart.{round_places}
use Rattle.egress_schedule.proofs.Brought.{AllWithin, Fits, brought_told, fits_brought, fits_set, keeps, rest_within}
use Rattle.egress_schedule.proofs.Passes.{all_brought_keep, passing_keeps}
use Rattle.egress_schedule.proofs.First.{below}

-- none of one length is greater, where the first isn't
short_queue : {M : Type 0} (mtu headers : ℕ) (ps : List (M × List ℕ)) → length ps ≤ 1 → len_behind headers (first_of ps) ≤ mtu →
    AllWithin mtu (each_behind headers ps)
short_queue mtu headers [] few short j = omega arith
short_queue mtu headers (p ∷ []) few short zero = short
short_queue mtu headers (p ∷ []) few short (suc j) = omega arith
short_queue mtu headers (p ∷ (q ∷ ps)) few short j = absurd (omega (arith, few))

pub without_first_behind : {M : Type 0} (headers : ℕ) (ps : List (M × List ℕ)) → each_behind headers (drop 1 ps) ≡ drop 1 (each_behind headers ps)
without_first_behind headers [] = refl
without_first_behind headers (p ∷ ps) = refl

abbrev plan_size : Plan → ℕ × Bool
plan_size plan = (length plan.watches, plan.may_have_long)

asked_size : (now : ℤ) (next : ℕ) (plan : Plan) → plan_size (plan_asked now next plan) ≡ plan_size plan
asked_size now next plan = by (nat_lt next (length plan.watches)) where
  new : Watch
  new = record (get_or plan.watches next idle) { waiting = waiting_asked now (get_or plan.watches next idle).waiting }

  by : (b : Bool) → plan_size (if b then record (with_watch next new plan) { asked = Some now } else plan) ≡ plan_size plan
  by false = refl
  by true = ap (λ (n : ℕ). (n, plan.may_have_long)) (len_set plan.watches next new)

module _ {L : Type 0} where
  -- the first packet to send leaves its queue
  pub told_lens : (s : SocketOf L) → lens_to_send (socket_after_told true s) ≡ drop 1 (lens_to_send s)
  told_lens (Raw s) = without_first_behind 0 s.tx.packets
  told_lens (Icmp s) = without_first_behind 20 s.tx.packets
  told_lens (Udp s) = without_first_behind 28 s.tx.packets
  told_lens (Tcp s) = without_first_behind 40 s.tx.packets

  fits_one : (mtu : ℕ) (s : SocketOf L) → count_to_send s ≤ 1 → first_len s ≤ mtu → Fits mtu s
  fits_one mtu (Raw s) few short = short_queue mtu 0 s.tx.packets few short
  fits_one mtu (Icmp s) few short = short_queue mtu 20 s.tx.packets few short
  fits_one mtu (Udp s) few short = short_queue mtu 28 s.tx.packets few short
  fits_one mtu (Tcp s) few short = short_queue mtu 40 s.tx.packets few short

  fits_told : (mtu : ℕ) (s : SocketOf L) → Fits mtu s → Fits mtu (socket_after_told true s)
  fits_told mtu s fits = subst (λ (lens : List ℕ). AllWithin mtu lens) (sym (told_lens s)) (rest_within mtu 1 (lens_to_send s) fits)

  -- a socket that lost its first packet
  abbrev AllFit : ℕ → Sockets L → Type 0
  AllFit mtu s = (i : ℕ) → IfSome (socket_at s i) (Fits mtu)

  fits_without : (mtu n : ℕ) (s : Sockets L) (i : ℕ) (d : IpAddress) → ((k : ℕ) → k < n → IfSome (socket_at s k) (Fits mtu)) → i < n →
      (k : ℕ) → k < n → IfSome (socket_at (without_first i d s (socket_at s i)) k) (Fits mtu)
  fits_without mtu n s i d all there k within = by (socket_at s i) (all i there) where
    by : (o : Option (SocketOf L)) → IfSome o (Fits mtu) → IfSome (socket_at (without_first i d s o) k) (Fits mtu)
    by None fits = all k within
    by (Some socket) fits = fits_set mtu s i k (without_packet_for d socket)
        (fits_told mtu (with_first_for (is_same d) socket) (fits_brought mtu (is_same d) socket fits)) (all k within)

  -- for how many sockets it is, and whether it expects a long packet
  abbrev size_of : Planned L → ℕ × Bool
  size_of r = plan_size r.plan

  module _ (now : ℤ) where
    hold_size : (next i : ℕ) (r : Planned L) → size_of (after_hold_at now next i r) ≡ size_of r
    hold_size next i r = by (waiting_at i r) where
      none : (b : Bool) → size_of (if b then with_wait_aside now i r else r) ≡ size_of r
      none false = refl
      none true = ap (λ (n : ℕ). (n, r.plan.may_have_long)) (len_set r.plan.watches i _)

      by : (o : Option Waiting) → size_of (if_held now next i r o) ≡ size_of r
      by None = none (comes_before now next i r)
      by (Some w) = two (is_held r.plan.patience now (must_go now i r w) (nat_lt i next) w) where
        two : (b : Bool) → size_of (if b then with_wait_longer now i w r else r) ≡ size_of r
        two false = refl
        two true = ap (λ (n : ℕ). (n, r.plan.may_have_long)) (len_set r.plan.watches i _)

    turns_size : (r : Planned L) → size_of (with_turns_taken now r) ≡ size_of r
    turns_size r = by r.plan.is_waiting where
      held : Planned L
      held = each_of (after_hold_at now (next_to_ask now r)) (length r.plan.watches) r

      by : (b : Bool) → size_of (if b then after_taking_turns now r else r) ≡ size_of r
      by false = refl
      by true = asked_size now (next_to_ask now r) held.plan
          ∙ kept size_of (after_hold_at now (next_to_ask now r)) (hold_size (next_to_ask now r)) (length r.plan.watches) r

    look_size : (i : ℕ) (r : Planned L) → size_of (after_look_at now i r) ≡ size_of r
    look_size i r = ap (λ (n : ℕ). (n, r.plan.may_have_long)) (len_set r.plan.watches i _)

    align_size : (end : ℤ) (i : ℕ) (r : Planned L) → size_of (after_alignment_at end i r) ≡ size_of r
    align_size end i r = by (watch_at i r).waiting where
      by : (o : Option Waiting) → size_of (if_waiting end i r o) ≡ size_of r
      by None = refl
      by (Some w) = ap (λ (n : ℕ). (n, r.plan.may_have_long)) (len_set r.plan.watches i _)

    give_size : (i : ℕ) (r : Planned L) → size_of (after_patience_at now i r) ≡ size_of r
    give_size i r = by (waiting_at i r) where
      by : (o : Option Waiting) → size_of (if_given_up i now r o) ≡ size_of r
      by None = refl
      by (Some w) = two (is_given_up r.plan.patience now (must_go now i r w) (watch_at i r).unreachable w) where
        two : (b : Bool) → size_of (if b then after_giving_up now i w.neighbor r else r) ≡ size_of r
        two false = refl
        two true = ap (λ (n : ℕ). (n, r.plan.may_have_long)) (len_set r.plan.watches i _)

    back_size : (i : ℕ) (r : Planned L) → size_of (after_putting_back_at i r) ≡ size_of r
    back_size i r = by (watch_at i r).set_aside where
      by : (o : Option Wait) → size_of (if_set_aside i r o) ≡ size_of r
      by None = refl
      by (Some wait) = ap (λ (n : ℕ). (n, r.plan.may_have_long)) (len_set r.plan.watches i _)

    put_back_size : (r : Planned L) → size_of (with_waits_put_back r) ≡ size_of r
    put_back_size r = by (r.plan.may_have_long || r.plan.is_waiting) where
      by : (b : Bool) → size_of (if b then after_putting_all_back r else r) ≡ size_of r
      by false = refl
      by true = kept size_of after_putting_back_at back_size (length r.plan.watches) r

    looked_size : (r : Planned L) → size_of (after_look now r) ≡ size_of r
    looked_size r = kept size_of (after_look_at now) look_size (length r.plan.watches) (record r { plan = record r.plan { is_waiting = false } })

    aligned_size : (r : Planned L) → size_of (after_alignment r) ≡ size_of r
    aligned_size r = by (earliest_end (length r.plan.watches) r.plan.watches) where
      by : (o : Option ℤ) → size_of (after_alignment_to o r) ≡ size_of r
      by None = refl
      by (Some end) = kept size_of (after_alignment_at end) (align_size end) (length r.plan.watches) r

    ended_size : (r : Planned L) → size_of (with_waits_ended now r) ≡ size_of r
    ended_size r = by r.plan.is_waiting where
      by : (b : Bool) → size_of (if b then after_patience now (after_alignment r) else r) ≡ size_of r
      by false = refl
      by true = kept size_of (after_patience_at now) give_size (length (after_alignment r).plan.watches) (after_alignment r) ∙ aligned_size r

    round_size : (r : Planned L) → size_of (after_round now r) ≡ size_of r
    round_size r = ended_size (after_look now (with_waits_put_back r)) ∙ (looked_size (with_waits_put_back r) ∙ put_back_size r)

    module _ (mtu n : ℕ) where
      -- the packets of the first n sockets fit the link's
      abbrev FitsAll : Planned L → Type 0
      FitsAll r = (i : ℕ) → i < n → IfSome (socket_at r.sockets i) (Fits mtu)

      back_fits : (i : ℕ) (r : Planned L) → FitsAll r → FitsAll (after_putting_back_at i r)
      back_fits i r fits = by (watch_at i r).set_aside where
        by : (o : Option Wait) → FitsAll (if_set_aside i r o)
        by None = fits
        by (Some wait) = fits

      align_fits : (end : ℤ) (i : ℕ) (r : Planned L) → FitsAll r → FitsAll (after_alignment_at end i r)
      align_fits end i r fits = by (watch_at i r).waiting where
        by : (o : Option Waiting) → FitsAll (if_waiting end i r o)
        by None = fits
        by (Some w) = fits

      give_fits : (i : ℕ) (r : Planned L) → i < n → FitsAll r → FitsAll (after_patience_at now i r)
      give_fits i r there fits = by (waiting_at i r) where
        by : (o : Option Waiting) → FitsAll (if_given_up i now r o)
        by None = fits
        by (Some w) = two (is_given_up r.plan.patience now (must_go now i r w) (watch_at i r).unreachable w) where
          two : (b : Bool) → FitsAll (if b then after_giving_up now i w.neighbor r else r)
          two false = fits
          two true = fits_without mtu n r.sockets i w.neighbor fits there

      round_fits : (r : Planned L) → length r.plan.watches ≡ n → FitsAll r → FitsAll (after_round now r)
      round_fits r is fits = ended (after_look now (with_waits_put_back r)) looked_count looked where
        put : (b : Bool) → FitsAll (if b then after_putting_all_back r else r)
        put false = fits
        put true = keeps FitsAll after_putting_back_at (length r.plan.watches) (λ i s there holds. back_fits i s holds)
            (length r.plan.watches) (omega arith) r fits

        looked : FitsAll (after_look now (with_waits_put_back r))
        looked = keeps FitsAll (after_look_at now) (length (with_waits_put_back r).plan.watches) (λ i s there holds. holds)
            (length (with_waits_put_back r).plan.watches) (omega arith)
            (record (with_waits_put_back r) { plan = record (with_waits_put_back r).plan { is_waiting = false } }) (put (r.plan.may_have_long || r.plan.is_waiting))

        looked_count : length (after_look now (with_waits_put_back r)).plan.watches ≡ n
        looked_count = ap (λ (s : ℕ × Bool). s.0) (looked_size (with_waits_put_back r) ∙ put_back_size r) ∙ is

        ended : (s : Planned L) → length s.plan.watches ≡ n → FitsAll s → FitsAll (with_waits_ended now s)
        ended s count holds = by s.plan.is_waiting where
          aligned : (o : Option ℤ) → FitsAll (after_alignment_to o s)
          aligned None = holds
          aligned (Some end) = keeps FitsAll (after_alignment_at end) (length s.plan.watches) (λ i t there one. align_fits end i t one)
              (length s.plan.watches) (omega arith) s holds

          now_count : length (after_alignment s).plan.watches ≡ n
          now_count = ap (λ (t : ℕ × Bool). t.0) (aligned_size s) ∙ count

          by : (b : Bool) → FitsAll (if b then after_patience now (after_alignment s) else s)
          by false = holds
          by true = keeps FitsAll (after_patience_at now) (length (after_alignment s).plan.watches)
              (λ i t there one. give_fits i t (omega (arith, there, now_count)) one)
              (length (after_alignment s).plan.watches) (omega arith) (after_alignment s) (aligned (earliest_end (length s.plan.watches) s.plan.watches))

-- where no socket may have a long packet, none has
none_may : (mtu : ℕ) (r : Planned (Bor (Unit {0}))) → some_may_have_long mtu r ≡ false → NoneIsLong mtu (length r.plan.watches) r.sockets
none_may mtu r none i there = by (may_have_long mtu r.sockets i) refl where
  n : ℕ
  n = length r.plan.watches

  p : ℕ → Bool
  p = may_have_long mtu r.sockets

  one : (socket : Option (SocketOf (Bor (Unit {0})))) → may_be_long mtu socket ≡ false → IfSome socket (Fits mtu)
  one None is = tt
  one (Some s) is = fits_one mtu s few short where
    parts : (nat_lt mtu (first_len s) ≡ false) × (nat_lt 1 (count_to_send s) ≡ false)
    parts = or_parts (nat_lt mtu (first_len s)) (nat_lt 1 (count_to_send s)) is

    at_most : (a b : ℕ) → nat_lt a b ≡ false → b ≤ a
    at_most a b isnt = two (cases_lt a b) where
      two : ((a < b) ⊎ (b ≤ a)) → b ≤ a
      two (inl less) = absurd (let never : true ≡ false = sym (lt-ltb a b less) ∙ isnt in cc)
      two (inr le) = le

    short : first_len s ≤ mtu
    short = at_most mtu (first_len s) parts.0

    few : count_to_send s ≤ 1
    few = at_most 1 (count_to_send s) parts.1

  by : (b : Bool) → p i ≡ b → IfSome (socket_at r.sockets i) (Fits mtu)
  by false is = one (socket_at r.sockets i) is
  by true is = absurd (let found : first_from p 0 n ≤ i = below p 0 n i (omega arith) (omega (arith, there)) is in
      let never : true ≡ false = sym (lt-ltb (first_from p 0 n) n (omega (arith, found, there))) ∙ none in cc)

module _ (now : ℤ) (mtu : ℕ) (left : Bool) (r : Planned (Bor (Unit {0}))) where
  aside_size : (next i : ℕ) (s : Planned (Bor (Unit {0}))) → size_of (after_setting_aside_at mtu now next i s) ≡ size_of s
  aside_size next i s = by (has_long mtu s.sockets i && not (i == next)) where
    by : (b : Bool) → size_of (if b then with_wait_aside now i s else s) ≡ size_of s
    by false = refl
    by true = ap (λ (n : ℕ). (n, s.plan.may_have_long)) (len_set s.plan.watches i _)

  pub aside_count : length (with_long_set_aside mtu now left r).plan.watches ≡ length r.plan.watches
  aside_count = by r.plan.may_have_long where
    by : (b : Bool) → length (if b then after_setting_aside mtu now left r else r).plan.watches ≡ length r.plan.watches
    by false = refl
    by true = ap (λ (s : ℕ × Bool). s.0)
        (kept size_of (after_setting_aside_at mtu now (next_long mtu left r)) (aside_size (next_long mtu left r)) (length r.plan.watches) r)

  none_queued : IsTold mtu r → (with_long_set_aside mtu now left r).plan.may_have_long ≡ false → NoneIsLong mtu (length r.plan.watches) r.sockets
  none_queued told none = by r.plan.may_have_long refl none where
    by : (b : Bool) → r.plan.may_have_long ≡ b → (if b then after_setting_aside mtu now left r else r).plan.may_have_long ≡ false →
        NoneIsLong mtu (length r.plan.watches) r.sockets
    by false is isnt = told is
    by true is isnt = none_may mtu r isnt

-- those that are left fit, if all did
taken_fits : (mtu n : ℕ) (s s' : Sockets (Bor (Unit {0}))) → NoneIsLong mtu n s → OnlyTaken n s s' → NoneIsLong mtu n s'
taken_fits mtu n s s' all taken i there = by (socket_at s' i) (taken i there) where
  by : (o : Option (SocketOf (Bor (Unit {0})))) →
      IfSome o (λ left. (had : SocketOf (Bor (Unit {0}))) × (k : ℕ) × (socket_at s i ≡ Some had) × (lens_to_send left ≡ drop k (lens_to_send had))) →
      IfSome o (Fits mtu)
  by None from = tt
  by (Some b) from =
      let fits : Fits mtu from.0 = subst (λ (o : Option (SocketOf (Bor (Unit {0})))). IfSome o (Fits mtu)) from.2 (all i there) in
      subst (λ (lens : List ℕ). AllWithin mtu lens) (sym from.3) (rest_within mtu from.1 (lens_to_send from.0) fits)

pub long_packets_expected : LongPacketsExpected
long_packets_expected known now mtu left r polled told taken none =
    λ i there. round_fits now mtu n ready count fits i (rw (sym total) there) where
      n : ℕ
      n = length r.plan.watches

      start : Planned (Bor (Unit {0}))
      start = with_packets_brought known now r

      prepared : Planned (Bor (Unit {0}))
      prepared = before_round known now mtu left r

      ready : Planned (Bor (Unit {0}))
      ready = record { plan = prepared.plan; sockets = polled }

      sizes : size_of prepared ≡ size_of (with_long_set_aside mtu now left start)
      sizes = passing_keeps known now size_of (λ i s. ap (λ (n : ℕ). (n, s.plan.may_have_long)) (len_set s.plan.watches i _))
          (with_turns_taken now (with_long_set_aside mtu now left start))
          ∙ turns_size now (with_long_set_aside mtu now left start)

      as_many : length start.plan.watches ≡ n
      as_many = all_brought_keep known now (λ plan waits. length plan.watches) r

      count : length ready.plan.watches ≡ n
      count = ap (λ (s : ℕ × Bool). s.0) sizes ∙ (aside_count now mtu left start ∙ as_many)

      total : length (after_round now ready).plan.watches ≡ n
      total = ap (λ (s : ℕ × Bool). s.0) (round_size now ready) ∙ count

      off : (with_long_set_aside mtu now left start).plan.may_have_long ≡ false
      off = sym (ap (λ (s : ℕ × Bool). s.1) (round_size now ready ∙ sizes)) ∙ none

      queued : NoneIsLong mtu (length start.plan.watches) start.sockets
      queued = none_queued now mtu left start (brought_told known now mtu r told) off

      waiting : NoneIsLong mtu n prepared.sockets
      waiting i there =
          subst (λ (ps : List (Option (SocketOf (Bor (Unit {0}))))). IfSome (option_and_then (λ place. place) (slice_get ps i)) (Fits mtu))
          (sym (round_places known now mtu left r))
          (queued i (subst (λ (k : ℕ). i < k) (sym as_many) there))

      fits : NoneIsLong mtu n polled
      fits = taken_fits mtu n prepared.sockets polled waiting taken
