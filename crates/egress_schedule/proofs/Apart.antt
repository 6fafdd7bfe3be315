-- Long packets are begun apart.
use Rattle.std.specs.Prelude.{ℕ, zero, suc, ◌≡◌, ◌≢◌, ◌<◌, ◌≤◌, ◌==◌, ◌⊎◌, ◌&&◌, not, nat_lt, Bool, true, false, is_some}
use Rattle.std.specs.Prelude.{ℤ, ◌<ℤ◌, List, [], ◌∷◌, length, get_or, slice_get, slice_set}
use Rattle.std.specs.Prelude.{Option, Some, None, IfSome, refl, if◌then◌else◌}
use Rattle.std.specs.Borrow.{Bor}
use Rattle.std.specs.Cmp.{int_ranks}
use Rattle.std.specs.Option.{option_and_then}
use Rattle.std.specs.Ordering.{int_cmp, is_ge, is_le, MatchOrdering}
use Rattle.std.specs.declared.cmp.Ordering.{Ordering}
use Rattle.std.specs.declared.cmp.Ordering.TheVariants.{Less, Equal, Greater}
use Rattle.std.proofs.Common.{inl, inr, sym, ap, ◌∙◌, subst, arith}
use Rattle.std.proofs.lemmas.Bool.{cases_eq, cases_lt, le-ltb, lt-ltb, ne_eqb, or_from}
use Rattle.std.proofs.lemmas.Int.{ints}
use Rattle.net_base.specs.Time.{silence_from}
use Rattle.ip_address.specs.declared.ip.IpAddress.{IpAddress}
use Rattle.sockets.specs.Queue.{first_of}
use Rattle.sockets.specs.declared.socket.SocketOf.{SocketOf}
use Rattle.sockets.specs.declared.socket.SocketOf.TheVariants.{Raw, Icmp, Udp, Tcp}
use Rattle.socket_set.specs.SocketMeta.{Wait}
use Rattle.socket_set.specs.SocketSet.{Sockets, socket_at, wait_at, wait_of, with_wait}
use Rattle.egress_schedule.specs.declared.watch.Waiting.{Waiting}
use Rattle.egress_schedule.specs.declared.watch.Watch.{Watch}
use Rattle.egress_schedule.specs.LongPackets.{after_setting_aside, after_setting_aside_at, has_long, is_long, next_long}
use Rattle.egress_schedule.specs.Asides.{is_over, nobody, own_wait, until_unasked, waiting_unasked, with_wait_aside}
use Rattle.egress_schedule.specs.Patience.{must_go}
use Rattle.egress_schedule.specs.Plan.{Plan, Planned, each_of, idle, waiting_at, watch_at}
use Rattle.egress_schedule.specs.Queues.{each_behind, first_len, len_behind, lens_to_send}
use Rattle.egress_schedule.specs.Rounds.{before_round, with_long_set_aside, with_packets_brought, with_packets_passing, with_turns_taken}
use Rattle.egress_schedule.specs.Turns.{after_hold_at, after_taking_turns, comes_before, if_held, is_free, is_held, next_to_ask}
use Rattle.egress_schedule.specs.Turns.{plan_asked, waiting_asked, with_wait_longer}
use Rattle.egress_schedule.specs.Laws.{IsTold, LongPacketsApart, MayBegin, may_be_asked}
use Rattle.egress_schedule.proofs.Ends.{here_set, kept, len_set, other_set}
use Rattle.egress_schedule.proofs.Brought.{brought_told}
use Rattle.egress_schedule.proofs.Passes.{all_brought_keep, nobody_stays, not_passing, passing_keeps}

-- a second later isn't yet
pub later_than : (t : ℤ) → is_le (int_cmp (silence_from t) t) ≡ false
later_than t = by (int_cmp (silence_from t) t) (int_ranks (silence_from t) t) where
  by : (o : Ordering) → MatchOrdering o (silence_from t <ℤ t) (silence_from t ≡ t) (t <ℤ silence_from t) → is_le o ≡ false
  by Less m = absurd (omega (arith, ints, m))
  by Equal m = absurd (omega (arith, ints, m))
  by Greater m = refl

not_yet : (t : ℤ) → is_ge (int_cmp t (silence_from t)) ≡ false
not_yet t = by (int_cmp t (silence_from t)) (int_ranks t (silence_from t)) where
  by : (o : Ordering) → MatchOrdering o (t <ℤ silence_from t) (t ≡ silence_from t) (silence_from t <ℤ t) → is_ge o ≡ false
  by Less m = refl
  by Equal m = absurd (omega (arith, ints, m))
  by Greater m = absurd (omega (arith, ints, m))

-- the wait of a socket that isn't asked isn't over
abbrev IsOn : ℤ → Option Waiting → Type 0
IsOn now o = IfSome o (λ w. is_over now w ≡ false)

pub lasts_longer : (now : ℤ) (w : Waiting) → is_over now (record w { until = until_unasked now w }) ≡ false
lasts_longer now w = by (is_over now w) refl where
  by : (b : Bool) → is_over now w ≡ b → is_le (int_cmp (if b then silence_from now else w.until) now) ≡ false
  by true is = later_than now
  by false is = is

pub goes_on : (now : ℤ) (o : Option Waiting) → IsOn now (waiting_unasked now o)
goes_on now None = tt
goes_on now (Some w) = lasts_longer now w

-- and still isn't where its neighbour is asked for
asks_on : (now : ℤ) (o : Option Waiting) → IsOn now o → IsOn now (waiting_asked now o)
asks_on now None on = tt
asks_on now (Some w) on = on

asked_is_on : (now : ℤ) (next i : ℕ) (plan : Plan) → IsOn now (get_or plan.watches i idle).waiting →
    IsOn now (get_or (plan_asked now next plan).watches i idle).waiting
asked_is_on now next i plan on = by (cases_lt next (length plan.watches)) where
  new : Watch
  new = record (get_or plan.watches next idle) { waiting = waiting_asked now (get_or plan.watches next idle).waiting }

  by : ((next < length plan.watches) ⊎ (length plan.watches ≤ next)) → IsOn now (get_or (plan_asked now next plan).watches i idle).waiting
  by (inr past) = rw (le-ltb next (length plan.watches) past) on
  by (inl there) = rw (lt-ltb next (length plan.watches) there) (two (cases_eq i next)) where
    two : ((i ≡ next) ⊎ (i ≡ next → ⊥)) → IsOn now (get_or (slice_set plan.watches next new) i idle).waiting
    two (inl same) = subst (λ (k : ℕ). IsOn now (get_or (slice_set plan.watches next new) k idle).waiting) (sym same)
        (subst (λ (x : Watch). IsOn now x.waiting) (sym (here_set plan.watches next new idle there))
        (asks_on now (get_or plan.watches next idle).waiting (subst (λ (k : ℕ). IsOn now (get_or plan.watches k idle).waiting) same on)))
    two (inr other) = subst (λ (x : Watch). IsOn now x.waiting) (sym (other_set plan.watches next i new idle other)) on

-- the first packet's length is the first of the lengths
pub first_is : {M : Type 0} (headers : ℕ) (ps : List (M × List ℕ)) → len_behind headers (first_of ps) ≡ get_or (each_behind headers ps) 0 0
first_is headers [] = refl
first_is headers (p ∷ ps) = refl

pub first_len_is : {L : Type 0} (s : SocketOf L) → first_len s ≡ get_or (lens_to_send s) 0 0
first_len_is (Raw s) = first_is 0 s.tx.packets
first_len_is (Icmp s) = first_is 20 s.tx.packets
first_len_is (Udp s) = first_is 28 s.tx.packets
first_len_is (Tcp s) = first_is 40 s.tx.packets

module _ {L : Type 0} where
  -- a socket that isn't asked: in place of its own wait there is one for nobody, and its own isn't over
  record IsAside (now : ℤ) (i : ℕ) (r : Planned L) : Type 0 where
    pub wait_is : wait_of r.sockets i ≡ Some (nobody, silence_from now)
    pub is_on : IsOn now (watch_at i r).waiting

  pub socket_there : (s : Sockets L) (i : ℕ) (socket : Option (SocketOf L)) → socket_at s i ≡ socket → (mtu : ℕ) → is_long mtu socket ≡ true →
      (wait : Wait) → wait_at s i ≡ wait → option_and_then (λ it. wait_at s i) (socket_at s i) ≡ wait
  socket_there s i None is mtu long wait at = absurd cc
  socket_there s i (Some socket) is mtu long wait at = rw is at

  abbrev count_of : Planned L → ℕ
  count_of r = length r.plan.watches

  abbrev waits_of : Planned L → ℕ
  waits_of r = length r.sockets.waits

  module _ (now : ℤ) (mtu : ℕ) where
    aside_here : (next i : ℕ) (r : Planned L) → i < count_of r → i < waits_of r → has_long mtu r.sockets i ≡ true → i ≢ next →
        IsAside now i (after_setting_aside_at mtu now next i r)
    aside_here next i r there has_wait long other = rw (long, ne_eqb i next other) aside where
      waiting : Option Waiting
      waiting = waiting_unasked now (watch_at i r).waiting

      new : Watch
      new = record (watch_at i r) { waiting = waiting; set_aside = Some (own_wait waiting (wait_of r.sockets i)) }

      aside : IsAside now i (with_wait_aside now i r)
      aside = record {
        wait_is = socket_there (with_wait r.sockets i (Some (nobody, silence_from now))) i (socket_at r.sockets i) refl mtu long
            (Some (nobody, silence_from now)) (here_set r.sockets.waits i (Some (nobody, silence_from now)) None has_wait);
        is_on = subst (λ (x : Watch). IsOn now x.waiting) (sym (here_set r.plan.watches i new idle there)) (goes_on now (watch_at i r).waiting);
      }

    -- others' steps leave it so
    aside_other : (next j i : ℕ) (r : Planned L) → i ≢ j → IsAside now i r → IsAside now i (after_setting_aside_at mtu now next j r)
    aside_other next j i r other aside = by (has_long mtu r.sockets j && not (j == next)) where
      by : (b : Bool) → IsAside now i (if b then with_wait_aside now j r else r)
      by false = aside
      by true = record {
        wait_is = ap (λ (w : Wait). option_and_then (λ it. w) (socket_at r.sockets i))
            (other_set r.sockets.waits j i (Some (nobody, silence_from now)) None other) ∙ aside.wait_is;
        is_on = subst (λ (x : Watch). IsOn now x.waiting) (sym (other_set r.plan.watches j i _ idle other)) aside.is_on;
      }

    aside_keeps_count : (next i : ℕ) (r : Planned L) → count_of (after_setting_aside_at mtu now next i r) ≡ count_of r
    aside_keeps_count next i r = by (has_long mtu r.sockets i && not (i == next)) where
      by : (b : Bool) → count_of (if b then with_wait_aside now i r else r) ≡ count_of r
      by false = refl
      by true = len_set r.plan.watches i _

    aside_keeps_waits : (next i : ℕ) (r : Planned L) → waits_of (after_setting_aside_at mtu now next i r) ≡ waits_of r
    aside_keeps_waits next i r = by (has_long mtu r.sockets i && not (i == next)) where
      by : (b : Bool) → waits_of (if b then with_wait_aside now i r else r) ≡ waits_of r
      by false = refl
      by true = len_set r.sockets.waits i _

    abbrev places_of : Planned L → List (Option (SocketOf L))
    places_of r = r.sockets.places

    aside_keeps_places : (next i : ℕ) (r : Planned L) → places_of (after_setting_aside_at mtu now next i r) ≡ places_of r
    aside_keeps_places next i r = by (has_long mtu r.sockets i && not (i == next)) where
      by : (b : Bool) → places_of (if b then with_wait_aside now i r else r) ≡ places_of r
      by false = refl
      by true = refl

    aside_all : (next : ℕ) (r : Planned L) (n i : ℕ) → n ≤ count_of r → i < n → i < waits_of r → has_long mtu r.sockets i ≡ true → i ≢ next →
        IsAside now i (each_of (after_setting_aside_at mtu now next) n r)
    aside_all next r zero i all within has_wait long other = absurd (omega (arith, within))
    aside_all next r (suc m) i all within has_wait long other =
        by (cases_eq i m) (λ less. aside_all next r m i (omega (arith, all)) less has_wait long other) where
          mid : Planned L
          mid = each_of (after_setting_aside_at mtu now next) m r

          count : count_of mid ≡ count_of r
          count = kept count_of (after_setting_aside_at mtu now next) (aside_keeps_count next) m r

          waits : waits_of mid ≡ waits_of r
          waits = kept waits_of (after_setting_aside_at mtu now next) (aside_keeps_waits next) m r

          places : places_of mid ≡ places_of r
          places = kept places_of (after_setting_aside_at mtu now next) (aside_keeps_places next) m r

          still_long : has_long mtu mid.sockets i ≡ true
          still_long = ap (λ (ps : List (Option (SocketOf L))). is_long mtu (option_and_then (λ place. place) (slice_get ps i))) places ∙ long

          by : ((i ≡ m) ⊎ (i ≡ m → ⊥)) → (i < m → IsAside now i mid) → IsAside now i (after_setting_aside_at mtu now next m mid)
          by (inl same) before =
              subst (λ (k : ℕ). IsAside now i (after_setting_aside_at mtu now next k mid)) same
              (aside_here next i mid (rw count (omega (arith, all, within))) (rw waits has_wait) still_long other)
          by (inr apart) before = aside_other next m i mid apart (before (omega (arith, within, apart)))

    -- turns leave it so
    held_here : (next i : ℕ) (r : Planned L) → IsAside now i r → IsAside now i (after_hold_at now next i r)
    held_here next i r aside = by (is_some (wait_of r.sockets i)) where
      not_free : is_free now (wait_of r.sockets i) ≡ false
      not_free = rw aside.wait_is (later_than now)

      two : (o : Option Waiting) → IsOn now o → IsAside now i (if_held now next i r o)
      two None on = rw not_free aside
      two (Some w) on = rw on aside

      by : (b : Bool) → IsAside now i (if_held now next i r (if b then (watch_at i r).waiting else None))
      by true = two (watch_at i r).waiting aside.is_on
      by false = two None tt

    held_other : (next j i : ℕ) (r : Planned L) → i ≢ j → IsAside now i r → IsAside now i (after_hold_at now next j r)
    held_other next j i r other aside = by (waiting_at j r) where
      none : (b : Bool) → IsAside now i (if b then with_wait_aside now j r else r)
      none false = aside
      none true = record {
        wait_is = ap (λ (x : Wait). option_and_then (λ it. x) (socket_at r.sockets i))
            (other_set r.sockets.waits j i (Some (nobody, silence_from now)) None other) ∙ aside.wait_is;
        is_on = subst (λ (x : Watch). IsOn now x.waiting) (sym (other_set r.plan.watches j i _ idle other)) aside.is_on;
      }

      by : (o : Option Waiting) → IsAside now i (if_held now next j r o)
      by None = none (comes_before now next j r)
      by (Some w) = two (is_held r.plan.patience now (must_go now j r w) (nat_lt j next) w) where
        two : (b : Bool) → IsAside now i (if b then with_wait_longer now j w r else r)
        two false = aside
        two true = record {
          wait_is = ap (λ (x : Wait). option_and_then (λ it. x) (socket_at r.sockets i))
              (other_set r.sockets.waits j i (Some (w.neighbor, silence_from now)) None other) ∙ aside.wait_is;
          is_on = subst (λ (x : Watch). IsOn now x.waiting) (sym (other_set r.plan.watches j i _ idle other)) aside.is_on;
        }

    held_all : (next n i : ℕ) (r : Planned L) → IsAside now i r → IsAside now i (each_of (after_hold_at now next) n r)
    held_all next zero i r aside = aside
    held_all next (suc m) i r aside = by (cases_eq i m) (held_all next m i r aside) where
      mid : Planned L
      mid = each_of (after_hold_at now next) m r

      by : ((i ≡ m) ⊎ (i ≡ m → ⊥)) → IsAside now i mid → IsAside now i (after_hold_at now next m mid)
      by (inl same) before = subst (λ (k : ℕ). IsAside now i (after_hold_at now next k mid)) same (held_here next i mid before)
      by (inr other) before = held_other next m i mid other before

    turns_leave : (r : Planned L) (i : ℕ) → IsAside now i r → IsAside now i (with_turns_taken now r)
    turns_leave r i aside = by r.plan.is_waiting where
      by : (b : Bool) → IsAside now i (if b then after_taking_turns now r else r)
      by false = aside
      by true = turned (held_all (next_to_ask now r) (count_of r) i r aside) where
        next : ℕ
        next = next_to_ask now r

        turned : IsAside now i (each_of (after_hold_at now next) (count_of r) r) → IsAside now i (after_taking_turns now r)
        turned all = record {
          wait_is = all.wait_is;
          is_on = asked_is_on now next i (each_of (after_hold_at now next) (count_of r) r).plan all.is_on;
        }

-- who isn't asked isn't asked
never_asked : (known : IpAddress → Bool) (now : ℤ) (wait : Wait) → known nobody ≡ false → wait ≡ Some (nobody, silence_from now) →
    may_be_asked known now wait ≡ false
never_asked known now wait nobodys is = rw is (or_from (known nobody) (is_ge (int_cmp now (silence_from now))) nobodys (not_yet now))

-- where no packet is long, no first one is
none_is_first : (mtu : ℕ) (socket : Option (SocketOf (Bor (Unit {0})))) →
    IfSome socket (λ s. (j : ℕ) → get_or (lens_to_send s) j 0 ≤ mtu) → is_long mtu socket ≡ true → ⊥
none_is_first mtu None all long = absurd cc
none_is_first mtu (Some s) all long =
    let short : first_len s ≤ mtu = subst (λ (n : ℕ). n ≤ mtu) (sym (first_len_is s)) (all 0) in
    absurd (let never : true ≡ false = sym long ∙ le-ltb mtu (first_len s) short in cc)

-- a wait that is for nobody stays so where others pass
pass_leaves : {L : Type 0} (known : IpAddress → Bool) (now : ℤ) (i : ℕ) (r : Planned L) → wait_of r.sockets i ≡ Some (nobody, silence_from now) →
    wait_of (with_packets_passing known now r).sockets i ≡ Some (nobody, silence_from now)
pass_leaves known now i r aside =
    not_passing known now i r (nobody_stays known now (silence_from now) (socket_at r.sockets i) (wait_of r.sockets i) aside) ∙ aside

-- sockets stay at their places where they have their turns
pub turned_places : {L : Type 0} (now : ℤ) (r : Planned L) → (with_turns_taken now r).sockets.places ≡ r.sockets.places
turned_places {L = L} now r = by r.plan.is_waiting where
  next : ℕ
  next = next_to_ask now r

  step : (i : ℕ) (s : Planned L) → (after_hold_at now next i s).sockets.places ≡ s.sockets.places
  step i s = two (waiting_at i s) where
    none : (b : Bool) → (if b then with_wait_aside now i s else s).sockets.places ≡ s.sockets.places
    none false = refl
    none true = refl

    two : (o : Option Waiting) → (if_held now next i s o).sockets.places ≡ s.sockets.places
    two None = none (comes_before now next i s)
    two (Some w) = three (is_held s.plan.patience now (must_go now i s w) (nat_lt i next) w) where
      three : (b : Bool) → (if b then with_wait_longer now i w s else s).sockets.places ≡ s.sockets.places
      three false = refl
      three true = refl

  by : (b : Bool) → (if b then after_taking_turns now r else r).sockets.places ≡ r.sockets.places
  by false = refl
  by true = kept (λ (s : Planned L). s.sockets.places) (after_hold_at now next) step (length r.plan.watches) r

pub aside_places : {L : Type 0} (now : ℤ) (mtu : ℕ) (left : Bool) (r : Planned L) → (with_long_set_aside mtu now left r).sockets.places ≡ r.sockets.places
aside_places {L = L} now mtu left r = by r.plan.may_have_long where
  by : (b : Bool) → (if b then after_setting_aside mtu now left r else r).sockets.places ≡ r.sockets.places
  by false = refl
  by true = kept (λ (s : Planned L). s.sockets.places) (after_setting_aside_at mtu now (next_long mtu left r))
      (aside_keeps_places now mtu (next_long mtu left r)) (length r.plan.watches) r

-- by a round they change only by what comes forward
pub round_places : {L : Type 0} (known : IpAddress → Bool) (now : ℤ) (mtu : ℕ) (left : Bool) (r : Planned L) →
    (before_round known now mtu left r).sockets.places ≡ (with_packets_brought known now r).sockets.places
round_places {L = L} known now mtu left r =
    passing_keeps known now (λ s. s.sockets.places) (λ i s. refl) (with_turns_taken now (with_long_set_aside mtu now left start))
    ∙ (turned_places now (with_long_set_aside mtu now left start) ∙ aside_places now mtu left start) where
      start : Planned L
      start = with_packets_brought known now r

module _ (known : IpAddress → Bool) (now : ℤ) (mtu : ℕ) (left : Bool) (r0 : Planned (Bor (Unit {0}))) where
  abbrev start : Planned (Bor (Unit {0}))
  start = with_packets_brought known now r0

  -- who may begin a long packet is the one whose turn it is
  whose_turn : (i : ℕ) → known nobody ≡ false → IsTold mtu start → MayBegin known now mtu left r0 i → i ≡ next_long mtu left start
  whose_turn i nobodys told begins = by start.plan.may_have_long refl where
    r : Planned (Bor (Unit {0}))
    r = start

    next : ℕ
    next = next_long mtu left start

    there : i < length start.plan.watches
    there = subst (λ (n : ℕ). i < n) (sym (all_brought_keep known now (λ plan waits. length plan.watches) r0)) begins.there

    has_wait : i < length start.sockets.waits
    has_wait = subst (λ (n : ℕ). i < n) (sym (all_brought_keep known now (λ plan waits. length waits) r0)) begins.has_wait

    long : has_long mtu start.sockets i ≡ true
    long = ap (λ (ps : List (Option (SocketOf (Bor (Unit {0}))))). is_long mtu (option_and_then (λ place. place) (slice_get ps i)))
        (sym (round_places known now mtu left r0)) ∙ begins.is_long

    by : (b : Bool) → start.plan.may_have_long ≡ b → i ≡ next
    by false none = absurd (none_is_first mtu (socket_at start.sockets i) (told none i there) long)
    by true may = two (cases_eq i next) where
      two : ((i ≡ next) ⊎ (i ≡ next → ⊥)) → i ≡ next
      two (inl same) = same
      two (inr other) = absurd (let never : true ≡ false = sym begins.is_asked ∙ not_asked in cc) where
        all : IsAside now i (each_of (after_setting_aside_at mtu now next) (length r.plan.watches) r)
        all = aside_all now mtu next r (length r.plan.watches) i (omega arith) there has_wait long other

        aside : IsAside now i (with_long_set_aside mtu now left r)
        aside = subst (λ (b : Bool). IsAside now i (if b then after_setting_aside mtu now left r else r)) (sym may)
            (record { wait_is = all.wait_is; is_on = all.is_on })

        turned : IsAside now i (with_turns_taken now (with_long_set_aside mtu now left r))
        turned = turns_leave now mtu (with_long_set_aside mtu now left r) i aside

        not_asked : may_be_asked known now (wait_of (before_round known now mtu left r0).sockets i) ≡ false
        not_asked = never_asked known now _ nobodys
            (pass_leaves known now i (with_turns_taken now (with_long_set_aside mtu now left r)) turned.wait_is)

  none_left : (i : ℕ) → i < length start.plan.watches → i ≡ next_long mtu left start → left ≡ false
  none_left i there is = by left refl where
    by : (b : Bool) → left ≡ b → left ≡ false
    by false none = none
    by true some =
        absurd (let past : i ≡ length start.plan.watches = is ∙ ap (λ (b : Bool). next_long mtu b start) some in omega (arith, past, there))

pub long_packets_apart : LongPacketsApart
long_packets_apart known now mtu left r i nobodys told begins = (
  none_left known now mtu left r i
      (subst (λ (n : ℕ). i < n) (sym (all_brought_keep known now (λ plan waits. length plan.watches) r)) begins.there)
      (whose_turn known now mtu left r i nobodys still begins),
  λ j other. whose_turn known now mtu left r j nobodys still other ∙ sym (whose_turn known now mtu left r i nobodys still begins),
) where
  still : IsTold mtu (with_packets_brought known now r)
  still = brought_told known now mtu r told
