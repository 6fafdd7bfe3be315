-- Packets to neighbours that are known go in their round, and the order to each destination stays.
use Rattle.std.specs.Prelude.{ℕ, zero, suc, ◌≡◌, ◌≢◌, ◌<◌, ◌≤◌, ◌+◌, ◌==◌, ◌&&◌, ◌||◌, ◌⊎◌, not, nat_lt, Bool, true, false, is_some}
use Rattle.std.specs.Prelude.{ℤ, List, [], ◌∷◌, ◌++◌, length, map, take, drop, get_or, slice_get, Option, Some, None, IfSome, cond, refl, if◌then◌else◌}
use Rattle.std.specs.Borrow.{Bor}
use Rattle.std.specs.List.{filter}
use Rattle.std.specs.Option.{option_and_then, option_map}
use Rattle.std.specs.Ordering.{int_cmp, is_gt}
use Rattle.std.proofs.Common.{inl, inr, sym, ap, ◌∙◌, subst, arith}
use Rattle.std.proofs.lemmas.Bool.{and_from, eqb-true, not_from_false}
use Rattle.ip_address.specs.declared.ip.IpAddress.{IpAddress}
use Rattle.ip_address.specs.declared.ip.IpAddress.TheVariants.{Ipv4, Ipv6}
use Rattle.sockets.specs.Kinds.{destinations, socket_brought_forward}
use Rattle.sockets.specs.Queue.{brought_forward, brought_from}
use Rattle.sockets.specs.Source.{is_same}
use Rattle.sockets.specs.declared.socket.SocketOf.{SocketOf}
use Rattle.sockets.specs.declared.socket.SocketOf.TheVariants.{Raw, Icmp, Udp, Tcp}
use Rattle.socket_set.specs.SocketMeta.{Wait}
use Rattle.socket_set.specs.SocketSet.{socket_at, wait_of}
use Rattle.egress_schedule.specs.declared.watch.Waiting.{Waiting}
use Rattle.egress_schedule.specs.declared.watch.Watch.{Watch}
use Rattle.egress_schedule.specs.Asides.{is_over, nobody, with_wait_aside}
use Rattle.egress_schedule.specs.LongPackets.{after_setting_aside, after_setting_aside_at, has_long, is_long, next_long}
use Rattle.egress_schedule.specs.Passing.{after_passing, before_first, goes_first, is_first_for, is_for, may_pass, with_first_for}
use Rattle.egress_schedule.specs.Patience.{must_go}
use Rattle.egress_schedule.specs.Plan.{Plan, Planned, each_of, idle, waiting_at, watch_at, with_watch}
use Rattle.egress_schedule.specs.Rounds.{with_long_set_aside, with_packets_brought, with_packets_passing, with_turns_taken}
use Rattle.egress_schedule.specs.Turns.{after_hold_at, after_taking_turns, comes_before, if_held, is_held, next_to_ask, plan_asked, waiting_asked, with_wait_longer}
use Rattle.egress_schedule.specs.Laws.{HasKnown, KnownPass, OrderIsKept, WaitsInVain, packets_for, packets_of}
use Rattle.egress_schedule.proofs.Brought.{brought_destinations, map_brought}
use Rattle.egress_schedule.proofs.Ends.{kept}
use Rattle.egress_schedule.proofs.Expected.{aside_count}
use Rattle.egress_schedule.proofs.GoesOn.{Kept, Own, aside_kept, aside_leaves, bring_own, hold_leaves, later, turns_kept}
use Rattle.egress_schedule.proofs.Passes.{all_brought_keep, passing_keeps}
use Rattle.egress_schedule.proofs.Seen.{Seen, brought_seen, fold_seen, if_some_waits, passed_in, passed_seen, seen, wait_in, waiting_in}

abbrev L : Type 0
L = Bor (Unit {0})

abbrev or_none : Option (Option IpAddress) → Option IpAddress
or_none None = None
or_none (Some d) = d

-- where one is read, it is there
read_is : (ds : List (Option IpAddress)) (k : ℕ) (x : Option IpAddress) → slice_get ds k ≡ Some x → x ≡ get_or ds k None
read_is [] k x is = absurd cc
read_is (y ∷ ys) zero x is = sym (ap or_none is)
read_is (y ∷ ys) (suc k) x is = read_is ys k x is

never_read : (ds : List (Option IpAddress)) (k : ℕ) → k < length ds → slice_get ds k ≡ None → ⊥
never_read [] k less is = absurd (omega (arith, less))
never_read (x ∷ xs) zero less is = absurd cc
never_read (x ∷ xs) (suc k) less is = never_read xs k (omega (arith, less)) is

-- the first is the one that came forward
first_of_brought : (k : ℕ) (ds : List (Option IpAddress)) → k < length ds → get_or (brought_forward k ds) 0 None ≡ get_or ds k None
first_of_brought k ds less = by (slice_get ds k) refl where
  by : (o : Option (Option IpAddress)) → slice_get ds k ≡ o → get_or (brought_from k o ds) 0 None ≡ get_or ds k None
  by None is = absurd (never_read ds k less is)
  by (Some x) is = read_is ds k x is

-- the one before which so many stand is for such an address
one_is_for : (p : IpAddress → Bool) (ds : List (Option IpAddress)) → before_first p ds < length ds →
    is_for p (get_or ds (before_first p ds) None) ≡ true
one_is_for p [] within = absurd (omega (arith, within))
one_is_for p (d ∷ ds) within = by (is_for p d) refl within (one_is_for p ds) where
  by : (b : Bool) → is_for p d ≡ b → (if b then zero else suc (before_first p ds)) < suc (length ds) →
      (before_first p ds < length ds → is_for p (get_or ds (before_first p ds) None) ≡ true) →
      is_for p (get_or (d ∷ ds) (if b then zero else suc (before_first p ds)) None) ≡ true
  by true is less rest = is
  by false is less rest = rest (omega (arith, less))

found_is : (p : IpAddress → Bool) (ds : List (Option IpAddress)) → before_first p ds < length ds →
    is_for p (get_or (brought_forward (before_first p ds) ds) 0 None) ≡ true
found_is p ds within = ap (is_for p) (first_of_brought (before_first p ds) ds within) ∙ one_is_for p ds within

-- whether some socket waits is the same where turns are taken
turned_waits : (now : ℤ) (r : Planned L) → (with_turns_taken now r).plan.is_waiting ≡ r.plan.is_waiting
turned_waits now r = by r.plan.is_waiting where
  next : ℕ
  next = next_to_ask now r

  asked : (plan : Plan) → (plan_asked now next plan).is_waiting ≡ plan.is_waiting
  asked plan = two (nat_lt next (length plan.watches)) where
    new : Watch
    new = record (get_or plan.watches next idle) { waiting = waiting_asked now (get_or plan.watches next idle).waiting }

    two : (b : Bool) → (if b then record (with_watch next new plan) { asked = Some now } else plan).is_waiting ≡ plan.is_waiting
    two false = refl
    two true = refl

  step : (i : ℕ) (s : Planned L) → (after_hold_at now next i s).plan.is_waiting ≡ s.plan.is_waiting
  step i s = two (waiting_at i s) where
    none : (b : Bool) → (if b then with_wait_aside now i s else s).plan.is_waiting ≡ s.plan.is_waiting
    none false = refl
    none true = refl

    two : (o : Option Waiting) → (if_held now next i s o).plan.is_waiting ≡ s.plan.is_waiting
    two None = none (comes_before now next i s)
    two (Some w) = three (is_held s.plan.patience now (must_go now i s w) (nat_lt i next) w) where
      three : (b : Bool) → (if b then with_wait_longer now i w s else s).plan.is_waiting ≡ s.plan.is_waiting
      three false = refl
      three true = refl

  by : (b : Bool) → (if b then after_taking_turns now r else r).plan.is_waiting ≡ r.plan.is_waiting
  by false = refl
  by true = asked (each_of (after_hold_at now next) (length r.plan.watches) r).plan
      ∙ kept (λ (s : Planned L). s.plan.is_waiting) (after_hold_at now next) step (length r.plan.watches) r

aside_waits : (now : ℤ) (mtu : ℕ) (left : Bool) (r : Planned L) → (with_long_set_aside mtu now left r).plan.is_waiting ≡ r.plan.is_waiting
aside_waits now mtu left r = by r.plan.may_have_long where
  step : (j : ℕ) (s : Planned L) → (after_setting_aside_at mtu now (next_long mtu left r) j s).plan.is_waiting ≡ s.plan.is_waiting
  step j s = two (has_long mtu s.sockets j && not (j == next_long mtu left r)) where
    two : (b : Bool) → (if b then with_wait_aside now j s else s).plan.is_waiting ≡ s.plan.is_waiting
    two false = refl
    two true = refl

  by : (b : Bool) → (if b then after_setting_aside mtu now left r else r).plan.is_waiting ≡ r.plan.is_waiting
  by false = refl
  by true = kept (λ (s : Planned L). s.plan.is_waiting) (after_setting_aside_at mtu now (next_long mtu left r)) step (length r.plan.watches) r

-- a socket of this wait and packet, whose wait isn't over, and whose packet isn't long, is left so until packets pass
record Stays (now : ℤ) (mtu : ℕ) (w : Waiting) (s : SocketOf L) (x : Seen) : Type 0 where
  pub is_noted : x.watch.waiting ≡ Some w
  pub is_set : wait_in x ≡ Some (w.neighbor, w.until)
  pub is_socket : x.socket ≡ Some s

module _ (now : ℤ) (mtu : ℕ) (w : Waiting) (s : SocketOf L) (i : ℕ) (on : is_over now w ≡ false) (short : is_long mtu (Some s) ≡ false) where
  aside_stays : (next : ℕ) (r : Planned L) → Stays now mtu w s (seen i r) → Stays now mtu w s (seen i (after_setting_aside_at mtu now next i r))
  aside_stays next r stays = subst (λ (b : Bool). Stays now mtu w s (seen i (if b && not (i == next) then with_wait_aside now i r else r)))
      (sym (ap (is_long mtu) stays.is_socket ∙ short)) stays

  hold_stays : (next : ℕ) (r : Planned L) → Stays now mtu w s (seen i r) → Stays now mtu w s (seen i (after_hold_at now next i r))
  hold_stays next r stays = subst (λ (o : Option Waiting). Stays now mtu w s (seen i (if_held now next i r o))) (sym at)
      (subst (λ (b : Bool). Stays now mtu w s (seen i (if b then with_wait_longer now i w r else r))) (sym not_held) stays) where
        at : waiting_at i r ≡ Some w
        at = rw stays.is_set stays.is_noted

        not_held : is_held r.plan.patience now (must_go now i r w) (nat_lt i next) w ≡ false
        not_held = rw on refl

  all_aside_stays : (left : Bool) (r : Planned L) → i < length r.plan.watches → Stays now mtu w s (seen i r) →
      Stays now mtu w s (seen i (with_long_set_aside mtu now left r))
  all_aside_stays left r there stays = by r.plan.may_have_long where
    next : ℕ
    next = next_long mtu left r

    all : Stays now mtu w s (seen i (each_of (after_setting_aside_at mtu now next) (length r.plan.watches) r))
    all = (fold_seen (Stays now mtu w s) (Stays now mtu w s) (after_setting_aside_at mtu now next) i (aside_leaves now now mtu nobody next i)
        (aside_stays next) (length r.plan.watches) r stays).1 there

    by : (b : Bool) → Stays now mtu w s (seen i (if b then after_setting_aside mtu now left r else r))
    by false = stays
    by true = record { is_noted = all.is_noted; is_set = all.is_set; is_socket = all.is_socket }

  turns_stay : (r : Planned L) → i < length r.plan.watches → Stays now mtu w s (seen i r) →
      (wait_of (with_turns_taken now r).sockets i ≡ Some (w.neighbor, w.until)) × (socket_at (with_turns_taken now r).sockets i ≡ Some s)
  turns_stay r there stays = by r.plan.is_waiting where
    next : ℕ
    next = next_to_ask now r

    all : Stays now mtu w s (seen i (each_of (after_hold_at now next) (length r.plan.watches) r))
    all = (fold_seen (Stays now mtu w s) (Stays now mtu w s) (after_hold_at now next) i (hold_leaves now now mtu nobody next i)
        (hold_stays next) (length r.plan.watches) r stays).1 there

    by : (b : Bool) → (wait_of (if b then after_taking_turns now r else r).sockets i ≡ Some (w.neighbor, w.until))
        × (socket_at (if b then after_taking_turns now r else r).sockets i ≡ Some s)
    by false = (stays.is_set, stays.is_socket)
    by true = (all.is_set, all.is_socket)

pub known_pass : KnownPass
known_pass known now mtu left r0 i w s waits vain is_socket has_known short = (is_free, is_first) where
  k : ℕ
  k = before_first known (destinations s)

  first : SocketOf L
  first = with_first_for known s

  r : Planned L
  r = with_packets_brought known now r0

  start : Planned L
  start = with_long_set_aside mtu now left r

  turned : Planned L
  turned = with_turns_taken now start

  x : Seen
  x = seen i r0

  brought : Stays now mtu w first (seen i r)
  brought = subst (Stays now mtu w first) (sym (brought_seen known now i r0 waits vain.is_watched))
      (subst (λ (o : Option Waiting). Stays now mtu w first (if_some_waits known now x o)) (sym at) (record {
        is_noted = vain.is_noted;
        is_set = wait_is;
        is_socket = socket_is;
      })) where
        at : waiting_in x ≡ Some w
        at = rw vain.is_set vain.is_noted

        socket_is : option_map (with_first_for (goes_first known now w)) x.socket ≡ Some first
        socket_is = ap (option_map (with_first_for (goes_first known now w))) is_socket
            ∙ ap (λ (b : Bool). Some (with_first_for (if b then is_same w.neighbor else known) s)) vain.is_on

        wait_is : option_and_then (λ it. x.wait) (option_map (with_first_for (goes_first known now w)) x.socket) ≡ Some (w.neighbor, w.until)
        wait_is = by x.socket vain.is_set where
          by : (o : Option (SocketOf L)) → option_and_then (λ it. x.wait) o ≡ Some (w.neighbor, w.until) →
              option_and_then (λ it. x.wait) (option_map (with_first_for (goes_first known now w)) o) ≡ Some (w.neighbor, w.until)
          by None is = is
          by (Some y) is = is

  there : i < length r.plan.watches
  there = subst (λ (n : ℕ). i < n) (sym (all_brought_keep known now (λ plan waits. length plan.watches) r0)) vain.is_watched

  kept_so : Kept now w.since mtu w.neighbor i (seen i turned)
  kept_so = turns_kept now w.since mtu w.neighbor i start start_kept (there_by start start_kept) where
    there_by : (t : Planned L) → Kept now w.since mtu w.neighbor i (seen i t) → i < length t.plan.watches
    there_by t (inl own) = own.is_watched
    there_by t (inr aside) = aside.is_watched

    start_kept : Kept now w.since mtu w.neighbor i (seen i start)
    start_kept = aside_kept now w.since mtu w.neighbor left i r (bring_own now w.since mtu w.neighbor known i r0 (record {
      w = w;
      is_noted = vain.is_noted;
      for_whom = refl;
      since_when = refl;
      is_own = vain.is_own;
      is_set = vain.is_set;
      is_watched = vain.is_watched;
      has_wait = vain.has_wait;
    }))

  has_places : Kept now w.since mtu w.neighbor i (seen i turned) → (i < length turned.plan.watches) × (i < length turned.sockets.waits)
  has_places (inl own) = (own.is_watched, own.has_wait)
  has_places (inr aside) = (aside.is_watched, aside.has_wait)

  so_far : (wait_of turned.sockets i ≡ Some (w.neighbor, w.until)) × (socket_at turned.sockets i ≡ Some first)
  so_far = turns_stay now mtu w first i vain.is_on short start
      (subst (λ (n : ℕ). i < n) (sym as_many) there) (all_aside_stays now mtu w first i vain.is_on short left r there brought) where
        as_many : length start.plan.watches ≡ length r.plan.watches
        as_many = aside_count now mtu left r

  still_waits : turned.plan.is_waiting ≡ true
  still_waits = turned_waits now start ∙ (aside_waits now mtu left r ∙ (all_brought_keep known now (λ plan waits. plan.is_waiting) r0 ∙ waits))

  passes : may_pass known now (socket_at turned.sockets i) (wait_of turned.sockets i) ≡ true
  passes = ap (λ (o : Option (SocketOf L)). may_pass known now o (wait_of turned.sockets i)) so_far.1
      ∙ (ap (may_pass known now (Some first)) so_far.0
      ∙ and_from (not (is_same w.neighbor nobody)) _ (not_from_false (is_same w.neighbor nobody) vain.is_somebody)
      (and_from (is_gt (int_cmp w.until now)) _ (later w.until now vain.is_on)
      (and_from (not (known w.neighbor)) _ (not_from_false (known w.neighbor) vain.is_unknown)
      (ap (λ (ds : List (Option IpAddress)). is_for known (get_or ds 0 None)) (brought_destinations k s) ∙ found_is known (destinations s) has_known))))

  y : Seen
  y = seen i turned

  last : seen i (with_packets_passing known now turned) ≡ record y { watch = record y.watch { set_aside = Some (wait_in y) }; wait = None }
  last = passed_seen known now i turned still_waits (has_places kept_so).0 (has_places kept_so).1
      ∙ ap (λ (b : Bool). if b then record y { watch = record y.watch { set_aside = Some (wait_in y) }; wait = None } else y) passes

  nobody_waits : (o : Option (SocketOf L)) (wait : Wait) → wait ≡ None → option_and_then (λ it. wait) o ≡ None
  nobody_waits None wait is = refl
  nobody_waits (Some socket) wait is = is

  is_free : wait_of (with_packets_passing known now turned).sockets i ≡ None
  is_free = ap wait_in last ∙ nobody_waits y.socket None refl

  is_first : socket_at (with_packets_passing known now turned).sockets i ≡ Some first
  is_first = ap (λ (z : Seen). z.socket) last ∙ so_far.1

-- equal addresses are one
same_is : (a b : IpAddress) → is_same a b ≡ true → a ≡ b
same_is (Ipv4 a) (Ipv4 b) is = ap (λ (n : ℕ). Ipv4 (record { bits = n })) (eqb-true a.bits b.bits is)
same_is (Ipv4 a) (Ipv6 b) is = absurd cc
same_is (Ipv6 a) (Ipv4 b) is = absurd cc
same_is (Ipv6 a) (Ipv6 b) is = ap (λ (n : ℕ). Ipv6 (record { bits = n })) (eqb-true a.bits b.bits is)

-- of two destinations one of which has a property only one is an address
apart : (p : IpAddress → Bool) (d : IpAddress) (a b : Option IpAddress) → is_for p a ≡ false → is_for p b ≡ true → is_for (is_same d) a ≡ true →
    is_for (is_same d) b ≡ false
apart p d None b isnt is same = absurd cc
apart p d (Some x) None isnt is same = absurd cc
apart p d (Some x) (Some y) isnt is same = by (is_same d y) refl where
  by : (c : Bool) → is_same d y ≡ c → c ≡ false
  by false e = refl
  by true e = absurd (let never : true ≡ false = sym is ∙ (ap p (sym (same_is d y e) ∙ same_is d x same) ∙ isnt) in cc)

abbrev Offer : Type 0
Offer = Option IpAddress × List ℕ

abbrev to : IpAddress → Offer → Bool
to d x = is_for (is_same d) x.0

-- what comes forward is for such an address
is_right : (p : IpAddress → Bool) (xs : List Offer) (y : Offer) → slice_get xs (before_first p (map (λ x. x.0) xs)) ≡ Some y → is_for p y.0 ≡ true
is_right p [] y is = absurd cc
is_right p (x ∷ xs) y is = by (is_for p x.0) refl is (is_right p xs y) where
  k : ℕ
  k = before_first p (map (λ x. x.0) xs)

  by : (b : Bool) → is_for p x.0 ≡ b → slice_get (x ∷ xs) (if b then zero else suc k) ≡ Some y → (slice_get xs k ≡ Some y → is_for p y.0 ≡ true) →
      is_for p y.0 ≡ true
  by true has at rest = subst (λ (o : Option Offer). IfSome o (λ z. is_for p z.0 ≡ true)) at has
  by false has at rest = rest at

in_order : (p : IpAddress → Bool) (d : IpAddress) (xs : List Offer) →
    filter (to d) (brought_forward (before_first p (map (λ x. x.0) xs)) xs) ≡ filter (to d) xs
in_order p d [] = refl
in_order p d (x ∷ xs) = by (is_for p x.0) refl (in_order p d xs) where
  k : ℕ
  k = before_first p (map (λ x. x.0) xs)

  by : (b : Bool) → is_for p x.0 ≡ b → filter (to d) (brought_forward k xs) ≡ filter (to d) xs →
      filter (to d) (brought_forward (if b then zero else suc k) (x ∷ xs)) ≡ filter (to d) (x ∷ xs)
  by true has rest = refl
  by false hasnt rest = two (slice_get xs k) refl rest where
    two : (o : Option Offer) → slice_get xs k ≡ o → filter (to d) (brought_from k o xs) ≡ filter (to d) xs →
        filter (to d) (brought_from (suc k) o (x ∷ xs)) ≡ filter (to d) (x ∷ xs)
    two None is rest = refl
    two (Some y) is rest = ap (λ (n : ℕ). filter (to d) (y ∷ (x ∷ (take k xs ++ drop n (x ∷ xs))))) next ∙ three (to d x) refl where
      next : suc k + 1 ≡ suc (k + 1)
      next = omega arith

      others : List Offer
      others = take k xs ++ drop (k + 1) xs

      three : (c : Bool) → to d x ≡ c → filter (to d) (y ∷ (x ∷ others)) ≡ filter (to d) (x ∷ xs)
      three false isnt = rw isnt rest
      three true goes = rw (goes, other) (ap (λ (zs : List Offer). x ∷ zs) (subst (λ (c : Bool). cond c (y ∷ filter (to d) others) (filter (to d) others) ≡ filter (to d) xs) other rest)) where
        other : to d y ≡ false
        other = apart p d x.0 y.0 hasnt (is_right p xs y is) goes

-- a socket's packets, where one comes forward
brought_packets : (j : ℕ) (s : SocketOf L) → packets_of (socket_brought_forward j s) ≡ brought_forward j (packets_of s)
brought_packets j (Raw s) = map_brought _ j s.tx.packets
brought_packets j (Icmp s) = map_brought _ j s.tx.packets
brought_packets j (Udp s) = map_brought _ j s.tx.packets
brought_packets j (Tcp s) = map_brought _ j s.tx.packets

both_maps : {A : Type 0} (f : A → Offer) (xs : List A) → map (λ (x : Offer). x.0) (map f xs) ≡ map (λ (x : A). (f x).0) xs
both_maps f [] = refl
both_maps f (x ∷ xs) = ap (λ (zs : List (Option IpAddress)). (f x).0 ∷ zs) (both_maps f xs)

their_destinations : (s : SocketOf L) → map (λ (x : Offer). x.0) (packets_of s) ≡ destinations s
their_destinations (Raw s) = both_maps _ s.tx.packets
their_destinations (Icmp s) = both_maps _ s.tx.packets
their_destinations (Udp s) = both_maps _ s.tx.packets
their_destinations (Tcp s) = both_maps _ s.tx.packets

pub order_is_kept : OrderIsKept
order_is_kept p s d =
    ap (packets_for d) (brought_packets (before_first p (destinations s)) s)
    ∙ (ap (λ (ds : List (Option IpAddress)). packets_for d (brought_forward (before_first p ds) (packets_of s))) (sym (their_destinations s))
    ∙ in_order p d (packets_of s))
