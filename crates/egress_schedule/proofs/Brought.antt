-- A packet that comes forward leaves the others, and their lengths, as they were.
use Rattle.std.specs.Prelude.{ℕ, zero, suc, ◌≡◌, ◌<◌, ◌≤◌, ◌+◌, Bool, true, false, List, [], ◌∷◌, ◌++◌, length, map, take, drop, get_or, slice_get, slice_set}
use Rattle.std.specs.Prelude.{ℤ, Option, Some, None, IfSome, refl, if◌then◌else◌}
use Rattle.std.specs.Borrow.{Bor}
use Rattle.std.specs.Option.{option_and_then, option_map}
use Rattle.std.proofs.Common.{sym, ap, ◌∙◌, subst, arith}
use Rattle.std.proofs.lemmas.List.{take-map, drop-map, map-append, length-append, length-drop, length-take-le}
use Rattle.std.proofs.lemmas.Option.{slice_get-map, slice_get_within}
use Rattle.ip_address.specs.declared.ip.IpAddress.{IpAddress}
use Rattle.sockets.specs.Kinds.{destinations, socket_brought_forward}
use Rattle.sockets.specs.Queue.{brought_forward, brought_from}
use Rattle.sockets.specs.declared.socket.SocketOf.{SocketOf}
use Rattle.sockets.specs.declared.socket.SocketOf.TheVariants.{Raw, Icmp, Udp, Tcp}
use Rattle.socket_set.specs.SocketSet.{Sockets, socket_at, with_place}
use Rattle.egress_schedule.specs.declared.watch.Waiting.{Waiting}
use Rattle.egress_schedule.specs.Passing.{after_bringing, after_bringing_at, before_first, goes_first, if_brought, with_first_for, with_front_of}
use Rattle.egress_schedule.specs.Plan.{Planned, each_of, waiting_at}
use Rattle.egress_schedule.specs.Queues.{lens_to_send}
use Rattle.egress_schedule.specs.Rounds.{with_packets_brought}
use Rattle.egress_schedule.specs.Laws.{IsTold, NoneIsLong}
use Rattle.egress_schedule.proofs.Passes.{all_brought_keep}

-- what is told of each, where one comes forward
pub map_brought : {A B : Type 0} (f : A → B) (k : ℕ) (xs : List A) → map f (brought_forward k xs) ≡ brought_forward k (map f xs)
map_brought {A = A} {B = B} f k xs = by (slice_get xs k) ∙ sym (ap (λ (o : Option B). brought_from k o (map f xs)) (slice_get-map f xs k)) where
  by : (o : Option A) → map f (brought_from k o xs) ≡ brought_from k (option_map f o) (map f xs)
  by None = refl
  by (Some x) =
      ap (λ (ys : List B). f x ∷ ys) (map-append f (take k xs) (drop (k + 1) xs)
      ∙ (ap (λ (ys : List B). ys ++ map f (drop (k + 1) xs)) (sym (take-map f k xs))
      ∙ ap (λ (ys : List B). take k (map f xs) ++ ys) (sym (drop-map f (k + 1) xs))))

-- there are as many
pub length_brought : {A : Type 0} (k : ℕ) (xs : List A) → length (brought_forward k xs) ≡ length xs
length_brought {A = A} k xs = by (slice_get xs k) refl where
  by : (o : Option A) → slice_get xs k ≡ o → length (brought_from k o xs) ≡ length xs
  by None is = refl
  by (Some x) is =
      let within = slice_get_within xs k x is in
      let a = length-append (take k xs) (drop (k + 1) xs) in
      let b = length-take-le k xs (omega (arith, within)) in
      let c = length-drop (k + 1) xs in
      omega (arith, a, b, c, within)

-- none of so many lengths is greater than one
abbrev pub AllWithin : ℕ → List ℕ → Type 0
AllWithin mtu lens = (j : ℕ) → get_or lens j 0 ≤ mtu

-- nor of those that are left
pub rest_within : (mtu k : ℕ) (lens : List ℕ) → AllWithin mtu lens → AllWithin mtu (drop k lens)
rest_within mtu zero lens all = all
rest_within mtu (suc k) [] all = λ j. omega arith
rest_within mtu (suc k) (x ∷ lens) all = rest_within mtu k lens (λ j. all (suc j))

first_within : (mtu k : ℕ) (lens : List ℕ) → AllWithin mtu lens → AllWithin mtu (take k lens)
first_within mtu zero lens all j = omega arith
first_within mtu (suc k) [] all j = omega arith
first_within mtu (suc k) (x ∷ lens) all zero = all zero
first_within mtu (suc k) (x ∷ lens) all (suc j) = first_within mtu k lens (λ i. all (suc i)) j

both_within : (mtu : ℕ) (xs ys : List ℕ) → AllWithin mtu xs → AllWithin mtu ys → AllWithin mtu (xs ++ ys)
both_within mtu [] ys first second j = second j
both_within mtu (x ∷ xs) ys first second zero = first zero
both_within mtu (x ∷ xs) ys first second (suc j) = both_within mtu xs ys (λ i. first (suc i)) second j

one_within : (mtu k x : ℕ) (lens : List ℕ) → AllWithin mtu lens → slice_get lens k ≡ Some x → x ≤ mtu
one_within mtu k x [] all is = absurd cc
one_within mtu zero x (y ∷ lens) all is = same (all zero) is where
  same : y ≤ mtu → Some y ≡ Some x → x ≤ mtu
  same le e = subst (λ (o : Option ℕ). IfSome o (λ z. z ≤ mtu)) e le
one_within mtu (suc k) x (y ∷ lens) all is = one_within mtu k x lens (λ j. all (suc j)) is

brought_within : (mtu k : ℕ) (lens : List ℕ) → AllWithin mtu lens → AllWithin mtu (brought_forward k lens)
brought_within mtu k lens all = by (slice_get lens k) refl where
  by : (o : Option ℕ) → slice_get lens k ≡ o → AllWithin mtu (brought_from k o lens)
  by None is j = all j
  by (Some x) is zero = one_within mtu k x lens all is
  by (Some x) is (suc j) =
      both_within mtu (take k lens) (drop (k + 1) lens) (first_within mtu k lens all) (rest_within mtu (k + 1) lens all) j

set_get : {A : Type 0} (xs : List A) (i k : ℕ) (x : A) (P : A → Type 0) → P x → IfSome (slice_get xs k) P → IfSome (slice_get (slice_set xs i x) k) P
set_get [] i k x P new holds = holds
set_get (y ∷ ys) zero zero x P new holds = new
set_get (y ∷ ys) zero (suc k) x P new holds = holds
set_get (y ∷ ys) (suc i) zero x P new holds = holds
set_get (y ∷ ys) (suc i) (suc k) x P new holds = set_get ys i k x P new holds

module _ {L : Type 0} where
  abbrev pub Fits : ℕ → SocketOf L → Type 0
  Fits mtu s = AllWithin mtu (lens_to_send s)

  pub brought_lens : (k : ℕ) (s : SocketOf L) → lens_to_send (socket_brought_forward k s) ≡ brought_forward k (lens_to_send s)
  brought_lens k (Raw s) = map_brought _ k s.tx.packets
  brought_lens k (Icmp s) = map_brought _ k s.tx.packets
  brought_lens k (Udp s) = map_brought _ k s.tx.packets
  brought_lens k (Tcp s) = map_brought _ k s.tx.packets

  pub brought_destinations : (k : ℕ) (s : SocketOf L) → destinations (socket_brought_forward k s) ≡ brought_forward k (destinations s)
  brought_destinations k (Raw s) = map_brought _ k s.tx.packets
  brought_destinations k (Icmp s) = map_brought _ k s.tx.packets
  brought_destinations k (Udp s) = map_brought _ k s.tx.packets
  brought_destinations k (Tcp s) = map_brought _ k s.tx.packets

  pub fits_brought : (mtu : ℕ) (p : IpAddress → Bool) (s : SocketOf L) → Fits mtu s → Fits mtu (with_first_for p s)
  fits_brought mtu p s fits = subst (AllWithin mtu) (sym (brought_lens (before_first p (destinations s)) s))
      (brought_within mtu (before_first p (destinations s)) (lens_to_send s) fits)

  inner : (o : Option (Option (SocketOf L))) (P : SocketOf L → Type 0) → IfSome o (λ place. IfSome place P) → IfSome (option_and_then (λ p. p) o) P
  inner None P holds = tt
  inner (Some place) P holds = holds

  outer : (o : Option (Option (SocketOf L))) (P : SocketOf L → Type 0) → IfSome (option_and_then (λ p. p) o) P → IfSome o (λ place. IfSome place P)
  outer None P holds = tt
  outer (Some place) P holds = holds

  -- a socket that fits in place of another
  pub fits_set : (mtu : ℕ) (s : Sockets L) (i k : ℕ) (new : SocketOf L) → Fits mtu new → IfSome (socket_at s k) (Fits mtu) →
      IfSome (socket_at (with_place s i (Some new)) k) (Fits mtu)
  fits_set mtu s i k new fits one = inner (slice_get (slice_set s.places i (Some new)) k) (Fits mtu)
      (set_get s.places i k (Some new) (λ place. IfSome place (Fits mtu)) fits (outer (slice_get s.places k) (Fits mtu) one))

  -- what a step keeps, so many do
  pub keeps : (P : Planned L → Type 0) (step : ℕ → Planned L → Planned L) (n : ℕ) → ((i : ℕ) (r : Planned L) → i < n → P r → P (step i r)) →
      (m : ℕ) → m ≤ n → (r : Planned L) → P r → P (each_of step m r)
  keeps P step n one zero le r holds = holds
  keeps P step n one (suc m) le r holds =
      one m (each_of step m r) (omega (arith, le)) (keeps P step n one m (omega (arith, le)) r holds)

  abbrev FitsAll : ℕ → ℕ → Planned L → Type 0
  FitsAll mtu n r = (i : ℕ) → i < n → IfSome (socket_at r.sockets i) (Fits mtu)

  one_brought : (known : IpAddress → Bool) (now : ℤ) (mtu n i : ℕ) (r : Planned L) → i < n → FitsAll mtu n r →
      FitsAll mtu n (after_bringing_at known now i r)
  one_brought known now mtu n i r there fits = by (waiting_at i r) where
    by : (o : Option Waiting) → FitsAll mtu n (if_brought known now i r o)
    by None = fits
    by (Some w) = two (socket_at r.sockets i) (fits i there) where
      two : (o : Option (SocketOf L)) → IfSome o (Fits mtu) →
          FitsAll mtu n (record r { sockets = with_front_of (goes_first known now w) i r.sockets o })
      two None one = fits
      two (Some s) one = λ k within. fits_set mtu r.sockets i k (with_first_for (goes_first known now w) s)
          (fits_brought mtu (goes_first known now w) s one) (fits k within)

  pub all_brought_fit : (known : IpAddress → Bool) (now : ℤ) (mtu : ℕ) (r : Planned L) → FitsAll mtu (length r.plan.watches) r →
      FitsAll mtu (length r.plan.watches) (with_packets_brought known now r)
  all_brought_fit known now mtu r fits = by r.plan.is_waiting where
    n : ℕ
    n = length r.plan.watches

    by : (b : Bool) → FitsAll mtu n (if b then after_bringing known now r else r)
    by false = fits
    by true = keeps (FitsAll mtu n) (after_bringing_at known now) n (λ i s there holds. one_brought known now mtu n i s there holds) n (omega arith) r fits

-- a schedule that was told of each long packet still was
pub brought_told : (known : IpAddress → Bool) (now : ℤ) (mtu : ℕ) (r : Planned (Bor (Unit {0}))) → IsTold mtu r →
    IsTold mtu (with_packets_brought known now r)
brought_told known now mtu r told none =
    subst (λ (n : ℕ). NoneIsLong mtu n (with_packets_brought known now r).sockets) (sym (all_brought_keep known now (λ plan waits. length plan.watches) r))
    (all_brought_fit known now mtu r (told (sym (all_brought_keep known now (λ plan waits. plan.may_have_long) r) ∙ none)))
