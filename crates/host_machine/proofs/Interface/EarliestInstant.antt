-- The least instant at which something is due, place by place.
use Rattle.std.proofs.Common.{◌≡◌, ◌⊎◌, ℕ, ◌+◌, ◌<◌, List, [], ◌∷◌, length, refl, sym, ◌∙◌, ap, subst, arith, inl, inr, zero, suc, Option, Some, None}
use Rattle.std.proofs.lemmas.Bool.{cases_eq}
use Rattle.std.proofs.lemmas.Int.{ints}
use Rattle.std.specs.Prelude.{ℤ, ◌<ℤ◌, Bool, IfSome, IsNone, slice_get, if◌then◌else◌}
use Rattle.sockets.specs.declared.poll_at.PollAt.{PollAt}
use Rattle.sockets.specs.declared.poll_at.PollAt.TheVariants.{Ingress}
use Rattle.std.specs.Cmp.{int_ranks}
use Rattle.std.specs.Option.{option_and_then}
use Rattle.std.specs.declared.cmp.Ordering.{Ordering}
use Rattle.std.specs.declared.cmp.Ordering.TheVariants.{Less, Equal, Greater}
use Rattle.std.specs.Ordering.{int_cmp, is_lt, MatchOrdering}
use Rattle.ip_address.specs.declared.ip.IpAddress.{IpAddress}
use Rattle.socket_set.specs.SocketMeta.{Wait, IsAnswerFor, poll_at}
use Rattle.socket_set.specs.SocketSet.{socket_at, wait_at}
use Rattle.iface_tables.proofs.RouteLemmas.{routers_are_one}
use Rattle.sockets.specs.Kinds as kinds
use Rattle.host_machine.specs.Context.Host.{Host, Storage}
use Rattle.host_machine.specs.Send.Hops.{IsNextHop, OnLink, ByRouter, is_known_hop, if_unicast, HasNeighbor, OfNoHost, OfHost}
use Rattle.host_machine.specs.Context.Host.{Socket}
use Rattle.host_machine.specs.Interface.Due.{Due, OfPiece, OfSync, OfSolicitation, OfPrefix, OfRouter, OfJoin, OfLeave}
use Rattle.host_machine.specs.Interface.Due.{OfIgmpReport, OfMldReport, OfSocket, AtOnce, IsLeast}
use Rattle.host_machine.specs.Sockets.Polling.{SocketDue, SocketsDue, instant_of}
use Rattle.host_machine.specs.Send.Fragments.{at_once}
use Rattle.host_machine.specs.Multicast.Polling.{groups_poll_at, group_poll_at}
use Rattle.host_machine.specs.Discovery.Polling.{routers_poll_at, sync_poll_at}
use Rattle.iface_tables.specs.declared.groups.GroupState.TheVariants.{Joining, Leaving}
use Rattle.net_base.specs.Instants.{earliest_of, earlier_of}
use Rattle.iface_tables.specs.Slaac.{prefix_ends, route_ends}
use Rattle.host_machine.specs.Discovery.RouterSolicitation.{rs_poll_at}
use Rattle.host_machine.specs.Multicast.Igmp.{igmp_poll_at}
use Rattle.host_machine.specs.Multicast.Mld.{mld_timeout_of}

-- what is known of a destination is one answer
pub hop_is_one : {H : Host} {a : IpAddress} {x y : Option IpAddress} → IsNextHop H a x → IsNextHop H a y → x ≡ y
hop_is_one (OnLink i e) (OnLink j f) = e ∙ sym f
hop_is_one (OnLink i e) (ByRouter router j r f) = absurd cc
hop_is_one (ByRouter router i r e) (OnLink j f) = absurd cc
hop_is_one {H} {a} (ByRouter r i is e) (ByRouter s j it f) = e
    ∙ ap (option_and_then if_unicast) (routers_are_one H.routes a H.moment r s is it) ∙ sym f

pub known_is_one : {H : Host} {a : IpAddress} {x y : Bool} → HasNeighbor H a x → HasNeighbor H a y → x ≡ y
known_is_one (OfNoHost n e) (OfNoHost m f) = e ∙ sym f
known_is_one (OfNoHost n e) (OfHost hop m i f) = absurd cc
known_is_one (OfHost hop n i e) (OfNoHost m f) = absurd cc
known_is_one {H} (OfHost hop n i e) (OfHost other m j f) = e ∙ ap (is_known_hop H) (hop_is_one i j) ∙ sym f

told_is_one : (H : Host) (w : Wait) (x y : Bool) (t : ℤ) (own : PollAt) →
    IsAnswerFor (HasNeighbor H) w x → IsAnswerFor (HasNeighbor H) w y → poll_at w x t own ≡ poll_at w y t own
told_is_one H None x y t own a b = refl
told_is_one H (Some w) x y t own a b = ap (λ known. poll_at (Some w) known t own) (known_is_one a b)

-- one instant alone
least_one : {P : ℤ → Type 0} (end : Option ℤ) → ((x : ℤ) → end ≡ Some x → P x) → ((x : ℤ) → P x → end ≡ Some x) → IsLeast P end
least_one None there only = λ x p. absurd (let e = only x p in cc)
least_one (Some m) there only = (there m refl, λ x p. let e = only x p in let same : m ≡ x = cc in rw same (omega (arith, ints)))

pub socket_least : (H : Host) (i : ℕ) (s : Socket) (known : Bool) →
    slice_get H.sockets.places i ≡ Some (Some s) → IsAnswerFor (HasNeighbor H) (wait_at H.sockets i) known →
    IsLeast (SocketDue H i) (instant_of (poll_at (wait_at H.sockets i) known H.moment (kinds.poll_at s)))
socket_least H i s known here told =
    least_one (instant_of (poll_at (wait_at H.sockets i) known H.moment (kinds.poll_at s)))
    (λ x e. record { socket = s; known = known; here = here; told = told; instant = e })
    (λ x d. let same : s ≡ d.socket = one (sym here ∙ d.here) in
    ap instant_of (told_is_one H (wait_at H.sockets i) known d.known H.moment (kinds.poll_at s) told d.told)
    ∙ ap (λ z. instant_of (poll_at (wait_at H.sockets i) d.known H.moment (kinds.poll_at z))) same ∙ d.instant) where
      one : {x y : Socket} → Some (Some x) ≡ Some (Some y) → x ≡ y
      one e = cc

pub no_socket_least : (H : Host) (i : ℕ) → socket_at H.sockets i ≡ None → IsLeast (SocketDue H i) None
no_socket_least H i none = λ x d. let there : socket_at H.sockets i ≡ Some d.socket = ap (option_and_then (λ place. place)) d.here in absurd cc

-- what a socket answers that is asked at a moment, with what is told of the destination that it waits for
pub own_least : (H : Host) (i : ℕ) (answer : PollAt) (post : IpAddress → Bool → Type 0) →
    ((a : IpAddress) (known : Bool) → post a known → HasNeighbor H a known) →
    (IfSome (socket_at H.sockets i) (λ s. (known : Bool) × IsAnswerFor post (wait_at H.sockets i) known
    × (answer ≡ poll_at (wait_at H.sockets i) known H.moment (kinds.poll_at s)))) →
    (IsNone (socket_at H.sockets i) → answer ≡ Ingress) → IsLeast (SocketDue H i) (instant_of answer)
own_least H i answer post tells some none = by (slice_get H.sockets.places i) refl some none where
  told : (w : Wait) (known : Bool) → IsAnswerFor post w known → IsAnswerFor (HasNeighbor H) w known
  told None known t = tt
  told (Some w) known t = tells w.0 known t

  by : (place : Option Storage) → slice_get H.sockets.places i ≡ place →
      (IfSome (option_and_then (λ p. p) place) (λ s. (known : Bool) × IsAnswerFor post (wait_at H.sockets i) known
      × (answer ≡ poll_at (wait_at H.sockets i) known H.moment (kinds.poll_at s)))) →
      (IsNone (option_and_then (λ (p : Storage). p) place) → answer ≡ Ingress) → IsLeast (SocketDue H i) (instant_of answer)
  by None is some none = rw (none refl) (no_socket_least H i (ap (option_and_then (λ (p : Storage). p)) is))
  by (Some None) is some none = rw (none refl) (no_socket_least H i (ap (option_and_then (λ (p : Storage). p)) is))
  by (Some (Some s)) is some none = rw some.2 (socket_least H i s some.0 is (told (wait_at H.sockets i) some.0 some.1))

-- the sooner of the least of two sets is the least of both
sooner_by : (P Q R : ℤ → Type 0) (a b : ℤ) → IsLeast P (Some a) → IsLeast Q (Some b) → ((x : ℤ) → R x → P x ⊎ Q x) →
    ((x : ℤ) → P x → R x) → ((x : ℤ) → Q x → R x) →
    (o : Ordering) → MatchOrdering o (b <ℤ a) (b ≡ a) (a <ℤ b) → IsLeast R (if is_lt o then Some b else Some a)
sooner_by P Q R a b p q parts one two Less m =
    (two b q.0, λ x r. elim (parts x r) [ inl here ↦ (let l = p.1 x here in omega (arith, ints)) | inr here ↦ q.1 x here ])
sooner_by P Q R a b p q parts one two Equal m =
    (one a p.0, λ x r. elim (parts x r) [ inl here ↦ p.1 x here | inr here ↦ (let l = q.1 x here in rw (← m) l) ])
sooner_by P Q R a b p q parts one two Greater m =
    (one a p.0, λ x r. elim (parts x r) [ inl here ↦ p.1 x here | inr here ↦ (let l = q.1 x here in omega (arith, ints)) ])

pub least_or : (P Q R : ℤ → Type 0) (a b : Option ℤ) → IsLeast P a → IsLeast Q b → ((x : ℤ) → R x → P x ⊎ Q x) → ((x : ℤ) → P x → R x) →
    ((x : ℤ) → Q x → R x) → IsLeast R (earlier_of a b)
least_or P Q R None None p q parts one two = λ x r. elim (parts x r) [ inl here ↦ p x here | inr here ↦ q x here ]
least_or P Q R None (Some b) p q parts one two = (two b q.0, λ x r. elim (parts x r) [ inl here ↦ absurd (p x here) | inr here ↦ q.1 x here ])
least_or P Q R (Some a) None p q parts one two = (one a p.0, λ x r. elim (parts x r) [ inl here ↦ p.1 x here | inr here ↦ absurd (q x here) ])
least_or P Q R (Some a) (Some b) p q parts one two = sooner_by P Q R a b p q parts one two (int_cmp b a) (int_ranks b a)

-- of the first places
abbrev pub DueBelow : Host → ℕ → ℤ → Type 0
DueBelow H n x = (i : ℕ) × (i < n) × SocketDue H i x

pub below_none : (H : Host) → IsLeast (DueBelow H 0) None
below_none H = λ x d. absurd (let l = d.1 in omega arith)

pub below_more : (H : Host) (n : ℕ) (a b : Option ℤ) → IsLeast (DueBelow H n) a → IsLeast (SocketDue H n) b →
    IsLeast (DueBelow H (n + 1)) (earlier_of a b)
below_more H n a b p q =
    least_or (DueBelow H n) (SocketDue H n) (DueBelow H (n + 1)) a b p q parts
    (λ x d. (d.0, (let l = d.1 in omega arith), d.2)) (λ x d. (n, (omega arith), d)) where
      parts : (x : ℤ) → DueBelow H (n + 1) x → DueBelow H n x ⊎ SocketDue H n x
      parts x d =
          elim (cases_eq d.0 n) [ inl same ↦ inr (subst (λ i. SocketDue H i x) same d.2) | inr other ↦ inl (d.0, (let l = d.1 in omega arith), d.2) ]

within : {A : Type 0} (xs : List A) (i : ℕ) (x : A) → slice_get xs i ≡ Some x → i < length xs
within [] i x e = absurd cc
within (y ∷ ys) zero x e = omega arith
within (y ∷ ys) (suc i) x e = let l = within ys i x e in omega arith

-- the same of two sets
pub least_same : (P Q : ℤ → Type 0) (a : Option ℤ) → ((x : ℤ) → P x → Q x) → ((x : ℤ) → Q x → P x) → IsLeast P a → IsLeast Q a
least_same P Q None there back p = λ x q. p x (back x q)
least_same P Q (Some a) there back p = (there a p.0, λ x q. p.1 x (back x q))

-- the places, as one source
pub sockets_least : (H : Host) (a : Option ℤ) → IsLeast (DueBelow H (length H.sockets.places)) a → IsLeast (SocketsDue H) a
sockets_least H a p = least_same (DueBelow H (length H.sockets.places)) (SocketsDue H) a (λ x d. (d.0, d.2)) back p where
  back : (x : ℤ) → SocketsDue H x → DueBelow H (length H.sockets.places) x
  back x d = (d.0, within H.sockets.places d.0 (Some d.1.socket) d.1.here, d.1)

-- a list that is due while it has an element
once_least : {A : Type 0} (xs : List A) → IsLeast (AtOnce xs) (at_once xs)
once_least [] = λ x d. absurd (let e = d.are in cc)
once_least (y ∷ ys) = (record { first = y; others = ys; are = refl; instant = refl }, λ x d. rw d.instant (omega (arith, ints)))

-- one source or another
abbrev Or : (ℤ → Type 0) → (ℤ → Type 0) → ℤ → Type 0
Or P Q x = P x ⊎ Q x

or_least : (P Q : ℤ → Type 0) (a b : Option ℤ) → IsLeast P a → IsLeast Q b → IsLeast (Or P Q) (earlier_of a b)
or_least P Q a b p q = least_or P Q (Or P Q) a b p q (λ x d. d) (λ x d. inl d) (λ x d. inr d)

-- the instant of an option
exact_least : (o : Option ℤ) → IsLeast (λ x. o ≡ Some x) o
exact_least None = λ x e. absurd cc
exact_least (Some a) = (refl, λ x e. let same : a ≡ x = cc in omega (arith, ints, same))

-- the instants of a list
abbrev IsThere : List ℤ → ℤ → Type 0
IsThere xs x = (i : ℕ) × (slice_get xs i ≡ Some x)

there_least : (xs : List ℤ) → IsLeast (IsThere xs) (earliest_of xs)
there_least [] = λ x d. absurd (let e = d.1 in cc)
there_least (y ∷ ys) =
    least_or (λ x. Some y ≡ Some x) (IsThere ys) (IsThere (y ∷ ys)) (Some y) (earliest_of ys) (exact_least (Some y)) (there_least ys)
    (λ x d. parts x d.0 d.1) (λ x e. (0, e)) (λ x d. (suc d.0, d.1)) where
      parts : (x : ℤ) (i : ℕ) → slice_get (y ∷ ys) i ≡ Some x → (Some y ≡ Some x) ⊎ IsThere ys x
      parts x zero e = inl e
      parts x (suc i) e = inr (i, e)

-- all sources
abbrev Sources : Host → ℤ → Type 0
Sources H = Or (AtOnce H.left) (Or (λ x. sync_poll_at H ≡ Some x) (Or (λ x. rs_poll_at H ≡ Some x)
    (Or (Or (IsThere (prefix_ends H.slaac.prefixes H.moment)) (IsThere (route_ends H.slaac.routers H.moment))) (Or (λ x. group_poll_at Joining H
    ≡ Some x) (Or (λ x. group_poll_at Leaving H ≡ Some x) (Or (λ x. igmp_poll_at H ≡ Some x) (Or (λ x. mld_timeout_of H.mld_report ≡ Some x)
    (SocketsDue H))))))))

is_due : (H : Host) (x : ℤ) → Sources H x → Due H x
is_due H x (inl d) = OfPiece d
is_due H x (inr (inl d)) = OfSync d
is_due H x (inr (inr (inl d))) = OfSolicitation d
is_due H x (inr (inr (inr (inl (inl d))))) = OfPrefix d.0 d.1
is_due H x (inr (inr (inr (inl (inr d))))) = OfRouter d.0 d.1
is_due H x (inr (inr (inr (inr (inl d))))) = OfJoin d
is_due H x (inr (inr (inr (inr (inr (inl d)))))) = OfLeave d
is_due H x (inr (inr (inr (inr (inr (inr (inl d))))))) = OfIgmpReport d
is_due H x (inr (inr (inr (inr (inr (inr (inr (inl d)))))))) = OfMldReport d
is_due H x (inr (inr (inr (inr (inr (inr (inr (inr d)))))))) = OfSocket d.0 d.1

is_source : (H : Host) (x : ℤ) → Due H x → Sources H x
is_source H x (OfPiece d) = inl d
is_source H x (OfSync d) = inr (inl d)
is_source H x (OfSolicitation d) = inr (inr (inl d))
is_source H x (OfPrefix i d) = inr (inr (inr (inl (inl (i, d)))))
is_source H x (OfRouter i d) = inr (inr (inr (inl (inr (i, d)))))
is_source H x (OfJoin d) = inr (inr (inr (inr (inl d))))
is_source H x (OfLeave d) = inr (inr (inr (inr (inr (inl d)))))
is_source H x (OfIgmpReport d) = inr (inr (inr (inr (inr (inr (inl d))))))
is_source H x (OfMldReport d) = inr (inr (inr (inr (inr (inr (inr (inl d)))))))
is_source H x (OfSocket i d) = inr (inr (inr (inr (inr (inr (inr (inr (i, d))))))))

-- the least of all, from that of the sockets
abbrev pub soonest : Host → Option ℤ → Option ℤ
soonest H a = earlier_of (at_once H.left) (routers_poll_at H (groups_poll_at H a))

pub soonest_least : (H : Host) (a : Option ℤ) → IsLeast (SocketsDue H) a → IsLeast (Due H) (soonest H a)
soonest_least H a p =
    least_same (Sources H) (Due H) (soonest H a) (is_due H) (is_source H)
    (or_least _ _ _ _ (once_least H.left) (or_least _ _ _ _ (exact_least (sync_poll_at H)) (or_least _ _ _ _ (exact_least (rs_poll_at H))
    (or_least _ _ _ _ (or_least _ _ _ _ (there_least (prefix_ends H.slaac.prefixes H.moment)) (there_least (route_ends H.slaac.routers H.moment)))
    (or_least _ _ _ _ (exact_least (group_poll_at Joining H))
    (or_least _ _ _ _ (exact_least (group_poll_at Leaving H)) (or_least _ _ _ _ (exact_least (igmp_poll_at H))
    (or_least _ _ _ _ (exact_least (mld_timeout_of H.mld_report)) p))))))))

pub due_least : (H : Host) (a : Option ℤ) → IsLeast (DueBelow H (length H.sockets.places)) a → IsLeast (Due H) (soonest H a)
due_least H a p = soonest_least H a (sockets_least H a p)
