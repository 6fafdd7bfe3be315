-- Places of a host's sockets: one that gets what it has stays as it was, and one with a socket is there.
use Rattle.std.specs.Prelude.{ℕ, ◌≡◌, ◌<◌, ◌≤◌, zero, suc, Bool, true, false, cond, is_some, List, [], ◌∷◌}
use Rattle.std.specs.Prelude.{◌++◌, length, slice_get, slice_set, Option, Some, None, IsSome, refl}
use Rattle.std.specs.Option.{option_and_then, option_copied}
use Rattle.std.specs.Borrow.{Bor}
use Rattle.std.proofs.Common.{sym, ap, ◌∙◌, arith}
use Rattle.std.proofs.lemmas.Bool.{lt-ltb, ltb-true}
use mathlib.Core.Bool.{true≢false}
use Rattle.ip_address.specs.declared.ip.IpAddress.{IpAddress}
use Rattle.sockets.specs.declared.endpoint.IpEndpoint.{IpEndpoint}
use Rattle.sockets.specs.Queue.{Queued, is_room, put}
use Rattle.sockets.specs.Icmp as icmps
use Rattle.sockets.specs.Raw as raws
use Rattle.sockets.specs.Tcp as tcps
use Rattle.sockets.specs.Udp as udps
use Rattle.sockets.specs.declared.tcp.Segment.{Segment}
use Rattle.sockets.specs.declared.socket.SocketOf.TheVariants.{Raw, Icmp, Udp, Tcp}
use Rattle.sockets.specs.declared.socket.SocketOf.{SocketOf}
use Rattle.socket_set.specs.SocketSet.{Sockets, first_free, has_free, socket_at}
use Rattle.iface_host.specs.Sockets.{Socket, with_socket}
use Rattle.iface_host.specs.declared.host.IfaceHost.{IfaceHost}

set_same : {A : Type 0} (xs : List (Option A)) (i : ℕ) (x : A) →
    option_and_then (λ (p : Option A). p) (slice_get xs i) ≡ Some x → slice_set xs i (Some x) ≡ xs
set_same [] i x e = refl
set_same (p ∷ ps) zero x e = ap (λ q. q ∷ ps) (sym e)
set_same (p ∷ ps) (suc i) x e = ap (λ qs. p ∷ qs) (set_same ps i x e)

pub host_same : (h : IfaceHost) (i : ℕ) (x : Socket) → socket_at h.sockets i ≡ Some x → with_socket h i (Some x) ≡ h
host_same h i x e = ap (λ places. record h { sockets = record h.sockets { places = places } }) (set_same h.sockets.places i x e)

-- a full queue takes nothing
put_full : {M : Type 0} (q : Queued M) (m : M) (octets : List ℕ) → false ≡ is_room q (length octets) → put q m octets ≡ q
put_full q m octets full = ap (λ b. record q { packets = cond b (q.packets ++ (m, octets) ∷ []) q.packets }) (sym full)

pub raw_full : (h : IfaceHost) (i : ℕ) (s : raws.RawSocket) (packet : List ℕ) →
    socket_at h.sockets i ≡ Some (Raw s) → false ≡ is_room s.tx (length packet) →
    with_socket h i (Some (Raw (raws.socket_after_send packet s))) ≡ h
raw_full h i s packet here full =
    ap (λ q. with_socket h i (Some (Raw (record s { tx = q })))) (put_full s.tx tt packet full) ∙ host_same h i (Raw s) here

pub icmp_full : (h : IfaceHost) (i : ℕ) (s : icmps.IcmpSocket) (remote : IpAddress) (message : List ℕ) → socket_at h.sockets i ≡ Some (Icmp s) →
    false ≡ is_room s.tx (length message) → with_socket h i (Some (Icmp (icmps.socket_after_send remote message s))) ≡ h
icmp_full h i s remote message here full =
    ap (λ q. with_socket h i (Some (Icmp (record s { tx = q })))) (put_full s.tx remote message full) ∙ host_same h i (Icmp s) here

pub udp_full : (h : IfaceHost) (i : ℕ) (s : udps.UdpSocket) (remote : IpEndpoint) (payload : List ℕ) → socket_at h.sockets i ≡ Some (Udp s) →
    false ≡ is_room s.tx (length payload) → with_socket h i (Some (Udp (udps.socket_after_send remote payload s))) ≡ h
udp_full h i s remote payload here full =
    ap (λ q. with_socket h i (Some (Udp (record s { tx = q })))) (put_full s.tx remote payload full) ∙ host_same h i (Udp s) here

pub tcp_full : (h : IfaceHost) (i : ℕ) (s : tcps.TcpSocket) (segment : Segment) (payload : List ℕ) → socket_at h.sockets i ≡ Some (Tcp s) →
    false ≡ is_room s.tx (length payload) → with_socket h i (Some (Tcp (tcps.socket_after_send segment payload s))) ≡ h
tcp_full h i s segment payload here full =
    ap (λ q. with_socket h i (Some (Tcp (record s { tx = q })))) (put_full s.tx segment payload full) ∙ host_same h i (Tcp s) here

below : {A : Type 0} (xs : List (Option A)) (i : ℕ) → is_some (option_and_then (λ (p : Option A). p) (slice_get xs i)) ≡ true → i < length xs
below [] i e = absurd (true≢false (sym e))
below (p ∷ ps) zero e = omega arith
below (p ∷ ps) (suc i) e = let less : i < length ps = below ps i e in omega arith

-- where a socket stands, there is a place
pub there_below : {L : Type 0} (s : Sockets L) (i : ℕ) → IsSome (socket_at s i) → i < length s.places
there_below s i e = below s.places i e

-- where a place is free, there is a first free one
pub some_free : {L : Type 0} (ps : List (Option (SocketOf L))) (i : ℕ) → i < length ps →
    is_some (option_and_then (λ (p : Option (SocketOf L)). p) (slice_get ps i)) ≡ false → first_free ps < length ps
some_free [] i lt e = absurd (omega arith)
some_free (None ∷ ps) i lt e = omega arith
some_free (Some s ∷ ps) zero lt e = absurd (true≢false e)
some_free (Some s ∷ ps) (suc i) lt e =
    let less : first_free ps < length ps = some_free ps i (omega arith) e in
    omega arith

-- where none is, there is none
pub none_free : {L : Type 0} (ps : List (Option (SocketOf L))) →
    ((k : ℕ) → k < length ps → IsSome (option_and_then (λ (p : Option (SocketOf L)). p) (slice_get ps k))) → length ps ≤ first_free ps
none_free [] all = omega arith
none_free (None ∷ ps) all = absurd (true≢false (sym (all 0 (omega arith))))
none_free (Some s ∷ ps) all =
    let more : length ps ≤ first_free ps = none_free ps (λ k lt. all (suc k) (omega arith)) in
    omega arith

pub has_one : {L : Type 0} (s : Sockets L) (i n : ℕ) (found : Option (SocketOf L)) → n ≡ length s.places → i < n →
    found ≡ socket_at s i → is_some found ≡ false → true ≡ has_free s
has_one s i n found same lt is e =
    sym (lt-ltb (first_free s.places) (length s.places) (some_free s.places i (omega arith) (rw is at e)))

pub has_none : {L : Type 0} (s : Sockets L) (i n : ℕ) → n ≡ length s.places → n ≤ i →
    ((k : ℕ) → k < i → IsSome (socket_at s k)) → false ≡ has_free s
has_none s i n same le all = by (has_free s) refl where
  by : (b : Bool) → has_free s ≡ b → false ≡ b
  by true e =
      let less : length s.places ≤ first_free s.places = none_free s.places (λ k lt. all k (omega arith)) in
      absurd (omega (arith, ltb-true (first_free s.places) (length s.places) e))
  by false e = refl

-- what is copied from behind a reference is there if that is
pub copied_none : {T : Type 0} (o : Option (Bor T)) → is_some o ≡ false → is_some (option_copied o) ≡ false
copied_none None e = refl
copied_none (Some b) e = absurd (true≢false e)
