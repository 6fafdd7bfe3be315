-- Why a host replies to a frame, by the rule that replies.
use Rattle.std.proofs.Common.{◌≡◌, ◌≢◌, ℕ, zero, suc, ◌/◌, ◌%◌, Bool, true, false, List, [], ◌∷◌, refl, sym, ◌∙◌, ap}
use Rattle.std.proofs.Common.{Some, None, arith}
use Rattle.std.specs.Prelude.{◌<◌, ◌==◌, ◌||◌, not, nat_lt, slice_get, if◌then◌else◌}
use Rattle.std.proofs.lemmas.Bool.Decides.{Decides-eqb, nat_tests}
use Rattle.std.specs.List.{AllByRecursion, list_any}
use Rattle.ip_address.specs.Ipv4 as ipv4_address
use Rattle.ip_address.specs.Prefixes.{last_of}
use Rattle.ip_address.specs.Protocol.{number_of}
use Rattle.ip_address.specs.declared.cidr.IpCidr.{IpCidr}
use Rattle.ip_address.specs.declared.cidr.IpCidr.TheVariants as cidr
use Rattle.ip_address.specs.declared.ipv4.Ipv4Address.{Ipv4Address}
use Rattle.ip_address.specs.declared.protocol.IpProtocol.{IpProtocol}
use Rattle.ip_address.specs.declared.protocol.IpVersion.{IpVersion}
use Rattle.ip_address.specs.declared.protocol.IpVersion.TheVariants as version
use Rattle.ip_wire.specs.declared.tcp.TcpControl.{TcpControl}
use Rattle.ip_wire.specs.declared.tcp.TcpControl.TheVariants as control
use Rattle.ip_wire.specs.declared.tcp.TcpRepr.{TcpRepr}
use Rattle.ip_wire.specs.Tcp.{IsControl, control_of, fin, rst, syn}
use Rattle.sockets.specs.Raw as raw_socket
use Rattle.sockets.specs.Raw.{RawSocket}
use Rattle.sockets.specs.declared.socket.SocketOf.TheVariants.{Raw, Icmp, Udp, Tcp}
use Rattle.sockets.specs.Tcp as tcp_socket
use Rattle.sockets.specs.Tcp.{TcpSocket}
use Rattle.host_machine.specs.Context.Host.{Storage}
use Rattle.host_machine.specs.Context.Addresses.{is_broadcast_of, is_broadcast_v4, is_unicast_v4}
use Rattle.host_machine.specs.Sockets.Raw as raw
use Rattle.host_laws.specs.Laws.Restraint.Foreign.{IsNoBroadcastOf}
use Rattle.host_laws.specs.Laws.Restraint.Readings.{AreSameButRaw, IsSameButRaw}
use Rattle.host_laws.specs.Laws.Restraint.Replies.{IsNoRawFor, IsOneHostV4}
use Rattle.host_laws.proofs.Discovery.LearntNeighbors.{and_both, one_host}

-- an address of one host
pub not_false : (x : Bool) → not x ≡ true → x ≡ false
not_false false e = refl
not_false true e = absurd cc

pub both_false : (x y : Bool) → (x || y) ≡ false → (x ≡ false) × (y ≡ false)
both_false false false e = (refl, refl)
both_false false true e = absurd cc
both_false true y e = absurd cc

no_broadcasts : (own : List IpCidr) (a : ℕ) → list_any (λ c. is_broadcast_of c (record { bits = a })) own ≡ false →
    AllByRecursion (IsNoBroadcastOf a) own
no_broadcasts [] a e = tt
no_broadcasts (cidr.Ipv6 n ∷ own) a e = (tt, no_broadcasts own a e)
no_broadcasts (cidr.Ipv4 n ∷ own) a e =
    let parts = both_false (is_broadcast_of (cidr.Ipv4 n) (record { bits = a })) (list_any (λ c. is_broadcast_of c (record { bits = a })) own) e in
    (here parts.0, no_broadcasts own a parts.1) where
      here : is_broadcast_of (cidr.Ipv4 n) (record { bits = a }) ≡ false → IsNoBroadcastOf a (cidr.Ipv4 n)
      here off short same =
          let few : nat_lt n.prefix_len 31 ≡ true = grind (arith, nat_tests) in
          let bits : (last_of 32 n.prefix_len n.address.bits == a) ≡ true = (Decides-eqb (last_of 32 n.prefix_len n.address.bits) a).1 (sym same) in
          let bad : is_broadcast_of (cidr.Ipv4 n) (record { bits = a }) ≡ true = rw (few, bits) refl in cc

pub one_host_v4 : (own : List IpCidr) (a : Ipv4Address) → is_unicast_v4 own a ≡ true → IsOneHostV4 own a.bits
one_host_v4 own a e =
    let parts = and_both (ipv4_address.is_unicast a) (not (is_broadcast_v4 own a)) e in
    let host = one_host a parts.0 in
    let none = both_false (ipv4_address.is_broadcast a) (list_any (λ c. is_broadcast_of c a) own) (not_false (is_broadcast_v4 own a) parts.1) in
    record { not_nobody = host.not_nobody; not_all = host.not_all; no_group = host.no_group; no_broadcast = no_broadcasts own a.bits none.1 }

-- no raw socket took a packet
same_version : (v w : IpVersion) → v ≡ w → raw_socket.is_same_version v w ≡ true
same_version version.Ipv4 version.Ipv4 e = refl
same_version version.Ipv4 version.Ipv6 e = absurd cc
same_version version.Ipv6 version.Ipv4 e = absurd cc
same_version version.Ipv6 version.Ipv6 e = refl

other_protocol : (s : RawSocket) (v : IpVersion) (p : IpProtocol) → raw_socket.accepts s v p ≡ false → s.version ≡ v →
    number_of s.protocol ≢ number_of p
other_protocol s v p off same number =
    let one = same_version s.version v same in
    let two : (number_of s.protocol == number_of p) ≡ true = (Decides-eqb (number_of s.protocol) (number_of p)).1 number in
    let bad : raw_socket.accepts s v p ≡ true = rw (one, two) refl in cc

pub no_raw : (v : IpVersion) (p : IpProtocol) (places : List Storage) → list_any (raw.accepts v p) places ≡ false →
    AllByRecursion (IsNoRawFor v p) places
no_raw v p [] e = tt
no_raw v p (None ∷ places) e = (tt, no_raw v p places e)
no_raw v p (Some (Raw s) ∷ places) e =
    let parts = both_false (raw_socket.accepts s v p) (list_any (raw.accepts v p) places) e in
    (other_protocol s v p parts.0, no_raw v p places parts.1)
no_raw v p (Some (Icmp s) ∷ places) e = (tt, no_raw v p places e)
no_raw v p (Some (Udp s) ∷ places) e = (tt, no_raw v p places e)
no_raw v p (Some (Tcp s) ∷ places) e = (tt, no_raw v p places e)

-- a TCP socket is there before raw sockets got a packet
pub tcp_there : (ps qs : List Storage) (i : ℕ) (s : TcpSocket) → AreSameButRaw ps qs → slice_get qs i ≡ Some (Some (Tcp s)) →
    slice_get ps i ≡ Some (Some (Tcp s))
tcp_there [] [] i s same is = absurd cc
tcp_there [] (q ∷ qs) i s same is = absurd same
tcp_there (p ∷ ps) [] i s same is = absurd same
tcp_there (p ∷ ps) (q ∷ qs) zero s same is = let there : q ≡ Some (Tcp s) = cc in ap Some (by p same.0 there) where
  by : (p : Storage) → IsSameButRaw p q → q ≡ Some (Tcp s) → p ≡ Some (Tcp s)
  by None e there = absurd cc
  by (Some (Raw x)) e there = let bad : Some (Raw (record x { rx = e.0 })) ≡ Some (Tcp s) = sym e.1 ∙ there in absurd cc
  by (Some (Icmp x)) e there = absurd cc
  by (Some (Udp x)) e there = absurd cc
  by (Some (Tcp x)) e there = sym e ∙ there
tcp_there (p ∷ ps) (q ∷ qs) (suc i) s same is = tcp_there ps qs i s same.1 is

-- the flag of a reset isn't set in a segment that is answered
pub no_reset_flag : (flags : ℕ) → IsControl flags → control_of flags ≢ control.Rst → flags / 4 % 2 ≡ 0
unfolding control_of
no_reset_flag flags few other = by (fin flags == 1) (syn flags == 1) (rst flags == 1) refl refl refl other where
  by : (f s r : Bool) → (fin flags == 1) ≡ f → (syn flags == 1) ≡ s → (rst flags == 1) ≡ r →
      ((if f then control.Fin else if s then control.Syn else if r then control.Rst
      else if flags / 8 % 2 == 1 then control.Psh else control.None) ≢ control.Rst) → flags / 4 % 2 ≡ 0
  by f s false x y z set = let small : flags / 4 % 2 < 2 = omega arith in grind (arith, nat_tests)
  by true s true x y z set = let one = (Decides-eqb (fin flags) 1).0 x in let two = (Decides-eqb (rst flags) 1).0 z in absurd (omega
      (arith, one, two, few))
  by false true true x y z set = let one = (Decides-eqb (syn flags) 1).0 y in let two = (Decides-eqb (rst flags) 1).0 z in absurd (omega
      (arith, one, two, few))
  by false false true x y z set = absurd (set refl)

pub answered : (c : TcpControl) (t : TcpRepr) (len : ℕ) (x : TcpRepr) → tcp_socket.answer_of c t len ≡ Some x → c ≢ control.Rst
answered control.Rst t len x e = absurd cc
answered control.None t len x e = λ q. absurd cc
answered control.Psh t len x e = λ q. absurd cc
answered control.Syn t len x e = λ q. absurd cc
answered control.Fin t len x e = λ q. absurd cc
