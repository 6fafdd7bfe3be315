-- What a UDP socket gets, by its index.
use Rattle.std.proofs.Common.{◌≡◌, ◌⊎◌, ℕ, zero, suc, ◌<◌, ◌≤◌, true, List, [], ◌∷◌, length}
use Rattle.std.proofs.Common.{Some, None, inl, inr, refl, sym, ◌∙◌, arith}
use Rattle.std.proofs.lemmas.Bool.{cases_lt}
use Rattle.ip_address.specs.declared.cidr.IpCidr.{IpCidr}
use Rattle.ip_wire.specs.declared.ip_packet.IpRepr.{IpRepr}
use Rattle.ip_wire.specs.declared.udp.UdpRepr.{UdpRepr}
use Rattle.sockets.specs.declared.socket.SocketOf.TheVariants.{Raw, Icmp, Udp, Tcp}
use Rattle.socket_set.specs.Details.Datagrams.{is_udp}
use Rattle.host_machine.specs.Context.Host.{Storage}
use Rattle.host_machine.specs.Sockets.Udp.{accepts}
use Rattle.host_machine.proofs.Sockets.SocketIteration.{at_place}

-- what accepts a datagram is a UDP socket
pub accepting : (own : List IpCidr) (r : IpRepr) (ports : UdpRepr) (place : Storage) → accepts own r ports place ≡ true → is_udp place ≡ true
accepting own r ports None is = absurd cc
accepting own r ports (Some (Raw s)) is = absurd cc
accepting own r ports (Some (Icmp s)) is = absurd cc
accepting own r ports (Some (Udp s)) is = refl
accepting own r ports (Some (Tcp s)) is = absurd cc

-- nothing stands past all places
pub none_past : (ps : List Storage) (i : ℕ) → length ps ≤ i → at_place ps i ≡ None
none_past [] i past = refl
none_past (p ∷ ps) zero past = absurd (omega (arith, past))
none_past (p ∷ ps) (suc i) past = none_past ps i (omega (arith, past))

-- a place that accepts, where there is one
pub accepted_at : (own : List IpCidr) (r : IpRepr) (ports : UdpRepr) (ps : List Storage) (i : ℕ) →
    (i < length ps → accepts own r ports (at_place ps i) ≡ true) → is_udp (at_place ps i) ≡ accepts own r ports (at_place ps i)
accepted_at own r ports ps i found = by (cases_lt i (length ps)) where
  by : ((i < length ps) ⊎ (length ps ≤ i)) → is_udp (at_place ps i) ≡ accepts own r ports (at_place ps i)
  by (inl within) = accepting own r ports (at_place ps i) (found within) ∙ sym (found within)
  by (inr past) = rw (none_past ps i past) refl
