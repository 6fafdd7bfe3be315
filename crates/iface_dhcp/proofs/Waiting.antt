-- Whether a number names a UDP socket, and how many datagrams wait there, over plain variables.
use Rattle.std.proofs.Common.{◌≡◌, ℕ, Bool, true, false, List, length, Option, Some, None, refl, ap, ◌∙◌}
use Rattle.std.specs.Prelude.{is_some, nat_lt, not, if◌then◌else◌}
use Rattle.std.specs.Option.{option_and_then, option_map}
use Rattle.sockets.specs.Queue.{first_of}
use Rattle.sockets.specs.Kinds.{down_udp}
use Rattle.sockets.specs.declared.socket.SocketOf.TheVariants.{Raw, Icmp, Udp, Tcp}
use Rattle.sockets.specs.Udp.{UdpSocket}
use Rattle.iface_host.specs.Queues.{fills_of}
use Rattle.iface_host.specs.Refusals.{of_packet, of_socket}
use Rattle.iface_host.specs.Sockets.{Socket}
use Rattle.iface_host.specs.declared.queues.Fill.{Fill}
use Rattle.iface_host.specs.declared.refusal.Refusal.{Refusal}
use Rattle.iface_host.specs.declared.refusal.Refusal.TheVariants.{NoRoom}
use Rattle.iface_dhcp.specs.Poll.{is_no_socket}

-- what a call for a socket of a kind tells of it
abbrev pub told : Option Refusal → Bool
told None = true
told (Some e) = not (is_no_socket e)

packet_told : {M : Type 0} (room : ℕ) (p : Option (M × List ℕ)) → told (of_packet room p) ≡ true
packet_told room None = refl
packet_told room (Some p) = by (nat_lt room (length p.1)) where
  by : (b : Bool) → told (if b then Some NoRoom else None) ≡ true
  by true = refl
  by false = refl

pub there_told : (room : ℕ) (there : Option UdpSocket) →
    told (of_socket (λ (s : UdpSocket). of_packet room (first_of s.rx.packets)) there) ≡ is_some there
there_told room None = refl
there_told room (Some s) = packet_told room (first_of s.rx.packets)

-- how many packets the first queue has
abbrev pub packets_in : Option (Fill × Fill) → ℕ
packets_in None = 0
packets_in (Some f) = f.0.packets

pub record Waits (there : Option Socket) (count : ℕ) : Type 0 where
  pub socket : UdpSocket
  pub is_there : option_and_then down_udp there ≡ Some socket
  pub packets : count ≡ length socket.rx.packets

pub waits_there : (there : Option Socket) (f : Fill × Fill) → Some f ≡ option_map fills_of there →
    true ≡ is_some (option_and_then down_udp there) → Waits there f.0.packets
waits_there None f fills is = absurd cc
waits_there (Some (Raw s)) f fills is = absurd cc
waits_there (Some (Icmp s)) f fills is = absurd cc
waits_there (Some (Udp s)) f fills is = record { socket = s; is_there = refl; packets = ap packets_in fills }
waits_there (Some (Tcp s)) f fills is = absurd cc
