-- What waits in the queues of a socket.
use Rattle.std.specs.Prelude.{ℕ, is_some, List, [], ◌∷◌, length, Option, Some, None, if◌then◌else◌}
use Rattle.std.specs.Option.{option_and_then, option_map}
use Rattle.sockets.specs.declared.socket.SocketOf.TheVariants.{Raw, Icmp, Udp, Tcp}
use Rattle.sockets.specs.Queue.{Queued, octets_in}
use Rattle.socket_set.specs.SocketSet.{socket_at}
use Rattle.iface_host.specs.Names.{handle_named}
use Rattle.iface_host.specs.Sockets.{Socket}
use Rattle.iface_host.specs.declared.host.IfaceHost.{IfaceHost}
use Rattle.iface_host.specs.declared.queues.Fill.{Fill}
use Rattle.iface_host.specs.declared.refusal.Refusal.{Refusal}
use Rattle.iface_host.specs.declared.refusal.Refusal.TheVariants.{NoSocket}

-- how many octets the first of some packets has, 0 where there is none
abbrev pub len_of_first : {M : Type 0} → List (M × List ℕ) → ℕ
len_of_first [] = 0
len_of_first (p ∷ ps) = length p.1

abbrev pub first_len : {M : Type 0} → Queued M → ℕ
first_len q = len_of_first q.packets

-- what waits in a queue, and what it holds at most
abbrev pub fill_of : {M : Type 0} → Queued M → Fill
fill_of q = record {
  packets = length q.packets;
  octets = octets_in q.packets;
  most_packets = q.most;
  most_octets = q.limit;
  first = first_len q;
}

-- in a socket's two queues: what was received, and what is to be sent
abbrev pub fills_of : Socket → Fill × Fill
fills_of (Raw s) = (fill_of s.rx, fill_of s.tx)
fills_of (Icmp s) = (fill_of s.rx, fill_of s.tx)
fills_of (Udp s) = (fill_of s.rx, fill_of s.tx)
fills_of (Tcp s) = (fill_of s.rx, fill_of s.tx)

-- in those of the socket that a number names, if it names one
abbrev pub fills_at : IfaceHost → ℕ → Option (Fill × Fill)
fills_at host n = option_map fills_of (option_and_then (socket_at host.sockets) (handle_named host.names n))

-- the number names no socket
abbrev pub queues_refusal : IfaceHost → ℕ → Option Refusal
queues_refusal host n = if is_some (fills_at host n) then None else Some NoSocket
