-- What a socket has to send: how many packets, and how long they are.
use Rattle.std.specs.Prelude.{ℕ, ◌+◌, nat_lt, not, Bool, false, List, length, map, Option, Some, None}
use Rattle.sockets.specs.Queue.{Queued, first_of, is_room}
use Rattle.sockets.specs.declared.socket.SocketOf.{SocketOf}
use Rattle.sockets.specs.declared.socket.SocketOf.TheVariants.{Raw, Icmp, Udp, Tcp}

-- the octets of a queue's first packet behind so many of headers; 0 where there is none
abbrev pub len_behind : {M : Type 0} → ℕ → Option (M × List ℕ) → ℕ
len_behind headers None = 0
len_behind headers (Some p) = headers + length p.1

-- the length of the first packet that a socket has to send, over IPv4 (RFC 791 3.1, 768, 9293 3.1): TCP's and UDP's
-- with their headers, a raw one as it stands
abbrev pub first_len : {L : Type 0} → SocketOf L → ℕ
first_len (Raw s) = len_behind 0 (first_of s.tx.packets)
first_len (Icmp s) = len_behind 20 (first_of s.tx.packets)
first_len (Udp s) = len_behind 28 (first_of s.tx.packets)
first_len (Tcp s) = len_behind 40 (first_of s.tx.packets)

-- the octets of each packet of a queue behind so many of headers
abbrev pub each_behind : {M : Type 0} → ℕ → List (M × List ℕ) → List ℕ
each_behind headers packets = map (λ p. headers + length p.1) packets

-- the lengths of the packets that a socket has to send, in order, counted as that of the first one
abbrev pub lens_to_send : {L : Type 0} → SocketOf L → List ℕ
lens_to_send (Raw s) = each_behind 0 s.tx.packets
lens_to_send (Icmp s) = each_behind 20 s.tx.packets
lens_to_send (Udp s) = each_behind 28 s.tx.packets
lens_to_send (Tcp s) = each_behind 40 s.tx.packets

-- how many packets a socket has to send
abbrev pub count_to_send : {L : Type 0} → SocketOf L → ℕ
count_to_send (Raw s) = length s.tx.packets
count_to_send (Icmp s) = length s.tx.packets
count_to_send (Udp s) = length s.tx.packets
count_to_send (Tcp s) = length s.tx.packets

-- a socket has something to send
abbrev pub has_packets : {L : Type 0} → Option (SocketOf L) → Bool
has_packets None = false
has_packets (Some s) = nat_lt 0 (count_to_send s)

-- others wait behind a socket's first packet
abbrev pub has_others : {L : Type 0} → Option (SocketOf L) → Bool
has_others None = false
has_others (Some s) = nat_lt 1 (count_to_send s)

-- a queue has no room for another packet as long as its first
abbrev pub lacks_room : {M : Type 0} → Queued M → Option (M × List ℕ) → Bool
lacks_room q None = false
lacks_room q (Some p) = not (is_room q (length p.1))

-- the queue of what a socket has to send has none
abbrev pub is_crowded : {L : Type 0} → Option (SocketOf L) → Bool
is_crowded None = false
is_crowded (Some (Raw s)) = lacks_room s.tx (first_of s.tx.packets)
is_crowded (Some (Icmp s)) = lacks_room s.tx (first_of s.tx.packets)
is_crowded (Some (Udp s)) = lacks_room s.tx (first_of s.tx.packets)
is_crowded (Some (Tcp s)) = lacks_room s.tx (first_of s.tx.packets)
