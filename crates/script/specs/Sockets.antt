-- The sockets of a script's host.
use Rattle.std.specs.Prelude.{ℕ, [], None}
use Rattle.sockets.specs.declared.endpoint.IpEndpoint.{IpEndpoint}
use Rattle.sockets.specs.Queue.{Queued}
use Rattle.sockets.specs.Udp.{UdpSocket}

-- an empty queue for four packets with 4,096 octets in total
abbrev pub empty_queue : Queued IpEndpoint
empty_queue = record { packets = []; most = 4; limit = 4096 }

-- a UDP socket that listens at a port of any address
abbrev pub listening_socket : ℕ → UdpSocket
listening_socket port =
    record { endpoint = record { addr = None; port = port }; hop_limit = 64; rx = empty_queue; tx = empty_queue }
