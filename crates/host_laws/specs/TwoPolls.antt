-- A worked example: two datagrams that a socket has queued are sent in two polls, and then nothing is due.
use Rattle.std.specs.Prelude.{◌≡◌, ℕ, pos, true, false, List, [], ◌∷◌, Some, None}
use Rattle.net_base.specs.Device.{Received, Nothing, Asked, Sent}
use Rattle.sockets.specs.declared.endpoint.IpEndpoint.{IpEndpoint}
use Rattle.sockets.specs.Udp.{UdpSocket}
use Rattle.sockets.specs.declared.socket.SocketOf.TheVariants.{Udp}
use Rattle.host_machine.specs.declared.results.PollResult.TheVariants as poll
use Rattle.host_machine.specs.Context.Note.{OfIdentification, Identify}
use Rattle.host_machine.specs.Context.Host.{Host}
use Rattle.host_machine.specs.Interface.Due.{Due, IsLeast}
use Rattle.host_machine.specs.Interface.Polling.{Polls}
use Rattle.host_machine.specs.Examples.ArpAndEcho as example
use Rattle.host_machine.specs.Examples.Sockets.{listening_socket}
use Rattle.host_laws.specs.Progress.{work}

-- `hi` to port 5000 of 192.168.69.100
abbrev pub datagram : IpEndpoint × List ℕ
datagram = (record { addr = example.sender; port = 5000 }, 0x68 ∷ 0x69 ∷ [])

-- its frame, from 192.168.69.1, port 6969
abbrev pub frame : List ℕ
frame =
    0x02 ∷ 0 ∷ 0 ∷ 0 ∷ 0 ∷ 0x02 ∷ 0x02 ∷ 0 ∷ 0 ∷ 0 ∷ 0 ∷ 0x01 ∷ 0x08 ∷ 0
    ∷ 0x45 ∷ 0 ∷ 0 ∷ 0x1e ∷ 0 ∷ 0 ∷ 0x40 ∷ 0 ∷ 0x40 ∷ 0x11 ∷ 0x2f ∷ 0x19 ∷ 192 ∷ 168 ∷ 69 ∷ 1 ∷ 192 ∷ 168 ∷ 69 ∷ 100
    ∷ 0x1b ∷ 0x39 ∷ 0x13 ∷ 0x88 ∷ 0 ∷ 0x0a ∷ 0x5c ∷ 0xf9 ∷ 0x68 ∷ 0x69 ∷ []

-- a UDP socket with these datagrams to send
abbrev pub with_queue : List (IpEndpoint × List ℕ) → UdpSocket
with_queue packets = record listening_socket { tx = record { packets = packets; most = 2; limit = 16 } }

-- a host that knows the destination, with that socket alone
abbrev pub with_queued : ℕ → List (IpEndpoint × List ℕ) → Host
with_queued ipv4_id packets = record (example.host ipv4_id example.neighbors_with_sender) {
  sockets = record { places = Some (Udp (with_queue packets)) ∷ []; waits = None ∷ []; grows = false; room = 1 };
}

-- each poll with a budget of one sends a datagram. After the first one the host is due again immediately, with less
-- work; after the second one it isn't
pub record TwoPollsSendTwo : Type 0 where
  pub first : Polls (pos 0) 1 poll.SocketStateChanged (with_queued 0x1405 (datagram ∷ datagram ∷ []))
      (Received (pos 0) Nothing ∷ Asked (pos 0) true ∷ Sent 0 frame ∷ []) (OfIdentification (Identify 0x1405) ∷ [])
      (with_queued 0x1406 (datagram ∷ []))
  pub still_due : IsLeast (Due (with_queued 0x1406 (datagram ∷ []))) (Some (pos 0))
  pub second : Polls (pos 0) 1 poll.SocketStateChanged (with_queued 0x1406 (datagram ∷ []))
      (Received (pos 0) Nothing ∷ Asked (pos 0) true ∷ Sent 0 frame ∷ []) (OfIdentification (Identify 0x1406) ∷ [])
      (with_queued 0x1407 [])
  pub at_rest : IsLeast (Due (with_queued 0x1407 [])) None
  pub work_at_first : work (with_queued 0x1405 (datagram ∷ datagram ∷ [])) ≡ 16
  pub work_between : work (with_queued 0x1406 (datagram ∷ [])) ≡ 8
  pub work_at_last : work (with_queued 0x1407 []) ≡ 0
