-- Worked examples of polls, and of when to poll again.
use Rattle.std.specs.Prelude.{pos, [], ◌∷◌, Some, None}
use Rattle.net_base.specs.Device.{Received, Frame, Nothing, Sent}
use Rattle.host_machine.specs.declared.results.PollResult.TheVariants as poll
use Rattle.host_machine.specs.Context.Host.{at}
use Rattle.host_machine.specs.Interface.Polling.{Polls}
use Rattle.host_machine.specs.Interface.Due.{Due, IsLeast, IsRest}
use Rattle.host_machine.specs.Examples.ArpAndEcho as example
use Rattle.host_machine.specs.Examples.Sockets.{with_sending}

-- an ARP request waits at the device: without a budget the device isn't asked, and the moment is that of the
-- poll; with a budget of one call the request is received and answered; with more calls the device is asked once
-- more, and has nothing
pub record RequestIsPolled : Type 0 where
  pub not_asked_for : Polls (pos 5) 0 poll.None (example.host 0x1405 (example.no_neighbors (pos 0))) [] []
      (at (example.host 0x1405 (example.no_neighbors (pos 0))) (pos 5))
  pub taken : Polls (pos 0) 1 poll.SocketStateChanged (example.host 0x1405 (example.no_neighbors (pos 0)))
      (Received (pos 0) (Frame example.request) ∷ Sent 0 example.reply ∷ []) []
      (example.host 0x1405 example.neighbors_with_sender)
  pub taken_alone : Polls (pos 0) 2 poll.SocketStateChanged (example.host 0x1405 (example.no_neighbors (pos 0)))
      (Received (pos 0) (Frame example.request) ∷ Sent 0 example.reply ∷ Received (pos 0) Nothing ∷ []) []
      (example.host 0x1405 example.neighbors_with_sender)

-- a socket that waits until 1 s is due then, seen a microsecond before, and from then on immediately; a host
-- without sockets is never due
pub record WaitIsDue : Type 0 where
  pub waiting : IsLeast (Due (with_sending (Some (example.sender, pos 1000000)) (pos 999999) 0x1406 (pos 1000000)))
      (Some (pos 1000000))
  pub rest : IsRest (pos 999999) (Some (pos 1000000)) (Some 1)
  pub passed : IsLeast (Due (with_sending (Some (example.sender, pos 1000000)) (pos 1000000) 0x1406 (pos 1000000)))
      (Some (pos 0))
  pub without_rest : IsRest (pos 1000000) (Some (pos 0)) (Some 0)
  pub never : IsLeast (Due (example.host 0x1405 example.neighbors_with_sender)) None
