-- One call that receives at most one frame: expired slots are dropped, the device is asked once, and the reply is sent.
use Rattle.std.specs.Prelude.{◌≡◌, ℕ, ℤ, List, [], ◌∷◌, Option}
use Rattle.net_base.specs.Device.{Event, Received, Reception, Frame, Nothing, Withheld}
use Rattle.host_machine.specs.declared.results.PollIngressSingleResult.{PollIngressSingleResult}
use Rattle.host_machine.specs.declared.results.PollIngressSingleResult.TheVariants as result
use Rattle.host_machine.specs.Context.Note.{Note}
use Rattle.host_machine.specs.Context.Host.{Host, without_expired}
use Rattle.host_machine.specs.Receive.Reply.{Reply, IsDropped}
use Rattle.host_machine.specs.Packet.Frame.{sends}
use Rattle.host_machine.specs.Receive.Response.{Response}
use Rattle.host_machine.specs.Receive.Ethernet.{ProcessesFrame}

-- how what the device delivered is processed; an empty frame, and none, change nothing
abbrev pub Takes : Host → Reception → Option Reply → List Note → Host → Type 0
Takes H Nothing reply notes new = IsDropped H reply notes new
Takes H Withheld reply notes new = IsDropped H reply notes new
Takes H (Frame []) reply notes new = IsDropped H reply notes new
Takes H (Frame (octet ∷ octets)) reply notes new = ProcessesFrame H.hardware_addr H (octet ∷ octets) reply notes new

-- the answer says whether there was a frame, and whether it was empty
abbrev pub answer_to : Reception → PollIngressSingleResult
answer_to Nothing = result.None
answer_to Withheld = result.None
answer_to (Frame []) = result.PacketProcessed
answer_to (Frame (octet ∷ octets)) = result.SocketStateChanged

pub record Ingress (t : ℤ) (answer : PollIngressSingleResult) (old : Host) (told : List Event)
    (notes : List Note) (new : Host) : Type 0 where
  pub reception : Reception
  pub frames : List (List ℕ)
  pub response :
      Response (λ H reply noted taken. Takes H reception reply noted taken) (without_expired old t) frames notes new
  pub events : told ≡ Received t reception ∷ sends frames
  pub answers : answer ≡ answer_to reception
