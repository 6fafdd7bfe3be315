-- One call that sends: the next pending fragment is sent, then what is due to routers; then the sockets have their
-- turns. Each part asks the device for a transmit token.
use Rattle.std.specs.Prelude.{◌≡◌, ℤ, Bool, List, if◌then◌else◌}
use Rattle.net_base.specs.Device.{Event}
use Rattle.host_machine.specs.declared.results.PollResult.{PollResult}
use Rattle.host_machine.specs.declared.results.PollResult.TheVariants as result
use Rattle.host_machine.specs.Context.Note.{Note}
use Rattle.host_machine.specs.Context.Host.{Host, at}
use Rattle.host_machine.specs.Interface.Parts.{Part, Both}
use Rattle.host_machine.specs.Multicast.Joins.{JoinsEgress, LeavesEgress}
use Rattle.host_machine.specs.Multicast.Igmp.{IgmpEgress}
use Rattle.host_machine.specs.Multicast.Mld.{MldEgress}
use Rattle.host_machine.specs.Discovery.RouterSolicitation.{NdiscRsEgress}
use Rattle.host_machine.specs.Sockets.Turns.{SocketEgress}
use Rattle.host_machine.specs.Send.Fragments.{Ipv4Egress}

-- the answer says whether a packet of a socket was sent or dropped
abbrev pub answer_of : Bool → PollResult
answer_of changed = if changed then result.SocketStateChanged else result.None

-- the parts of a round, in order; whether a packet of a socket was sent or dropped
abbrev pub Round : Bool → Part
Round changed =
    Both Ipv4Egress (Both NdiscRsEgress (Both JoinsEgress (Both LeavesEgress (Both IgmpEgress (Both MldEgress
    (λ old told_it notes new. SocketEgress old changed told_it notes new))))))

pub record Egress (t : ℤ) (answer : PollResult) (old : Host) (told_it : List Event)
    (notes : List Note) (new : Host) : Type 0 where
  pub changed : Bool
  pub round : Round changed (at old t) told_it notes new
  pub answers : answer ≡ answer_of changed
