use Rattle.std.specs.Prelude.{◌≡◌, List, Option}
use Rattle.std.proofs.Common.{refl}
use Rattle.ip_wire.specs.declared.ipv6_packet.Ipv6Repr.{Ipv6Repr}
use Rattle.control_wire.specs.declared.ndisc.NdiscRepr.{NdiscRepr}
use Rattle.host_machine.specs.Context.Note.{Note}
use Rattle.host_machine.specs.Context.Host.{Host}
use Rattle.host_machine.specs.Receive.Reply.{Reply}
use Rattle.host_machine.specs.Discovery.Ndisc.{ProcessesNdisc, FromAfar, WithoutAddresses, FromNeighbor}
use Rattle.host_machine.proofs.worked_examples.choices_are_made.Goals as goal

afar : (r : Ipv6Repr) (message : NdiscRepr) (H new : Host) (reply : Option Reply) (notes : List Note) →
    ProcessesNdisc (record r { hop_limit = 254 }) message H reply notes new → new ≡ H
afar r message H new reply notes (FromAfar far d) = d.unchanged
afar r message H new reply notes (WithoutAddresses without d) = d.unchanged
afar r message H new reply notes (FromNeighbor own near mine h) = absurd cc

pub returns : goal.returns
returns c = record {
  near = refl;
  other_near = refl;
  far = refl;
  own_target = λ r. refl;
  other_target = λ r. refl;
  from_afar = afar;
  delivered = λ message contents remote octets H. refl;
}
