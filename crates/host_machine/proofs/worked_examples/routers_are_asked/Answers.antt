use Rattle.std.proofs.Common.{[], ◌∷◌, refl, Ok, lit≤}
use Rattle.ip_wire.specs.Checksum.{word_sum}
use Rattle.ip_wire.specs.Pseudo.{pseudo}
use Rattle.ip_wire.specs.Ipv6Packet.{header_text, address_text}
use Rattle.control_wire.specs.Icmpv6.{head_with}
use Rattle.control_wire.specs.NdiscOption.{lladdr_text}
use Rattle.host_machine.specs.Send.Dispatch.{ToSpecified, ToMulticast, Whole}
use Rattle.host_machine.specs.Discovery.RouterSolicitation.{Goes}
use Rattle.host_machine.specs.Examples.Slaac.{solicitation}
use Rattle.host_machine.proofs.worked_examples.routers_are_asked.Goals as goal

pub returns : goal.returns
unfolding word_sum pseudo header_text address_text head_with lladdr_text
returns c = Goes _ (Ok tt) (solicitation ∷ []) _ refl (ToSpecified [] refl (ToMulticast _ refl (Whole (lit≤ tt) (record {
  source = lit≤ tt;
  destination = lit≤ tt;
  len = lit≤ tt;
  ports = tt;
}) refl refl refl refl)) refl) refl refl
