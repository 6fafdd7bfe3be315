use Rattle.std.proofs.Common.{◌≡◌, [], ◌∷◌, refl}
use Rattle.std.specs.Prelude.{pos}
use Rattle.std.specs.FinMap.{get-empty}
use Rattle.iface_tables.specs.declared.neighbor.Answer.TheVariants.{NotFound}
use Rattle.iface_tables.specs.Neighbor.{answer_of}
use Rattle.ip_address.specs.declared.ip.IpAddress.TheVariants.{Ipv6}
use Rattle.ip_address.specs.Prefixes.{bits}
use Rattle.ip_wire.specs.Checksum.{word_sum}
use Rattle.ip_wire.specs.Pseudo.{pseudo}
use Rattle.ip_wire.specs.Ipv6Packet.{header_text, address_text}
use Rattle.control_wire.specs.Icmpv6.{head_with}
use Rattle.control_wire.specs.NdiscOption.{lladdr_text}
use Rattle.host_machine.specs.Context.Note.{OfDiscovery, OfIdentification, Ask, Identify}
use Rattle.host_machine.specs.Send.Dispatch.{ToSpecified, ByHop, Unknown}
use Rattle.host_machine.specs.Send.Hops.{OnLink}
use Rattle.host_machine.specs.Send.Requests.{Solicited}
use Rattle.host_machine.specs.Examples.ArpAndEcho.{no_neighbors}
use Rattle.host_machine.specs.Examples.Discovery as example
use Rattle.host_machine.proofs.worked_examples.neighbor_is_solicited.Goals as goal

is_unknown : answer_of (no_neighbors (pos 0)) (Ipv6 example.neighbor) (pos 0) ≡ NotFound
is_unknown = rw get-empty refl

pub returns : goal.returns
unfolding word_sum pseudo header_text address_text head_with lladdr_text bits
returns c =
    ToSpecified (OfIdentification (Identify 0x1406) ∷ OfDiscovery (Ask (pos 0)) ∷ []) refl (ByHop (Ipv6 example.neighbor) refl (OnLink refl refl)
    (Unknown is_unknown (Solicited example.neighbor refl refl refl refl refl))) refl
