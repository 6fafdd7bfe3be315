use Rattle.std.proofs.Common.{[], refl, lit≤}
use Rattle.ip_address.specs.Prefixes.{bits}
use Rattle.ip_wire.specs.Checksum.{word_sum}
use Rattle.ip_wire.specs.Pseudo.{pseudo}
use Rattle.ip_wire.specs.Udp.{header_with}
use Rattle.ip_wire.specs.Ipv6Packet.{header_text, address_text}
use Rattle.host_machine.specs.Send.Dispatch.{ToSpecified, ByHop, Known, Whole}
use Rattle.host_machine.specs.Send.Hops.{OnLink}
use Rattle.host_machine.specs.Examples.ArpAndEcho as example
use Rattle.host_machine.specs.Examples.Ipv6.{sender}
use Rattle.host_machine.proofs.Examples.Exchange.{is_learnt_v6}
use Rattle.host_machine.proofs.worked_examples.ipv6_datagram_is_sent.Goals as goal

pub returns : goal.returns
unfolding word_sum pseudo header_text address_text bits header_with
returns c = ToSpecified [] refl (ByHop sender refl (OnLink refl refl) (Known example.sender_hardware is_learnt_v6 (Whole (lit≤ tt) (record {
  source = lit≤ tt;
  destination = lit≤ tt;
  len = lit≤ tt;
  ports = (lit≤ tt, lit≤ tt);
}) refl refl refl refl))) refl
