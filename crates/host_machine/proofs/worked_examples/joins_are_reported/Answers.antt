use Rattle.std.proofs.Common.{[], ◌∷◌, refl, Ok, lit≤}
use Rattle.ip_wire.specs.Checksum.{word_sum}
use Rattle.ip_wire.specs.Pseudo.{pseudo}
use Rattle.ip_wire.specs.Ipv4Packet.{front, back, header_with}
use Rattle.ip_wire.specs.Ipv6Packet.{header_text, address_text}
use Rattle.ip_wire.specs.HopByHop.{option_text}
use Rattle.control_wire.specs.Icmpv6.{head_with}
use Rattle.control_wire.specs.Igmp.{text_with}
use Rattle.control_wire.specs.Mld.{record_text}
use Rattle.host_machine.specs.Send.Dispatch.{ToSpecified, ToMulticast, Whole}
use Rattle.host_machine.specs.Multicast.Joins.{All, Begins, Reported}
use Rattle.host_machine.specs.Examples.ArpAndEcho.{identify}
use Rattle.host_machine.specs.Examples.Groups as example
use Rattle.host_machine.proofs.worked_examples.joins_are_reported.Goals as goal

pub returns : goal.returns
unfolding word_sum pseudo front back header_with header_text address_text option_text head_with text_with record_text
returns c = record {
  ipv4 = All (Reported example.group _ (Ok tt) (example.report ∷ []) (identify ∷ []) _ Begins refl refl (ToSpecified [] refl (ToMulticast _ refl
      (Whole (lit≤ tt) (record { source = lit≤ tt; destination = lit≤ tt; len = lit≤ tt; ports = tt }) refl refl refl refl)) refl)) refl;
  ipv6 = All (Reported example.group_v6 _ (Ok tt) (example.report_v6 ∷ []) (identify ∷ []) _ Begins refl refl (ToSpecified [] refl (ToMulticast _ refl
      (Whole (lit≤ tt) (record { source = lit≤ tt; destination = lit≤ tt; len = lit≤ tt; ports = tt }) refl refl refl refl)) refl)) refl;
}
