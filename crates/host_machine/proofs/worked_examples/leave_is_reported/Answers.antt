use Rattle.std.proofs.Common.{[], ◌∷◌, refl, Ok, lit≤}
use Rattle.ip_wire.specs.Checksum.{word_sum}
use Rattle.ip_wire.specs.Ipv4Packet.{front, back, header_with}
use Rattle.control_wire.specs.Igmp.{text_with}
use Rattle.host_machine.specs.Send.Dispatch.{ToSpecified, ToMulticast, Whole}
use Rattle.host_machine.specs.Multicast.Joins.{All, Begins, Reported}
use Rattle.host_machine.specs.Examples.ArpAndEcho.{identify}
use Rattle.host_machine.specs.Examples.Groups as example
use Rattle.host_machine.proofs.worked_examples.leave_is_reported.Goals as goal

pub returns : goal.returns
unfolding word_sum front back header_with text_with
returns c = All (Reported example.group _ (Ok tt) (example.leave ∷ []) (identify ∷ []) _ Begins refl refl (ToSpecified [] refl (ToMulticast _ refl
    (Whole (lit≤ tt) (record { source = lit≤ tt; destination = lit≤ tt; len = lit≤ tt; ports = tt }) refl refl refl refl)) refl)) refl
