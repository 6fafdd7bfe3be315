use Rattle.std.proofs.Common.{refl}
use Rattle.ip_wire.specs.Ipv6Packet.{address_at}
use Rattle.control_wire.specs.NdiscOption.{last_of, options_from}
use Rattle.host_machine.proofs.worked_examples.advertisements_are_applied.Goals as goal

pub returns : goal.returns
unfolding address_at last_of options_from
returns c = record { learns = refl; passed_on = refl; from_elsewhere = refl; unasked_for = refl }
