use Rattle.control_wire.proofs.NdiscSix.{are_six}
use Rattle.control_wire.proofs.ndisc.link_layer_addrs_are_six.Goals as goal

pub returns : goal.returns
returns c = are_six
