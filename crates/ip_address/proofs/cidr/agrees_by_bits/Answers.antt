use Rattle.ip_address.proofs.AgreeingBits.{agrees_by_bits}
use Rattle.ip_address.proofs.cidr.agrees_by_bits.Goals as goal

pub returns : goal.returns
returns c = agrees_by_bits
