use Rattle.host_laws.proofs.Interface.Configured.{any_ip_set}
use Rattle.host_laws.proofs.laws.any_ip_is_set.Goals as goal

pub returns : goal.returns
returns c = any_ip_set
