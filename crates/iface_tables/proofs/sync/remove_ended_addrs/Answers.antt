use Rattle.std.proofs.Common.{rules}
use Rattle.arrayvec.proofs.ArrayVecLemmas.{filter-from_retain}
use Rattle.iface_tables.proofs.sync.remove_ended_addrs.Goals as goal

pub returns-clause-list : goal.returns-clause-list
returns-clause-list c = filter-from_retain _ _ _ (λ x b f' y called. search rules) _ _ c.retain.ensures.filtered
