use Rattle.host_laws.proofs.Receive.WordsByLists.{words_by_lists}
use Rattle.host_laws.proofs.restraint.words_are_lists.Goals as goal

pub returns : goal.returns
returns c = words_by_lists
