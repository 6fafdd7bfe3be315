use Rattle.std.proofs.Common.{rules}
use Rattle.interface.proofs.IngressCall.{took_none, took_some}
use Rattle.interface.proofs.interface.take_frame.Goals as goal

pub returns-then-not-is_empty : goal.returns-then-not-is_empty
returns-then-not-is_empty c = took_some c.args.frame.now c.process_frame.new.out (search rules) c.process_frame.ensures

pub returns-else-not-is_empty : goal.returns-else-not-is_empty
returns-else-not-is_empty c = took_none c.args.frame.now c.clear.new.self (search rules) c.clear.ensures
