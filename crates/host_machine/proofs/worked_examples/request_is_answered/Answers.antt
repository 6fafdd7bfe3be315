use Rattle.host_machine.proofs.Examples.ArpExchange.{request_answered}
use Rattle.host_machine.proofs.worked_examples.request_is_answered.Goals as goal

pub returns : goal.returns
returns c = request_answered
