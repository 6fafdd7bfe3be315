use Rattle.std.proofs.Common.{◌∙◌, ap, is_some}
use Rattle.tcp_machine.specs.Outgoing as outgoing
use Rattle.tcp_connection.proofs.ActionLemmas.{is_some_of}
use Rattle.tcp_connection.proofs.connection.Connection.has_action.Goals as goal

pub returns : goal.returns
returns c = c.is_some.ensures ∙ ap is_some c.next_action.ensures ∙ is_some_of (outgoing.action c.args.now c.args.self.now)
