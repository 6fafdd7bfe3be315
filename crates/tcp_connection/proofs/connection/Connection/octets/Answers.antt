use Rattle.tcp_connection.proofs.ActionLemmas.{are_octets}
use Rattle.tcp_connection.proofs.connection.Connection.octets.Goals as goal

pub returns : goal.returns
returns c = are_octets c.args.action.now c.args.self.now c.octets_of.result.now c.octets_of.ensures
