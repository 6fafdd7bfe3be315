use Rattle.dhcp_client.proofs.Reading.{fit}
use Rattle.dhcp_client.proofs.message.join_if.Goals as goal

pub returns-else-has_options-clause-items : goal.returns-else-has_options-clause-items
returns-else-has_options-clause-items c = rw c.if-has_options.false (fit c.args.data.now.items c.requires)
