use Rattle.std.proofs.Common.{◌∙◌}
use Rattle.dhcp_client.proofs.Reading.{fill}
use Rattle.dhcp_client.proofs.options.append_data.Goals as goal

pub returns-clause-items : goal.returns-clause-items
returns-clause-items c =
    c.append_all.ensures
    ∙ fill c.args.found.now.items c.args.octets.now c.remaining_capacity.result c.min-len.result c.remaining_capacity.ensures c.min-len.ensures
