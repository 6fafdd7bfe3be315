use Rattle.std.proofs.Common.{◌≡◌, true, rules, sym, ◌∙◌}
use Rattle.iface_dhcp.proofs.Waiting.{waits_there}
use Rattle.iface_dhcp.proofs.poll.waiting_at.Goals as goal

pub returns-in-Some-clause-count : goal.returns-in-Some-clause-count
returns-in-Some-clause-count c =
    let yes : c.is_there.result ≡ true = search rules in
    let waits = waits_there _ _ c.in-Some.ensures (sym yes ∙ c.is_there.ensures) in
    record { socket = waits.socket; is_there = waits.is_there; packets = waits.packets }
