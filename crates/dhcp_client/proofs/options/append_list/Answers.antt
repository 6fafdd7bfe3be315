use Rattle.std.proofs.Common.{◌≡◌, ◌+◌, ◌<◌, ℕ, List, length, None, get_or, arith}
use Rattle.dhcp_client.specs.Options.{address_data}
use Rattle.dhcp_client.proofs.Texts.{three, no_three}
use Rattle.dhcp_client.proofs.options.append_list.Goals as goal

pub returns-then-len-gt0-clause-items : goal.returns-then-len-gt0-clause-items
returns-then-len-gt0-clause-items c =
    let list = c.args.list.now in
    three c.args.out.now (address_data (get_or list 0 None)) (address_data (get_or list 1 None)) (address_data (get_or list 2 None))
    c.append.new.self c.append_octets.new.out c.append_octets-then-len-gt0.new.out c.append_octets-then-len-gt0-2.new.out
    c.args.code (c.octets_of.result + c.octets_of-2.result + c.octets_of-3.result)
    (omega (arith, c.octets_of.ensures.value, c.octets_of-2.ensures.value, c.octets_of-3.ensures.value))
    (omega (arith, c.if-len-gt0.true))
    c.append.ensures c.append_octets.ensures.items c.append_octets-then-len-gt0.ensures.items c.append_octets-then-len-gt0-2.ensures.items

pub returns-else-len-gt0-clause-items : goal.returns-else-len-gt0-clause-items
returns-else-len-gt0-clause-items c =
    let list = c.args.list.now in
    no_three c.args.out.now (address_data (get_or list 0 None)) (address_data (get_or list 1 None)) (address_data (get_or list 2 None))
    c.args.code
    (omega (arith, c.octets_of.ensures.value, c.octets_of-2.ensures.value, c.octets_of-3.ensures.value, c.if-len-gt0.false))
