use Rattle.std.proofs.Common.{rules, refl}
use Rattle.control_wire.specs.NdiscOption.{number_of, address_in}
use Rattle.control_wire.proofs.NdiscOptions.{next, refused, finished, found_there, found_before}
use Rattle.control_wire.proofs.ndisc_option.parse_lladdr.Goals as goal

pub returns-in_err-after : goal.returns-in_err-after
returns-in_err-after c =
    rw c.from_residual.ensures
    (refused address_in (number_of c.args.option_type) c.args.octets.now c.loop-rest.rest.now c.loop-rest.found c.loop-rest.invariant
    (search rules) c.in_err-after.ensures)

pub loop-rest-preserved-then-rest-number : goal.loop-rest-preserved-then-rest-number
loop-rest-preserved-then-rest-number c =
    next address_in (number_of c.args.option_type) c.args.octets.now c.loop-rest.rest.now _ c.loop-rest.found _ c.loop-rest.invariant
    c.in_ok-after.ensures.0
    (found_there _ _ _ _ _ _ _ c.if-rest-number.true c.number.ensures c.address_in.ensures refl)
    c.in_ok-after.ensures.1

pub loop-rest-preserved : goal.loop-rest-preserved
loop-rest-preserved c =
    next address_in (number_of c.args.option_type) c.args.octets.now c.loop-rest.rest.now _ c.loop-rest.found _ c.loop-rest.invariant
    c.in_ok-after.ensures.0
    (found_before _ _ _ _ _ _ c.if-rest-number.false c.number.ensures refl)
    c.in_ok-after.ensures.1

pub returns : goal.returns
returns c =
    finished address_in (number_of c.args.option_type) c.args.octets.now c.loop-rest.rest.now c.loop-rest.found c.loop-rest.invariant (search rules)
