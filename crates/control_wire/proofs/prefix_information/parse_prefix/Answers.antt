use Rattle.std.proofs.Common.{rules, refl}
use Rattle.control_wire.specs.PrefixInformation.{prefix_at}
use Rattle.control_wire.proofs.NdiscOptions.{next, refused, finished, found_there, found_before}
use Rattle.control_wire.proofs.prefix_information.parse_prefix.Goals as goal

pub returns-in_err-after : goal.returns-in_err-after
returns-in_err-after c =
    rw c.from_residual.ensures
    (refused prefix_at 3 c.args.octets.now c.loop-rest.rest.now c.loop-rest.found c.loop-rest.invariant (search rules) c.in_err-after.ensures)

pub loop-rest-preserved-then-rest-eq3 : goal.loop-rest-preserved-then-rest-eq3
loop-rest-preserved-then-rest-eq3 c =
    next prefix_at 3 c.args.octets.now c.loop-rest.rest.now _ c.loop-rest.found _ c.loop-rest.invariant
    c.in_ok-after.ensures.0
    (found_there _ _ _ _ _ _ _ c.if-rest-eq3.true refl c.prefix_at.ensures refl)
    c.in_ok-after.ensures.1

pub loop-rest-preserved : goal.loop-rest-preserved
loop-rest-preserved c =
    next prefix_at 3 c.args.octets.now c.loop-rest.rest.now _ c.loop-rest.found _ c.loop-rest.invariant
    c.in_ok-after.ensures.0
    (found_before _ _ _ _ _ _ c.if-rest-eq3.false refl refl)
    c.in_ok-after.ensures.1

pub returns : goal.returns
returns c = finished prefix_at 3 c.args.octets.now c.loop-rest.rest.now c.loop-rest.found c.loop-rest.invariant (search rules)
