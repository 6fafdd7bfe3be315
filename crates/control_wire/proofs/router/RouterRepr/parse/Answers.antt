use Rattle.std.proofs.Common.{ℕ, List, subst}
use Rattle.std.proofs.lemmas.List.{take_rest}
use Rattle.control_wire.specs.NdiscOption.{AreOptions}
use Rattle.control_wire.proofs.RouterRead.{not_solicitation}
use Rattle.control_wire.proofs.router.RouterRepr.parse.Goals as goal

pub returns-in_err-lladdr-in-133 : goal.returns-in_err-lladdr-in-133
returns-in_err-lladdr-in-133 c =
    let none = subst (λ (xs : List ℕ). ¬ AreOptions xs) (take_rest c.args.message.now 8) c.in_err-lladdr-in-133.ensures in
    rw c.from_residual.ensures (not_solicitation c.args.message.now c.in-133.is none)
