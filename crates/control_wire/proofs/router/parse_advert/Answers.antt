use Rattle.std.proofs.Common.{ℕ, List, rules, ap, subst, ◌∙◌}
use Rattle.std.proofs.lemmas.List.{take_rest}
use Rattle.control_wire.specs.NdiscOption.{AreOptions, lladdr_in}
use Rattle.control_wire.specs.PrefixInformation.{prefix_in}
use Rattle.control_wire.proofs.RouterRead.{advert_read}
use Rattle.control_wire.proofs.router.parse_advert.Goals as goal

pub returns-in_err-lladdr : goal.returns-in_err-lladdr
returns-in_err-lladdr c =
    let none = subst (λ (xs : List ℕ). ¬ AreOptions xs) (take_rest c.args.message.now 16) c.in_err-lladdr.ensures in
    rw c.from_residual.ensures (λ is. none is.options)

pub returns : goal.returns
returns c =
    let rest = take_rest c.args.message.now 16 in (
      record { whole = search rules; type = c.requires.kind; code = c.requires.code; options = subst AreOptions rest c.in_ok-lladdr.ensures.0 },
      advert_read _ _ c.flags_of.result c.u16_at.result _ c.in_ok-lladdr.lladdr _
          c.in_ok-prefix_info.prefix_info _ c.flags_of.ensures c.u16_at.ensures
          (c.in_ok-lladdr.ensures.1 ∙ ap (lladdr_in 1) rest) (c.in_ok-prefix_info.ensures.1 ∙ ap prefix_in rest),
    )
