use Rattle.std.proofs.Common.{◌∙◌, ap, sym, arith}
use Rattle.iface_host.specs.Errors.{error_in_ipv4, error_in_ipv6}
use Rattle.iface_host.proofs.ErrorCalls.{of_ipv4, of_ipv6}
use Rattle.iface_host.proofs.errors.error_in_ethernet.Goals as goal

pub returns-in-2048 : goal.returns-in-2048
returns-in-2048 c =
    c.error_in_ipv4.ensures ∙ ap (error_in_ipv4 c.args.checksum.now c.args.own.now) c.behind_header.ensures
    ∙ of_ipv4 c.args.checksum.now c.args.own.now c.args.frame.now (omega arith) (sym c.u16_at.ensures ∙ c.in-2048.is)

pub returns-in-34525 : goal.returns-in-34525
returns-in-34525 c =
    c.error_in_ipv6.ensures ∙ ap (error_in_ipv6 c.args.checksum.now c.args.own.now) c.behind_header-in-34525.ensures
    ∙ of_ipv6 c.args.checksum.now c.args.own.now c.args.frame.now (omega arith) (sym c.u16_at.ensures ∙ c.in-34525.is)
