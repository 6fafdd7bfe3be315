use Rattle.std.proofs.Common.{◌∙◌, List, ap, sym}
use Rattle.iface_host.specs.LastErrors.{is_about}
use Rattle.iface_host.specs.declared.errors.PacketError.{PacketError}
use Rattle.iface_host.proofs.ErrorCalls.{left_as}
use Rattle.iface_host.proofs.host.IfaceHost.take_packet_error.Goals as goal

pub returns-clause-none : goal.returns-clause-none
returns-clause-none c = λ none. ap (λ (kept : List PacketError). record c.args.self.now { errors = kept })
    (c.take.ensures.rest
    ∙ left_as (is_about c.args.protocol c.args.local_port) c.args.self.now.errors (sym c.take.ensures.first ∙ none))
