use Rattle.std.proofs.Common.{ap, sym, ◌∙◌}
use Rattle.host_machine.specs.Context.Host.{with_slots}
use Rattle.iface_context.proofs.autoconfiguration.sync_slaac.Goals as goal

pub returns-then-sync_required : goal.returns-then-sync_required
returns-then-sync_required c =
    λ slots sockets. rw (sym c.sync_required.ensures ∙ c.if-sync_required.true) (ap (λ H. with_slots H slots) (c.apply_slaac.ensures sockets))
