use Rattle.std.proofs.Common.{sym, ◌∙◌}
use Rattle.std.proofs.lemmas.List.{append_cancel_left}
use Rattle.net_base.proofs.driver.trace_determines_events.Goals as goal

pub returns : goal.returns
returns g c = λ old new one other told told'.
    append_cancel_left old.trace.events one other (sym told.0 ∙ told'.0)
