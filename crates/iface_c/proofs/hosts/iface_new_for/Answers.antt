use Rattle.std.proofs.Common.{◌≡◌, Some, None, true, rules}
use Rattle.std.specs.Prelude.{◌==◌}
use Rattle.iface_host.specs.TableRefusals.{settings_refusal}
use Rattle.iface_c.specs.Config.{settings_in}
use Rattle.iface_c.specs.Handle.{host_in}
use Rattle.iface_c.proofs.Codes.{of_done, of_refusal}
use Rattle.iface_c.proofs.hosts.iface_new_for.Goals as goal

pub returns-in-Ok-clause-code : goal.returns-in-Ok-clause-code
returns-in-Ok-clause-code c =
    let at : settings_in c.args.config.now ≡ Some c.in-Some.settings = search rules in
    let none : host_in c.args.handle.now ≡ None = search rules in
    let same : (c.args.version == 983040) ≡ true = search rules in
    rw (same, at, none) (of_done c.in-Ok.host (settings_refusal c.in-Some.settings) c.in-Ok.ensures.why)

pub returns-in-Err-clause-code : goal.returns-in-Err-clause-code
returns-in-Err-clause-code c =
    let at : settings_in c.args.config.now ≡ Some c.in-Some.settings = search rules in
    let none : host_in c.args.handle.now ≡ None = search rules in
    let same : (c.args.version == 983040) ≡ true = search rules in
    rw (same, at, none) (of_refusal (settings_refusal c.in-Some.settings) c.in-Err.refusal c.code.result
    c.in-Err.ensures.why c.in-Err.ensures.memory c.code.ensures.code c.code.ensures.refuses)
