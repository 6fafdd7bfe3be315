use Rattle.std.proofs.Common.{◌≡◌, Some, rules}
use Rattle.iface_host.specs.Segments.{tcp_opening_refusal}
use Rattle.iface_c.specs.Handle.{host_in}
use Rattle.iface_c.specs.Segments.{ends_in}
use Rattle.iface_c.proofs.Codes.{of_refusal}
use Rattle.iface_c.proofs.segments.iface_tcp_open.Goals as goal

pub returns-in-Err-clause-code : goal.returns-in-Err-clause-code
returns-in-Err-clause-code c =
    let at : ends_in c.args.local.now c.args.remote.now ≡ Some (c.in-Some.local, c.in-Some.remote) = search rules in
    let has : host_in c.args.handle.now ≡ Some c.deref_mut.result.now = search rules in
    rw (at, has) (of_refusal (tcp_opening_refusal c.deref_mut.result.now c.in-Some.local c.in-Some.remote) c.in-Err.refusal c.code.result
    c.in-Err.ensures.why c.in-Err.ensures.memory c.code.ensures.code c.code.ensures.refuses)
