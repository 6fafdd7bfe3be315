use Rattle.std.proofs.Common.{◌≡◌, ℤ, Some, of_z, to_z, w64, subst, rules}
use Rattle.iface_dns.specs.Start.{start_refusal}
use Rattle.iface_c.specs.Dns.{code_if_start, type_in}
use Rattle.iface_c.specs.DnsHandle.{dns_in}
use Rattle.iface_c.specs.Handle.{host_in}
use Rattle.iface_c.specs.Status.{IsDueOrMemory}
use Rattle.iface_c.proofs.StartCodes.{start_refused}
use Rattle.iface_c.proofs.dns.iface_dns_start.Goals as goal

pub returns-in-Err-clause-code : goal.returns-in-Err-clause-code
returns-in-Err-clause-code c =
    let same : to_z w64 (of_z w64 c.args.now) ≡ c.args.now = search rules in
    let kind : type_in c.args.query_type ≡ Some c.in-Some.query_type = search rules in
    let client : dns_in c.args.client.now ≡ Some c.deref_mut.result.now = search rules in
    let host : host_in c.args.handle.now ≡ Some c.deref_mut-2.result.now = search rules in
    let code = c.code_of_start.result in
    let started = start_refused (start_refusal (to_z w64 (of_z w64 c.args.now)) c.args.name.now c.deref_mut.result.now c.deref_mut-2.result.now)
    c.in-Err.refusal code c.in-Err.ensures.why c.in-Err.ensures.memory c.code_of_start.ensures.code c.code_of_start.ensures.refuses in
    rw (kind, client, host)
    (subst (λ (z : ℤ). IsDueOrMemory (code_if_start (start_refusal z c.args.name.now c.deref_mut.result.now c.deref_mut-2.result.now)) code)
    same started)
