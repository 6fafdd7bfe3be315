use Rattle.std.proofs.Common.{◌≡◌, Some, None, rules}
use Rattle.iface_dhcp.specs.Dhcp.{new_refusal}
use Rattle.iface_c.specs.Dhcp.{settings_in}
use Rattle.iface_c.specs.DhcpHandle.{dhcp_in}
use Rattle.iface_c.specs.Handle.{host_in}
use Rattle.iface_c.proofs.Codes.{of_refusal}
use Rattle.iface_c.proofs.dhcp.iface_dhcp_new.Goals as goal

pub returns-in-Err-clause-code : goal.returns-in-Err-clause-code
returns-in-Err-clause-code c =
    let at : settings_in c.args.seed c.args.known.now ≡ Some c.in-Some.settings = search rules in
    let free : dhcp_in c.args.client.now ≡ None = search rules in
    let has : host_in c.args.handle.now ≡ Some c.deref_mut.result.now = search rules in
    rw (at, free, has) (of_refusal (new_refusal c.deref_mut.result.now) c.in-Err.refusal c.code.result
    c.in-Err.ensures.why c.in-Err.ensures.memory c.code.ensures.code c.code.ensures.refuses)
