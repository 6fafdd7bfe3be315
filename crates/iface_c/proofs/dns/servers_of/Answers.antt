use Rattle.std.proofs.Common.{◌≡◌, ◌∙◌, refl, sym, Some, None, [], rules}
use Rattle.iface_c.specs.Dns.{with_server, server_at}
use Rattle.iface_c.proofs.ServersIn.{no_second, third}
use Rattle.iface_c.proofs.dns.servers_of.Goals as goal

pub returns-in_err-servers-2 : goal.returns-in_err-servers-2
returns-in_err-servers-2 c =
    let came : c.with_server.result ≡ Some c.in_ok-servers.servers = c.in_ok-servers.was in
    let first : with_server [] (server_at c.args.addresses.now 0) ≡ Some c.in_ok-servers.servers.items = search (rules, came) in
    let none : c.with_server-2.result ≡ None = c.in_err-servers-2.was in
    let second : with_server c.in_ok-servers.servers.items (server_at c.args.addresses.now 1) ≡ None = search (rules, none) in
    let all = no_second c.args.addresses.now c.in_ok-servers.servers.items first second in
    rw (c.from_residual-in_err-servers-2.ensures, all) refl

pub returns : goal.returns
returns c =
    let came : c.with_server.result ≡ Some c.in_ok-servers.servers = c.in_ok-servers.was in
    let first : with_server [] (server_at c.args.addresses.now 0) ≡ Some c.in_ok-servers.servers.items = search (rules, came) in
    let next : c.with_server-2.result ≡ Some c.in_ok-servers-2.servers = c.in_ok-servers-2.was in
    let second : with_server c.in_ok-servers.servers.items (server_at c.args.addresses.now 1) ≡ Some c.in_ok-servers-2.servers.items =
    search (rules, next) in
    let all = third c.args.addresses.now c.in_ok-servers.servers.items first c.in_ok-servers-2.servers.items second in
    c.with_server-3.ensures.servers ∙ sym all
