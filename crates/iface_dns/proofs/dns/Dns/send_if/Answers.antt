use Rattle.std.proofs.Common.{Option, sym, subst}
use Rattle.dns_client.specs.declared.dns_resolver.resolver.DnsMessage.{DnsMessage}
use Rattle.iface_dns.specs.Ask.{SendsMessageIf}
use Rattle.iface_dns.proofs.dns.Dns.send_if.Goals as goal

pub returns-in-Some : goal.returns-in-Some
returns-in-Some c =
    subst (λ (m : Option DnsMessage). SendsMessageIf m c.args.text.now c.args.place c.args.self.now c.make_room.new.self c.args.host.now c.send.new.host)
    (sym c.in-Some.is)
    (record { between = c.make_room.new.host; room = c.make_room.ensures; sends = c.send.ensures })
