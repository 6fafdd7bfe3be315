use Rattle.std.proofs.Common.{◌∙◌, ap}
use Rattle.dns_client.specs.declared.query.DnsResult.{DnsResult}
use Rattle.dns_client.specs.DnsResolver.Places.{Queries}
use Rattle.dns_client.specs.DnsResolver.Resolver.{after_answer}
use Rattle.iface_dns.specs.Dns.{with_resolver}
use Rattle.iface_dns.specs.Texts.{IsAddress}
use Rattle.iface_dns.proofs.dns.Dns.answer_text.Goals as goal

pub returns-in-Ok : goal.returns-in-Ok
returns-in-Ok c =
    let d = c.args.self.now in
    IsAddress c.in-Ok.address c.in-Ok.ensures
    (ap (λ (r : Queries). with_resolver r d)
    (c.answer.ensures ∙ ap (λ (g : DnsResult). after_answer c.args.handle.place g d.resolver) c.told.ensures))
