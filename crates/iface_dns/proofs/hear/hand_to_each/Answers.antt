use Rattle.std.proofs.Common.{◌∙◌, ◌+◌, ◌-◌, ℕ, ap}
use Rattle.dns_client.specs.DnsResolver.Places.{Queries}
use Rattle.iface_dns.specs.Hear.{handed}
use Rattle.iface_dns.proofs.Loops.{handed_all, handed_one}
use Rattle.iface_dns.proofs.hear.hand_to_each.Goals as goal

pub loop-place-preserved : goal.loop-place-preserved
loop-place-preserved c =
    let count = c.places-count.result in
    let at = c.loop-place.place in
    ap (handed c.args.from c.args.port c.args.octets.now (count - (at + 1)) (at + 1)) c.hand.ensures
    ∙ handed_one c.args.from c.args.port c.args.octets.now count at c.loop-place.resolver c.loop-place-test.true
    ∙ c.loop-place.invariant

pub returns : goal.returns
returns c =
    handed_all c.args.from c.args.port c.args.octets.now c.places-count.result c.loop-place.place c.loop-place.resolver c.loop-place-test.false
    ∙ c.loop-place.invariant
    ∙ ap (λ (k : ℕ). handed c.args.from c.args.port c.args.octets.now k 0 c.args.resolver.now) c.places-count.ensures
