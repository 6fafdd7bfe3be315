use Rattle.std.proofs.Common.{◌∙◌, ◌+◌, ◌-◌, ℕ, ap}
use Rattle.iface_dns.specs.Hear.{failed}
use Rattle.iface_dns.proofs.Loops.{failed_all, failed_one}
use Rattle.iface_dns.proofs.hear.tell_each.Goals as goal

pub loop-place-preserved : goal.loop-place-preserved
loop-place-preserved c =
    let count = c.places-places.result in
    let at = c.loop-place.place in
    ap (failed c.args.server (count - (at + 1)) (at + 1)) c.server_failed.ensures
    ∙ failed_one c.args.server count at c.loop-place.resolver c.loop-place-test.true
    ∙ c.loop-place.invariant

pub returns : goal.returns
returns c =
    failed_all c.args.server c.places-places.result c.loop-place.place c.loop-place.resolver c.loop-place-test.false
    ∙ c.loop-place.invariant
    ∙ ap (λ (k : ℕ). failed c.args.server k 0 c.args.resolver.now) c.places-places.ensures
