use Rattle.std.proofs.Common.{arith, ◌≡◌, ◌∙◌, ap, sym, drop, length, map, min}
use Rattle.std.proofs.lemmas.List.{drop-map, length-map}
use Rattle.network.specs.Kept.{sent_of, wire_of}
use Rattle.network.proofs.transmission.Kept.forget.Goals as goal

pub returns-clause-rest : goal.returns-clause-rest
returns-clause-rest c =
    let size : length (wire_of c.args.self.now) ≡ length c.args.self.now.transmissions.items =
    length-map c.args.self.now.transmissions.items sent_of in
    let n : c.loop.counter ≡ min c.args.count (length (wire_of c.args.self.now)) = omega (arith, size) in
    ap (map sent_of) c.loop.invariant.0 ∙ sym (drop-map sent_of c.loop.counter c.args.self.now.transmissions.items)
    ∙ ap (λ m. drop m (wire_of c.args.self.now)) n
