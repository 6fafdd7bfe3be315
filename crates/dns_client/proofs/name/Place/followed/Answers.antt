use Rattle.std.proofs.Common.{◌≤◌, ◌∙◌, ap, sym, arith}
use Rattle.dns_client.specs.Names.{labels_of, after_pointer}
use Rattle.dns_client.proofs.Reading as reading
use Rattle.dns_client.proofs.name.Place.followed.Goals as goal

pub loop-place-preserved : goal.loop-place-preserved
loop-place-preserved c =
    let o = c.args.octets.now in
    let p = c.loop-place.place in
    let fewer : (after_pointer o p).steps ≤ c.args.self.steps = omega (arith, c.loop-place.invariant.1) in (
      ap (labels_of o) c.after_pointer-place.ensures
          ∙ sym (reading.pointer_here o p (sym c.has_pointer.ensures ∙ c.loop-place-test.true)) ∙ c.loop-place.invariant.0,
      rw c.after_pointer-place.ensures fewer,
    )
