use Rattle.std.proofs.Common.{◌≤◌, ◌∙◌, ap, sym, arith, length}
use Rattle.dns_client.specs.declared.name.Place.{Place}
use Rattle.dns_client.specs.Names.{end_from, after_label}
use Rattle.dns_client.proofs.Reading as reading
use Rattle.dns_client.proofs.name.name_end.Goals as goal

pub loop-place-preserved : goal.loop-place-preserved
loop-place-preserved c =
    let o = c.args.octets.now in
    let p = c.loop-place.place in
    let l = sym c.has_label.ensures ∙ c.loop-place-test.true in
    let within : (after_label o p).at ≤ length o = reading.label_within o p l in (
      ap (λ (q : Place). end_from q.steps o q.at q.room) c.after_label-place.ensures ∙ reading.end_next o p l ∙ c.loop-place.invariant.0,
      rw c.after_label-place.ensures within,
    )

pub returns-then-place-eq0 : goal.returns-then-place-eq0
returns-then-place-eq0 c = (
  sym (c.if-not-is_name.ensures.value),
  reading.end_spent c.args.octets.now c.loop-place.place c.if-place-eq0.true ∙ c.loop-place.invariant.0,
)

pub returns-then-has_end : goal.returns-then-has_end
returns-then-has_end c = (
  sym (c.if-not-is_name.ensures.value),
  reading.end_ended c.args.octets.now c.loop-place.place (sym c.if-has_end.ensures) ∙ c.loop-place.invariant.0,
)

pub returns-else-has_end : goal.returns-else-has_end
returns-else-has_end c = (
  sym (c.if-not-is_name.ensures.value),
  reading.end_pointed c.args.octets.now c.loop-place.place (omega (arith, c.if-place-eq0.false)) (sym c.if-has_end.ensures)
      (sym c.has_label.ensures ∙ c.loop-place-test.false) ∙ c.loop-place.invariant.0,
)
