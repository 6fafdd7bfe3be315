use Rattle.std.proofs.Common.{◌∙◌, ap, sym, arith}
use Rattle.dns_client.specs.Names.{labels_of}
use Rattle.dns_client.proofs.Reading as reading
use Rattle.dns_client.proofs.name.is_name.Goals as goal

pub returns-then-at-octets-clause-value : goal.returns-then-at-octets-clause-value
returns-then-at-octets-clause-value c = sym (reading.outside c.args.octets.now c.args.at (omega (arith, c.if-at-octets.true)))

pub loop-place-preserved : goal.loop-place-preserved
loop-place-preserved c = (
  reading.name_next c.args.octets.now c.loop-place.place c.followed-place-in-loop-place.result (sym c.has_label.ensures ∙ c.loop-place-test.true)
      (c.followed-place-in-loop-place.ensures.labels ∙ ap (labels_of c.args.octets.now) c.after_label.ensures) ∙ c.loop-place.invariant.0,
  c.followed-place-in-loop-place.ensures.followed,
)

pub returns-clause-value : goal.returns-clause-value
returns-clause-value c =
    c.has_end.ensures
    ∙ reading.name_ends c.args.octets.now c.loop-place.place (sym c.has_label.ensures ∙ c.loop-place-test.false) c.loop-place.invariant.1
    ∙ c.loop-place.invariant.0
