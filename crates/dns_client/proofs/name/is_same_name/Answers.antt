use Rattle.std.proofs.Common.{◌∙◌, ap, sym}
use Rattle.dns_client.specs.Names.{labels_of}
use Rattle.dns_client.proofs.Reading as reading
use Rattle.dns_client.proofs.name.is_same_name.Goals as goal

pub loop-place-preserved : goal.loop-place-preserved
loop-place-preserved c = (
  reading.same_next c.args.octets.now c.args.others.now c.loop-place.place c.loop-place.other c.followed-place-in-loop-place.result
      c.followed-other-in-loop-place.result (sym c.have_same_label.ensures ∙ c.loop-place-test.true)
      (c.followed-place-in-loop-place.ensures.labels ∙ ap (labels_of c.args.octets.now) c.after_label.ensures)
      (c.followed-other-in-loop-place.ensures.labels ∙ ap (labels_of c.args.others.now) c.after_label-in-loop-place.ensures)
      ∙ c.loop-place.invariant.0,
  c.followed-place-in-loop-place.ensures.followed,
  c.followed-other-in-loop-place.ensures.followed,
)

pub returns : goal.returns
returns c =
    c.have_end.ensures
    ∙ reading.names_end c.args.octets.now c.args.others.now c.loop-place.place c.loop-place.other c.loop-place.invariant.1
    c.loop-place.invariant.2 (sym c.have_same_label.ensures ∙ c.loop-place-test.false)
    ∙ c.loop-place.invariant.0
