use Rattle.std.proofs.Common.{◌∙◌, sym}
use Rattle.std.proofs.lemmas.List.{take_rest}
use Rattle.dns_client.proofs.Reading as reading
use Rattle.dns_client.proofs.name.is_same_label.Goals as goal

pub loop-rest-preserved : goal.loop-rest-preserved
loop-rest-preserved c =
    reading.octet_next c.loop-rest.rest.now c.loop-rest.other_rest.now _ _ (sym c.begin_the_same.ensures ∙ c.loop-rest-test.true)
    (take_rest c.loop-rest.rest.now 1) (take_rest c.loop-rest.other_rest.now 1) ∙ c.loop-rest.invariant

pub returns : goal.returns
returns c =
    c.are_empty.ensures ∙ reading.octets_end c.loop-rest.rest.now c.loop-rest.other_rest.now (sym c.begin_the_same.ensures ∙ c.loop-rest-test.false) ∙ c.loop-rest.invariant
