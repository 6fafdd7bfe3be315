use Rattle.std.proofs.Common.{◌-◌, ◌<◌, ◌∙◌, ap, sym, arith, refl}
use Rattle.std.proofs.lemmas.Bool.{false_from_ne_true}
use Rattle.dns_client.specs.declared.record.DnsRecord.{DnsRecord}
use Rattle.dns_client.specs.Found.{result_if, with_record}
use Rattle.dns_client.proofs.DnsClient.Reading as reading
use Rattle.dns_client.proofs.found.found_in.Goals as goal

pub loop-left-preserved : goal.loop-left-preserved
loop-left-preserved c =
    let is = c.in_ok-record.ensures.1 in
    let some : 0 < c.loop-left.left = omega (arith, c.loop-left-test.true) in
    reading.next c.loop-left.left (c.loop-left.left - 1) c.loop-left.at c.in_ok-record.record.end c.args.query_type c.args.octets.now c.loop-left.found
    c.take_record.new.self some c.in_ok-record.ensures.0 refl (ap (λ (r : DnsRecord). r.end) is)
    (c.take_record.ensures
    ∙ ap (λ (r : DnsRecord). with_record c.args.query_type c.args.octets.now c.loop-left.at r.«data» c.loop-left.found) is)
    ∙ c.loop-left.invariant

pub returns-in_err-record : goal.returns-in_err-record
returns-in_err-record c =
    let some : 0 < c.loop-left.left = omega (arith, c.loop-left-test.true) in
    c.from_residual.ensures
    ∙ sym (ap result_if (sym c.loop-left.invariant
    ∙ reading.not_whole c.loop-left.left c.loop-left.at c.args.query_type c.args.octets.now c.loop-left.found some
    (false_from_ne_true _ c.in_err-record.ensures)))

pub returns : goal.returns
returns c =
    rw c.result.ensures
    (sym (ap result_if (sym c.loop-left.invariant
    ∙ reading.all_read c.loop-left.left c.loop-left.at c.args.query_type c.args.octets.now c.loop-left.found (omega (arith, c.loop-left-test.false)))))
