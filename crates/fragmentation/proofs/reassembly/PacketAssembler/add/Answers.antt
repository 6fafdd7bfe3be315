use Rattle.std.proofs.Common.{◌≡◌, ◌+◌, length, arith}
use Rattle.fragmentation.specs.Stands.{fragment}
use Rattle.fragmentation.proofs.FragmentsLemmas.{not_beyond, gathers_more, gathers_left, ok_is, ok_few, err_is, err_many}
use Rattle.fragmentation.proofs.reassembly.PacketAssembler.add.Goals as goal

pub returns-then-is_ok-clause-gathers : goal.returns-then-is_ok-clause-gathers
returns-then-is_ok-clause-gathers gen c = λ g last h.
    let f = fragment c.args.offset c.args.octets.now last in
    let e = ok_is c.add.result c.add.ensures.ok c.if-is_ok.ensures.value in
    let few = ok_few c.add.result _ c.if-is_ok.ensures.value c.add.ensures.refused.1 in
    let fits = not_beyond (c.args.offset + length c.args.octets.now) c.if-ends_beyond.ensures in
    let long : length c.self.inside.buffer ≡ 4096 = omega arith in
    rw e (gathers_more _ g f _ c.write.new.buffer (rw (← c.self.view_is) at h) c.self.invariant c.add.ensures.added fits long few c.write.ensures)

pub returns-else-is_ok-clause-gathers : goal.returns-else-is_ok-clause-gathers
returns-else-is_ok-clause-gathers gen c = λ g last h.
    let f = fragment c.args.offset c.args.octets.now last in
    let fits = not_beyond (c.args.offset + length c.args.octets.now) c.if-ends_beyond.ensures in
    let many = err_many c.add.result _ c.if-is_ok.ensures.value c.add.ensures.refused.0 in
    let same : c.add.new.self ≡ c.self.inside.assembler = err_is c.add.result c.add.ensures.err c.if-is_ok.ensures.value in
    rw same (gathers_left _ g f _ (rw (← c.self.view_is) at h) c.self.invariant c.add.ensures.added fits many)
