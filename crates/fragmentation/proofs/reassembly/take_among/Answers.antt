use Rattle.std.proofs.Common.{List, Option, length, slice_set, sym, ap, ◌∙◌, arith}
use Rattle.fragmentation.specs.Assembly.{Assembly, slot_for, keys_of, taken_at}
use Rattle.fragmentation.proofs.KeptLemmas.{taken_beyond, set_taken, keys_of_set, length-keys_of}
use Rattle.fragmentation.proofs.reassembly.take_among.Goals as goal

pub returns-else-slot-assemblers-clause-taken : goal.returns-else-slot-assemblers-clause-taken
returns-else-slot-assemblers-clause-taken g c =
    let places : List (Assembly g.row.K.Denot) = c.args.assemblers.now in
    let is = c.slot_for-slot.ensures in
    sym (taken_beyond (slot_for g.K.PartialEq.eq c.args.key.now places) c.args.key.now c.args.end places
    (omega (arith, is, c.if-slot-assemblers.false)))

pub returns-then-slot-assemblers-clause-taken : goal.returns-then-slot-assemblers-clause-taken
returns-then-slot-assemblers-clause-taken g c =
    let places : List (Assembly g.row.K.Denot) = c.args.assemblers.now in
    ap (λ (s : Assembly g.row.K.Denot). slice_set places c.slot_for-slot.result s) c.take_for.ensures.taken
    ∙ set_taken c.slot_for-slot.result c.args.key.now c.args.end places c.index-assemblers-slot.result c.if-slot-assemblers.true
    ∙ ap (λ i. taken_at i c.args.key.now c.args.end places) c.slot_for-slot.ensures

pub returns-then-slot-assemblers-clause-keys : goal.returns-then-slot-assemblers-clause-keys
returns-then-slot-assemblers-clause-keys g c =
    ap (λ (os : List (Option g.row.K.Denot)). slice_set os c.slot_for-slot.result c.take_for.result) c.requires.keys
    ∙ ap (λ (o : Option g.row.K.Denot). slice_set (keys_of c.args.assemblers.now) c.slot_for-slot.result o) c.take_for.ensures.value
    ∙ sym (keys_of_set c.slot_for-slot.result c.args.assemblers.now c.take_for.new.self)

pub bounds-keys-slot : goal.bounds-keys-slot
bounds-keys-slot g c =
    let long = ap length c.requires.keys ∙ length-keys_of c.args.assemblers.now in
    omega (arith, long, c.if-slot-assemblers.true)
