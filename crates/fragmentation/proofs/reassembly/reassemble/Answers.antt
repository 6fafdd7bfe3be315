use Rattle.std.proofs.Common.{refl, sym}
use Rattle.fragmentation.specs.contracts.key.FragKeyPartialEq.TheImpl.{eq-value}
use Rattle.fragmentation.specs.Stands.{fragment}
use Rattle.fragmentation.proofs.KeyLemmas.{key_ties}
use Rattle.fragmentation.proofs.KeptLemmas.{with_own, lent_left}
use Rattle.fragmentation.proofs.ReassemblyLemmas.{below, no_slot, unfit, fit_then}
use Rattle.fragmentation.proofs.reassembly.reassemble.Goals as goal

pub returns-then-not-accept : goal.returns-then-not-accept
returns-then-not-accept c = (
  (
    refl,
    λ _. tt,
    λ m h.
        let f = fragment c.args.offset c.args.payload.now c.args.is_last in
        let l = below _ _ c.in-Ok.ensures.within c.in-Ok.ensures.refused.1 in
        rw (c.accept.ensures.unfit c.if-not-accept.true, with_own c.in-Ok.assembler.now.key c.in-Ok.assembler.now refl)
        (unfit eq-value.it key_ties c.args.end c.args.key.now m c.args.slots.now h f c.in-Ok.assembler.now l c.in-Ok.ensures.value
        (sym c.if-not-accept.ensures.fit)),
  ),
  record { rests = tt; short = tt },
)

pub returns-else-not-accept : goal.returns-else-not-accept
returns-else-not-accept c = (
  (
    refl,
    λ _. tt,
    λ m h.
        let f = fragment c.args.offset c.args.payload.now c.args.is_last in
        let l = below _ _ c.in-Ok.ensures.within c.in-Ok.ensures.refused.1 in
        rw (lent_left c.in-Ok.assembler.now c.accept.new.self c.assemble.follows.lender-at-none c.assemble.result
        c.accept.ensures.key c.assemble.follows.holds-at-none)
        (fit_then eq-value.it key_ties c.args.end c.args.key.now m c.args.slots.now h f c.in-Ok.assembler.now c.accept.new.self
        c.assemble.follows.lender-at-none c.assemble.result l c.in-Ok.ensures.value
        (sym c.if-not-accept.ensures.fit) c.accept.ensures.key c.accept.ensures.end c.accept.ensures.gathers c.assemble.follows.holds-at-none
        c.assemble.ensures.found c.assemble.ensures.rebuilt),
  ),
  record { rests = tt; short = c.assemble.ensures.short },
)

pub returns-in-Err : goal.returns-in-Err
returns-in-Err c = (
  (
    refl,
    λ _. tt,
    λ m h.
        no_slot eq-value.it key_ties c.args.end c.args.key.now m c.args.slots.now h
        (fragment c.args.offset c.args.payload.now c.args.is_last) (c.in-Err.ensures.refused.0 refl),
  ),
  record { rests = tt; short = tt },
)
