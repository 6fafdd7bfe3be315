use Rattle.std.proofs.Common.{◌+◌, ◌-◌, ℕ, List, length, sym, ap, ◌∙◌, subst, arith}
use Rattle.net_base.specs.declared.assembler.Range.{Range}
use Rattle.net_base.specs.Ranges.{IsUnion}
use Rattle.tcp_machine.specs.Receiving.{Receiver, filled, next, edge}
use Rattle.tcp_connection.proofs.ArrivedLemmas.{edge_of, next_of}
use Rattle.tcp_connection.proofs.KeptLemmas.{kept_is, arrived_after, refused_beyond, length-after_write, on_ok}
use Rattle.tcp_connection.specs.Details.Arrived.{IsFurthest}
use Rattle.tcp_connection.proofs.GapLemmas.{furthest_after}
use Rattle.tcp_connection.proofs.receive_buffer.ReceiveBuffer.keep.Goals as goal

pub add-requires : goal.add-requires
add-requires c =
    let i = c.self.inside in
    let v = c.self.invariant in
    let e = ap edge (sym c.self.view_is) ∙ edge_of i.base i.items.items i.start i.room i.arrived i.stop v.1 v.2 in
    let q = c.requires.room in
    let a = v.3 in
    let b = v.4 in
    omega (arith, e, q, a, b)

pub returns-then-is_err-clause-beyond : goal.returns-then-is_err-clause-beyond
returns-then-is_err-clause-beyond c = λ _.
    let i = c.self.inside in
    let v = c.self.invariant in
    let n = ap next (sym c.self.view_is) ∙ next_of c.rings_stand.ensures i.base i.items.items i.start i.room i.arrived i.stop v.0 v.1 v.2 in
    let begun = v.0.begun in
    let first = v.0.in_first in
    let some = c.requires.some in
    let many = c.add.ensures.refused.0 (sym c.is_err.ensures.value ∙ c.if-is_err.true) in
    let l = refused_beyond c.refused_touches_none.ensures i.arrived c.args.first (c.args.first + length c.args.octets.now) v.0.separate
    (omega (arith, begun, first)) c.add.ensures.few (omega (arith, some)) many in
    omega (arith, n, l)

pub overflow_add-at : goal.overflow_add-at
overflow_add-at c =
    let i = c.self.inside in
    let v = c.self.invariant in
    let e = ap edge (sym c.self.view_is) ∙ edge_of i.base i.items.items i.start i.room i.arrived i.stop v.1 v.2 in
    let q = c.requires.room in
    let low = v.1 in
    let a = v.3 in
    let b = v.4 in
    omega (arith, e, q, low, a, b)

pub overflow_add-first : goal.overflow_add-first
overflow_add-first c =
    let i = c.self.inside in
    let v = c.self.invariant in
    let e = ap edge (sym c.self.view_is) ∙ edge_of i.base i.items.items i.start i.room i.arrived i.stop v.1 v.2 in
    let q = c.requires.room in
    let a = v.3 in
    let b = v.4 in
    omega (arith, e, q, a, b)

pub write-requires : goal.write-requires
write-requires c =
    let i = c.self.inside in
    let v = c.self.invariant in
    let e = ap edge (sym c.self.view_is) ∙ edge_of i.base i.items.items i.start i.room i.arrived i.stop v.1 v.2 in
    let n = ap next (sym c.self.view_is) ∙ next_of c.rings_stand.ensures i.base i.items.items i.start i.room i.arrived i.stop v.0 v.1 v.2 in
    let q = c.requires.room in
    let f = c.requires.new in
    let first = v.0.in_first in
    let low = v.1 in
    let all = v.2 in
    omega (arith, e, n, q, f, first, low, all)

pub invariant_of-self-2 : goal.invariant_of-self-2
invariant_of-self-2 c =
    let i = c.self.inside in
    let v = c.self.invariant in
    let e = ap edge (sym c.self.view_is) ∙ edge_of i.base i.items.items i.start i.room i.arrived i.stop v.1 v.2 in
    let n = ap next (sym c.self.view_is) ∙ next_of c.rings_stand.ensures i.base i.items.items i.start i.room i.arrived i.stop v.0 v.1 v.2 in
    let q = c.requires.room in
    let f = c.requires.new in
    let first = v.0.in_first in
    let low = v.1 in
    let all = v.2 in
    let is = on_ok c.add.result (sym c.is_err.ensures.value ∙ c.if-is_err.false) c.add.ensures.ok in
    let u = subst (λ (rs : List Range). IsUnion i.arrived rs c.args.first (c.args.first + length c.args.octets.now)) (sym is) c.add.ensures.added in (
      arrived_after i.base i.room c.args.first (c.args.first + length c.args.octets.now) i.arrived c.add.new.self v.0 (omega (arith, e, q)) u,
      v.1,
      ap length c.write.ensures
          ∙ length-after_write (i.start + (c.args.first - i.base)) c.args.octets.now i.items.items (omega (arith, e, n, q, f, first, low, all)) ∙ v.2,
      v.3,
      v.4,
      subst (λ (f : ℕ). IsFurthest f c.add.new.self) (sym c.max-self-inside.ensures)
          (furthest_after i.furthest c.args.first (length c.args.octets.now) i.arrived c.add.new.self v.5 c.requires.some u),
    )

pub returns-clause-kept : goal.returns-clause-kept
returns-clause-kept c = λ _.
    let i = c.self.inside in
    let v = c.self.invariant in
    let e = ap edge (sym c.self.view_is) ∙ edge_of i.base i.items.items i.start i.room i.arrived i.stop v.1 v.2 in
    let n = ap next (sym c.self.view_is) ∙ next_of c.rings_stand.ensures i.base i.items.items i.start i.room i.arrived i.stop v.0 v.1 v.2 in
    let q = c.requires.room in
    let f = c.requires.new in
    let first = v.0.in_first in
    let is = on_ok c.add.result (sym c.is_err.ensures.value ∙ c.if-is_err.false) c.add.ensures.ok in
    let u = subst (λ (rs : List Range). IsUnion i.arrived rs c.args.first (c.args.first + length c.args.octets.now)) (sym is) c.add.ensures.added in
    ap (λ (xs : List ℕ). Rattle.tcp_connection.specs.Details.Arrived.receiver_of i.base xs i.start i.room c.add.new.self i.stop) c.write.ensures
    ∙ kept_is c.rings_stand.ensures i.base i.room i.start c.args.first i.items.items c.args.octets.now i.arrived c.add.new.self i.stop v.1 v.2
    (omega (arith, n, f, first)) (omega (arith, e, q)) u
    ∙ ap (λ (r : Receiver). record { base = r.base; cells = filled (c.args.first - r.base) c.args.octets.now r.cells; stop = r.stop }) c.self.view_is
