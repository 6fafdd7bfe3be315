use Rattle.std.proofs.Common.{◌≡◌, ◌+◌, ℕ, length, get_or, ap, ◌∙◌, arith}
use Rattle.tcp_machine.specs.Receiving.{Receiver, after_read}
use Rattle.tcp_connection.proofs.ArrivedLemmas.{front_within}
use Rattle.tcp_connection.proofs.GapLemmas.{arrived_before, furthest_within}
use Rattle.tcp_connection.proofs.BufferLemmas.{few_read, still_arrived, consumed}
use Rattle.tcp_connection.proofs.receive_buffer.ReceiveBuffer.consume.Goals as goal

pub move_to_front-requires : goal.move_to_front-requires
move_to_front-requires c =
    let i = c.self.inside in
    let v = c.self.invariant in
    let l = few_read c.rings_stand.ensures i.base c.args.count i.items.items i.start i.room i.arrived i.stop c.args.self.now v.0 v.1 v.2
    c.self.view_is c.requires.readable in
    let w = front_within i.base i.room i.arrived v.0 in
    let low = v.1 in
    let all = v.2 in
    let far = furthest_within i.base i.room i.furthest i.arrived v.0 v.5 in
    let len : i.items.len ≡ length i.items.items = i.items.ok.0 in
    omega (arith, l, w, low, all, len, far)

pub invariant_of-self : goal.invariant_of-self
invariant_of-self c =
    let i = c.self.inside in
    let v = c.self.invariant in
    let l = few_read c.rings_stand.ensures i.base c.args.count i.items.items i.start i.room i.arrived i.stop c.args.self.now v.0 v.1 v.2
    c.self.view_is c.requires.readable in
    let base = ap (λ (r : Receiver). r.base) c.self.view_is in
    let bound = c.requires.bounded in
    (still_arrived i.base i.room c.args.count i.arrived v.0 l, omega arith, c.move_to_front.ensures.len ∙ v.2, v.3, omega (arith, base, bound), v.5)

pub invariant_of-self-else-self : goal.invariant_of-self-else-self
invariant_of-self-else-self c =
    let i = c.self.inside in
    let v = c.self.invariant in
    let l = few_read c.rings_stand.ensures i.base c.args.count i.items.items i.start i.room i.arrived i.stop c.args.self.now v.0 v.1 v.2
    c.self.view_is c.requires.readable in
    let base = ap (λ (r : Receiver). r.base) c.self.view_is in
    let bound = c.requires.bounded in
    (still_arrived i.base i.room c.args.count i.arrived v.0 l, c.if-self.false, v.2, v.3, omega (arith, base, bound), v.5)

pub returns-then-self : goal.returns-then-self
returns-then-self c =
    let i = c.self.inside in
    let v = c.self.invariant in
    let l = few_read c.rings_stand.ensures i.base c.args.count i.items.items i.start i.room i.arrived i.stop c.args.self.now v.0 v.1 v.2
    c.self.view_is c.requires.readable in
    let low = v.1 in
    let all = v.2 in
    consumed c.rings_stand.ensures i.base c.args.count i.room i.start 0 i.items.items c.move_to_front.new.items.items i.arrived i.stop v.0 l v.1 v.2
    (omega arith) (c.move_to_front.ensures.len ∙ v.2)
    (λ k near came.
    let before = arrived_before i.furthest (i.base + c.args.count) k i.arrived v.5 came in
    let z : 0 + k ≡ k = omega arith in
    let n : i.start + c.args.count + k ≡ i.start + (c.args.count + k) = omega arith in
    ap (λ (m : ℕ). get_or c.move_to_front.new.items.items m 0) z
    ∙ c.move_to_front.ensures.moved k (omega (arith, before))
    ∙ ap (λ (m : ℕ). get_or i.items.items m 0) n)
    ∙ ap (after_read c.args.count) c.self.view_is

pub returns-else-self : goal.returns-else-self
returns-else-self c =
    let i = c.self.inside in
    let v = c.self.invariant in
    let l = few_read c.rings_stand.ensures i.base c.args.count i.items.items i.start i.room i.arrived i.stop c.args.self.now v.0 v.1 v.2
    c.self.view_is c.requires.readable in
    consumed c.rings_stand.ensures i.base c.args.count i.room i.start (i.start + c.args.count) i.items.items i.items.items i.arrived i.stop v.0 l v.1 v.2
    c.if-self.false v.2
    (λ k near came.
    let n : i.start + c.args.count + k ≡ i.start + (c.args.count + k) = omega arith in
    ap (λ (m : ℕ). get_or i.items.items m 0) n)
    ∙ ap (after_read c.args.count) c.self.view_is
