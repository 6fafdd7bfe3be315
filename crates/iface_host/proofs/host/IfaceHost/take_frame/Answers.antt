use Rattle.std.proofs.Common.{◌≡◌, Some, None, Bool, true, false, ap, refl, rules}
use Rattle.guard.specs.Watch as guard
use Rattle.std.specs.Prelude.{◌||◌, length, not}
use Rattle.std.specs.Option.{option_map}
use Rattle.iface_host.specs.Counters.{after_handing, after_taking}
use Rattle.iface_host.proofs.FrameCalls.{held, received, went}
use Rattle.iface_host.proofs.host.IfaceHost.take_frame.Goals as goal

pub returns-else-not-lets_go : goal.returns-else-not-lets_go
returns-else-not-lets_go c =
    let goes : guard.lets_go c.args.now c.in-Some.reply.now (length c.args.frame.now) c.args.known c.args.self.now.watch ≡ true = search rules in
    let counted : c.hand_over.new.self ≡ after_handing c.write_front-len.result (after_taking c.args.self.now.frames) = search rules in
    received c.args.now c.args.frame.now c.args.known c.write_front-len.result c.args.out.now c.write_front-len.new.buffer c.args.self.now _ _
    (Some c.in-Some.reply.now) _
    (ap (option_map (λ b. b.now)) c.in-Some.is)
    (went c.args.now c.in-Some.reply.now (length c.args.frame.now) c.args.known c.args.self.now.watch goes c.write_front-len.result c.args.out.now c.write_front-len.new.buffer
    (c.write_front-len.ensures.len, c.write_front-len.ensures.front, c.write_front-len.ensures.rest))
    (rw c.deref_mut.ensures.value at c.receive_frame.follows.holds-at-none)
    (c.args.self.now.changed || not c.is_empty.result) (ap (λ (b : Bool). c.args.self.now.changed || not b) c.is_empty.ensures)
    c.hand_over.new.self counted c.lets_go.new.self c.lets_go.ensures.watch

pub returns-then-not-lets_go : goal.returns-then-not-lets_go
returns-then-not-lets_go c =
    let stays : guard.lets_go c.args.now c.in-Some.reply.now (length c.args.frame.now) c.args.known c.args.self.now.watch ≡ false = search rules in
    received c.args.now c.args.frame.now c.args.known 0 c.args.out.now c.args.out.now c.args.self.now _ _ (Some c.in-Some.reply.now) _
    (ap (option_map (λ b. b.now)) c.in-Some.is)
    (held c.args.now c.in-Some.reply.now (length c.args.frame.now) c.args.known c.args.self.now.watch stays c.args.out.now)
    (rw c.deref_mut.ensures.value at c.receive_frame.follows.holds-at-none)
    (c.args.self.now.changed || not c.is_empty.result) (ap (λ (b : Bool). c.args.self.now.changed || not b) c.is_empty.ensures)
    c.take.new.self c.take.ensures c.lets_go.new.self c.lets_go.ensures.watch

pub returns-in-None : goal.returns-in-None
returns-in-None c =
    received c.args.now c.args.frame.now c.args.known 0 c.args.out.now c.args.out.now c.args.self.now _ _ None _
    (ap (option_map (λ b. b.now)) c.in-None.is) (refl, refl) (rw c.deref_mut.ensures.value at c.receive_frame.follows.holds-at-none)
    (c.args.self.now.changed || not c.is_empty.result) (ap (λ (b : Bool). c.args.self.now.changed || not b) c.is_empty.ensures)
    c.take.new.self c.take.ensures c.args.self.now.watch refl
