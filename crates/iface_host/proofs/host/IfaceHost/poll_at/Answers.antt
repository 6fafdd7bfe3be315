use Rattle.std.proofs.Common.{◌≡◌, sym, ◌∙◌, rules}
use Rattle.iface_host.proofs.FrameCalls.{due, due_at_once, none_waits}
use Rattle.iface_host.proofs.host.IfaceHost.poll_at.Goals as goal

pub returns-then-len-eq0-clause-due : goal.returns-then-len-eq0-clause-due
returns-then-len-eq0-clause-due c =
    let same : c.in_ok-now.now ≡ c.args.now = search rules in
    due c.args.now c.in_ok-now.now same c.args.self.now c.poll_at-due.new.self c.poll_at-due.result
    (none_waits c.args.self.now.outbox.frames (sym c.len.ensures ∙ c.if-len-eq0.true))
    (rw c.deref_mut.ensures.value at c.poll_at-due.ensures.least) (rw c.deref_mut.ensures.value at c.poll_at-due.ensures.moment)

pub returns-else-len-eq0-clause-due : goal.returns-else-len-eq0-clause-due
returns-else-len-eq0-clause-due c =
    let same : c.in_ok-now.now ≡ c.args.now = search rules in
    due_at_once c.args.now c.in_ok-now.now same c.args.self.now c.poll_at-due.new.self
    (λ e. c.if-len-eq0.false (c.len.ensures ∙ e)) (rw c.deref_mut.ensures.value at c.poll_at-due.ensures.moment)
