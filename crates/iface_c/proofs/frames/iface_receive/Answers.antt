use Rattle.std.proofs.Common.{◌≡◌, ℤ, Some, of_z, to_z, w64, refl, subst, rules}
use Rattle.iface_host.specs.Guarded.{Receives}
use Rattle.iface_c.specs.Handle.{host_in}
use Rattle.iface_c.proofs.frames.iface_receive.Goals as goal

pub returns-in-Ok-clause-done : goal.returns-in-Ok-clause-done
returns-in-Ok-clause-done c =
    let moment : to_z w64 (of_z w64 c.args.now) ≡ c.args.now = search rules in
    let has : host_in c.args.handle.now ≡ Some c.deref_mut.result.now = search rules in
    let is : host_in c.put.new.self ≡ Some c.receive-done.new.self = search rules in
    let received : Receives c.args.now c.args.frame.now c.in-Ok.len c.args.out.now c.receive-done.new.out c.deref_mut.result.now
    c.receive-done.new.self =
    subst (λ (t : ℤ). Receives t c.args.frame.now c.in-Ok.len c.args.out.now c.receive-done.new.out c.deref_mut.result.now c.receive-done.new.self)
    moment c.in-Ok.ensures.received in
    record { done = λ _. rw (has, is) received; refused = λ h. absurd (h refl) }
