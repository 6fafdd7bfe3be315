use Rattle.std.proofs.Common.{◌≡◌, Some, length, of_z, to_z, w64, rules}
use Rattle.iface_host.specs.Refusals.{frame_refusal}
use Rattle.iface_c.specs.Handle.{host_in}
use Rattle.iface_c.proofs.Codes.{of_refusal}
use Rattle.iface_c.proofs.frames.iface_next.Goals as goal

pub returns-in-Err-clause-code : goal.returns-in-Err-clause-code
returns-in-Err-clause-code c =
    let has : host_in c.args.handle.now ≡ Some c.deref_mut.result.now = search rules in
    let same : to_z w64 (of_z w64 c.args.now) ≡ c.args.now = search rules in
    rw has
    (rw same at (of_refusal (frame_refusal (to_z w64 (of_z w64 c.args.now)) (length c.args.out.now)) c.in-Err.refusal c.code.result
    c.in-Err.ensures.why (λ none. (c.in-Err.ensures.memory none).0) c.code.ensures.code c.code.ensures.refuses))
