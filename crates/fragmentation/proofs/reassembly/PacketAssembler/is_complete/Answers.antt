use Rattle.std.proofs.Common.{◌≡◌, refl}
use Rattle.std.specs.Prelude.{◌==◌}
use Rattle.net_base.specs.Ranges.{front}
use Rattle.fragmentation.specs.Assembly.{is_total}
use Rattle.fragmentation.proofs.FragmentsLemmas.{complete_iff}
use Rattle.fragmentation.proofs.reassembly.PacketAssembler.is_complete.Goals as goal

pub returns-in-Some-clause-whole : goal.returns-in-Some-clause-whole
returns-in-Some-clause-whole gen c =
    let e : (c.in-Some.total == c.peek_front.result) ≡ is_total c.self.inside.total_size (front c.self.inside.assembler) =
    rw (c.in-Some.is, c.peek_front.ensures) refl in
    λ g h. rw e (complete_iff _ g c.self.invariant.separate (rw (← c.self.view_is) at h))
