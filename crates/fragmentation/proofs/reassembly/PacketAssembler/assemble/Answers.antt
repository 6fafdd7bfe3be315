use Rattle.std.proofs.Common.{◌≡◌, ◌≤◌, length, take, length-take, refl, sym, ap, ◌∙◌, arith}
use Rattle.net_base.specs.Ranges.{front}
use Rattle.fragmentation.specs.Assembly.{Assembly}
use Rattle.fragmentation.specs.Fragments.{Got, IsRebuilt}
use Rattle.fragmentation.specs.Stands.{Gathers}
use Rattle.fragmentation.proofs.FragmentsLemmas.{front_within, rebuilt_is, rebuilt_once, front_of}
use Rattle.fragmentation.proofs.reassembly.PacketAssembler.assemble.Goals as goal

pub shared_ref_as_front-result : goal.shared_ref_as_front-result
shared_ref_as_front-result gen c = rw c.peek_front-len.ensures (front_within c.self.inside.assembler c.self.invariant)

pub returns : goal.returns
returns gen c =
    let whole = c.if-not-is_complete.ensures.value in
    let e = c.peek_front-len.ensures in
    let bound = front_within c.self.inside.assembler c.self.invariant in
    let fits : c.peek_front-len.result ≤ length c.self-2.inside.buffer = omega arith in
    let long : length (take c.peek_front-len.result c.self-2.inside.buffer) ≡ front c.self.inside.assembler =
    omega (arith, length-take c.peek_front-len.result c.self-2.inside.buffer) in
    let same : c.self-2.inside.buffer ≡ c.self.inside.buffer = ap (λ (s : Assembly gen.row.K.Denot). s.octets) c.self-2.view_is
    ∙ ap (λ (s : Assembly gen.row.K.Denot). s.octets) c.reset.ensures ∙ ap (λ (s : Assembly gen.row.K.Denot). s.octets) (sym c.self.view_is) in
    let rebuilt : (g : Got) → Gathers c.args.self.now g → IsRebuilt g (take c.peek_front-len.result c.self-2.inside.buffer) =
    λ g h. rebuilt_is _ g (take c.peek_front-len.result c.self-2.inside.buffer) c.self.invariant.separate (rw (← c.self.view_is) at h)
    (rw (← c.self.view_is) at (sym whole)) long
    (λ p l. front_of c.self-2.inside.buffer c.self.inside.buffer c.peek_front-len.result p same fits l) in (
      (refl, λ _. tt, c.self-2.view_is ∙ c.reset.ensures),
      record {
        frees = tt;
        found = c.if-not-is_complete.ensures.whole;
        rebuilt = rebuilt;
        only = λ g xs h b. rebuilt_once g xs _ b (rebuilt g h);
        complete = (λ _. sym whole, λ _. refl);
        short = omega (arith, long, bound);
      },
    )
