use Rattle.std.proofs.Common.{◌≡◌, ◌∙◌, ap, subst, Bool}
use Rattle.std.specs.Prelude.{ℤ, Option, is_some}
use Rattle.iface_host.specs.Frames.{Takes}
use Rattle.iface_host.specs.Guarded.{Changes, begun_at, is_silenced}
use Rattle.iface_host.proofs.GuardCalls.{silenced_some}
use Rattle.iface_host.proofs.host.IfaceHost.take_and_keep.Goals as goal

pub returns : goal.returns
returns c =
    let silenced : c.is_some.result ≡ is_silenced c.args.now c.args.self.now =
    c.is_some.ensures ∙ ap (λ (o : Option ℤ). is_some o) c.standing-standing.ensures.standing.silence ∙ silenced_some c.args.now c.args.self.now in
    record {
      standing = c.standing-standing.result;
      is_standing = c.standing-standing.ensures.standing;
      begun = c.begin_silence.new.self;
      taken = c.take_frame-len.new.self;
      begins = subst (λ (b : Bool). Changes (begun_at c.args.now b) c.args.self.now c.begin_silence.new.self) silenced c.begin_silence.ensures;
      takes = subst (λ (k : Bool). Takes c.args.now c.args.frame.now k c.take_frame-len.result c.args.out.now c.take_frame-len.new.out
          c.begin_silence.new.self c.take_frame-len.new.self) c.is_known_on-known.ensures c.take_frame-len.ensures;
      keeps = c.keep.ensures;
    }
