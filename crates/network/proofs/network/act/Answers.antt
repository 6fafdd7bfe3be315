use Rattle.std.proofs.Common.{ap, ◌∙◌}
use Rattle.net_base.specs.MemoryDevice.{Memory}
use Rattle.network.specs.Kept.{wire_of, wire_with}
use Rattle.network.proofs.network.act.Goals as goal

pub returns-clause-acted : goal.returns-clause-acted
returns-clause-acted g c = record {
  mid = c.run-answer.new.host;
  refines = c.run-answer.ensures;
  taken_is = ap (λ (d : Memory). record c.run-answer.new.host { device = d }) c.take_sent.ensures.after;
  kept = c.keep.ensures.kept ∙ ap (λ frames. wire_with c.args.number frames (wire_of c.args.kept.now)) c.take_sent.ensures.value;
}
