use Rattle.std.proofs.Common.{ap, length, ◌∙◌}
use Rattle.iface_tables.specs.declared.route.Route.{Route}
use Rattle.iface_tables.specs.Store.{Stored}
use Rattle.iface_tables.proofs.SyncLemmas.{passed_on}
use Rattle.iface_tables.proofs.sync.remove_ended.Goals as goal

pub loop-passed-preserved : goal.loop-passed-preserved
loop-passed-preserved c = record {
  room = ap (λ (s : Stored Route). s.room) c.remove_if_ended.ensures ∙ c.loop-passed.invariant.room;
  items = passed_on c.args.now c.args.routes.now c.args.stored.now.items c.loop-passed.stored.items c.remove_if_ended.new.stored.items
      (length c.as_slice-len.result.now) c.loop-passed.passed c.loop-passed-test.true c.loop-passed.invariant.items
      (ap (λ (s : Stored Route). s.items) c.remove_if_ended.ensures);
}
