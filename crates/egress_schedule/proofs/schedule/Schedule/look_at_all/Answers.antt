use Rattle.std.proofs.Common.{◌≡◌, ◌≤◌, List, length, refl, sym, ap, ◌∙◌, arith, subst}
use Rattle.socket_set.specs.SocketSet.{wait_of}
use Rattle.egress_schedule.specs.declared.watch.Watch.{Watch}
use Rattle.egress_schedule.specs.Patience.{NoneIsNoted, after_look_at}
use Rattle.egress_schedule.specs.Plan.{Plan, Planned, planned}
use Rattle.egress_schedule.proofs.Unnoted.{all_below, neither, none_below, one_more, same_length}
use Rattle.egress_schedule.proofs.schedule.Schedule.look_at_all.Goals as goal

pub loop-index-preserved : goal.loop-index-preserved
loop-index-preserved g c =
    let l = c.loop-index in
    let s = c.args.sockets.now in
    let watches : c.look_at.new.self.watches ≡ (after_look_at c.args.now l.index (planned l.self s)).plan.watches =
    ap (λ (r : Planned g.row.L.Denot). r.plan.watches) c.look_at.ensures in (
      one_more (after_look_at c.args.now) l.index (planned c.args.self.now s) (planned l.self s) (planned c.look_at.new.self s)
          c.look_at.ensures l.invariant.0,
      ap (λ (ws : List Watch). length ws) watches ∙ same_length c.args.now l.index (wait_of s l.index) l.self ∙ l.invariant.1,
      λ off. let each = neither l.has_notes c.is_noted-has_notes.result _ refl off in
          none_below c.args.now l.index (wait_of s l.index) l.self c.look_at.new.self.watches watches (l.invariant.2 each.0)
          (c.is_noted-has_notes.ensures each.1),
    )

pub invariant_of-self : goal.invariant_of-self
invariant_of-self g c = λ off.
    let same : c.self-2.inside.watches.items ≡ c.loop-index.self.watches = ap (λ (p : Plan). p.watches) c.self-2.view_is in
    let first : length c.self.inside.watches.items ≡ length c.args.self.now.watches = ap (λ (p : Plan). length p.watches) c.self.view_is in
    let long : length c.loop-index.self.watches ≤ c.loop-index.index =
    omega (arith, first, c.loop-index.invariant.1, c.len-index-end.ensures, c.loop-index-test.false) in
    subst NoneIsNoted (sym same) (all_below c.loop-index.self.watches c.loop-index.index long (c.loop-index.invariant.2 off))
