use Rattle.std.proofs.Common.{ap, sym, ◌∙◌}
use Rattle.fragmentation.specs.Slots.{live_at}
use Rattle.host_machine.specs.Context.Host.{Host, without_expired, with_slots}
use Rattle.interface.proofs.interface.Interface.expire_slots.Goals as goal

pub returns : goal.returns
returns c = λ sockets H h. record {
  slots = live_at c.args.timestamp h.slots;
  stand = c.remove_expired.ensures.stands (λ k. k) h.slots h.stand;
  same = ap (λ (K : Host). without_expired K c.args.timestamp) h.same
      ∙ ap (λ K. with_slots K (live_at c.args.timestamp h.slots)) (sym (c.set_moment.ensures sockets));
}
