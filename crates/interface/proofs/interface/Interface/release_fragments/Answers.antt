use Rattle.std.proofs.Common.{Option, Some, None, ap, refl}
use Rattle.std.specs.Prelude.{IfSome}
use Rattle.host_machine.specs.Context.Host as host
use Rattle.fragmentation.specs.Slots.{Slots, without_slot}
use Rattle.fragmentation.specs.Details.Holders.{holder_at}
use Rattle.fragmentation.specs.Stands.{StandForSlots}
use Rattle.host_machine.specs.Context.Host.{Host, SocketSet}
use Rattle.interface.specs.Stands.{slots_in, Becomes}
use Rattle.interface.proofs.interface.Interface.release_fragments.Goals as goal

pub returns-clause-released : goal.returns-clause-released
returns-clause-released c =
    elim (holder_at c.args.index (slots_in c.args.self.now)) as (λ o.
    IfSome o (λ holder. (m : Slots) → StandForSlots (slots_in c.args.self.now) m → StandForSlots c.release.new.self (without_slot m holder.key)) →
    IfSome o (λ holder. Becomes c.args.self.now (record c.args.self.now { fragments = c.release.new.self })
    (λ H. host.with_slots H (without_slot H.slots holder.key)))) [
      | None ↦ λ e. tt
      | Some h ↦ λ e sockets H stands. record {
        slots = without_slot stands.slots h.key;
        stand = e stands.slots stands.stand;
        same = ap (λ (K : Host). host.with_slots K (without_slot K.slots h.key)) stands.same;
      }
    ] c.release.ensures.stands
