use Rattle.std.proofs.Common.{Option, Some, None, ap, sym, ◌∙◌, refl, subst, ◌≡◌}
use Rattle.std.specs.Prelude.{IfSome}
use Rattle.host_machine.specs.Context.Host.{Host, SocketSet}
use Rattle.fragmentation.specs.Slots.{Slot, Slots, slot_of}
use Rattle.fragmentation.specs.Details.Holders.{holder_at}
use Rattle.fragmentation.specs.Stands.{StandForSlots}
use Rattle.interface.specs.Stands.{slots_in, StandsFor}
use Rattle.interface.proofs.interface.Interface.fragment_holder.Goals as goal

pub returns-clause-stands : goal.returns-clause-stands
returns-clause-stands c =
    rw c.holder.ensures (elim (holder_at c.args.index (slots_in c.args.self.now)) as (λ o.
    IfSome o (λ holder. (m : Slots) → StandForSlots (slots_in c.args.self.now) m → IfSome (slot_of m holder.key) (λ slot. slot.ends ≡ holder.expires_at)) →
    IfSome o (λ holder. (sockets : SocketSet) (H : Host) → StandsFor c.args.self.now sockets H →
    IfSome (slot_of H.slots holder.key) (λ slot. slot.ends ≡ holder.expires_at))) [
      | None ↦ λ e. tt
      | Some h ↦ λ e sockets H stands.
          subst (λ (m : Slots). IfSome (slot_of m h.key) (λ slot. slot.ends ≡ h.expires_at)) (sym (ap (λ (K : Host). K.slots) stands.same))
          (e stands.slots stands.stand)
    ] (c.holds_slots.ensures c.args.index))
