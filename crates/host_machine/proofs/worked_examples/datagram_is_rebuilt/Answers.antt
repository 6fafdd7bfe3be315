use Rattle.std.proofs.Common.{[], ◌∷◌, refl, sym, ap, None, lit≤, inl, inr}
use Rattle.std.specs.Prelude.{pos}
use Rattle.ip_wire.specs.Checksum.{word_sum}
use Rattle.net_base.specs.Device.{Frame}
use Rattle.iface_tables.specs.Neighbor.{Neighbors}
use Rattle.fragmentation.specs.Slots.{without_slot, live_at}
use Rattle.fragmentation.specs.Reassembly.{Arrival, Rebuild, Rebuilt, Stood}
use Rattle.host_machine.specs.Context.Note.{OfSlots}
use Rattle.host_machine.specs.Context.Host.{with_neighbors, with_slots}
use Rattle.host_machine.specs.Receive.Ipv4 as ipv4
use Rattle.host_machine.specs.Receive.Ethernet as ethernet
use Rattle.host_machine.specs.Multicast.Igmp as reports
use Rattle.control_wire.specs.Igmp.{IsType}
use Rattle.host_machine.specs.Examples.Fragments as example
use Rattle.host_machine.proofs.Examples.Exchange.{none_renewed}
use Rattle.host_machine.proofs.Examples.Pair.{still_there, ten_rebuilt}
use Rattle.host_machine.proofs.worked_examples.datagram_is_rebuilt.Goals as goal

-- the type of the message is none of IGMP's
none_of : IsType 1 → ⊥
none_of (inl e) = absurd cc
none_of (inr (inl e)) = absurd cc
none_of (inr (inr (inl e))) = absurd cc
none_of (inr (inr (inr e))) = absurd cc

pub returns : goal.returns
unfolding word_sum
returns c =
    let slots = without_slot (live_at (pos 0) example.waiting_host.slots) example.key in
    let without = with_slots example.waiting_host slots in
    let notes = OfSlots (Arrival example.key example.two) ∷ OfSlots (Rebuild example.key example.ten) ∷ [] in
    record {
      reception = Frame example.last_fragment;
      frames = [];
      response = record {
        reply = None;
        taken = without;
        notes_taking = notes;
        notes_responding = [];
        takes = ethernet.Accepted (lit≤ tt) refl (ipv4.Read
            (record { whole = lit≤ tt; version = refl; header = lit≤ tt; header_fits = lit≤ tt; total_fits = lit≤ tt; sum = λ on. refl })
            (ipv4.Completed example.ten without notes [] refl refl (record {
              slots = slots;
              slot_notes = Arrival example.key example.two ∷ Rebuild example.key example.ten ∷ [];
              reassembles = Rebuilt example.waiting_slot [] example.ten (Stood still_there refl) refl ten_rebuilt refl refl refl;
              noted = refl;
              changed = refl;
            }) (ipv4.Accepted refl (reports.Malformed (λ i. none_of i.type)
            (record { silent = refl; unnoted = refl; unchanged = ap (λ (n : Neighbors). with_neighbors without n) (sym none_renewed) }))) refl));
        responds = (refl, refl, refl);
        all_notes = refl;
      };
      events = refl;
      answers = refl;
    }
