use Rattle.std.proofs.Common.{[], ◌∷◌, refl, sym, ap, None, lit≤}
use Rattle.std.specs.Prelude.{pos}
use Rattle.ip_wire.specs.Checksum.{word_sum}
use Rattle.net_base.specs.Device.{Frame}
use Rattle.fragmentation.specs.Fragments.{Got, no_fragments}
use Rattle.fragmentation.specs.Slots.{free_slots, with_slot}
use Rattle.fragmentation.specs.Reassembly.{Take, Arrival, Waits, Taken}
use Rattle.host_machine.specs.Context.Note.{OfSlots}
use Rattle.host_machine.specs.Receive.Ipv4 as ipv4
use Rattle.host_machine.specs.Receive.Ethernet as ethernet
use Rattle.host_machine.specs.Examples.Fragments as example
use Rattle.host_machine.proofs.Examples.Exchange.{no_slots}
use Rattle.host_machine.proofs.Examples.Pair.{none_yet, has_room, first_got, first_waits}
use Rattle.host_machine.proofs.worked_examples.fragment_waits.Goals as goal

pub returns : goal.returns
unfolding word_sum
returns c = record {
  reception = Frame example.first_fragment;
  frames = [];
  response = record {
    reply = None;
    taken = example.waiting_host;
    notes_taking = OfSlots (Take example.key) ∷ OfSlots (Arrival example.key example.one) ∷ [];
    notes_responding = [];
    takes = rw (no_slots (pos 0)) (ethernet.Accepted (lit≤ tt) refl (ipv4.Read
        (record { whole = lit≤ tt; version = refl; header = lit≤ tt; header_fits = lit≤ tt; total_fits = lit≤ tt; sum = λ on. refl })
        (ipv4.Part refl refl (record {
          slots = example.waiting_host.slots;
          slot_notes = Take example.key ∷ Arrival example.key example.one ∷ [];
          reassembles = Waits (record { got = no_fragments; ends = pos 60000000 }) (Take example.key ∷ [])
              (Taken none_yet has_room refl refl) refl first_waits refl refl
              (ap (λ (g : Got). with_slot (free_slots 2) example.key (record { got = g; ends = pos 60000000 })) (sym first_got));
          noted = refl;
          changed = refl;
        }) refl)));
    responds = (refl, refl, refl);
    all_notes = refl;
  };
  events = refl;
  answers = refl;
}
