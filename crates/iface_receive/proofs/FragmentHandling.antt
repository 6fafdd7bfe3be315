-- What is done with the datagram that a packet brings or completes, from what became of the places.
use Rattle.std.proofs.Common.{◌≡◌, ℕ, ◌-◌, Bool, true, List, [], ◌++◌, Option, Some, None, length, drop, refl, sym, subst, ap, ◌∙◌, arith, append-nil}
use Rattle.std.specs.Prelude.{map}
use Rattle.std.proofs.lemmas.List.{append_assoc, length-drop, length-take-le}
use Rattle.std.proofs.lemmas.Option.{none-some}
use Rattle.ip_address.specs.declared.hardware.HardwareAddress.{HardwareAddress}
use Rattle.ip_wire.specs.declared.ipv4_packet.Ipv4Repr.{Ipv4Repr}
use Rattle.ip_wire.specs.declared.ipv4_packet.Ipv4Fragment.{Ipv4Fragment}
use Rattle.ip_wire.specs.Ipv4Packet.{IsIpv4, ipv4_in, header_in, header_len, total_len, is_fragment}
use Rattle.fragmentation.specs.declared.key.FragKey.{FragKey}
use Rattle.fragmentation.specs.Slots.{Slots}
use Rattle.fragmentation.specs.Details.Reassembled.{Reassembled}
use Rattle.fragmentation.specs.Assembly.{Assembly}
use Rattle.fragmentation.specs.Stands.{StandForSlots}
use Rattle.host_machine.specs.Context.Note.{OfSlots}
use Rattle.host_machine.specs.Context.Host.{Host, SocketSet}
use Rattle.host_machine.specs.Context.Addresses.{may_be_source}
use Rattle.host_machine.specs.Packet.Frame.{frames_in}
use Rattle.host_machine.specs.Receive.Reassembly.{TakesFragment}
use Rattle.host_machine.specs.Receive.Response.{Response}
use Rattle.host_machine.specs.Receive.Ipv4.{ProcessesPacket, ProcessesDatagram, Part, Completed, Whole, key_in, fragment_in, datagram_header}
use Rattle.iface_context.specs.declared.context.Context.{Context}
use Rattle.iface_context.specs.Stands.{host_in, host_of}
use Rattle.iface_receive.specs.Ipv4.{Datagram, Own, Together, end_of_slots}
use Rattle.iface_context.specs.Refines.{HostRefinesReplying, RefinesReplying, StandsFor}
use Rattle.iface_context.proofs.Processing.{by_rule, in_place}

abbrev in_some : Option (List ℕ) → List ℕ
in_some (Some octets) = octets
in_some None = []

-- the header of a whole packet tells the length of its payload
pub own_header : (checked : Bool) (octets payload : List ℕ) (r : Ipv4Repr) (f : Ipv4Fragment) →
    IsIpv4 checked octets × ((r, f, payload) ≡ ipv4_in octets) → datagram_header r payload ≡ r
own_header checked octets payload r f is =
    let same_header : r ≡ header_in octets = ap (λ (p : Ipv4Repr × Ipv4Fragment × List ℕ). p.0) is.1 in
    let same_payload : payload ≡ (ipv4_in octets).2 = ap (λ (p : Ipv4Repr × Ipv4Fragment × List ℕ). p.2) is.1 in
    let long : length (ipv4_in octets).2 ≡ total_len octets - header_len octets =
    length-take-le (total_len octets - header_len octets) (drop (header_len octets) octets)
    (rw (length-drop (header_len octets) octets) (omega (arith, is.0.total_fits))) in
    rw (same_header, same_payload) (ap (λ n. record (header_in octets) { payload_len = n }) long)

module _ (c : Context) (places places' : List (Assembly FragKey)) (s : SocketSet) (source : HardwareAddress)
    (r : Ipv4Repr) (f : Ipv4Fragment) (payload : List ℕ)
    (result : Option (List ℕ)) (buffer : List ℕ) (from : may_be_source c.ip_addrs.items r.src_addr ≡ true) where
  -- it is put together with those that came before
  taken_as : (slots : Slots) (R : Reassembled (end_of_slots c) (key_in r f) (fragment_in f payload) result slots places') (other : Option (List ℕ)) →
      result ≡ other →
      TakesFragment (key_in r f) (fragment_in f payload) other (host_in c slots s) (map OfSlots R.notes) (host_in c R.new s)
  taken_as slots R other is = record {
    slots = R.new;
    slot_notes = R.notes;
    reassembles = rw is at R.rule;
    noted = refl;
    changed = refl;
  }

  -- others are missing, or it is dropped
  waits : is_fragment f ≡ true →
      ((slots : Slots) → StandForSlots places slots → Reassembled (end_of_slots c) (key_in r f) (fragment_in f payload) result slots places') →
      result ≡ None → buffer ≡ [] →
      HostRefinesReplying buffer (λ H. ProcessesPacket source r f H payload) (StandsFor c places s) (StandsFor c places' s)
  waits is_part rests is empty H h =
      let R = rests h.slots h.stand in record {
        notes = map OfSlots R.notes;
        host = host_in c R.new s;
        response =
            subst (λ (K : Host). Response (λ L. ProcessesPacket source r f L payload) K (frames_in buffer) (map OfSlots R.notes) (host_in c R.new s))
            (sym h.same) (record {
              reply = None;
              taken = host_in c R.new s;
              notes_taking = map OfSlots R.notes;
              notes_responding = [];
              takes = Part from is_part (taken_as h.slots R None is) refl;
              responds = rw empty (refl, refl, refl);
              all_notes = sym (append-nil (map OfSlots R.notes));
            });
        stands = record { slots = R.new; stand = R.stands; same = refl };
      }

  -- its datagram is complete, and taken
  completes : is_fragment f ≡ true →
      ((slots : Slots) → StandForSlots places slots → Reassembled (end_of_slots c) (key_in r f) (fragment_in f payload) result slots places') →
      (c' : Context) (s' : SocketSet) (octets : List ℕ) (header : Ipv4Repr) → result ≡ Some octets → header ≡ datagram_header r octets →
      RefinesReplying buffer (λ H. ProcessesDatagram source header H octets) (host_of c s) (host_of c' s') →
      HostRefinesReplying buffer (λ H. ProcessesPacket source r f H payload) (StandsFor c places s) (StandsFor c' places' s')
  completes is_part rests c' s' octets header is header_is processed H h =
      let R = rests h.slots h.stand in
      let whole = processed.response R.new in record {
        notes = map OfSlots R.notes ++ processed.notes;
        host = host_in c' R.new s';
        response = subst (λ (K : Host). Response (λ L. ProcessesPacket source r f L payload) K (frames_in buffer)
            (map OfSlots R.notes ++ processed.notes) (host_in c' R.new s')) (sym h.same) (record {
              reply = whole.reply;
              taken = whole.taken;
              notes_taking = map OfSlots R.notes ++ whole.notes_taking;
              notes_responding = whole.notes_responding;
              takes = Completed octets (host_in c R.new s) (map OfSlots R.notes) whole.notes_taking from is_part (taken_as h.slots R (Some octets) is)
                  (subst (λ (x : Ipv4Repr). ProcessesDatagram source x (host_in c R.new s) octets whole.reply whole.notes_taking whole.taken)
                  header_is whole.takes) refl;
              responds = whole.responds;
              all_notes = ap (λ notes. map OfSlots R.notes ++ notes) whole.all_notes
                  ∙ sym (append_assoc (map OfSlots R.notes) whole.notes_taking whole.notes_responding);
            });
        stands = record { slots = R.new; stand = R.stands; same = refl };
      }

  -- what is done while no datagram is there
  pub no_datagram : Datagram (end_of_slots c) r f payload result places places' → result ≡ None → buffer ≡ [] →
      HostRefinesReplying buffer (λ H. ProcessesPacket source r f H payload) (StandsFor c places s) (StandsFor c places' s)
  no_datagram (Own whole own unchanged) is empty = absurd (none-some payload (sym is ∙ own))
  no_datagram (Together is_part rests) is empty = waits is_part rests is empty

  -- and with one, under the header that tells its length
  pub a_datagram : Datagram (end_of_slots c) r f payload result places places' → datagram_header r payload ≡ r →
      (c' : Context) (s' : SocketSet) (octets : List ℕ) (header : Ipv4Repr) →
      result ≡ Some octets → header ≡ datagram_header r octets →
      RefinesReplying buffer (λ H. ProcessesDatagram source header H octets) (host_of c s) (host_of c' s') →
      HostRefinesReplying buffer (λ H. ProcessesPacket source r f H payload) (StandsFor c places s) (StandsFor c' places' s')
  a_datagram (Own whole own unchanged) tells c' s' octets header is header_is processed =
      let same_payload : octets ≡ payload = ap in_some (sym is ∙ own) in
      let same_header : header ≡ r = header_is ∙ ap (datagram_header r) same_payload ∙ tells in
      rw unchanged (in_place (by_rule processed (λ slots reply notes taken takes. Whole from whole (rw (← same_header, ← same_payload) takes))))
  a_datagram (Together is_part rests) tells c' s' octets header is header_is processed =
      completes is_part rests c' s' octets header is header_is processed
