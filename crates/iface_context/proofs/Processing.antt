-- What was processed, from what was taken and what was built.
use Rattle.std.proofs.Common.{◌≡◌, ℕ, List, [], Option, None, Some, refl, subst, sym}
use Rattle.fragmentation.specs.declared.key.FragKey.{FragKey}
use Rattle.fragmentation.specs.Slots.{Slots}
use Rattle.fragmentation.specs.Assembly.{Assembly}
use Rattle.host_machine.specs.Context.Note.{Note}
use Rattle.host_machine.specs.Context.Host.{Host, SocketSet, with_slots}
use Rattle.host_machine.specs.Packet.Frame.{frames_in}
use Rattle.host_machine.specs.Packet.Packet.{Packet}
use Rattle.host_machine.specs.Send.Outcome.{Outcome}
use Rattle.host_machine.specs.Send.Dispatch.{Dispatches}
use Rattle.host_machine.specs.Receive.Reply.{Reply, Ip, IsDropped}
use Rattle.host_machine.specs.Receive.Response.{Response, Responds}
use Rattle.iface_context.specs.declared.context.Context.{Context}
use Rattle.iface_context.specs.Refines.{RefinesBuilding, HostRefinesReplying, RefinesReplying, StandsFor}
use Rattle.iface_context.specs.Stands.{host_in, host_of}

pub dropped : (H : Host) → IsDropped H None [] H
dropped H = record { silent = refl; unnoted = refl; unchanged = refl }

module _ {Takes : Host → Option Reply → List Note → Host → Type 0} {buffer : List ℕ} where
  -- nothing is answered to what was taken
  pub unanswered : {H K : Host} →
      buffer ≡ [] → ((slots : Slots) → Takes (with_slots H slots) None [] (with_slots K slots)) → RefinesReplying buffer Takes H K
  unanswered {H} {K} empty takes = record {
    notes = [];
    response = λ slots. record {
      reply = None;
      taken = with_slots K slots;
      notes_taking = [];
      notes_responding = [];
      takes = takes slots;
      responds = rw empty (refl, refl, refl);
      all_notes = refl;
    };
  }

  -- what was taken is answered by what was built
  pub answered : {H : Host} {taken new : Context} (sockets : SocketSet) (reply : Option Reply) →
      ((slots : Slots) → Takes (with_slots H slots) reply [] (host_in taken slots sockets)) →
      RefinesBuilding buffer (Responds reply) taken new → RefinesReplying buffer Takes H (host_of new sockets)
  answered {H} {taken} {new} sockets reply takes built = record {
    notes = built.notes;
    response = λ slots. record {
      reply = reply;
      taken = host_in taken slots sockets;
      notes_taking = [];
      notes_responding = built.notes;
      takes = takes slots;
      responds = built.follows slots sockets;
      all_notes = refl;
    };
  }

  -- what was taken by another rule, from another host
  pub by_rule : {Other : Host → Option Reply → List Note → Host → Type 0} {first H K : Host} → RefinesReplying buffer Other first K →
      ((slots : Slots) (reply : Option Reply) (notes : List Note) (taken : Host) →
      Other (with_slots first slots) reply notes taken → Takes (with_slots H slots) reply notes taken) → RefinesReplying buffer Takes H K
  by_rule processed takes = record {
    notes = processed.notes;
    response = λ slots. let r = processed.response slots in
        record {
          reply = r.reply;
          taken = r.taken;
          notes_taking = r.notes_taking;
          notes_responding = r.notes_responding;
          takes = takes slots r.reply r.notes_taking r.taken r.takes;
          responds = r.responds;
          all_notes = r.all_notes;
        };
  }

  -- where no place for fragments is touched
  pub in_place : {old new : Context} {places : List (Assembly FragKey)} {before after : SocketSet} →
      RefinesReplying buffer Takes (host_of old before) (host_of new after) →
      HostRefinesReplying buffer Takes (StandsFor old places before) (StandsFor new places after)
  in_place {old} {new} {places} {before} {after} processed H stands = record {
    notes = processed.notes;
    host = host_in new stands.slots after;
    response = subst (λ (K : Host). Response Takes K (frames_in buffer) processed.notes (host_in new stands.slots after))
        (sym stands.same) (processed.response stands.slots);
    stands = record { slots = stands.slots; stand = stands.stand; same = refl };
  }

  -- what was taken by another rule, over the places
  pub by_law : {Other : Host → Option Reply → List Note → Host → Type 0} {before after : Host → Type 0} →
      HostRefinesReplying buffer Other before after →
      ((H : Host) → before H → (reply : Option Reply) (notes : List Note) (taken : Host) → Other H reply notes taken → Takes H reply notes taken) →
      HostRefinesReplying buffer Takes before after
  by_law answers takes H stands =
      let a = answers H stands in
      let r = a.response in record {
        notes = a.notes;
        host = a.host;
        response = record {
          reply = r.reply;
          taken = r.taken;
          notes_taking = r.notes_taking;
          notes_responding = r.notes_responding;
          takes = takes H stands r.reply r.notes_taking r.taken r.takes;
          responds = r.responds;
          all_notes = r.all_notes;
        };
        stands = a.stands;
      }

-- a packet that is dispatched is the response, whatever becomes of it
pub dispatched : {buffer : List ℕ} {old new : Context} (packet : Packet) (outcome : Outcome) →
    RefinesBuilding buffer (Dispatches packet outcome) old new → RefinesBuilding buffer (Responds (Some (Ip packet))) old new
dispatched packet outcome built = record { notes = built.notes; follows = λ slots sockets. (outcome, built.follows slots sockets) }
