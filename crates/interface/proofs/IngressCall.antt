-- What came from a device, over plain variables.
use Rattle.std.proofs.Common.{◌≡◌, ℕ, ◌<◌, List, [], ◌∷◌, length, refl, arith, Option, None, Some}
use Rattle.std.specs.Prelude.{ℤ}
use Rattle.net_base.specs.Device.{Event, Received, Frame, Nothing, Withheld, HandsNone, WasEmpty, WasWithheld}
use Rattle.host_machine.specs.declared.results.PollIngressSingleResult.{PollIngressSingleResult}
use Rattle.host_machine.specs.declared.results.PollIngressSingleResult.TheVariants as result
use Rattle.host_machine.specs.Context.Host.{Host, without_expired}
use Rattle.host_machine.specs.Context.Note.{Note}
use Rattle.host_machine.specs.Receive.Reply.{Reply}
use Rattle.host_machine.specs.Packet.Frame.{frames_in, sends}
use Rattle.host_machine.specs.Receive.Ethernet.{ProcessesFrame}
use Rattle.host_machine.specs.Receive.Response.{Response}
use Rattle.host_machine.specs.Interface.Ingress.{Ingress, Takes, answer_to}
use Rattle.iface_context.specs.Refines.{HostRefinesReplying, RefinementReplying}
use Rattle.interface.specs.Details.Refines.{RefinementTelling}
use Rattle.interface.specs.Details.Receives.{RefinementReceiving, frames_shown}

nothing_taken : {Takes : Host → Option Reply → List Note → Host → Type 0} (H : Host) → Takes H None [] H → Response Takes H [] [] H
nothing_taken H takes =
    record { reply = None; taken = H; notes_taking = []; notes_responding = []; takes = takes; responds = (refl, refl, refl); all_notes = refl }

module _ {D : Type 0} {tells : D → List Event → D → Type 0} {d d' : D} where
  -- no frame came
  pub nothing_came : (t : ℤ) (H : Host) (after : Host → Type 0) →
      HandsNone tells t d d' → after (without_expired H t) → RefinementTelling tells d d' (Ingress t result.None H) after
  nothing_came t H after (WasEmpty told) stands = record {
    told = Received t Nothing ∷ [];
    notes = [];
    host = without_expired H t;
    tells_it = told;
    steps = record {
      reception = Nothing;
      frames = [];
      response = nothing_taken (without_expired H t) (record { silent = refl; unnoted = refl; unchanged = refl });
      events = refl;
      answers = refl;
    };
    stands = stands;
  }
  nothing_came t H after (WasWithheld told) stands = record {
    told = Received t Withheld ∷ [];
    notes = [];
    host = without_expired H t;
    tells_it = told;
    steps = record {
      reception = Withheld;
      frames = [];
      response = nothing_taken (without_expired H t) (record { silent = refl; unnoted = refl; unchanged = refl });
      events = refl;
      answers = refl;
    };
    stands = stands;
  }

-- a frame that isn't empty
takes_some : (H K : Host) (f : List ℕ) (reply : Option Reply) (notes : List Note) →
    0 < length f → ProcessesFrame H.hardware_addr H f reply notes K → Takes H (Frame f) reply notes K
takes_some H K [] reply notes some takes = absurd (omega arith)
takes_some H K (octet ∷ octets) reply notes some takes = takes

-- an empty frame
takes_none : (H : Host) (f : List ℕ) → length f ≡ 0 → Takes H (Frame f) None [] H
takes_none H [] none = record { silent = refl; unnoted = refl; unchanged = refl }
takes_none H (octet ∷ octets) none = absurd (omega (arith, none))

-- what is done with a frame that isn't empty, by its medium
pub took_some : {before after : Host → Type 0} (f buffer : List ℕ) →
    0 < length f → HostRefinesReplying buffer (λ L. ProcessesFrame L.hardware_addr L f) before after →
    HostRefinesReplying buffer (λ L. Takes L (Frame f)) before after
took_some f buffer some answers H stands =
    let a = answers H stands in
    let r = a.response in record {
      notes = a.notes;
      host = a.host;
      response = record {
        reply = r.reply;
        taken = r.taken;
        notes_taking = r.notes_taking;
        notes_responding = r.notes_responding;
        takes = takes_some H r.taken f r.reply r.notes_taking some r.takes;
        responds = r.responds;
        all_notes = r.all_notes;
      };
      stands = a.stands;
    }

-- nothing is built for an empty one
pub took_none : {stand : Host → Type 0} (f buffer : List ℕ) →
    length f ≡ 0 → buffer ≡ [] → HostRefinesReplying buffer (λ L. Takes L (Frame f)) stand stand
took_none f buffer none empty H stands = record { notes = []; host = H; response = rw empty (nothing_taken H (takes_none H f none)); stands = stands }

pub answers_none : (f : List ℕ) → length f ≡ 0 → result.PacketProcessed ≡ answer_to (Frame f)
answers_none [] none = refl
answers_none (octet ∷ octets) none = absurd (omega (arith, none))

pub answers_some : (f : List ℕ) → 0 < length f → result.SocketStateChanged ≡ answer_to (Frame f)
answers_some [] some = absurd (omega arith)
answers_some (octet ∷ octets) some = refl

-- a frame came, was taken, and the one built in response went
pub frame_came : (t : ℤ) (H : Host) (f buffer : List ℕ) (answer : PollIngressSingleResult) (after : Host → Type 0)
    (taken : RefinementReplying buffer (λ L. Takes L (Frame f)) (without_expired H t) after) → answer ≡ answer_to (Frame f) →
    Ingress t answer H (Received t (Frame f) ∷ sends (frames_in buffer)) taken.notes taken.host
frame_came t H f buffer answer after taken answers = record {
  reception = Frame f;
  frames = frames_in buffer;
  response = taken.response;
  events = refl;
  answers = answers;
}

-- a buffer holds what is shown of it
pub shows_none : (buffer : List ℕ) → length buffer ≡ 0 → frames_in buffer ≡ frames_shown None
shows_none [] none = refl
shows_none (octet ∷ octets) none = absurd (omega (arith, none))

pub shows_some : (buffer shown : List ℕ) → 0 < length buffer → shown ≡ buffer → frames_in buffer ≡ frames_shown (Some shown)
shows_some [] shown some is = absurd (omega (arith, some))
shows_some (octet ∷ octets) shown some is = rw is refl

-- the same where its user gives the frame, and the one built is shown
pub frame_received : (t : ℤ) (H : Host) (f buffer : List ℕ) (shown : Option (List ℕ)) (after : Host → Type 0) →
    RefinementReplying buffer (λ L. Takes L (Frame f)) (without_expired H t) after →
    frames_in buffer ≡ frames_shown shown → RefinementReceiving t f shown H after
frame_received t H f buffer shown after taken shows = record {
  notes = taken.notes;
  host = taken.host;
  steps = rw shows at (frame_came t H f buffer (answer_to (Frame f)) after taken refl);
  stands = taken.stands;
}
