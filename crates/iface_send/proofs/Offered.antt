-- A packet that is offered, from its parts.
use Rattle.std.proofs.Common.{◌≡◌, Bool, true, false, sym, ◌∙◌, Some, None, ℕ, List, [], ◌∷◌, ◌++◌, refl, Option}
use Rattle.net_base.specs.Device.{Event, Asked}
use Rattle.host_machine.specs.Packet.Packet.{Packet}
use Rattle.host_machine.specs.Packet.Frame.{frames_in, sends}
use Rattle.host_machine.specs.Send.Outcome.{Outcome}
use Rattle.host_machine.specs.Send.Dispatch.{Dispatches}
use Rattle.iface_context.specs.declared.context.Context.{Context}
use Rattle.iface_context.specs.Refines.{RefinesBuilding, RefinesTelling}
use Rattle.iface_send.specs.Offered.{HasPart, IsOffered, NoPacket, NotGranted, Goes}

pub none_is_some : {A B : Type 0} {x : A} → Some x ≡ None → B
none_is_some e = absurd cc

pub true_is_false : {A : Type 0} {b : Bool} → b ≡ true → b ≡ false → A
true_is_false e f = absurd (let g = sym e ∙ f in cc)

module _ {D : Type 0} {tells : D → List Event → D → Type 0} where
  -- a packet that is offered
  pub no_packet : {d : D} {packet : Option Packet} {granted : Bool} (c : Context) →
      tells d [] d → packet ≡ None → granted ≡ true → RefinesTelling tells d d (HasPart (IsOffered packet granted) c) c
  no_packet c quiet none is = record { told = []; notes = []; tells_it = quiet; follows = λ slots sockets. NoPacket none is refl refl refl }

  pub not_granted : {d e : D} {packet : Option Packet} {granted : Bool} (c : Context) (p : Packet) →
      tells d (Asked c.moment false ∷ []) e → packet ≡ Some p → granted ≡ false →
      RefinesTelling tells d e (HasPart (IsOffered packet granted) c) c
  not_granted c p asks some is =
      record { told = Asked c.moment false ∷ []; notes = []; tells_it = asks; follows = λ slots sockets. NotGranted p some is refl refl refl }

  pub goes : {d m e : D} {buffer : List ℕ} {packet : Option Packet} {granted : Bool} (c c' : Context) →
      ((a b c : D) (xs ys : List Event) → tells a xs b → tells b ys c → tells a (xs ++ ys) c) →
      (p : Packet) (o : Outcome) → tells d (Asked c.moment true ∷ []) m → RefinesBuilding buffer (Dispatches p o) c c' →
      tells m (sends (frames_in buffer)) e → packet ≡ Some p → granted ≡ true →
      RefinesTelling tells d e (HasPart (IsOffered packet granted) c) c'
  goes {d} {m} {e} {buffer} c c' tells_on p o asks built sends_it some is = record {
    told = Asked c.moment true ∷ sends (frames_in buffer);
    notes = built.notes;
    tells_it = tells_on d m e (Asked c.moment true ∷ []) (sends (frames_in buffer)) asks sends_it;
    follows = λ slots sockets. Goes p o (frames_in buffer) some is (built.follows slots sockets) refl;
  }
