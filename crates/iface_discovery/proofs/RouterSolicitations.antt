-- Router solicitations that are due, from their parts.
use Rattle.std.proofs.Common.{◌≡◌, Bool, true, false, List, [], refl, ap, ◌∙◌, Some, None}
use Rattle.net_base.specs.Device.{Event}
use Rattle.fragmentation.specs.Slots.{Slots}
use Rattle.iface_tables.specs.Slaac.{rs_sent}
use Rattle.host_machine.specs.Context.Host.{SocketSet, no_sockets, with_slots, with_slaac}
use Rattle.host_machine.specs.Packet.Packet as value
use Rattle.host_machine.specs.Discovery.RouterSolicitation as slaac
use Rattle.host_machine.specs.Discovery.RouterSolicitation.{NdiscRsEgress, due_solicitation}
use Rattle.iface_context.specs.declared.context.Context.{Context}
use Rattle.iface_context.specs.Stands.{host_in, host_of}
use Rattle.iface_send.specs.Offered.{HasPart, IsOffered, NoPacket, NotGranted, Goes}
use Rattle.iface_context.specs.Refines.{RefinesTelling}
use Rattle.iface_send.proofs.Offered.{none_is_some, true_is_false}

module _ {D : Type 0} {tells : D → List Event → D → Type 0} where
  pub not_asked : {d : D} (c : Context) → tells d [] d → due_solicitation (host_of c no_sockets) ≡ None →
      RefinesTelling tells d d (HasPart NdiscRsEgress c) c
  not_asked c quiet none = record { told = []; notes = []; tells_it = quiet; follows = λ slots sockets. slaac.NotDue none refl refl refl }

  pub solicitation_waits : {d e : D} (c c' : Context) (p : value.Packet) (granted : Bool) →
      due_solicitation (host_of c no_sockets) ≡ Some p → granted ≡ false →
      RefinesTelling tells d e (HasPart (IsOffered (Some p) granted) c) c' → RefinesTelling tells d e (HasPart NdiscRsEgress c) c'
  solicitation_waits c c' p granted due refused offered = record {
    told = offered.told;
    notes = offered.notes;
    tells_it = offered.tells_it;
    follows = λ slots sockets. by slots sockets (offered.follows slots sockets);
  } where
    by : (slots : Slots) (sockets : SocketSet) →
        IsOffered (Some p) granted (host_in c slots sockets) offered.told offered.notes (host_in c' slots sockets) →
        NdiscRsEgress (host_in c slots sockets) offered.told offered.notes (host_in c' slots sockets)
    by slots sockets (NoPacket none is silent unnoted unchanged) = none_is_some none
    by slots sockets (NotGranted q some is silent unnoted unchanged) = slaac.NotGranted q (due ∙ some) silent unnoted unchanged
    by slots sockets (Goes q outcome frames some is sends_it told_so) = true_is_false is refused

  pub solicitation_goes : {d e : D} (c c' c'' : Context) (p : value.Packet) (granted : Bool) →
      due_solicitation (host_of c no_sockets) ≡ Some p → granted ≡ true →
      RefinesTelling tells d e (HasPart (IsOffered (Some p) granted) c) c' →
      ((sockets : SocketSet) →
      host_of c'' sockets ≡ with_slaac (host_of c' sockets) (rs_sent (host_of c' no_sockets).slaac (host_of c' no_sockets).moment)) →
      RefinesTelling tells d e (HasPart NdiscRsEgress c) c''
  solicitation_goes c c' c'' p granted due gone offered sets = record {
    told = offered.told;
    notes = offered.notes;
    tells_it = offered.tells_it;
    follows = λ slots sockets. by slots sockets (offered.follows slots sockets);
  } where
    by : (slots : Slots) (sockets : SocketSet) →
        IsOffered (Some p) granted (host_in c slots sockets) offered.told offered.notes (host_in c' slots sockets) →
        NdiscRsEgress (host_in c slots sockets) offered.told offered.notes (host_in c'' slots sockets)
    by slots sockets (NoPacket none is silent unnoted unchanged) = none_is_some none
    by slots sockets (NotGranted q some is silent unnoted unchanged) = true_is_false gone is
    by slots sockets (Goes q outcome frames some is sends_it told_so) =
        slaac.Goes q outcome frames (host_in c' slots sockets) (due ∙ some) sends_it told_so (ap (λ H. with_slots H slots) (sets sockets))
