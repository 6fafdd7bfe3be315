-- Parts of a round that leave the sockets as they were.
use Rattle.std.proofs.Common.{◌≡◌, ℕ, Bool, false, List, [], refl, ◌∙◌, ap, Option}
use Rattle.std.specs.Prelude.{pos}
use Rattle.net_base.specs.Device.{Event}
use Rattle.ip_address.specs.declared.cidr.IpCidr.{IpCidr}
use Rattle.ip_address.specs.declared.ip.IpAddress.{IpAddress}
use Rattle.iface_tables.specs.declared.groups.Group.{Group}
use Rattle.iface_tables.specs.declared.groups.GroupState.{GroupState}
use Rattle.host_machine.specs.Context.Note.{Note}
use Rattle.host_machine.specs.Context.Host.{Host}
use Rattle.host_machine.specs.Packet.Packet.{Packet}
use Rattle.host_machine.specs.Send.Outcome.{Outcome}
use Rattle.host_machine.specs.Send.Dispatch.{Dispatches}
use Rattle.host_machine.specs.Multicast.Joins as multicast
use Rattle.host_machine.specs.Multicast.Igmp.{IgmpEgress}
use Rattle.host_machine.specs.Multicast.Mld.{MldEgress}
use Rattle.host_machine.specs.Multicast.Igmp as igmp
use Rattle.host_machine.specs.Multicast.Mld as mld
use Rattle.host_machine.specs.Discovery.RouterSolicitation.{NdiscRsEgress}
use Rattle.host_machine.specs.Discovery.RouterSolicitation as slaac
use Rattle.host_machine.specs.Send.Fragments.{Ipv4Egress}
use Rattle.host_machine.specs.Send.Fragments as egress
use Rattle.host_laws.proofs.DatagramHandover.{seen}
use Rattle.host_laws.proofs.IngressDeliveries.{dispatched}

-- what the sending of a packet reads of a host; the rest set to one value
abbrev pub base : Host → Host
base H = record (seen H) { moment = pos 0; any_ip = false; routes = []; groups = [] }

-- that stays, and so do the sockets
pub record Idle (old new : Host) : Type 0 where
  pub base_is : base new ≡ base old
  pub sockets_are : new.sockets ≡ old.sockets

pub idle : {old new : Host} → new ≡ old → Idle old new
idle e = record { base_is = ap base e; sockets_are = ap (λ (K : Host). K.sockets) e }

pub idle_by : {old mid new : Host} → new ≡ mid → Idle old mid → Idle old new
idle_by e i = record { base_is = ap base e ∙ i.base_is; sockets_are = ap (λ (K : Host). K.sockets) e ∙ i.sockets_are }

pub idle_then : {a b c : Host} → Idle a b → Idle b c → Idle a c
idle_then i j = record { base_is = j.base_is ∙ i.base_is; sockets_are = j.sockets_are ∙ i.sockets_are }

-- where only what isn't read changes
pub rests : {old new : Host} → base new ≡ base old → new.sockets ≡ old.sockets → Idle old new
rests b s = record { base_is = b; sockets_are = s }

pub dispatch_idle : {p : Packet} {outcome : Outcome} {H new : Host} {frames : List (List ℕ)} {notes : List Note} →
    Dispatches p outcome H frames notes new → Idle H new
dispatch_idle d = let u = dispatched d in
    record {
      base_is = ap (λ (K : Host). record K { moment = pos 0; any_ip = false; routes = []; groups = [] }) u.seen_is;
      sockets_are = u.sockets_are;
    }

pub piece_idle : {H new : Host} {told : List Event} {notes : List Note} → Ipv4Egress H told notes new → Idle H new
piece_idle (egress.NoPiece l t n e) = idle e
piece_idle (egress.NotGranted piece rest l t n e) = idle e
piece_idle (egress.PieceGoes piece rest l t n e) = idle_by e (rests refl refl)

pub routers_idle : {H new : Host} {told : List Event} {notes : List Note} → NdiscRsEgress H told notes new → Idle H new
routers_idle (slaac.NotDue d t n e) = idle e
routers_idle (slaac.NotGranted p d t n e) = idle e
routers_idle (slaac.Goes p outcome frames mid h d t e) = idle_by e (idle_then (dispatch_idle d) (rests refl refl))

pub groups_idle : {state : GroupState} {packet_for : List IpCidr → IpAddress → Option Packet} {after_report : List Group → IpAddress → List Group}
    {old new : Host} {granted : Bool} {told : List Event} {notes : List Note} →
    multicast.ReportsEach state packet_for after_report old granted told notes new → Idle old new
groups_idle multicast.Begins = idle refl
groups_idle (multicast.Silently a w f p) = idle_then (groups_idle w) (rests refl refl)
groups_idle (multicast.Refused a p w f q) = groups_idle w
groups_idle (multicast.Reported a p outcome frames more new w f q d) = idle_then (groups_idle w) (idle_then (dispatch_idle d) (rests refl refl))

pub all_idle : {state : GroupState} {packet_for : List IpCidr → IpAddress → Option Packet} {after_report : List Group → IpAddress → List Group}
    {old new : Host} {told : List Event} {notes : List Note} →
    multicast.ReportsAll state packet_for after_report old told notes new → Idle old new
all_idle (multicast.All w n) = groups_idle w
all_idle (multicast.UpToRefusal w) = groups_idle w

pub igmp_idle : {H new : Host} {told : List Event} {notes : List Note} → IgmpEgress H told notes new → Idle H new
igmp_idle (igmp.NotDue h t n e) = idle e
igmp_idle (igmp.NoFurtherGroup h g t n e) = idle_by e (rests refl refl)
igmp_idle (igmp.NoAddress next h g a t n e) = idle e
igmp_idle (igmp.NotGranted p h r t n e) = idle e
igmp_idle (igmp.Sent p outcome frames mid h r d t e) = idle_by e (idle_then (dispatch_idle d) (rests refl refl))

pub mld_idle : {H new : Host} {told : List Event} {notes : List Note} → MldEgress H told notes new → Idle H new
mld_idle (mld.NotYet h t n e) = idle e
mld_idle (mld.GivenUp h t n e) = idle_by e (rests refl refl)
mld_idle (mld.ReportGoes outcome frames mid h d t e) = idle_by e (idle_then (dispatch_idle d) (rests refl refl))
