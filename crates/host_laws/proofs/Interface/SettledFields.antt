-- What a call that sends leaves: addresses, routes, who is known, and what was learnt from routers.
use Rattle.std.proofs.Common.{◌≡◌, ℕ, Bool, true, false, List, refl, ◌∙◌, ap, Option, Some, None}
use Rattle.std.specs.Prelude.{ℤ, ◌==◌, if◌then◌else◌}
use Rattle.std.specs.FinMap.{FinMap}
use Rattle.net_base.specs.Device.{Event}
use Rattle.net_base.specs.declared.phy.DeviceCapabilities.{DeviceCapabilities}
use Rattle.ip_address.specs.Ip.{address_cmp}
use Rattle.ip_address.specs.declared.cidr.IpCidr.{IpCidr}
use Rattle.ip_address.specs.declared.ethernet_address.EthernetAddress.{EthernetAddress}
use Rattle.ip_address.specs.declared.hardware.HardwareAddress.{HardwareAddress}
use Rattle.ip_address.specs.declared.hardware.HardwareAddress.TheVariants as hardware
use Rattle.ip_address.specs.declared.ip.IpAddress.{IpAddress}
use Rattle.fragmentation.specs.Cuts.{Piece}
use Rattle.iface_tables.specs.declared.neighbor.Neighbor.{Neighbor}
use Rattle.iface_tables.specs.declared.route.Route.{Route}
use Rattle.iface_tables.specs.declared.groups.Group.{Group}
use Rattle.iface_tables.specs.declared.groups.GroupState.{GroupState}
use Rattle.iface_tables.specs.Slaac.{is_its_time, rs_sent, slaac_after_sent}
use Rattle.iface_tables.specs.declared.slaac.Phase.TheVariants as phase
use Rattle.iface_tables.specs.declared.slaac.Prefix.{Prefix}
use Rattle.iface_tables.specs.declared.slaac.Route as slaac_route
use Rattle.host_machine.specs.declared.results.Turn.{Turn}
use Rattle.host_machine.specs.Context.Note.{Note}
use Rattle.host_machine.specs.Context.Host.{Host, Socket, at, with_left, with_neighbors, with_next_id}
use Rattle.host_machine.specs.Receive.Reply.{Reply, Arp, Ip}
use Rattle.host_machine.specs.Receive.Response.{Responds}
use Rattle.host_machine.specs.Packet.Packet.{Packet}
use Rattle.host_machine.specs.Send.Outcome.{Outcome, IsUnsent}
use Rattle.host_machine.specs.Send.Dispatch.{Emits, DispatchesByHop, DispatchesEthernet, SendsOver, Dispatches}
use Rattle.host_machine.specs.Send.Requests.{Discovers, with_silence}
use Rattle.host_machine.specs.Send.Dispatch as dispatch
use Rattle.host_machine.specs.Send.Requests as requests
use Rattle.host_machine.specs.Sockets.Turns.{SocketTurn, Serves, Walks, SocketEgress}
use Rattle.host_machine.specs.Send.Fragments.{Ipv4Egress}
use Rattle.host_machine.specs.Interface.Egress.{Round}
use Rattle.host_machine.specs.Sockets.Turns as turns
use Rattle.host_machine.specs.Send.Fragments as fragments
use Rattle.host_machine.specs.Multicast.Joins.{ReportsEach, ReportsAll}
use Rattle.host_machine.specs.Multicast.Joins as multicast
use Rattle.host_machine.specs.Multicast.Igmp.{IgmpEgress}
use Rattle.host_machine.specs.Multicast.Mld.{MldEgress}
use Rattle.host_machine.specs.Multicast.Igmp as igmp
use Rattle.host_machine.specs.Multicast.Mld as mld
use Rattle.host_machine.specs.Discovery.RouterSolicitation.{NdiscRsEgress}
use Rattle.host_machine.specs.Context.Host as host
use Rattle.host_machine.specs.Discovery.RouterSolicitation as router_solicitation
use Rattle.host_machine.specs.Interface.Parts.{Part}
use Rattle.host_laws.specs.Laws.Restraint.Settings.{SendingKeepsSettings}
use Rattle.host_laws.proofs.Interface.PollCalls.{both}

-- what is left
pub record Settings : Type 0 where
  pub capabilities : DeviceCapabilities
  pub hardware_addr : HardwareAddress
  pub moment : ℤ
  pub ip_addrs : List IpCidr
  pub any_ip : Bool
  pub routes : List Route
  pub known : FinMap address_cmp Neighbor
  pub prefixes : List Prefix
  pub routers : List slaac_route.Route
  pub reassembly_timeout : ℕ
  pub slaac_enabled : Bool

abbrev pub settings_of : Host → Settings
settings_of H = record {
  capabilities = H.capabilities;
  hardware_addr = H.hardware_addr;
  moment = H.moment;
  ip_addrs = H.ip_addrs;
  any_ip = H.any_ip;
  routes = H.routes;
  known = H.neighbors.known;
  prefixes = H.slaac.prefixes;
  routers = H.slaac.routers;
  reassembly_timeout = H.reassembly_timeout;
  slaac_enabled = H.slaac_enabled;
}

abbrev pub Settled : Host → Host → Type 0
Settled old new = settings_of new ≡ settings_of old

abbrev pub SettledOver : Part
SettledOver old told notes new = Settled old new

settled : {old new : Host} → new ≡ old → Settled old new
settled e = ap settings_of e

-- what a dispatch leaves, where it doesn't read what a dispatch changes
module _ {X : Type 0} (read : Host → X) (same_id : (H : Host) → read (with_next_id H) ≡ read H)
    (same_silence : (H : Host) → read (with_neighbors H (with_silence H.neighbors H)) ≡ read H)
    (same_left : (H : Host) (rest : List Piece) → read (with_left H rest) ≡ read H) where
  unsent : {H new : Host} {frames : List (List ℕ)} {notes : List Note} → IsUnsent H frames notes new → read new ≡ read H
  unsent u = ap read u.unchanged

  emitted : {id : ℕ} {p : Packet} {h : HardwareAddress} {outcome : Outcome} {H new : Host} {frames : List (List ℕ)} {notes : List Note} →
      Emits id p h outcome H frames notes new → read new ≡ read H
  emitted (dispatch.Whole fits formed o f n e) = ap read e
  emitted {H = H} (dispatch.InPieces q first rest is long short pieces fits formed o f n e) = ap read e ∙ same_left H rest
  emitted (dispatch.TooLong long longer o u) = unsent u

  discovered : {own : EthernetAddress} {hop : IpAddress} {outcome : Outcome} {H new : Host} {frames : List (List ℕ)} {notes : List Note} →
      Discovers own hop outcome H frames notes new → read new ≡ read H
  discovered {H = H} (requests.Asked target source h s o f n e) = ap read e ∙ same_silence H
  discovered (requests.NoSource target h s o u) = unsent u
  discovered {H = H} (requests.Solicited target h o f n e) = ap read e ∙ same_silence (with_next_id H) ∙ same_id H

  by_hop : {id : ℕ} {own : EthernetAddress} {p : Packet} {hop : IpAddress} {outcome : Outcome} {H new : Host}
      {frames : List (List ℕ)} {notes : List Note} → DispatchesByHop id own p hop outcome H frames notes new → read new ≡ read H
  by_hop (dispatch.Known h k e) = emitted e
  by_hop (dispatch.Silent s o u) = unsent u
  by_hop (dispatch.Unknown u d) = discovered d

  over_ethernet : {id : ℕ} {own : EthernetAddress} {p : Packet} {outcome : Outcome} {H new : Host} {frames : List (List ℕ)} {notes : List Note} →
      DispatchesEthernet id own p outcome H frames notes new → read new ≡ read H
  over_ethernet (dispatch.ToMulticast h m e) = emitted e
  over_ethernet (dispatch.NoHop m n o u) = unsent u
  over_ethernet (dispatch.ByHop hop m n s) = by_hop s

  over : (id : ℕ) (h : HardwareAddress) (p : Packet) (outcome : Outcome) (H : Host) (frames : List (List ℕ)) (notes : List Note) (new : Host) →
      SendsOver id h p outcome H frames notes new → read new ≡ read H
  over id (hardware.Ethernet own) p outcome H frames notes new s = over_ethernet s
  over id hardware.Ip p outcome H frames notes new s = emitted s

  pub dispatch_leaves : {p : Packet} {outcome : Outcome} {H new : Host} {frames : List (List ℕ)} {notes : List Note} →
      Dispatches p outcome H frames notes new → read new ≡ read H
  dispatch_leaves (dispatch.ToUnspecified n o u) = unsent u
  dispatch_leaves {p} {outcome} {H} {new} {frames} (dispatch.ToSpecified more s d n) =
      over H.ipv4_id H.hardware_addr p outcome (with_next_id H) frames more new d ∙ same_id H

  -- what responding leaves
  pub response_leaves : (reply : Option Reply) (H : Host) (frames : List (List ℕ)) (notes : List Note) (new : Host) →
      Responds reply H frames notes new → read new ≡ read H
  response_leaves None H frames notes new r = ap read r.2
  response_leaves (Some (Arp packet)) H frames notes new r = ap read r.2
  response_leaves (Some (Ip packet)) H frames notes new r = dispatch_leaves r.1

pub dispatch_settled : {p : Packet} {outcome : Outcome} {H new : Host} {frames : List (List ℕ)} {notes : List Note} →
    Dispatches p outcome H frames notes new → Settled H new
dispatch_settled d = dispatch_leaves settings_of (λ H. refl) (λ H. refl) (λ H rest. refl) d

pub response_settled : (reply : Option Reply) (H : Host) (frames : List (List ℕ)) (notes : List Note) (new : Host) →
    Responds reply H frames notes new → Settled H new
response_settled reply H frames notes new r =
    response_leaves settings_of (λ H. refl) (λ H. refl) (λ H rest. refl) reply H frames notes new r

-- a call that sends
had_turn : {s s' : Socket} {turn : Turn} {H new : Host} {told : List Event} {notes : List Note} →
    SocketTurn s turn s' H told notes new → Settled H new
had_turn (turns.Silent p t o n e r) = settled e
had_turn (turns.Refused p q t o n e r) = settled e
had_turn (turns.Sent p outcome frames q d t o r) = dispatch_settled d

served : {i : ℕ} {turn : Turn} {H new : Host} {told : List Event} {notes : List Note} → Serves i turn H told notes new → Settled H new
served (turns.Free s t o n e) = settled e
served (turns.Waits s known h k p t o n e) = settled e
served (turns.Served s s' known mid h k p t e) = ap settings_of e ∙ had_turn t

walked : {old new : Host} {n : ℕ} {granted changed : Bool} {told : List Event} {notes : List Note} →
    Walks old n granted changed told notes new → Settled old new
walked turns.Begins = refl
walked (turns.Goes turn told notes _ w s t) = served s ∙ walked w
walked (turns.Stops turn told notes _ w s t) = served s ∙ walked w

sockets_sent : {old new : Host} {changed : Bool} {told : List Event} {notes : List Note} →
    SocketEgress old changed told notes new → Settled old new
sockets_sent (turns.Whole w) = walked w
sockets_sent (turns.Stopped n w) = walked w

piece_sent : {H new : Host} {told : List Event} {notes : List Note} → Ipv4Egress H told notes new → Settled H new
piece_sent (fragments.NoPiece l t n e) = settled e
piece_sent (fragments.NotGranted piece rest l t n e) = settled e
piece_sent (fragments.PieceGoes piece rest l t n e) = ap settings_of e

groups_reported : {state : GroupState} {packet_for : List IpCidr → IpAddress → Option Packet} {after_report : List Group → IpAddress → List Group}
    {old new : Host} {granted : Bool} {told : List Event} {notes : List Note} →
    ReportsEach state packet_for after_report old granted told notes new → Settled old new
groups_reported multicast.Begins = refl
groups_reported (multicast.Silently a w f p) = groups_reported w
groups_reported (multicast.Refused a p w f q) = groups_reported w
groups_reported (multicast.Reported a p outcome frames more new w f q d) = dispatch_settled d ∙ groups_reported w

all_reported : {state : GroupState} {packet_for : List IpCidr → IpAddress → Option Packet} {after_report : List Group → IpAddress → List Group}
    {old new : Host} {told : List Event} {notes : List Note} → ReportsAll state packet_for after_report old told notes new → Settled old new
all_reported (multicast.All w n) = groups_reported w
all_reported (multicast.UpToRefusal w) = groups_reported w

igmp_sent : {H new : Host} {told : List Event} {notes : List Note} → IgmpEgress H told notes new → Settled H new
igmp_sent (igmp.NotDue h t n e) = settled e
igmp_sent (igmp.NoFurtherGroup h g t n e) = ap settings_of e
igmp_sent (igmp.NoAddress next h g a t n e) = settled e
igmp_sent (igmp.NotGranted p h r t n e) = settled e
igmp_sent (igmp.Sent p outcome frames mid h r d t e) = ap settings_of e ∙ dispatch_settled d

mld_sent : {H new : Host} {told : List Event} {notes : List Note} → MldEgress H told notes new → Settled H new
mld_sent (mld.NotYet h t n e) = settled e
mld_sent (mld.GivenUp h t n e) = ap settings_of e
mld_sent (mld.ReportGoes outcome frames mid h d t e) = ap settings_of e ∙ dispatch_settled d

-- a solicitation counts as sent, and nothing else of what was learnt changes
counted : (H : Host) → Settled H (host.with_slaac H (rs_sent H.slaac H.moment))
counted H = by (is_its_time H.slaac H.moment) (H.slaac.left == 0) where
  by : (b c : Bool) → Settled H (host.with_slaac H
      (if b then if c then record H.slaac { phase = phase.None } else slaac_after_sent H.slaac H.moment else H.slaac))
  by true true = refl
  by true false = refl
  by false c = refl

routers_solicited : {H new : Host} {told : List Event} {notes : List Note} → NdiscRsEgress H told notes new → Settled H new
routers_solicited (router_solicitation.NotDue d t n e) = settled e
routers_solicited (router_solicitation.NotGranted p d t n e) = settled e
routers_solicited (router_solicitation.Goes p outcome frames mid h d t e) = ap settings_of e ∙ counted mid ∙ dispatch_settled d

pub round_settled : {changed : Bool} {old new : Host} {told : List Event} {notes : List Note} →
    Round changed old told notes new → Settled old new
round_settled {changed} {old} {new} {told} {notes} r = both SettledOver begins on (λ o n t ns p. piece_sent p)
    (both SettledOver begins on (λ o n t ns p. routers_solicited p)
    (both SettledOver begins on (λ o n t ns p. all_reported p)
    (both SettledOver begins on (λ o n t ns p. all_reported p)
    (both SettledOver begins on (λ o n t ns p. igmp_sent p)
    (both SettledOver begins on (λ o n t ns p. mld_sent p) (λ o n t ns p. sockets_sent p)))))) old new told notes r where
      begins : (H : Host) → Settled H H
      begins H = refl

      on : (a b c : Host) (ts us : List Event) (xs ys : List Note) → Settled a b → Settled b c → Settled a c
      on a b c ts us xs ys one two = two ∙ one

pub sending_settled : SendingKeepsSettings
sending_settled t answer old new told notes e =
    let same : Settled (at old t) new = round_settled e.round in record {
      addresses = ap (λ (s : Settings). s.ip_addrs) same;
      routes = ap (λ (s : Settings). s.routes) same;
      any_ip = ap (λ (s : Settings). s.any_ip) same;
      hardware_address = ap (λ (s : Settings). s.hardware_addr) same;
      reassembly_timeout = ap (λ (s : Settings). s.reassembly_timeout) same;
      slaac_enabled = ap (λ (s : Settings). s.slaac_enabled) same;
      prefixes = ap (λ (s : Settings). s.prefixes) same;
      routers = ap (λ (s : Settings). s.routers) same;
    }
