-- What a dispatch leaves alone.
use Rattle.std.proofs.Common.{◌≡◌, ℕ, List, ap}
use Rattle.ip_address.specs.declared.ethernet_address.EthernetAddress.{EthernetAddress}
use Rattle.ip_address.specs.declared.hardware.HardwareAddress.{HardwareAddress}
use Rattle.ip_address.specs.declared.hardware.HardwareAddress.TheVariants as hardware
use Rattle.ip_address.specs.declared.ip.IpAddress.{IpAddress}
use Rattle.host_machine.specs.Context.Note.{Note}
use Rattle.host_machine.specs.Context.Host.{Host, with_next_id}
use Rattle.host_machine.specs.Packet.Packet.{Packet}
use Rattle.host_machine.specs.Send.Dispatch as dispatch
use Rattle.host_machine.specs.Send.Requests as requests
use Rattle.host_machine.specs.Send.Outcome.{Outcome}
use Rattle.host_machine.specs.Send.Dispatch.{Emits, DispatchesByHop, DispatchesEthernet, SendsOver, Dispatches}
use Rattle.host_machine.specs.Send.Requests.{Discovers}

same : {H new : Host} → new ≡ H → new.groups ≡ H.groups
same e = ap (λ (K : Host). K.groups) e

emitted : {id : ℕ} {p : Packet} {h : HardwareAddress} {outcome : Outcome} {H new : Host} {frames : List (List ℕ)} {notes : List Note} →
    Emits id p h outcome H frames notes new → new.groups ≡ H.groups
emitted (dispatch.Whole fits formed o f n e) = same e
emitted (dispatch.InPieces q first rest p long cut pieces form formed o f n e) = ap (λ (K : Host). K.groups) e
emitted (dispatch.TooLong long cut o u) = same u.unchanged

discovered : {own : EthernetAddress} {hop : IpAddress} {outcome : Outcome} {H new : Host} {frames : List (List ℕ)} {notes : List Note} →
    Discovers own hop outcome H frames notes new → new.groups ≡ H.groups
discovered (requests.Asked target source h s o f n e) = ap (λ (K : Host). K.groups) e
discovered (requests.NoSource target h s o u) = same u.unchanged
discovered (requests.Solicited target h o f n e) = ap (λ (K : Host). K.groups) e

by_hop : {id : ℕ} {own : EthernetAddress} {p : Packet} {hop : IpAddress} {outcome : Outcome} {H new : Host} {frames : List (List ℕ)}
    {notes : List Note} → DispatchesByHop id own p hop outcome H frames notes new → new.groups ≡ H.groups
by_hop (dispatch.Known h a e) = emitted e
by_hop (dispatch.Silent a o u) = same u.unchanged
by_hop (dispatch.Unknown a d) = discovered d

over_ethernet : {id : ℕ} {own : EthernetAddress} {p : Packet} {outcome : Outcome} {H new : Host} {frames : List (List ℕ)} {notes : List Note} →
    DispatchesEthernet id own p outcome H frames notes new → new.groups ≡ H.groups
over_ethernet (dispatch.ToMulticast h m e) = emitted e
over_ethernet (dispatch.NoHop m n o u) = same u.unchanged
over_ethernet (dispatch.ByHop hop m n s) = by_hop s

over : (id : ℕ) (h : HardwareAddress) (p : Packet) (outcome : Outcome) (H : Host) (frames : List (List ℕ)) (notes : List Note) (new : Host) →
    SendsOver id h p outcome H frames notes new → new.groups ≡ H.groups
over id (hardware.Ethernet own) p outcome H frames notes new s = over_ethernet s
over id hardware.Ip p outcome H frames notes new s = emitted s

-- no group changes by it
pub groups_stay : {p : Packet} {outcome : Outcome} {H new : Host} {frames : List (List ℕ)} {notes : List Note} →
    Dispatches p outcome H frames notes new → new.groups ≡ H.groups
groups_stay (dispatch.ToUnspecified n o u) = same u.unchanged
groups_stay {p} {outcome} {H} {new} {frames} {notes} (dispatch.ToSpecified more s d n) =
    over H.ipv4_id H.hardware_addr p outcome (with_next_id H) frames more new d
