-- How a packet goes that counts as gone.
use Rattle.std.proofs.Common.{◌≡◌, ◌≤◌, ◌<◌, ℕ, true, false, List, [], ◌∷◌, refl, sym, ◌∙◌, ap, Some, Ok}
use Rattle.net_base.specs.Checksum.{ip_mtu_of}
use Rattle.ip_address.specs.declared.hardware.HardwareAddress.{HardwareAddress}
use Rattle.ip_address.specs.declared.hardware.HardwareAddress.TheVariants as hardware
use Rattle.ip_address.specs.declared.ip.IpAddress.{IpAddress}
use Rattle.ip_address.specs.declared.ip.IpAddress.TheVariants as address
use Rattle.ip_address.specs.Ip.{is_unspecified}
use Rattle.ip_address.specs.declared.ethernet_address.EthernetAddress.{EthernetAddress}
use Rattle.ip_address.specs.Hardware.{IsOf}
use Rattle.fragmentation.specs.Cuts.{Piece, pieces_of, HasForm}
use Rattle.host_machine.specs.Context.Note.{Note, cut_notes}
use Rattle.host_machine.specs.Context.Host.{Host, with_next_id}
use Rattle.host_machine.specs.Packet.Packet.{IpPayload, Packet, PacketV4, IsFormed, total_len}
use Rattle.host_machine.specs.Context.Real.{IsReal}
use Rattle.host_machine.specs.Packet.Packet as packet
use Rattle.host_machine.specs.Packet.Frame.{ip_frame, piece_frame}
use Rattle.host_machine.specs.Send.Outcome.{Outcome}
use Rattle.host_machine.specs.Send.Dispatch.{Emits, DispatchesByHop, DispatchesEthernet, SendsOver, Dispatches, destination_of, may_be_cut}
use Rattle.host_machine.specs.Send.Requests.{Discovers}
use Rattle.host_machine.specs.Context.Pieces.{datagram_of}
use Rattle.host_machine.specs.Send.Dispatch as dispatch
use Rattle.host_machine.specs.Send.Requests as requests
use Rattle.host_machine.specs.Sockets.Offers.{packet_between}
use Rattle.host_laws.specs.Laws.TwoHosts.{cuts}
use Rattle.host_machine.proofs.Send.Reached.{Reached, ByNeighbor, ByGroup, WithoutAddresses}
use Rattle.host_machine.proofs.Send.Reached.{reached_of}

-- whole, cut, or not at all
pub data Goes (H : Host) (p : Packet) (frames : List (List ℕ)) (notes : List Note) : Type 0 where
  InAFrame : (h : HardwareAddress) → (IsReal H → IsOf H.capabilities.medium h) → total_len p ≤ ip_mtu_of H.capabilities → IsFormed p →
      frames ≡ ip_frame H h p ∷ [] → cuts (cut_notes notes) ≡ [] → Goes H p frames notes
  Cut : (q : PacketV4) (h : HardwareAddress) (id : ℕ) (first : Piece) (rest : List Piece) →
      (IsReal H → IsOf H.capabilities.medium h) → p ≡ packet.Ipv4 q → ip_mtu_of H.capabilities < total_len p → may_be_cut p ≡ true →
      pieces_of (datagram_of H h id q) ≡ first ∷ rest → HasForm (datagram_of H h id q) → IsFormed p → frames ≡ piece_frame H first ∷ [] →
      cuts (cut_notes notes) ≡ datagram_of H h id q ∷ [] → Goes H p frames notes
  ToUnspecifiedAddress : is_unspecified (destination_of p) ≡ true → frames ≡ [] → cuts (cut_notes notes) ≡ [] → Goes H p frames notes
  Longer : ip_mtu_of H.capabilities < total_len p → may_be_cut p ≡ false → frames ≡ [] → cuts (cut_notes notes) ≡ [] → Goes H p frames notes

cuts_none : {notes : List Note} → notes ≡ [] → cuts (cut_notes notes) ≡ []
cuts_none e = ap (λ ns. cuts (cut_notes ns)) e

emitted : {id : ℕ} {p : Packet} {h : HardwareAddress} {outcome : Outcome} {H new : Host} {frames : List (List ℕ)} {notes : List Note} →
    Reached H h → Emits id p h outcome H frames notes new → Goes H p frames notes
emitted {h = h} {H = H} r (dispatch.Whole fits formed o f n e) = InAFrame h (λ real. reached_of H h real r) fits formed f (cuts_none n)
emitted {id} {h = h} {H = H} r (dispatch.InPieces q first rest is long may pieces form formed o f n e) =
    Cut q h _ first rest (λ real. reached_of H h real r) is long may pieces form formed f (ap (λ ns. cuts (cut_notes ns)) n)
emitted r (dispatch.TooLong long longer o u) = Longer long longer u.silent (cuts_none u.unnoted)

-- what isn't gone doesn't count
not_discovered : {own : _} {hop : _} {H new : Host} {frames : List (List ℕ)} {notes : List Note} → Discovers own hop (Ok tt) H frames notes new → ⊥
not_discovered (requests.Asked target source i s o f n e) = absurd cc
not_discovered (requests.NoSource target i s o u) = absurd cc
not_discovered (requests.Solicited target i o f n e) = absurd cc

by_hop : {id : ℕ} {own : _} {p : Packet} {hop : _} {H new : Host} {frames : List (List ℕ)} {notes : List Note} →
    DispatchesByHop id own p hop (Ok tt) H frames notes new → Goes H p frames notes
by_hop {hop = hop} (dispatch.Known h k e) = emitted (ByNeighbor hop k) e
by_hop (dispatch.Silent k o u) = absurd cc
by_hop (dispatch.Unknown k d) = absurd (not_discovered d)

by_ethernet : {id : ℕ} {own : EthernetAddress} {p : Packet} {H new : Host} {frames : List (List ℕ)} {notes : List Note} →
    H.hardware_addr ≡ hardware.Ethernet own → DispatchesEthernet id own p (Ok tt) H frames notes new → Goes H p frames notes
by_ethernet {own = own} {p = p} mine (dispatch.ToMulticast h m e) = emitted (ByGroup own (destination_of p) h mine m refl) e
by_ethernet mine (dispatch.NoHop m i o u) = absurd cc
by_ethernet mine (dispatch.ByHop hop m i s) = by_hop s

over : (id : ℕ) (h : HardwareAddress) (p : Packet) (H : Host) (frames : List (List ℕ)) (notes : List Note) (new : Host) →
    H.hardware_addr ≡ h → SendsOver id h p (Ok tt) H frames notes new → Goes H p frames notes
over id (hardware.Ethernet own) p H frames notes new mine s = by_ethernet mine s
over id hardware.Ip p H frames notes new mine s = emitted (WithoutAddresses mine refl) s

-- an identification was taken
before : (H : Host) (h : HardwareAddress) → (IsReal (with_next_id H) → IsOf H.capabilities.medium h) → IsReal H → IsOf H.capabilities.medium h
before H h to real = to (record { own = real.own; neighbors = real.neighbors })

identifies : {H : Host} {p : Packet} {frames : List (List ℕ)} {more notes : List Note} →
    cuts (cut_notes notes) ≡ cuts (cut_notes more) → Goes (with_next_id H) p frames more → Goes H p frames notes
identifies {H} e (InAFrame h to l formed f c) = InAFrame h (before H h to) l formed f (e ∙ c)
identifies {H} e (Cut q h id first rest to is l m pieces form formed f c) = Cut q h id first rest (before H h to) is l m pieces form formed f (e ∙ c)
identifies e (ToUnspecifiedAddress n f c) = ToUnspecifiedAddress n f (e ∙ c)
identifies e (Longer l m f c) = Longer l m f (e ∙ c)

pub gone : {p : Packet} {H new : Host} {frames : List (List ℕ)} {notes : List Note} → Dispatches p (Ok tt) H frames notes new → Goes H p frames notes
gone (dispatch.ToUnspecified n o u) = ToUnspecifiedAddress n u.silent (cuts_none u.unnoted)
gone {p} {H} {new} {frames} {notes} (dispatch.ToSpecified more s d n) =
    identifies (ap (λ ns. cuts (cut_notes ns)) n) (over H.ipv4_id H.hardware_addr p (with_next_id H) frames more new refl d)

-- a packet between two addresses goes to the one
pub between : (src dst : IpAddress) (hop_limit : ℕ) (payload : IpPayload) (p : Packet) →
    packet_between src dst hop_limit payload ≡ Some p → destination_of p ≡ dst
between (address.Ipv4 src) (address.Ipv4 dst) hop_limit payload p e =
    let is : packet.Ipv4 (record { src_addr = src; dst_addr = dst; hop_limit = hop_limit; payload = payload }) ≡ p = cc in ap destination_of (sym is)
between (address.Ipv4 src) (address.Ipv6 dst) hop_limit payload p e = absurd cc
between (address.Ipv6 src) (address.Ipv4 dst) hop_limit payload p e = absurd cc
between (address.Ipv6 src) (address.Ipv6 dst) hop_limit payload p e =
    let is : packet.Ipv6 (record { src_addr = src; dst_addr = dst; hop_limit = hop_limit; payload = payload }) ≡ p = cc in ap destination_of (sym is)
