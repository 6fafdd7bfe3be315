-- At most one frame is taken by one call, and at most one sent.
use Rattle.std.proofs.Common.{◌≡◌, ℕ, ℤ, ◌≤◌, List, [], ◌∷◌, length, Option, Some, None, lit≤}
use Rattle.net_base.specs.Device.{Event, Reception, Received, Frame, Nothing, Withheld, handed_frames, sent_frames}
use Rattle.ip_address.specs.declared.hardware.HardwareAddress.{HardwareAddress}
use Rattle.ip_address.specs.declared.hardware.HardwareAddress.TheVariants as hardware
use Rattle.host_machine.specs.declared.results.PollIngressSingleResult.{PollIngressSingleResult}
use Rattle.host_machine.specs.Context.Note.{Note}
use Rattle.host_machine.specs.Context.Host.{Host, with_next_id}
use Rattle.host_machine.specs.Packet.Packet.{Packet}
use Rattle.host_machine.specs.Receive.Reply.{Reply, Arp, Ip}
use Rattle.host_machine.specs.Packet.Frame.{sends}
use Rattle.host_machine.specs.Send.Dispatch as dispatch
use Rattle.host_machine.specs.Send.Requests as requests
use Rattle.host_machine.specs.Send.Outcome.{Outcome}
use Rattle.host_machine.specs.Send.Dispatch.{Emits, DispatchesByHop, DispatchesEthernet, SendsOver, Dispatches}
use Rattle.host_machine.specs.Send.Requests.{Discovers}
use Rattle.host_machine.specs.Receive.Response.{Responds}
use Rattle.host_machine.specs.Interface.Ingress.{Ingress}
use Rattle.host_laws.proofs.Receive.Malformed.{handed_frames-sends, sent_frames-sends}

emitted : {id : ℕ} {p : Packet} {h : HardwareAddress} {outcome : Outcome} {H new : Host} {frames : List (List ℕ)} {notes : List Note} →
    Emits id p h outcome H frames notes new → length frames ≤ 1
emitted (dispatch.Whole fits formed o f n e) = rw f (lit≤ tt)
emitted (dispatch.InPieces q first rest is long short pieces fits formed o f n e) = rw f (lit≤ tt)
emitted (dispatch.TooLong long longer o u) = rw u.silent (lit≤ tt)

discovered : {hop : _} {own : _} {outcome : Outcome} {H new : Host} {frames : List (List ℕ)} {notes : List Note} →
    Discovers own hop outcome H frames notes new → length frames ≤ 1
discovered (requests.Asked target source h s o f n e) = rw f (lit≤ tt)
discovered (requests.NoSource target h s o u) = rw u.silent (lit≤ tt)
discovered (requests.Solicited target h o f n e) = rw f (lit≤ tt)

by_hop : {id : ℕ} {own : _} {p : Packet} {hop : _} {outcome : Outcome} {H new : Host} {frames : List (List ℕ)} {notes : List Note} →
    DispatchesByHop id own p hop outcome H frames notes new → length frames ≤ 1
by_hop (dispatch.Known h k e) = emitted e
by_hop (dispatch.Silent s o u) = rw u.silent (lit≤ tt)
by_hop (dispatch.Unknown u d) = discovered d

over_ethernet : {id : ℕ} {own : _} {p : Packet} {outcome : Outcome} {H new : Host} {frames : List (List ℕ)} {notes : List Note} →
    DispatchesEthernet id own p outcome H frames notes new → length frames ≤ 1
over_ethernet (dispatch.ToMulticast h m e) = emitted e
over_ethernet (dispatch.NoHop m n o u) = rw u.silent (lit≤ tt)
over_ethernet (dispatch.ByHop hop m n s) = by_hop s

over : (id : ℕ) (h : HardwareAddress) (p : Packet) (outcome : Outcome) (H : Host) (frames : List (List ℕ)) (notes : List Note) (new : Host) →
    SendsOver id h p outcome H frames notes new → length frames ≤ 1
over id (hardware.Ethernet own) p outcome H frames notes new s = over_ethernet s
over id hardware.Ip p outcome H frames notes new s = emitted s

pub dispatched : {p : Packet} {outcome : Outcome} {H new : Host} {frames : List (List ℕ)} {notes : List Note} →
    Dispatches p outcome H frames notes new → length frames ≤ 1
dispatched (dispatch.ToUnspecified n o u) = rw u.silent (lit≤ tt)
dispatched {p} {outcome} {H} {new} {frames} {notes} (dispatch.ToSpecified more s d n) =
    over H.ipv4_id H.hardware_addr p outcome (with_next_id H) frames more new d

responded : (reply : Option Reply) (H : Host) (frames : List (List ℕ)) (notes : List Note) (new : Host) →
    Responds reply H frames notes new → length frames ≤ 1
responded None H frames notes new r = rw r.0 (lit≤ tt)
responded (Some (Arp packet)) H frames notes new r = rw r.0 (lit≤ tt)
responded (Some (Ip packet)) H frames notes new r = dispatched r.1

taken : (t : ℤ) (r : Reception) (es : List Event) → handed_frames es ≡ [] → length (handed_frames (Received t r ∷ es)) ≤ 1
taken t (Frame f) es none = rw none (lit≤ tt)
taken t Nothing es none = rw none (lit≤ tt)
taken t Withheld es none = rw none (lit≤ tt)

pub single : (t : ℤ) (answer : PollIngressSingleResult) (old new : Host) (told : List Event) (notes : List Note) →
    Ingress t answer old told notes new → (length (handed_frames told) ≤ 1) × (length (sent_frames told) ≤ 1)
single t answer old new told notes i = rw i.events (
  taken t i.reception (sends i.frames) (handed_frames-sends i.frames),
  rw (sent_frames-sends i.frames) (responded i.response.reply i.response.taken i.frames i.response.notes_responding new i.response.responds),
)
