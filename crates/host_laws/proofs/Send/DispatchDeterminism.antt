-- What a dispatch does is determined by its packet and the host.
use Rattle.std.proofs.Common.{◌≡◌, ℕ, List, [], ◌∷◌, sym, ◌∙◌, ap, Some, None, arith}
use Rattle.std.specs.Prelude.{Ok}
use Rattle.ip_address.specs.declared.ethernet_address.EthernetAddress.{EthernetAddress}
use Rattle.ip_address.specs.declared.hardware.HardwareAddress.{HardwareAddress}
use Rattle.ip_address.specs.declared.hardware.HardwareAddress.TheVariants as hardware
use Rattle.ip_address.specs.declared.ip.IpAddress.{IpAddress}
use Rattle.ip_address.specs.declared.ip.IpAddress.TheVariants.{Ipv4, Ipv6}
use Rattle.iface_tables.specs.declared.neighbor.Answer.TheVariants.{Found}
use Rattle.fragmentation.specs.Cuts.{Piece, pieces_of}
use Rattle.host_machine.specs.Context.Note.{Note, OfIdentification, OfCuts, Identify, Cut, PieceSent}
use Rattle.host_machine.specs.Context.Host.{Host, with_left, with_next_id}
use Rattle.host_machine.specs.Packet.Packet.{Packet, PacketV4}
use Rattle.host_machine.specs.Packet.Packet as packet
use Rattle.host_machine.specs.Packet.Frame.{piece_frame}
use Rattle.host_machine.specs.Send.Outcome.{Outcome, IsUnsent}
use Rattle.host_machine.specs.Send.Dispatch.{Emits, DispatchesByHop, DispatchesEthernet, SendsOver}
use Rattle.host_machine.specs.Send.Requests.{Discovers}
use Rattle.host_machine.specs.Context.Pieces.{datagram_of}
use Rattle.host_machine.specs.Send.Dispatch as dispatch
use Rattle.host_machine.specs.Send.Requests as requests
use Rattle.host_machine.proofs.Interface.EarliestInstant.{hop_is_one}
use Rattle.host_laws.specs.Laws.Determined.{IsOneDispatch, DispatchIsDetermined}

-- two that do the same as a third
agree : {o o' c : Outcome} {f f' fs : List (List ℕ)} {n n' ns : List Note} {x x' K : Host} →
    o ≡ c → f ≡ fs → n ≡ ns → x ≡ K → o' ≡ c → f' ≡ fs → n' ≡ ns → x' ≡ K → IsOneDispatch o o' f f' n n' x x'
agree o f n x o' f' n' x' = record { outcome_is = o ∙ sym o'; frames_are = f ∙ sym f'; notes_are = n ∙ sym n'; host_is = x ∙ sym x' }

both_unsent : {o o' c : Outcome} {f f' : List (List ℕ)} {n n' : List Note} {H x x' : Host} →
    o ≡ c → o' ≡ c → IsUnsent H f n x → IsUnsent H f' n' x' → IsOneDispatch o o' f f' n n' x x'
both_unsent o o' u v = agree o u.silent u.unnoted u.unchanged o' v.silent v.unnoted v.unchanged

-- the pieces of one cut
cut_once : (id : ℕ) (h : HardwareAddress) (H : Host) {x x' : Host} {o o' : Outcome} {f f' : List (List ℕ)} {n n' : List Note} (q : PacketV4)
    (first first' : Piece) (rest rest' : List Piece) →
    pieces_of (datagram_of H h id q) ≡ first ∷ rest → pieces_of (datagram_of H h id q) ≡ first' ∷ rest' → o ≡ Ok tt → o' ≡ Ok tt →
    f ≡ piece_frame H first ∷ [] → f' ≡ piece_frame H first' ∷ [] → n ≡ OfCuts (Cut (datagram_of H h id q)) ∷ OfCuts (PieceSent first) ∷ [] →
    n' ≡ OfCuts (Cut (datagram_of H h id q)) ∷ OfCuts (PieceSent first') ∷ [] → x ≡ with_left H rest →
    x' ≡ with_left H rest' → IsOneDispatch o o' f f' n n' x x'
cut_once id h H q first first' rest rest' pieces pieces' o o' f f' n n' x x' =
    let lists : first ∷ rest ≡ first' ∷ rest' = sym pieces ∙ pieces' in
    let one : first ≡ first' = cc in
    let others : rest ≡ rest' = cc in
    agree o f n x o' (rw one f') (rw one n') (rw others x')

emits_once : {id : ℕ} {p : Packet} {h : HardwareAddress} {o o' : Outcome} {H x x' : Host} {f f' : List (List ℕ)} {n n' : List Note} →
    Emits id p h o H f n x → Emits id p h o' H f' n' x' → IsOneDispatch o o' f f' n n' x x'
emits_once (dispatch.Whole fits formed o f n x) (dispatch.Whole fits' formed' o' f' n' x') = agree o f n x o' f' n' x'
emits_once (dispatch.Whole fits formed o f n x) (dispatch.InPieces q first rest of long short pieces form formed' o' f' n' x') =
    absurd (omega (arith, fits, long))
emits_once (dispatch.Whole fits formed o f n x) (dispatch.TooLong long longer o' u) = absurd (omega (arith, fits, long))
emits_once (dispatch.InPieces q first rest of long short pieces form formed o f n x) (dispatch.Whole fits formed' o' f' n' x') =
    absurd (omega (arith, fits, long))
emits_once {id} {p} {h} {H = H} (dispatch.InPieces q first rest of long short pieces form formed o f n x)
    (dispatch.InPieces q' first' rest' of' long' short' pieces' form' formed' o' f' n' x') =
    let lists : packet.Ipv4 q ≡ packet.Ipv4 q' = sym of ∙ of' in
    let same : q ≡ q' = cc in
    cut_once id h H q first first' rest rest' pieces (rw same pieces') o o' f f' n (rw same n') x x'
emits_once (dispatch.InPieces q first rest of long short pieces form formed o f n x) (dispatch.TooLong long' longer o' u) = absurd cc
emits_once (dispatch.TooLong long longer o u) (dispatch.Whole fits formed o' f' n' x') = absurd (omega (arith, fits, long))
emits_once (dispatch.TooLong long longer o u) (dispatch.InPieces q first rest of long' short pieces form formed' o' f' n' x') = absurd cc
emits_once (dispatch.TooLong long longer o u) (dispatch.TooLong long' longer' o' v) = both_unsent o o' u v

discovers_once : {own : EthernetAddress} {hop : IpAddress} {o o' : Outcome} {H x x' : Host} {f f' : List (List ℕ)} {n n' : List Note} →
    Discovers own hop o H f n x → Discovers own hop o' H f' n' x' → IsOneDispatch o o' f f' n n' x x'
discovers_once (requests.Asked target source h s o f n x) (requests.Asked target' source' h' s' o' f' n' x') =
    let hops : Ipv4 target ≡ Ipv4 target' = sym h ∙ h' in
    let same : target ≡ target' = cc in
    let sources : Some source ≡ Some source' = sym s ∙ rw same s' in
    let from : source ≡ source' = cc in
    agree o f n x o' (rw (same, from) f') n' x'
discovers_once (requests.Asked target source h s o f n x) (requests.NoSource target' h' s' o' u) = absurd cc
discovers_once (requests.Asked target source h s o f n x) (requests.Solicited target' h' o' f' n' x') = absurd cc
discovers_once (requests.NoSource target h s o u) (requests.Asked target' source' h' s' o' f' n' x') = absurd cc
discovers_once (requests.NoSource target h s o u) (requests.NoSource target' h' s' o' v) = both_unsent o o' u v
discovers_once (requests.NoSource target h s o u) (requests.Solicited target' h' o' f' n' x') = absurd cc
discovers_once (requests.Solicited target h o f n x) (requests.Asked target' source' h' s' o' f' n' x') = absurd cc
discovers_once (requests.Solicited target h o f n x) (requests.NoSource target' h' s' o' u) = absurd cc
discovers_once (requests.Solicited target h o f n x) (requests.Solicited target' h' o' f' n' x') =
    let hops : Ipv6 target ≡ Ipv6 target' = sym h ∙ h' in
    let same : target ≡ target' = cc in
    agree o f n x o' (rw same f') n' x'

by_hop_once : {id : ℕ} {own : EthernetAddress} {p : Packet} {hop : IpAddress} {o o' : Outcome} {H x x' : Host}
    {f f' : List (List ℕ)} {n n' : List Note} →
    DispatchesByHop id own p hop o H f n x → DispatchesByHop id own p hop o' H f' n' x' → IsOneDispatch o o' f f' n n' x x'
by_hop_once (dispatch.Known h k e) (dispatch.Known h' k' e') =
    let found : Found h ≡ Found h' = sym k ∙ k' in
    let same : h ≡ h' = cc in
    emits_once e (rw same e')
by_hop_once (dispatch.Known h k e) (dispatch.Silent s o u) = absurd cc
by_hop_once (dispatch.Known h k e) (dispatch.Unknown u d) = absurd cc
by_hop_once (dispatch.Silent s o u) (dispatch.Known h k e) = absurd cc
by_hop_once (dispatch.Silent s o u) (dispatch.Silent s' o' v) = both_unsent o o' u v
by_hop_once (dispatch.Silent s o u) (dispatch.Unknown w d) = absurd cc
by_hop_once (dispatch.Unknown u d) (dispatch.Known h k e) = absurd cc
by_hop_once (dispatch.Unknown u d) (dispatch.Silent s o w) = absurd cc
by_hop_once (dispatch.Unknown u d) (dispatch.Unknown w d') = discovers_once d d'

ethernet_once : {id : ℕ} {own : EthernetAddress} {p : Packet} {o o' : Outcome} {H x x' : Host} {f f' : List (List ℕ)} {n n' : List Note} →
    DispatchesEthernet id own p o H f n x → DispatchesEthernet id own p o' H f' n' x' → IsOneDispatch o o' f f' n n' x x'
ethernet_once (dispatch.ToMulticast h m e) (dispatch.ToMulticast h' m' e') =
    let lists : Some h ≡ Some h' = sym m ∙ m' in
    let same : h ≡ h' = cc in
    emits_once e (rw same e')
ethernet_once (dispatch.ToMulticast h m e) (dispatch.NoHop m' k o u) = absurd cc
ethernet_once (dispatch.ToMulticast h m e) (dispatch.ByHop hop m' k s) = absurd cc
ethernet_once (dispatch.NoHop m k o u) (dispatch.ToMulticast h' m' e') = absurd cc
ethernet_once (dispatch.NoHop m k o u) (dispatch.NoHop m' k' o' v) = both_unsent o o' u v
ethernet_once (dispatch.NoHop m k o u) (dispatch.ByHop hop m' k' s) = let none : None ≡ Some hop = hop_is_one k k' in absurd cc
ethernet_once (dispatch.ByHop hop m k s) (dispatch.ToMulticast h' m' e') = absurd cc
ethernet_once (dispatch.ByHop hop m k s) (dispatch.NoHop m' k' o' u) = let none : Some hop ≡ None = hop_is_one k k' in absurd cc
ethernet_once (dispatch.ByHop hop m k s) (dispatch.ByHop hop' m' k' s') =
    let hops : Some hop ≡ Some hop' = hop_is_one k k' in
    let same : hop ≡ hop' = cc in
    by_hop_once s (rw same s')

over_once : (id : ℕ) (h : HardwareAddress) (p : Packet) {o o' : Outcome} (H : Host) {x x' : Host} {f f' : List (List ℕ)} {n n' : List Note} →
    SendsOver id h p o H f n x → SendsOver id h p o' H f' n' x' → IsOneDispatch o o' f f' n n' x x'
over_once id (hardware.Ethernet own) p H s s' = ethernet_once s s'
over_once id hardware.Ip p H s s' = emits_once s s'

pub dispatches_once : DispatchIsDetermined
dispatches_once p o o' H x x' f f' n n' (dispatch.ToUnspecified b e u) (dispatch.ToUnspecified b' e' v) = both_unsent e e' u v
dispatches_once p o o' H x x' f f' n n' (dispatch.ToUnspecified b e u) (dispatch.ToSpecified more' b' d' is') = absurd cc
dispatches_once p o o' H x x' f f' n n' (dispatch.ToSpecified more b d is) (dispatch.ToUnspecified b' e' v) = absurd cc
dispatches_once p o o' H x x' f f' n n' (dispatch.ToSpecified more b d is) (dispatch.ToSpecified more' b' d' is') =
    let one : IsOneDispatch o o' f f' more more' x x' = over_once H.ipv4_id H.hardware_addr p (with_next_id H) d d' in record {
      outcome_is = one.outcome_is;
      frames_are = one.frames_are;
      notes_are = is ∙ ap (λ ns. OfIdentification (Identify H.ipv4_id) ∷ ns) one.notes_are ∙ sym is';
      host_is = one.host_is;
    }
