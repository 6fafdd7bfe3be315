-- Pieces that were built.
use Rattle.std.proofs.Common.{◌≡◌, ℕ, ◌<◌, ◌≤◌, ◌∙◌, sym, ap, subst, List, [], ◌∷◌, ◌++◌, length, refl, arith}
use Rattle.std.proofs.lemmas.List.{append_assoc}
use Rattle.std.specs.Prelude.{Option, Some, None, Ok}
use Rattle.ip_address.specs.declared.hardware.HardwareAddress.{HardwareAddress}
use Rattle.ip_wire.specs.declared.ethernet.EthernetProtocol.TheVariants as protocol
use Rattle.ip_wire.specs.Ipv4Packet.{header_text}
use Rattle.net_base.specs.Checksum.{is_tx, ip_mtu_of}
use Rattle.fragmentation.specs.Cuts.{Piece, HasForm, pieces_of}
use Rattle.fragmentation.specs.Details.Pending.{IsNext, NoPiece, First, Shows, rest_of}
use Rattle.fragmentation.specs.declared.fragmenter.NextPiece.{NextPiece}
use Rattle.host_machine.specs.Context.Note.{OfCuts, Cut, PieceSent}
use Rattle.std.proofs.lemmas.Bool.Decides.{nat_tests}
use Rattle.host_machine.specs.Packet.Packet.{PacketV4, Ipv4, HasPorts, total_len}
use Rattle.host_machine.specs.Send.Dispatch.{Emits, InPieces}
use Rattle.host_machine.specs.Context.Pieces.{datagram_of}
use Rattle.host_machine.specs.Context.Host.{Host, SocketSet, no_sockets, with_slots, with_left}
use Rattle.host_machine.specs.Packet.Frame.{link_header, piece_frame}
use Rattle.iface_context.specs.declared.context.Context.{Context}
use Rattle.iface_context.specs.Stands.{host_of}
use Rattle.iface_context.specs.Refines.{RefinesBuilding}
use Rattle.iface_context.specs.Details.Pieces.{EmitsNextPiece}
use Rattle.iface_context.proofs.Building.{one, noting}

none_some : {x : NextPiece} → None ≡ Some x → ⊥
none_some e = absurd cc

some_is : {x y : NextPiece} → Some x ≡ Some y → x ≡ y
some_is e = cc

-- the frame of a piece by what is shown of it
abbrev frame_by : Context → NextPiece → List ℕ
frame_by c s =
    link_header c.hardware_addr s.destination protocol.Ipv4 ++ (header_text (is_tx c.capabilities.checksum.ipv4) s.header s.fragment ++ s.octets.now)

shown_frame : (c : Context) (s : NextPiece) (p : Piece) (sockets : SocketSet) → Shows s p → frame_by c s ≡ piece_frame (host_of c sockets) p
shown_frame c s p sockets shows = rw (shows.destination, shows.header, shows.fragment, shows.octets) refl

module _ {buffer : List ℕ} {old new : Context} (shown : NextPiece) (is : buffer ≡ frame_by old shown) (some : 0 < length buffer)
    (advanced : (sockets : SocketSet) → host_of new sockets ≡ with_left (host_of old sockets) (rest_of old.fragmenter.pieces)) where
  pub next_goes : (next : Option NextPiece) → next ≡ Some shown → IsNext old.fragmenter.pieces next → RefinesBuilding buffer EmitsNextPiece old new
  next_goes next it (NoPiece none nothing) = absurd (none_some (sym nothing ∙ it))
  next_goes next it (First s piece rest is_first is_shown shows) =
      one (frame_by old shown) (OfCuts (PieceSent piece) ∷ []) is some (λ slots sockets. record {
        piece = piece;
        rest = rest;
        is_first = is_first;
        sent = ap (λ frame. frame ∷ []) (shown_frame old shown piece sockets (subst (λ x. Shows x piece) (some_is (sym is_shown ∙ it)) shows));
        noted = refl;
        others_left = ap (λ H. with_slots H slots) (advanced sockets ∙ ap (λ pieces. with_left (host_of old sockets) (rest_of pieces)) is_first);
      })

-- three parts that were appended to an empty buffer, one after the other
pub in_parts : {none first second third : List ℕ} (link header octets : List ℕ) →
    none ≡ [] → first ≡ none ++ link → second ≡ first ++ header → third ≡ second ++ octets → third ≡ link ++ (header ++ octets)
in_parts link header octets empty by_link by_header by_octets =
    by_octets ∙ ap (λ xs. xs ++ octets) (by_header ∙ ap (λ xs. xs ++ header) (by_link ∙ ap (λ xs. xs ++ link) empty))
    ∙ append_assoc link header octets

-- the first piece of a packet that was cut goes
pub begins : {buffer : List ℕ} {old mid new : Context} (id : ℕ) (p : PacketV4) (h : HardwareAddress) →
    ((sockets : SocketSet) → host_of mid sockets ≡ with_left (host_of old sockets) (pieces_of (datagram_of (host_of old sockets) h id p))) →
    HasForm (datagram_of (host_of old no_sockets) h id p) → HasPorts p.payload →
    ip_mtu_of old.capabilities < total_len (Ipv4 p) → total_len (Ipv4 p) ≤ 4096 →
    RefinesBuilding buffer EmitsNextPiece mid new → RefinesBuilding buffer (Emits id (Ipv4 p) h (Ok tt)) old new
begins {buffer} {old} {mid} {new} id p h left form ports long fits built =
    noting (OfCuts (Cut (datagram_of (host_of old no_sockets) h id p))) built
    (λ slots sockets frames notes goes. InPieces p goes.piece goes.rest refl long (grind (arith, nat_tests, fits))
    (sym (ap (λ (H : Host). H.left) (left sockets)) ∙ goes.is_first) form
    (record { source = form.source_addr; destination = form.destination_addr; len = omega (arith, fits); ports = ports }) refl
    (goes.sent ∙ ap (λ H. piece_frame (with_slots H slots) goes.piece ∷ []) (left sockets))
    (ap (λ ns. OfCuts (Cut (datagram_of (host_of old no_sockets) h id p)) ∷ ns) goes.noted)
    (goes.others_left ∙ ap (λ H. with_left (with_slots H slots) goes.rest) (left sockets)))
