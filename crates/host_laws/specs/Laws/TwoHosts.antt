-- What one host reassembles of what another fragmented, over a link that loses, repeats and reorders frames,
-- but never changes one.
use Rattle.std.specs.Prelude.{◌≡◌, ℕ, ◌*◌, ◌<◌, ◌≤◌, Bool, true, false, IsTrue, List, [], ◌∷◌, length, None}
use Rattle.std.specs.List.{AllByRecursion, Contains}
use Rattle.net_base.specs.declared.phy.Medium.{Medium}
use Rattle.net_base.specs.Checksum.{ip_mtu_of, is_rx, is_tx}
use Rattle.net_base.specs.Device.{handed_frames, sent_frames}
use Rattle.ip_address.specs.declared.hardware.HardwareAddress.{HardwareAddress}
use Rattle.ip_address.specs.declared.hardware.HardwareAddress.TheVariants as hardware
use Rattle.fragmentation.specs.declared.key.FragKey.{FragKey}
use Rattle.fragmentation.specs.Keys.{same_key, key_of}
use Rattle.fragmentation.specs.Fragments.{Fragment}
use Rattle.fragmentation.specs.Slots.{slot_of}
use Rattle.fragmentation.specs.Cuts.{Datagram, HasForm, cut, piece_of}
use Rattle.host_machine.specs.Context.Note.{CutNote, Cut, PieceSent, cut_notes}
use Rattle.host_machine.specs.Context.Host.{Host}
use Rattle.host_machine.specs.Context.Addresses.{may_be_source}
use Rattle.host_machine.specs.Receive.Ethernet.{is_for}
use Rattle.host_machine.specs.Packet.Frame.{piece_frame}
use Rattle.host_laws.specs.Laws.Frames.{Brings}
use Rattle.ip_address.specs.Hardware.{IsOf}
use Rattle.host_machine.specs.Context.Real.{IsReal}
use Rattle.host_machine.specs.Interface.Run.{Transition, Run, events_in, notes_in}
use Rattle.host_laws.specs.Laws.Arrivals.{rebuilt, slot_notes_in}

-- the packets that were fragmented, in order
abbrev pub cuts : List CutNote → List Datagram
cuts [] = []
cuts (Cut d ∷ notes) = d ∷ cuts notes
cuts (PieceSent p ∷ notes) = cuts notes

abbrev pub cuts_in : List Transition → List Datagram
cuts_in transitions = cuts (cut_notes (notes_in transitions))

-- the key that its fragments share
abbrev pub key_of_cut : Datagram → FragKey
key_of_cut d = key_of d.header d.identification

-- no two have the same key
abbrev pub HaveOwnKeys : List Datagram → Type 0
HaveOwnKeys [] = Unit {0}
HaveOwnKeys (d ∷ ds) = AllByRecursion (λ e. same_key (key_of_cut d) (key_of_cut e) ≡ false) ds × HaveOwnKeys ds

-- the two ends of a link when it began: both on one medium, and no fragment of an earlier packet pending at the first
pub record MayExchange (a b : Host) : Type 0 where
  pub one_medium : b.capabilities.medium ≡ a.capabilities.medium
  pub a_real : IsReal a
  pub b_real : IsReal b
  pub mtu : 576 ≤ ip_mtu_of a.capabilities
  pub left : a.left ≡ []

-- each frame that is received in one run was sent in the other
abbrev pub WereSent : List Transition → List Transition → Type 0
WereSent ps qs = AllByRecursion (Contains (sent_frames (events_in ps))) (handed_frames (events_in qs))

-- whatever is reassembled in a run under the key of one of these packets is that packet's payload
abbrev pub RebuildsThese : List Datagram → List Transition → Type 0
RebuildsThese ds qs =
    AllByRecursion (λ d. AllByRecursion (λ octets. octets ≡ d.payload) (rebuilt (key_of_cut d) (slot_notes_in qs))) ds

-- If a host receives only frames that another host sent, whatever it reassembles under the key of a packet that the
-- other host fragmented is that packet's payload. The other host fragments no two packets under one key, and the
-- receiving host has no slot with such a key at first.
abbrev pub RebuildsWhatWasCut : Type 0
RebuildsWhatWasCut =
    (a a' b b' : Host) (ps qs : List Transition) → Run a ps a' → Run b qs b' → MayExchange a b →
    WereSent ps qs → HaveOwnKeys (cuts_in ps) →
    AllByRecursion (λ d. slot_of b.slots (key_of_cut d) ≡ None) (cuts_in ps) → RebuildsThese (cuts_in ps) qs

-- whether a frame to a hardware address is for a host with another one: on a medium without hardware
-- addresses each frame is
abbrev pub reaches : HardwareAddress → HardwareAddress → Bool
reaches (hardware.Ethernet destination) (hardware.Ethernet own) = is_for own destination
reaches (hardware.Ethernet destination) hardware.Ip = false
reaches hardware.Ip (hardware.Ethernet own) = false
reaches hardware.Ip hardware.Ip = true

-- The fragments of a packet that a host fragmented into two or more are read by another host on its medium as the
-- fragments of its payload. They must be for that host, with a source that is valid there, and have a checksum if the
-- other host verifies it.
abbrev pub PiecesAreRead : Type 0
PiecesAreRead =
    (m : Medium) (a b : Host) (d : Datagram) (y : ℕ) (f : Fragment) →
    IsOf m a.hardware_addr → IsOf m b.hardware_addr → IsOf m d.destination →
    HasForm d → d.size ≡ y * 8 → 0 < d.size → d.size < length d.payload → Contains (cut d.size d.payload) f →
    reaches d.destination b.hardware_addr ≡ true → may_be_source b.ip_addrs d.header.src_addr ≡ true →
    (IsTrue (is_rx b.capabilities.checksum.ipv4) → IsTrue (is_tx a.capabilities.checksum.ipv4)) →
    Brings b (piece_frame a (piece_of d f)) (key_of_cut d) f
