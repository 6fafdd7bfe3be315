-- How many octets a received frame may bring: a host doesn't multiply what a stranger sends it.
use Rattle.std.specs.Prelude.{◌≡◌, ◌⊎◌, ℕ, ◌+◌, ◌<◌, ◌≤◌, ℤ, false, List, length, map}
use Rattle.std.specs.List.{sum}
use Rattle.net_base.specs.Device.{Event, sent_frames}
use Rattle.ip_address.specs.declared.hardware.HardwareAddress.{HardwareAddress}
use Rattle.ip_wire.specs.Ipv4Packet.{ipv4_in, is_fragment}
use Rattle.host_machine.specs.Context.Note.{Note}
use Rattle.host_machine.specs.Context.Host.{Host}
use Rattle.host_machine.specs.Context.Real.{IsReal}
use Rattle.host_laws.specs.Laws.Restraint.Readings.{CarriesV4, Receives}

-- a frame carries no fragment: if it carries an IPv4 packet, that is whole. A last fragment may bring a reply to all of
-- its datagram
abbrev pub CarriesNoFragment : HardwareAddress → List ℕ → Type 0
CarriesNoFragment own frame =
    (packet : List ℕ) → CarriesV4 own frame packet → is_fragment (ipv4_in packet).1 ≡ false

-- So many octets are few for a frame: as many as it has, and 48. An error of ICMPv6 has a new header of 40 octets, and 8
-- of its own, before what it quotes. One of less than 38 octets, as no Ethernet carries, may bring the 86 of a neighbour
-- solicitation, where the gateway of an IPv4 network has an IPv6 address
abbrev pub AreFewFor : List ℕ → ℕ → Type 0
AreFewFor frame octets = (octets ≤ length frame + 48) ⊎ ((length frame < 38) × (octets ≤ 86))

-- all frames that are sent for one that carries no fragment have so few octets
abbrev pub RepliesShortly : List ℕ → Host → List Event → Type 0
RepliesShortly frame old told = IsReal old → CarriesNoFragment old.hardware_addr frame →
    AreFewFor frame (sum (map length (sent_frames told)))

abbrev pub RepliesAreShort : Type 0
RepliesAreShort =
    (t : ℤ) (frame : List ℕ) (old new : Host) (told : List Event) (notes : List Note) →
    Receives t frame old told notes new → RepliesShortly frame old told
