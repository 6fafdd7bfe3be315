-- Neighbour solicitation and advertisement (RFC 4861 4.3, 4.4): type, code, checksum, 4 octets, the target, options.
use Rattle.std.specs.Prelude.{⊤, ◌≡◌, ℕ, ◌≤◌, ◌<◌, ◌^◌, ◌⊎◌, ◌==◌, List, [], length}
use Rattle.std.specs.Prelude.{drop, slice_index, Option, Some, None, if◌then◌else◌}
use Rattle.std.specs.Int.RustNames.{bit_and}
use Rattle.ip_address.specs.declared.ethernet_address.EthernetAddress.{EthernetAddress}
use Rattle.ip_address.specs.declared.ipv6.Ipv6Address.{Ipv6Address}
use Rattle.ip_wire.specs.Ipv6Packet.{address_at}
use Rattle.control_wire.specs.NdiscOption.{AreOptions, lladdr_in, lladdr_text}
use Rattle.control_wire.specs.declared.ndisc.NdiscNeighborFlags.{NdiscNeighborFlags}
use Rattle.control_wire.specs.declared.ndisc.NdiscRepr.{NdiscRepr}
use Rattle.control_wire.specs.declared.ndisc.NdiscRepr.TheVariants.{NeighborSolicit, NeighborAdvert}

-- the bits that are flags: 0x80 ROUTER, 0x40 SOLICITED, 0x20 OVERRIDE; the others are reserved
abbrev pub flags_of : ℕ → ℕ
flags_of octet = bit_and octet 0xe0

abbrev pub flags_in : List ℕ → NdiscNeighborFlags
flags_in octets = record { 0 = flags_of (slice_index octets 4) }

-- the octets are a neighbour message: a solicitation (type 135) or an advertisement (136) with code 0
pub record IsNdisc (octets : List ℕ) : Type 0 where
  pub whole : 24 ≤ length octets
  pub type : (slice_index octets 0 ≡ 135) ⊎ (slice_index octets 0 ≡ 136)
  pub code : slice_index octets 1 ≡ 0
  pub options : AreOptions (drop 24 octets)

-- its values: a solicitation carries the source's link-layer address (type 1), an advertisement the target's (type 2)
abbrev pub ndisc_in : List ℕ → NdiscRepr
ndisc_in octets =
    if slice_index octets 0 == 135 then NeighborSolicit (address_at octets 8) (lladdr_in 1 (drop 24 octets)) else
    NeighborAdvert (flags_in octets) (address_at octets 8) (lladdr_in 2 (drop 24 octets))

abbrev pub type_of : NdiscRepr → ℕ
type_of (NeighborSolicit target lladdr) = 135
type_of (NeighborAdvert flags target lladdr) = 136

abbrev pub target_of : NdiscRepr → Ipv6Address
target_of (NeighborSolicit target lladdr) = target
target_of (NeighborAdvert flags target lladdr) = target

-- the octet after the checksum: the flags of an advertisement
abbrev pub flag_octet : NdiscRepr → ℕ
flag_octet (NeighborSolicit target lladdr) = 0
flag_octet (NeighborAdvert flags target lladdr) = flags_of flags.0

-- the option with the link-layer address, if there is one
abbrev pub lladdr_option : ℕ → Option EthernetAddress → List ℕ
lladdr_option type None = []
lladdr_option type (Some address) = lladdr_text type address

abbrev pub option_text : NdiscRepr → List ℕ
option_text (NeighborSolicit target lladdr) = lladdr_option 1 lladdr
option_text (NeighborAdvert flags target lladdr) = lladdr_option 2 lladdr

-- an option's octets, or none
abbrev pub option_octets : Option (List ℕ) → List ℕ
option_octets None = []
option_octets (Some octets) = octets

-- the length of a message, in octets
abbrev pub lladdr_len : Option EthernetAddress → ℕ
lladdr_len None = 24
lladdr_len (Some address) = 32

abbrev pub message_len : NdiscRepr → ℕ
message_len (NeighborSolicit target lladdr) = lladdr_len lladdr
message_len (NeighborAdvert flags target lladdr) = lladdr_len lladdr

-- a link-layer address has six octets
abbrev pub IsLinkLayerAddr : Option EthernetAddress → Type 0
IsLinkLayerAddr None = ⊤
IsLinkLayerAddr (Some address) = length address.0 ≡ 6

-- values that a message can have
abbrev pub IsNeighbor : NdiscRepr → Type 0
IsNeighbor (NeighborSolicit target lladdr) = (target.bits < 2 ^ 128) × IsLinkLayerAddr lladdr
IsNeighbor (NeighborAdvert flags target lladdr) = (flags_of flags.0 ≡ flags.0)
    × (target.bits < 2 ^ 128) × IsLinkLayerAddr lladdr

-- the link-layer address of a message, if it has one
abbrev pub lladdr_of : NdiscRepr → Option EthernetAddress
lladdr_of (NeighborSolicit target lladdr) = lladdr
lladdr_of (NeighborAdvert flags target lladdr) = lladdr

-- the link-layer address of each message that is parsed has six octets
abbrev pub LinkLayerAddrsAreSix : Type 0
LinkLayerAddrsAreSix = (octets : List ℕ) → IsNdisc octets → IsLinkLayerAddr (lladdr_of (ndisc_in octets))
