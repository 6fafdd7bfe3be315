-- Router solicitation and advertisement (RFC 4861 4.1, 4.2): type, code, checksum, 4 octets, in an
-- advertisement 8 more, options.
use Rattle.std.specs.Prelude.{◌≡◌, ℕ, ◌+◌, ◌≤◌, ◌<◌, ◌^◌, ◌==◌, List, [], ◌∷◌, ◌++◌}
use Rattle.std.specs.Prelude.{length, drop, slice_index, Option, Some, None, if◌then◌else◌}
use Rattle.std.specs.Int.{w16, to_be_bytes}
use Rattle.std.specs.Int.RustNames.{bit_and}
use Rattle.ip_wire.specs.Octets.{u16_at}
use Rattle.ip_address.specs.declared.ethernet_address.EthernetAddress.{EthernetAddress}
use Rattle.control_wire.specs.NdiscOption.{AreOptions, lladdr_in}
use Rattle.control_wire.specs.Ndisc.{lladdr_option, IsLinkLayerAddr}
use Rattle.control_wire.specs.PrefixInformation.{prefix_in, prefix_option, prefix_len, IsPrefix}
use Rattle.control_wire.specs.declared.router.NdiscRouterFlags.{NdiscRouterFlags}
use Rattle.control_wire.specs.declared.router.RouterRepr.{RouterRepr}
use Rattle.control_wire.specs.declared.router.RouterRepr.TheVariants.{RouterSolicit, RouterAdvert}

-- the bits that are flags: 0x80 MANAGED, 0x40 OTHER; the others are reserved
abbrev pub flags_of : ℕ → ℕ
flags_of octet = bit_and octet 0xc0

abbrev pub flags_in : List ℕ → NdiscRouterFlags
flags_in octets = record { 0 = flags_of (slice_index octets 5) }

-- the octets are a router solicitation (type 133) with code 0
pub record IsSolicitation (octets : List ℕ) : Type 0 where
  pub whole : 8 ≤ length octets
  pub type : slice_index octets 0 ≡ 133
  pub code : slice_index octets 1 ≡ 0
  pub options : AreOptions (drop 8 octets)

-- the octets are a router advertisement (type 134) with code 0
pub record IsAdvertisement (octets : List ℕ) : Type 0 where
  pub whole : 16 ≤ length octets
  pub type : slice_index octets 0 ≡ 134
  pub code : slice_index octets 1 ≡ 0
  pub options : AreOptions (drop 16 octets)

pub data IsRouter (octets : List ℕ) : Type 0 where
  Solicitation : IsSolicitation octets → IsRouter octets
  Advertisement : IsAdvertisement octets → IsRouter octets

-- a solicitation's values: the link-layer address of its source (type 1)
abbrev pub solicit_in : List ℕ → RouterRepr
solicit_in octets = RouterSolicit (lladdr_in 1 (drop 8 octets))

-- an advertisement's values: hop limit, flags, lifetime in seconds, the link-layer address of its source, a prefix
-- (type 3). The two times of 4 octets each that follow the lifetime are ignored
abbrev pub advert_in : List ℕ → RouterRepr
advert_in octets =
    RouterAdvert (slice_index octets 4) (flags_in octets) (u16_at octets 6)
    (lladdr_in 1 (drop 16 octets)) (prefix_in (drop 16 octets))

abbrev pub router_in : List ℕ → RouterRepr
router_in octets = if slice_index octets 0 == 133 then solicit_in octets else advert_in octets

abbrev pub type_of : RouterRepr → ℕ
type_of (RouterSolicit lladdr) = 133
type_of (RouterAdvert hop_limit flags lifetime lladdr prefix) = 134

-- the four octets after the checksum: reserved, or hop limit, flags and lifetime
abbrev pub rest_of : RouterRepr → List ℕ
rest_of (RouterSolicit lladdr) = 0 ∷ 0 ∷ 0 ∷ 0 ∷ []
rest_of (RouterAdvert hop_limit flags lifetime lladdr prefix) = hop_limit ∷ flags_of flags.0 ∷ to_be_bytes w16 lifetime

-- reachable time and retransmission timer of an advertisement, which are unspecified
abbrev pub timers : List ℕ
timers = 0 ∷ 0 ∷ 0 ∷ 0 ∷ 0 ∷ 0 ∷ 0 ∷ 0 ∷ []

-- the octets after the first eight
abbrev pub body : RouterRepr → List ℕ
body (RouterSolicit lladdr) = lladdr_option 1 lladdr
body (RouterAdvert hop_limit flags lifetime lladdr prefix) = timers ++ lladdr_option 1 lladdr ++ prefix_option prefix

-- the length of the option with a link-layer address, 0 if there is none
abbrev pub lladdr_len : Option EthernetAddress → ℕ
lladdr_len None = 0
lladdr_len (Some address) = 8

-- the length of a message, in octets
abbrev pub message_len : RouterRepr → ℕ
message_len (RouterSolicit lladdr) = 8 + lladdr_len lladdr
message_len (RouterAdvert hop_limit flags lifetime lladdr prefix) = 16 + lladdr_len lladdr + prefix_len prefix

-- values that a message can have
abbrev pub IsMessage : RouterRepr → Type 0
IsMessage (RouterSolicit lladdr) = IsLinkLayerAddr lladdr
IsMessage (RouterAdvert hop_limit flags lifetime lladdr prefix) =
    (flags_of flags.0 ≡ flags.0) × (lifetime < 2 ^ 16) × IsLinkLayerAddr lladdr × IsPrefix prefix
