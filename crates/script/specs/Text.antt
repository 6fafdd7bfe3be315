-- The meaning of the words of a line.
use Rattle.std.specs.Prelude.{◌≡◌, ◌≤◌, ℕ, ℤ, pos, ◌^◌, ◌==◌, ◌&&◌, nat_lt, nat_le, Bool, if◌then◌else◌, List}
use Rattle.std.specs.Prelude.{codes, length, map, take, slice_index, Option, Some, None, Result, Ok, Err}
use Rattle.std.specs.List.{list_all, slice_split, before_first, after_first}
use Rattle.std.specs.Option.{option_map, option_and_then}
use Rattle.std.specs.Char.{is_ascii_digit}
use Rattle.std.specs.Str.Parse.{digits_value}
use Rattle.hex.specs.declared.error.FromHexError.{FromHexError}
use Rattle.hex.specs.Hex.{decode_of, decode_sized}
use Rattle.ip_address.specs.declared.ip.IpAddress.{IpAddress}
use Rattle.ip_address.specs.declared.ip.IpAddress.TheVariants as ip
use Rattle.ip_address.specs.declared.ipv4.Ipv4Address.{Ipv4Address}
use Rattle.ip_address.specs.declared.ipv6.Ipv6Address.{Ipv6Address}
use Rattle.ip_address.specs.declared.cidr.IpCidr.{IpCidr}
use Rattle.ip_address.specs.Ipv4.{address_of}
use Rattle.ip_wire.specs.Ipv6Packet.{address_at}
use Rattle.ip_address.specs.Cidr as cidr
use Rattle.script.specs.declared.line.Line.{Line}
use Rattle.script.specs.declared.line.Line.TheVariants.{Rx, Udp, Asks}
use Rattle.script.specs.declared.line.Call.{Call}
use Rattle.script.specs.declared.line.Call.TheVariants.{Addr, Gw, Join, Leave, Ingress, Egress, Poll, At}

abbrev pub is_space : ℕ → Bool
is_space octet = octet == 32

abbrev pub is_slash : ℕ → Bool
is_slash octet = octet == 47

-- one or more decimal digits of a number that is at most `most`
abbrev pub is_number_up_to : ℕ → List ℕ → Bool
is_number_up_to most digits =
    nat_lt 0 (length digits) && (list_all is_ascii_digit digits && nat_le (digits_value 10 digits) most)

-- the number that they spell
abbrev pub number_up_to : ℕ → List ℕ → Option ℕ
number_up_to most digits = if is_number_up_to most digits then Some (digits_value 10 digits) else None

-- a port other than 0
abbrev pub port_in : List ℕ → Option ℕ
port_in digits = if nat_lt 0 (digits_value 10 digits) then number_up_to 65535 digits else None

-- a moment: at most 2 ^ 62 microseconds
abbrev pub instant_of : Option ℕ → Option ℤ
instant_of (Some micros) = Some (pos micros)
instant_of None = None

abbrev pub moment_in : List ℕ → Option ℤ
moment_in digits = instant_of (number_up_to (2 ^ 62) digits)

-- a budget: at most 2 ^ 32 - 1 calls
abbrev pub budget_in : List ℕ → Option ℕ
budget_in digits = number_up_to 4294967295 digits

-- the address of four octets
abbrev pub of_four : Result (List ℕ) FromHexError → Option Ipv4Address
of_four (Ok octets) =
    Some (address_of (slice_index octets 0) (slice_index octets 1) (slice_index octets 2) (slice_index octets 3))
of_four (Err e) = None

-- the address of sixteen octets
abbrev pub of_sixteen : Result (List ℕ) FromHexError → Option Ipv6Address
of_sixteen (Ok octets) = Some (address_at octets 0)
of_sixteen (Err e) = None

-- the address that eight hex digits spell
abbrev pub ipv4_in : List ℕ → Option Ipv4Address
ipv4_in digits = of_four (decode_sized digits 4)

-- the address that thirty-two hex digits spell
abbrev pub ipv6_in : List ℕ → Option Ipv6Address
ipv6_in digits = of_sixteen (decode_sized digits 16)

-- the address that hex digits spell: eight of IPv4, or thirty-two of IPv6
abbrev pub address_in : List ℕ → Option IpAddress
address_in digits = if length digits == 8 then option_map ip.Ipv4 (ipv4_in digits)
    else option_map ip.Ipv6 (ipv6_in digits)

-- the maximum prefix length of an address's family
abbrev pub address_len : IpAddress → ℕ
address_len (ip.Ipv4 address) = 32
address_len (ip.Ipv6 address) = 128

-- an address with the prefix length that these digits spell
abbrev pub with_len : List ℕ → IpAddress → Option (IpAddress × ℕ)
with_len digits address = option_map (λ len. (address, len)) (number_up_to (address_len address) digits)

-- the address and the prefix length that are separated by a slash
abbrev pub network_in : List ℕ → Option (IpAddress × ℕ)
network_in word = option_and_then (with_len (after_first is_slash word)) (address_in (before_first is_slash word))

-- the address and the prefix length of a network
abbrev pub parts_of : IpCidr → Option (IpAddress × ℕ)
parts_of network = Some (cidr.address_of network, cidr.prefix_len_of network)

-- the words, separated by one space, spell these networks in this order
abbrev pub SpellNetworks : List ℕ → List IpCidr → Type 0
SpellNetworks words networks = map network_in (slice_split is_space words) ≡ map parts_of networks

-- they spell no networks, or more than four
abbrev pub SpellNoNetworks : List ℕ → Type 0
SpellNoNetworks words = (networks : List IpCidr) → length networks ≤ 4 → SpellNetworks words networks → ⊥

-- a moment and a budget, separated by one space
abbrev pub SpellPoll : List ℕ → ℤ → ℕ → Type 0
SpellPoll words t budget = (moment_in (before_first is_space words) ≡ Some t)
    × (budget_in (after_first is_space words) ≡ Some budget)

abbrev pub SpellNoPoll : List ℕ → Type 0
SpellNoPoll words = (t : ℤ) (budget : ℕ) → SpellPoll words t budget → ⊥

-- the word and its values mean this call
abbrev pub SayCall : List ℕ → List ℕ → Call → Type 0
SayCall word values (Addr networks) = (word ≡ codes "addr") × SpellNetworks values networks.items
SayCall word values (Gw router) = (word ≡ codes "gw") × (address_in values ≡ Some router)
SayCall word values (Join group) = (word ≡ codes "join") × (address_in values ≡ Some group)
SayCall word values (Leave group) = (word ≡ codes "leave") × (address_in values ≡ Some group)
SayCall word values Ingress = word ≡ codes "ingress"
SayCall word values Egress = word ≡ codes "egress"
SayCall word values (Poll t budget) = (word ≡ codes "poll") × SpellPoll values t budget
SayCall word values (At t) = (word ≡ codes "at") × (moment_in values ≡ Some t)

-- the word and its values, with the frame in the front of the buffer, mean this line
abbrev pub Say : List ℕ → List ℕ → List ℕ → Line → Type 0
Say word values buffer (Rx len) = (word ≡ codes "rx") × (decode_of values ≡ Ok (take len buffer))
Say word values buffer (Udp port) = (word ≡ codes "udp") × (port_in values ≡ Some port)
Say word values buffer (Asks call) = SayCall word values call
