-- The options of DHCP (RFC 2131 3, RFC 2132). An option is a code, a length, and as many octets of data; of codes 0 and 255
-- there is the code alone.
use Rattle.std.specs.Prelude.{◌≡◌, ℕ, zero, suc, ◌+◌, ◌-◌, ◌<◌, ◌^◌, ◌%◌, ◌==◌, ◌&&◌, Bool, true, not, nat_le}
use Rattle.std.specs.Prelude.{Option, Some, None, List, [], ◌∷◌, ◌++◌, length, take, drop, get_or, slice_index, slice_range, if◌then◌else◌}
use Rattle.std.specs.Int.{w16, w32, to_be_bytes}
use Rattle.ip_wire.specs.Octets.{u16_at, u32_at}
use Rattle.ip_address.specs.declared.ipv4.Ipv4Address.{Ipv4Address}
use Rattle.ip_address.specs.declared.ethernet_address.EthernetAddress.{EthernetAddress}
use Rattle.dhcp_client.specs.declared.options.DhcpOptions.{DhcpOptions}

-- Reading: options stand one after another, up to one with code 255 or to the last octet.

-- the length of the option that the octets begin with: padding, code 0, is one octet
abbrev pub option_len : List ℕ → ℕ
option_len octets = if slice_index octets 0 == 0 then 1 else 2 + slice_index octets 1

-- the octets begin with an option: the options don't end here, and this one isn't cut off
-- (where an octet is missing it counts as 0)
abbrev pub begins_option : List ℕ → Bool
begins_option octets = not (slice_index octets 0 == 255) && nat_le (option_len octets) (length octets)

-- the options in what follows the first `skip` octets, one after another, up to the first place where none begins
unfoldable pub options_after : ℕ → List ℕ → List (List ℕ)
options_after skip [] = []
options_after (suc skip) (x ∷ xs) = options_after skip xs
options_after zero (x ∷ xs) = if begins_option (x ∷ xs)
    then take (option_len (x ∷ xs)) (x ∷ xs) ∷ options_after (option_len (x ∷ xs) - 1) xs else []

-- that place is the last octet's, or the options end there: no option's length runs out
unfoldable pub are_whole : ℕ → List ℕ → Bool
are_whole skip [] = true
are_whole (suc skip) (x ∷ xs) = are_whole skip xs
are_whole zero (x ∷ xs) = if begins_option (x ∷ xs) then are_whole (option_len (x ∷ xs) - 1) xs else x == 255

-- the data of an option, if it has this code
abbrev pub data_if : ℕ → List ℕ → List ℕ
data_if code option = if slice_index option 0 == code then drop 2 option else []

-- the data of all options of a code, put together in their order (RFC 3396 7): of code 6, where 5 octets 10 0 0 1 10 and 3 octets
-- 0 0 2 stand, with an option of another code in between, 10 0 0 1 10 0 0 2, and not the last three alone
unfoldable pub joined : ℕ → List (List ℕ) → List ℕ
joined code [] = []
joined code (o ∷ os) = data_if code o ++ joined code os

-- there is room for 256 octets: of more the first ones count
abbrev pub in_room : List ℕ → List ℕ
in_room d = take 256 d

-- Values: data of another length count as none.

abbrev pub address_in : List ℕ → Option Ipv4Address
address_in d = if length d == 4 then Some (record { bits = u32_at d 0 }) else None

abbrev pub seconds_in : List ℕ → Option ℕ
seconds_in d = if length d == 4 then Some (u32_at d 0) else None

abbrev pub size_in : List ℕ → Option ℕ
size_in d = if length d == 2 then Some (u16_at d 0) else None

abbrev pub octet_in : List ℕ → ℕ
octet_in d = if length d == 1 then slice_index d 0 else 0

abbrev pub hardware_address_at : List ℕ → ℕ → EthernetAddress
hardware_address_at octets at = record { 0 = slice_range octets at (at + 6) }

-- hardware type 1 and an Ethernet address (RFC 2132 9.14)
abbrev pub identifier_in : List ℕ → Option EthernetAddress
identifier_in d = if (length d == 7) && (slice_index d 0 == 1) then Some (hardware_address_at d 1) else None

-- one of a list of addresses, which has four octets for each (RFC 2132 3.5, 3.8)
abbrev pub listed_at : List ℕ → ℕ → Option Ipv4Address
listed_at d at = if (length d % 4 == 0) && nat_le (at + 4) (length d) then Some (record { bits = u32_at d at }) else None

-- the first three of them
abbrev pub list_in : List ℕ → List (Option Ipv4Address)
list_in d = listed_at d 0 ∷ listed_at d 4 ∷ listed_at d 8 ∷ []

abbrev pub no_list : List (Option Ipv4Address)
no_list = None ∷ None ∷ None ∷ []

abbrev pub no_options : DhcpOptions
no_options = record {
  subnet_mask = None;
  router = None;
  dns_servers = no_list;
  requested_ip = None;
  lease_duration = None;
  server_identifier = None;
  max_size = None;
  mtu = None;
  renew_duration = None;
  rebind_duration = None;
  client_identifier = None;
}

-- Writing: the data of a value, none where there is no value; an option without data isn't written.

unfoldable pub address_data : Option Ipv4Address → List ℕ
address_data None = []
address_data (Some a) = to_be_bytes w32 a.bits

unfoldable pub seconds_data : Option ℕ → List ℕ
seconds_data None = []
seconds_data (Some n) = to_be_bytes w32 n

unfoldable pub size_data : Option ℕ → List ℕ
size_data None = []
size_data (Some n) = to_be_bytes w16 n

unfoldable pub identifier_data : Option EthernetAddress → List ℕ
identifier_data None = []
identifier_data (Some a) = 1 ∷ a.0

abbrev pub list_data : List (Option Ipv4Address) → List ℕ
list_data places = address_data (get_or places 0 None) ++ address_data (get_or places 1 None) ++ address_data (get_or places 2 None)

unfoldable pub option_text : ℕ → List ℕ → List ℕ
option_text code [] = []
option_text code (x ∷ xs) = code ∷ length (x ∷ xs) ∷ x ∷ xs

-- Values that options can have.

abbrev pub IsAddress : Option Ipv4Address → Type 0
IsAddress None = Unit
IsAddress (Some a) = a.bits < 2 ^ 32

abbrev pub IsBelow : ℕ → Option ℕ → Type 0
IsBelow bound None = Unit
IsBelow bound (Some n) = n < bound

abbrev pub IsIdentifier : Option EthernetAddress → Type 0
IsIdentifier None = Unit
IsIdentifier (Some a) = length a.0 ≡ 6

-- three places, and after one without an address there is none
unfoldable pub IsList : List (Option Ipv4Address) → Type 0
IsList (None ∷ None ∷ None ∷ []) = Unit
IsList (Some a ∷ None ∷ None ∷ []) = a.bits < 2 ^ 32
IsList (Some a ∷ Some b ∷ None ∷ []) = (a.bits < 2 ^ 32) × (b.bits < 2 ^ 32)
IsList (Some a ∷ Some b ∷ Some c ∷ []) = (a.bits < 2 ^ 32) × (b.bits < 2 ^ 32) × (c.bits < 2 ^ 32)
IsList places = ⊥

pub record AreOptions (o : DhcpOptions) : Type 0 where
  pub subnet_mask : IsAddress o.subnet_mask
  pub router : IsAddress o.router
  pub dns_servers : IsList o.dns_servers
  pub requested_ip : IsAddress o.requested_ip
  pub lease_duration : IsBelow (2 ^ 32) o.lease_duration
  pub server_identifier : IsAddress o.server_identifier
  pub max_size : IsBelow (2 ^ 16) o.max_size
  pub mtu : IsBelow (2 ^ 16) o.mtu
  pub renew_duration : IsBelow (2 ^ 32) o.renew_duration
  pub rebind_duration : IsBelow (2 ^ 32) o.rebind_duration
  pub client_identifier : IsIdentifier o.client_identifier
