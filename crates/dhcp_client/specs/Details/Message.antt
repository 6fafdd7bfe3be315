-- DHCP messages (RFC 2131 2), with an Ethernet address as the client's.
use Rattle.std.specs.Prelude.{◌≡◌, ℕ, ◌<◌, ◌≤◌, ◌^◌, ◌==◌, ◌&&◌, ◌||◌, Bool, not, nat_le}
use Rattle.std.specs.Prelude.{IsTrue, Option, List, [], ◌∷◌, ◌++◌, length, drop, replicate, slice_index, slice_range, if◌then◌else◌}
use Rattle.std.specs.Int.{w16, w32, to_be_bytes}
use Rattle.ip_wire.specs.Octets.{u16_at, u32_at}
use Rattle.ip_address.specs.declared.ipv4.Ipv4Address.{Ipv4Address}
use Rattle.dhcp_client.specs.declared.message.DhcpMessageType.{DhcpMessageType}
use Rattle.dhcp_client.specs.declared.message.DhcpMessageType.TheVariants.{Discover, Offer, Request, Decline, Ack, Nak, Release, Inform}
use Rattle.dhcp_client.specs.declared.message.DhcpRepr.{DhcpRepr}
use Rattle.dhcp_client.specs.declared.options.DhcpOptions.{DhcpOptions}
use Rattle.dhcp_client.specs.Options.{options_after, are_whole, joined, in_room, octet_in, address_in, seconds_in, size_in, identifier_in}
use Rattle.dhcp_client.specs.Options.{hardware_address_at, listed_at, list_in, option_text, address_data, seconds_data, size_data}
use Rattle.dhcp_client.specs.Options.{identifier_data, list_data, AreOptions}
use Rattle.dhcp_client.specs.Details.Routes.{are_routes, default_in}

-- the types by their numbers (RFC 2132 9.6)
abbrev pub number_of : DhcpMessageType → ℕ
number_of Discover = 1
number_of Offer = 2
number_of Request = 3
number_of Decline = 4
number_of Ack = 5
number_of Nak = 6
number_of Release = 7
number_of Inform = 8

abbrev pub IsTypeNumber : ℕ → Type 0
IsTypeNumber n = (1 ≤ n) × (n ≤ 8)

abbrev pub type_of : ℕ → DhcpMessageType
type_of n = if n == 1 then Discover else if n == 2 then Offer else if n == 3 then Request else if n == 4 then Decline else
    if n == 5 then Ack else if n == 6 then Nak else if n == 7 then Release else Inform

-- the operation: servers send OFFER, ACK and NAK, as BOOTREPLY; clients send the others, as BOOTREQUEST
abbrev pub operation_of : ℕ → ℕ
operation_of n = if (n == 2) || (n == 5) || (n == 6) then 2 else 1

-- Reading.

-- hardware type 1 with addresses of 6 octets, and 99, 130, 83, 99 before the options
abbrev pub is_for_ethernet : List ℕ → Bool
is_for_ethernet message = (slice_index message 1 == 1) && (slice_index message 2 == 6) && (u32_at message 236 == 0x6382_5363)

-- the fields that may have options: that for them, that of the boot file's name, that of the server's name
abbrev pub options_field : List ℕ → List ℕ
options_field message = drop 240 message

abbrev pub file_field : List ℕ → List ℕ
file_field message = slice_range message 108 236

abbrev pub name_field : List ℕ → List ℕ
name_field message = slice_range message 44 108

-- option 52 says which of the latter two have some: 1, 2, or 3 for both (RFC 2132 9.3)
abbrev pub overload_in : List ℕ → ℕ
overload_in message = octet_in (in_room (joined 52 (options_after 0 (options_field message))))

abbrev pub is_in_file : ℕ → Bool
is_in_file overload = (overload == 1) || (overload == 3)

abbrev pub is_in_name : ℕ → Bool
is_in_name overload = (overload == 2) || (overload == 3)

-- no option's length runs out of its field
abbrev pub has_whole_options : List ℕ → Bool
has_whole_options message =
    are_whole 0 (options_field message)
    && (not (is_in_file (overload_in message)) || are_whole 0 (file_field message))
    && (not (is_in_name (overload_in message)) || are_whole 0 (name_field message))

-- the data of a code in a field that may have options
abbrev pub joined_if : Bool → ℕ → List ℕ → List ℕ
joined_if has_options code field = if has_options then joined code (options_after 0 field) else []

-- the data of a code in a message, in the order of RFC 2131 4.1 and RFC 3396 5: options, file, sname
abbrev pub joined_in : ℕ → List ℕ → List ℕ
joined_in code message =
    joined code (options_after 0 (options_field message))
    ++ joined_if (is_in_file (overload_in message)) code (file_field message)
    ++ joined_if (is_in_name (overload_in message)) code (name_field message)

abbrev pub data_in : ℕ → List ℕ → List ℕ
data_in code message = in_room (joined_in code message)

-- the number of the message's type (RFC 2132 9.6)
abbrev pub type_number : List ℕ → ℕ
type_number message = octet_in (data_in 53 message)

pub record IsDhcp (message : List ℕ) : Type 0 where
  pub whole : 240 ≤ length message
  pub ethernet : IsTrue (is_for_ethernet message)
  pub options : IsTrue (has_whole_options message)
  pub type : IsTypeNumber (type_number message)
  pub operation : slice_index message 0 ≡ operation_of (type_number message)

-- where routes are told the router is that of the default route among them, else the first one of the list (RFC 3442)
abbrev pub router_in : List ℕ → Option Ipv4Address
router_in message = if are_routes (data_in 121 message) then default_in (data_in 121 message) else listed_at (data_in 3 message) 0

abbrev pub options_in : List ℕ → DhcpOptions
options_in message = record {
  subnet_mask = address_in (data_in 1 message);
  router = router_in message;
  dns_servers = list_in (data_in 6 message);
  requested_ip = address_in (data_in 50 message);
  lease_duration = seconds_in (data_in 51 message);
  server_identifier = address_in (data_in 54 message);
  max_size = size_in (data_in 57 message);
  mtu = size_in (data_in 26 message);
  renew_duration = seconds_in (data_in 58 message);
  rebind_duration = seconds_in (data_in 59 message);
  client_identifier = identifier_in (data_in 61 message);
}

abbrev pub ip_at : List ℕ → ℕ → Ipv4Address
ip_at message at = record { bits = u32_at message at }

-- the values of a message of a type; the broadcast flag is the first bit of flags
abbrev pub values_in : List ℕ → DhcpMessageType → DhcpRepr
values_in message type = record {
  message_type = type;
  transaction_id = u32_at message 4;
  secs = u16_at message 8;
  broadcast = nat_le 128 (slice_index message 10);
  client_ip = ip_at message 12;
  your_ip = ip_at message 16;
  server_ip = ip_at message 20;
  relay_agent_ip = ip_at message 24;
  client_hardware_address = hardware_address_at message 28;
  options = options_in message;
}

abbrev pub dhcp_in : List ℕ → DhcpRepr
dhcp_in message = values_in message (type_of (type_number message))

-- Writing.

abbrev pub flags_of : Bool → ℕ
flags_of broadcast = if broadcast then 128 else 0

-- op, htype, hlen, hops, xid, secs, flags, ciaddr, yiaddr, siaddr, giaddr
unfoldable pub fields_text : DhcpRepr → List ℕ
fields_text r =
    operation_of (number_of r.message_type) ∷ 1 ∷ 6 ∷ 0 ∷ (to_be_bytes w32 r.transaction_id
    ++ to_be_bytes w16 r.secs ++ flags_of r.broadcast ∷ 0 ∷ (to_be_bytes w32 r.client_ip.bits
    ++ to_be_bytes w32 r.your_ip.bits ++ to_be_bytes w32 r.server_ip.bits ++ to_be_bytes w32 r.relay_agent_ip.bits))

-- what stands before the options: ten octets fill up chaddr, then there are 64 of sname, and 128 of file
abbrev pub header_text : DhcpRepr → List ℕ
header_text r = fields_text r ++ r.client_hardware_address.0 ++ replicate 202 0 ++ 99 ∷ 130 ∷ 83 ∷ 99 ∷ []

-- the options, up to the one that ends them
abbrev pub options_text : DhcpRepr → List ℕ → List ℕ → List ℕ
options_text r parameters host_name =
    option_text 53 (number_of r.message_type ∷ [])
    ++ (option_text 61 (identifier_data r.options.client_identifier)
    ++ (option_text 50 (address_data r.options.requested_ip)
    ++ (option_text 54 (address_data r.options.server_identifier)
    ++ (option_text 57 (size_data r.options.max_size)
    ++ (option_text 51 (seconds_data r.options.lease_duration)
    ++ (option_text 58 (seconds_data r.options.renew_duration)
    ++ (option_text 59 (seconds_data r.options.rebind_duration)
    ++ (option_text 1 (address_data r.options.subnet_mask)
    ++ (option_text 3 (address_data r.options.router)
    ++ (option_text 6 (list_data r.options.dns_servers)
    ++ (option_text 26 (size_data r.options.mtu)
    ++ (option_text 12 host_name
    ++ (option_text 55 parameters
    ++ 255 ∷ [])))))))))))))

-- with the list of parameters that it asks for, and the name of a host (RFC 2132 3.14)
abbrev pub text : DhcpRepr → List ℕ → List ℕ → List ℕ
text r parameters host_name = header_text r ++ options_text r parameters host_name

-- values that a message can have
pub record IsMessage (r : DhcpRepr) : Type 0 where
  pub transaction_id : r.transaction_id < 2 ^ 32
  pub secs : r.secs < 2 ^ 16
  pub client_ip : r.client_ip.bits < 2 ^ 32
  pub your_ip : r.your_ip.bits < 2 ^ 32
  pub server_ip : r.server_ip.bits < 2 ^ 32
  pub relay_agent_ip : r.relay_agent_ip.bits < 2 ^ 32
  pub hardware_address : length r.client_hardware_address.0 ≡ 6
  pub options : AreOptions r.options

-- a text is parsed back as its values, its list of parameters (RFC 2132 9.8) and the host's name
abbrev pub ReadAgain : Type 0
ReadAgain = (r : DhcpRepr) (parameters host_name : List ℕ) → IsMessage r
    → IsDhcp (text r parameters host_name) × (dhcp_in (text r parameters host_name) ≡ r)
    × (joined_in 55 (text r parameters host_name) ≡ parameters) × (joined_in 12 (text r parameters host_name) ≡ host_name)
