-- A client of DHCP for a host: how it is made, and how it goes.
use Rattle.std.specs.Prelude.{ℕ, ℤ, ◌≡◌, ◌&&◌, ◌/◌, ◌^◌, not, pos, min, nat_le, is_some, Bool, true, false, List, [], length, Option, Some, None, if◌then◌else◌}
use Rattle.std.specs.Option.{option_map}
use Rattle.ip_address.specs.declared.ethernet_address.EthernetAddress.{EthernetAddress}
use Rattle.sockets.specs.declared.endpoint.IpListenEndpoint.{IpListenEndpoint}
use Rattle.sockets.specs.declared.icmp.Endpoint.TheVariants.{Udp}
use Rattle.net_base.specs.Rand.{next}
use Rattle.dhcp_client.specs.Client as client
use Rattle.dhcp_client.specs.Probing.{due_at, is_tested}
use Rattle.dhcp_client.specs.declared.probing.Probing.{Probing}
use Rattle.dhcp_client.specs.Details.Message as message
use Rattle.dhcp_client.specs.Details.Routes.{routes_in}
use Rattle.dhcp_client.specs.declared.lease.DhcpLease.{DhcpLease}
use Rattle.dhcp_client.specs.declared.routes.DhcpRoute.{DhcpRoute}
use Rattle.iface_host.specs.Properties.{hardware_of}
use Rattle.iface_host.specs.Refusals.{close_refusal}
use Rattle.iface_host.specs.Sockets as sockets
use Rattle.iface_host.specs.Sockets.{Opens, icmp, udp}
use Rattle.iface_host.specs.Streams.{has_room_for}
use Rattle.iface_host.specs.TableRefusals.{first_reason, udp_opening_refusal}
use Rattle.iface_host.specs.declared.host.IfaceHost.{IfaceHost}
use Rattle.iface_host.specs.declared.opening.Rooms.{Rooms}
use Rattle.iface_host.specs.declared.refusal.Refusal.{Refusal}
use Rattle.iface_host.specs.declared.refusal.Refusal.TheVariants.{NotThere, TableFull, TooLong}
use Rattle.iface_dhcp.specs.declared.dhcp.Dhcp.{Dhcp}
use Rattle.iface_dhcp.specs.declared.dhcp.DhcpSettings.{DhcpSettings}

-- port 68, at any address (RFC 2131 4.1)
abbrev pub port : IpListenEndpoint
port = record { addr = None; port = 68 }

-- room for eight messages that came, or two of the greatest length, and for one that goes to a server
abbrev pub rooms : Rooms
rooms = record { received = record { packets = 8; octets = 2944 }; to_send = record { packets = 1; octets = 405 } }

-- what keeps the client's second place: a socket without room, which gets nothing and sends nothing. It is for errors about datagrams
-- from port 68
abbrev pub no_rooms : Rooms
no_rooms = record { received = record { packets = 0; octets = 0 }; to_send = record { packets = 0; octets = 0 } }

abbrev pub keeper : sockets.Socket
keeper = icmp (Udp 68) no_rooms

-- a place is kept; or there is none, or no memory
pub data Keeps (kept : Option ℕ) (old new : IfaceHost) : Type 0 where
  Kept : (n : ℕ) → kept ≡ Some n → Opens keeper n old new → Keeps kept old new
  NotKept : kept ≡ None → new ≡ old → Keeps kept old new

-- it was just made, for a host with a hardware address, which has its socket now, and keeps a second place
pub record IsNew (s : DhcpSettings) (dhcp : Dhcp) (old new : IfaceHost) : Type 0 where
  pub hardware_addr : EthernetAddress
  pub hardware : hardware_of old ≡ Some hardware_addr
  pub between : IfaceHost
  pub opened : Opens (udp port rooms) dhcp.socket old between
  pub kept : Keeps dhcp.kept between new
  pub client : dhcp.client ≡ client.new_client hardware_addr s.known
  pub broadcast : dhcp.broadcast ≡ None
  pub probes : dhcp.probes ≡ true
  pub probing : dhcp.probing ≡ None
  pub lost : dhcp.lost ≡ None
  pub random : dhcp.random ≡ s.random_seed
  pub parameters : dhcp.wishes.parameters.items ≡ []
  pub host_name : dhcp.wishes.host_name.items ≡ []
  pub ack : dhcp.ack ≡ []
  pub leased : dhcp.leased ≡ None
  pub routed : dhcp.routed.items ≡ []

-- the host's link has no hardware addresses, or there are no two places for sockets
abbrev pub refusal_for : Option EthernetAddress → IfaceHost → Option Refusal
refusal_for None host = Some NotThere
refusal_for (Some address) host =
    first_reason (udp_opening_refusal host port) (if has_room_for 2 host then None else Some TableFull)

abbrev pub new_refusal : IfaceHost → Option Refusal
new_refusal host = refusal_for (hardware_of host) host

-- what is asked for is set, and the host's name
pub record SetsParameters (codes : List ℕ) (d d' : Dhcp) : Type 0 where
  pub parameters : d'.wishes.parameters.items ≡ codes
  pub host_name : d'.wishes.host_name ≡ d.wishes.host_name
  pub others : d' ≡ record d { wishes = d'.wishes }

pub record SetsHostName (name : List ℕ) (d d' : Dhcp) : Type 0 where
  pub host_name : d'.wishes.host_name.items ≡ name
  pub parameters : d'.wishes.parameters ≡ d.wishes.parameters
  pub others : d' ≡ record d { wishes = d'.wishes }

-- there are more than so many
abbrev pub long_refusal : ℕ → List ℕ → Option Refusal
long_refusal most octets = if nat_le (length octets) most then None else Some TooLong

-- a random number, of those that are drawn one after another
abbrev pub word : Dhcp → ℕ
word d = next d.random / 2 ^ 32

-- an address is tested that isn't in use yet
abbrev pub is_in_test : Option Probing → Bool
is_in_test None = false
is_in_test (Some p) = not (is_tested p)

-- the lease that can be used: that of the client, once its address was tested
abbrev pub lease : Dhcp → Option DhcpLease
lease d = if is_in_test d.probing then None else client.lease d.client

-- the data of an option of the lease, which the message has that gave it
abbrev pub is_leased : Dhcp → Bool
is_leased d = is_some (lease d) && nat_le 240 (length d.ack)

abbrev pub option : ℕ → Dhcp → List ℕ
option code d = if is_leased d then message.data_in code d.ack else []

-- the routes that a host with the address of the lease can use (RFC 3442)
abbrev pub routes_of : Option DhcpLease → List ℕ → List DhcpRoute
routes_of None ack = []
routes_of (Some l) ack = if nat_le 240 (length ack) then routes_in l.address (message.data_in 121 ack) else []

abbrev pub routes : Dhcp → List DhcpRoute
routes d = routes_of (lease d) d.ack

-- the earlier one of two instants, as far as there are two
abbrev pub earlier : Option ℕ → Option ℕ → Option ℕ
earlier None b = b
earlier (Some a) None = Some a
earlier (Some a) (Some b) = Some (min a b)

abbrev pub request_due : Option Probing → Option ℕ
request_due None = None
request_due (Some p) = due_at p

-- when something is due, up to the last moment
abbrev pub poll_at : Dhcp → Option ℤ
poll_at dhcp = option_map (λ at. pos (min at 0x4000_0000_0000_0000)) (earlier (client.poll_at dhcp.client) (request_due dhcp.probing))

-- what a call of the host does unless it is refused, when it leaves the host as it is
abbrev pub Unless : Option Refusal → (IfaceHost → IfaceHost → Type 0) → IfaceHost → IfaceHost → Type 0
Unless None Step old new = Step old new
Unless (Some refusal) Step old new = new ≡ old

-- a socket is closed, if it is open
abbrev pub ClosesOne : ℕ → IfaceHost → IfaceHost → Type 0
ClosesOne n old new = Unless (close_refusal old n) (sockets.Closes n) old new

abbrev pub ClosesIf : Option ℕ → IfaceHost → IfaceHost → Type 0
ClosesIf None old new = new ≡ old
ClosesIf (Some n) old new = ClosesOne n old new

-- the address of the lease is watched no more
abbrev pub unwatched_if : Option Probing → IfaceHost → IfaceHost
unwatched_if None host = host
unwatched_if (Some p) host = record host { watched = None }

-- its sockets are closed: that of UDP, the raw one, and what keeps a place
pub record Closes (dhcp : Dhcp) (old new : IfaceHost) : Type 0 where
  pub between : IfaceHost
  pub udp : ClosesOne dhcp.socket old between
  pub after : IfaceHost
  pub raw : ClosesIf dhcp.broadcast between after
  pub closed : IfaceHost
  pub place : ClosesIf dhcp.kept after closed
  pub unwatched : new ≡ unwatched_if dhcp.probing closed
