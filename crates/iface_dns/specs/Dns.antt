-- A client of DNS for a host: how it is made, and how its sockets go.
use Rattle.std.specs.Prelude.{ℕ, zero, suc, ℤ, ◌≡◌, ◌+◌, ◌/◌, ◌^◌, ◌==◌, ◌&&◌, not, nat_lt, pos, min, Bool, true, false, refl, List, length, slice_set, slice_index_or, replicate, Option, Some, None, if◌then◌else◌}
use Rattle.std.specs.List.{list_all}
use Rattle.std.specs.Option.{option_map}
use Rattle.ip_address.specs.Ip.{is_unicast}
use Rattle.ip_address.specs.Ipv4.{address_of}
use Rattle.ip_address.specs.declared.ip.IpAddress.{IpAddress}
use Rattle.ip_address.specs.declared.ip.IpAddress.TheVariants.{Ipv4, Ipv6}
use Rattle.ip_address.specs.declared.ipv4.Ipv4Address.{Ipv4Address}
use Rattle.tcp_host.specs.declared.sip_hash.SipKey.{SipKey}
use Rattle.dns_client.specs.DnsResolver.Places.{Queries}
use Rattle.dns_client.specs.DnsResolver.Resolver as resolver
use Rattle.dns_client.specs.DnsResolver.Resolver.{with_place}
use Rattle.iface_host.specs.Refusals.{close_refusal}
use Rattle.iface_host.specs.Sockets as sockets
use Rattle.iface_host.specs.declared.host.IfaceHost.{IfaceHost}
use Rattle.iface_host.specs.declared.opening.Rooms.{Rooms}
use Rattle.iface_host.specs.declared.refusal.Refusal.{Refusal}
use Rattle.iface_host.specs.declared.refusal.Refusal.TheVariants.{NotUnicast}
use Rattle.iface_dns.specs.declared.dns.Dns.{Dns}

-- at first there are no queries, and no sockets
abbrev pub new_dns : List IpAddress → ℕ → SipKey → Dns
new_dns servers queries key = record { resolver = resolver.first servers queries key; sockets = replicate queries None }

abbrev pub with_resolver : Queries → Dns → Dns
with_resolver r d = record d { resolver = r }

abbrev pub with_servers : List IpAddress → Dns → Dns
with_servers servers d = with_resolver (resolver.with_servers servers d.resolver) d

-- what a query's socket holds: four answers that came, or two of the greatest length, and one question
abbrev pub rooms : Rooms
rooms = record { received = record { packets = 4; octets = 1024 }; to_send = record { packets = 1; octets = 271 } }

-- an address that another host can have: not of 0/8, 127/8 (loopback), 224/4 (multicast) or 240/4 (reserved) (RFC 1122 3.2.1.3); nor ::,
-- ::1 or a group's (RFC 4291 2.5.2, 2.5.3, 2.7)
abbrev pub first_octet : Ipv4Address → ℕ
first_octet a = a.bits / 2 ^ 24

abbrev pub is_server : IpAddress → Bool
is_server (Ipv4 a) = nat_lt 0 (first_octet a) && nat_lt (first_octet a) 224 && not (first_octet a == 127)
is_server (Ipv6 a) = is_unicast (Ipv6 a) && not (a.bits == 1)

-- each server's address is one that another host can have
abbrev pub servers_refusal : List IpAddress → Option Refusal
servers_refusal servers = if list_all is_server servers then None else Some NotUnicast

-- Examples, and what must not be.

pub a_server : is_server (Ipv4 (address_of 192 168 1 1)) ≡ true
a_server = refl

pub not_loopback : is_server (Ipv4 (address_of 127 0 0 53)) ≡ false
not_loopback = refl

pub not_reserved : is_server (Ipv4 (address_of 240 0 0 1)) ≡ false
not_reserved = refl

pub not_loopback_of_ipv6 : is_server (Ipv6 (record { bits = 1 })) ≡ false
not_loopback_of_ipv6 = refl

-- the socket of a place, if it has one
abbrev pub socket_at : Dns → ℕ → Option ℕ
socket_at d place = slice_index_or d.sockets place None

abbrev pub with_socket : ℕ → Option ℕ → Dns → Dns
with_socket place number d = record d { sockets = slice_set d.sockets place number }

-- when something is due, up to the last moment
abbrev pub poll_at : Dns → Option ℤ
poll_at d = option_map (λ at. pos (min at 0x4000_0000_0000_0000)) (resolver.poll_at d.resolver)

-- what a call of the host does unless it is refused, when it leaves the host as it is
abbrev pub Unless : Option Refusal → (IfaceHost → IfaceHost → Type 0) → IfaceHost → IfaceHost → Type 0
Unless None Step old new = Step old new
Unless (Some refusal) Step old new = new ≡ old

-- a socket is closed, if it is open
abbrev pub ClosesOne : ℕ → IfaceHost → IfaceHost → Type 0
ClosesOne n old new = Unless (close_refusal old n) (sockets.Closes n) old new

-- that of a place is closed, if it has one
abbrev pub ClosesIf : Option ℕ → ℕ → Dns → Dns → IfaceHost → IfaceHost → Type 0
ClosesIf None place d d' old new = (d' ≡ d) × (new ≡ old)
ClosesIf (Some n) place d d' old new = (d' ≡ with_socket place None d) × ClosesOne n old new

abbrev pub ClosesAt : ℕ → Dns → Dns → IfaceHost → IfaceHost → Type 0
ClosesAt place d = ClosesIf (socket_at d place) place d

-- those of so many places from one on, one after another
pub data ClosesFrom : ℕ → ℕ → Dns → Dns → IfaceHost → IfaceHost → Type 0 where
  NoMore : {place : ℕ} {d : Dns} {host : IfaceHost} → ClosesFrom zero place d d host host
  OneMore : {k place : ℕ} {d between d' : Dns} {old mid new : IfaceHost} → ClosesAt place d between old mid →
      ClosesFrom k (place + 1) between d' mid new → ClosesFrom (suc k) place d d' old new

abbrev pub Closes : Dns → Dns → IfaceHost → IfaceHost → Type 0
Closes d = ClosesFrom (length d.sockets) 0 d

-- a query is cancelled, and its socket closed
abbrev pub Cancels : ℕ → Dns → Dns → IfaceHost → IfaceHost → Type 0
Cancels place d = ClosesAt place (with_resolver (with_place place None d.resolver) d)
