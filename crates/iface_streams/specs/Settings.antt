-- How connections are made: what of the settings can't be, and what follows from them.
use Rattle.std.specs.Prelude.{ℕ, ◌-◌, ◌/◌, ◌==◌, ◌&&◌, ◌||◌, not, nat_le, min, Bool, true, false, List}
use Rattle.std.specs.List.{list_any}
use Rattle.std.specs.Int.Count.{count_leading_zeros}
use Rattle.iface_host.specs.declared.opening.Rooms.{Rooms}
use Rattle.tcp_host.specs.declared.config.Config.{Config}
use Rattle.iface_streams.specs.declared.settings.StreamSettings.{StreamSettings}

-- a secret has been set: not all of its octets are 0
abbrev pub has_secret : List ℕ → Bool
has_secret key = list_any (λ (octet : ℕ). not (octet == 0)) key

-- there are from 1 to 2^30 connections, with at most as many octets each way, over IPv4 or IPv6 or both; and both secrets have been set
abbrev pub is_proper : StreamSettings → Bool
is_proper s =
    nat_le 1 s.places && nat_le s.places 1073741824 && nat_le s.send_room 1073741824 && nat_le s.receive_room 1073741824
    && (s.ipv4 || s.ipv6) && has_secret s.number_key && (not (s.table_key.k0 == 0) || not (s.table_key.k1 == 0))

-- two sockets for each family
abbrev pub sockets_of : (ipv4 ipv6 : Bool) → ℕ
sockets_of true true = 4
sockets_of true false = 2
sockets_of false true = 2
sockets_of false false = 0

abbrev pub sockets : StreamSettings → ℕ
sockets s = sockets_of s.ipv4 s.ipv6

-- one that receives and sends, and one that only sends, at most 16 packets at a time
abbrev pub near_rooms : StreamSettings → Rooms
near_rooms s = record { received = s.near; to_send = s.near }

abbrev pub far_rooms : StreamSettings → Rooms
far_rooms s = record { received = record { packets = 0; octets = 0 }; to_send = record { packets = 16; octets = s.far_octets } }

abbrev pub octets_less : ℕ → ℕ → ℕ
octets_less octets headers = min (octets - headers) 65535

-- the least window scale by which so much room can be told in 16 bits, at most 14 (RFC 7323 2.2, 2.3): how many bits the room
-- has beyond 16
abbrev pub scale_for : ℕ → ℕ
scale_for room = min (64 - count_leading_zeros 64 (room / 65536)) 14

-- a segment of TCP has at most what the link's packets carry behind the headers, of 40 octets over IPv4 and 60 over IPv6
abbrev pub config_for : StreamSettings → ℕ → Config
config_for s ip_mtu = record {
  send_room = s.send_room;
  receive_room = s.receive_room;
  mss_v4 = octets_less ip_mtu 40;
  mss_v6 = octets_less ip_mtu 60;
  settings = record s.connection { own_scale = scale_for s.receive_room };
  accepted_keep_alive = s.accepted_keep_alive;
  release_timeout = s.release_timeout;
  number_key = s.number_key;
  table_key = s.table_key;
}
