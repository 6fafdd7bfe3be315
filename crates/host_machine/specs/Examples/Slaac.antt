-- Worked examples of autoconfiguration, computed from the definitions: how routers are solicited, octet by octet; what
-- is learnt from an advertisement; and how addresses and routes follow.
use Rattle.std.specs.Prelude.{◌≡◌, ℕ, pos, true, false, List, [], ◌∷◌}
use Rattle.std.proofs.Common.{lit≤}
use Rattle.net_base.specs.Device.{Asked, Sent}
use Rattle.ip_address.specs.declared.cidr.Ipv6Cidr.{Ipv6Cidr}
use Rattle.ip_address.specs.declared.cidr.IpCidr.TheVariants as cidr
use Rattle.ip_address.specs.declared.ipv6.Ipv6Address.{Ipv6Address}
use Rattle.ip_address.specs.declared.protocol.IpProtocol.TheVariants as protocol
use Rattle.ip_wire.specs.declared.ipv6_packet.Ipv6Repr.{Ipv6Repr}
use Rattle.control_wire.specs.Router.{router_in}
use Rattle.iface_tables.specs.Route.{ipv6_gateway}
use Rattle.iface_tables.specs.declared.slaac.Phase.TheVariants.{Discovering, Maintaining}
use Rattle.iface_tables.specs.Slaac.{SlaacState, default_route, initial_state}
use Rattle.host_machine.specs.Context.Host.{Host, at, with_neighbors}
use Rattle.host_machine.specs.Discovery.RouterSolicitation.{NdiscRsEgress}
use Rattle.host_machine.specs.Context.Autoconfiguration.{after_sync}
use Rattle.host_machine.specs.Discovery.Router.{after_advertisement}
use Rattle.host_machine.specs.Examples.ArpAndEcho as example
use Rattle.host_machine.specs.Examples.Groups.{host_v6}

-- the host of fe80::1/64 at 02:00:00:00:00:01, with SLAAC
abbrev pub host : ℕ → SlaacState → Host
host ipv4_id learnt = record (host_v6 ipv4_id []) { slaac_enabled = true; slaac = learnt }

-- fe80::1 solicits all routers
abbrev pub solicitation : List ℕ
solicitation =
    0x33 ∷ 0x33 ∷ 0 ∷ 0 ∷ 0 ∷ 0x02 ∷ 0x02 ∷ 0 ∷ 0 ∷ 0 ∷ 0 ∷ 0x01 ∷ 0x86 ∷ 0xdd
    ∷ 0x60 ∷ 0 ∷ 0 ∷ 0 ∷ 0 ∷ 0x10 ∷ 0x3a ∷ 0xff
    ∷ 0xfe ∷ 0x80 ∷ 0 ∷ 0 ∷ 0 ∷ 0 ∷ 0 ∷ 0 ∷ 0 ∷ 0 ∷ 0 ∷ 0 ∷ 0 ∷ 0 ∷ 0 ∷ 0x01
    ∷ 0xff ∷ 0x02 ∷ 0 ∷ 0 ∷ 0 ∷ 0 ∷ 0 ∷ 0 ∷ 0 ∷ 0 ∷ 0 ∷ 0 ∷ 0 ∷ 0 ∷ 0 ∷ 0x02
    ∷ 0x85 ∷ 0 ∷ 0x7a ∷ 0x2c ∷ 0 ∷ 0 ∷ 0 ∷ 0
    ∷ 0x01 ∷ 0x01 ∷ 0x02 ∷ 0 ∷ 0 ∷ 0 ∷ 0 ∷ 0x01 ∷ []

-- it sent one solicitation
abbrev pub slaac_after_solicitation : SlaacState
slaac_after_solicitation = record initial_state { phase = Discovering; retry_at = pos 4000000; left = 2 }

abbrev pub RoutersAreAsked : Type 0
RoutersAreAsked = NdiscRsEgress (host 0x1405 initial_state) (Asked (pos 0) true ∷ Sent 0 solicitation ∷ [])
    (example.identify ∷ []) (host 0x1406 slaac_after_solicitation)

-- the message of an advertisement: a router for 600 s, and 2001:db8::/64 for autoconfiguration, valid for 700 s
-- and preferred for 300 s
abbrev pub advertisement : List ℕ
advertisement =
    0x86 ∷ 0 ∷ 0xc4 ∷ 0xd0 ∷ 0x40 ∷ 0 ∷ 0x02 ∷ 0x58 ∷ 0 ∷ 0 ∷ 0 ∷ 0 ∷ 0 ∷ 0 ∷ 0 ∷ 0
    ∷ 0x03 ∷ 0x04 ∷ 0x40 ∷ 0x40 ∷ 0 ∷ 0 ∷ 0x02 ∷ 0xbc ∷ 0 ∷ 0 ∷ 0x01 ∷ 0x2c ∷ 0 ∷ 0 ∷ 0 ∷ 0
    ∷ 0x20 ∷ 0x01 ∷ 0x0d ∷ 0xb8 ∷ 0 ∷ 0 ∷ 0 ∷ 0 ∷ 0 ∷ 0 ∷ 0 ∷ 0 ∷ 0 ∷ 0 ∷ 0 ∷ 0 ∷ []

abbrev pub router : Ipv6Address
router = record { bits = 0xfe80_0000_0000_0000_0000_0000_0000_0002 }

-- the header of its packet: to all nodes
abbrev pub header : Ipv6Address → ℕ → Ipv6Repr
header source hop_limit = record {
  src_addr = source;
  dst_addr = record { bits = 0xff02_0000_0000_0000_0000_0000_0000_0001 };
  next_header = protocol.Icmpv6;
  payload_len = 48;
  hop_limit = hop_limit;
}

abbrev pub network : ℕ → Ipv6Cidr
network bits = record { address = record { bits = bits }; prefix_len = 64; in_range = lit≤ tt }

-- what is learnt from it, if it arrives after a second
abbrev pub slaac_after_advertisement : SlaacState
slaac_after_advertisement = record {
  prefixes = record {
    cidr = network 0x2001_0db8_0000_0000_0000_0000_0000_0000;
    info = record { preferred_until = pos 301000000; valid_until = pos 701000000 };
  } ∷ [];
  prefix_room = 2;
  routers = default_route router (pos 601000000) ∷ [];
  router_room = 4;
  phase = Maintaining;
  retry_at = pos 4000000;
  left = 2;
  changed = true;
}

abbrev pub later : Host → Host
later H = at H (pos 1000000)

pub record AdvertisementsAreApplied : Type 0 where
  pub learns : after_advertisement (router_in advertisement) (later (host 0x1406 slaac_after_solicitation))
      (header router 255) ≡ slaac_after_advertisement
  pub passed_on : after_advertisement (router_in advertisement) (later (host 0x1406 slaac_after_solicitation))
      (header router 254) ≡ slaac_after_solicitation
  pub from_elsewhere : after_advertisement (router_in advertisement) (later (host 0x1406 slaac_after_solicitation))
      (header (record { bits = 0x2001_0db8_0000_0000_0000_0000_0000_0002 }) 255) ≡ slaac_after_solicitation
  pub unasked_for : after_advertisement (router_in advertisement)
      (later (record (host 0x1406 initial_state) { slaac_enabled = false })) (header router 255) ≡ initial_state

-- a host that learnt this and knows a neighbour; its own address, and the one formed from the prefix
abbrev pub follower : Host
follower = later (with_neighbors (host 0x1406 slaac_after_advertisement) example.neighbors_with_sender)

abbrev pub own : Ipv6Cidr
own = network 0xfe80_0000_0000_0000_0000_0000_0000_0001

abbrev pub assigned_cidr : Ipv6Cidr
assigned_cidr = network 0x2001_0db8_0000_0000_0000_00ff_fe00_0001

-- it gets an address and a route, forgets its neighbours, and keeps what it learnt; the router's route is removed after
-- 600 s, and the address after 700 s
pub record AddressesFollowPrefixes : Type 0 where
  pub addresses : (after_sync follower).ip_addrs ≡ cidr.Ipv6 own ∷ cidr.Ipv6 assigned_cidr ∷ []
  pub routes : (after_sync follower).routes ≡ ipv6_gateway router ∷ []
  pub neighbors : (after_sync follower).neighbors ≡ example.no_neighbors (pos 0)
  pub learns : (after_sync follower).slaac ≡ record slaac_after_advertisement { changed = false }
  pub moment : (after_sync follower).slaac_updated_at ≡ pos 1000000
  pub without_route : (after_sync (at (after_sync follower) (pos 601000000))).routes ≡ []
  pub with_address : (after_sync (at (after_sync follower) (pos 601000000))).ip_addrs
      ≡ cidr.Ipv6 own ∷ cidr.Ipv6 assigned_cidr ∷ []
  pub without_address : (after_sync (at (after_sync follower) (pos 701000000))).ip_addrs ≡ cidr.Ipv6 own ∷ []
  pub nothing_new : after_sync (at (after_sync follower) (pos 600999999)) ≡ at (after_sync follower) (pos 600999999)
