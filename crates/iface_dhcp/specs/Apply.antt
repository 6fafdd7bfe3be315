-- How a host gets what was leased.
use Rattle.std.specs.Prelude.{ℕ, ◌≡◌, ◌≤◌, ◌==◌, ◌&&◌, nat_eq, min, Bool, true, false, List, [], ◌∷◌, Option, Some, None, if◌then◌else◌}
use Rattle.std.specs.List.{common_prefix_len}
use Rattle.std.proofs.Math.Nat.{min-le_right}
use Rattle.std.proofs.Common.{lit≤}
use Rattle.ip_address.specs.Prefixes.{bits, common_bits}
use Rattle.ip_address.specs.declared.cidr.IpCidr.TheVariants.{Ipv4}
use Rattle.ip_address.specs.declared.cidr.Ipv4Cidr.{Ipv4Cidr}
use Rattle.ip_address.specs.declared.ip.IpAddress.TheVariants as address
use Rattle.ip_address.specs.declared.ipv4.Ipv4Address.{Ipv4Address}
use Rattle.dhcp_client.specs.declared.lease.DhcpLease.{DhcpLease}
use Rattle.dhcp_client.specs.declared.routes.DhcpRoute.{DhcpRoute}
use Rattle.iface_host.specs.Leased.{ReplacesLeased, leased_refusal}
use Rattle.iface_host.specs.Calls.{AddsRoute, RemovesRouteBy}
use Rattle.iface_host.specs.Stands.{Follows, Stays}
use Rattle.iface_host.specs.TableRefusals.{route_refusal, way_removal_refusal}
use Rattle.iface_host.specs.declared.host.IfaceHost.{IfaceHost}
use Rattle.iface_host.specs.declared.leased.Leased.{Leased}
use Rattle.iface_host.specs.declared.refusal.Refusal.{Refusal}
use Rattle.iface_dhcp.specs.Dhcp.{lease, routes}
use Rattle.iface_dhcp.specs.declared.dhcp.Dhcp.{Dhcp}

-- a mask tells as many bits as it has ones from the first on (RFC 2132 3.3); without one the network is the address alone
abbrev pub prefix_len_of : Option Ipv4Address → ℕ
prefix_len_of None = 32
prefix_len_of (Some mask) = common_bits 32 mask.bits 0xffff_ffff 32

pub prefix_is_within : (mask : Option Ipv4Address) → prefix_len_of mask ≤ 32
prefix_is_within None = lit≤ tt
prefix_is_within (Some mask) = min-le_right (common_prefix_len nat_eq (bits 32 mask.bits) (bits 32 0xffff_ffff)) 32

-- what a lease gives a host: its address, with the network of its mask, and its router
abbrev pub leased_by : DhcpLease → Leased
leased_by l = record {
  network = record { address = l.address; prefix_len = prefix_len_of l.subnet_mask; in_range = prefix_is_within l.subnet_mask };
  router = l.router;
}

abbrev pub leased_of : Option DhcpLease → Option Leased
leased_of None = None
leased_of (Some l) = Some (leased_by l)

-- what the lease gives that can be used
abbrev pub leased : Dhcp → Option Leased
leased d = leased_of (lease d)

-- the same address, prefix and router
abbrev pub is_same_router : Option Ipv4Address → Option Ipv4Address → Bool
is_same_router None None = true
is_same_router None (Some b) = false
is_same_router (Some a) None = false
is_same_router (Some a) (Some b) = a.bits == b.bits

abbrev pub is_same_leased : Leased → Leased → Bool
is_same_leased a b =
    (a.network.address.bits == b.network.address.bits) && (a.network.prefix_len == b.network.prefix_len) && is_same_router a.router b.router

abbrev pub is_same : Option Leased → Option Leased → Bool
is_same None None = true
is_same None (Some b) = false
is_same (Some a) None = false
is_same (Some a) (Some b) = is_same_leased a b

-- the host has it in place of what the client gave before, unless that is the same
abbrev pub Replaces : Bool → Dhcp → Dhcp → IfaceHost → IfaceHost → Type 0
Replaces true d d' old new = (d' ≡ d) × (new ≡ old)
Replaces false d d' old new = (d' ≡ record d { leased = leased d }) × Follows (ReplacesLeased d.leased (leased d)) old new

abbrev pub AppliesLease : Dhcp → Dhcp → IfaceHost → IfaceHost → Type 0
AppliesLease d = Replaces (is_same d.leased (leased d)) d

-- the network of a route
abbrev pub width_of : DhcpRoute → ℕ
width_of r = min r.prefix_len 32

pub width_is_within : (r : DhcpRoute) → width_of r ≤ 32
width_is_within r = min-le_right r.prefix_len 32

abbrev pub network_of : DhcpRoute → Ipv4Cidr
network_of r = record { address = r.network; prefix_len = width_of r; in_range = width_is_within r }

-- what a call of the host does, unless it is refused, when its rules see no change
abbrev pub OrStays : Option Refusal → (IfaceHost → IfaceHost → Type 0) → IfaceHost → IfaceHost → Type 0
OrStays None Step old new = Step old new
OrStays (Some refusal) Step old new = Stays old new

-- the first route to the network by the router is taken out, if there is one; one is put behind the others, if there is room
abbrev pub TakesRoute : DhcpRoute → IfaceHost → IfaceHost → Type 0
TakesRoute r old = OrStays (way_removal_refusal old (network_of r) r.router) (Follows (RemovesRouteBy (network_of r) r.router)) old

abbrev pub PutsRoute : DhcpRoute → IfaceHost → IfaceHost → Type 0
PutsRoute r old = OrStays (route_refusal old None) (Follows (AddsRoute (Ipv4 (network_of r)) (address.Ipv4 r.router) None)) old

-- so with each route, one after another
pub data GoesOver (One : DhcpRoute → IfaceHost → IfaceHost → Type 0) : List DhcpRoute → IfaceHost → IfaceHost → Type 0 where
  Over : {host : IfaceHost} → GoesOver One [] host host
  Next : {r : DhcpRoute} {rs : List DhcpRoute} {old mid new : IfaceHost} → One r old mid → GoesOver One rs mid new → GoesOver One (r ∷ rs) old new

-- the routes of the lease stand in place of those that the client gave before
pub record AppliesRoutes (d d' : Dhcp) (old new : IfaceHost) : Type 0 where
  pub between : IfaceHost
  pub taken : GoesOver TakesRoute d.routed.items old between
  pub put : GoesOver PutsRoute (routes d) between new
  pub routed : d'.routed.items ≡ routes d
  pub others : d' ≡ record d { routed = d'.routed }

-- first the lease's address and default route, then its other routes
pub record Applies (d d' : Dhcp) (old new : IfaceHost) : Type 0 where
  pub leased : Dhcp
  pub between : IfaceHost
  pub lease : AppliesLease d leased old between
  pub routes : AppliesRoutes leased d' between new

abbrev pub apply_refusal : Dhcp → IfaceHost → Option Refusal
apply_refusal d host = if is_same d.leased (leased d) then None else leased_refusal host d.leased (leased d)
