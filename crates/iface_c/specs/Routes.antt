-- What C reads of a host's routes, and writes of a route's end.
use Rattle.std.specs.Prelude.{ℕ, ℤ, ◌≡◌, ◌-◌, ◌^◌, pos, slice_get, Option, Some, None, if◌then◌else◌}
use Rattle.std.specs.Option.{option_map}
use Rattle.std.specs.Ordering.{int_cmp, is_lt}
use Rattle.ip_address.specs.Cidr.{address_of, prefix_len_of}
use Rattle.ip_address.specs.declared.ip.IpAddress.{IpAddress}
use Rattle.iface_tables.specs.declared.route.Route.{Route}
use Rattle.iface_host.specs.Calls.{routes_of, source_for}
use Rattle.iface_host.specs.declared.host.IfaceHost.{IfaceHost}
use Rattle.iface_c.specs.declared.addresses.IfaceAddress.{IfaceAddress}
use Rattle.iface_c.specs.Addresses.{address_for_c}
use Rattle.iface_c.specs.Packets.{read_as}

-- the route at a place of their list was written, with its end, and nothing changed
pub record ShowsRoute (place : ℕ) (network : IfaceAddress) (prefix_len : ℕ) (router : IfaceAddress) (until : ℤ)
    (old new : IfaceHost) : Type 0 where
  pub route : Route
  pub is_there : slice_get (routes_of old) place ≡ Some route
  pub network_is : network ≡ address_for_c (address_of route.cidr)
  pub prefix_len_is : prefix_len ≡ prefix_len_of route.cidr
  pub router_is : router ≡ address_for_c route.via_router
  pub until_is : until ≡ read_as route.expires_at
  pub same : new ≡ old

-- an end as C writes it: the last number says that there is none
abbrev pub end_in : ℤ → Option ℤ
end_in until = if is_lt (int_cmp until (pos (2 ^ 63 - 1))) then Some until else None

-- the own address for a destination, if there is one, as C reads it
abbrev pub source_shown : IpAddress → IfaceHost → Option IfaceAddress
source_shown remote host = option_map address_for_c (source_for host remote)
