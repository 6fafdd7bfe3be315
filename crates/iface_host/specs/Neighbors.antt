-- The neighbours of a host (RFC 826, RFC 4861).
use Rattle.std.specs.Prelude.{ℕ, ◌≡◌, List, slice_get, Option}
use Rattle.std.specs.FinMap as map
use Rattle.std.specs.Option.{option_and_then, option_map}
use Rattle.ip_address.specs.Ip.{address_cmp}
use Rattle.ip_address.specs.declared.ethernet_address.EthernetAddress.{EthernetAddress}
use Rattle.ip_address.specs.declared.ip.IpAddress.{IpAddress}
use Rattle.iface_tables.specs.Entries.{AreKeysDistinct}
use Rattle.iface_tables.specs.Neighbor.{IsByEnd}
use Rattle.iface_tables.specs.declared.neighbor.Neighbor.{Neighbor}
use Rattle.iface_host.specs.Properties.{ethernet_in, machine_of}
use Rattle.iface_host.specs.declared.host.IfaceHost.{IfaceHost}
use Rattle.iface_host.specs.declared.neighbors.Known.{Known}

-- all neighbours of a host, each once, by rising expiry: those of equal expiry in any order
pub record AreNeighbors (host : IfaceHost) (all : List (IpAddress × Neighbor)) : Type 0 where
  pub pairs : map.from_entries all ≡ (machine_of host).neighbors.known
  pub once : AreKeysDistinct address_cmp all
  pub order : IsByEnd all

-- a neighbour, if its address on its link is one on Ethernet
abbrev pub known_as : IpAddress × Neighbor → Option Known
known_as entry = option_map (λ (hardware : EthernetAddress).
    record { address = entry.0; hardware = hardware; until = entry.1.expires_at }) (ethernet_in entry.1.hardware_addr)

-- the neighbour at a place of their list, if there is one
pub record IsNeighborAt (place : ℕ) (known : Option Known) (host : IfaceHost) : Type 0 where
  pub all : List (IpAddress × Neighbor)
  pub are_all : AreNeighbors host all
  pub known_is : known ≡ option_and_then known_as (slice_get all place)
