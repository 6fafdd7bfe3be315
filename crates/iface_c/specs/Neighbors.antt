-- What C reads of a host's neighbours.
use Rattle.std.specs.Prelude.{ℕ, ℤ, ◌≡◌, List, is_some, Option, Some, None, if◌then◌else◌}
use Rattle.iface_host.specs.Neighbors.{IsNeighborAt}
use Rattle.iface_host.specs.declared.host.IfaceHost.{IfaceHost}
use Rattle.iface_host.specs.declared.neighbors.Known.{Known}
use Rattle.iface_c.specs.declared.addresses.IfaceAddress.{IfaceAddress}
use Rattle.iface_c.specs.Addresses.{address_for_c}

-- the neighbour at a place of their list was written, and nothing changed
pub record ShowsNeighbor (place : ℕ) (address : IfaceAddress) (hardware : List ℕ) (until : ℤ)
    (old new : IfaceHost) : Type 0 where
  pub known : Known
  pub is_there : IsNeighborAt place (Some known) old
  pub address_is : address ≡ address_for_c known.address
  pub hardware_is : hardware ≡ known.hardware.0
  pub until_is : until ≡ known.until
  pub same : new ≡ old

-- the code of the call: 9 where no neighbour is at the place
abbrev pub IsCodeFor : ℕ → ℕ → Option IfaceHost → Type 0
IsCodeFor code place None = code ≡ 1
IsCodeFor code place (Some host) =
    (known : Option Known) × IsNeighborAt place known host × (code ≡ (if is_some known then 0 else 9))
