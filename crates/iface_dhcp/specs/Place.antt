-- The client's second place among the sockets of a host.
use Rattle.std.specs.Prelude.{ℕ, ◌≡◌, Option, Some, None}
use Rattle.iface_host.specs.declared.host.IfaceHost.{IfaceHost}
use Rattle.iface_dhcp.specs.declared.dhcp.Dhcp.{Dhcp}
use Rattle.iface_dhcp.specs.Dhcp.{ClosesIf, Keeps}

abbrev pub with_kept : Option ℕ → Dhcp → Dhcp
with_kept n d = record d { kept = n }

-- it is kept already, or kept from now on, if there are a place and memory
pub data KeepsPlace (d d' : Dhcp) (old new : IfaceHost) : Type 0 where
  IsKept : (n : ℕ) → d.kept ≡ Some n → d' ≡ d → new ≡ old → KeepsPlace d d' old new
  IsFree : d.kept ≡ None → d' ≡ with_kept d'.kept d → Keeps d'.kept old new → KeepsPlace d d' old new

-- what kept it is closed
abbrev pub LeavesPlace : Dhcp → Dhcp → IfaceHost → IfaceHost → Type 0
LeavesPlace d d' old new = (d' ≡ with_kept None d) × ClosesIf d.kept old new
