-- What C reads of a host's properties, and how it writes them.
use Rattle.std.specs.Prelude.{ℕ, ◌≡◌, ◌==◌, not, is_some, Bool, List, Option, Some, None, if◌then◌else◌}
use Rattle.std.specs.Option.{option_map}
use Rattle.ip_address.specs.declared.ethernet_address.EthernetAddress.{EthernetAddress}
use Rattle.iface_host.specs.Properties.{hardware_of}
use Rattle.iface_host.specs.declared.host.IfaceHost.{IfaceHost}
use Rattle.iface_host.specs.declared.refusal.Refusal.{Refusal}
use Rattle.iface_host.specs.declared.refusal.Refusal.TheVariants.{NotThere}

-- whether something holds, as C writes it: 0 says that it doesn't
abbrev pub holds_in : ℕ → Bool
holds_in n = not (n == 0)

-- and as C reads it
abbrev pub flag_of : Bool → ℕ
flag_of holds = if holds then 1 else 0

-- an address on Ethernet, by its octets
abbrev pub ethernet_of : List ℕ → EthernetAddress
ethernet_of octets = record { 0 = octets }

-- its octets, if the host has one
abbrev pub hardware_octets : IfaceHost → Option (List ℕ)
hardware_octets host = option_map (λ (address : EthernetAddress). address.0) (hardware_of host)

-- a value of the host was written, and nothing changed
pub record Shows {A : Type 0} (value : IfaceHost → A) (shown : A) (old new : IfaceHost) : Type 0 where
  pub value_is : shown ≡ value old
  pub same : new ≡ old

-- a value that the host may lack was written, and nothing changed
pub record ShowsIfAny {A : Type 0} (value : IfaceHost → Option A) (shown : A) (old new : IfaceHost) : Type 0 where
  pub value_is : value old ≡ Some shown
  pub same : new ≡ old

-- the host lacks it
abbrev pub lack : {A : Type 0} → (IfaceHost → Option A) → IfaceHost → Option Refusal
lack value host = if is_some (value host) then None else Some NotThere
