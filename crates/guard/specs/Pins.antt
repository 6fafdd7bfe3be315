-- Neighbours that are pinned to a hardware address: the program says which they have.
use Rattle.std.specs.Prelude.{ℕ, nat_lt, ◌&&◌, not, Bool, false, is_none, List, length, replicate, slice_set, Option, Some, None, if◌then◌else◌}
use Rattle.std.specs.List.{list_any, position_or_len}
use Rattle.ip_address.specs.declared.ethernet_address.EthernetAddress.{EthernetAddress}
use Rattle.ip_address.specs.declared.ip.IpAddress.{IpAddress}
use Rattle.sockets.specs.Source.{is_same}
use Rattle.guard.specs.declared.pins.Pinned.{Pinned}
use Rattle.guard.specs.declared.pins.Pins.{Pins}
use Rattle.guard.specs.Claim.{tells_only}

abbrev pub no_pins : Pins
no_pins = record { pairs = replicate 8 None }

-- an entry pins an address
abbrev pub is_of : IpAddress → Option Pinned → Bool
is_of a None = false
is_of a (Some p) = is_same p.address a

-- an entry pins the sender of a frame to another hardware address than it tells
abbrev pub forbids : (sender : IpAddress) → List ℕ → Option Pinned → Bool
forbids sender frame None = false
forbids sender frame (Some p) = is_same p.address sender && not (tells_only p.hardware frame)

abbrev pub is_forbidden : (sender : IpAddress) → List ℕ → Pins → Bool
is_forbidden sender frame ps = list_any (forbids sender frame) ps.pairs

-- where the first entry that pins an address stands, or the length; and the first free one
abbrev pub place_of : IpAddress → Pins → ℕ
place_of a ps = position_or_len (is_of a) ps.pairs

abbrev pub free_place : Pins → ℕ
free_place ps = position_or_len is_none ps.pairs

-- an address that is pinned has its entry, and another one the first that is free
abbrev pub place_for : IpAddress → Pins → ℕ
place_for a ps = if nat_lt (place_of a ps) (length ps.pairs) then place_of a ps else free_place ps

-- there is an entry at a place
abbrev pub is_there : ℕ → Pins → Bool
is_there place ps = nat_lt place (length ps.pairs)

-- an entry at a place is another one, if there is such a place
abbrev pub after_put : ℕ → Option Pinned → Pins → Pins
after_put place entry ps = if is_there place ps then record { pairs = slice_set ps.pairs place entry } else ps

abbrev pub after_pin : IpAddress → EthernetAddress → Pins → Pins
after_pin a h ps = after_put (place_for a ps) (Some (record { address = a; hardware = h })) ps

abbrev pub after_unpin : IpAddress → Pins → Pins
after_unpin a ps = after_put (place_of a ps) None ps
