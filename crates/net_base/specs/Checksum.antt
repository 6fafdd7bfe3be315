-- Which checksums a device leaves to the stack, and the length of its packets.
use Rattle.std.specs.Prelude.{ℕ, ◌-◌, Bool, true, false}
use Rattle.net_base.specs.declared.phy.Checksum.{Checksum}
use Rattle.net_base.specs.declared.phy.Checksum.TheVariants.{Both, Rx, Tx, None}
use Rattle.net_base.specs.declared.phy.Medium.{Medium}
use Rattle.net_base.specs.declared.phy.Medium.TheVariants.{Ethernet, Ip}
use Rattle.net_base.specs.declared.phy.DeviceCapabilities.{DeviceCapabilities}

-- whether a checksum is verified on receipt
abbrev pub is_rx : Checksum → Bool
is_rx Both = true
is_rx Rx = true
is_rx Tx = false
is_rx None = false

-- whether a checksum is computed when sending
abbrev pub is_tx : Checksum → Bool
is_tx Both = true
is_tx Rx = false
is_tx Tx = true
is_tx None = false

-- the length of the longest IP packet after a frame's header
abbrev pub room_in : Medium → ℕ → ℕ
room_in Ethernet n = n - 14
room_in Ip n = n

-- the length of the longest IP packet
abbrev pub ip_mtu_of : DeviceCapabilities → ℕ
ip_mtu_of c = room_in c.medium c.max_transmission_unit
