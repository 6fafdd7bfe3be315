-- What C reads of packets that came, and of the next instant.
use Rattle.std.specs.Prelude.{ℕ, ℤ, ◌≡◌, ◌-◌, ◌^◌, pos, List, Option, Some, None}
use Rattle.ip_address.specs.declared.ip.IpAddress.{IpAddress}
use Rattle.sockets.specs.declared.endpoint.IpEndpoint.{IpEndpoint}
use Rattle.iface_host.specs.declared.host.IfaceHost.{IfaceHost}
use Rattle.iface_host.specs.Frames.{IsDue}
use Rattle.iface_host.specs.Sockets as sockets
use Rattle.iface_c.specs.declared.addresses.IfaceAddress.{IfaceAddress}
use Rattle.iface_c.specs.declared.addresses.IfaceEndpoint.{IfaceEndpoint}
use Rattle.iface_c.specs.Addresses.{address_for_c, written_end}

-- a datagram was read, and where it came from is written
pub record ReceivesUdp (n : ℕ) (shown : IfaceEndpoint) (len : ℕ) (out : List ℕ) (old new : IfaceHost) : Type 0 where
  pub remote : IpEndpoint
  pub received : sockets.ReceivesUdp n remote len out old new
  pub is_written : shown ≡ written_end remote

pub record ReceivesIcmp (n : ℕ) (shown : IfaceAddress) (len : ℕ) (out : List ℕ) (old new : IfaceHost) : Type 0 where
  pub remote : IpAddress
  pub received : sockets.ReceivesIcmp n remote len out old new
  pub is_written : shown ≡ address_for_c remote

-- the first packet that came was written as above, and nothing changed
pub record PeeksUdp (n : ℕ) (shown : IfaceEndpoint) (len : ℕ) (out : List ℕ) (old new : IfaceHost) : Type 0 where
  pub remote : IpEndpoint
  pub peeked : sockets.PeeksUdp n remote len out old
  pub is_written : shown ≡ written_end remote
  pub same : new ≡ old

pub record PeeksIcmp (n : ℕ) (shown : IfaceAddress) (len : ℕ) (out : List ℕ) (old new : IfaceHost) : Type 0 where
  pub remote : IpAddress
  pub peeked : sockets.PeeksIcmp n remote len out old
  pub is_written : shown ≡ address_for_c remote
  pub same : new ≡ old

pub record PeeksRaw (n : ℕ) (len : ℕ) (out : List ℕ) (old new : IfaceHost) : Type 0 where
  pub peeked : sockets.PeeksRaw n len out old
  pub same : new ≡ old

-- an instant as C reads it: the last number for none
abbrev pub read_as : Option ℤ → ℤ
read_as None = pos (2 ^ 63 - 1)
read_as (Some t) = t

-- the instant that was written
pub record IsDueAt (t : ℤ) (at : ℤ) (old new : IfaceHost) : Type 0 where
  pub due : Option ℤ
  pub is_due : IsDue t due old new
  pub written : at ≡ read_as due
