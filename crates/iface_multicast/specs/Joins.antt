-- The report of a group, over a context.
use Rattle.std.specs.Prelude.{◌≡◌, Bool, List, Option, if◌then◌else◌}
use Rattle.net_base.specs.Device.{Event}
use Rattle.ip_address.specs.declared.cidr.IpCidr.{IpCidr}
use Rattle.ip_address.specs.declared.ip.IpAddress.{IpAddress}
use Rattle.iface_tables.specs.declared.groups.Group.{Group}
use Rattle.host_machine.specs.Context.Note.{Note}
use Rattle.host_machine.specs.Context.Host.{Host, with_groups}
use Rattle.host_machine.specs.Packet.Packet.{Packet}
use Rattle.iface_send.specs.Offered.{IsOffered}

-- a group is reported; it counts as reported unless a transmit token was refused
pub record IsReported (packet_for : List IpCidr → IpAddress → Option Packet)
    (after_report : List Group → IpAddress → List Group) (a : IpAddress) (granted : Bool)
    (H : Host) (told : List Event) (notes : List Note) (new : Host) : Type 0 where
  pub mid : Host
  pub offered : IsOffered (packet_for H.ip_addrs a) granted H told notes mid
  pub counts : new ≡ (if granted then with_groups mid (after_report mid.groups a) else mid)
