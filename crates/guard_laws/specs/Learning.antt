-- What a host learns from frames of any octets, so that what strangers can't do to neighbours behind a guard is so of the host itself.
use Rattle.std.specs.Prelude.{◌≡◌, ◌≢◌, ℕ, ◌+◌, ◌-◌, ◌*◌, ◌≤◌, ◌<◌, pos, true, false, List, [], ◌∷◌, length, Option, Some}
use Rattle.std.specs.FinMap as map
use Rattle.net_base.specs.Device.{Event}
use Rattle.ip_address.specs.declared.cidr.IpCidr.{IpCidr}
use Rattle.ip_address.specs.declared.ethernet_address.EthernetAddress.{EthernetAddress}
use Rattle.ip_address.specs.declared.hardware.HardwareAddress.{HardwareAddress}
use Rattle.ip_address.specs.declared.hardware.HardwareAddress.TheVariants.{Ethernet}
use Rattle.ip_address.specs.declared.ip.IpAddress.{IpAddress}
use Rattle.ip_address.specs.declared.ip.IpAddress.TheVariants.{Ipv4}
use Rattle.ip_address.specs.declared.ipv4.Ipv4Address.{Ipv4Address}
use Rattle.iface_tables.specs.Neighbor.{Neighbors, count_after}
use Rattle.iface_tables.specs.declared.neighbor.Neighbor.{Neighbor}
use Rattle.host_machine.specs.Interface.Config.{if_ethernet}
use Rattle.host_machine.specs.Context.Host.{Host, with_neighbors}
use Rattle.host_machine.specs.Context.Note.{Note}
use Rattle.host_laws.specs.Laws.Restraint.Readings.{Receives}
use Rattle.guard.specs.Guard.{is_near}
use Rattle.guard.specs.Kind.{kind_of}
use Rattle.guard.specs.Strangers.{limit_for, limited, may_have_entry, sender_of}
use Rattle.guard.specs.Watch.{admits}
use Rattle.guard.specs.declared.guard.Guard.{Guard}
use Rattle.guard.specs.declared.strangers.Limit.{Limit}
use Rattle.guard.specs.declared.watch.Watch.{Watch}
use Rattle.guard_laws.specs.Strangers.{AreFew, AreInOrder, Arrived, HaveStay, IsAtNoOther, IsKnownUntil, KnowSame, Learns}

-- each IPv4 address that is known is in an own network (RFC 826)
abbrev pub AreNear : List IpCidr → Neighbors → Type 0
AreNear own known = (a : Ipv4Address) (n : Neighbor) → map.get known.known (Ipv4 a) ≡ Some n → is_near own (Ipv4 a) ≡ true

-- a frame teaches a host nobody; or its sender, who may have an entry
pub data Teaches (c : Arrived) (old new : Neighbors) : Type 0 where
  Nobody : KnowSame old new → Teaches c old new
  Sender : (a : IpAddress) → sender_of (kind_of c.frame) ≡ Some a → may_have_entry c.own a ≡ true → Learns c a old new →
      Teaches c old new

-- a frame that came at an instant to a host, behind this guard
abbrev pub arrived_at : ℕ → List ℕ → Host → Guard → Arrived
arrived_at at frame H guard = record { at = at; frame = frame; own = H.ip_addrs; guard = guard }

-- A frame of any octets teaches a host on Ethernet its sender or nobody, by the octets that the guard reads, if it has 42 octets at least:
-- Ethernet has 60 in each (IEEE 802.3 3.2.8). What is known of IPv4 stays in own networks
abbrev pub FramesTeachTheirSender : Type 0
FramesTeachTheirSender =
    (at : ℕ) (frame : List ℕ) (old new : Host) (told : List Event) (notes : List Note) (own : EthernetAddress) (guard : Guard) →
    Receives (pos at) frame old told notes new → old.hardware_addr ≡ Ethernet own → 42 ≤ length frame →
    AreNear old.ip_addrs old.neighbors →
    Teaches (arrived_at at frame old guard) old.neighbors new.neighbors × AreNear new.ip_addrs new.neighbors

-- a host with the same addresses knows the same neighbours
pub record IsSameToNeighbors (old new : Host) : Type 0 where
  pub addresses : new.ip_addrs ≡ old.ip_addrs
  pub hardware : new.hardware_addr ≡ old.hardware_addr
  pub neighbors : KnowSame old.neighbors new.neighbors

-- the entry of the frame's sender doesn't outlast the limit
abbrev pub with_limit : Option Limit → Host → Host
with_limit limit H = with_neighbors H (limited limit H.neighbors)

-- What a host behind its guard does with a frame. One that isn't admitted changes nothing of what is known. One that is admitted is
-- received, perhaps in a silence, and after calls that send; then the guard leaves less of what it changed
pub data Takes (c : Arrived) (w : Watch) (old new : Host) : Type 0 where
  Dropped : admits (pos c.at) c.frame (if_ethernet old.hardware_addr) old.ip_addrs w ≡ false → IsSameToNeighbors old new → Takes c w old new
  Admitted : (begun taken : Host) (told : List Event) (notes : List Note) →
      admits (pos c.at) c.frame (if_ethernet old.hardware_addr) old.ip_addrs w ≡ true → IsSameToNeighbors old begun →
      Receives (pos c.at) c.frame begun told notes taken →
      IsSameToNeighbors (with_limit (limit_for (pos c.at) c.frame old.ip_addrs old.neighbors w.guard) taken) new → Takes c w old new

-- frames that came one after another to a host behind its guard, which is on
pub data TakesAll : List Arrived → Host → Host → Type 0 where
  End : (H : Host) → TakesAll [] H H
  Then : (c : Arrived) (later : List Arrived) (w : Watch) (old mid new : Host) → w.is_on ≡ true → c.guard ≡ w.guard → c.own ≡ old.ip_addrs →
      Takes c w old mid → TakesAll later mid new → TakesAll (c ∷ later) old new

-- each has 42 octets at least
abbrev pub AreWhole : List Arrived → Type 0
AreWhole [] = Unit {0}
AreWhole (c ∷ later) = (42 ≤ length c.frame) × AreWhole later

-- nobody speaks in the name of a neighbour, as for one that is pinned: it isn't at another hardware address after any of the frames
abbrev pub StaysInPlace : {arrived : List Arrived} {old new : Host} → IpAddress → HardwareAddress → TakesAll arrived old new → Type 0
StaysInPlace b h (End H) = Unit {0}
StaysInPlace b h (Then c later w old mid new on guard own takes more) = IsAtNoOther b h mid.neighbors × StaysInPlace b h more

-- a host on Ethernet, which knows of IPv4 who is in its own networks
pub record IsOnEthernet (H : Host) : Type 0 where
  pub own : EthernetAddress
  pub hardware : H.hardware_addr ≡ Ethernet own
  pub near : AreNear H.ip_addrs H.neighbors

-- Whatever frames a host gets behind its guard, of any octets, however many and however fast: a neighbour that is confirmed stays known at
-- its hardware address, until less of its time is left than a stranger stays; nor do confirmed ones become more than so many
abbrev pub HostsKeepConfirmed : Type 0
HostsKeepConfirmed =
    (most stay first last end : ℕ) (arrived : List Arrived) (old new : Host) (b : IpAddress) (h : HardwareAddress) → IsOnEthernet old →
    stay ≢ 0 → old.neighbors.room ≤ 2 * most → most < old.neighbors.room → AreFew most (first + stay) old.neighbors →
    IsKnownUntil old.neighbors b h end → end ≤ first + 60000000 → last + stay < end → AreInOrder first last arrived →
    HaveStay stay arrived → AreWhole arrived → (takes : TakesAll arrived old new) → StaysInPlace b h takes →
    IsKnownUntil new.neighbors b h end × AreFew most (last + stay) new.neighbors

-- And a newcomer stays known for as many later frames as half of the entries are
abbrev pub HostsKeepNewcomers : Type 0
HostsKeepNewcomers =
    (stay at first last : ℕ) (arrived : List Arrived) (old new : Host) (b : IpAddress) (h : HardwareAddress) → IsOnEthernet old →
    1 ≤ stay → stay ≤ 60000000 → at ≤ first → 2 * count_after (pos (at + stay)) old.neighbors.known ≤ old.neighbors.room + 1 →
    IsKnownUntil old.neighbors b h (at + stay) →
    count_after (pos (at + stay - 1)) old.neighbors.known ≤ count_after (pos (at + stay)) old.neighbors.known + 1 →
    2 * length arrived + 3 ≤ old.neighbors.room → AreInOrder first last arrived → HaveStay stay arrived → AreWhole arrived →
    (takes : TakesAll arrived old new) → StaysInPlace b h takes → IsKnownUntil new.neighbors b h (at + stay)
