-- What strangers can't do to the neighbours that a host knows well, behind its guard.
use Rattle.std.specs.Prelude.{◌≡◌, ◌≢◌, ℕ, ◌+◌, ◌-◌, ◌*◌, length, ◌≤◌, ◌<◌, pos, true, false, List, [], ◌∷◌, Some, ◌≤ℤ◌}
use Rattle.std.specs.FinMap as map
use Rattle.ip_address.specs.declared.cidr.IpCidr.{IpCidr}
use Rattle.ip_address.specs.declared.hardware.HardwareAddress.{HardwareAddress}
use Rattle.ip_address.specs.declared.ip.IpAddress.{IpAddress}
use Rattle.iface_tables.specs.Neighbor.{Neighbors, Puts, after_renewal, count_after}
use Rattle.iface_tables.specs.declared.neighbor.Neighbor.{Neighbor}
use Rattle.guard.specs.Kind.{kind_of}
use Rattle.guard.specs.Strangers.{limit_for, limited, may_have_entry, sender_of, teaches_nobody}
use Rattle.guard.specs.declared.guard.Guard.{Guard}

-- a frame that came at an instant to a host with these addresses, behind this guard
pub record Arrived : Type 0 where
  pub at : ℕ
  pub frame : List ℕ
  pub own : List IpCidr
  pub guard : Guard

-- the same neighbours are known, and there is room for as many. A host that asks for somebody is silent for a second, and knows the same
abbrev pub KnowSame : Neighbors → Neighbors → Type 0
KnowSame old new = (new.known ≡ old.known) × (new.room ≡ old.room)

-- what a frame does to the neighbours of its host, before the guard leaves less of it: nothing; or its sender is stored for a minute, in
-- the place of an entry of least end where there is no room (RFC 826, RFC 4861 7.2); or his entry is renewed for a minute (RFC 1122
-- 2.3.2.1). By datagrams, segments and fragments nobody is stored
pub data Learns (c : Arrived) (a : IpAddress) (old new : Neighbors) : Type 0 where
  Nobody : KnowSame old new → Learns c a old new
  Stored : (h : HardwareAddress) → teaches_nobody (kind_of c.frame) ≡ false →
      Puts old.room old.known new.known a (record { hardware_addr = h; expires_at = pos (c.at + 60000000) }) → new.room ≡ old.room →
      Learns c a old new
  Renewed : (h : HardwareAddress) → KnowSame (after_renewal old a h (pos (c.at + 60000000))) new → Learns c a old new

-- what is left of it: what comes from nobody that may have an entry leaves all
pub data Leaves (c : Arrived) (old new : Neighbors) : Type 0 where
  All : KnowSame old new → Leaves c old new
  Less : (a : IpAddress) (learnt : Neighbors) → sender_of (kind_of c.frame) ≡ Some a → may_have_entry c.own a ≡ true →
      Learns c a old learnt → KnowSame (limited (limit_for (pos c.at) c.frame c.own old c.guard) learnt) new → Leaves c old new

-- frames that came one after another, and what was left of each
pub data Runs : List Arrived → Neighbors → Neighbors → Type 0 where
  End : (known : Neighbors) → Runs [] known known
  Then : (c : Arrived) (later : List Arrived) (old mid new : Neighbors) → Leaves c old mid → Runs later mid new → Runs (c ∷ later) old new

-- instants don't go back, from a first one to a last one
abbrev pub AreInOrder : ℕ → ℕ → List Arrived → Type 0
AreInOrder first last [] = first ≤ last
AreInOrder first last (c ∷ later) = (first ≤ c.at) × AreInOrder c.at last later

-- each guard lets strangers stay so long
abbrev pub HaveStay : ℕ → List Arrived → Type 0
HaveStay stay [] = Unit {0}
HaveStay stay (c ∷ later) = (c.guard.strangers_stay ≡ stay) × HaveStay stay later

-- an address isn't known at another hardware address
abbrev pub IsAtNoOther : IpAddress → HardwareAddress → Neighbors → Type 0
IsAtNoOther b h known = (n : Neighbor) → map.get known.known b ≡ Some n → n.hardware_addr ≡ h

-- nor is it after any of some frames: nobody speaks in its name, as for one that is pinned
abbrev pub StaysAt : {arrived : List Arrived} {old new : Neighbors} → IpAddress → HardwareAddress → Runs arrived old new → Type 0
StaysAt b h (End known) = Unit {0}
StaysAt b h (Then c later old mid new leaves runs) = IsAtNoOther b h mid × StaysAt b h runs

-- an address is known at a hardware address until an instant at least
pub record IsKnownUntil (known : Neighbors) (b : IpAddress) (h : HardwareAddress) (end : ℕ) : Type 0 where
  pub neighbor : Neighbor
  pub is_there : map.get known.known b ≡ Some neighbor
  pub hardware : neighbor.hardware_addr ≡ h
  pub lasts : pos end ≤ℤ neighbor.expires_at

-- at most so many of the entries are confirmed
abbrev pub AreFew : (most : ℕ) → ℕ → Neighbors → Type 0
AreFew most at known = count_after (pos at) known.known ≤ most

-- Whatever frames strangers send, however many and however fast: a neighbour that is confirmed stays known at its hardware address, until
-- less of its time is left than a stranger stays. Nor do confirmed ones become more than so many, if they are no more before: half of the
-- entries, or any greater number that leaves one to others
abbrev pub ConfirmedStay : Type 0
ConfirmedStay =
    (most stay first last end : ℕ) (arrived : List Arrived) (old new : Neighbors) (b : IpAddress) (h : HardwareAddress) →
    stay ≢ 0 → old.room ≤ 2 * most → most < old.room → AreFew most (first + stay) old → IsKnownUntil old b h end → end ≤ first + 60000000 →
    last + stay < end → AreInOrder first last arrived → HaveStay stay arrived → (runs : Runs arrived old new) → StaysAt b h runs →
    IsKnownUntil new b h end × AreFew most (last + stay) new

-- Newcomers have the other half. Who is known until the end of a stay, as a stranger is who comes now, and is alone in that, stays known
-- at his hardware address for as many later frames as that half has room for, whoever sends them, and however fast
abbrev pub NewcomersStay : Type 0
NewcomersStay =
    (stay at first last : ℕ) (arrived : List Arrived) (old new : Neighbors) (b : IpAddress) (h : HardwareAddress) → 1 ≤ stay →
    stay ≤ 60000000 → at ≤ first → 2 * count_after (pos (at + stay)) old.known ≤ old.room + 1 → IsKnownUntil old b h (at + stay) →
    count_after (pos (at + stay - 1)) old.known ≤ count_after (pos (at + stay)) old.known + 1 → 2 * length arrived + 3 ≤ old.room →
    AreInOrder first last arrived → HaveStay stay arrived → (runs : Runs arrived old new) → StaysAt b h runs →
    IsKnownUntil new b h (at + stay)
