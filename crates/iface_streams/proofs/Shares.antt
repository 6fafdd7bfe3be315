-- A host's room for the sockets of connections, and the share of each family.
use Rattle.std.specs.Prelude.{ℕ, ◌≡◌, ◌≤◌, ◌+◌, ◌&&◌, Bool, true, false, nat_le, length, Option, Some, None, refl}
use Rattle.std.specs.Int.Count.{count_leading_zeros}
use Rattle.std.proofs.Common.{sym, ap, ◌∙◌, arith}
use Rattle.std.proofs.lemmas.Bool.{le-leb, leb-true}
use Rattle.std.proofs.lemmas.Nat.{leading_le}
use mathlib.Core.Bool.{true≢false}
use Rattle.ip_address.specs.declared.protocol.IpVersion.TheVariants.{Ipv4, Ipv6}
use Rattle.iface_host.specs.Sockets.{Socket}
use Rattle.iface_host.specs.Streams.{has_room_for, unused_numbers, free_places}
use Rattle.iface_host.specs.declared.host.IfaceHost.{IfaceHost}
use Rattle.iface_streams.specs.Settings as setting
use Rattle.iface_streams.specs.Streams.{count_of, pair_for}
use Rattle.iface_streams.specs.declared.settings.StreamSettings.{StreamSettings}

pub few_zeros : (n : ℕ) → count_leading_zeros 64 n ≤ 64
few_zeros n = leading_le 64 n

both : (a b : Bool) → a && b ≡ true → (a ≡ true) × (b ≡ true)
both true b e = (refl, e)
both false b e = absurd (true≢false (sym e))

-- where there is room for some, there is room for fewer
less : (k m : ℕ) (h : IfaceHost) → has_room_for m h ≡ true → k ≤ m → has_room_for k h ≡ true
less k m h e le =
    let outer : (nat_le (length h.names) 4294967296 && nat_le m (unused_numbers h) ≡ true) × (nat_le m (free_places h) ≡ true) = both _ _ e in
    let inner : (nat_le (length h.names) 4294967296 ≡ true) × (nat_le m (unused_numbers h) ≡ true) = both _ _ outer.0 in
    let numbers : m ≤ unused_numbers h = leb-true m (unused_numbers h) inner.1 in
    let places : m ≤ free_places h = leb-true m (free_places h) outer.1 in
    let numbers_left : nat_le k (unused_numbers h) ≡ true = le-leb k (unused_numbers h) (omega arith) in
    let places_left : nat_le k (free_places h) ≡ true = le-leb k (free_places h) (omega arith) in
    rw (inner.0, numbers_left, places_left) refl

-- the sockets are those of both families
shares : (s : StreamSettings) → count_of (pair_for Ipv6 s.ipv6 s) + count_of (pair_for Ipv4 s.ipv4 s) ≡ setting.sockets s
shares s = by s.ipv4 s.ipv6 where
  by : (v4 v6 : Bool) → count_of (pair_for Ipv6 v6 s) + count_of (pair_for Ipv4 v4 s) ≡ setting.sockets_of v4 v6
  by true true = refl
  by true false = refl
  by false true = refl
  by false false = refl

pub first_share : (s : StreamSettings) (made : Option (Socket × Socket)) (h : IfaceHost) → has_room_for (setting.sockets s) h ≡ true →
    made ≡ pair_for Ipv4 s.ipv4 s → has_room_for (count_of made) h ≡ true
first_share s made h room is =
    let all : count_of (pair_for Ipv6 s.ipv6 s) + count_of (pair_for Ipv4 s.ipv4 s) ≡ setting.sockets s = shares s in
    rw is (less (count_of (pair_for Ipv4 s.ipv4 s)) (setting.sockets s) h room (omega arith))

pub second_share : (s : StreamSettings) (made other : Option (Socket × Socket)) (h h' : IfaceHost) → has_room_for (setting.sockets s) h ≡ true →
    made ≡ pair_for Ipv4 s.ipv4 s → other ≡ pair_for Ipv6 s.ipv6 s →
    ((k : ℕ) → has_room_for (k + count_of made) h ≡ true → has_room_for k h' ≡ true) → has_room_for (count_of other) h' ≡ true
second_share s made other h h' room is is' left =
    left (count_of other) (rw (is, is', shares s) room)
