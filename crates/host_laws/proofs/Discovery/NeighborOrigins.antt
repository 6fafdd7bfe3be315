-- How a neighbour that is known after a frame came to be known.
use Rattle.std.proofs.Common.{◌≡◌, ℕ, ◌≤◌, Bool, true, false}
use Rattle.std.proofs.Common.{refl, sym, ◌∙◌, ap}
use Rattle.std.proofs.Common.{Option, Some, None, arith}
use Rattle.std.specs.Prelude.{pos, ◌+ℤ◌, ◌<◌, cond, is_some, nat_lt, if◌then◌else◌}
use Rattle.std.specs.Prelude.{IsTrue}
use Rattle.std.proofs.lemmas.Bool.Decides.{nat_tests}
use Rattle.std.proofs.lemmas.Slice.Eq.{bytes_eq-Decides}
use Rattle.std.specs.FinMap as map
use Rattle.std.specs.FinMap.{FinMap, get-insert, get-remove}
use Rattle.std.specs.Ordering.{eq_by_cmp}
use Rattle.ip_address.specs.Ip.{address_cmp}
use Rattle.ip_address.specs.declared.ethernet_address.EthernetAddress.{EthernetAddress}
use Rattle.ip_address.specs.declared.hardware.HardwareAddress.{HardwareAddress}
use Rattle.ip_address.specs.declared.hardware.HardwareAddress.TheVariants as hardware
use Rattle.ip_wire.specs.declared.ip_packet.IpRepr.{IpRepr}
use Rattle.ip_wire.specs.IpPacket.{src_addr}
use Rattle.ip_address.specs.declared.ip.IpAddress.{IpAddress}
use Rattle.iface_tables.proofs.EntriesLemmas.{tied}
use Rattle.iface_tables.proofs.NeighborLemmas.{address_same, address_total}
use Rattle.iface_tables.specs.declared.neighbor.Neighbor.{Neighbor}
use Rattle.iface_tables.specs.Neighbor.{Fills, Puts, after_renewal, expiry_from, is_same, renewed_from}
use Rattle.host_machine.specs.Context.Host.{Host, with_neighbors}

-- a neighbour that is known in a host was known so in one before; or it was known there and heard, so it is known for
-- another 60 s; or it was told
pub data Came (Told : IpAddress → EthernetAddress → Type 0) (Heard : IpAddress → HardwareAddress → Type 0) (old : Host) (a : IpAddress)
    (n : Neighbor) : Type 0 where
  Was : map.get old.neighbors.known a ≡ Some n → Came Told Heard old a n
  Renewed : (before : Neighbor) → map.get old.neighbors.known a ≡ Some before →
      n ≡ record before { expires_at = old.moment +ℤ pos 60000000 } → Heard a before.hardware_addr → Came Told Heard old a n
  New : (h : EthernetAddress) → n ≡ record { hardware_addr = hardware.Ethernet h; expires_at = old.moment +ℤ pos 60000000 } →
      Told a h → Came Told Heard old a n

-- each that is known after a rule, at the same moment
pub record Come (Told : IpAddress → EthernetAddress → Type 0) (Heard : IpAddress → HardwareAddress → Type 0) (old new : Host) : Type 0 where
  pub moment : new.moment ≡ old.moment
  pub each : (a : IpAddress) (n : Neighbor) → map.get new.neighbors.known a ≡ Some n → Came Told Heard old a n

abbrev pub Nobody : IpAddress → EthernetAddress → Type 0
Nobody a h = ⊥

abbrev pub Unheard : IpAddress → HardwareAddress → Type 0
Unheard a h = ⊥

-- the source of a packet is heard from a hardware address
abbrev pub IsHeard : HardwareAddress → IpRepr → IpAddress → HardwareAddress → Type 0
IsHeard source r a h = (a ≡ src_addr r) × (h ≡ source)

-- where the same neighbours are known
pub still_known : {Told : IpAddress → EthernetAddress → Type 0} {Heard : IpAddress → HardwareAddress → Type 0} {old new : Host} →
    new.moment ≡ old.moment → new.neighbors.known ≡ old.neighbors.known → Come Told Heard old new
still_known m e = record { moment = m; each = λ a n is. Was (sym (ap (λ k. map.get k a) e) ∙ is) }

-- nothing changes
pub unchanged : {Told : IpAddress → EthernetAddress → Type 0} {Heard : IpAddress → HardwareAddress → Type 0} {old new : Host} →
    new ≡ old → Come Told Heard old new
unchanged e = still_known (ap (λ (K : Host). K.moment) e) (ap (λ (K : Host). K.neighbors.known) e)

-- one rule after another, of which each says who was told
module _ {Told : IpAddress → EthernetAddress → Type 0} {Heard : IpAddress → HardwareAddress → Type 0} {old mid new : Host}
    (one : Come Told Heard old mid) (two : Come Told Heard mid new) where
  renewed_on : (a : IpAddress) (n m : Neighbor) → n ≡ record m { expires_at = old.moment +ℤ pos 60000000 } → Heard a m.hardware_addr →
      Came Told Heard old a m → Came Told Heard old a n
  renewed_on a n m end heard (Was is) = Renewed m is end heard
  renewed_on a n m end heard (Renewed b is e h) =
      Renewed b is (end ∙ ap (λ (x : Neighbor). record x { expires_at = old.moment +ℤ pos 60000000 }) e) h
  renewed_on a n m end heard (New h e told) =
      New h (end ∙ ap (λ (x : Neighbor). record x { expires_at = old.moment +ℤ pos 60000000 }) e) told

  came_on : (a : IpAddress) (n : Neighbor) → Came Told Heard mid a n → Came Told Heard old a n
  came_on a n (Was is) = one.each a n is
  came_on a n (Renewed m is e heard) =
      renewed_on a n m (e ∙ ap (λ t. record m { expires_at = t +ℤ pos 60000000 }) one.moment) heard (one.each a m is)
  came_on a n (New h is told) = New h (is ∙ ap (λ t. record { hardware_addr = hardware.Ethernet h; expires_at = t +ℤ pos 60000000 }) one.moment) told

  pub come_then : Come Told Heard old new
  come_then = record { moment = two.moment ∙ one.moment; each = λ a n is. came_on a n (two.each a n is) }

-- who was told, and who was heard, may be said in other words
pub come_so : {Told Other : IpAddress → EthernetAddress → Type 0} {Heard Another : IpAddress → HardwareAddress → Type 0} {old new : Host} →
    ((a : IpAddress) (h : EthernetAddress) → Told a h → Other a h) → ((a : IpAddress) (h : HardwareAddress) → Heard a h → Another a h) →
    Come Told Heard old new → Come Other Another old new
come_so {Told} {Other} {Heard} {Another} {old} {new} so also c = record { moment = c.moment; each = λ a n is. by a n (c.each a n is) } where
  by : (a : IpAddress) (n : Neighbor) → Came Told Heard old a n → Came Other Another old a n
  by a n (Was is) = Was is
  by a n (Renewed m is e heard) = Renewed m is e (also a m.hardware_addr heard)
  by a n (New h is told) = New h is (so a h told)

pub told_so : {Told Other : IpAddress → EthernetAddress → Type 0} {Heard : IpAddress → HardwareAddress → Type 0} {old new : Host} →
    ((a : IpAddress) (h : EthernetAddress) → Told a h → Other a h) → Come Told Heard old new → Come Other Heard old new
told_so {Heard = Heard} so c = come_so {Heard = Heard} {Another = Heard} so (λ a h x. x) c

-- an entry is put
data FromPut (old : FinMap address_cmp Neighbor) (a : IpAddress) (n : Neighbor) (b : IpAddress) (m : Neighbor) : Type 0 where
  Stood : map.get old b ≡ Some m → FromPut old a n b m
  IsPut : b ≡ a → m ≡ n → FromPut old a n b m

inserted : (m : FinMap address_cmp Neighbor) (a : IpAddress) (n : Neighbor) (b : IpAddress) (x : Neighbor) →
    map.get (map.insert m a n) b ≡ Some x → FromPut m a n b x
inserted m a n b x is = by (eq_by_cmp address_cmp b a) refl (sym (get-insert address_total m a n b) ∙ is) where
  by : (t : Bool) → eq_by_cmp address_cmp b a ≡ t → cond t (Some n) (map.get m b) ≡ Some x → FromPut m a n b x
  by true e h = IsPut (tied address_total address_same b a e) cc
  by false e h = Stood h

put_after_removal : (m : FinMap address_cmp Neighbor) (v a : IpAddress) (n : Neighbor) (b : IpAddress) (x : Neighbor) →
    map.get (map.insert (map.remove m v) a n) b ≡ Some x → FromPut m a n b x
put_after_removal m v a n b x is = by (inserted (map.remove m v) a n b x is) where
  there : (t : Bool) → cond t None (map.get m b) ≡ Some x → map.get m b ≡ Some x
  there true e = absurd cc
  there false e = e

  by : FromPut (map.remove m v) a n b x → FromPut m a n b x
  by (Stood h) = Stood (there (eq_by_cmp address_cmp b v) (sym (get-remove address_total m v b) ∙ h))
  by (IsPut e f) = IsPut e f

put : (most : ℕ) (old new : FinMap address_cmp Neighbor) (a : IpAddress) (n : Neighbor) → Puts most old new a n → (b : IpAddress) (x : Neighbor) →
    map.get new b ≡ Some x → FromPut old a n b x
put most old new a n p b x is = by (map.get old a) refl where
  room : (k : ℕ) → map.len old ≡ k → map.get old a ≡ None → FromPut old a n b x
  room k l none = elim (nat_lt k most) as (λ t. nat_lt k most ≡ t → FromPut old a n b x) [
    | true ↦ λ t. let h : map.len old < most = grind (arith, nat_tests) in inserted old a n b x (sym (ap (λ m. map.get m b) (p.room h)) ∙ is)
    | false ↦ λ t. let h : most ≤ map.len old = grind (arith, nat_tests) in let f = p.full none h in
        put_after_removal old f.0 a n b x (sym (ap (λ m. map.get m b) f.2) ∙ is)
  ] refl

  by : (o : Option Neighbor) → map.get old a ≡ o → FromPut old a n b x
  by None none = room (map.len old) refl none
  by (Some y) some = let t : IsTrue (is_some (map.get old a)) = rw some refl in
      inserted old a n b x (sym (ap (λ m. map.get m b) (p.there t)) ∙ is)

-- who is learnt is told
pub filled_came : {Heard : IpAddress → HardwareAddress → Type 0} {old new : Host} {a : IpAddress} {h : EthernetAddress} → new.moment ≡ old.moment →
    Fills old.neighbors new.neighbors a (record { hardware_addr = hardware.Ethernet h; expires_at = expiry_from old.moment }) →
    Come (λ b g. (b ≡ a) × (g ≡ h)) Heard old new
filled_came {Heard} {old} {new} {a} {h} m f = record { moment = m; each = λ b n is. by b n (put _ _ _ _ _ f.puts b n is) } where
  by : (b : IpAddress) (n : Neighbor) →
      FromPut old.neighbors.known a (record { hardware_addr = hardware.Ethernet h; expires_at = expiry_from old.moment }) b n →
      Came (λ b g. (b ≡ a) × (g ≡ h)) Heard old b n
  by b n (Stood is) = Was is
  by b n (IsPut e same) = New h same (e, refl)

-- a renewed neighbour was known at the hardware address from which it is heard
same_hardware : (x y : HardwareAddress) → is_same x y ≡ true → x ≡ y
same_hardware hardware.Ip hardware.Ip e = refl
same_hardware hardware.Ip (hardware.Ethernet y) e = absurd cc
same_hardware (hardware.Ethernet x) hardware.Ip e = absurd cc
same_hardware (hardware.Ethernet x) (hardware.Ethernet y) e = ap (λ o. hardware.Ethernet (record { 0 = o })) ((bytes_eq-Decides x.0 y.0).0 e)

pub renewed_came : {Told : IpAddress → EthernetAddress → Type 0} (source : HardwareAddress) (r : IpRepr) (H : Host) →
    Come Told (IsHeard source r) H (with_neighbors H (after_renewal H.neighbors (src_addr r) source (expiry_from H.moment)))
renewed_came {Told} source r H = by (map.get H.neighbors.known (src_addr r)) refl where
  entry : (e : Neighbor) → map.get H.neighbors.known (src_addr r) ≡ Some e → (b : Bool) → is_same e.hardware_addr source ≡ b → (a : IpAddress) (n : Neighbor) →
      map.get (if b then map.insert H.neighbors.known (src_addr r) (record e { expires_at = expiry_from H.moment }) else H.neighbors.known) a ≡ Some n →
      Came Told (IsHeard source r) H a n
  entry e there false off a n is = Was is
  entry e there true on a n is = from (inserted H.neighbors.known (src_addr r) (record e { expires_at = expiry_from H.moment }) a n is) where
    from : FromPut H.neighbors.known (src_addr r) (record e { expires_at = expiry_from H.moment }) a n → Came Told (IsHeard source r) H a n
    from (Stood x) = Was x
    from (IsPut x same) =
        Renewed e (ap (λ y. map.get H.neighbors.known y) x ∙ there) same (x, same_hardware e.hardware_addr source on)

  by : (o : Option Neighbor) → map.get H.neighbors.known (src_addr r) ≡ o →
      Come Told (IsHeard source r) H (with_neighbors H (record H.neighbors {
        known = renewed_from o H.neighbors.known (src_addr r) source (expiry_from H.moment);
      }))
  by None none = still_known refl refl
  by (Some e) there = record { moment = refl; each = λ a n is. entry e there (is_same e.hardware_addr source) refl a n is }
