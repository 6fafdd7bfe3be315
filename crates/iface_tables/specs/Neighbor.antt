-- Neighbours (RFC 826, RFC 4861): a finite map from their addresses, and one silence for all discoveries.
use Rattle.std.specs.Prelude.{◌≡◌, ℕ, ◌+◌, ◌-◌, ◌==◌, ◌<◌, ◌≤◌, ℤ, pos, ◌+ℤ◌, ◌≤ℤ◌, Bool, true, false, IsTrue}
use Rattle.std.specs.Prelude.{List, [], ◌∷◌, length, slice_get, slice_index_or, slice_set}
use Rattle.std.specs.Prelude.{Option, Some, None, if◌then◌else◌, refl}
use Rattle.std.specs.List.{insert, remove}
use Rattle.std.specs.Ordering.{int_cmp, int_eq, is_lt}
use Rattle.std.specs.FinMap as map
use Rattle.std.specs.FinMap.{FinMap}
use Rattle.std.specs.Coded.{Coded, code_by, coded×, coded_ℕ, coded_ℤ}
use Rattle.ip_address.specs.Ip.{address_cmp, address_code}
use Rattle.net_base.specs.declared.phy.Medium.{Medium}
use Rattle.ip_address.specs.Hardware.{IsOf, IsOf-prop, hardware_code}
use Rattle.std.specs.Str.{bytes_eq}
use Rattle.ip_address.specs.declared.ip.IpAddress.{IpAddress}
use Rattle.ip_address.specs.declared.hardware.HardwareAddress.{HardwareAddress}
use Rattle.ip_address.specs.declared.hardware.HardwareAddress.TheVariants.{Ip, Ethernet}
use Rattle.iface_tables.specs.Entries.{AreKeysDistinct}
use Rattle.iface_tables.specs.Store.{Stored}
use Rattle.iface_tables.specs.declared.neighbor.Neighbor.{Neighbor}
use Rattle.iface_tables.specs.declared.neighbor.Answer.{Answer}
use Rattle.iface_tables.specs.declared.neighbor.Answer.TheVariants.{Found, NotFound, RateLimited}

-- how many neighbours there is room for, the neighbours by address, each with its expiry, and the moment until which no
-- discovery is sent
pub record Neighbors : Type 0 where
  pub room : ℕ
  pub known : FinMap address_cmp Neighbor
  pub silent_until : ℤ

-- the neighbours at first: none is known, and there is no silence
abbrev pub first_neighbors : ℕ → Neighbors
first_neighbors room = record { room = room; known = map.empty; silent_until = pos 0 }

-- how many there is room for over storage of this capacity: as many, or four in the cache itself if it has none
abbrev pub room_over : ℕ → ℕ
room_over capacity = if capacity == 0 then 4 else capacity

-- the expiry of an entry that is stored or renewed at t: 60 s later
abbrev pub expiry_from : ℤ → ℤ
expiry_from t = t +ℤ pos 60000000

-- whether t is before the end
abbrev pub is_before : ℤ → ℤ → Bool
is_before t end = is_lt (int_cmp t end)

-- the answer of a lookup at t if no neighbour is known
abbrev pub answer_without_entry : ℤ → ℤ → Answer
answer_without_entry silent_until t = if is_before t silent_until then RateLimited else NotFound

-- the answer of a lookup at t with this entry: a neighbour is known before its expiry
abbrev pub answer_from : Option Neighbor → ℤ → ℤ → Answer
answer_from None silent_until t = answer_without_entry silent_until t
answer_from (Some n) silent_until t =
    if is_before t n.expires_at then Found n.hardware_addr else answer_without_entry silent_until t

-- the answer of a lookup of a at t
abbrev pub answer_of : Neighbors → IpAddress → ℤ → Answer
answer_of c a t = answer_from (map.get c.known a) c.silent_until t

-- whether an answer is `Found`
abbrev pub is_found : Answer → Bool
is_found (Found h) = true
is_found NotFound = false
is_found RateLimited = false

-- v has an entry, and none expires before it
pub record IsLeastEnd (m : FinMap address_cmp Neighbor) (v : IpAddress) : Type 0 where
  pub entry : Neighbor
  pub is_there : map.get m v ≡ Some entry
  pub least : (b : IpAddress) (n : Neighbor) → map.get m b ≡ Some n → entry.expires_at ≤ℤ n.expires_at

-- new is old with n at a. If a is not there and no room is, any entry with the earliest expiry is removed first
pub record Puts (most : ℕ) (old new : FinMap address_cmp Neighbor) (a : IpAddress) (n : Neighbor) : Type 0 where
  pub there : IsTrue (map.contains_key old a) → new ≡ map.insert old a n
  pub room : map.len old < most → new ≡ map.insert old a n
  pub full : map.get old a ≡ None → most ≤ map.len old →
      (v : IpAddress) × IsLeastEnd old v × (new ≡ map.insert (map.remove old v) a n)

-- each known neighbour has an address of that medium
abbrev pub AreOf : Medium → Neighbors → Type 0
AreOf m c = (a : IpAddress) (n : Neighbor) → map.get c.known a ≡ Some n → IsOf m n.hardware_addr

pub AreOf-prop : (m : Medium) (c : Neighbors) → IsProp (AreOf m c)
AreOf-prop m c p q = λ i a n is. IsOf-prop m n.hardware_addr (p a n is) (q a n is) i

-- filling stores n at a, and keeps the room and the silence
pub record Fills (old new : Neighbors) (a : IpAddress) (n : Neighbor) : Type 0 where
  pub puts : Puts old.room old.known new.known a n
  pub room : new.room ≡ old.room
  pub silence : new.silent_until ≡ old.silent_until

-- whether two hardware addresses are equal
abbrev pub is_same : HardwareAddress → HardwareAddress → Bool
is_same Ip Ip = true
is_same Ip (Ethernet y) = false
is_same (Ethernet x) Ip = false
is_same (Ethernet x) (Ethernet y) = bytes_eq x.0 y.0

-- the entries after the entry at a gets this expiry, if it has the hardware address h
abbrev pub renewed_from : Option Neighbor → FinMap address_cmp Neighbor → IpAddress →
    HardwareAddress → ℤ → FinMap address_cmp Neighbor
renewed_from None m a h end = m
renewed_from (Some n) m a h end =
    if is_same n.hardware_addr h then map.insert m a (record n { expires_at = end }) else m

-- the same of a list of entries, at an index
abbrev pub renewed_at : Option (IpAddress × Neighbor) → List (IpAddress × Neighbor) → ℕ → HardwareAddress → ℤ →
    List (IpAddress × Neighbor)
renewed_at None es index h end = es
renewed_at (Some e) es index h end =
    if is_same e.1.hardware_addr h then slice_set es index (e.0, record e.1 { expires_at = end }) else es

-- the neighbours after the entry at a gets this expiry, if it has the hardware address h
abbrev pub after_renewal : Neighbors → IpAddress → HardwareAddress → ℤ → Neighbors
after_renewal c a h end = record c { known = renewed_from (map.get c.known a) c.known a h end }

-- the entries after that at a expires at t, if it would expire later
abbrev pub limited_from : Option Neighbor → FinMap address_cmp Neighbor → IpAddress → ℤ → FinMap address_cmp Neighbor
limited_from None m a t = m
limited_from (Some n) m a t = if is_before t n.expires_at then map.insert m a (record n { expires_at = t }) else m

-- the same of a list of entries, at an index
abbrev pub limited_at : Option (IpAddress × Neighbor) → List (IpAddress × Neighbor) → ℕ → ℤ → List (IpAddress × Neighbor)
limited_at None es index t = es
limited_at (Some e) es index t =
    if is_before t e.1.expires_at then slice_set es index (e.0, record e.1 { expires_at = t }) else es

-- the neighbours after the entry at a expires at t, if it would expire later
abbrev pub after_limit : Neighbors → IpAddress → ℤ → Neighbors
after_limit c a t = record c { known = limited_from (map.get c.known a) c.known a t }

-- an entry is there, and expires after t
abbrev pub is_later : ℤ → Option Neighbor → Bool
is_later t None = false
is_later t (Some n) = is_before t n.expires_at

-- how many of the neighbours expire after t
abbrev pub count_after : ℤ → FinMap address_cmp Neighbor → ℕ
count_after t m = map.len (map.retain_keys m (λ a. is_later t (map.get m a)))

-- how many of a list of entries do
abbrev pub count_later : ℤ → List (IpAddress × Neighbor) → ℕ
count_later t [] = 0
count_later t (e ∷ es) = if is_before t e.1.expires_at then count_later t es + 1 else count_later t es

-- by rising expiry: none expires after a later one in the list
abbrev pub IsByEnd : List (IpAddress × Neighbor) → Type 0
IsByEnd es = (i j : ℕ) (d : IpAddress × Neighbor) →
    i ≤ j → j < length es → (slice_index_or es i d).1.expires_at ≤ℤ (slice_index_or es j d).1.expires_at

-- found is the pair at an index of the neighbours by rising expiry, each once: those of equal expiry in any order
pub record IsNthByEnd (known : FinMap address_cmp Neighbor) (index : ℕ) (found : Option (IpAddress × Neighbor)) : Type 0 where
  pub all : List (IpAddress × Neighbor)
  pub pairs : map.from_entries all ≡ known
  pub once : AreKeysDistinct address_cmp all
  pub order : IsByEnd all
  pub is : found ≡ slice_get all index

-- how many of a list expire before t
abbrev pub count_before : ℤ → List (IpAddress × Neighbor) → ℕ
count_before t [] = 0
count_before t (e ∷ es) = if is_before e.1.expires_at t then count_before t es + 1 else count_before t es

-- the list by rising expiry, those of equal expiry in the order of the list
abbrev pub sorted : List (IpAddress × Neighbor) → List (IpAddress × Neighbor)
sorted [] = []
sorted (e ∷ es) = insert (sorted es) (count_before e.1.expires_at es) e

-- the expiry t of the entry at an index of the sorted list: at most so many expire before it, and more up to it
pub record IsEndAt (es : List (IpAddress × Neighbor)) (index : ℕ) (t : ℤ) : Type 0 where
  pub before : count_before t es ≤ index
  pub until : index < count_before (t +ℤ pos 1) es

-- of those that expire at t the one after n others
abbrev pub expiring_at : ℤ → ℕ → List (IpAddress × Neighbor) → Option (IpAddress × Neighbor)
expiring_at t n [] = None
expiring_at t n (e ∷ es) =
    if int_eq e.1.expires_at t then (if n == 0 then Some e else expiring_at t (n - 1) es) else expiring_at t n es

-- none expires before t, and none after it
abbrev pub AreFrom : ℤ → List (IpAddress × Neighbor) → Type 0
AreFrom t es = (k : ℕ) (d : IpAddress × Neighbor) → k < length es → t ≤ℤ (slice_index_or es k d).1.expires_at

abbrev pub AreUpTo : ℤ → List (IpAddress × Neighbor) → Type 0
AreUpTo t es = (k : ℕ) (d : IpAddress × Neighbor) → k < length es → (slice_index_or es k d).1.expires_at ≤ℤ t

-- the entry at an index is one of those with the earliest expiry
pub record IsEarliest (es : List (IpAddress × Neighbor)) (index : ℕ) : Type 0 where
  pub within : index < length es
  pub least : (d : IpAddress × Neighbor) → AreFrom (slice_index_or es index d).1.expires_at es

-- the entries of a cache: no address twice, and room for one at least
pub record IsKeptIn (s : Stored (IpAddress × Neighbor)) : Type 0 where
  pub distinct : AreKeysDistinct address_cmp s.items
  pub some : 0 < s.room

-- the entry at an index of new may be overwritten by a neighbour at a: the others are those of old without a, or
-- without one with the earliest expiry
pub record HasPlace (most : ℕ) (old new : List (IpAddress × Neighbor)) (a : IpAddress) (place : ℕ) : Type 0 where
  pub within : place < length new
  pub distinct : AreKeysDistinct address_cmp (remove new place)
  pub absent : map.get (map.from_entries {R = address_cmp} (remove new place)) a ≡ None
  pub puts : (n : Neighbor) → Puts most (map.from_entries old) (map.insert (map.from_entries (remove new place)) a n) a n

-- a neighbour by its parts
abbrev pub neighbor_code : Coded Neighbor
neighbor_code =
    code_by (HardwareAddress × ℤ) (coded× hardware_code coded_ℤ) (λ n. (n.hardware_addr, n.expires_at))
    (λ p. record { hardware_addr = p.0; expires_at = p.1 })
    (λ _. refl)

-- a cache by its parts
abbrev pub neighbors_code : Coded Neighbors
neighbors_code =
    code_by (ℕ × (FinMap address_cmp Neighbor × ℤ)) (coded× coded_ℕ (coded× (map.code address_code neighbor_code) coded_ℤ))
    (λ c. (c.room, (c.known, c.silent_until)))
    (λ p. record { room = p.0; known = p.1.0; silent_until = p.1.1 })
    (λ _. refl)
