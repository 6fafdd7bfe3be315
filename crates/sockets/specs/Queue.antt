-- The contents of a queue: packets in order, each with its octets.
use Rattle.std.specs.Prelude.{ℕ, ◌+◌, ◌&&◌, nat_lt, nat_le, Bool, cond, List, [], ◌∷◌}
use Rattle.std.specs.Prelude.{◌++◌, length, take, drop, slice_get, Option, Some, None}
use Rattle.sockets.specs.declared.queue.Entry.{Entry}

-- octets in order, and the maximum number of them
pub record Held : Type 0 where
  pub octets : List ℕ
  pub limit : ℕ

-- a queue's packets in order, each with its octets; the maximum numbers of packets and of octets
pub record Queued (M : Type 0) : Type 0 where
  pub packets : List (M × List ℕ)
  pub most : ℕ
  pub limit : ℕ

module _ {M : Type 0} where
  -- the packets whose octets follow one another
  abbrev pub cut : List (Entry M) → List ℕ → List (M × List ℕ)
  cut [] octets = []
  cut (e ∷ es) octets = (e.meta, take e.len octets) ∷ cut es (drop e.len octets)

  -- the total length of the entries
  abbrev pub total : List (Entry M) → ℕ
  total [] = 0
  total (e ∷ es) = e.len + total es

  -- the total length of the packets
  abbrev pub octets_in : List (M × List ℕ) → ℕ
  octets_in [] = 0
  octets_in (p ∷ ps) = length p.1 + octets_in ps

-- what stands at an index comes to the front, and all else keeps its order
abbrev pub brought_from : {A : Type 0} → (index : ℕ) → Option A → List A → List A
brought_from index None xs = xs
brought_from index (Some x) xs = x ∷ (take index xs ++ drop (index + 1) xs)

abbrev pub brought_forward : {A : Type 0} → (index : ℕ) → List A → List A
brought_forward index xs = brought_from index (slice_get xs index) xs

-- so many octets behind the first ones come before these
abbrev pub octets_forward : (offset count : ℕ) → List ℕ → List ℕ
octets_forward offset count xs = take count (drop offset xs) ++ (take offset xs ++ drop (offset + count) xs)

-- the first of a list, if there is one
abbrev pub first_of : {A : Type 0} → List A → Option A
first_of [] = None
first_of (x ∷ xs) = Some x

module _ {M : Type 0} where
  -- whether a packet of n octets fits
  abbrev pub is_room : Queued M → ℕ → Bool
  is_room q n = nat_lt (length q.packets) q.most && nat_le (octets_in q.packets + n) q.limit

  -- the queue with one packet more, if that fits
  abbrev pub put : Queued M → M → List ℕ → Queued M
  put q m octets = record q { packets = cond (is_room q (length octets)) (q.packets ++ (m, octets) ∷ []) q.packets }

  -- the queue with the packet at an index at its front
  abbrev pub queue_brought_forward : ℕ → Queued M → Queued M
  queue_brought_forward index q = record q { packets = brought_forward index q.packets }

  -- the queue without its first packet
  abbrev pub queue_after_pop : Queued M → Queued M
  queue_after_pop q = record q { packets = drop 1 q.packets }
