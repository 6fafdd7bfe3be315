-- A binary trie of prefixes (RFC 4632 5.1): a node for each beginning of a stored prefix, with links to the two
-- that are one bit longer.
use Rattle.std.specs.Prelude.{◌≡◌, ℕ, ◌+◌, ◌-◌, ◌*◌, ◌/◌, ◌^◌, ◌<◌, ◌≤◌, ◌==◌, ◌&&◌, nat_le, nat_lt, Bool, true, false}
use Rattle.std.specs.Prelude.{if◌then◌else◌, List, length, slice_get, slice_index, slice_index_or, Option, Some, None}
use Rattle.std.specs.Int.{bit_at}
use Rattle.std.specs.List.{position_or_len}
use Rattle.ip_address.specs.Cidr.{contains, prefix_len_of}
use Rattle.ip_address.specs.declared.ip.IpAddress.{IpAddress}
use Rattle.ip_address.specs.declared.ip.IpAddress.TheVariants.{Ipv4, Ipv6}
use Rattle.ip_address.specs.declared.cidr.IpCidr.{IpCidr}
use Rattle.ip_address.specs.declared.cidr.IpCidr.TheVariants as cidr
use Rattle.iface_tables.specs.declared.route_trie.Beginning.{Beginning}
use Rattle.iface_tables.specs.declared.route_trie.Network.{Network}
use Rattle.iface_tables.specs.declared.route_trie.RouteNode.{RouteNode}

-- a prefix by its numbers: the width of its family's addresses, the address, and the prefix length
abbrev pub network_of : IpCidr → Network
network_of (cidr.Ipv4 n) = record { width = 32; bits = n.address.bits; len = n.prefix_len }
network_of (cidr.Ipv6 n) = record { width = 128; bits = n.address.bits; len = n.prefix_len }

-- an address with all of its bits
abbrev pub host_of : IpAddress → Network
host_of (Ipv4 a) = record { width = 32; bits = a.bits; len = 32 }
host_of (Ipv6 a) = record { width = 128; bits = a.bits; len = 128 }

-- the first n bits, as a number
abbrev pub start_of : Network → ℕ → Beginning
start_of p n = record { width = p.width; len = n; leading = p.bits / 2 ^ (p.width - n) }

-- the beginning without bits
abbrev pub root_of : ℕ → Beginning
root_of width = record { width = width; len = 0; leading = 0 }

-- the beginning with one bit more
abbrev pub longer_of : Beginning → ℕ → Beginning
longer_of b bit = record { width = b.width; len = b.len + 1; leading = 2 * b.leading + bit }

-- whether a prefix has this beginning
abbrev pub begins : Beginning → Network → Bool
begins b p = (p.width == b.width) && (nat_le b.len p.len && (p.bits / 2 ^ (p.width - b.len) == b.leading))

-- whether a prefix equals this beginning
abbrev pub is_whole : Beginning → Network → Bool
is_whole b p = (p.len == b.len) && begins b p

abbrev pub is_marked : Beginning → Option IpCidr → Bool
is_marked b None = false
is_marked b (Some c) = is_whole b (network_of c)

-- the first index of a prefix with this beginning, or the length
abbrev pub index_of : List IpCidr → Beginning → ℕ
index_of cidrs b = position_or_len (λ c. begins b (network_of c)) cidrs

-- the number of the node of a beginning of this many bits, by the first prefix with it: there are 128 for each
-- prefix, after two roots
abbrev pub number_at : ℕ → ℕ → ℕ → ℕ
number_at count place len = if nat_lt place count then 1 + 128 * place + len else 0

-- or 0 if no prefix has this beginning
abbrev pub number : List IpCidr → Beginning → ℕ
number cidrs b = number_at (length cidrs) (index_of cidrs b) b.len

-- whether an index is in a mask
abbrev pub has_place : ℕ → ℕ → Bool
has_place mask place = bit_at mask place == 1

-- the last index in a mask, or none
abbrev pub IsLastOf : ℕ → Option ℕ → Type 0
IsLastOf mask None = (k : ℕ) → has_place mask k ≡ false
IsLastOf mask (Some place) = (has_place mask place ≡ true) × ((k : ℕ) → has_place mask k ≡ true → k ≤ place)

-- the node of a beginning links to those that are one bit longer, and marks the indices of the prefixes that equal it
pub record IsNodeOf (cidrs : List IpCidr) (b : Beginning) (node : RouteNode) : Type 0 where
  pub next : (bit : ℕ) → bit < 2 → slice_index node.next bit ≡ number cidrs (longer_of b bit)
  pub marks : (k : ℕ) → has_place node.places k ≡ is_marked b (slice_get cidrs k)

-- the trie of these prefixes: its roots, and a node for each beginning of one
pub record IsTrieOf (nodes : List RouteNode) (cidrs : List IpCidr) : Type 0 where
  pub few : length cidrs ≤ 32
  pub fits : 2 + 128 * length cidrs ≤ length nodes
  pub ipv4 : (d : RouteNode) → IsNodeOf cidrs (root_of 32) (slice_index_or nodes 0 d)
  pub ipv6 : (d : RouteNode) → IsNodeOf cidrs (root_of 128) (slice_index_or nodes 1 d)
  pub others : (b : Beginning) (d : RouteNode) →
      0 < b.len → 0 < number cidrs b → IsNodeOf cidrs b (slice_index_or nodes (number cidrs b) d)

-- the nodes of the prefix at an index are those of its beginnings
abbrev pub HasNodes : List RouteNode → List IpCidr → ℕ → Type 0
HasNodes nodes cidrs place = (c : IpCidr) (m : ℕ) (d : RouteNode) → slice_get cidrs place ≡ Some c → m < (network_of c).len →
    IsNodeOf cidrs (start_of (network_of c) (m + 1)) (slice_index_or nodes (2 + 128 * place + m) d)

-- the prefix at an index is live, has n bits, and the address begins with them
pub record IsCandidate (cidrs : List IpCidr) (a : IpAddress) (live : ℕ) (place n : ℕ) : Type 0 where
  pub prefix : IpCidr
  pub is_there : slice_get cidrs place ≡ Some prefix
  pub is_match : contains prefix a ≡ true
  pub is_live : has_place live place ≡ true
  pub len : prefix_len_of prefix ≡ n

-- of the live prefixes of an address the longest; of equal ones the last
abbrev pub IsBestPlace : List IpCidr → IpAddress → ℕ → Option ℕ → Type 0
IsBestPlace cidrs a live None = (k n : ℕ) → IsCandidate cidrs a live k n → ⊥
IsBestPlace cidrs a live (Some place) = (n : ℕ) × IsCandidate cidrs a live place n
    × ((k m : ℕ) → IsCandidate cidrs a live k m → (m ≤ n) × (place < k → m < n))

-- the best index of those with fewer than i bits
abbrev pub IsBestBelow : List IpCidr → IpAddress → ℕ → ℕ → Option ℕ → Type 0
IsBestBelow cidrs a live i None = (k n : ℕ) → IsCandidate cidrs a live k n → n < i → ⊥
IsBestBelow cidrs a live i (Some place) = (n : ℕ) × IsCandidate cidrs a live place n
    × ((k m : ℕ) → IsCandidate cidrs a live k m → m < i → (m ≤ n) × (place < k → m < n)) × (n < i)

-- the first n bits of an address are those of a prefix of its family that has as many
abbrev pub shares : IpCidr → IpAddress → ℕ → Bool
shares c a n = begins (start_of (host_of a) n) (network_of c)

-- an address shares this many leading bits, and no more, with one of the prefixes, or none
pub record IsLongest (cidrs : List IpCidr) (a : IpAddress) (n : ℕ) : Type 0 where
  pub shared : 0 < n → (k : ℕ) × (c : IpCidr) × (slice_get cidrs k ≡ Some c) × (shares c a n ≡ true)
  pub most : (k m : ℕ) (c : IpCidr) → slice_get cidrs k ≡ Some c → shares c a m ≡ true → m ≤ n

-- a walk has followed i bits of an address, by 1 + i nodes: it is at the node of these bits, and the last index in its
-- mask is the best so far
pub record IsAt (cidrs : List IpCidr) (a : IpAddress) (live i : ℕ) (node : RouteNode) (mask steps : ℕ) : Type 0 where
  pub node_is : IsNodeOf cidrs (start_of (host_of a) i) node
  pub best_is : (place : Option ℕ) → IsLastOf mask place → IsBestBelow cidrs a live (i + 1) place
  pub shared : 0 < i → (k : ℕ) × (c : IpCidr) × (slice_get cidrs k ≡ Some c) × (shares c a i ≡ true)
  pub counted : steps ≡ 1 + i

-- this many bits of an address, after the first i, are the top ones of a 64-bit number
pub record AreNextBits (a : IpAddress) (i count leading : ℕ) : Type 0 where
  pub few : count ≤ 64
  pub within : i + count ≤ (host_of a).width
  pub same : (j : ℕ) → j < count → bit_at leading (63 - j) ≡ bit_at (host_of a).bits ((host_of a).width - 1 - (i + j))
