-- The octets of a stream: each follows from the port that it comes from and from its place.
use Rattle.std.specs.Prelude.{◌≡◌, ℕ, ◌+◌, ◌*◌, ◌/◌, ◌%◌, ◌^◌, ◌<◌, List, get_or, length}

-- the octet at a place: the highest of a product by 2^64 over the golden ratio
abbrev pub octet_at : ℕ → ℕ → ℕ
octet_at port place = ((port * 2 ^ 32 + place) % 2 ^ 64 * 11400714819323198485) % 2 ^ 64 / 2 ^ 56

-- the octet of an index, where the first one has a place
abbrev pub octet_of : ℕ → ℕ → ℕ → ℕ
octet_of port first i = octet_at port ((first + i) % 2 ^ 64)

-- all octets up to an index are those of the stream
abbrev pub AreFrom : ℕ → ℕ → ℕ → List ℕ → Type 0
AreFrom port first count octets = (i : ℕ) → i < count → get_or octets i 0 ≡ octet_of port first i

-- an octet is the first one that isn't
pub record IsFirstWrong (port first : ℕ) (octets : List ℕ) (i : ℕ) : Type 0 where
  pub within : i < length octets
  pub wrong : get_or octets i 0 ≡ octet_of port first i → ⊥
  pub before : AreFrom port first i octets
