-- SYN cookies (RFC 4987 3.6): an own initial number that tells what a half-open connection would keep. From the highest bit on it has five
-- bits of the slot of 64 s in which it was made, three of the peer's MSS, and 24 of a keyed hash.
use Rattle.std.specs.Prelude.{◌≡◌, ◌≤◌, ℕ, ◌+◌, ◌-◌, ◌*◌, ◌/◌, ◌%◌, ◌^◌, nat_lt, ◌==◌, ◌||◌, Bool, List, [], ◌∷◌, ◌++◌, Option, Some, None, if◌then◌else◌}
use Rattle.tcp_host.specs.declared.iss.Endpoints.{Endpoints}
use Rattle.tcp_host.specs.declared.sip_hash.SipKey.{SipKey}
use Rattle.tcp_host.specs.Homes as homes
use Rattle.tcp_host.specs.SipHash.{sip_hash}

abbrev pub slot : ℕ → ℕ
slot now = now / 64000000

-- eight sizes are told apart: the greatest one that isn't more than the peer's MSS, and 88 for all below
abbrev pub index_of : ℕ → ℕ
index_of mss =
    if nat_lt mss 536 then 0 else if nat_lt mss 964 then 1 else if nat_lt mss 1220 then 2 else if nat_lt mss 1300 then 3
    else if nat_lt mss 1400 then 4 else if nat_lt mss 1440 then 5 else if nat_lt mss 1460 then 6 else 7

abbrev pub size_of : ℕ → ℕ
size_of index =
    if nat_lt index 1 then 88 else if nat_lt index 2 then 536 else if nat_lt index 3 then 964 else if nat_lt index 4 then 1220
    else if nat_lt index 5 then 1300 else if nat_lt index 6 then 1400 else if nat_lt index 7 then 1440 else 1460

-- what is hashed: the ends, the peer's number, the size, the slot, and the length of all that
abbrev pub words : Endpoints → (peers slot index : ℕ) → List ℕ
words e peers slot index = homes.words e ++ (peers + index * 2 ^ 32) ∷ (slot % 2 ^ 56 + 56 * 2 ^ 56) ∷ []

unfoldable pub hash : SipKey → Endpoints → (peers slot index : ℕ) → ℕ
hash key e peers slot index = sip_hash key (words e peers slot index) % 2 ^ 24

abbrev pub cookie_of : SipKey → Endpoints → (peers slot index : ℕ) → ℕ
cookie_of key e peers slot index = slot % 32 * 2 ^ 27 + index * 2 ^ 24 + hash key e peers slot index

-- the number that answers a SYN with this number and MSS at an instant
abbrev pub cookie : SipKey → Endpoints → (peers now mss : ℕ) → ℕ
cookie key e peers now mss = cookie_of key e peers (slot now) (index_of mss)

-- a number is a cookie of a slot
abbrev pub index_in : ℕ → ℕ
index_in number = number / 2 ^ 24 % 8

abbrev pub is_of : SipKey → Endpoints → (peers slot number : ℕ) → Bool
is_of key e peers slot number = number == cookie_of key e peers slot (index_in number)

-- of this slot, or of one of the two before
abbrev pub is_cookie : SipKey → Endpoints → (peers now number : ℕ) → Bool
is_cookie key e peers now number =
    is_of key e peers (slot now) number || is_of key e peers (slot now - 1) number || is_of key e peers (slot now - 2) number

-- the MSS that a number tells, if it is one
abbrev pub size_in : SipKey → Endpoints → (peers now number : ℕ) → Option ℕ
size_in key e peers now number = if is_cookie key e peers now number then Some (size_of (index_in number)) else None

-- a cookie is known for two slots, 128 s, and tells the size
abbrev pub CookiesAreKnown : Type 0
CookiesAreKnown = (key : SipKey) (e : Endpoints) (peers made now mss : ℕ) → made ≤ now → slot now ≤ slot made + 2 →
    size_in key e peers now (cookie key e peers made mss) ≡ Some (size_of (index_of mss))

-- one that is older is not, until its slot has the same five bits again after 34 minutes: then a hash of 24 bits is left
abbrev pub OldCookiesAreUnknown : Type 0
OldCookiesAreUnknown = (key : SipKey) (e : Endpoints) (peers made now mss : ℕ) → slot made + 3 ≤ slot now → slot now ≤ slot made + 31 →
    size_in key e peers now (cookie key e peers made mss) ≡ None
