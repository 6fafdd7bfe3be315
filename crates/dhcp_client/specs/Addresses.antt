-- Which addresses a client takes (RFC 1122 3.2.1.3, RFC 3021).
use Rattle.std.specs.Prelude.{ℕ, ◌≡◌, ◌-◌, ◌/◌, ◌%◌, ◌+◌, ◌^◌, ◌==◌, ◌&&◌, ◌||◌, nat_lt, not, Bool, true, false, refl}
use Rattle.std.specs.Prelude.{List, [], ◌∷◌, get_or, Option, Some, None, if◌then◌else◌}
use Rattle.ip_address.specs.Ipv4.{address_of}
use Rattle.ip_address.specs.declared.ipv4.Ipv4Address.{Ipv4Address}

-- one host's address: not of 0/8 (this network), 127/8 (loopback), 224/4 (multicast) or 240/4 (reserved, and the broadcast address)
abbrev pub first_octet : Ipv4Address → ℕ
first_octet a = a.bits / 2 ^ 24

abbrev pub is_host_address : Ipv4Address → Bool
is_host_address a = nat_lt 0 (first_octet a) && nat_lt (first_octet a) 224 && not (first_octet a == 127)

-- how many addresses a mask's network has
abbrev pub addresses_of : Ipv4Address → ℕ
addresses_of mask = 2 ^ 32 - mask.bits

-- a mask is ones and then zeros, and not zeros alone: networks of its size make up all addresses
abbrev pub is_mask : Ipv4Address → Bool
is_mask mask = not (mask.bits == 0) && (2 ^ 32 % addresses_of mask == 0)

abbrev pub mask_of : Option Ipv4Address → Option Ipv4Address
mask_of None = None
mask_of (Some mask) = if is_mask mask then Some mask else None

-- of more than two addresses the first is the network's own, and the last one its broadcast address
abbrev pub is_first_or_last : ℕ → ℕ → Bool
is_first_or_last place count = (place == 0) || (place + 1 == count)

abbrev pub is_networks : Ipv4Address → Option Ipv4Address → Bool
is_networks a None = false
is_networks a (Some mask) = nat_lt 2 (addresses_of mask) && is_first_or_last (a.bits % addresses_of mask) (addresses_of mask)

-- an address that a host of a network with this mask can have
abbrev pub is_leasable : Ipv4Address → Option Ipv4Address → Bool
is_leasable a mask = is_host_address a && not (is_networks a (mask_of mask))

-- another host's address
abbrev pub is_other : Ipv4Address → Ipv4Address → Bool
is_other own a = is_host_address a && not (a.bits == own.bits)

abbrev pub other_in : Ipv4Address → Option Ipv4Address → Option Ipv4Address
other_in own None = None
other_in own (Some a) = if is_other own a then Some a else None

-- three places without gaps, in the same order
abbrev pub without_gaps : Option Ipv4Address → Option Ipv4Address → Option Ipv4Address → List (Option Ipv4Address)
without_gaps (Some a) (Some b) c = Some a ∷ Some b ∷ c ∷ []
without_gaps (Some a) None c = Some a ∷ c ∷ None ∷ []
without_gaps None (Some b) c = Some b ∷ c ∷ None ∷ []
without_gaps None None c = c ∷ None ∷ None ∷ []

-- the other hosts' addresses in three places
abbrev pub others_in : Ipv4Address → List (Option Ipv4Address) → List (Option Ipv4Address)
others_in own list = without_gaps (other_in own (get_or list 0 None)) (other_in own (get_or list 1 None)) (other_in own (get_or list 2 None))

-- Examples, and what must not be.

pub a_host : is_host_address (address_of 192 168 69 105) ≡ true
a_host = refl

pub not_loopback : is_host_address (address_of 127 0 0 1) ≡ false
not_loopback = refl

pub not_reserved : is_host_address (address_of 240 0 0 1) ≡ false
not_reserved = refl

pub a_mask : is_mask (address_of 255 255 252 0) ≡ true
a_mask = refl

pub not_a_mask : is_mask (address_of 255 0 255 0) ≡ false
not_a_mask = refl

pub a_lease : is_leasable (address_of 192 168 69 105) (Some (address_of 255 255 255 0)) ≡ true
a_lease = refl

pub not_its_broadcast : is_leasable (address_of 192 168 69 255) (Some (address_of 255 255 255 0)) ≡ false
not_its_broadcast = refl

-- of a network of two addresses both are hosts' (RFC 3021)
pub one_of_two : is_leasable (address_of 192 168 69 255) (Some (address_of 255 255 255 254)) ≡ true
one_of_two = refl

-- the client itself, 10.0.0.9, and 0.0.0.0 are no servers of names
pub two_of_three : others_in (address_of 10 0 0 9) (Some (address_of 10 0 0 9) ∷ Some (address_of 10 0 0 2) ∷ Some (address_of 0 0 0 0) ∷ [])
    ≡ Some (address_of 10 0 0 2) ∷ None ∷ None ∷ []
two_of_three = refl
