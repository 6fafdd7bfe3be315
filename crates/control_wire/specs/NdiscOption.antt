-- Options of neighbour discovery (RFC 4861 4.6): type, length in units of eight octets, the rest.
use Rattle.std.specs.Prelude.{ℕ, zero, suc, ◌*◌, ◌≤◌, ◌==◌, ◌||◌, Bool, true, IsTrue, List, [], ◌∷◌}
use Rattle.std.specs.Prelude.{length, drop, slice_index, slice_range, Option, Some, None, if◌then◌else◌}
use Rattle.std.specs.Borrow.{Bor}
use Rattle.std.specs.Option.{option_or}
use Rattle.std.specs.List.{All}
use Rattle.ip_address.specs.declared.ethernet_address.EthernetAddress.{EthernetAddress}
use Rattle.control_wire.specs.declared.ndisc_option.NdiscOptionType.{NdiscOptionType}
use Rattle.control_wire.specs.declared.ndisc_option.NdiscOptionType.TheVariants.{SourceLinkLayerAddr}
use Rattle.control_wire.specs.declared.ndisc_option.NdiscOptionType.TheVariants.{TargetLinkLayerAddr}

abbrev pub number_of : NdiscOptionType → ℕ
number_of SourceLinkLayerAddr = 1
number_of TargetLinkLayerAddr = 2

-- the length of the option that the octets begin with, in octets
abbrev pub option_len : List ℕ → ℕ
option_len octets = slice_index octets 1 * 8

-- the lengths that a type allows: 1 for an Ethernet link-layer address (types 1 and 2; RFC 2464 6), 4
-- for a prefix (type 3)
abbrev pub has_length : ℕ → ℕ → Bool
has_length type n = if (type == 1) || (type == 2) then n == 1 else if type == 3 then n == 4 else true

-- the octets begin with an option: its length isn't 0, it isn't cut off, and its type allows the length
pub record IsOption (octets : List ℕ) : Type 0 where
  pub header : 2 ≤ length octets
  pub some : 1 ≤ slice_index octets 1
  pub fits : option_len octets ≤ length octets
  pub allowed : IsTrue (has_length (slice_index octets 0) (slice_index octets 1))

-- what follows it
abbrev pub after_option : List ℕ → List ℕ
after_option octets = drop (option_len octets) octets

-- the octets from each option on: the next one begins where the length of the one before says; at most this many
unfoldable pub options_from : ℕ → List ℕ → List (List ℕ)
options_from zero octets = []
options_from (suc n) [] = []
options_from (suc n) (x ∷ xs) = (x ∷ xs) ∷ options_from n (after_option (x ∷ xs))

-- there are no more options than octets
abbrev pub options_in : List ℕ → List (List ℕ)
options_in octets = options_from (length octets) octets

-- the octets are options, one after another
abbrev pub AreOptions : List ℕ → Type 0
AreOptions octets = All IsOption (options_in octets)

-- octets, apart from where they are in memory
abbrev pub octets_of : Bor (List ℕ) → List ℕ
octets_of p = p.now

-- the link-layer address in the option that the octets begin with
abbrev pub address_in : List ℕ → EthernetAddress
address_in octets = record { 0 = slice_range octets 2 8 }

-- the value of the last option of a type
unfoldable pub last_of : {A : Type 0} → (List ℕ → A) → ℕ → List (List ℕ) → Option A
last_of read type [] = None
last_of read type (o ∷ os) = option_or (last_of read type os) (if slice_index o 0 == type then Some (read o) else None)

-- the link-layer address in the last option of a type
abbrev pub lladdr_in : ℕ → List ℕ → Option EthernetAddress
lladdr_in type octets = last_of address_in type (options_in octets)

-- the text of an option with a link-layer address
unfoldable pub lladdr_text : ℕ → EthernetAddress → List ℕ
lladdr_text type address = type ∷ 1 ∷ address.0
