-- The options of TCP segments (RFC 9293 3.1, 3.2): maximum segment size (3.7.1), window scale and timestamps (RFC 7323 2, 3),
-- selective acknowledgements (RFC 2018).
use Rattle.std.specs.Prelude.{◌≡◌, ℕ, zero, suc, ◌+◌, ◌-◌, ◌*◌, ◌/◌, ◌^◌, ◌<◌, ◌≤◌, ◌==◌, ◌&&◌, ◌||◌, Bool, true, false}
use Rattle.std.specs.Prelude.{not, nat_le, min, Option, Some, None, is_some, IsNone, unwrap_or, List, [], ◌∷◌, ◌++◌}
use Rattle.std.specs.Prelude.{length, take, slice_index, if◌then◌else◌}
use Rattle.std.specs.Int.{w16, w32, to_be_bytes}
use Rattle.std.specs.List.{All, flat_map, filter_map}
use Rattle.std.specs.Option.{option_map, option_or}
use Rattle.ip_wire.specs.Octets.{u16_at, u32_at}
use Rattle.tcp_wire.specs.declared.options.SackRange.{SackRange}
use Rattle.tcp_wire.specs.declared.options.TcpTimestamp.{TcpTimestamp}
use Rattle.tcp_wire.specs.declared.options.TcpOptions.{TcpOptions}

-- Kinds: 0 ends the list, 1 is NOP, 2 maximum segment size, 3 window scale, 4 SACK permitted, 5 SACK, 8 timestamps.

-- the lengths that a kind allows, in octets: SACK has two octets, and eight for each block; a kind that isn't known has
-- at least its kind and its length
abbrev pub has_length : ℕ → ℕ → Bool
has_length kind len =
    if kind == 1 then len == 1 else
    if kind == 2 then len == 4 else
    if kind == 3 then len == 3 else
    if kind == 4 then len == 2 else
    if kind == 5 then (len == 10) || (len == 18) || (len == 26) || (len == 34) else
    if kind == 8 then len == 10 else nat_le 2 len

-- the length of the option that the octets begin with: NOP is one octet, any other option tells it behind its kind
abbrev pub option_len : List ℕ → ℕ
option_len octets = if slice_index octets 0 == 1 then 1 else slice_index octets 1

-- the octets begin with an option: the list doesn't end here, the option isn't cut off, and its kind allows its length
-- (where an octet is missing it counts as 0)
abbrev pub begins_option : List ℕ → Bool
begins_option octets = not (slice_index octets 0 == 0) && nat_le (option_len octets) (length octets)
    && has_length (slice_index octets 0) (option_len octets)

-- the options in what follows the first `skip` octets, one after another, up to the first place where none begins
unfoldable pub options_after : ℕ → List ℕ → List (List ℕ)
options_after skip [] = []
options_after (suc skip) (x ∷ xs) = options_after skip xs
options_after zero (x ∷ xs) = if begins_option (x ∷ xs)
    then take (option_len (x ∷ xs)) (x ∷ xs) ∷ options_after (option_len (x ∷ xs) - 1) xs else []

-- the last option of a kind
unfoldable pub last_of : ℕ → List (List ℕ) → Option (List ℕ)
last_of kind [] = None
last_of kind (o ∷ os) = option_or (last_of kind os) (if slice_index o 0 == kind then Some o else None)

-- a shift above 14 counts as 14 (RFC 7323 2.3)
abbrev pub scale_in : List ℕ → ℕ
scale_in option = min (slice_index option 2) 14

-- the block at an offset: its left and its right edge (RFC 2018 3)
abbrev pub range_at : List ℕ → ℕ → Option SackRange
range_at option at = if nat_le (at + 8) (length option)
    then Some (record { left = record { bits = u32_at option at }; right = record { bits = u32_at option (at + 4) } }) else None

abbrev pub ranges_in : List ℕ → List (Option SackRange)
ranges_in option = range_at option 2 ∷ range_at option 10 ∷ range_at option 18 ∷ range_at option 26 ∷ []

abbrev pub no_ranges : List (Option SackRange)
no_ranges = None ∷ None ∷ None ∷ None ∷ []

-- TSval, and TSecr (RFC 7323 3.2)
abbrev pub timestamp_in : List ℕ → TcpTimestamp
timestamp_in option = record { value = u32_at option 2; echo = u32_at option 6 }

-- the values of some options: of each kind the last one counts
abbrev pub values_of : List (List ℕ) → TcpOptions
values_of options = record {
  max_seg_size = option_map (λ o. u16_at o 2) (last_of 2 options);
  window_scale = option_map scale_in (last_of 3 options);
  sack_permitted = is_some (last_of 4 options);
  sack_ranges = unwrap_or (option_map ranges_in (last_of 5 options)) no_ranges;
  timestamp = option_map timestamp_in (last_of 8 options);
}

-- the values of a list of options; what doesn't begin an option ends the list
abbrev pub options_in : List ℕ → TcpOptions
options_in octets = values_of (options_after 0 octets)

abbrev pub no_options : TcpOptions
no_options = record { max_seg_size = None; window_scale = None; sack_permitted = false; sack_ranges = no_ranges; timestamp = None }

-- the values with one option more, which counts over those before it
abbrev pub with_option : List ℕ → TcpOptions → TcpOptions
with_option o before = record {
  max_seg_size = if slice_index o 0 == 2 then Some (u16_at o 2) else before.max_seg_size;
  window_scale = if slice_index o 0 == 3 then Some (scale_in o) else before.window_scale;
  sack_permitted = if slice_index o 0 == 4 then true else before.sack_permitted;
  sack_ranges = if slice_index o 0 == 5 then ranges_in o else before.sack_ranges;
  timestamp = if slice_index o 0 == 8 then Some (timestamp_in o) else before.timestamp;
}

-- Their text: each option ends a word of four octets, and NOPs fill the word before it (RFC 7323 A); SACK permitted takes
-- the place of the NOPs before timestamps.

unfoldable pub size_text : Option ℕ → List ℕ
size_text None = []
size_text (Some size) = 2 ∷ 4 ∷ to_be_bytes w16 size

-- two octets: SACK permitted, or NOPs
abbrev pub filler : Bool → List ℕ
filler permitted = if permitted then 4 ∷ 2 ∷ [] else 1 ∷ 1 ∷ []

unfoldable pub timestamp_text : Bool → Option TcpTimestamp → List ℕ
timestamp_text permitted (Some t) = filler permitted ++ 8 ∷ 10 ∷ (to_be_bytes w32 t.value ++ to_be_bytes w32 t.echo)
timestamp_text true None = 1 ∷ 1 ∷ 4 ∷ 2 ∷ []
timestamp_text false None = []

unfoldable pub scale_text : Option ℕ → List ℕ
scale_text None = []
scale_text (Some shift) = 1 ∷ 3 ∷ 3 ∷ shift ∷ []

-- the options before SACK, at most 20 octets
abbrev pub front_text : TcpOptions → List ℕ
front_text o = size_text o.max_seg_size ++ timestamp_text o.sack_permitted o.timestamp ++ scale_text o.window_scale

-- options have 40 octets; after others of this length, and the four before the blocks, so many blocks of eight fit
abbrev pub room_after : ℕ → ℕ
room_after len = (36 - len) / 8

-- the ranges that are there
abbrev pub ranges_of : List (Option SackRange) → List SackRange
ranges_of places = filter_map (λ p. p) places

unfoldable pub range_text : SackRange → List ℕ
range_text r = to_be_bytes w32 r.left.bits ++ to_be_bytes w32 r.right.bits

unfoldable pub sack_text : List SackRange → List ℕ
sack_text [] = []
sack_text (r ∷ rs) = 1 ∷ 1 ∷ 5 ∷ (2 + 8 * length (r ∷ rs)) ∷ flat_map range_text (r ∷ rs)

-- the ranges that are sent: the first ones, as many as fit (RFC 2018 3, 4)
abbrev pub sent_ranges : TcpOptions → List SackRange
sent_ranges o = take (room_after (length (front_text o))) (ranges_of o.sack_ranges)

-- the text of options, at most 40 octets and a multiple of four
abbrev pub options_text : TcpOptions → List ℕ
options_text o = front_text o ++ sack_text (sent_ranges o)

-- the options of a segment without SYN
abbrev pub later_options : Option TcpTimestamp → List (Option SackRange) → TcpOptions
later_options t places = record { max_seg_size = None; window_scale = None; sack_permitted = false; sack_ranges = places; timestamp = t }

-- without SYN four blocks fit, or three beside timestamps (RFC 2018 3)
abbrev pub BlocksFit : Type 0
BlocksFit = (places : List (Option SackRange)) (t : TcpTimestamp) →
    (sent_ranges (later_options None places) ≡ take 4 (ranges_of places))
    × (sent_ranges (later_options (Some t) places) ≡ take 3 (ranges_of places))

-- numbers that a block can have
abbrev pub IsRange : SackRange → Type 0
IsRange r = (r.left.bits < 2 ^ 32) × (r.right.bits < 2 ^ 32)

-- after a place without a range there is no range
unfoldable pub InFront : List (Option SackRange) → Type 0
InFront [] = Unit
InFront (None ∷ places) = All (λ p. IsNone p) places
InFront (Some r ∷ places) = InFront places

abbrev pub IsTimestamp : Option TcpTimestamp → Type 0
IsTimestamp None = Unit
IsTimestamp (Some t) = (t.value < 2 ^ 32) × (t.echo < 2 ^ 32)

-- values that options can have, and that fit
pub record AreOptions (o : TcpOptions) : Type 0 where
  pub size : unwrap_or o.max_seg_size 0 < 2 ^ 16
  pub scale : unwrap_or o.window_scale 0 ≤ 14
  pub timestamp : IsTimestamp o.timestamp
  pub places : length o.sack_ranges ≡ 4
  pub in_front : InFront o.sack_ranges
  pub ranges : All IsRange (ranges_of o.sack_ranges)
  pub fit : length (ranges_of o.sack_ranges) ≤ room_after (length (front_text o))
