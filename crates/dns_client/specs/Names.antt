-- Names (RFC 1035 3.1, 4.1.4): labels one after another, up to an empty one, which ends the name, or up to a pointer to where
-- the rest of it stands. (Where an octet is missing it counts as 0.)
use Rattle.std.specs.Prelude.{ℕ, zero, suc, ◌+◌, ◌-◌, ◌*◌, ◌==◌, ◌&&◌, Bool, true, false, not, nat_le, nat_lt}
use Rattle.std.specs.Prelude.{Option, Some, None, List, [], ◌∷◌, length, slice_index, slice_range, if◌then◌else◌}
use Rattle.dns_client.specs.declared.name.Place.{Place}

-- the empty label, which ends a name
abbrev pub is_end : List ℕ → ℕ → Bool
is_end octets at = nat_lt at (length octets) && (slice_index octets at == 0)

-- a label is a length of 1 to 63, and as many octets, which are all there. Of the octets that a name may still have, it leaves
-- one at least, for the name's end
abbrev pub is_label : ℕ → List ℕ → ℕ → Bool
is_label room octets at =
    not (slice_index octets at == 0) && nat_lt (slice_index octets at) 64
    && nat_lt (at + slice_index octets at) (length octets) && nat_lt (slice_index octets at + 1) room

abbrev pub label : List ℕ → ℕ → List ℕ
label octets at = slice_range octets (at + 1) (at + 1 + slice_index octets at)

-- a pointer is two octets, of which the first two bits are ones, and the others an offset
abbrev pub target : List ℕ → ℕ → ℕ
target octets at = (slice_index octets at - 192) * 256 + slice_index octets (at + 1)

-- it goes back, to before the place where the name began, or where the pointer before it went
abbrev pub is_pointer : List ℕ → ℕ → ℕ → Bool
is_pointer octets start at =
    nat_lt (at + 1) (length octets) && nat_le 192 (slice_index octets at) && nat_lt (target octets at) start

unfoldable pub with_first : List ℕ → Option (List (List ℕ)) → Option (List (List ℕ))
with_first l None = None
with_first l (Some ls) = Some (l ∷ ls)

-- the labels of a name from a place of it on, which has room for so many octets, and takes at most so many steps
unfoldable pub labels_from : ℕ → List ℕ → ℕ → ℕ → ℕ → Option (List (List ℕ))
labels_from zero octets start at room = None
labels_from (suc steps) octets start at room =
    if is_end octets at then Some []
    else if is_label room octets at
    then with_first (label octets at) (labels_from steps octets start (at + 1 + slice_index octets at) (room - (slice_index octets at + 1)))
    else if is_pointer octets start at then labels_from steps octets (target octets at) (target octets at) room
    else None

-- the labels of the name at an offset: it has at most 255 octets (RFC 1035 2.3.4), and is made of at most 255 labels and pointers
abbrev pub labels_at : List ℕ → ℕ → Option (List (List ℕ))
labels_at octets at = labels_from 255 octets at at 255

abbrev pub is_some : Option (List (List ℕ)) → Bool
is_some None = false
is_some (Some ls) = true

-- a name stands at an offset
abbrev pub is_name : List ℕ → ℕ → Bool
is_name octets at = is_some (labels_at octets at)

-- where a name's octets end: after its empty label, or after its first pointer
unfoldable pub end_from : ℕ → List ℕ → ℕ → ℕ → ℕ
end_from zero octets at room = at
end_from (suc steps) octets at room =
    if is_end octets at then at + 1
    else if is_label room octets at
    then end_from steps octets (at + 1 + slice_index octets at) (room - (slice_index octets at + 1))
    else at + 2

abbrev pub end_of : List ℕ → ℕ → ℕ
end_of octets at = end_from 255 octets at 255

-- Names are the same if their labels are, whatever the case of their letters (RFC 1035 2.3.3, RFC 4343).

abbrev pub lower : ℕ → ℕ
lower c = if nat_le 65 c && nat_le c 90 then c + 32 else c

unfoldable pub is_same_label : List ℕ → List ℕ → Bool
is_same_label [] [] = true
is_same_label [] (y ∷ ys) = false
is_same_label (x ∷ xs) [] = false
is_same_label (x ∷ xs) (y ∷ ys) = (lower x == lower y) && is_same_label xs ys

-- they begin with the same octet; both are empty
abbrev pub begin_the_same : List ℕ → List ℕ → Bool
begin_the_same xs ys =
    nat_lt 0 (length xs) && nat_lt 0 (length ys) && (lower (slice_index xs 0) == lower (slice_index ys 0))

abbrev pub are_empty : List ℕ → List ℕ → Bool
are_empty xs ys = (length xs == 0) && (length ys == 0)

unfoldable pub are_same_labels : List (List ℕ) → List (List ℕ) → Bool
are_same_labels [] [] = true
are_same_labels [] (y ∷ ys) = false
are_same_labels (x ∷ xs) [] = false
are_same_labels (x ∷ xs) (y ∷ ys) = is_same_label x y && are_same_labels xs ys

unfoldable pub is_same : Option (List (List ℕ)) → Option (List (List ℕ)) → Bool
is_same None b = false
is_same (Some xs) None = false
is_same (Some xs) (Some ys) = are_same_labels xs ys

-- the names at two offsets are the same
abbrev pub is_same_name : List ℕ → ℕ → List ℕ → ℕ → Bool
is_same_name octets at others other_at = is_same (labels_at octets at) (labels_at others other_at)

-- the labels from a place of a reader on
abbrev pub labels_of : List ℕ → Place → Option (List (List ℕ))
labels_of octets p = labels_from p.steps octets p.start p.at p.room

-- what stands at a place, if the name may still have a step
abbrev pub has_end : List ℕ → Place → Bool
has_end octets p = nat_lt 0 p.steps && is_end octets p.at

abbrev pub has_label : List ℕ → Place → Bool
has_label octets p = nat_lt 0 p.steps && is_label p.room octets p.at

abbrev pub has_pointer : List ℕ → Place → Bool
has_pointer octets p = nat_lt 0 p.steps && is_pointer octets p.start p.at

abbrev pub after_label : List ℕ → Place → Place
after_label octets p = record p {
  at = p.at + 1 + slice_index octets p.at;
  room = p.room - (slice_index octets p.at + 1);
  steps = p.steps - 1;
}

abbrev pub after_pointer : List ℕ → Place → Place
after_pointer octets p = record p {
  start = target octets p.at;
  at = target octets p.at;
  steps = p.steps - 1;
}

-- labels stand at two places, and are the same
abbrev pub have_same_label : List ℕ → Place → List ℕ → Place → Bool
have_same_label octets p others q =
    has_label octets p && has_label others q && is_same_label (label octets p.at) (label others q.at)
