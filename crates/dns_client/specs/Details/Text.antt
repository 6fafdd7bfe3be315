-- Names as people write them: labels with dots, 46, between them (RFC 1035 2.3.1).
use Rattle.std.specs.Prelude.{ℕ, ◌≡◌, ◌+◌, ◌-◌, ◌==◌, ◌&&◌, nat_le, nat_lt, Bool, true, List, [], ◌∷◌, ◌++◌, length, take, slice_index}
use Rattle.std.specs.Prelude.{Option, Some, None, if◌then◌else◌}
use Rattle.std.specs.List.{slice_split}
use Rattle.dns_client.specs.Message.{is_whole_name}
use Rattle.dns_client.specs.Names.{labels_at}

abbrev pub is_dot : ℕ → Bool
is_dot c = c == 46

-- a dot at the end is left out: www.example.com. is www.example.com
abbrev pub without_dot : List ℕ → List ℕ
without_dot text = if is_dot (slice_index text (length text - 1)) then take (length text - 1) text else text

abbrev pub labels_in : List ℕ → List (List ℕ)
labels_in text = slice_split is_dot (without_dot text)

-- a label has 1 to 63 octets (RFC 1035 2.3.4)
abbrev pub is_label : List ℕ → Bool
is_label l = nat_lt 0 (length l) && nat_le (length l) 63

unfoldable pub are_labels : List (List ℕ) → Bool
are_labels [] = true
are_labels (l ∷ ls) = is_label l && are_labels ls

-- a length stands before each label, and 0 at the end (RFC 1035 3.1)
unfoldable pub octets_of : List (List ℕ) → List ℕ
octets_of [] = 0 ∷ []
octets_of (l ∷ ls) = (length l ∷ l) ++ octets_of ls

-- a name that begins with some octets, of which labels follow, if it has at most 255
abbrev pub name_by : List ℕ → List (List ℕ) → Option (List ℕ)
name_by front ls = if are_labels ls && nat_le (length front + length (octets_of ls)) 255 then Some (front ++ octets_of ls) else None

abbrev pub name_in : List ℕ → Option (List ℕ)
name_in text = name_by [] (labels_in text)

-- what is written is read as the same labels, nothing else stands behind them, and it is no longer than a name may be
pub record IsReadAs (labels : List (List ℕ)) (name : List ℕ) : Type 0 where
  pub within : nat_le (length name) 255 ≡ true
  pub whole : is_whole_name name ≡ true
  pub labels_are : labels_at name 0 ≡ Some labels

abbrev pub TextReadAgain : Type 0
TextReadAgain = (text name : List ℕ) → name_in text ≡ Some name → IsReadAs (labels_in text) name
