-- Names are read label by label.
use Rattle.std.proofs.Common.{◌≡◌, ℕ, zero, suc, ◌+◌, ◌-◌, ◌<◌, ◌≤◌, Bool, true, false, ◌&&◌, List, [], ◌∷◌}
use Rattle.std.proofs.Common.{Option, Some, None, length, drop, refl, sym, ap, ◌∙◌, arith}
use Rattle.std.specs.Prelude.{◌==◌, nat_lt, slice_index}
use Rattle.std.proofs.lemmas.Bool.Decides.{nat_tests}
use Rattle.std.proofs.lemmas.Bool.{and_parts}
use Rattle.dns_client.specs.declared.name.Place.{Place}
use Rattle.dns_client.specs.Names.{is_end, is_label, label, target, is_pointer, with_first, labels_from, is_some, end_from}
use Rattle.dns_client.specs.Names.{lower, is_same_label, are_same_labels, is_same, labels_of, has_end, has_label, has_pointer}
use Rattle.dns_client.specs.Names.{after_label, after_pointer, have_same_label, begin_the_same, are_empty}

-- of end, label and pointer only one stands at a place
pub label_no_end : (octets : List ℕ) (room at : ℕ) → is_label room octets at ≡ true → is_end octets at ≡ false
label_no_end octets room at h = grind (arith, nat_tests, h)

pointer_no_end : (octets : List ℕ) (start at : ℕ) → is_pointer octets start at ≡ true → is_end octets at ≡ false
pointer_no_end octets start at h = grind (arith, nat_tests, h)

pointer_no_label : (octets : List ℕ) (room start at : ℕ) → is_pointer octets start at ≡ true → is_label room octets at ≡ false
pointer_no_label octets room start at h = grind (arith, nat_tests, h)

pub by_end : (steps : ℕ) (octets : List ℕ) (start at room : ℕ) → is_end octets at ≡ true → labels_from (suc steps) octets start at room ≡ Some []
unfolding labels_from
by_end steps octets start at room h = rw h refl

pub by_label : (steps : ℕ) (octets : List ℕ) (start at room : ℕ) → is_label room octets at ≡ true →
    labels_from (suc steps) octets start at room
    ≡ with_first (label octets at) (labels_from steps octets start (at + 1 + slice_index octets at) (room - (slice_index octets at + 1)))
unfolding labels_from
by_label steps octets start at room h = rw (label_no_end octets room at h, h) refl

pub by_pointer : (steps : ℕ) (octets : List ℕ) (start at room : ℕ) → is_pointer octets start at ≡ true →
    labels_from (suc steps) octets start at room ≡ labels_from steps octets (target octets at) (target octets at) room
unfolding labels_from
by_pointer steps octets start at room h = rw (pointer_no_end octets start at h, pointer_no_label octets room start at h, h) refl

pub by_none : (steps : ℕ) (octets : List ℕ) (start at room : ℕ) → is_end octets at ≡ false → is_label room octets at ≡ false →
    is_pointer octets start at ≡ false → labels_from (suc steps) octets start at room ≡ None
unfolding labels_from
by_none steps octets start at room e l p = rw (e, l, p) refl

pub no_steps : (octets : List ℕ) (start at room : ℕ) → labels_from 0 octets start at room ≡ None
unfolding labels_from
no_steps octets start at room = refl

-- The same at places of a reader.

back : (n : ℕ) → n ≡ suc n - 1
back n = omega arith

counts : (steps : ℕ) → nat_lt 0 (suc steps) ≡ true
counts steps = grind (arith, nat_tests)

tested : (steps : ℕ) (b : Bool) → b ≡ (nat_lt 0 (suc steps) && b)
tested steps b = rw (counts steps) refl

pub none_left : (n : ℕ) → (suc n == 0) ≡ false
none_left n = grind (arith, nat_tests)

third : (a b c : Bool) → a ≡ true → b ≡ true → (a && b && c) ≡ false → c ≡ false
third true true c ea eb h = h
third true false c ea eb h = absurd (cc)
third false b c ea eb h = absurd (cc)

at_end : (steps : ℕ) (octets : List ℕ) (start at room : ℕ) → (nat_lt 0 steps && is_end octets at) ≡ true →
    labels_from steps octets start at room ≡ Some []
at_end zero octets start at room h = absurd (cc)
at_end (suc steps) octets start at room h = by_end steps octets start at room (and_parts _ _ h).1

pub end_here : (octets : List ℕ) (p : Place) → has_end octets p ≡ true → labels_of octets p ≡ Some []
end_here octets p h = at_end p.steps octets p.start p.at p.room h

at_label : (steps : ℕ) (octets : List ℕ) (start at room : ℕ) → (nat_lt 0 steps && is_label room octets at) ≡ true →
    labels_from steps octets start at room
    ≡ with_first (label octets at) (labels_from (steps - 1) octets start (at + 1 + slice_index octets at) (room - (slice_index octets at + 1)))
at_label zero octets start at room h = absurd (cc)
at_label (suc steps) octets start at room h =
    by_label steps octets start at room (and_parts _ _ h).1
    ∙ ap (λ (k : ℕ). with_first (label octets at) (labels_from k octets start (at + 1 + slice_index octets at) (room - (slice_index octets at + 1))))
    (back steps)

pub label_here : (octets : List ℕ) (p : Place) → has_label octets p ≡ true →
    labels_of octets p ≡ with_first (label octets p.at) (labels_of octets (after_label octets p))
label_here octets p h = at_label p.steps octets p.start p.at p.room h

at_pointer : (steps : ℕ) (octets : List ℕ) (start at room : ℕ) → (nat_lt 0 steps && is_pointer octets start at) ≡ true →
    labels_from steps octets start at room ≡ labels_from (steps - 1) octets (target octets at) (target octets at) room
at_pointer zero octets start at room h = absurd (cc)
at_pointer (suc steps) octets start at room h =
    by_pointer steps octets start at room (and_parts _ _ h).1
    ∙ ap (λ (k : ℕ). labels_from k octets (target octets at) (target octets at) room) (back steps)

pub pointer_here : (octets : List ℕ) (p : Place) → has_pointer octets p ≡ true → labels_of octets p ≡ labels_of octets (after_pointer octets p)
pointer_here octets p h = at_pointer p.steps octets p.start p.at p.room h

at_none : (steps : ℕ) (octets : List ℕ) (start at room : ℕ) → (nat_lt 0 steps && is_end octets at) ≡ false →
    (nat_lt 0 steps && is_label room octets at) ≡ false → (nat_lt 0 steps && is_pointer octets start at) ≡ false →
    labels_from steps octets start at room ≡ None
at_none zero octets start at room e l p = no_steps octets start at room
at_none (suc steps) octets start at room e l p =
    by_none steps octets start at room (tested steps _ ∙ e) (tested steps _ ∙ l) (tested steps _ ∙ p)

pub none_here : (octets : List ℕ) (p : Place) → has_end octets p ≡ false → has_label octets p ≡ false → has_pointer octets p ≡ false →
    labels_of octets p ≡ None
none_here octets p e l h = at_none p.steps octets p.start p.at p.room e l h

-- Whether a name stands there.

pub some_first : (l : List ℕ) (a : Option (List (List ℕ))) → is_some (with_first l a) ≡ is_some a
unfolding with_first
some_first l None = refl
some_first l (Some ls) = refl

-- a name stands at a label if it goes on behind it
pub name_next : (octets : List ℕ) (p q : Place) → has_label octets p ≡ true → labels_of octets q ≡ labels_of octets (after_label octets p) →
    is_some (labels_of octets q) ≡ is_some (labels_of octets p)
name_next octets p q h e =
    ap is_some e ∙ sym (some_first (label octets p.at) (labels_of octets (after_label octets p))) ∙ sym (ap is_some (label_here octets p h))

last_name : (b : Bool) (octets : List ℕ) (p : Place) → has_end octets p ≡ b → has_label octets p ≡ false → has_pointer octets p ≡ false →
    b ≡ is_some (labels_of octets p)
last_name true octets p e l h = sym (ap is_some (end_here octets p e))
last_name false octets p e l h = sym (ap is_some (none_here octets p e l h))

-- where there is no label, it has to end
pub name_ends : (octets : List ℕ) (p : Place) → has_label octets p ≡ false → has_pointer octets p ≡ false →
    has_end octets p ≡ is_some (labels_of octets p)
name_ends octets p l h = last_name (has_end octets p) octets p refl l h

-- Whether two names are the same.

first_same : (x y : List ℕ) (a b : Option (List (List ℕ))) → is_same_label x y ≡ true → is_same (with_first x a) (with_first y b) ≡ is_same a b
unfolding with_first is_same are_same_labels
first_same x y None b h = refl
first_same x y (Some xs) None h = refl
first_same x y (Some xs) (Some ys) h = rw h refl

first_other : (x y : List ℕ) (a b : Option (List (List ℕ))) → is_same_label x y ≡ false → is_same (with_first x a) (with_first y b) ≡ false
unfolding with_first is_same are_same_labels
first_other x y None b h = refl
first_other x y (Some xs) None h = refl
first_other x y (Some xs) (Some ys) h = rw h refl

-- after the same label two names are the same if they are behind it
pub same_next : (octets others : List ℕ) (p q r s : Place) → have_same_label octets p others q ≡ true →
    labels_of octets r ≡ labels_of octets (after_label octets p) → labels_of others s ≡ labels_of others (after_label others q) →
    is_same (labels_of octets r) (labels_of others s) ≡ is_same (labels_of octets p) (labels_of others q)
same_next octets others p q r s h er es =
    let both = and_parts _ _ h in
    let labels = and_parts _ _ both.0 in
    rw (er, es, label_here octets p labels.0, label_here others q labels.1)
    (sym (first_same (label octets p.at) (label others q.at) (labels_of octets (after_label octets p)) (labels_of others (after_label others q)) both.1))

nothing : (a : Option (List (List ℕ))) → is_same a None ≡ false
unfolding is_same
nothing None = refl
nothing (Some xs) = refl

nothing_first : (a : Option (List (List ℕ))) → is_same None a ≡ false
unfolding is_same
nothing_first a = refl

end_first : (y : List ℕ) (b : Option (List (List ℕ))) → is_same (Some []) (with_first y b) ≡ false
unfolding is_same with_first are_same_labels
end_first y None = refl
end_first y (Some ys) = refl

first_end : (x : List ℕ) (a : Option (List (List ℕ))) → is_same (with_first x a) (Some []) ≡ false
unfolding is_same with_first are_same_labels
first_end x None = refl
first_end x (Some xs) = refl

both_end : is_same (Some []) (Some []) ≡ true
unfolding is_same are_same_labels
both_end = refl

-- what stands at a place that no pointer is at: the name's end, a label, or no name
data Here (octets : List ℕ) (p : Place) : Type 0 where
  End : has_end octets p ≡ true → has_label octets p ≡ false → labels_of octets p ≡ Some [] → Here octets p
  Label : has_end octets p ≡ false → has_label octets p ≡ true → labels_of octets p ≡ with_first (label octets p.at) (labels_of octets (after_label octets p)) → Here octets p
  Nothing : has_end octets p ≡ false → has_label octets p ≡ false → labels_of octets p ≡ None → Here octets p

label_is_no_end : (octets : List ℕ) (p : Place) → has_label octets p ≡ true → has_end octets p ≡ false
label_is_no_end octets p h = grind (arith, nat_tests, h)

here_if : (l e : Bool) (octets : List ℕ) (p : Place) → has_pointer octets p ≡ false → has_label octets p ≡ l → has_end octets p ≡ e → Here octets p
here_if true e octets p h il ie = Label (label_is_no_end octets p il) il (label_here octets p il)
here_if false true octets p h il ie = End ie il (end_here octets p ie)
here_if false false octets p h il ie = Nothing ie il (none_here octets p ie il h)

here : (octets : List ℕ) (p : Place) → has_pointer octets p ≡ false → Here octets p
here octets p h = here_if (has_label octets p) (has_end octets p) octets p h refl refl

ends_here : (octets others : List ℕ) (p q : Place) → Here octets p → Here others q → have_same_label octets p others q ≡ false →
    (has_end octets p && has_end others q) ≡ is_same (labels_of octets p) (labels_of others q)
ends_here octets others p q (End e l is) (End f m js) h = rw (e, f, is, js) (sym both_end)
ends_here octets others p q (End e l is) (Label f m js) h = rw (e, f, is, js) (sym (end_first _ _))
ends_here octets others p q (End e l is) (Nothing f m js) h = rw (e, f, is, js) (sym (nothing _))
ends_here octets others p q (Label e l is) (End f m js) h = rw (e, is, js) (sym (first_end _ _))
ends_here octets others p q (Label e l is) (Nothing f m js) h = rw (e, is, js) (sym (nothing _))
ends_here octets others p q (Nothing e l is) y h = rw (e, is) (sym (nothing_first _))
ends_here octets others p q (Label e l is) (Label f m js) h =
    let other : is_same_label (label octets p.at) (label others q.at) ≡ false = third _ _ _ l m h in
    rw (e, is, js) (sym (first_other _ _ _ _ other))

-- where no same label stands, both have to end
pub names_end : (octets others : List ℕ) (p q : Place) → has_pointer octets p ≡ false → has_pointer others q ≡ false →
    have_same_label octets p others q ≡ false → (has_end octets p && has_end others q) ≡ is_same (labels_of octets p) (labels_of others q)
names_end octets others p q h k n = ends_here octets others p q (here octets p h) (here others q k) n

-- Labels, octet by octet.

pub octet_next : (xs ys us vs : List ℕ) → begin_the_same xs ys ≡ true → us ≡ drop 1 xs → vs ≡ drop 1 ys →
    is_same_label us vs ≡ is_same_label xs ys
unfolding is_same_label
octet_next [] ys us vs h eu ev = absurd (cc)
octet_next (x ∷ xs) [] us vs h eu ev = let bad : false ≡ true = sym (ap (λ (b : Bool). b && false && (lower x == lower 0)) (counts (length xs))) ∙ h in absurd (cc)
octet_next (x ∷ xs) (y ∷ ys) us vs h eu ev =
    let same : (lower x == lower y) ≡ true = (and_parts _ _ h).1 in rw (eu, ev, same) refl

pub octets_end : (xs ys : List ℕ) → begin_the_same xs ys ≡ false → are_empty xs ys ≡ is_same_label xs ys
unfolding is_same_label
octets_end [] [] h = refl
octets_end [] (y ∷ ys) h = none_left (length ys)
octets_end (x ∷ xs) [] h = rw (none_left (length xs)) refl
octets_end (x ∷ xs) (y ∷ ys) h =
    let other : (lower x == lower y) ≡ false = third _ _ _ (counts (length xs)) (counts (length ys)) h in
    rw (other, none_left (length xs)) refl

-- Where a name's octets end.

at_label_end : (steps : ℕ) (octets : List ℕ) (at room : ℕ) → (nat_lt 0 steps && is_label room octets at) ≡ true →
    end_from (steps - 1) octets (at + 1 + slice_index octets at) (room - (slice_index octets at + 1)) ≡ end_from steps octets at room
unfolding end_from
at_label_end zero octets at room h = absurd (cc)
at_label_end (suc steps) octets at room h =
    let l : is_label room octets at ≡ true = (and_parts _ _ h).1 in
    rw (label_no_end octets room at l, l)
    (ap (λ (k : ℕ). end_from k octets (at + 1 + slice_index octets at) (room - (slice_index octets at + 1))) (sym (back steps)))

pub end_next : (octets : List ℕ) (p : Place) → has_label octets p ≡ true →
    end_from (after_label octets p).steps octets (after_label octets p).at (after_label octets p).room ≡ end_from p.steps octets p.at p.room
end_next octets p h = at_label_end p.steps octets p.at p.room h

pub end_spent : (octets : List ℕ) (p : Place) → p.steps ≡ 0 → p.at ≡ end_from p.steps octets p.at p.room
unfolding end_from
end_spent octets p e = rw e refl

at_end_end : (steps : ℕ) (octets : List ℕ) (at room : ℕ) → (nat_lt 0 steps && is_end octets at) ≡ true → at + 1 ≡ end_from steps octets at room
unfolding end_from
at_end_end zero octets at room h = absurd (cc)
at_end_end (suc steps) octets at room h = let e : is_end octets at ≡ true = (and_parts _ _ h).1 in rw e refl

pub end_ended : (octets : List ℕ) (p : Place) → has_end octets p ≡ true → p.at + 1 ≡ end_from p.steps octets p.at p.room
end_ended octets p h = at_end_end p.steps octets p.at p.room h

at_pointer_end : (steps : ℕ) (octets : List ℕ) (at room : ℕ) → 0 < steps → (nat_lt 0 steps && is_end octets at) ≡ false →
    (nat_lt 0 steps && is_label room octets at) ≡ false → at + 2 ≡ end_from steps octets at room
unfolding end_from
at_pointer_end zero octets at room s e l = absurd (omega (arith, s))
at_pointer_end (suc steps) octets at room s e l =
    let no_end : is_end octets at ≡ false = tested steps _ ∙ e in
    let no_label : is_label room octets at ≡ false = tested steps _ ∙ l in
    rw (no_end, no_label) refl

pub end_pointed : (octets : List ℕ) (p : Place) → 0 < p.steps → has_end octets p ≡ false → has_label octets p ≡ false →
    p.at + 2 ≡ end_from p.steps octets p.at p.room
end_pointed octets p s e l = at_pointer_end p.steps octets p.at p.room s e l

-- past the last octet there is no name
pub outside : (octets : List ℕ) (at : ℕ) → length octets < at → is_some (labels_from 255 octets at at 255) ≡ false
outside octets at h =
    let e : is_end octets at ≡ false = grind (arith, nat_tests, h) in
    let l : is_label 255 octets at ≡ false = grind (arith, nat_tests, h) in
    let p : is_pointer octets at at ≡ false = grind (arith, nat_tests, h) in
    ap is_some (by_none 254 octets at at 255 e l p)

-- a label is there whole
pub label_within : (octets : List ℕ) (p : Place) → has_label octets p ≡ true → (after_label octets p).at ≤ length octets
label_within octets p h = grind (arith, nat_tests, h)
