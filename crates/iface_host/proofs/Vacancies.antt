-- Room for sockets: where it is there one can be opened, and what that takes of it.
use Rattle.std.specs.Prelude.{ℕ, ◌≡◌, ◌<◌, ◌≤◌, ◌+◌, ◌&&◌, zero, suc, Bool, true, false, cond, List, [], ◌∷◌, nat_le, nat_lt}
use Rattle.std.specs.Prelude.{is_none, length, take, get_or, slice_get, slice_set, Option, Some, None, refl}
use Rattle.std.specs.Borrow.{Bor}
use Rattle.std.specs.Option.{option_and_then, option_copied}
use Rattle.std.specs.List.{filter}
use Rattle.std.proofs.lemmas.List.{length-set, take_all}
use Rattle.std.proofs.lemmas.List.Filters.{length-filter_more}
use Rattle.std.proofs.lemmas.List.Sums.{length-filter}
use Rattle.std.specs.List.{count_by, position_or_len}
use Rattle.std.proofs.Common.{sym, ap, ◌∙◌, arith}
use Rattle.std.proofs.lemmas.Bool.{lt-ltb, le-leb, leb-true}
use Rattle.std.proofs.lemmas.List.Recursion.{is_count_by}
use mathlib.Core.Bool.{true≢false}
use Rattle.sockets.specs.declared.socket.SocketOf.{SocketOf}
use Rattle.socket_set.specs.SocketSet.{Sockets, first_free, has_free, set_after_add, socket_at}
use Rattle.iface_host.specs.Names.{first_unused}
use Rattle.iface_host.specs.Sockets.{Opens, Socket}
use Rattle.iface_host.specs.Streams.{has_room_for, unused_numbers, free_places}
use Rattle.iface_host.specs.TableRefusals.{opening_refusal}
use Rattle.iface_host.specs.declared.host.IfaceHost.{IfaceHost}
use Rattle.iface_host.specs.declared.refusal.Refusal.{Refusal}

-- how many places of a list are empty, and the first of them
abbrev nones : {A : Type 0} → List (Option A) → ℕ
nones [] = 0
nones (None ∷ xs) = suc (nones xs)
nones (Some a ∷ xs) = nones xs

abbrev first : {A : Type 0} → List (Option A) → ℕ
first [] = 0
first (None ∷ xs) = 0
first (Some a ∷ xs) = suc (first xs)

within : {A : Type 0} (xs : List (Option A)) → 1 ≤ nones xs → first xs < length xs
within [] some = absurd (omega arith)
within (None ∷ xs) some = omega arith
within (Some a ∷ xs) some = let less : first xs < length xs = within xs some in omega arith

taken : {A : Type 0} (xs : List (Option A)) (a : A) → 1 ≤ nones xs → suc (nones (slice_set xs (first xs) (Some a))) ≡ nones xs
taken [] a some = absurd (omega arith)
taken (None ∷ xs) a some = refl
taken (Some b ∷ xs) a some = taken xs a some

counted : {A : Type 0} (xs : List (Option A)) → nones xs ≡ count_by is_none xs
counted {A} xs = is_count_by nones is_none refl step xs where
  step : (x : Option A) (xs : List (Option A)) → nones (x ∷ xs) ≡ cond (is_none x) (1 + nones xs) (nones xs)
  step None xs = omega arith
  step (Some a) xs = refl

by_position : {A : Type 0} (xs : List (Option A)) → position_or_len is_none xs ≡ first xs
by_position [] = refl
by_position (None ∷ xs) = refl
by_position (Some a ∷ xs) = let same : position_or_len is_none xs ≡ first xs = by_position xs in omega arith

by_free : {L : Type 0} (ps : List (Option (SocketOf L))) → first_free ps ≡ first ps
by_free [] = refl
by_free (None ∷ ps) = refl
by_free (Some s ∷ ps) = let same : first_free ps ≡ first ps = by_free ps in omega arith

-- what a host's room for sockets says
record HasRoom (count : ℕ) (h : IfaceHost) : Type 0 where
  few : length h.names ≤ 4294967296
  numbers : count ≤ nones h.names
  places : count ≤ nones h.sockets.places

both : (a b : Bool) → a && b ≡ true → (a ≡ true) × (b ≡ true)
both true b e = (refl, e)
both false b e = absurd (true≢false (sym e))

opened_up : (count : ℕ) (h : IfaceHost) → has_room_for count h ≡ true → HasRoom count h
opened_up count h e =
    let outer : (nat_le (length h.names) 4294967296 && nat_le count (unused_numbers h) ≡ true) × (nat_le count (free_places h) ≡ true) = both _ _ e in
    let inner : (nat_le (length h.names) 4294967296 ≡ true) × (nat_le count (unused_numbers h) ≡ true) = both _ _ outer.0 in
    record {
      few = leb-true (length h.names) 4294967296 inner.0;
      numbers = rw (counted h.names) (leb-true count (unused_numbers h) inner.1);
      places = rw (counted h.sockets.places) (leb-true count (free_places h) outer.1);
    }

closed_again : (count : ℕ) (h : IfaceHost) → HasRoom count h → has_room_for count h ≡ true
closed_again count h r =
    let few : nat_le (length h.names) 4294967296 ≡ true = le-leb _ _ r.few in
    let numbers : nat_le count (unused_numbers h) ≡ true = le-leb _ _ (rw (sym (counted h.names)) r.numbers) in
    let places : nat_le count (free_places h) ≡ true = le-leb _ _ (rw (sym (counted h.sockets.places)) r.places) in
    rw (few, numbers, places) refl

-- the first number without a socket, and the first free place
number_first : (h : IfaceHost) → HasRoom 1 h → first_unused h.names ≡ Some (first h.names)
number_first h r =
    let less : nat_lt (position_or_len is_none h.names) (length h.names) ≡ true =
    lt-ltb _ _ (rw (by_position h.names) (within h.names r.numbers)) in
    ap (λ b. cond b (Some (position_or_len is_none h.names)) None) less ∙ ap (λ n. Some n) (by_position h.names)

place_there : (h : IfaceHost) → HasRoom 1 h → has_free h.sockets ≡ true
place_there h r = lt-ltb _ _ (rw (by_free h.sockets.places) (within h.sockets.places r.places))

-- where there is room for one, opening it isn't refused
pub room_opens : (h : IfaceHost) → has_room_for 1 h ≡ true → opening_refusal h ≡ None
room_opens h e =
    let r : HasRoom 1 h = opened_up 1 h e in
    let small : nat_lt (first h.names) 4294967296 ≡ true =
    (let less : first h.names < length h.names = within h.names r.numbers in
    let few : length h.names ≤ 4294967296 = r.few in lt-ltb _ _ (omega arith)) in
    rw (number_first h r, small, place_there h r) refl

some_is : (m n : ℕ) → Some m ≡ Some n → m ≡ n
some_is m n e = cc

-- opening one takes one place
pub room_left : (s : Socket) (n k : ℕ) (old new : IfaceHost) → Opens s n old new → has_room_for (k + 1) old ≡ true → has_room_for k new ≡ true
room_left s n k old new o e =
    let r : HasRoom (k + 1) old = opened_up (k + 1) old e in
    let enough : k + 1 ≤ nones old.names = r.numbers in
    let space : k + 1 ≤ nones old.sockets.places = r.places in
    let one : HasRoom 1 old = record { few = r.few; numbers = omega arith; places = omega arith } in
    let number : n ≡ first old.names = some_is n (first old.names) (sym o.unused ∙ number_first old one) in
    let names : new.names ≡ slice_set old.names (first old.names) (Some (first_free old.sockets.places)) =
    ap (λ (h : IfaceHost). h.names) o.after ∙ ap (λ i. slice_set old.names i (Some (first_free old.sockets.places))) number in
    let added : (set_after_add old.sockets s new.sockets.room).places ≡ slice_set old.sockets.places (first_free old.sockets.places) (Some s) =
    rw (place_there old one) refl in
    let places : new.sockets.places ≡ slice_set old.sockets.places (first old.sockets.places) (Some s) =
    ap (λ (h : IfaceHost). h.sockets.places) o.after ∙ added ∙ ap (λ i. slice_set old.sockets.places i (Some s)) (by_free old.sockets.places) in
    let fewer : suc (nones (slice_set old.names (first old.names) (Some (first_free old.sockets.places)))) ≡ nones old.names =
    taken old.names (first_free old.sockets.places) one.numbers in
    let less : suc (nones (slice_set old.sockets.places (first old.sockets.places) (Some s))) ≡ nones old.sockets.places =
    taken old.sockets.places s one.places in
    closed_again k new (record {
      few = rw (names, length-set old.names (first old.names) (Some (first_free old.sockets.places))) r.few;
      numbers = rw names (omega arith);
      places = rw places (omega arith);
    })

-- where there is room for some, there is room for fewer
pub room_less : (k m : ℕ) (h : IfaceHost) → has_room_for m h ≡ true → k ≤ m → has_room_for k h ≡ true
room_less k m h e le =
    let r : HasRoom m h = opened_up m h e in
    let numbers : m ≤ nones h.names = r.numbers in
    let places : m ≤ nones h.sockets.places = r.places in
    closed_again k h (record { few = r.few; numbers = omega arith; places = omega arith })

-- one place more is counted
there : {L : Type 0} (s : Sockets L) (i : ℕ) → i < length s.places → is_none (socket_at s i) ≡ is_none (get_or s.places i None)
there s i lt = at s.places i lt where
  at : {A : Type 0} (xs : List (Option A)) (i : ℕ) → i < length xs →
      is_none (option_and_then (λ (p : Option A). p) (slice_get xs i)) ≡ is_none (get_or xs i None)
  at [] i lt = absurd (omega arith)
  at (None ∷ xs) zero lt = refl
  at (Some a ∷ xs) zero lt = refl
  at (x ∷ xs) (suc i) lt = at xs i (omega arith)

seen : {T : Type 0} (found : Option (Bor T)) → is_none (option_copied found) ≡ is_none found
seen None = refl
seen (Some b) = refl

pub at_most_one : (b : Bool) → cond b 1 0 ≤ 1
at_most_one true = omega arith
at_most_one false = omega arith

pub counted_more : {L : Type 0} (s : Sockets L) (i end count : ℕ) (found : Option (Bor (SocketOf L))) → end ≡ length s.places → i < end →
    option_copied found ≡ socket_at s i → count ≡ count_by is_none (take i s.places) →
    count + cond (is_none found) 1 0 ≡ count_by is_none (take (i + 1) s.places)
counted_more {L} s i end count found ends lt here so =
    let within : i < length s.places = omega arith in
    let more : length (filter is_none (take (i + 1) s.places)) ≡ length (filter is_none (take i s.places)) + cond (is_none (get_or s.places i None)) 1 0 =
    length-filter_more is_none s.places i None within in
    let after : count_by is_none (take (i + 1) s.places) ≡ count_by is_none (take i s.places) + cond (is_none (get_or s.places i None)) 1 0 =
    sym (length-filter is_none (take (i + 1) s.places)) ∙ more
    ∙ ap (λ n. n + cond (is_none (get_or s.places i None)) 1 0) (length-filter is_none (take i s.places)) in
    let same : is_none found ≡ is_none (get_or s.places i None) =
    sym (seen found) ∙ ap (λ (o : Option (SocketOf L)). is_none o) here ∙ there s i within in
    rw (so, same) (sym after)

pub counted_all : {L : Type 0} (s : Sockets L) (i end count : ℕ) → end ≡ length s.places → end ≤ i → count ≡ count_by is_none (take i s.places) →
    count ≡ count_by is_none s.places
counted_all s i end count ends le so = so ∙ ap (λ ps. count_by is_none ps) (take_all i s.places (omega arith))

-- where there is room for one, nobody is told that there is none
pub never_refused : (h : IfaceHost) (e : Refusal) → has_room_for 1 h ≡ true → Some e ≡ opening_refusal h → ⊥
never_refused h e room told = cc_none (told ∙ room_opens h room) where
  cc_none : Some e ≡ None → ⊥
  cc_none bad = cc

pub one_of_two : (h : IfaceHost) → has_room_for 2 h ≡ true → has_room_for 1 h ≡ true
one_of_two h e = room_less 1 2 h e (omega arith)

pub one_left : (s : Socket) (n : ℕ) (old new : IfaceHost) → Opens s n old new → has_room_for 2 old ≡ true → has_room_for 1 new ≡ true
one_left s n old new o e = room_left s n 1 old new o e

pub two_less : (near far : Socket) (n m k : ℕ) (old mid new : IfaceHost) → Opens near n old mid → Opens far m mid new →
    has_room_for (k + 2) old ≡ true → has_room_for k new ≡ true
two_less near far n m k old mid new first second e =
    let same : (k + 1) + 1 ≡ k + 2 = omega arith in
    room_left far m k mid new second (room_left near n (k + 1) old mid first (rw same e))
