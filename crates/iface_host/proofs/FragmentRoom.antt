-- The slots for fragments: which is let go, and who finds one.
use Rattle.std.proofs.Common.{◌≡◌, ◌<◌, ◌≤◌, ◌+◌, ◌-◌, ℕ, ℤ, zero, suc, Bool, true, false, List, [], ◌∷◌, Option, Some, None}
use Rattle.std.proofs.Common.{length, refl, sym, ap, ◌∙◌, arith, subst, inl, inr}
use Rattle.std.specs.Prelude.{cond, is_some, not, nat_lt, int_lt, ◌⊎◌}
use Rattle.std.proofs.lemmas.Bool.Decides.{nat_tests}
use Rattle.ip_address.specs.declared.hardware.HardwareAddress.{HardwareAddress}
use Rattle.ip_address.specs.declared.hardware.HardwareAddress.TheVariants.{Ethernet, Ip}
use Rattle.fragmentation.specs.declared.key.FragKey.{FragKey}
use Rattle.fragmentation.specs.declared.holder.Holder.{Holder}
use Rattle.fragmentation.specs.Assembly.{Assembly}
use Rattle.fragmentation.specs.Details.Holders.{holder_at, holder_of, holder_by, released_at, count_below, taken_of}
use Rattle.host_machine.specs.Context.Host.{Host as Machine}
use Rattle.interface.specs.Stands.{slots_in}
use Rattle.interface.specs.declared.interface.Interface.{Interface}
use Rattle.iface_receive.specs.FragmentKey.{CarriesFragment, CarriesOn}
use Rattle.iface_host.specs.FragmentLaws.{IsFreeAt, KnownFindRoom, StrangersHoldHalf, YoungStay, known_in, room_of, strangers_in}
use Rattle.iface_host.specs.Fragments.{Few, LetsGo, Makes, MakesRoom, NoFragment, Placed, Served, counts_as_known, end_of, first_to_end, has_few, holds_known}
use Rattle.iface_host.specs.Fragments.{holds_stranger, if_held, if_old, in_place, in_place_of_old, is_old, is_served, place_for, place_of_known}
use Rattle.iface_host.specs.Fragments.{place_of_stranger, slots_of, sooner, tally_of}
use Rattle.iface_host.specs.Properties.{machine_of}
use Rattle.iface_host.specs.declared.fragments.Place.{Place}
use Rattle.iface_host.specs.declared.fragments.Place.TheVariants.{Free, InPlaceOf, Nowhere, Refused}
use Rattle.iface_host.specs.declared.fragments.Tally.{Tally}
use Rattle.iface_host.specs.declared.host.IfaceHost.{IfaceHost}

true_false : true ≡ false → ⊥
true_false e = cc

-- another slot keeps its holder
holder_kept : (i j : ℕ) (ss : List (Assembly FragKey)) → (i ≡ j → ⊥) → holder_at i (released_at j ss) ≡ holder_at i ss
holder_kept i j [] apart = refl
holder_kept zero zero (s ∷ ss) apart = absurd (apart refl)
holder_kept zero (suc j) (s ∷ ss) apart = refl
holder_kept (suc i) zero (s ∷ ss) apart = refl
holder_kept (suc i) (suc j) (s ∷ ss) apart = holder_kept i j ss (λ e. apart (ap suc e))

holder_gone : (i : ℕ) (ss : List (Assembly FragKey)) → holder_at i (released_at i ss) ≡ None
holder_gone i [] = refl
holder_gone zero (s ∷ ss) = refl
holder_gone (suc i) (s ∷ ss) = holder_gone i ss

length-gone : (i : ℕ) (ss : List (Assembly FragKey)) → length (released_at i ss) ≡ length ss
length-gone i [] = refl
length-gone zero (s ∷ ss) = refl
length-gone (suc i) (s ∷ ss) = ap suc (length-gone i ss)

-- the slots after one was let go
slots_after : (j : ℕ) (old new : IfaceHost) → LetsGo j old new → slots_of new ≡ released_at j (slots_of old)
slots_after j old new g = ap slots_of g.same ∙ ap (λ (i : Interface). slots_in i) g.slots

-- the first to end is one of those that are asked for
pub record IsOne (p : ℕ → Bool) (n i : ℕ) : Type 0 where
  pub below : i < n
  pub holds : p i ≡ true

first_of_both : (host : IfaceHost) (p : ℕ → Bool) (n i : ℕ) (o : Option ℕ) → ((j : ℕ) → o ≡ Some j → IsOne p n j) → p n ≡ true →
    sooner host o n ≡ Some i → IsOne p (suc n) i
first_of_both host p n i None rest here e =
    let same : n ≡ i = cc in subst (IsOne p (suc n)) same (record { below = omega arith; holds = here })
first_of_both host p n i (Some j) rest here e = by (int_lt (end_of host n) (end_of host j)) e where
  by : (b : Bool) → cond b (Some n) (Some j) ≡ Some i → IsOne p (suc n) i
  by true f = let same : n ≡ i = cc in subst (IsOne p (suc n)) same (record { below = omega arith; holds = here })
  by false f =
      let same : j ≡ i = cc in let one = rest j refl in let below = one.below in
      subst (IsOne p (suc n)) same (record { below = omega arith; holds = one.holds })

first_is : (host : IfaceHost) (p : ℕ → Bool) (n i : ℕ) → first_to_end host p n ≡ Some i → IsOne p n i
first_is host p zero i e = absurd cc
first_is host p (suc n) i e = elim (p n) as (λ b. p n ≡ b → cond b (sooner host (first_to_end host p n) n) (first_to_end host p n) ≡ Some i → IsOne p (suc n) i) [
  | true ↦ λ here f. first_of_both host p n i (first_to_end host p n) (λ j g. first_is host p n j g) here f
  | false ↦ λ _ f. let one = first_is host p n i f in let below = one.below in record { below = omega arith; holds = one.holds }
] refl e

-- there is a first one, if there is one
soonest : (host : IfaceHost) (o : Option ℕ) (n : ℕ) → (i : ℕ) × (sooner host o n ≡ Some i)
soonest host None n = (n, refl)
soonest host (Some j) n = by (int_lt (end_of host n) (end_of host j)) where
  by : (b : Bool) → (i : ℕ) × (cond b (Some n) (Some j) ≡ Some i)
  by true = (n, refl)
  by false = (j, refl)

some_first : (host : IfaceHost) (p : ℕ → Bool) (n : ℕ) → 0 < count_below p n → (i : ℕ) × (first_to_end host p n ≡ Some i)
some_first host p zero l = absurd (omega arith)
some_first host p (suc n) l = elim (p n) as (λ b. 0 < count_below p n + cond b 1 0 →
    (i : ℕ) × (cond b (sooner host (first_to_end host p n) n) (first_to_end host p n) ≡ Some i)) [
      | true ↦ λ _. soonest host (first_to_end host p n) n
      | false ↦ λ m. some_first host p n (omega arith)
    ] l

-- fewer than n have one property or the other, so one has none of them
pub record HasNeither (p q : ℕ → Bool) (n i : ℕ) : Type 0 where
  pub below : i < n
  pub first : p i ≡ false
  pub second : q i ≡ false

gap : (p q : ℕ → Bool) (n : ℕ) → count_below p n + count_below q n < n → (i : ℕ) × HasNeither p q n i
gap p q zero l = absurd (omega arith)
gap p q (suc n) l = elim (p n) as (λ a. p n ≡ a → (count_below p n + cond a 1 0) + (count_below q n + cond (q n) 1 0) < suc n →
    (i : ℕ) × HasNeither p q (suc n) i) [
      | true ↦ λ _ m. more (gap p q n (elim (q n) as (λ b. (count_below p n + 1) + (count_below q n + cond b 1 0) < suc n → count_below p n + count_below q n < n) [
        | true ↦ λ k. omega arith
        | false ↦ λ k. omega arith
      ] m))
      | false ↦ λ a. elim (q n) as (λ b. q n ≡ b → (count_below p n + 0) + (count_below q n + cond b 1 0) < suc n → (i : ℕ) × HasNeither p q (suc n) i) [
        | true ↦ λ _ m. more (gap p q n (omega arith))
        | false ↦ λ b m. (n, record { below = omega arith; first = a; second = b })
      ] refl
    ] refl l where
      more : ((i : ℕ) × HasNeither p q n i) → (i : ℕ) × HasNeither p q (suc n) i
      more g = let below = g.1.below in (g.0, record { below = omega arith; first = g.1.first; second = g.1.second })

count_nothing : (n : ℕ) → count_below (λ _. false) n ≡ 0
count_nothing zero = refl
count_nothing (suc n) = rw (count_nothing n) refl

-- a slot that nobody holds
neither_held : (t : ℤ) (host : IfaceHost) (i : ℕ) → holds_known t host i ≡ false → holds_stranger t host i ≡ false → holder_at i (slots_of host) ≡ None
neither_held t host i a b = elim (holder_at i (slots_of host)) as (λ o.
    if_held false (λ h. counts_as_known t host h.key.src_addr) o ≡ false → if_held false (λ h. not (counts_as_known t host h.key.src_addr)) o ≡ false → o ≡ None) [
      | None ↦ λ _ _. refl
      | Some h ↦ λ k s. absurd (true_false (sym (ap not k) ∙ s))
    ] a b

not_both : (t : ℤ) (host : IfaceHost) (i : ℕ) → holds_known t host i ≡ true → holds_stranger t host i ≡ true → ⊥
not_both t host i a b = elim (holder_at i (slots_of host)) as (λ o.
    if_held false (λ h. counts_as_known t host h.key.src_addr) o ≡ true → if_held false (λ h. not (counts_as_known t host h.key.src_addr)) o ≡ true → ⊥) [
      | None ↦ λ k _. true_false (sym k)
      | Some h ↦ λ k s. true_false (sym s ∙ ap not k)
    ] a b

unheld : (o : Option (Holder FragKey)) → is_some o ≡ false → o ≡ None
unheld None e = refl
unheld (Some h) e = absurd cc

-- in place of what is in a slot: it is old, or that was so anyway
old_why : (t : ℤ) (host : IfaceHost) (o : Option ℕ) (otherwise : Place) (i : ℕ) →
    if_old t host o otherwise ≡ InPlaceOf i → (is_old t host i ≡ true) ⊎ (otherwise ≡ InPlaceOf i)
old_why t host None otherwise i e = inr e
old_why t host (Some j) otherwise i e = elim (is_old t host j) as (λ b. is_old t host j ≡ b → cond b (InPlaceOf j) otherwise ≡ InPlaceOf i →
    (is_old t host i ≡ true) ⊎ (otherwise ≡ InPlaceOf i)) [
      | true ↦ λ old f. let same : j ≡ i = cc in inl (subst (λ k. is_old t host k ≡ true) same old)
      | false ↦ λ _ f. inr f
    ] refl e

old_of_both : (t : ℤ) (host : IfaceHost) (y : Tally) (i : ℕ) → in_place_of_old t host y ≡ InPlaceOf i → is_old t host i ≡ true
old_of_both t host y i e =
    elim (old_why t host y.first_stranger (if_old t host y.first_known Nowhere) i e) [
      | inl old ↦ old
      | inr f ↦ elim (old_why t host y.first_known Nowhere i f) [
        | inl old ↦ old
        | inr g ↦ absurd cc
      ]
    ]

first_in_place : (o : Option ℕ) (i : ℕ) → in_place o ≡ InPlaceOf i → o ≡ Some i
first_in_place None i e = absurd cc
first_in_place (Some j) i e = let same : j ≡ i = cc in ap Some same

-- why what is in a slot is let go: it is old, or strangers hold more than half, and it is one's of them
abbrev pub IsLetGo : ℤ → IfaceHost → ℕ → Type 0
IsLetGo t host i = (is_old t host i ≡ true)
    ⊎ ((holds_stranger t host i ≡ true) × (nat_lt (room_of host - strangers_in t host) (strangers_in t host) ≡ true))

most_held : (s k n : ℕ) → nat_lt s (n - k) ≡ false → nat_lt k (n - k) ≡ true → nat_lt (n - s) s ≡ true
most_held s k n a b = grind (arith, nat_tests)

known_why : (t : ℤ) (host : IfaceHost) (i : ℕ) → place_of_known t host (room_of host) (tally_of t host (room_of host)) ≡ InPlaceOf i → IsLetGo t host i
known_why t host i e =
    let k = known_in t host in
    let s = strangers_in t host in
    let n = room_of host in
    let y = tally_of t host n in
    elim (nat_lt s (n - k)) as (λ a. nat_lt s (n - k) ≡ a →
    cond a Free (cond (nat_lt k (n - k)) (in_place y.first_stranger) (in_place_of_old t host y)) ≡ InPlaceOf i → IsLetGo t host i) [
      | true ↦ λ _ f. absurd cc
      | false ↦ λ a. elim (nat_lt k (n - k)) as (λ b. nat_lt k (n - k) ≡ b → cond b (in_place y.first_stranger) (in_place_of_old t host y) ≡ InPlaceOf i → IsLetGo t host i) [
        | true ↦ λ b f. inr ((first_is host (holds_stranger t host) n i (first_in_place y.first_stranger i f)).holds, most_held s k n a b)
        | false ↦ λ _ f. inl (old_of_both t host y i f)
      ] refl
    ] refl e

stranger_why : (t : ℤ) (host : IfaceHost) (i : ℕ) → place_of_stranger t host (room_of host) (tally_of t host (room_of host)) ≡ InPlaceOf i → IsLetGo t host i
stranger_why t host i e =
    let k = known_in t host in
    let s = strangers_in t host in
    let n = room_of host in
    let y = tally_of t host n in
    elim (nat_lt s (n - s)) as (λ a. cond a (cond (nat_lt k (n - s)) Free (in_place_of_old t host y)) (if_old t host y.first_stranger Refused) ≡ InPlaceOf i → IsLetGo t host i) [
      | true ↦ elim (nat_lt k (n - s)) as (λ b. cond b Free (in_place_of_old t host y) ≡ InPlaceOf i → IsLetGo t host i) [
        | true ↦ λ f. absurd cc
        | false ↦ λ f. inl (old_of_both t host y i f)
      ]
      | false ↦ λ f. elim (old_why t host y.first_stranger Refused i f) [
        | inl old ↦ inl old
        | inr g ↦ absurd cc
      ]
    ] e

let_go_why : (t : ℤ) (host : IfaceHost) (key : FragKey) (i : ℕ) → place_for t host key ≡ InPlaceOf i → IsLetGo t host i
let_go_why t host key i e =
    let n = room_of host in
    let y = tally_of t host n in
    elim (counts_as_known t host key.src_addr) as (λ b. cond b (place_of_known t host n y) (place_of_stranger t host n y) ≡ InPlaceOf i → IsLetGo t host i) [
      | true ↦ known_why t host i
      | false ↦ stranger_why t host i
    ] e

stays_apart : (t : ℤ) (host : IfaceHost) (i j : ℕ) → IsLetGo t host j → is_old t host i ≡ false →
    (holds_known t host i ≡ true) ⊎ (nat_lt (room_of host - strangers_in t host) (strangers_in t host) ≡ false) → i ≡ j → ⊥
stays_apart t host i j why young kept same =
    elim why [
      | inl old ↦ true_false (sym old ∙ ap (is_old t host) (sym same) ∙ young)
      | inr most ↦ elim kept [
        | inl known ↦ not_both t host i known (ap (holds_stranger t host) same ∙ most.0)
        | inr few ↦ true_false (sym most.1 ∙ few)
      ]
    ]

young_made : (t : ℤ) (p : Place) (taken : Bool) (old new : IfaceHost) → ((j : ℕ) → p ≡ InPlaceOf j → IsLetGo t old j) → Makes p taken old new →
    (i : ℕ) (h : Holder FragKey) → holder_at i (slots_of old) ≡ Some h → is_old t old i ≡ false →
    (holds_known t old i ≡ true) ⊎ (nat_lt (room_of old - strangers_in t old) (strangers_in t old) ≡ false) → holder_at i (slots_of new) ≡ Some h
young_made t Free taken old new why m i h held young kept = ap (λ (x : IfaceHost). holder_at i (slots_of x)) m.1 ∙ held
young_made t Nowhere taken old new why m i h held young kept = ap (λ (x : IfaceHost). holder_at i (slots_of x)) m.1 ∙ held
young_made t Refused taken old new why m i h held young kept = ap (λ (x : IfaceHost). holder_at i (slots_of x)) m.1 ∙ held
young_made t (InPlaceOf j) taken old new why m i h held young kept =
    ap (holder_at i) (slots_after j old new m.1) ∙ holder_kept i j (slots_of old) (stays_apart t old i j (why j refl) young kept) ∙ held

pub young_stay : YoungStay
young_stay t frame taken old new (NoFragment _ _ same) i h held young kept = ap (λ (x : IfaceHost). holder_at i (slots_of x)) same ∙ held
young_stay t frame taken old new (Few _ _ same) i h held young kept = ap (λ (x : IfaceHost). holder_at i (slots_of x)) same ∙ held
young_stay t frame taken old new (Served key _ _ _ same) i h held young kept = ap (λ (x : IfaceHost). holder_at i (slots_of x)) same ∙ held
young_stay t frame taken old new (Placed key _ _ m) i h held young kept =
    young_made t (place_for t old key) taken old new (λ j e. let_go_why t old key j e) m i h held young kept

-- a frame has the fragment of one datagram
one_key : (medium : HardwareAddress) (j k : FragKey) (H : Machine) (frame : List ℕ) → CarriesOn medium j H frame → CarriesOn medium k H frame → j ≡ k
one_key (Ethernet own) j k H frame a b = a.fragment.key_is ∙ sym b.fragment.key_is
one_key Ip j k H frame a b = a.key_is ∙ sym b.key_is

same_key_in : (j k : FragKey) (H : Machine) (frame : List ℕ) → CarriesFragment j H frame → CarriesFragment k H frame → j ≡ k
same_key_in j k H frame a b = one_key H.hardware_addr j k H frame a b

few_free : (host : IfaceHost) → has_few host ≡ true → (i : ℕ) × IsFreeAt i host
few_free host few =
    let held : ℕ → Bool = λ i. is_some (holder_at i (slots_of host)) in
    let none = count_nothing (room_of host) in
    let less : taken_of (slots_of host) < room_of host = grind (arith, nat_tests, few) in
    let g = gap held (λ _. false) (room_of host) (omega (arith, none, less)) in
    (g.0, record { there = g.1.below; free = unheld (holder_at g.0 (slots_of host)) g.1.first })

free_there : (t : ℤ) (host : IfaceHost) → nat_lt (strangers_in t host) (room_of host - known_in t host) ≡ true → (i : ℕ) × IsFreeAt i host
free_there t host e =
    let less : known_in t host + strangers_in t host < room_of host = grind (arith, nat_tests, e) in
    let g = gap (holds_known t host) (holds_stranger t host) (room_of host) less in
    (g.0, record { there = g.1.below; free = neither_held t host g.0 g.1.first g.1.second })

free_then : (i : ℕ) (old new : IfaceHost) → i < room_of old → LetsGo i old new → IsFreeAt i new
free_then i old new l g =
    let slots = slots_after i old new g in
    let long = ap length slots ∙ length-gone i (slots_of old) in
    record { there = omega (arith, long, l); free = ap (holder_at i) slots ∙ holder_gone i (slots_of old) }

some_strangers : (s k n : ℕ) → nat_lt s (n - k) ≡ false → nat_lt k (n - k) ≡ true → 0 < s
some_strangers s k n a b = grind (arith, nat_tests)

abbrev pub FindsRoom : Bool → FragKey → IfaceHost → Type 0
FindsRoom taken key new = (taken ≡ true) × ((is_served key new ≡ true) ⊎ ((i : ℕ) × IsFreeAt i new))

known_placed : (t : ℤ) (key : FragKey) (taken : Bool) (old new : IfaceHost) → nat_lt (known_in t old) (room_of old - known_in t old) ≡ true →
    Makes (place_of_known t old (room_of old) (tally_of t old (room_of old))) taken old new → FindsRoom taken key new
known_placed t key taken old new few m =
    let k = known_in t old in
    let s = strangers_in t old in
    let n = room_of old in
    let y = tally_of t old n in
    elim (nat_lt s (n - k)) as (λ a. nat_lt s (n - k) ≡ a →
    Makes (cond a Free (cond (nat_lt k (n - k)) (in_place y.first_stranger) (in_place_of_old t old y))) taken old new → FindsRoom taken key new) [
      | true ↦ λ a f. (f.0, inr (subst (λ (x : IfaceHost). (i : ℕ) × IsFreeAt i x) (sym f.1) (free_there t old a)))
      | false ↦ λ a f.
          let first = some_first old (holds_stranger t old) n (some_strangers s k n a few) in
          let g : Makes (InPlaceOf first.0) taken old new =
          rw first.1 at (subst (λ b. Makes (cond b (in_place (first_to_end old (holds_stranger t old) n)) (in_place_of_old t old y)) taken old new) few f) in
          (g.0, inr (first.0, free_then first.0 old new (first_is old (holds_stranger t old) n first.0 first.1).below g.1))
    ] refl m

pub known_find_room : KnownFindRoom
known_find_room t frame taken old new (NoFragment none _ _) key carried known few = absurd (none key carried)
known_find_room t frame taken old new (Few f is same) key carried known few =
    (is, inr (subst (λ (x : IfaceHost). (i : ℕ) × IsFreeAt i x) (sym same) (few_free old f)))
known_find_room t frame taken old new (Served k c served is same) key carried known few =
    (is, inl (ap (λ (x : IfaceHost). is_served key x) same ∙ ap (λ (q : FragKey). is_served q old) (same_key_in key k (machine_of old) frame carried c) ∙ served))
known_find_room t frame taken old new (Placed k c _ m) key carried known few =
    let same : key ≡ k = same_key_in key k (machine_of old) frame carried c in
    let is : counts_as_known t old k.src_addr ≡ true = ap (λ (q : FragKey). counts_as_known t old q.src_addr) (sym same) ∙ known in
    known_placed t key taken old new few (subst (λ b. Makes (cond b (place_of_known t old (room_of old) (tally_of t old (room_of old)))
    (place_of_stranger t old (room_of old) (tally_of t old (room_of old)))) taken old new) is m)

abbrev pub IsHalfKept : ℤ → IfaceHost → IfaceHost → Type 0
IsHalfKept t old new = (nat_lt (strangers_in t old) (room_of old - strangers_in t old) ≡ true)
    ⊎ ((i : ℕ) × (holds_stranger t old i ≡ true) × (is_old t old i ≡ true) × (slots_of new ≡ released_at i (slots_of old)))

old_placed : (t : ℤ) (old new : IfaceHost) (o : Option ℕ) → ((i : ℕ) → o ≡ Some i → holds_stranger t old i ≡ true) →
    Makes (if_old t old o Refused) true old new → IsHalfKept t old new
old_placed t old new None holds m = absurd (true_false m.0)
old_placed t old new (Some i) holds m = elim (is_old t old i) as (λ b. is_old t old i ≡ b → Makes (cond b (InPlaceOf i) Refused) true old new → IsHalfKept t old new) [
  | true ↦ λ is f. inr (i, holds i refl, is, slots_after i old new f.1)
  | false ↦ λ _ f. absurd (true_false f.0)
] refl m

stranger_placed : (t : ℤ) (old new : IfaceHost) →
    Makes (place_of_stranger t old (room_of old) (tally_of t old (room_of old))) true old new → IsHalfKept t old new
stranger_placed t old new m =
    let s = strangers_in t old in
    let n = room_of old in
    let y = tally_of t old n in
    elim (nat_lt s (n - s)) as (λ a. nat_lt s (n - s) ≡ a →
    Makes (cond a (cond (nat_lt (known_in t old) (n - s)) Free (in_place_of_old t old y)) (if_old t old y.first_stranger Refused)) true old new →
    IsHalfKept t old new) [
      | true ↦ λ a _. inl a
      | false ↦ λ _ f. old_placed t old new y.first_stranger (λ i e. (first_is old (holds_stranger t old) n i e).holds) f
    ] refl m

pub strangers_hold_half : StrangersHoldHalf
strangers_hold_half t frame old new (NoFragment none _ _) key carried stranger unserved many = absurd (none key carried)
strangers_hold_half t frame old new (Few f _ _) key carried stranger unserved many = absurd (true_false (sym f ∙ many))
strangers_hold_half t frame old new (Served k c served _ _) key carried stranger unserved many =
    absurd (true_false (sym served ∙ ap (λ (q : FragKey). is_served q old) (sym (same_key_in key k (machine_of old) frame carried c)) ∙ unserved))
strangers_hold_half t frame old new (Placed k c _ m) key carried stranger unserved many =
    let is : counts_as_known t old k.src_addr ≡ false =
    ap (λ (q : FragKey). counts_as_known t old q.src_addr) (sym (same_key_in key k (machine_of old) frame carried c)) ∙ stranger in
    stranger_placed t old new (subst (λ b. Makes (cond b (place_of_known t old (room_of old) (tally_of t old (room_of old)))
    (place_of_stranger t old (room_of old) (tally_of t old (room_of old)))) true old new) is m)
