-- Lives by their numbers: what an event does to each.
use Rattle.std.proofs.Common.{◌≡◌, ◌∙◌, ℕ, ◌<◌, ◌≤◌, Bool, true, false, List, [], ◌∷◌, length, Option, Some, None, inl, inr, refl, sym, ap, subst, arith}
use Rattle.std.specs.Prelude.{◌==◌, ◌⊎◌, if◌then◌else◌}
use Rattle.std.specs.List.{Contains}
use Rattle.std.proofs.lemmas.Bool.Decides.{Decides-eqb, nat_tests}
use Rattle.tcp_host.specs.declared.iss.Endpoints.{Endpoints}
use Rattle.tcp_laws.specs.Machines.{Act}
use Rattle.tcp_host_laws.specs.Lives.{Life, Event, Does, Begins, newest, with_act, continued, begun, after_event}
use Rattle.tcp_host_laws.proofs.Growing.{head_or_tail}
use Rattle.tcp_host_laws.specs.TcpNetworks.Orders.{began_as}

-- as many lives as before
length_by : (b : Bool) (act : Act) (l : Life) (xs ys : List Life) → length xs ≡ length ys →
    length (if b then with_act act l ∷ ys else l ∷ xs) ≡ length (l ∷ ys)
length_by true act l xs ys e = refl
length_by false act l xs ys e = omega (arith, e)

pub length-continued : (place : ℕ) (act : Act) (ls : List Life) → length (continued place act ls) ≡ length ls
length-continued place act [] = refl
length-continued place act (l ∷ ls) =
    length_by (l.place == place) act l (continued place act ls) ls (length-continued place act ls)

-- no life has a number that isn't below how many there are
not_it : (a b : ℕ) → a < b → (a == b) ≡ false
not_it a b lt = grind (arith, nat_tests)

pub none_yet : (k : ℕ) (ls : List Life) → length ls ≤ k → began_as k ls ≡ None
none_yet k [] le = refl
none_yet k (l ∷ ls) le =
    ap (λ (b : Bool). if b then Some l else began_as k ls) (not_it (length ls) k (omega (arith, le))) ∙ none_yet k ls (omega (arith, le))

-- each life has a number
pub record HasNumber (ls : List Life) (l : Life) : Type 0 where
  pub number : ℕ
  pub below : number < length ls
  pub is : began_as number ls ≡ Some l

at_front : (l : Life) (ls : List Life) → began_as (length ls) (l ∷ ls) ≡ Some l
at_front l ls = ap (λ (b : Bool). if b then Some l else began_as (length ls) ls) ((Decides-eqb (length ls) (length ls)).1 refl)

not_front : (a b : ℕ) → b < a → (a == b) ≡ false
not_front a b lt = grind (arith, nat_tests)

numbered_by : (x : Life) (ls : List Life) (l : Life) → (Contains ls l → HasNumber ls l) → (x ≡ l) ⊎ Contains ls l → HasNumber (x ∷ ls) l
numbered_by x ls l rest (inl e) = record {
  number = length ls;
  below = omega arith;
  is = at_front x ls ∙ ap (λ (y : Life). Some y) e;
}
numbered_by x ls l rest (inr c) =
    let r = rest c in
    let below = r.below in record {
      number = r.number;
      below = omega (arith, below);
      is = ap (λ (b : Bool). if b then Some x else began_as r.number ls) (not_front (length ls) r.number below) ∙ r.is;
    }

pub numbered : (ls : List Life) (l : Life) → Contains ls l → HasNumber ls l
numbered [] l c = absurd (omega (arith, c.1))
numbered (x ∷ ls) l c = numbered_by x ls l (numbered ls l) (head_or_tail x l ls c)

-- what an event does to the life of a number: it stays, or it does the act, being the newest one of its place; or it begins
pub data Steps (k : ℕ) (ls : List Life) : Event → Type 0 where
  Stays : {e : Event} → began_as k (after_event e ls) ≡ began_as k ls → Steps k ls e
  Acts : (place : ℕ) (act : Act) (l : Life) → newest place ls ≡ Some l → began_as k ls ≡ Some l →
      began_as k (continued place act ls) ≡ Some (with_act act l) → Steps k ls (Does place act)
  Opens : (place : ℕ) (e : Endpoints) (number room size : ℕ) (act : Act) → began_as k ls ≡ None →
      began_as k (begun place e number room size act ∷ ls) ≡ Some (begun place e number room size act) →
      Steps k ls (Begins place e number room size act)

module _ (k place : ℕ) (act : Act) where
  abbrev after_by : Bool → Life → List Life → List Life
  after_by b l ls = if b then with_act act l ∷ ls else l ∷ continued place act ls

  abbrev newest_by : Bool → Life → List Life → Option Life
  newest_by b l ls = if b then Some l else newest place ls

  -- it is the first one of its place
  first_acts : (l : Life) (ls : List Life) → (l.place == place) ≡ true → (c : Bool) → (length ls == k) ≡ c → Steps k (l ∷ ls) (Does place act)
  first_acts l ls here true at =
      Acts place act l
      (ap (λ (b : Bool). newest_by b l ls) here)
      (ap (λ (c : Bool). if c then Some l else began_as k ls) at)
      (ap (λ (b : Bool). began_as k (after_by b l ls)) here ∙ ap (λ (c : Bool). if c then Some (with_act act l) else began_as k ls) at)
  first_acts l ls here false at =
      Stays (ap (λ (b : Bool). began_as k (after_by b l ls)) here
      ∙ ap (λ (c : Bool). if c then Some (with_act act l) else began_as k ls) at
      ∙ sym (ap (λ (c : Bool). if c then Some l else began_as k ls) at))

  -- or a later one
  front_of : (l : Life) (ls : List Life) (c : Bool) → (length ls == k) ≡ c →
      began_as k (l ∷ continued place act ls) ≡ (if c then Some l else began_as k (continued place act ls))
  front_of l ls c at =
      ap (λ (n : ℕ). if n == k then Some l else began_as k (continued place act ls)) (length-continued place act ls)
      ∙ ap (λ (b : Bool). if b then Some l else began_as k (continued place act ls)) at

  later_by : (l : Life) (ls : List Life) → (l.place == place) ≡ false → (length ls == k) ≡ false → (e : Event) → e ≡ Does place act →
      Steps k ls e → Steps k (l ∷ ls) (Does place act)
  later_by l ls other at e is (Stays same) =
      let kept : began_as k (continued place act ls) ≡ began_as k ls =
      subst (λ (d : Event). began_as k (after_event d ls) ≡ began_as k ls) is same in
      Stays (ap (λ (b : Bool). began_as k (after_by b l ls)) other ∙ front_of l ls false at ∙ kept
      ∙ sym (ap (λ (c : Bool). if c then Some l else began_as k ls) at))
  later_by l ls other at _ is (Acts p a x new old after) =
      let one : p ≡ place = cc in
      let two : a ≡ act = cc in
      let now : began_as k (continued place act ls) ≡ Some (with_act act x) =
      subst (λ (b : Act). began_as k (continued place b ls) ≡ Some (with_act b x)) two
      (subst (λ (q : ℕ). began_as k (continued q a ls) ≡ Some (with_act a x)) one after) in
      Acts place act x
      (ap (λ (b : Bool). newest_by b l ls) other ∙ subst (λ (q : ℕ). newest q ls ≡ Some x) one new)
      (ap (λ (c : Bool). if c then Some l else began_as k ls) at ∙ old)
      (ap (λ (b : Bool). began_as k (after_by b l ls)) other ∙ front_of l ls false at ∙ now)
  later_by l ls other at _ is (Opens p e number room size a none now) = absurd cc

  later_acts : (l : Life) (ls : List Life) → (l.place == place) ≡ false → Steps k ls (Does place act) → (c : Bool) → (length ls == k) ≡ c →
      Steps k (l ∷ ls) (Does place act)
  later_acts l ls other rest true at =
      Stays (ap (λ (b : Bool). began_as k (after_by b l ls)) other ∙ front_of l ls true at
      ∙ sym (ap (λ (c : Bool). if c then Some l else began_as k ls) at))
  later_acts l ls other rest false at = later_by l ls other at (Does place act) refl rest

  either_acts : (l : Life) (ls : List Life) → Steps k ls (Does place act) → (b : Bool) → (l.place == place) ≡ b → Steps k (l ∷ ls) (Does place act)
  either_acts l ls rest true here = first_acts l ls here (length ls == k) refl
  either_acts l ls rest false other = later_acts l ls other rest (length ls == k) refl

  pub does : (ls : List Life) → Steps k ls (Does place act)
  does [] = Stays refl
  does (l ∷ ls) = either_acts l ls (does ls) (l.place == place) refl

begins_by : (k place : ℕ) (e : Endpoints) (number room size : ℕ) (act : Act) (ls : List Life) (c : Bool) → (length ls == k) ≡ c →
    Steps k ls (Begins place e number room size act)
begins_by k place e number room size act ls true at =
    let is : length ls ≡ k = (Decides-eqb (length ls) k).0 at in
    Opens place e number room size act (none_yet k ls (omega (arith, is)))
    (ap (λ (c : Bool). if c then Some (begun place e number room size act) else began_as k ls) at)
begins_by k place e number room size act ls false at =
    Stays (ap (λ (c : Bool). if c then Some (begun place e number room size act) else began_as k ls) at)

pub steps : (k : ℕ) (e : Event) (ls : List Life) → Steps k ls e
steps k (Does place act) ls = does k place act ls
steps k (Begins place e number room size act) ls = begins_by k place e number room size act ls (length ls == k) refl
