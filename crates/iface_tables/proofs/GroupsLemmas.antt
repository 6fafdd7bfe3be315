-- Lists of groups: where one stands, and that no address stands twice.
use Rattle.std.proofs.Common.{◌≡◌, ℕ, ◌+◌, ◌-◌, ◌<◌, ◌≤◌, ◌≢◌, nat_lt, nat_eq, cond, List, [], ◌∷◌, length, get_or, take, set, option_map}
use Rattle.std.proofs.Common.{slice_get, swap_remove, Bool, true, false, None, IsSome, inl, inr, refl, sym, ap, ◌∙◌, arith}
use Rattle.std.proofs.lemmas.Bool.Decides.{nat_tests}
use Rattle.std.proofs.lemmas.Grind.{common_steps, get_or-set_at}
use Rattle.std.proofs.lemmas.List.{get_or_append_left, get_or_default, get_or-set_same, get_or-set_other, get_or-take}
use Rattle.std.proofs.Math.ListN.{length-set}
use Rattle.std.proofs.Math.Seq.{get_or-append_seam}
use Rattle.std.proofs.lemmas.List.Folds.{find_at}
use Rattle.std.proofs.lemmas.List.Sums.{fails_before_first, passes_at_first}
use Rattle.std.proofs.lemmas.Option.{slice_get_cases}
use Rattle.ip_address.specs.declared.ip.IpAddress.{IpAddress}
use Rattle.ip_address.specs.declared.ip.IpAddress.TheVariants.{Ipv4, Ipv6}
use Rattle.iface_tables.specs.declared.groups.Group.{Group}
use Rattle.iface_tables.specs.declared.groups.GroupState.{GroupState}
use Rattle.iface_tables.specs.Groups.{AreDistinct, is_at, is_same, new_group, index_of, state_of, taken_out, with_new, with_state}

-- two addresses that pass the test are one
pub same_is : (a b : IpAddress) → is_same a b ≡ true → a ≡ b
same_is (Ipv4 a) (Ipv4 b) h = let e : a.bits ≡ b.bits = grind (arith, nat_tests) in ap (λ (n : ℕ). Ipv4 (record { bits = n })) e
same_is (Ipv4 a) (Ipv6 b) h = absurd cc
same_is (Ipv6 a) (Ipv4 b) h = absurd cc
same_is (Ipv6 a) (Ipv6 b) h = let e : a.bits ≡ b.bits = grind (arith, nat_tests) in ap (λ (n : ℕ). Ipv6 (record { bits = n })) e

-- an address passes the test with itself
pub same_itself : (a : IpAddress) → is_same a a ≡ true
same_itself (Ipv4 a) = grind (arith, nat_tests)
same_itself (Ipv6 a) = grind (arith, nat_tests)

-- the state at a group's place is its state
pub state_at_index : (gs : List Group) (a : IpAddress) → option_map (λ (g : Group). g.state) (slice_get gs (index_of gs a)) ≡ state_of gs a
state_at_index gs a = ap (option_map (λ (g : Group). g.state)) (sym (find_at (is_at a) gs))

-- a group with a state stands within the list
pub place_within : (gs : List Group) (a : IpAddress) → IsSome (state_of gs a) → index_of gs a < length gs
place_within gs a h = elim (slice_get_cases gs (index_of gs a)).1 [
  | inl is ↦ is.1
  | inr past ↦ absurd (let f = rw (← state_at_index gs a, past.1) at h in cc)
]

-- one without a state has no place
pub no_place : (gs : List Group) (a : IpAddress) → state_of gs a ≡ None → length gs ≤ index_of gs a
no_place gs a h = elim (slice_get_cases gs (index_of gs a)).1 [
  | inl is ↦ absurd (let e = state_at_index gs a in let f = ap (option_map (λ (g : Group). g.state)) is.2 in cc)
  | inr past ↦ past.0
]

-- the group at a group's place has its address
pub addr_at_index : (gs : List Group) (a : IpAddress) (d : Group) → index_of gs a < length gs → (get_or gs (index_of gs a) d).addr ≡ a
addr_at_index gs a d h = same_is _ a (passes_at_first (is_at a) gs d h)

-- one without a state is at no place
pub not_at : (gs : List Group) (a : IpAddress) (k : ℕ) (d : Group) → state_of gs a ≡ None → k < length gs → (get_or gs k d).addr ≡ a → ⊥
not_at gs a k d none within is =
    let past = no_place gs a none in
    let f : is_same (get_or gs k d).addr a ≡ false = fails_before_first (is_at a) gs k d (omega arith) in
    let t : is_same (get_or gs k d).addr a ≡ true = rw is (same_itself a) in
    cc

-- what stands where a new group is put behind all others
pub old_at : (gs : List Group) (a : IpAddress) (i : ℕ) (d : Group) → i < length gs → (get_or (with_new gs a) i d).addr ≡ (get_or gs i d).addr
old_at gs a i d h = ap (λ (g : Group). g.addr) (get_or_append_left gs (new_group a ∷ []) d i h)

pub new_at : (gs : List Group) (a : IpAddress) (i : ℕ) (d : Group) → i ≡ length gs → (get_or (with_new gs a) i d).addr ≡ a
new_at gs a i d h = rw h (ap (λ (g : Group). g.addr) (get_or-append_seam gs (new_group a) [] d))

pub distinct_after-new : (gs : List Group) (a : IpAddress) → state_of gs a ≡ None → AreDistinct gs → AreDistinct (with_new gs a)
distinct_after-new gs a none distinct i j d i_in j_in same = by (nat_lt i (length gs)) (nat_lt j (length gs)) refl refl where
  n : length (with_new gs a) ≡ length gs + 1
  n = grind (arith, common_steps)

  by : (p q : Bool) → nat_lt i (length gs) ≡ p → nat_lt j (length gs) ≡ q → i ≡ j
  by true true p q =
      let i_lt : i < length gs = grind (arith, nat_tests) in
      let j_lt : j < length gs = grind (arith, nat_tests) in
      distinct i j d i_lt j_lt (sym (old_at gs a i d i_lt) ∙ same ∙ old_at gs a j d j_lt)
  by true false p q =
      let i_lt : i < length gs = grind (arith, nat_tests) in
      let j_is : j ≡ length gs = grind (arith, nat_tests, n) in
      absurd (not_at gs a i d none i_lt (sym (old_at gs a i d i_lt) ∙ same ∙ new_at gs a j d j_is))
  by false true p q =
      let j_lt : j < length gs = grind (arith, nat_tests) in
      let i_is : i ≡ length gs = grind (arith, nat_tests, n) in
      absurd (not_at gs a j d none j_lt (sym (old_at gs a j d j_lt) ∙ sym same ∙ new_at gs a i d i_is))
  by false false p q = grind (arith, nat_tests, n)

-- another state changes no address
pub addr_kept : (gs : List Group) (a : IpAddress) (s : GroupState) (i : ℕ) (d : Group) → index_of gs a < length gs →
    (get_or (with_state gs a s) i d).addr ≡ (get_or gs i d).addr
addr_kept gs a s i d h = by (nat_eq i (index_of gs a)) refl where
  at : Group
  at = record { addr = a; state = s }

  by : (b : Bool) → nat_eq i (index_of gs a) ≡ b → (get_or (with_state gs a s) i d).addr ≡ (get_or gs i d).addr
  by true e =
      let is : i ≡ index_of gs a = grind (arith, nat_tests) in
      rw is (ap (λ (g : Group). g.addr) (get_or-set_same gs (index_of gs a) at d h) ∙ sym (addr_at_index gs a d h))
  by false e =
      let other : i ≢ index_of gs a = grind (arith, nat_tests) in
      ap (λ (g : Group). g.addr) (get_or-set_other gs (index_of gs a) i at d other)

pub distinct_after-state : (gs : List Group) (a : IpAddress) (s : GroupState) → index_of gs a < length gs → AreDistinct gs →
    AreDistinct (with_state gs a s)
distinct_after-state gs a s h distinct i j d i_in j_in same =
    let n : length (with_state gs a s) ≡ length gs = length-set gs (index_of gs a) (record { addr = a; state = s }) in
    distinct i j d (omega (arith, n)) (omega (arith, n)) (sym (addr_kept gs a s i d h) ∙ same ∙ addr_kept gs a s j d h)

-- where a group stood that stands at i after the one at p was taken out: the last moved to p
abbrev pub came_from : ℕ → ℕ → ℕ → ℕ
came_from n p i = cond (nat_eq i p) (n - 1) i

pub length-taken_out : (gs : List Group) (a : IpAddress) → index_of gs a < length gs → length (taken_out gs a) + 1 ≡ length gs
length-taken_out gs a h = grind (arith, common_steps)

-- taking out at a group's place, whatever stands for the last of an empty list
pub taken_is : (gs : List Group) (a : IpAddress) (i : ℕ) (d : Group) → i ≡ index_of gs a → i < length gs → swap_remove gs i d ≡ taken_out gs a
taken_is gs a i d at h =
    rw at (ap (λ (g : Group). take (length gs - 1) (set gs (index_of gs a) g)) (get_or_default gs (length gs - 1) d (new_group a) (omega arith)))

pub taken_at : (gs : List Group) (a : IpAddress) (i : ℕ) (d : Group) → index_of gs a < length gs → i < length (taken_out gs a) →
    get_or (taken_out gs a) i d ≡ get_or gs (came_from (length gs) (index_of gs a) i) d
taken_at gs a i d h within = get_or-take (length gs - 1) (set gs (index_of gs a) last) i d before ∙ by (nat_eq i (index_of gs a)) refl where
  last : Group
  last = get_or gs (length gs - 1) (new_group a)

  before : i < length gs - 1
  before = let n = length-taken_out gs a h in omega arith

  by : (b : Bool) → nat_eq i (index_of gs a) ≡ b → get_or (set gs (index_of gs a) last) i d ≡ get_or gs (cond b (length gs - 1) i) d
  by true e =
      let is : i ≡ index_of gs a = grind (arith, nat_tests) in
      get_or-set_at gs (index_of gs a) i last d is h ∙ get_or_default gs (length gs - 1) (new_group a) d (omega arith)
  by false e =
      let other : i ≢ index_of gs a = grind (arith, nat_tests) in
      get_or-set_other gs (index_of gs a) i last d other

came_from-one : (n p i j : ℕ) → i + 1 < n → j + 1 < n → came_from n p i ≡ came_from n p j → i ≡ j
came_from-one n p i j i_in j_in same = by (nat_eq i p) (nat_eq j p) refl refl same where
  by : (a b : Bool) → nat_eq i p ≡ a → nat_eq j p ≡ b → cond a (n - 1) i ≡ cond b (n - 1) j → i ≡ j
  by true true e f same = grind (arith, nat_tests)
  by true false e f same = absurd (omega arith)
  by false true e f same = absurd (omega arith)
  by false false e f same = same

pub came_from-lt : (n p i : ℕ) → i + 1 < n → came_from n p i < n
came_from-lt n p i h = by (nat_eq i p) where
  by : (b : Bool) → cond b (n - 1) i < n
  by true = omega arith
  by false = omega arith

pub distinct_after-taken_out : (gs : List Group) (a : IpAddress) → index_of gs a < length gs → AreDistinct gs → AreDistinct (taken_out gs a)
distinct_after-taken_out gs a h distinct i j d i_in j_in same =
    let n = length-taken_out gs a h in
    let p = index_of gs a in
    let is = λ (k : ℕ) (k_in : k < length (taken_out gs a)). ap (λ (g : Group). g.addr) (taken_at gs a k d h k_in) in
    came_from-one (length gs) p i j (omega (arith, n)) (omega (arith, n))
    (distinct _ _ d (came_from-lt (length gs) p i (omega (arith, n)))
    (came_from-lt (length gs) p j (omega (arith, n))) (sym (is i i_in) ∙ same ∙ is j j_in))
