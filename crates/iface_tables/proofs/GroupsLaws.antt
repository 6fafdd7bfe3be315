-- What every call keeps, and how a group moves.
use Rattle.std.proofs.Common.{◌≡◌, ◌≢◌, ℕ, ◌+◌, ◌-◌, ◌<◌, nat_eq, nat_lt, cond, ◌&&◌, is_none, List, [], ◌∷◌, ◌++◌, length, get_or, take}
use Rattle.std.proofs.Common.{set, option_map, slice_get, Bool, true, false, Some, None, Option, refl, sym, ap, subst, ◌∙◌, append_assoc}
use Rattle.std.proofs.Common.{arith}
use Rattle.std.proofs.lemmas.Bool.Decides.{nat_tests}
use Rattle.std.proofs.lemmas.Grind.{common_steps}
use Rattle.std.proofs.lemmas.List.Sums.{position_or_len_is}
use Rattle.std.proofs.lemmas.Option.{slice_get-get_or, slice_get_past}
use Rattle.std.proofs.lemmas.List.{get_or_append_left, get_or-set_same, get_or-set_other}
use Rattle.std.proofs.Math.ListN.{length-set}
use Rattle.std.proofs.Math.Seq.{get_or-append_seam, set-append_seam, take-append_seam}
use Rattle.ip_address.specs.declared.ip.IpAddress.{IpAddress}
use Rattle.iface_tables.specs.declared.groups.Group.{Group}
use Rattle.iface_tables.specs.declared.groups.GroupState.{GroupState}
use Rattle.iface_tables.specs.declared.groups.GroupState.TheVariants.{Joining, Joined, Leaving}
use Rattle.iface_tables.specs.Groups.{AreDistinct, JoinsMember, LastGoesAlone, LastMovesIntoGap, LeavesNoMember, OthersStay, StayDistinct}
use Rattle.iface_tables.specs.Groups.{is_at, is_full, is_member, is_member_in, is_same, join_reported_from, joined_from, leave_reported_from}
use Rattle.iface_tables.specs.Groups.{left_from, new_group, index_of, state_of, taken_out, with_new, with_state}
use Rattle.iface_tables.proofs.GroupsLemmas.{addr_at_index, addr_kept, new_at, came_from, came_from-lt, distinct_after-new}
use Rattle.iface_tables.proofs.GroupsLemmas.{distinct_after-state, distinct_after-taken_out, length-taken_out, not_at, place_within, same_is}
use Rattle.iface_tables.proofs.GroupsLemmas.{same_itself, state_at_index, taken_at}

-- a group with a state has a place
within : (gs : List Group) (a : IpAddress) (s : GroupState) → state_of gs a ≡ Some s → index_of gs a < length gs
within gs a s is = place_within gs a (rw is refl)

distinct-joined : (gs : List Group) (a : IpAddress) → AreDistinct gs → (o : Option GroupState) → state_of gs a ≡ o →
    (room : ℕ) → AreDistinct (joined_from o room gs a)
distinct-joined gs a distinct None is = λ room. by (is_full room gs) where
  by : (b : Bool) → AreDistinct (cond b gs (with_new gs a))
  by true = distinct
  by false = distinct_after-new gs a is distinct
distinct-joined gs a distinct (Some Joining) is = λ room. distinct
distinct-joined gs a distinct (Some Joined) is = λ room. distinct
distinct-joined gs a distinct (Some Leaving) is = λ room. distinct_after-state gs a Joined (within gs a Leaving is) distinct

distinct-left : (gs : List Group) (a : IpAddress) → AreDistinct gs → (o : Option GroupState) → state_of gs a ≡ o → AreDistinct (left_from o gs a)
distinct-left gs a distinct None is = distinct
distinct-left gs a distinct (Some Joining) is = distinct_after-taken_out gs a (within gs a Joining is) distinct
distinct-left gs a distinct (Some Joined) is = distinct_after-state gs a Leaving (within gs a Joined is) distinct
distinct-left gs a distinct (Some Leaving) is = distinct

distinct-join_reported : (gs : List Group) (a : IpAddress) → AreDistinct gs → (o : Option GroupState) → state_of gs a ≡ o →
    AreDistinct (join_reported_from o gs a)
distinct-join_reported gs a distinct None is = distinct
distinct-join_reported gs a distinct (Some Joining) is = distinct_after-state gs a Joined (within gs a Joining is) distinct
distinct-join_reported gs a distinct (Some Joined) is = distinct
distinct-join_reported gs a distinct (Some Leaving) is = distinct

distinct-leave_reported : (gs : List Group) (a : IpAddress) → AreDistinct gs → (o : Option GroupState) → state_of gs a ≡ o →
    AreDistinct (leave_reported_from o gs a)
distinct-leave_reported gs a distinct None is = distinct
distinct-leave_reported gs a distinct (Some Joining) is = distinct
distinct-leave_reported gs a distinct (Some Joined) is = distinct
distinct-leave_reported gs a distinct (Some Leaving) is = distinct_after-taken_out gs a (within gs a Leaving is) distinct

pub stay_distinct : StayDistinct
stay_distinct gs a distinct = record {
  after_join = distinct-joined gs a distinct (state_of gs a) refl;
  after_leave = distinct-left gs a distinct (state_of gs a) refl;
  after_join_reported = distinct-join_reported gs a distinct (state_of gs a) refl;
  after_leave_reported = distinct-leave_reported gs a distinct (state_of gs a) refl;
}

-- a group stands where its address does
pub stands_at : (gs : List Group) (a : IpAddress) (i : ℕ) (d : Group) → AreDistinct gs → i < length gs → (get_or gs i d).addr ≡ a → index_of gs a ≡ i
stands_at gs a i d distinct h at = position_or_len_is (is_at a) gs i d (omega arith) before (λ _. rw at (same_itself a)) where
  before : (k : ℕ) → k < i → is_same (get_or gs k d).addr a ≡ false
  before k below = by (is_same (get_or gs k d).addr a) refl where
    by : (b : Bool) → is_same (get_or gs k d).addr a ≡ b → b ≡ false
    by true t = absurd (let one : k ≡ i = distinct k i d (omega arith) h (same_is _ a t ∙ sym at) in omega arith)
    by false t = refl

-- and has the state that stands there
pub state_at : (gs : List Group) (a : IpAddress) (i : ℕ) (d : Group) → AreDistinct gs → i < length gs → (get_or gs i d).addr ≡ a →
    state_of gs a ≡ Some (get_or gs i d).state
state_at gs a i d distinct h at =
    sym (state_at_index gs a) ∙ ap (λ (k : ℕ). option_map (λ (g : Group). g.state) (slice_get gs k)) (stands_at gs a i d distinct h at)
    ∙ ap (option_map (λ (g : Group). g.state)) (slice_get-get_or gs i d h)

-- a group at no place has no state
no_state : (gs : List Group) (a : IpAddress) (d : Group) → ((k : ℕ) → k < length gs → (get_or gs k d).addr ≢ a) → state_of gs a ≡ None
no_state gs a d none =
    let past : index_of gs a ≡ length gs = position_or_len_is (is_at a) gs (length gs) d (omega arith) before (λ h. absurd (omega arith)) in
    sym (state_at_index gs a) ∙ ap (option_map (λ (g : Group). g.state)) (slice_get_past gs (index_of gs a) (omega arith))
  where
    before : (k : ℕ) → k < length gs → is_same (get_or gs k d).addr a ≡ false
    before k below = by (is_same (get_or gs k d).addr a) refl where
      by : (b : Bool) → is_same (get_or gs k d).addr a ≡ b → b ≡ false
      by true t = absurd (none k below (same_is _ a t))
      by false t = refl

-- a group in the middle stands there
middle : (front back : List Group) (g : Group) → AreDistinct (front ++ g ∷ back) → index_of (front ++ g ∷ back) g.addr ≡ length front
middle front back g distinct =
    stands_at (front ++ g ∷ back) g.addr (length front) g distinct (grind (arith, common_steps))
    (ap (λ (x : Group). x.addr) (get_or-append_seam front g back g))

-- a list whose last went to the place behind `front`, without its end
moved : (whole front back : List Group) (g last : Group) (p m : ℕ) →
    whole ≡ front ++ g ∷ (back ++ last ∷ []) → p ≡ length front → m ≡ length front + 1 + length back →
    take m (set whole p last) ≡ front ++ last ∷ back
moved whole front back g last p m e at n =
    let set_is : set whole p last ≡ (front ++ last ∷ back) ++ last ∷ [] =
    rw (e, at) (set-append_seam front g (back ++ last ∷ []) last ∙ simp append_assoc) in
    let m_is : m ≡ length (front ++ last ∷ back) = grind (arith, common_steps) in
    ap (take m) set_is ∙ ap (λ (k : ℕ). take k ((front ++ last ∷ back) ++ last ∷ [])) m_is ∙ take-append_seam (front ++ last ∷ back) (last ∷ [])

pub last_moves : LastMovesIntoGap
last_moves front back g last distinct =
    let whole : List Group = (front ++ g ∷ back) ++ last ∷ [] in
    let d = new_group g.addr in
    let e : whole ≡ front ++ g ∷ (back ++ last ∷ []) = simp append_assoc in
    let p : index_of whole g.addr ≡ length front =
    ap (λ (l : List Group). index_of l g.addr) e ∙ middle front (back ++ last ∷ []) g (subst AreDistinct e distinct) in
    let n : length whole - 1 ≡ length (front ++ g ∷ back) = grind (arith, common_steps) in
    let l : get_or whole (length whole - 1) d ≡ last = ap (λ (k : ℕ). get_or whole k d) n ∙ get_or-append_seam (front ++ g ∷ back) last [] d in
    let m : length whole - 1 ≡ length front + 1 + length back = grind (arith, common_steps) in
    ap (λ (x : Group). take (length whole - 1) (set whole (index_of whole g.addr) x)) l ∙ moved whole front back g last _ _ e p m

pub last_goes : LastGoesAlone
last_goes front g distinct =
    let whole : List Group = front ++ g ∷ [] in
    let x = get_or whole (length whole - 1) (new_group g.addr) in
    let n : length whole - 1 ≡ length front = grind (arith, common_steps) in
    ap (λ (k : ℕ). take (length whole - 1) (set whole k x)) (middle front [] g distinct) ∙ ap (λ (k : ℕ). take k (set whole (length front) x)) n
    ∙ ap (take (length front)) (set-append_seam front g [] x) ∙ take-append_seam front (x ∷ [])

-- the state that a group has afterwards
new_state : (gs : List Group) (a : IpAddress) → AreDistinct gs → state_of gs a ≡ None → state_of (with_new gs a) a ≡ Some Joining
new_state gs a distinct none =
    let d = new_group a in
    state_at (with_new gs a) a (length gs) d (distinct_after-new gs a none distinct) (grind (arith, common_steps)) (new_at gs a (length gs) d refl)
    ∙ ap (λ (g : Group). Some g.state) (get_or-append_seam gs d [] d)

other_state : (gs : List Group) (a : IpAddress) (s : GroupState) →
    AreDistinct gs → index_of gs a < length gs → state_of (with_state gs a s) a ≡ Some s
other_state gs a s distinct h =
    let d = new_group a in
    let at : Group = record { addr = a; state = s } in
    let is = get_or-set_same gs (index_of gs a) at d h in
    let n : length (with_state gs a s) ≡ length gs = length-set gs (index_of gs a) at in
    state_at (with_state gs a s) a (index_of gs a) d (distinct_after-state gs a s h distinct) (omega (arith, n)) (ap (λ (g : Group). g.addr) is)
    ∙ ap (λ (g : Group). Some g.state) is

came_from-same : (n p i : ℕ) → i ≡ p → came_from n p i ≡ n - 1
came_from-same n p i e = by (nat_eq i p) refl where
  by : (b : Bool) → nat_eq i p ≡ b → cond b (n - 1) i ≡ n - 1
  by true t = refl
  by false t = absurd (grind (arith, nat_tests))

came_from-other : (n p i : ℕ) → i ≢ p → came_from n p i ≡ i
came_from-other n p i e = by (nat_eq i p) refl where
  by : (b : Bool) → nat_eq i p ≡ b → cond b (n - 1) i ≡ i
  by true t = absurd (grind (arith, nat_tests))
  by false t = refl

came_from-past : (n p i : ℕ) → i + 1 < n → came_from n p i ≢ p
came_from-past n p i h = by (nat_eq i p) refl where
  by : (b : Bool) → nat_eq i p ≡ b → cond b (n - 1) i ≢ p
  by true t = let e : i ≡ p = grind (arith, nat_tests) in λ f. omega arith
  by false t = let e : i ≢ p = grind (arith, nat_tests) in e

gone_state : (gs : List Group) (a : IpAddress) → AreDistinct gs → index_of gs a < length gs → state_of (taken_out gs a) a ≡ None
gone_state gs a distinct h = no_state (taken_out gs a) a (new_group a) none where
  none : (k : ℕ) → k < length (taken_out gs a) → (get_or (taken_out gs a) k (new_group a)).addr ≢ a
  none k k_in at =
      let d = new_group a in
      let p = index_of gs a in
      let n = length-taken_out gs a h in
      let from = came_from (length gs) p k in
      let is : (get_or gs from d).addr ≡ a = sym (ap (λ (g : Group). g.addr) (taken_at gs a k d h k_in)) ∙ at in
      came_from-past (length gs) p k (omega (arith, n))
      (distinct from p d (came_from-lt (length gs) p k (omega (arith, n))) h (is ∙ sym (addr_at_index gs a d h)))

pub joins_member : JoinsMember
joins_member room gs a distinct taken = by (state_of gs a) refl taken where
  by : (o : Option GroupState) → state_of gs a ≡ o → (is_none o && is_full room gs) ≡ false → is_member (joined_from o room gs a) a ≡ true
  by None is taken = unless_full (is_full room gs) taken where
    unless_full : (b : Bool) → b ≡ false → is_member (cond b gs (with_new gs a)) a ≡ true
    unless_full true t = absurd cc
    unless_full false t = ap is_member_in (new_state gs a distinct is)
  by (Some Joining) is taken = ap is_member_in is
  by (Some Joined) is taken = ap is_member_in is
  by (Some Leaving) is taken = ap is_member_in (other_state gs a Joined distinct (within gs a Leaving is))

pub leaves_no_member : LeavesNoMember
leaves_no_member gs a distinct = by (state_of gs a) refl where
  by : (o : Option GroupState) → state_of gs a ≡ o → is_member (left_from o gs a) a ≡ false
  by None is = ap is_member_in is
  by (Some Joining) is = ap is_member_in (gone_state gs a distinct (within gs a Joining is))
  by (Some Joined) is = ap is_member_in (other_state gs a Leaving distinct (within gs a Joined is))
  by (Some Leaving) is = ap is_member_in is

-- each group of this address in one list is in the other
abbrev IsAlso : IpAddress → Group → List Group → List Group → Type 0
IsAlso b d gs hs = (i : ℕ) → i < length gs → (get_or gs i d).addr ≡ b → (j : ℕ) × (j < length hs) × (get_or hs j d ≡ get_or gs i d)

-- two lists that have the same groups of an address have the same state of it
same_state : (gs hs : List Group) (b : IpAddress) (d : Group) → AreDistinct gs → AreDistinct hs → IsAlso b d gs hs → IsAlso b d hs gs →
    state_of hs b ≡ state_of gs b
same_state gs hs b d distinct distinct_hs forth back = by (state_of gs b) refl where
  by : (o : Option GroupState) → state_of gs b ≡ o → state_of hs b ≡ state_of gs b
  by None none = no_state hs b d (λ k k_in at. let w = back k k_in at in not_at gs b w.0 d none w.1 (ap (λ (g : Group). g.addr) w.2 ∙ at)) ∙ sym none
  by (Some s) is =
      let h = within gs b s is in
      let at = addr_at_index gs b d h in
      let w = forth (index_of gs b) h at in
      state_at hs b w.0 d distinct_hs w.1 (ap (λ (g : Group). g.addr) w.2 ∙ at) ∙ ap (λ (g : Group). Some g.state) w.2
      ∙ sym (state_at gs b (index_of gs b) d distinct h at)

module _ (gs : List Group) (a b : IpAddress) (distinct : AreDistinct gs) (other : a ≢ b) where
  kept_new : state_of gs a ≡ None → state_of (with_new gs a) b ≡ state_of gs b
  kept_new none = same_state gs (with_new gs a) b d distinct (distinct_after-new gs a none distinct) forth back where
    d : Group
    d = new_group a

    n : length (with_new gs a) ≡ length gs + 1
    n = grind (arith, common_steps)

    forth : IsAlso b d gs (with_new gs a)
    forth i h at = (i, omega (arith, n), get_or_append_left gs (d ∷ []) d i h)

    back : IsAlso b d (with_new gs a) gs
    back j h at = by (nat_lt j (length gs)) refl where
      by : (t : Bool) → nat_lt j (length gs) ≡ t → (i : ℕ) × (i < length gs) × (get_or gs i d ≡ get_or (with_new gs a) j d)
      by true t = let lt : j < length gs = grind (arith, nat_tests) in (j, lt, sym (get_or_append_left gs (d ∷ []) d j lt))
      by false t = let is : j ≡ length gs = grind (arith, nat_tests, n) in absurd (other (sym (new_at gs a j d is) ∙ at))

  kept_state : (s : GroupState) → index_of gs a < length gs → state_of (with_state gs a s) b ≡ state_of gs b
  kept_state s p_in = same_state gs (with_state gs a s) b d distinct (distinct_after-state gs a s p_in distinct) forth back where
    d : Group
    d = new_group a

    p : ℕ
    p = index_of gs a

    at_p : Group
    at_p = record { addr = a; state = s }

    n : length (with_state gs a s) ≡ length gs
    n = length-set gs p at_p

    apart : (i : ℕ) → (get_or gs i d).addr ≡ b → i ≢ p
    apart i at is = other (sym (addr_at_index gs a d p_in) ∙ ap (λ (k : ℕ). (get_or gs k d).addr) (sym is) ∙ at)

    forth : IsAlso b d gs (with_state gs a s)
    forth i h at = (i, omega (arith, n), get_or-set_other gs p i at_p d (apart i at))

    back : IsAlso b d (with_state gs a s) gs
    back j h at = (j, omega (arith, n), sym (get_or-set_other gs p j at_p d (apart j (sym (addr_kept gs a s j d p_in) ∙ at))))

  kept_taken_out : index_of gs a < length gs → state_of (taken_out gs a) b ≡ state_of gs b
  kept_taken_out p_in = same_state gs (taken_out gs a) b d distinct (distinct_after-taken_out gs a p_in distinct) forth back where
    d : Group
    d = new_group a

    p : ℕ
    p = index_of gs a

    n : length (taken_out gs a) + 1 ≡ length gs
    n = length-taken_out gs a p_in

    forth : IsAlso b d gs (taken_out gs a)
    forth i h at = by (nat_eq i (length gs - 1)) refl where
      apart : i ≢ p
      apart is = other (sym (addr_at_index gs a d p_in) ∙ ap (λ (k : ℕ). (get_or gs k d).addr) (sym is) ∙ at)

      by : (t : Bool) → nat_eq i (length gs - 1) ≡ t → (j : ℕ) × (j < length (taken_out gs a)) × (get_or (taken_out gs a) j d ≡ get_or gs i d)
      by true t =
          let is : i ≡ length gs - 1 = grind (arith, nat_tests) in
          let not_p : i ≢ p = apart in
          let lt : p < length (taken_out gs a) = omega (arith, n) in
          (p, lt, taken_at gs a p d p_in lt ∙ ap (λ (k : ℕ). get_or gs k d) (came_from-same (length gs) p p refl ∙ sym is))
      by false t =
          let is : i ≢ length gs - 1 = grind (arith, nat_tests) in
          let lt : i < length (taken_out gs a) = omega (arith, n) in
          (i, lt, taken_at gs a i d p_in lt ∙ ap (λ (k : ℕ). get_or gs k d) (came_from-other (length gs) p i apart))

    back : IsAlso b d (taken_out gs a) gs
    back j h at = (came_from (length gs) p j, came_from-lt (length gs) p j (omega (arith, n)), sym (taken_at gs a j d p_in h))

  kept-joined : (o : Option GroupState) → state_of gs a ≡ o → (room : ℕ) → state_of (joined_from o room gs a) b ≡ state_of gs b
  kept-joined None is = λ room. by (is_full room gs) where
    by : (t : Bool) → state_of (cond t gs (with_new gs a)) b ≡ state_of gs b
    by true = refl
    by false = kept_new is
  kept-joined (Some Joining) is = λ room. refl
  kept-joined (Some Joined) is = λ room. refl
  kept-joined (Some Leaving) is = λ room. kept_state Joined (within gs a Leaving is)

  kept-left : (o : Option GroupState) → state_of gs a ≡ o → state_of (left_from o gs a) b ≡ state_of gs b
  kept-left None is = refl
  kept-left (Some Joining) is = kept_taken_out (within gs a Joining is)
  kept-left (Some Joined) is = kept_state Leaving (within gs a Joined is)
  kept-left (Some Leaving) is = refl

  kept-join_reported : (o : Option GroupState) → state_of gs a ≡ o → state_of (join_reported_from o gs a) b ≡ state_of gs b
  kept-join_reported None is = refl
  kept-join_reported (Some Joining) is = kept_state Joined (within gs a Joining is)
  kept-join_reported (Some Joined) is = refl
  kept-join_reported (Some Leaving) is = refl

  kept-leave_reported : (o : Option GroupState) → state_of gs a ≡ o → state_of (leave_reported_from o gs a) b ≡ state_of gs b
  kept-leave_reported None is = refl
  kept-leave_reported (Some Joining) is = refl
  kept-leave_reported (Some Joined) is = refl
  kept-leave_reported (Some Leaving) is = kept_taken_out (within gs a Leaving is)

pub others_stay : OthersStay
others_stay gs a b distinct other = record {
  join = kept-joined gs a b distinct other (state_of gs a) refl;
  leave = kept-left gs a b distinct other (state_of gs a) refl;
  report_of_join = kept-join_reported gs a b distinct other (state_of gs a) refl;
  report_of_leave = kept-leave_reported gs a b distinct other (state_of gs a) refl;
}
