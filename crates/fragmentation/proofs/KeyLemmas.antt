-- Keys in their order, and maps from them.
use Rattle.std.proofs.Common.{◌≡◌, ◌+◌, ℕ, ℤ, refl, sym, ap, ◌∙◌}
use Rattle.std.specs.Prelude.{Bool, true, false, cond, not, ◌&&◌, ◌==◌, Some, None, Option}
use Rattle.std.specs.Ordering.{eq_by_cmp, is_eq, nat_cmp, ordering_then}
use Rattle.std.specs.declared.cmp.Ordering.{Ordering}
use Rattle.std.specs.declared.cmp.Ordering.TheVariants.{Less, Equal, Greater}
use Rattle.std.specs.Cmp.{IsTotalOrder, nat_cmp_total, on_total, then_total, tied_itself, unsigned_ties}
use Rattle.std.specs.FinMap as map
use Rattle.std.specs.FinMap.{IsAntisymmetric, nat_cmp-IsAntisymmetric, same_map, get-insert, get-remove, get-empty, get-retain_keys, len-insert}
use Rattle.fragmentation.specs.declared.key.FragKey.{FragKey}
use Rattle.fragmentation.specs.Keys.{key_cmp}
use Rattle.fragmentation.specs.Slots.{Slot, Held, has_ended, held_at}

pub key_total : IsTotalOrder key_cmp
key_total =
    then_total (on_total (λ (k : FragKey). k.identification) nat_cmp_total) (then_total (on_total (λ (k : FragKey). k.src_addr.bits) nat_cmp_total)
    (then_total (on_total (λ (k : FragKey). k.dst_addr.bits) nat_cmp_total) (on_total (λ (k : FragKey). k.protocol) nat_cmp_total)))

then_equal : (a b : Ordering) → ordering_then a b ≡ Equal → (a ≡ Equal) × (b ≡ Equal)
then_equal Less b e = cc
then_equal Equal b e = (refl, e)
then_equal Greater b e = cc

same_number : (m n : ℕ) → nat_cmp m n ≡ Equal → m ≡ n
same_number m n e = nat_cmp-IsAntisymmetric m n e

key_with : ℕ → ℕ → ℕ → ℕ → FragKey
key_with i s d p = record { identification = i; src_addr = record { bits = s }; dst_addr = record { bits = d }; protocol = p }

same_parts : (i j s t d e p q : ℕ) → i ≡ j → s ≡ t → d ≡ e → p ≡ q → key_with i s d p ≡ key_with j t e q
same_parts i j s t d e p q a b c f = cc

pub key_same : IsAntisymmetric key_cmp
unfolding key_with
key_same a b e =
    let first = then_equal _ _ e in
    let second = then_equal _ _ first.1 in
    let third = then_equal _ _ second.1 in
    same_parts a.identification b.identification a.src_addr.bits b.src_addr.bits a.dst_addr.bits b.dst_addr.bits a.protocol b.protocol
    (same_number _ _ first.0) (same_number _ _ second.0) (same_number _ _ third.0) (same_number _ _ third.1)

is_eq-Equal : (o : Ordering) → is_eq o ≡ true → o ≡ Equal
is_eq-Equal Less h = cc
is_eq-Equal Equal h = refl
is_eq-Equal Greater h = cc

pub keys_equal : (a b : FragKey) → eq_by_cmp key_cmp a b ≡ true → a ≡ b
keys_equal a b h = key_same a b (is_eq-Equal _ h)

pub key_tied : (a : FragKey) → eq_by_cmp key_cmp a a ≡ true
key_tied a = ap is_eq (tied_itself key_total a)

two_ways : (b : Bool) → b ≡ true → b ≡ false → ⊥
two_ways b h k = cc

pub keys_apart : (a b : FragKey) → (a ≡ b → ⊥) → eq_by_cmp key_cmp a b ≡ false
keys_apart a b apart = elim (eq_by_cmp key_cmp a b) as (λ t. eq_by_cmp key_cmp a b ≡ t → t ≡ false) [
  | true ↦ λ h. absurd (apart (keys_equal a b h))
  | false ↦ λ h. refl
] refl

pub get_put : (m : Held) (k : FragKey) (v : Slot) → map.get (map.insert m k v) k ≡ Some v
get_put m k v = get-insert key_total m k v k ∙ rw (key_tied k) refl

pub get_put_apart : (m : Held) (k q : FragKey) (v : Slot) → (q ≡ k → ⊥) → map.get (map.insert m k v) q ≡ map.get m q
get_put_apart m k q v apart = get-insert key_total m k v q ∙ rw (keys_apart q k apart) refl

pub get_out : (m : Held) (k : FragKey) → map.get (map.remove m k) k ≡ None
get_out m k = get-remove key_total m k k ∙ rw (key_tied k) refl

pub get_out_apart : (m : Held) (k q : FragKey) → (q ≡ k → ⊥) → map.get (map.remove m k) q ≡ map.get m q
get_out_apart m k q apart = get-remove key_total m k q ∙ rw (keys_apart q k apart) refl

same : (m n : Held) → ((q : FragKey) → map.get m q ≡ map.get n q) → m ≡ n
same = same_map key_total key_same

shadowed : {A : Type 0} (b : Bool) (x y z : A) → cond b x (cond b y z) ≡ cond b x z
shadowed true x y z = refl
shadowed false x y z = refl

swapped : {A : Type 0} (a b : Bool) (x y z : A) → (a ≡ true → b ≡ true → ⊥) → cond a x (cond b y z) ≡ cond b y (cond a x z)
swapped true true x y z apart = absurd (apart refl refl)
swapped true false x y z apart = refl
swapped false b x y z apart = refl

both_out : {A : Type 0} (a b : Bool) (x z : A) → cond a x (cond b x z) ≡ cond b x (cond a x z)
both_out true true x z = refl
both_out true false x z = refl
both_out false b x z = refl

-- what is put in and taken out again
pub put_out : (m : Held) (k : FragKey) (v : Slot) → map.remove (map.insert m k v) k ≡ map.remove m k
put_out m k v = same _ _ (λ q.
    get-remove key_total (map.insert m k v) k q ∙ ap (cond (eq_by_cmp key_cmp q k) None) (get-insert key_total m k v q)
    ∙ shadowed (eq_by_cmp key_cmp q k) None (Some v) (map.get m q) ∙ sym (get-remove key_total m k q))

pub put_out_apart : (m : Held) (j k : FragKey) (v : Slot) → (k ≡ j → ⊥) → map.remove (map.insert m k v) j ≡ map.insert (map.remove m j) k v
put_out_apart m j k v apart = same _ _ (λ q.
    get-remove key_total (map.insert m k v) j q ∙ ap (cond (eq_by_cmp key_cmp q j) None) (get-insert key_total m k v q)
    ∙ swapped (eq_by_cmp key_cmp q j) (eq_by_cmp key_cmp q k) None (Some v) (map.get m q) (λ a b. apart (sym (keys_equal q k b) ∙ keys_equal q j a))
    ∙ ap (cond (eq_by_cmp key_cmp q k) (Some v)) (sym (get-remove key_total m j q)) ∙ sym (get-insert key_total (map.remove m j) k v q))

pub out_out : (m : Held) (j k : FragKey) → map.remove (map.remove m k) j ≡ map.remove (map.remove m j) k
out_out m j k = same _ _ (λ q.
    get-remove key_total (map.remove m k) j q ∙ ap (cond (eq_by_cmp key_cmp q j) None) (get-remove key_total m k q)
    ∙ both_out (eq_by_cmp key_cmp q j) (eq_by_cmp key_cmp q k) None (map.get m q)
    ∙ ap (cond (eq_by_cmp key_cmp q k) None) (sym (get-remove key_total m j q)) ∙ sym (get-remove key_total (map.remove m j) k q))

-- what isn't there can't be taken out
absent : (b : Bool) (o : Option Slot) → (b ≡ true → o ≡ None) → cond b None o ≡ o
absent true o h = sym (h refl)
absent false o h = refl

pub out_absent : (m : Held) (k : FragKey) → map.get m k ≡ None → map.remove m k ≡ m
out_absent m k e =
    same _ _ (λ q. get-remove key_total m k q ∙ absent (eq_by_cmp key_cmp q k) (map.get m q) (λ h. ap (map.get m) (keys_equal q k h) ∙ e))

-- what is there and is taken out can be put in again
present : (b : Bool) (o : Option Slot) (v : Slot) → (b ≡ true → o ≡ Some v) → cond b (Some v) (cond b None o) ≡ o
present true o v h = sym (h refl)
present false o v h = refl

pub out_put : (m : Held) (k : FragKey) (v : Slot) → map.get m k ≡ Some v → map.insert (map.remove m k) k v ≡ m
out_put m k v e = same _ _ (λ q.
    get-insert key_total (map.remove m k) k v q ∙ ap (cond (eq_by_cmp key_cmp q k) (Some v)) (get-remove key_total m k q)
    ∙ present (eq_by_cmp key_cmp q k) (map.get m q) v (λ h. ap (map.get m) (keys_equal q k h) ∙ e))

pub len_out : (m : Held) (k : FragKey) (v : Slot) → map.get m k ≡ Some v → map.len m ≡ map.len (map.remove m k) + 1
len_out m k v e = sym (ap map.len (out_put m k v e)) ∙ len-insert key_total (map.remove m k) k v ∙ rw (get_out m k) refl

-- what is left at t
pub get_left : (t : ℤ) (m : Held) (q : FragKey) → map.get (held_at t m) q ≡ cond (not (has_ended t (map.get m q))) (map.get m q) None
get_left t m q = get-retain_keys m (λ k. not (has_ended t (map.get m k))) q (λ x e. ap (λ k. not (has_ended t (map.get m k))) (sym (key_same q x e)))

left_out : (t : ℤ) (b : Bool) (o : Option Slot) →
    cond b None (cond (not (has_ended t o)) o None) ≡ cond (not (has_ended t (cond b None o))) (cond b None o) None
left_out t true o = refl
left_out t false o = refl

pub left_remove : (t : ℤ) (m : Held) (k : FragKey) → map.remove (held_at t m) k ≡ held_at t (map.remove m k)
left_remove t m k = same _ _ (λ q.
    get-remove key_total (held_at t m) k q ∙ ap (cond (eq_by_cmp key_cmp q k) None) (get_left t m q)
    ∙ left_out t (eq_by_cmp key_cmp q k) (map.get m q)
    ∙ sym (ap (λ (o : Option Slot). cond (not (has_ended t o)) o None) (get-remove key_total m k q)) ∙ sym (get_left t (map.remove m k) q))

-- a slot that has ended is not left
pub left_ended : (t : ℤ) (m : Held) (k : FragKey) → has_ended t (map.get m k) ≡ true → held_at t (map.remove m k) ≡ held_at t m
left_ended t m k e = sym (left_remove t m k) ∙ out_absent (held_at t m) k (get_left t m k ∙ rw e refl)

pub left_kept : (t : ℤ) (m : Held) (k : FragKey) → has_ended t (map.get m k) ≡ false → map.get (held_at t m) k ≡ map.get m k
left_kept t m k e = get_left t m k ∙ rw e refl

pub left_none : (t : ℤ) → held_at t map.empty ≡ map.empty
left_none t = same _ _ (λ q. get_left t map.empty q ∙ rw (get-empty {X = Slot} key_cmp q) refl)

ties : (r s : Ordering) → is_eq (ordering_then r s) ≡ is_eq r && is_eq s
ties Less s = refl
ties Equal s = refl
ties Greater s = refl

number_ties : (m n : ℕ) → (m == n) ≡ is_eq (nat_cmp m n)
number_ties m n = unsigned_ties m n

parts : (p q r s : Bool) (w x y z : Ordering) → p ≡ is_eq w → q ≡ is_eq x → r ≡ is_eq y → s ≡ is_eq z →
    p && (q && (r && s)) ≡ is_eq (ordering_then w (ordering_then x (ordering_then y z)))
parts p q r s w x y z a b c d = rw (a, b, c, d) (sym (ties w _ ∙ ap (λ t. is_eq w && t) (ties x _ ∙ ap (λ t. is_eq x && t) (ties y z))))

moved : (p q r s : Bool) → q && (r && (p && s)) ≡ p && (q && (r && s))
moved true q r s = refl
moved false true true s = refl
moved false true false s = refl
moved false false r s = refl

-- keys are equal part by part
pub key_ties : (a b : FragKey) → (a.src_addr.bits == b.src_addr.bits)
    && ((a.dst_addr.bits == b.dst_addr.bits) && ((a.identification == b.identification) && (a.protocol == b.protocol))) ≡ eq_by_cmp key_cmp a b
key_ties a b = moved (a.identification == b.identification) _ _ (a.protocol == b.protocol)
    ∙ parts _ _ _ _ _ _ _ _ (number_ties a.identification b.identification) (number_ties a.src_addr.bits b.src_addr.bits)
    (number_ties a.dst_addr.bits b.dst_addr.bits) (number_ties a.protocol b.protocol)
