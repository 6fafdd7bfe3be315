-- The keys of datagrams, and slots by key.
use Rattle.std.proofs.Common.{◌≡◌, ℕ, refl, sym, ap}
use Rattle.std.specs.Prelude.{ℤ, true, not, None, if◌then◌else◌}
use Rattle.std.specs.Ordering.{nat_cmp, is_eq, ordering_then}
use Rattle.std.specs.Cmp.{IsTotalOrder, nat_cmp_total}
use Rattle.std.specs.declared.cmp.Ordering.{Ordering}
use Rattle.std.specs.declared.cmp.Ordering.TheVariants.{Less, Equal, Greater}
use Rattle.std.specs.FinMap as map
use Rattle.std.specs.FinMap.{IsAntisymmetric, get-retain_keys}
use Rattle.std.proofs.lemmas.Cmp.{on_total, then_total}
use Rattle.std.proofs.lemmas.Map.Lookups.{exact_pairs, exact_unsigned}
use Rattle.fragmentation.specs.declared.key.FragKey.{FragKey}
use Rattle.fragmentation.specs.Keys.{key_cmp, same_key}
use Rattle.fragmentation.specs.Slots.{Slots, has_ended, live_at}

pub key_total : IsTotalOrder key_cmp
key_total =
    then_total (on_total (λ k. k.identification) nat_cmp_total) (then_total (on_total (λ k. k.src_addr.bits) nat_cmp_total)
    (then_total (on_total (λ k. k.dst_addr.bits) nat_cmp_total) (on_total (λ k. k.protocol) nat_cmp_total)))

parts : FragKey → ℕ × (ℕ × (ℕ × ℕ))
parts k = (k.identification, (k.src_addr.bits, (k.dst_addr.bits, k.protocol)))

key_from : ℕ × (ℕ × (ℕ × ℕ)) → FragKey
key_from p = record { identification = p.0; src_addr = record { bits = p.1.0 }; dst_addr = record { bits = p.1.1.0 }; protocol = p.1.1.1 }

-- keys that compare alike are one
pub key_exact : IsAntisymmetric key_cmp
unfolding parts key_from
key_exact a b h =
    ap key_from
    (exact_pairs nat_cmp (λ x y. ordering_then (nat_cmp x.0 y.0) (ordering_then (nat_cmp x.1.0 y.1.0) (nat_cmp x.1.1 y.1.1))) exact_unsigned
    (exact_pairs nat_cmp (λ x y. ordering_then (nat_cmp x.0 y.0) (nat_cmp x.1 y.1)) exact_unsigned
    (exact_pairs nat_cmp nat_cmp exact_unsigned exact_unsigned)) (parts a) (parts b) h)

is_equal : (o : Ordering) → is_eq o ≡ true → o ≡ Equal
is_equal Less e = absurd cc
is_equal Equal e = refl
is_equal Greater e = absurd cc

pub same_is : (a b : FragKey) → same_key a b ≡ true → a ≡ b
same_is a b e = key_exact a b (is_equal (key_cmp a b) e)

pub get-live_at : (t : ℤ) (slots : Slots) (k : FragKey) →
    map.get (live_at t slots).held k ≡ (if not (has_ended t (map.get slots.held k)) then map.get slots.held k else None)
get-live_at t slots k =
    get-retain_keys slots.held (λ x. not (has_ended t (map.get slots.held x))) k (λ x e. ap (λ y. not (has_ended t (map.get slots.held y))) (sym (key_exact k x e)))
