-- The sooner of instants, and networks.
use Rattle.std.proofs.Common.{◌≡◌, ℕ, Bool, true, false, Some, None, Option, refl, sym, ap, arith}
use Rattle.std.specs.Prelude.{ℤ, ◌<ℤ◌, ◌≤ℤ◌}
use Rattle.std.specs.Ordering.{int_cmp, is_lt, MatchOrdering}
use Rattle.std.specs.Cmp.{int_ranks}
use Rattle.std.specs.declared.cmp.Ordering.{Ordering}
use Rattle.std.specs.declared.cmp.Ordering.TheVariants.{Less, Equal, Greater}
use Rattle.std.proofs.lemmas.Int.{ints}
use Rattle.std.proofs.Common.{◌≤◌, lit≤}
use Rattle.std.specs.Prelude.{T, nat_le}
use Rattle.std.proofs.Math.Bridge.{le_prop}
use Rattle.std.proofs.lemmas.Bool.{le-leb}
use Rattle.ip_address.specs.declared.ipv6.Ipv6Address.{Ipv6Address}
use Rattle.ip_address.specs.declared.cidr.Ipv6Cidr.{Ipv6Cidr}
use Rattle.net_base.specs.Instants.{earlier_of}
use Rattle.iface_tables.specs.Slaac.{cidr_by, cidr_from}

-- a test that came out so, and what it says
before_by : (x y : ℤ) → is_lt (int_cmp x y) ≡ true → x <ℤ y
before_by x y e = by (int_cmp x y) (int_ranks x y) e where
  by : (o : Ordering) → MatchOrdering o (x <ℤ y) (x ≡ y) (y <ℤ x) → is_lt o ≡ true → x <ℤ y
  by Less m e = m
  by Equal m e = absurd cc
  by Greater m e = absurd cc

not_before : (x y : ℤ) → is_lt (int_cmp x y) ≡ false → y ≤ℤ x
not_before x y e = by (int_cmp x y) (int_ranks x y) e where
  by : (o : Ordering) → MatchOrdering o (x <ℤ y) (x ≡ y) (y <ℤ x) → is_lt o ≡ false → y ≤ℤ x
  by Less m e = absurd cc
  by Equal m e = rw m (omega (arith, ints))
  by Greater m e = omega (arith, ints)

is_before_of : (x y : ℤ) → x <ℤ y → is_lt (int_cmp x y) ≡ true
is_before_of x y l = by (is_lt (int_cmp x y)) refl where
  by : (b : Bool) → is_lt (int_cmp x y) ≡ b → is_lt (int_cmp x y) ≡ true
  by true e = e
  by false e = absurd (let m = not_before x y e in omega (arith, ints))

isn_t_before_of : (x y : ℤ) → y ≤ℤ x → is_lt (int_cmp x y) ≡ false
isn_t_before_of x y l = by (is_lt (int_cmp x y)) refl where
  by : (b : Bool) → is_lt (int_cmp x y) ≡ b → is_lt (int_cmp x y) ≡ false
  by true e = absurd (let m = before_by x y e in omega (arith, ints))
  by false e = e

sooner_none : (a : Option ℤ) → earlier_of a None ≡ a
sooner_none None = refl
sooner_none (Some a) = refl

of_three : (a b c : ℤ) (p q : Bool) → is_lt (int_cmp b a) ≡ p → is_lt (int_cmp c b) ≡ q →
    earlier_of (Some a) (earlier_of (Some b) (Some c)) ≡ earlier_of (earlier_of (Some a) (Some b)) (Some c)
of_three a b c true true p q =
    let r : is_lt (int_cmp c a) ≡ true = is_before_of c a (let m = before_by b a p in let n = before_by c b q in omega (arith, ints)) in
    rw (p, q, r) refl
of_three a b c true false p q = rw (p, q, p) refl
of_three a b c false true p q = rw (p, q) refl
of_three a b c false false p q =
    let r : is_lt (int_cmp c a) ≡ false = isn_t_before_of c a (let m = not_before b a p in let n = not_before c b q in omega (arith, ints)) in
    rw (p, q, p, r) refl

pub sooner_assoc : (a b c : Option ℤ) → earlier_of a (earlier_of b c) ≡ earlier_of (earlier_of a b) c
sooner_assoc None b c = refl
sooner_assoc (Some a) None c = refl
sooner_assoc (Some a) (Some b) None = sym (sooner_none (earlier_of (Some a) (Some b)))
sooner_assoc (Some a) (Some b) (Some c) = of_three a b c (is_lt (int_cmp b a)) (is_lt (int_cmp c b)) refl refl

-- a network whose length is in range, whatever shows that
pub in_range_by : (a : Ipv6Address) (n : ℕ) (p : n ≤ 128) → Some (record { address = a; prefix_len = n; in_range = p }) ≡ cidr_from a n
in_range_by a n p = by (nat_le n 128) lit≤ (le-leb n 128 p) where
  of : n ≤ 128 → Option Ipv6Cidr
  of q = Some (record { address = a; prefix_len = n; in_range = q })

  by : (b : Bool) (h : T b → n ≤ 128) → b ≡ true → of p ≡ cidr_by a n b h
  by true h e = ap of (le_prop p (h tt))
  by false h e = absurd cc
