-- Waits for one destination.
use Rattle.std.proofs.Common.{◌≡◌, ℕ, Bool, true, false, Some, None, refl, sym, ap, arith}
use Rattle.std.specs.Prelude.{ℤ, ◌&&◌, if◌then◌else◌}
use Rattle.std.proofs.lemmas.Bool.Decides.{nat_tests}
use Rattle.std.specs.Ordering.{int_cmp, is_ge, is_lt}
use Rattle.std.specs.declared.cmp.Ordering.{Ordering}
use Rattle.std.specs.declared.cmp.Ordering.TheVariants.{Less, Equal, Greater}
use Rattle.ip_address.specs.declared.ip.IpAddress.{IpAddress}
use Rattle.ip_address.specs.declared.ip.IpAddress.TheVariants.{Ipv4, Ipv6}
use Rattle.socket_set.specs.Details.Alike.{alike_until, is_same}
use Rattle.socket_set.specs.SocketMeta.{Wait, is_permitted}

-- addresses that are the same
same_is : (a b : IpAddress) → is_same a b ≡ true → a ≡ b
same_is (Ipv4 a) (Ipv4 b) is =
    let bits : a.bits ≡ b.bits = grind (arith, nat_tests, is) in
    ap (λ (n : ℕ). Ipv4 (record { bits = n })) bits
same_is (Ipv4 a) (Ipv6 b) is = absurd cc
same_is (Ipv6 a) (Ipv4 b) is = absurd cc
same_is (Ipv6 a) (Ipv6 b) is =
    let bits : a.bits ≡ b.bits = grind (arith, nat_tests, is) in
    ap (λ (n : ℕ). Ipv6 (record { bits = n })) bits

-- an end that hasn't come
not_come : (o : Ordering) → is_lt o ≡ true → is_ge o ≡ false
not_come Less is = refl
not_come Equal is = absurd cc
not_come Greater is = absurd cc

-- a wait and another one, for one destination, of which the first isn't over
pub record IsAlike (wait other : Wait) (t until : ℤ) : Type 0 where
  pub neighbor : IpAddress
  pub end : ℤ
  pub waits : wait ≡ Some (neighbor, until)
  pub waits_too : other ≡ Some (neighbor, end)
  pub forbids : is_permitted (Some (neighbor, until)) false t ≡ false

pub alike : (wait other : Wait) (t until : ℤ) → alike_until wait other t ≡ Some until → IsAlike wait other t until
alike None other t until is = absurd cc
alike (Some (a, m)) None t until is = absurd cc
alike (Some (a, m)) (Some (b, n)) t until is = by (is_lt (int_cmp t m)) (is_same a b) refl refl is where
  by : (lasts same : Bool) → is_lt (int_cmp t m) ≡ lasts → is_same a b ≡ same →
      (if lasts && same then Some m else None) ≡ Some until → IsAlike (Some (a, m)) (Some (b, n)) t until
  by true true lasts same is =
      let end : m ≡ until = cc in
      let one : b ≡ a = sym (same_is a b same) in
      record {
        neighbor = a;
        end = n;
        waits = ap (λ (x : ℤ). Some (a, x)) end;
        waits_too = ap (λ (x : IpAddress). Some (x, n)) one;
        forbids = rw (← end) (not_come (int_cmp t m) lasts);
      }
  by true false lasts same is = absurd cc
  by false same lasts sames is = absurd cc
