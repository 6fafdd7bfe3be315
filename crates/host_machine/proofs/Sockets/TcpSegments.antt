-- Whether octets are a segment of TCP can be told.
use Rattle.std.proofs.Common.{◌≡◌, ◌≢◌, ℕ, ◌<◌, ◌≤◌, ◌+◌, ◌^◌, Bool, true, false, List, length, inl, inr, refl, arith}
use Rattle.std.specs.Prelude.{nat_lt, ◌⊎◌, IsTrue, slice_index, ◌++◌}
use Rattle.std.proofs.lemmas.Bool.{cases_eq, cases_lt}
use Rattle.ip_address.specs.declared.ip.IpAddress.{IpAddress}
use Rattle.ip_wire.specs.Tcp.{IsTcp}
use Rattle.ip_wire.specs.Tcp as wire
use Rattle.ip_wire.specs.Octets.{u16_at}
use Rattle.ip_wire.specs.Checksum.{folded_sum, word_sum}
use Rattle.ip_wire.specs.Pseudo.{pseudo}

abbrev pub Tellable : Type 0 → Type 0
Tellable P = P ⊎ (P → ⊥)

pub both : {P Q : Type 0} → Tellable P → Tellable Q → Tellable (P × Q)
both (inl p) (inl q) = inl (p, q)
both (inl p) (inr never_so) = inr (λ x. never_so x.1)
both (inr never_so) q = inr (λ x. never_so x.0)

pub means : {P Q : Type 0} → (P → Q) → (Q → P) → Tellable P → Tellable Q
means f g (inl p) = inl (f p)
means f g (inr never_so) = inr (λ q. never_so (g q))

pub at_most : (a b : ℕ) → Tellable (a ≤ b)
at_most a b = by (cases_lt b a) where
  by : (b < a) ⊎ (a ≤ b) → Tellable (a ≤ b)
  by (inl lt) = inr (λ le. omega (arith, lt, le))
  by (inr le) = inl le

pub less : (a b : ℕ) → Tellable (a < b)
less a b = by (cases_lt a b) where
  by : (a < b) ⊎ (b ≤ a) → Tellable (a < b)
  by (inl lt) = inl lt
  by (inr le) = inr (λ lt. omega (arith, lt, le))

pub other : (a b : ℕ) → Tellable (a ≢ b)
other a b = by (cases_eq a b) where
  by : (a ≡ b) ⊎ (a ≡ b → ⊥) → Tellable (a ≢ b)
  by (inl e) = inr (λ ne. ne e)
  by (inr never_so) = inl never_so

pub is_set : (b : Bool) → Tellable (b ≡ true)
is_set true = inl refl
is_set false = inr (λ e. absurd cc)

pub if_set : (b : Bool) (n m : ℕ) → Tellable (IsTrue b → n ≡ m)
if_set true n m = means (λ e _. e) (λ f. f refl) (cases_eq n m)
if_set false n m = inl (λ (e : false ≡ true). absurd cc)

pub is_tcp : (checked : Bool) (src dst : IpAddress) (octets : List ℕ) → Tellable (IsTcp checked src dst octets)
is_tcp checked src dst octets =
    means (λ x. record {
      whole = x.0;
      header = x.1.0;
      header_fits = x.1.1.0;
      source = x.1.1.1.0;
      destination = x.1.1.1.1.0;
      flags = x.1.1.1.1.1.0;
      sum = x.1.1.1.1.1.1;
    }) (λ i. (i.whole, (i.header, (i.header_fits, (i.source, (i.destination, (i.flags, i.sum)))))))
    (both (at_most 20 (length octets)) (both (at_most 20 (wire.header_len octets)) (both (at_most (wire.header_len octets) (length octets))
    (both (other (u16_at octets 0) 0) (both (other (u16_at octets 2) 0)
    (both (at_most (wire.fin (slice_index octets 13) + wire.syn (slice_index octets 13) + wire.rst (slice_index octets 13)) 1)
    (if_set checked (folded_sum (word_sum (pseudo src dst 6 (length octets) ++ octets))) 65535)))))))
