-- A header of options is read as it was written.
use Rattle.std.proofs.Common.{◌≡◌, ℕ, zero, suc, ◌+◌, ◌-◌, ◌<◌, ◌≤◌, Bool, true, false, cond, eqb}
use Rattle.std.proofs.Common.{List, [], ◌∷◌, ◌++◌, length, drop, refl, sym, ap, ◌∙◌, length-append, arith}
use Rattle.std.specs.List.{flat_map, All}
use Rattle.std.proofs.lemmas.List.{drop_at, take_at, length-replicate}
use Rattle.ip_address.specs.declared.protocol.IpProtocol.{IpProtocol}
use Rattle.ip_wire.specs.declared.hop_by_hop.Ipv6OptionRepr.{Ipv6OptionRepr}
use Rattle.ip_wire.specs.declared.hop_by_hop.Ipv6OptionRepr.TheVariants.{Pad1, PadN, RouterAlert, Unknown}
use Rattle.ip_wire.specs.declared.hop_by_hop.Ipv6HopByHopRepr.{Ipv6HopByHopRepr}
use Rattle.ip_wire.specs.HopByHop.{option_len, IsOption, option_in, options_in, AreOptions, header_len}
use Rattle.ip_wire.specs.HopByHop.{options_part, option_text, option_texts, text, IsSomeOption, ReadAgain}
use Rattle.ip_wire.proofs.Ipv6Again.{total}
use Rattle.ip_wire.proofs.Options.{none_left, one_before, one_more}

-- Pad1 is no unknown option
is_unknown : Ipv6OptionRepr → Bool
is_unknown Pad1 = false
is_unknown (PadN len) = false
is_unknown (RouterAlert value) = false
is_unknown (Unknown type len) = true

not_pad1 : (t : Bool) (n : ℕ) (o : Ipv6OptionRepr) (type len : ℕ) → cond t Pad1 o ≡ Unknown type len → cond t 1 n ≡ n
unfolding is_unknown
not_pad1 true n o type len is = let bad : false ≡ true = ap is_unknown is in absurd (cc)
not_pad1 false n o type len is = refl

len_again : (o : Ipv6OptionRepr) (rest : List ℕ) → IsSomeOption o → option_len (option_text o ++ rest) ≡ length (option_text o)
unfolding option_text
len_again Pad1 rest h = refl
len_again (PadN len) rest h = omega (arith, length-replicate {A = ℕ} len 0)
len_again (RouterAlert value) rest h = refl
len_again (Unknown type len) rest h = not_pad1 (eqb type 0) (2 + len) _ type len (h 0) ∙ omega (arith, length-replicate {A = ℕ} len 0)

option_again : (o : Ipv6OptionRepr) (rest : List ℕ) → IsSomeOption o → option_in (option_text o ++ rest) ≡ o
unfolding option_text
option_again Pad1 rest h = refl
option_again (PadN len) rest h = refl
option_again (RouterAlert value) rest h = ap RouterAlert (total value h)
option_again (Unknown type len) rest h = h _

some_octets : (o : Ipv6OptionRepr) (rest : List ℕ) → 0 < length (option_text o ++ rest)
unfolding option_text
some_octets Pad1 rest = omega arith
some_octets (PadN len) rest = omega arith
some_octets (RouterAlert value) rest = omega arith
some_octets (Unknown type len) rest = omega arith

-- one option, and those behind it
one_again : (n : ℕ) (o : Ipv6OptionRepr) (options : List Ipv6OptionRepr) (rest : List ℕ) →
    IsSomeOption o → AreOptions n rest × (options_in n rest ≡ options)
    → AreOptions (suc n) (option_text o ++ rest) × (options_in (suc n) (option_text o ++ rest) ≡ o ∷ options)
one_again n o options rest some after =
    let octets = option_text o ++ rest in
    let len = len_again o rest some in
    let past : drop (option_len octets) octets ≡ rest = drop_at (option_text o) rest (option_len octets) (sym len) in
    let is : IsOption octets = omega (arith, len, length-append (option_text o) rest) in
    let here = option_again o rest some in (
      one_before n octets is (rw past after.0),
      one_more n octets (some_octets o rest) ∙ rw (here, past, after.1) refl,
    )

all_again : (n : ℕ) (options : List Ipv6OptionRepr) → length options ≤ n → All IsSomeOption options
    → AreOptions n (flat_map option_text options) × (options_in n (flat_map option_text options) ≡ options)
all_again n [] few all = none_left n [] refl
all_again zero (o ∷ os) few all = absurd (omega (arith, few))
all_again (suc n) (o ∷ os) few all =
    one_again n o os (flat_map option_text os) (all 0 o (omega arith))
    (all_again n os (omega (arith, few)) (λ k d lt. all (suc k) d (omega (arith, lt))))

made : (r : Ipv6HopByHopRepr) (p : IpProtocol) (options : List Ipv6OptionRepr) (more rest : List ℕ) →
    p ≡ r.next_header → options ≡ r.options.items → rest ≡ more
    → ◌≡◌ {A = Ipv6HopByHopRepr × List ℕ} (record { next_header = p; options = record { items = options } }, rest) (r, more)
made r p options more rest ep eo e = rw (ep, eo, e) refl

pub read_again : ReadAgain
read_again r more h =
    let octets = text r ++ more in
    let len : header_len octets ≡ 2 + length (option_texts r) = omega (arith, h.padded) in
    let whole : length octets ≡ 2 + length (option_texts r) + length more = omega (arith, length-append (option_texts r) more) in
    let n : length (option_texts r) ≡ header_len octets - 2 = omega (arith, len) in
    let part : options_part octets ≡ option_texts r = take_at (option_texts r) more (header_len octets - 2) n in
    let again = all_again 4 r.options.items h.few h.options in (
      record {
        whole = omega (arith, whole, len, h.padded);
        fits = omega (arith, whole, len);
        options = rw part again.0;
      },
      made r _ _ more _ h.protocol (ap (options_in 4) part ∙ again.1) (drop_at (text r) more (header_len octets) (omega (arith, len))),
    )
