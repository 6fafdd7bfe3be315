-- Options are read as they were written.
use Rattle.std.proofs.Common.{◌≡◌, ℕ, suc, ◌+◌, ◌*◌, ◌/◌, ◌%◌, ◌<◌, ◌≤◌, ◌^◌, Bool, true, false, eqb, cond, List, [], ◌∷◌, ◌++◌}
use Rattle.std.proofs.Common.{Option, Some, None, length, take, drop, refl, ap, ◌∙◌, length-append, arith}
use Rattle.std.specs.Prelude.{IsTrue}
use Rattle.std.proofs.lemmas.Bool.{and_from, le-leb}
use Rattle.std.proofs.lemmas.List.{take_at, drop_at}
use Rattle.ip_address.proofs.SixOctets.{Six, six}
use Rattle.ip_address.specs.declared.ipv4.Ipv4Address.{Ipv4Address}
use Rattle.ip_address.specs.declared.ethernet_address.EthernetAddress.{EthernetAddress}
use Rattle.dhcp_client.specs.Options.{option_len, begins_option, options_after, are_whole, joined, in_room, option_text}
use Rattle.dhcp_client.specs.Options.{address_in, seconds_in, size_in, identifier_in, listed_at, list_in}
use Rattle.dhcp_client.specs.Options.{address_data, seconds_data, size_data, identifier_data, list_data}
use Rattle.dhcp_client.specs.Options.{IsAddress, IsBelow, IsIdentifier, IsList}
use Rattle.dhcp_client.proofs.Reading.{first_option, ended, whole_next}

-- an option that was written begins an option, and is all of it
begins : (code n : ℕ) (octets : List ℕ) → eqb code 0 ≡ false → eqb code 255 ≡ false → n ≤ length octets
    → IsTrue (begins_option (code ∷ n ∷ octets))
begins code n octets not_pad not_end h =
    rw (not_pad, not_end) (and_from _ _ refl (le-leb _ _ (omega (arith, h))))

len_of : (code n : ℕ) (octets : List ℕ) → eqb code 0 ≡ false → option_len (code ∷ n ∷ octets) ≡ 2 + n
len_of code n octets not_pad = rw not_pad refl

record Whole (code : ℕ) (d rest : List ℕ) : Type 0 where
  pub begins : IsTrue (begins_option (code ∷ length d ∷ (d ++ rest)))
  pub option : take (option_len (code ∷ length d ∷ (d ++ rest))) (code ∷ length d ∷ (d ++ rest)) ≡ code ∷ length d ∷ d
  pub after : drop (option_len (code ∷ length d ∷ (d ++ rest))) (code ∷ length d ∷ (d ++ rest)) ≡ rest

whole : (code : ℕ) (d rest : List ℕ) → eqb code 0 ≡ false → eqb code 255 ≡ false → Whole code d rest
whole code d rest not_pad not_end =
    let octets = code ∷ length d ∷ (d ++ rest) in
    let two : 2 + length d ≡ suc (suc (length d)) = omega arith in
    let len : option_len octets ≡ suc (suc (length d)) = len_of code (length d) (d ++ rest) not_pad ∙ two in
    record {
      begins = begins code (length d) (d ++ rest) not_pad not_end (omega (arith, length-append d rest));
      option = ap (λ (n : ℕ). take n octets) len ∙ ap (λ (xs : List ℕ). code ∷ length d ∷ xs) (take_at d rest (length d) refl);
      after = ap (λ (n : ℕ). drop n octets) len ∙ drop_at d rest (length d) refl;
    }

none : (b : Bool) (d : List ℕ) → d ≡ cond b [] [] ++ d
none true d = refl
none false d = refl

-- the first option's data are put before those of later ones
one : (k code : ℕ) (d rest : List ℕ) → eqb code 0 ≡ false → eqb code 255 ≡ false →
    joined k (options_after 0 (option_text code d ++ rest)) ≡ cond (eqb code k) d [] ++ joined k (options_after 0 rest)
unfolding option_text joined
one k code [] rest not_pad not_end = none (eqb code k) (joined k (options_after 0 rest))
one k code (x ∷ xs) rest not_pad not_end =
    let w = whole code (x ∷ xs) rest not_pad not_end in
    ap (joined k) (first_option (code ∷ length (x ∷ xs) ∷ (x ∷ xs ++ rest)) w.begins)
    ∙ ap (λ (o : List ℕ). joined k (o ∷ options_after 0 (drop (option_len (code ∷ length (x ∷ xs) ∷ (x ∷ xs ++ rest)))
    (code ∷ length (x ∷ xs) ∷ (x ∷ xs ++ rest))))) w.option
    ∙ ap (λ (r : List ℕ). cond (eqb code k) (x ∷ xs) [] ++ joined k (options_after 0 r)) w.after

one_whole : (code : ℕ) (d rest : List ℕ) → eqb code 0 ≡ false → eqb code 255 ≡ false →
    are_whole 0 (option_text code d ++ rest) ≡ are_whole 0 rest
unfolding option_text
one_whole code [] rest not_pad not_end = refl
one_whole code (x ∷ xs) rest not_pad not_end =
    let w = whole code (x ∷ xs) rest not_pad not_end in
    whole_next (code ∷ length (x ∷ xs) ∷ (x ∷ xs ++ rest)) w.begins ∙ ap (are_whole 0) w.after

-- options by their codes and data, one after another, up to the one that ends them
abbrev pub texts : List (ℕ × List ℕ) → List ℕ
texts [] = 255 ∷ []
texts (p ∷ ps) = option_text p.0 p.1 ++ texts ps

abbrev pub IsCode : ℕ × List ℕ → Type 0
IsCode p = (eqb p.0 0 ≡ false) × (eqb p.0 255 ≡ false)

-- the data of those with a code
abbrev pub lookup : ℕ → List (ℕ × List ℕ) → List ℕ
lookup k [] = []
lookup k (p ∷ ps) = cond (eqb p.0 k) p.1 [] ++ lookup k ps

abbrev pub AreCodes : List (ℕ × List ℕ) → Type 0
AreCodes [] = Unit
AreCodes (p ∷ ps) = IsCode p × AreCodes ps

pub found : (k : ℕ) (ps : List (ℕ × List ℕ)) → AreCodes ps → joined k (options_after 0 (texts ps)) ≡ lookup k ps
unfolding joined
found k [] h = ap (joined k) (ended (255 ∷ []) refl)
found k (p ∷ ps) h =
    one k p.0 p.1 (texts ps) h.0.0 h.0.1 ∙ ap (λ (d : List ℕ). cond (eqb p.0 k) p.1 [] ++ d) (found k ps h.1)

pub all_whole : (ps : List (ℕ × List ℕ)) → AreCodes ps → are_whole 0 (texts ps) ≡ true
unfolding are_whole
all_whole [] h = refl
all_whole (p ∷ ps) h = one_whole p.0 p.1 (texts ps) h.0.0 h.0.1 ∙ all_whole ps h.1

-- values are read of their data
number : (n : ℕ) → n < 2 ^ 32 → n / 16777216 % 256 * 16777216 + n / 65536 % 256 * 65536 + n / 256 % 256 * 256 + n % 256 ≡ n
number n lt = omega arith

short : (n : ℕ) → n < 2 ^ 16 → n / 256 % 256 * 256 + n % 256 ≡ n
short n lt = omega arith

address : (m n : ℕ) → m ≡ n → ◌≡◌ {A = Option Ipv4Address} (Some (record { bits = m })) (Some (record { bits = n }))
address m n e = rw e refl

pub address_again : (a : Option Ipv4Address) → IsAddress a → address_in (in_room (address_data a)) ≡ a
unfolding address_data
address_again None h = refl
address_again (Some a) h = address _ a.bits (number a.bits h)

pub router_again : (a : Option Ipv4Address) → IsAddress a → listed_at (in_room (address_data a)) 0 ≡ a
unfolding address_data
router_again None h = refl
router_again (Some a) h = address _ a.bits (number a.bits h)

pub seconds_again : (n : Option ℕ) → IsBelow (2 ^ 32) n → seconds_in (in_room (seconds_data n)) ≡ n
unfolding seconds_data
seconds_again None h = refl
seconds_again (Some n) h = ap (λ (k : ℕ). Some k) (number n h)

pub size_again : (n : Option ℕ) → IsBelow (2 ^ 16) n → size_in (in_room (size_data n)) ≡ n
unfolding size_data
size_again None h = refl
size_again (Some n) h = ap (λ (k : ℕ). Some k) (short n h)

hardware : (a : EthernetAddress) (xs : List ℕ) → a.0 ≡ xs → ◌≡◌ {A = Option EthernetAddress} (Some (record { 0 = xs })) (Some a)
hardware a xs e = rw (← e) refl

identified : (a : EthernetAddress) (x : Six a.0) → identifier_in (in_room (1 ∷ a.0)) ≡ Some a
identified a x =
    ap (λ (xs : List ℕ). identifier_in (in_room (1 ∷ xs))) x.is ∙ hardware a (x.a ∷ x.b ∷ x.c ∷ x.d ∷ x.e ∷ x.f ∷ []) x.is

pub identifier_again : (a : Option EthernetAddress) → IsIdentifier a → identifier_in (in_room (identifier_data a)) ≡ a
unfolding identifier_data
identifier_again None h = refl
identifier_again (Some a) h = identified a (six a.0 h)

three : (a b c p q r : Option Ipv4Address) → p ≡ a → q ≡ b → r ≡ c →
    ◌≡◌ {A = List (Option Ipv4Address)} (p ∷ q ∷ r ∷ []) (a ∷ b ∷ c ∷ [])
three a b c p q r ea eb ec = rw (ea, eb, ec) refl

none_of_one : (a : Option Ipv4Address) → IsList (a ∷ []) → ⊥
unfolding IsList
none_of_one None h = h
none_of_one (Some a) h = h

none_of_two : (a b : Option Ipv4Address) → IsList (a ∷ b ∷ []) → ⊥
unfolding IsList
none_of_two None None h = h
none_of_two None (Some b) h = h
none_of_two (Some a) None h = h
none_of_two (Some a) (Some b) h = h

none_of_four : (a b c d : Option Ipv4Address) (more : List (Option Ipv4Address)) → IsList (a ∷ b ∷ c ∷ d ∷ more) → ⊥
unfolding IsList
none_of_four None None None d more h = h
none_of_four None None (Some c) d more h = h
none_of_four None (Some b) None d more h = h
none_of_four None (Some b) (Some c) d more h = h
none_of_four (Some a) None None d more h = h
none_of_four (Some a) None (Some c) d more h = h
none_of_four (Some a) (Some b) None d more h = h
none_of_four (Some a) (Some b) (Some c) d more h = h

pub list_again : (places : List (Option Ipv4Address)) → IsList places → list_in (in_room (list_data places)) ≡ places
unfolding IsList address_data
list_again [] h = absurd h
list_again (a ∷ []) h = absurd (none_of_one a h)
list_again (a ∷ b ∷ []) h = absurd (none_of_two a b h)
list_again (None ∷ None ∷ None ∷ []) h = refl
list_again (None ∷ None ∷ Some c ∷ []) h = absurd h
list_again (None ∷ Some b ∷ None ∷ []) h = absurd h
list_again (None ∷ Some b ∷ Some c ∷ []) h = absurd h
list_again (Some a ∷ None ∷ Some c ∷ []) h = absurd h
list_again (Some a ∷ None ∷ None ∷ []) h = three _ _ _ _ _ _ (address _ a.bits (number a.bits h)) refl refl
list_again (Some a ∷ Some b ∷ None ∷ []) h =
    three _ _ _ _ _ _ (address _ a.bits (number a.bits h.0)) (address _ b.bits (number b.bits h.1)) refl
list_again (Some a ∷ Some b ∷ Some c ∷ []) h =
    three _ _ _ _ _ _ (address _ a.bits (number a.bits h.0)) (address _ b.bits (number b.bits h.1)) (address _ c.bits (number c.bits h.2))
list_again (a ∷ b ∷ c ∷ d ∷ more) h = absurd (none_of_four a b c d more h)
