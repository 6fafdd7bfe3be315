-- What cookies tell.
use Rattle.std.proofs.Common.{◌≡◌, ◌≤◌, ◌<◌, ◌∙◌, ℕ, ◌+◌, ◌-◌, ◌*◌, ◌/◌, ◌%◌, ◌^◌, zero, suc, Bool, true, false, Option, Some, None, inl, inr, refl, sym, ap, subst, arith}
use Rattle.std.specs.Prelude.{◌==◌, ◌||◌, ◌⊎◌, nat_lt, min, length, if◌then◌else◌}
use Rattle.std.proofs.lemmas.Bool.{cases_eq}
use Rattle.std.proofs.lemmas.Bool.Decides.{Decides-eqb}
use Rattle.std.proofs.lemmas.List.{length-replicate}
use Rattle.tcp_machine.specs.Positions.{number_at}
use Rattle.tcp_machine.specs.Receiving.{in_order, open_receiver}
use Rattle.tcp_connection.specs.declared.segment.Segment.{Segment}
use Rattle.tcp_host.specs.Arrivals.{cookie_for, told_mss, syn_ack}
use Rattle.tcp_host.specs.Host.{Host, link_mss}
use Rattle.tcp_host.specs.declared.iss.Endpoints.{Endpoints}
use Rattle.tcp_host.specs.declared.resets.SynAck.{SynAck}
use Rattle.tcp_host.specs.declared.sip_hash.SipKey.{SipKey}
use Rattle.tcp_host.specs.Cookies.{slot, index_of, size_of, hash, cookie_of, cookie, index_in, is_of, is_cookie, size_in, CookiesAreKnown, OldCookiesAreUnknown}

-- the index of a size is in its bits
index_back : (s i h : ℕ) → i < 8 → h < 2 ^ 24 → (s * 2 ^ 27 + i * 2 ^ 24 + h) / 2 ^ 24 % 8 ≡ i
index_back s i h i8 h24 = omega (arith, i8, h24)

few_by : (a b c d e f g : Bool) →
    (if a then 0 else if b then 1 else if c then 2 else if d then 3 else if e then 4 else if f then 5 else if g then 6 else 7) < 8
few_by true b c d e f g = omega arith
few_by false true c d e f g = omega arith
few_by false false true d e f g = omega arith
few_by false false false true e f g = omega arith
few_by false false false false true f g = omega arith
few_by false false false false false true g = omega arith
few_by false false false false false false true = omega arith
few_by false false false false false false false = omega arith

few_sizes : (mss : ℕ) → index_of mss < 8
few_sizes mss =
    few_by (nat_lt mss 536) (nat_lt mss 964) (nat_lt mss 1220) (nat_lt mss 1300) (nat_lt mss 1400) (nat_lt mss 1440) (nat_lt mss 1460)

first_of : (a b c : Bool) → a ≡ true → a || b || c ≡ true
first_of true b c e = refl
first_of false b c e = absurd cc

second_of : (a b c : Bool) → b ≡ true → a || b || c ≡ true
second_of true b c e = refl
second_of false true c e = refl
second_of false false c e = absurd cc

third_of : (a b c : Bool) → c ≡ true → a || b || c ≡ true
third_of true b c e = refl
third_of false true c e = refl
third_of false false true e = refl
third_of false false false e = absurd cc

two_before : (n m : ℕ) → m ≤ n → n ≤ m + 2 → (n ≡ m → ⊥) → (n - 1 ≡ m → ⊥) → n - 2 ≡ m
two_before n m a b c d = omega (arith, a, b, c, d)

module _ (key : SipKey) (e : Endpoints) (peers : ℕ) where
  hash_few : (s i : ℕ) → hash key e peers s i < 2 ^ 24
  unfolding hash
  hash_few s i = omega arith

  size_back : (s i : ℕ) → i < 8 → index_in (cookie_of key e peers s i) ≡ i
  size_back s i i8 = index_back (s % 32) i (hash key e peers s i) i8 (hash_few s i)

  is_own : (s i : ℕ) → i < 8 → is_of key e peers s (cookie_of key e peers s i) ≡ true
  is_own s i i8 =
      let n = cookie_of key e peers s i in
      subst (λ (j : ℕ). (n == cookie_of key e peers s j) ≡ true) (sym (size_back s i i8)) ((Decides-eqb n n).1 refl)

  module _ (made now i : ℕ) (i8 : i < 8) (since : slot made ≤ slot now) (few : slot now ≤ slot made + 2) where
    abbrev number : ℕ
    number = cookie_of key e peers (slot made) i

    of_slot : (s : ℕ) → s ≡ slot made → is_of key e peers s number ≡ true
    of_slot s same = subst (λ (t : ℕ). is_of key e peers t number ≡ true) (sym same) (is_own (slot made) i i8)

    abbrev in_slot : ℕ → Bool
    in_slot s = is_of key e peers s number

    known_by : (slot now ≡ slot made) ⊎ (slot now ≡ slot made → ⊥) → (slot now - 1 ≡ slot made) ⊎ (slot now - 1 ≡ slot made → ⊥) →
        is_cookie key e peers now number ≡ true
    known_by (inl same) o = first_of (in_slot (slot now)) (in_slot (slot now - 1)) (in_slot (slot now - 2)) (of_slot (slot now) same)
    known_by (inr ne) (inl same) =
        second_of (in_slot (slot now)) (in_slot (slot now - 1)) (in_slot (slot now - 2)) (of_slot (slot now - 1) same)
    known_by (inr ne) (inr not_one) =
        third_of (in_slot (slot now)) (in_slot (slot now - 1)) (in_slot (slot now - 2))
        (of_slot (slot now - 2) (two_before (slot now) (slot made) since few ne not_one))

    known : is_cookie key e peers now number ≡ true
    known = known_by (cases_eq (slot now) (slot made)) (cases_eq (slot now - 1) (slot made))

slots_go_on : (made now : ℕ) → made ≤ now → slot made ≤ slot now
slots_go_on made now le = omega (arith, le)

pub cookies_are_known : CookiesAreKnown
cookies_are_known key e peers made now mss le few =
    let i = index_of mss in
    let n = cookie key e peers made mss in
    ap (λ (b : Bool). if b then Some (size_of (index_in n)) else None)
    (known key e peers made now i (few_sizes mss) (slots_go_on made now le) few)
    ∙ ap (λ (j : ℕ). Some (size_of j)) (size_back key e peers (slot made) i (few_sizes mss))

-- a number has the slot in its highest bits
slot_back : (s i h : ℕ) → i < 8 → h < 2 ^ 24 → (s % 32 * 2 ^ 27 + i * 2 ^ 24 + h) / 2 ^ 27 ≡ s % 32
slot_back s i h i8 h24 = omega (arith, i8, h24)

few_indices : (n : ℕ) → index_in n < 8
few_indices n = omega arith

apart : (made later : ℕ) → made + 1 ≤ later → later ≤ made + 31 → made % 32 ≡ later % 32 → ⊥
apart made later a b same = omega (arith, a, b, same)

none_of : (a b c : Bool) → a ≡ false → b ≡ false → c ≡ false → a || b || c ≡ false
none_of false false false x y z = refl
none_of true b c x y z = absurd cc
none_of false true c x y z = absurd cc
none_of false false true x y z = absurd cc

module _ (key : SipKey) (e : Endpoints) (peers made i : ℕ) (i8 : i < 8) where
  unlike : (later : ℕ) → made + 1 ≤ later → later ≤ made + 31 → (b : Bool) → is_of key e peers later (cookie_of key e peers made i) ≡ b → b ≡ false
  unlike later a b false is = refl
  unlike later a b true is =
      let n = cookie_of key e peers made i in
      let j = index_in n in
      let same : n ≡ cookie_of key e peers later j = (Decides-eqb n (cookie_of key e peers later j)).0 is in
      absurd (apart made later a b
      (sym (slot_back made i (hash key e peers made i) i8 (hash_few key e peers made i))
      ∙ ap (λ (x : ℕ). x / 2 ^ 27) same ∙ slot_back later j (hash key e peers later j) (few_indices n) (hash_few key e peers later j)))

  not_of : (later : ℕ) → made + 1 ≤ later → later ≤ made + 31 → is_of key e peers later (cookie_of key e peers made i) ≡ false
  not_of later a b = unlike later a b (is_of key e peers later (cookie_of key e peers made i)) refl

pub old_cookies_are_unknown : OldCookiesAreUnknown
old_cookies_are_unknown key e peers made now mss old few =
    let i = index_of mss in
    let i8 = few_sizes mss in
    let n = cookie key e peers made mss in
    let s = slot made in
    let t = slot now in
    ap (λ (b : Bool). if b then Some (size_of (index_in n)) else None)
    (none_of (is_of key e peers t n) (is_of key e peers (t - 1) n) (is_of key e peers (t - 2) n)
    (not_of key e peers s i i8 t (omega (arith, old)) few)
    (not_of key e peers s i i8 (t - 1) (omega (arith, old)) (omega (arith, few)))
    (not_of key e peers s i i8 (t - 2) (omega (arith, old)) (omega (arith, few))))

-- the SYN-ACK of a connection of which nothing is kept
none_yet : (n : ℕ) → length (in_order (open_receiver n).cells) ≡ 0
none_yet zero = refl
none_yet (suc n) = refl

abbrev pub with_parts : Endpoints → Segment → (number had window : ℕ) → Host → SynAck
with_parts e s number had window h = record {
  header = record {
    number = number;
    ack = Some ((s.number + (1 + had + 0)) % 4294967296);
    window = window;
    syn = true;
    fin = false;
    rst = false;
  };
  mss = link_mss h.config e.remote_addr;
}

fits_by : (s i h : ℕ) → i < 8 → h < 2 ^ 24 → (s % 32 * 2 ^ 27 + i * 2 ^ 24 + h + 0) % 2 ^ 32 ≡ s % 32 * 2 ^ 27 + i * 2 ^ 24 + h
fits_by s i h i8 h24 = omega (arith, i8, h24)

fits_in_four : (s i h : ℕ) → i < 8 → h < 2 ^ 24 → s % 32 * 2 ^ 27 + i * 2 ^ 24 + h < 2 ^ 32
fits_in_four s i h i8 h24 = omega (arith, i8, h24)

pub fits : (now : ℕ) (e : Endpoints) (s : Segment) (h : Host) → cookie_for now e s h < 2 ^ 32
fits now e s h =
    let i = index_of (told_mss e s) in
    fits_in_four (slot now) i (hash h.config.table_key e s.number (slot now) i) (few_sizes (told_mss e s))
    (hash_few h.config.table_key e s.number (slot now) i)

pub cookie_fits : (now : ℕ) (e : Endpoints) (s : Segment) (h : Host) → cookie_for now e s h ≡ number_at (cookie_for now e s h) 0
cookie_fits now e s h =
    let i = index_of (told_mss e s) in
    sym (fits_by (slot now) i (hash h.config.table_key e s.number (slot now) i) (few_sizes (told_mss e s))
    (hash_few h.config.table_key e s.number (slot now) i))

pub syn_ack_is : (now : ℕ) (e : Endpoints) (s : Segment) (h : Host) →
    with_parts e s (cookie_for now e s h) 0 (min 65535 h.config.receive_room) h ≡ syn_ack now e s h
syn_ack_is now e s h =
    let number = cookie_for now e s h in
    let room = h.config.receive_room in
    ap (λ (n : ℕ). with_parts e s n 0 (min 65535 room) h) (cookie_fits now e s h)
    ∙ ap (λ (n : ℕ). with_parts e s (number_at number 0) 0 (min 65535 n) h) (sym (length-replicate {A = Option ℕ} room None))
    ∙ ap (λ (n : ℕ). with_parts e s (number_at number 0) n (min 65535 (length (open_receiver room).cells)) h) (sym (none_yet room))
