-- A query is read as it was written: its name stands behind the header as it stands alone.
use Rattle.std.proofs.Common.{◌≡◌, ℕ, zero, suc, ◌+◌, ◌-◌, ◌*◌, ◌/◌, ◌%◌, ◌<◌, ◌≤◌, ◌^◌, Bool, true, false, not, ◌&&◌, List, [], ◌∷◌, ◌++◌}
use Rattle.std.proofs.Common.{Option, Some, None, length, take, drop, get_or, refl, sym, ap, ◌∙◌, length-append, arith}
use Rattle.std.specs.Prelude.{◌==◌, nat_le, nat_lt, slice_index, slice_range}
use Rattle.std.proofs.lemmas.Bool.Decides.{nat_tests}
use Rattle.std.proofs.lemmas.Bool.{and_parts, and_from, eqb-true, eq-eqb, le-leb}
use Rattle.std.proofs.lemmas.List.{take-append-le, drop-append-le, drop-drop, length-drop, get_or-drop, get_or-append-add}
use Rattle.std.proofs.lemmas.List.Prefix.{at_reads}
use Rattle.ip_wire.specs.Octets.{u16_at}
use Rattle.dns_client.specs.declared.message.DnsType.{DnsType}
use Rattle.dns_client.specs.declared.message.DnsHeader.{DnsHeader}
use Rattle.dns_client.specs.declared.message.DnsQuestion.{DnsQuestion}
use Rattle.dns_client.specs.Names.{is_end, is_label, label, is_pointer, target, with_first, labels_from, is_some, is_name, end_from, end_of}
use Rattle.dns_client.specs.Names.{lower, is_same_label, are_same_labels, is_same}
use Rattle.dns_client.specs.Message.{number_of, header_in, header_text, query_text, ReadAgain}
use Rattle.dns_client.proofs.Reading.{by_end, by_label, by_none, no_steps, label_no_end, some_first}

not_below : (a : Bool) (n : ℕ) → (a && nat_lt n 0) ≡ false
not_below true n = grind (arith, nat_tests)
not_below false n = refl

-- no pointer stands in a name alone: it would go to before its first octet
no_pointer : (name : List ℕ) (at : ℕ) → is_pointer name 0 at ≡ false
no_pointer name at = not_below (nat_lt (at + 1) (length name) && nat_le 192 (slice_index name at)) (target name at)

module _ (m name rest : List ℕ) (behind : drop 12 m ≡ name ++ rest) (len : length name + 12 ≤ length m) where
  reads : (at : ℕ) → at < length name → get_or m (12 + at) 0 ≡ get_or name at 0
  reads at h = at_reads 0 m name 12 rest behind at h

  end_too : (at : ℕ) → is_end name at ≡ true → is_end m (12 + at) ≡ true
  end_too at h =
      let within : at < length name = grind (arith, nat_tests, h) in
      let read = reads at within in
      let zero_there : get_or name at 0 ≡ 0 = grind (arith, nat_tests, h) in
      let there : nat_lt (12 + at) (length m) ≡ true = grind (arith, nat_tests, within, len) in
      and_from _ _ there (eq-eqb _ _ (read ∙ zero_there))

  within_label : (at room : ℕ) → is_label room name at ≡ true → at + 1 + get_or name at 0 ≤ length name
  within_label at room h = grind (arith, nat_tests, h)

  label_too : (at room : ℕ) → is_label room name at ≡ true → is_label room m (12 + at) ≡ true
  label_too at room h =
      let within = within_label at room h in
      let some : not (get_or name at 0 == 0) ≡ true = (and_parts _ _ (and_parts _ _ (and_parts _ _ h).0).0).0 in
      let short : nat_lt (get_or name at 0) 64 ≡ true = (and_parts _ _ (and_parts _ _ (and_parts _ _ h).0).0).1 in
      let fits : nat_lt (get_or name at 0 + 1) room ≡ true = (and_parts _ _ h).1 in
      let whole : nat_lt (12 + at + get_or name at 0) (length m) ≡ true = grind (arith, nat_tests, within, len) in
      let all : (not (get_or name at 0 == 0) && nat_lt (get_or name at 0) 64 && nat_lt (12 + at + get_or name at 0) (length m)
      && nat_lt (get_or name at 0 + 1) room) ≡ true = and_from _ _ (and_from _ _ (and_from _ _ some short) whole) fits in
      let within_first : at < length name = omega (arith, within) in
      rw (reads at within_first) all

  octets_too : (at n : ℕ) → at + n ≤ length name → take n (drop (12 + at) m) ≡ take n (drop at name)
  octets_too at n h =
      let few : at ≤ length name = omega (arith, h) in
      let left : n ≤ length (drop at name) = omega (arith, h, length-drop at name) in
      ap (take n) (sym (drop-drop at 12 m) ∙ ap (drop at) behind ∙ drop-append-le at name rest few) ∙ take-append-le n (drop at name) rest left

  label_is : (at n : ℕ) → at + 1 + n ≤ length name → slice_range m (12 + at + 1) (12 + at + 1 + n) ≡ slice_range name (at + 1) (at + 1 + n)
  label_is at n h =
      let e1 : 12 + at + 1 + n - (12 + at + 1) ≡ n = omega arith in
      let e2 : at + 1 + n - (at + 1) ≡ n = omega arith in
      let e3 : 12 + at + 1 ≡ 12 + (at + 1) = omega arith in
      rw (e1, e2, e3) (octets_too (at + 1) n h)

  -- the labels there are those of the name alone
  by_kind : (e l : Bool) (steps s at room : ℕ) → is_end name at ≡ e → is_label room name at ≡ l →
      is_some (labels_from (suc steps) name 0 at room) ≡ true →
      (is_some (labels_from steps name 0 (at + 1 + get_or name at 0) (room - (get_or name at 0 + 1))) ≡ true →
      labels_from steps m s (12 + (at + 1 + get_or name at 0)) (room - (get_or name at 0 + 1))
      ≡ labels_from steps name 0 (at + 1 + get_or name at 0) (room - (get_or name at 0 + 1))) →
      labels_from (suc steps) m s (12 + at) room ≡ labels_from (suc steps) name 0 at room
  by_kind true l steps s at room e il h next = by_end steps m s (12 + at) room (end_too at e) ∙ sym (by_end steps name 0 at room e)
  by_kind false true steps s at room e il h next =
      let n = get_or name at 0 in
      let within = within_label at room il in
      let first : at < length name = omega (arith, within) in
      let read = reads at first in
      let there = by_label steps m s (12 + at) room (label_too at room il) in
      let alone = by_label steps name 0 at room il in
      let some : is_some (labels_from steps name 0 (at + 1 + n) (room - (n + 1))) ≡ true =
      sym (some_first (label name at) (labels_from steps name 0 (at + 1 + n) (room - (n + 1)))) ∙ ap is_some (sym alone) ∙ h in
      let place : 12 + at + 1 + n ≡ 12 + (at + 1 + n) = omega arith in
      let at_read : with_first (slice_range m (12 + at + 1) (12 + at + 1 + get_or m (12 + at) 0))
      (labels_from steps m s (12 + at + 1 + get_or m (12 + at) 0) (room - (get_or m (12 + at) 0 + 1)))
      ≡ with_first (slice_range m (12 + at + 1) (12 + at + 1 + n)) (labels_from steps m s (12 + at + 1 + n) (room - (n + 1))) =
      ap (λ (k : ℕ). with_first (slice_range m (12 + at + 1) (12 + at + 1 + k)) (labels_from steps m s (12 + at + 1 + k) (room - (k + 1)))) read in
      there ∙ at_read
      ∙ ap (λ (xs : List ℕ). with_first xs (labels_from steps m s (12 + at + 1 + n) (room - (n + 1)))) (label_is at n within)
      ∙ ap (λ (k : ℕ). with_first (label name at) (labels_from steps m s k (room - (n + 1)))) place
      ∙ ap (λ (ls : Option (List (List ℕ))). with_first (label name at) ls) (next some)
      ∙ sym alone
  by_kind false false steps s at room e il h next =
      let none = by_none steps name 0 at room e il (no_pointer name at) in
      let bad : false ≡ true = ap is_some (sym none) ∙ h in absurd (cc)

  same : (steps s at room : ℕ) → is_some (labels_from steps name 0 at room) ≡ true →
      labels_from steps m s (12 + at) room ≡ labels_from steps name 0 at room
  same zero s at room h = let bad : false ≡ true = ap is_some (sym (no_steps name 0 at room)) ∙ h in absurd (cc)
  same (suc steps) s at room h =
      by_kind (is_end name at) (is_label room name at) steps s at room refl refl h
      (λ h'. same steps s (at + 1 + get_or name at 0) (room - (get_or name at 0 + 1)) h')

  -- and they end where it ends
  end_by_kind : (e l : Bool) (steps at room : ℕ) → is_end name at ≡ e → is_label room name at ≡ l →
      is_some (labels_from (suc steps) name 0 at room) ≡ true →
      (is_some (labels_from steps name 0 (at + 1 + get_or name at 0) (room - (get_or name at 0 + 1))) ≡ true →
      end_from steps m (12 + (at + 1 + get_or name at 0)) (room - (get_or name at 0 + 1))
      ≡ 12 + end_from steps name (at + 1 + get_or name at 0) (room - (get_or name at 0 + 1))) →
      end_from (suc steps) m (12 + at) room ≡ 12 + end_from (suc steps) name at room
  unfolding end_from
  end_by_kind true l steps at room e il h next = rw (end_too at e, e) (omega arith)
  end_by_kind false true steps at room e il h next =
      let n = get_or name at 0 in
      let within = within_label at room il in
      let first : at < length name = omega (arith, within) in
      let some : is_some (labels_from steps name 0 (at + 1 + n) (room - (n + 1))) ≡ true =
      sym (some_first (label name at) (labels_from steps name 0 (at + 1 + n) (room - (n + 1)))) ∙ ap is_some (sym (by_label steps name 0 at room il)) ∙ h in
      let place : 12 + at + 1 + n ≡ 12 + (at + 1 + n) = omega arith in
      let there : is_label room m (12 + at) ≡ true = label_too at room il in
      let no_end : is_end m (12 + at) ≡ false = label_no_end m room (12 + at) there in
      rw (no_end, there, e, il)
      (ap (λ (k : ℕ). end_from steps m (12 + at + 1 + k) (room - (k + 1))) (reads at first)
      ∙ ap (λ (k : ℕ). end_from steps m k (room - (n + 1))) place ∙ next some)
  end_by_kind false false steps at room e il h next =
      let none = by_none steps name 0 at room e il (no_pointer name at) in
      let bad : false ≡ true = ap is_some (sym none) ∙ h in absurd (cc)

  same_end : (steps at room : ℕ) → is_some (labels_from steps name 0 at room) ≡ true → end_from steps m (12 + at) room ≡ 12 + end_from steps name at room
  same_end zero at room h = let bad : false ≡ true = ap is_some (sym (no_steps name 0 at room)) ∙ h in absurd (cc)
  same_end (suc steps) at room h =
      end_by_kind (is_end name at) (is_label room name at) steps at room refl refl h
      (λ h'. same_end steps (at + 1 + get_or name at 0) (room - (get_or name at 0 + 1)) h')

-- A name is the same as itself.

same_octet : (c : ℕ) → (lower c == lower c) ≡ true
same_octet c = eq-eqb (lower c) (lower c) refl

same_label : (xs : List ℕ) → is_same_label xs xs ≡ true
unfolding is_same_label
same_label [] = refl
same_label (x ∷ xs) = and_from _ _ (same_octet x) (same_label xs)

same_labels : (ls : List (List ℕ)) → are_same_labels ls ls ≡ true
unfolding are_same_labels
same_labels [] = refl
same_labels (l ∷ ls) = and_from _ _ (same_label l) (same_labels ls)

same_name : (a : Option (List (List ℕ))) → is_some a ≡ true → is_same a a ≡ true
unfolding is_same
same_name None h = absurd (cc)
same_name (Some ls) h = same_labels ls

-- What stands in the header, and behind the name.

number : (n : ℕ) → n < 2 ^ 16 → n / 256 % 256 * 256 + n % 256 ≡ n
number n lt = omega arith

made : (id n : ℕ) → n ≡ id → ◌≡◌ {A = DnsHeader} (record {
  transaction_id = n;
  is_response = false;
  opcode = 0;
  is_truncated = false;
  response_code = 0;
  question_count = 1;
  answer_count = 0;
}) (record {
  transaction_id = id;
  is_response = false;
  opcode = 0;
  is_truncated = false;
  response_code = 0;
  question_count = 1;
  answer_count = 0;
})
made id n e = rw e refl

asks : (t c e t' c' e' : ℕ) → t ≡ t' → c ≡ c' → e ≡ e' →
    ◌≡◌ {A = DnsQuestion} (record { question_type = t; class = c; end = e }) (record { question_type = t'; class = c'; end = e' })
asks t c e t' c' e' et ec ee = rw (et, ec, ee) refl

behind_is : (id : ℕ) (name : List ℕ) (type : DnsType) → drop 12 (query_text id name type) ≡ name ++ (0 ∷ number_of type ∷ 0 ∷ 1 ∷ [])
unfolding header_text
behind_is id name type = refl

len_is : (id : ℕ) (name : List ℕ) (type : DnsType) → length (query_text id name type) ≡ length name + 16
unfolding header_text
len_is id name type = omega (arith, length-append name (0 ∷ number_of type ∷ 0 ∷ 1 ∷ []))

header_is : (id : ℕ) (name : List ℕ) (type : DnsType) → id < 2 ^ 16 → header_in (query_text id name type) ≡ record {
  transaction_id = id;
  is_response = false;
  opcode = 0;
  is_truncated = false;
  response_code = 0;
  question_count = 1;
  answer_count = 0;
}
unfolding header_text
header_is id name type h = made id (id / 256 % 256 * 256 + id % 256) (number id h)

-- the four octets behind the name
after_name : (id : ℕ) (name : List ℕ) (type : DnsType) (i : ℕ) →
    get_or (query_text id name type) (12 + (length name + i)) 0 ≡ get_or (0 ∷ number_of type ∷ 0 ∷ 1 ∷ []) i 0
after_name id name type i =
    sym (get_or-drop 12 (query_text id name type) (length name + i) 0)
    ∙ ap (λ (xs : List ℕ). get_or xs (length name + i) 0) (behind_is id name type)
    ∙ get_or-append-add name (0 ∷ number_of type ∷ 0 ∷ 1 ∷ []) i 0

pub read_again : ReadAgain
read_again id name type small whole =
    let m = query_text id name type in
    let both = and_parts _ _ whole in
    let some : is_some (labels_from 255 name 0 0 255) ≡ true = both.0 in
    let name_ends : end_of name 0 ≡ length name = eqb-true _ _ both.1 in
    let behind = behind_is id name type in
    let l = len_is id name type in
    let long : length name + 12 ≤ length m = omega (arith, l) in
    let rest : List ℕ = 0 ∷ number_of type ∷ 0 ∷ 1 ∷ [] in
    let labels : labels_from 255 m 12 12 255 ≡ labels_from 255 name 0 0 255 = same m name rest behind long 255 12 0 255 some in
    let ends : end_of m 12 ≡ 12 + length name = same_end m name rest behind long 255 0 255 some ∙ ap (λ (k : ℕ). 12 + k) name_ends in
    let named : is_name m 12 ≡ true = ap is_some labels ∙ some in
    let fits : nat_le (end_of m 12 + 4) (length m) ≡ true = le-leb _ _ (rw (ends, l) (omega arith)) in
    let p0 : 12 + length name ≡ 12 + (length name + 0) = omega arith in
    let p1 : 12 + length name + 1 ≡ 12 + (length name + 1) = omega arith in
    let p2 : 12 + length name + 2 ≡ 12 + (length name + 2) = omega arith in
    let p3 : 12 + length name + 2 + 1 ≡ 12 + (length name + 3) = omega arith in
    let o0 = ap (λ (k : ℕ). get_or m k 0) p0 ∙ after_name id name type 0 in
    let o1 = ap (λ (k : ℕ). get_or m k 0) p1 ∙ after_name id name type 1 in
    let o2 = ap (λ (k : ℕ). get_or m k 0) p2 ∙ after_name id name type 2 in
    let o3 = ap (λ (k : ℕ). get_or m k 0) p3 ∙ after_name id name type 3 in
    let type_is : u16_at m (12 + length name) ≡ number_of type = rw (o0, o1) (omega arith) in
    let class_is : u16_at m (12 + length name + 2) ≡ 1 = rw (o2, o3) refl in
    let end_is : 12 + length name + 4 ≡ length m = omega (arith, l) in
    record {
      header = header_is id name type small;
      question = and_from _ _ named fits;
      asked = asks _ _ _ _ _ _ (ap (u16_at m) ends ∙ type_is) (ap (λ (k : ℕ). u16_at m (k + 2)) ends ∙ class_is)
          (ap (λ (k : ℕ). k + 4) ends ∙ end_is);
      same = ap (λ (a : Option (List (List ℕ))). is_same a (labels_from 255 name 0 0 255)) labels ∙ same_name (labels_from 255 name 0 0 255) some;
    }
