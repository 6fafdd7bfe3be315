-- Addresses of a result stand in the message.
use Rattle.std.proofs.Common.{◌≡◌, ℕ, zero, suc, ◌+◌, Bool, true, false, refl, sym, ap, subst, ◌∙◌, List, [], ◌∷◌, inl, inr, get_or, set, length}
use Rattle.std.specs.Prelude.{◌⊎◌, not, Option, Some, None, nat_le, nat_lt, ◌==◌, ◌&&◌, if◌then◌else◌}
use Rattle.ip_address.specs.declared.ip.IpAddress.{IpAddress}
use Rattle.ip_address.specs.declared.ip.IpAddress.TheVariants.{Ipv4, Ipv6}
use Rattle.dns_client.specs.declared.message.DnsType.{DnsType}
use Rattle.dns_client.specs.declared.record.DnsData.{DnsData}
use Rattle.dns_client.specs.declared.record.DnsData.TheVariants.{A, Aaaa, Cname, Other}
use Rattle.dns_client.specs.Names.{is_same_name}
use Rattle.dns_client.specs.Message.{header_in, question_in}
use Rattle.dns_client.specs.Record.{is_record, record_in}
use Rattle.dns_client.specs.declared.found.Found.{Found}
use Rattle.dns_client.specs.declared.query.DnsFailure.TheVariants.{NoSuchName, ServerFailure, Truncated, NoAddress, TooManyAliases}
use Rattle.dns_client.specs.declared.query.DnsQuery.{DnsQuery}
use Rattle.dns_client.specs.declared.query.DnsResult.{DnsResult}
use Rattle.dns_client.specs.declared.query.DnsResult.TheVariants.{Pending, Addresses, TruncatedAddresses, Failed}
use Rattle.dns_client.specs.Answers.{with_result, result_in, is_by_asked, is_answer, is_failure, is_refusal, truncated}
use Rattle.dns_client.specs.Found.{nothing_at, with_address, with_alias, is_for_v4, with_data, after_record, found_from, result_if, result_of}
use Rattle.dns_client.specs.Query.{after_refusal, is_pending, waits}
use Rattle.dns_client.specs.Laws.{Leads, Itself, ByAlias, IsOf, Stands, address_of, AddressesStand}

-- what is in a list after one place of it is set
set_place : (xs : List (Option IpAddress)) (n i : ℕ) (v : Option IpAddress) (a : IpAddress) → get_or (set xs n v) i None ≡ Some a →
    (v ≡ Some a) ⊎ (get_or xs i None ≡ Some a)
set_place [] n i v a h = inr h
set_place (x ∷ xs) zero zero v a h = inl h
set_place (x ∷ xs) zero (suc i) v a h = inr h
set_place (x ∷ xs) (suc n) zero v a h = inr h
set_place (x ∷ xs) (suc n) (suc i) v a h = set_place xs n i v a h

module _ (t : DnsType) (octets : List ℕ) where
  record Good (f : Found) : Type 0 where
    pub leads : Leads octets 12 f.name
    pub stand : (i : ℕ) (a : IpAddress) → get_or f.addresses i None ≡ Some a → Stands octets 12 a

  none : (i : ℕ) (a : IpAddress) → get_or (nothing_at 12).addresses i None ≡ Some a → Stands octets 12 a
  none zero a h = absurd (cc)
  none (suc zero) a h = absurd (cc)
  none (suc (suc zero)) a h = absurd (cc)
  none (suc (suc (suc zero))) a h = absurd (cc)
  none (suc (suc (suc (suc i)))) a h = absurd (cc)

  begun : Good (nothing_at 12)
  begun = record { leads = Itself; stand = none }

  -- a record of the name that is looked for
  module _ (at : ℕ) (f : Found) (whole : is_record octets at ≡ true) (named : is_same_name octets at octets f.name ≡ true) where
    abbrev Here : DnsData → Type 0
    Here d = (record_in octets at).«data» ≡ d

    if_set : (v a : IpAddress) (i : ℕ) → Good f → address_of (record_in octets at).«data» ≡ Some v →
        (Some v ≡ Some a) ⊎ (get_or f.addresses i None ≡ Some a) → Stands octets 12 a
    if_set v a i g e (inl is) =
        let leads = g.leads in
        record { at = at; under = f.name; whole = whole; leads = leads; named = named; is = e ∙ is }
    if_set v a i g e (inr h) = g.stand i a h

    by_room : (b : Bool) (v : IpAddress) → address_of (record_in octets at).«data» ≡ Some v → Good f →
        Good (if b then record f { count = f.count + 1; addresses = set f.addresses f.count (Some v) } else f)
    by_room true v e g =
        let leads = g.leads in
        record { leads = leads; stand = λ i a h. if_set v a i g e (set_place f.addresses f.count i (Some v) a h) }
    by_room false v e g = g

    by_alias : (name : ℕ) → Here (Cname name) → Good f → Good (with_alias name f)
    by_alias name e g = let stand = g.stand in record { leads = ByAlias at g.leads whole named e; stand = stand }

    by_v4 : (b : Bool) (v : IpAddress) → address_of (record_in octets at).«data» ≡ Some v → Good f → Good (if b then with_address v f else f)
    by_v4 true v e g = by_room (nat_lt f.count 4) v e g
    by_v4 false v e g = g

    by_v6 : (b : Bool) (v : IpAddress) → address_of (record_in octets at).«data» ≡ Some v → Good f → Good (if b then f else with_address v f)
    by_v6 true v e g = g
    by_v6 false v e g = by_room (nat_lt f.count 4) v e g

    by_data : (d : DnsData) → Here d → Good f → Good (with_data t d f)
    by_data (A a) e g = by_v4 (is_for_v4 t) (Ipv4 a) (ap address_of e) g
    by_data (Aaaa a) e g = by_v6 (is_for_v4 t) (Ipv6 a) (ap address_of e) g
    by_data (Cname name) e g = by_alias name e g
    by_data Other e g = g

  if_named : (b : Bool) (at : ℕ) (f : Found) → is_record octets at ≡ true → is_same_name octets at octets f.name ≡ b → Good f →
      Good (if b then with_data t (record_in octets at).«data» f else f)
  if_named true at f whole named g = by_data at f whole named (record_in octets at).«data» refl g
  if_named false at f whole named g = g

  by_record : (at : ℕ) (f : Found) → is_record octets at ≡ true → Good f → Good (after_record t octets at f)
  by_record at f whole g = if_named (is_same_name octets at octets f.name) at f whole refl g

  abbrev got : Option Found → Found → Found
  got None f = f
  got (Some g) f = g

  if_whole : (b : Bool) (rest : Option Found) (g : Found) → (b ≡ true → rest ≡ Some g → Good g) → (if b then rest else None) ≡ Some g → Good g
  if_whole true rest g next e = next refl e
  if_whole false rest g next e = absurd (cc)

  by_records : (count at : ℕ) (f g : Found) → Good f → found_from count t octets at f ≡ Some g → Good g
  unfolding found_from
  by_records zero at f g good e = subst Good (ap (λ (x : Option Found). got x f) e) good
  by_records (suc count) at f g good e =
      if_whole (is_record octets at) (found_from count t octets (record_in octets at).end (after_record t octets at f)) g
      (λ whole rest. by_records count (record_in octets at).end (after_record t octets at f) g (by_record at f whole good) rest) e

  -- what comes of all records
  abbrev list_of : DnsResult → List (Option IpAddress)
  list_of Pending = []
  list_of (Addresses list) = list
  list_of (TruncatedAddresses list) = list
  list_of (Failed reason) = []

  by_count : (many none : Bool) (g : Found) (list : List (Option IpAddress)) →
      (if many then Failed TooManyAliases else if none then Failed NoAddress else Addresses g.addresses) ≡ Addresses list → g.addresses ≡ list
  by_count true none g list e = absurd (cc)
  by_count false true g list e = absurd (cc)
  by_count false false g list e = ap list_of e

  by_found : (count at : ℕ) (g : Found) (list : List (Option IpAddress)) → found_from count t octets at (nothing_at 12) ≡ Some g →
      result_of g ≡ Addresses list → (i : ℕ) (a : IpAddress) → get_or list i None ≡ Some a → Stands octets 12 a
  by_found count at g list f e = λ i a h.
      let good = by_records count at (nothing_at 12) g begun f in
      let same = by_count (nat_lt 8 g.aliases) (g.count == 0) g list e in
      good.stand i a (ap (λ (l : List (Option IpAddress)). get_or l i None) same ∙ h)

-- where addresses are told, some were found
abbrev Found_as : List (Option IpAddress) → Option Found → Type 0
Found_as list None = ⊥
Found_as list (Some g) = result_of g ≡ Addresses list

never : (many none : Bool) (l list : List (Option IpAddress)) →
    (if many then Failed TooManyAliases else if none then Failed NoAddress else Addresses l) ≡ TruncatedAddresses list → ⊥
never true none l list e = absurd (cc)
never false true l list e = absurd (cc)
never false false l list e = absurd (cc)

-- of an answer that was cut
cut : (r : Option DnsResult) (list : List (Option IpAddress)) → IsOf list (truncated r) → r ≡ Some (Addresses list)
cut None list (inl e) = absurd (cc)
cut None list (inr e) = absurd (cc)
cut (Some Pending) list (inl e) = absurd (cc)
cut (Some Pending) list (inr e) = absurd (cc)
cut (Some (Addresses l)) list (inl e) = absurd (cc)
cut (Some (Addresses l)) list (inr e) = ap (λ (x : List (Option IpAddress)). Some (Addresses x)) (ap list_in e) where
  list_in : DnsResult → List (Option IpAddress)
  list_in Pending = []
  list_in (Addresses x) = x
  list_in (TruncatedAddresses x) = x
  list_in (Failed reason) = []
cut (Some (TruncatedAddresses l)) list (inl e) = absurd (cc)
cut (Some (TruncatedAddresses l)) list (inr e) = absurd (cc)
cut (Some (Failed reason)) list (inl e) = absurd (cc)
cut (Some (Failed reason)) list (inr e) = absurd (cc)

abbrev got_result : DnsResult → Option DnsResult → DnsResult
got_result d None = d
got_result d (Some r) = r

whole : (found : Option Found) (list : List (Option IpAddress)) (r : DnsResult) → result_if found ≡ Some r → IsOf list r → Found_as list found
whole None list r e is = absurd (cc)
whole (Some g) list r e (inl is) = ap (got_result r) e ∙ is
whole (Some g) list r e (inr is) = absurd (never (nat_lt 8 g.aliases) (g.count == 0) g.addresses list (ap (got_result r) e ∙ is))

found_whole : (found : Option Found) (list : List (Option IpAddress)) → result_if found ≡ Some (Addresses list) → Found_as list found
found_whole found list e = whole found list (Addresses list) e (inl refl)

by_kind : (unknown is_cut : Bool) (found : Option Found) (list : List (Option IpAddress)) (r : DnsResult) →
    (if unknown then Some (Failed NoSuchName) else if is_cut then Some (truncated (result_if found)) else result_if found) ≡ Some r →
    IsOf list r → Found_as list found
by_kind true is_cut found list r e is = absurd (none list r (ap (got_result r) e) is) where
  none : (list : List (Option IpAddress)) (r : DnsResult) → Failed NoSuchName ≡ r → IsOf list r → ⊥
  none list r e (inl is) = let bad : Failed NoSuchName ≡ Addresses list = e ∙ is in absurd (cc)
  none list r e (inr is) = let bad : Failed NoSuchName ≡ TruncatedAddresses list = e ∙ is in absurd (cc)
by_kind false true found list r e is =
    found_whole found list (cut (result_if found) list (subst (IsOf list) (sym (ap (got_result r) e)) is))
by_kind false false found list r e is = whole found list r e is

not_before : (r : DnsResult) (list : List (Option IpAddress)) → waits r ≡ true → IsOf list r → ⊥
not_before r list p (inl e) = let waited : false ≡ true = ap waits (sym e) ∙ p in absurd (cc)
not_before r list p (inr e) = let waited : false ≡ true = ap waits (sym e) ∙ p in absurd (cc)

abbrev Told : List (Option IpAddress) → Option DnsResult → Type 0
Told list None = ⊥
Told list (Some r) = IsOf list r

with_it : (r : Option DnsResult) (q : DnsQuery) (list : List (Option IpAddress)) → is_pending q ≡ true →
    IsOf list (with_result r q).result → Told list r
with_it None q list p e = absurd (not_before q.result list p e)
with_it (Some r) q list p e = e

by_refusal : (b : Bool) (q : DnsQuery) (list : List (Option IpAddress)) → is_pending q ≡ true →
    IsOf list (if b then record q { result = Failed ServerFailure } else record q { has_refused = true; next_at = q.round_at }).result → ⊥
by_refusal true q list p (inl e) = absurd (cc)
by_refusal true q list p (inr e) = absurd (cc)
by_refusal false q list p e = not_before q.result list p e

by_answer : (by refuses answers : Bool) (n : ℕ) (r : Option DnsResult) (q : DnsQuery) (list : List (Option IpAddress)) → is_pending q ≡ true →
    IsOf list (if by then (if refuses then after_refusal n q else if answers then with_result r q else q) else q).result → Told list r
by_answer true true answers n r q list p e = absurd (by_refusal (q.all_refused && nat_le n q.asked) q list p e)
by_answer true false true n r q list p e = with_it r q list p e
by_answer true false false n r q list p e = absurd (not_before q.result list p e)
by_answer false refuses answers n r q list p e = absurd (not_before q.result list p e)

told_some : (r : Option DnsResult) (list : List (Option IpAddress)) → Told list r → (x : DnsResult) × (r ≡ Some x) × IsOf list x
told_some None list t = absurd t
told_some (Some x) list t = (x, refl, t)

pub addresses_stand : AddressesStand
addresses_stand name servers from from_port to_port i octets q list a p e h =
    let h' = header_in octets in
    let at = (question_in octets 12).end in
    let told = by_answer (is_by_asked servers from from_port to_port q) (is_refusal name octets q) (is_answer name octets q && not (is_failure octets))
    (length servers) (result_in octets q) q list p e in
    let some = told_some (result_in octets q) list told in
    let found = by_kind (h'.response_code == 3) h'.is_truncated (found_from h'.answer_count q.query_type octets at (nothing_at 12)) list some.0 some.1 some.2 in
    of (found_from h'.answer_count q.query_type octets at (nothing_at 12)) refl found where
      of : (f : Option Found) → found_from (header_in octets).answer_count q.query_type octets (question_in octets 12).end (nothing_at 12) ≡ f →
          Found_as list f → Stands octets 12 a
      of None is found = absurd found
      of (Some g) is found = by_found q.query_type octets (header_in octets).answer_count (question_in octets 12).end g list is found i a h
