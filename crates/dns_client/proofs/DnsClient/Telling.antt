-- Addresses of an answer are told.
use Rattle.std.proofs.Common.{◌≡◌, ◌≢◌, ℕ, zero, suc, ◌+◌, ◌<◌, ◌≤◌, Bool, true, false, refl, sym, ap, subst, ◌∙◌, arith, List, [], ◌∷◌, inl, inr, get_or, set, length}
use Rattle.std.specs.Prelude.{◌⊎◌, Option, Some, None, not, nat_lt, ◌==◌, ◌&&◌, if◌then◌else◌}
use Rattle.std.proofs.lemmas.Bool.Decides.{nat_tests}
use Rattle.std.proofs.lemmas.List.{get_or-set_same, get_or-set_other, length-set}
use Rattle.ip_address.specs.declared.ip.IpAddress.{IpAddress}
use Rattle.ip_address.specs.declared.ip.IpAddress.TheVariants.{Ipv4, Ipv6}
use Rattle.dns_client.specs.declared.message.DnsType.{DnsType}
use Rattle.dns_client.specs.declared.message.DnsType.TheVariants as type
use Rattle.dns_client.specs.declared.record.DnsData.{DnsData}
use Rattle.dns_client.specs.declared.record.DnsData.TheVariants.{A, Aaaa, Cname, Other}
use Rattle.dns_client.specs.Names.{is_same_name}
use Rattle.dns_client.specs.Message.{header_in, question_in}
use Rattle.dns_client.specs.Record.{is_record, record_in}
use Rattle.dns_client.specs.declared.found.Found.{Found}
use Rattle.dns_client.specs.declared.query.DnsFailure.TheVariants.{NoSuchName, NoAddress, TooManyAliases}
use Rattle.dns_client.specs.declared.query.DnsQuery.{DnsQuery}
use Rattle.dns_client.specs.declared.query.DnsResult.{DnsResult}
use Rattle.dns_client.specs.declared.query.DnsResult.TheVariants.{Addresses, Failed}
use Rattle.dns_client.specs.Answers.{found_in, result_in, truncated}
use Rattle.dns_client.specs.Found.{nothing_at, with_address, with_alias, is_for_v4, with_data, with_record, after_record, found_from, result_if, result_of}
use Rattle.dns_client.specs.Laws.{Comes, Here, BehindAlias, Behind, address_for, is_alias, IsIn, IsFull, IsTold, AddressesAreTold}

abbrev place : Found → ℕ → Option IpAddress
place f i = get_or f.addresses i None

-- the places up to the count have addresses
record Good (f : Found) : Type 0 where
  pub four : length f.addresses ≡ 4
  pub few : f.count ≤ 4
  pub filled : (i : ℕ) → i < f.count → place f i ≡ None → ⊥

-- what was found stays
record Grows (f g : Found) : Type 0 where
  pub good : Good g
  pub more : f.count ≤ g.count
  pub same : (i : ℕ) → i < f.count → place g i ≡ place f i

stays : (f : Found) → Good f → Grows f f
stays f g = record { good = g; more = omega arith; same = λ i lt. refl }

longer : (f g h : Found) → Grows f g → Grows g h → Grows f h
longer f g h a b =
    let one = a.more in
    let two = b.more in
    let good = b.good in
    record { good = good; more = omega (arith, one, two); same = λ i lt. b.same i (omega (arith, lt, one)) ∙ a.same i lt }

-- an address is kept, if there is room
abbrev kept : Bool → IpAddress → Found → Found
kept b a f = if b then record f { count = f.count + 1; addresses = set f.addresses f.count (Some a) } else f

kept_place : (a : IpAddress) (f : Found) → Good f → f.count < 4 → place (kept true a f) f.count ≡ Some a
kept_place a f g lt = let four = g.four in get_or-set_same f.addresses f.count (Some a) None (omega (arith, four, lt))

other_place : (a : IpAddress) (f : Found) (i : ℕ) → i ≢ f.count → place (kept true a f) i ≡ place f i
other_place a f i ne = get_or-set_other f.addresses f.count i (Some a) None ne

not_same : (i n : ℕ) → i < n → i ≢ n
not_same i n lt e = omega (arith, lt, e)

keeps : (b : Bool) (a : IpAddress) (f : Found) → nat_lt f.count 4 ≡ b → Good f → Grows f (kept b a f)
keeps false a f e g = stays f g
keeps true a f e g =
    let lt : f.count < 4 = grind (arith, nat_tests, e) in
    let four = g.four in
    record {
      good = record {
        four = length-set f.addresses f.count (Some a) ∙ four;
        few = omega (arith, lt);
        filled = λ i less none. filled i (nat_lt i f.count) refl less none;
      };
      more = omega arith;
      same = λ i less. other_place a f i (not_same i f.count less);
    } where
      filled : (i : ℕ) (c : Bool) → nat_lt i f.count ≡ c → i < f.count + 1 → place (kept true a f) i ≡ None → ⊥
      filled i true ec less none =
          let before : i < f.count = grind (arith, nat_tests, ec) in
          g.filled i before (sym (other_place a f i (not_same i f.count before)) ∙ none)
      filled i false ec less none =
          let last : i ≡ f.count = grind (arith, nat_tests, ec, less) in
          let room : f.count < 4 = grind (arith, nat_tests, e) in
          let there : place (kept true a f) i ≡ Some a = ap (place (kept true a f)) last ∙ kept_place a f g room in
          let bad : None ≡ Some a = sym none ∙ there in absurd (cc)

if_address : (c : Bool) (a : IpAddress) (f : Found) → Good f → Grows f (if c then with_address a f else f)
if_address true a f g = keeps (nat_lt f.count 4) a f refl g
if_address false a f g = stays f g

if_other : (c : Bool) (a : IpAddress) (f : Found) → Good f → Grows f (if c then f else with_address a f)
if_other true a f g = stays f g
if_other false a f g = keeps (nat_lt f.count 4) a f refl g

aliased : (name : ℕ) (f : Found) → Good f → Grows f (with_alias name f)
aliased name f g =
    let four = g.four in
    let few = g.few in
    let filled = g.filled in
    record { good = record { four = four; few = few; filled = filled }; more = omega arith; same = λ i lt. refl }

by_data : (t : DnsType) (d : DnsData) (f : Found) → Good f → Grows f (with_data t d f)
by_data t (A a) f g = if_address (is_for_v4 t) (Ipv4 a) f g
by_data t (Aaaa a) f g = if_other (is_for_v4 t) (Ipv6 a) f g
by_data t (Cname name) f g = aliased name f g
by_data t Other f g = stays f g

by_name : (c : Bool) (t : DnsType) (d : DnsData) (f : Found) → Good f → Grows f (if c then with_data t d f else f)
by_name true t d f g = by_data t d f g
by_name false t d f g = stays f g

abbrev got : Found → Option Found → Found
got f None = f
got f (Some g) = g

module _ (t : DnsType) (octets : List ℕ) where
  by_record : (at : ℕ) (f : Found) → Good f → Grows f (after_record t octets at f)
  by_record at f g = by_name (is_same_name octets at octets f.name) t (record_in octets at).«data» f g

  if_whole : (b : Bool) (rest : Option Found) (f g : Found) → (rest ≡ Some g → Grows f g) → (if b then rest else None) ≡ Some g → Grows f g
  if_whole true rest f g next e = next e
  if_whole false rest f g next e = absurd (cc)

  by_records : (count at : ℕ) (f g : Found) → Good f → found_from count t octets at f ≡ Some g → Grows f g
  unfolding found_from
  by_records zero at f g good e = subst (Grows f) (ap (got f) e) (stays f good)
  by_records (suc count) at f g good e =
      let h = after_record t octets at f in
      let one = by_record at f good in
      if_whole (is_record octets at) (found_from count t octets (record_in octets at).end h) f g
      (λ rest. longer f h g one (by_records count (record_in octets at).end h g one.good rest)) e

  -- an address is in its place, or all are full
  record Has (a : IpAddress) (f : Found) : Type 0 where
    pub some : 0 < f.count
    pub is_in : ((i : ℕ) × (i < f.count) × (place f i ≡ Some a)) ⊎ (f.count ≡ 4)

  has_later : (a : IpAddress) (f g : Found) → Grows f g → Has a f → Has a g
  has_later a f g gr h =
      let some = h.some in
      let more = gr.more in
      record { some = omega (arith, some, more); is_in = by h.is_in } where
        by : ((i : ℕ) × (i < f.count) × (place f i ≡ Some a)) ⊎ (f.count ≡ 4) → ((i : ℕ) × (i < g.count) × (place g i ≡ Some a)) ⊎ (g.count ≡ 4)
        by (inl there) =
            let more = gr.more in
            let less = there.1 in
            inl (there.0, omega (arith, less, more), gr.same there.0 there.1 ∙ there.2)
        by (inr full) =
            let more = gr.more in
            let few = gr.good.few in
            inr (omega (arith, full, more, few))

  has_kept : (b : Bool) (a : IpAddress) (f : Found) → nat_lt f.count 4 ≡ b → Good f → Has a (kept b a f)
  has_kept true a f e g =
      let lt : f.count < 4 = grind (arith, nat_tests, e) in
      record { some = omega arith; is_in = inl (f.count, omega arith, kept_place a f g lt) }
  has_kept false a f e g =
      let few = g.few in
      let full : f.count ≡ 4 = grind (arith, nat_tests, e, few) in
      record { some = omega (arith, full); is_in = inr full }

  of_some : (d : DnsData) (a b : IpAddress) (f : Found) → Good f → Some b ≡ Some a → Has a (with_address b f)
  of_some d a b f g e = subst (λ (x : IpAddress). Has a (with_address x f)) (ap (of_option a) (sym e)) (has_kept (nat_lt f.count 4) a f refl g) where
    of_option : IpAddress → Option IpAddress → IpAddress
    of_option x None = x
    of_option x (Some y) = y

  has_data : (s : DnsType) (d : DnsData) (a : IpAddress) (f : Found) → Good f → address_for s d ≡ Some a → Has a (with_data s d f)
  has_data type.A (A x) a f g e = of_some (A x) a (Ipv4 x) f g e
  has_data type.A (Aaaa x) a f g e = absurd (cc)
  has_data type.A (Cname n) a f g e = absurd (cc)
  has_data type.A Other a f g e = absurd (cc)
  has_data type.Aaaa (A x) a f g e = absurd (cc)
  has_data type.Aaaa (Aaaa x) a f g e = of_some (Aaaa x) a (Ipv6 x) f g e
  has_data type.Aaaa (Cname n) a f g e = absurd (cc)
  has_data type.Aaaa Other a f g e = absurd (cc)

  -- the name that is looked for behind a record
  same_name : (c : Bool) (d : DnsData) (f : Found) → (c && is_alias d) ≡ false → (if c then with_data t d f else f).name ≡ f.name
  same_name true (A x) f e = by (is_for_v4 t) (nat_lt f.count 4) where
    by : (v b : Bool) → (if v then kept b (Ipv4 x) f else f).name ≡ f.name
    by true true = refl
    by true false = refl
    by false b = refl
  same_name true (Aaaa x) f e = by (is_for_v4 t) (nat_lt f.count 4) where
    by : (v b : Bool) → (if v then f else kept b (Ipv6 x) f).name ≡ f.name
    by true b = refl
    by false true = refl
    by false false = refl
  same_name true (Cname n) f e = absurd (cc)
  same_name true Other f e = refl
  same_name false d f e = refl

  whole_rest : (b : Bool) (rest : Option Found) (g : Found) → b ≡ true → (if b then rest else None) ≡ Some g → rest ≡ Some g
  whole_rest true rest g e h = h
  whole_rest false rest g e h = absurd (cc)

  comes : (a : IpAddress) (count at name : ℕ) (f g : Found) → Comes t octets a count at name → f.name ≡ name → Good f →
      found_from count t octets at f ≡ Some g → Has a g
  unfolding found_from
  comes a zero at name f g c en good e = elim c [ ]
  comes a (suc count) at name f g (Here whole named is) en good e =
      let h = after_record t octets at f in
      let rest = whole_rest (is_record octets at) (found_from count t octets (record_in octets at).end h) g whole e in
      let named' : is_same_name octets at octets f.name ≡ true = ap (λ (n : ℕ). is_same_name octets at octets n) en ∙ named in
      let taken : with_data t (record_in octets at).«data» f ≡ h =
      ap (λ (c : Bool). if c then with_data t (record_in octets at).«data» f else f) (sym named') in
      let has : Has a h = subst (Has a) taken (has_data t (record_in octets at).«data» a f good is) in
      has_later a h g (by_records count (record_in octets at).end h g (by_record at f good).good rest) has
  comes a (suc count) at name f g (BehindAlias {to = to} whole named is more) en good e =
      let h = after_record t octets at f in
      let rest = whole_rest (is_record octets at) (found_from count t octets (record_in octets at).end h) g whole e in
      let named' : is_same_name octets at octets f.name ≡ true = ap (λ (n : ℕ). is_same_name octets at octets n) en ∙ named in
      let name_is : h.name ≡ to = ap (λ (c : Bool). (if c then with_data t (record_in octets at).«data» f else f).name) named'
      ∙ ap (λ (d : DnsData). (with_data t d f).name) is in
      comes a count (record_in octets at).end to h g more name_is (by_record at f good).good rest
  comes a (suc count) at name f g (Behind whole other more) en good e =
      let h = after_record t octets at f in
      let rest = whole_rest (is_record octets at) (found_from count t octets (record_in octets at).end h) g whole e in
      let other' : (is_same_name octets at octets f.name && is_alias (record_in octets at).«data») ≡ false =
      ap (λ (n : ℕ). is_same_name octets at octets n && is_alias (record_in octets at).«data») en ∙ other in
      let name_is : h.name ≡ name = same_name (is_same_name octets at octets f.name) (record_in octets at).«data» f other' ∙ en in
      comes a count (record_in octets at).end name h g more name_is (by_record at f good).good rest

  empty : Good (nothing_at 12)
  empty = record { four = refl; few = omega arith; filled = λ i lt none. omega (arith, lt) }

-- what comes of all records
told : (many none : Bool) (a : IpAddress) (g : Found) → Good g → (none ≡ false) →
    (((i : ℕ) × (i < g.count) × (place g i ≡ Some a)) ⊎ (g.count ≡ 4)) →
    ((if many then Failed TooManyAliases else if none then Failed NoAddress else Addresses g.addresses) ≡ Failed TooManyAliases)
    ⊎ IsTold a (if many then Failed TooManyAliases else if none then Failed NoAddress else Addresses g.addresses)
told true none a g good e is = inl refl
told false true a g good e is = absurd (cc)
told false false a g good e (inl there) = inr (record { list = g.addresses; told = refl; is_in = inl (there.0, there.2) })
told false false a g good e (inr full) =
    inr (record { list = g.addresses; told = refl; is_in = inr (λ i lt none. good.filled i (omega (arith, lt, full)) none) })

abbrev of_result : DnsResult → Option DnsResult → DnsResult
of_result d None = d
of_result d (Some r) = r

sound : (unknown cut : Bool) (x : Option DnsResult) (r : DnsResult) → unknown ≡ false → cut ≡ false →
    (if unknown then Some (Failed NoSuchName) else if cut then Some (truncated x) else x) ≡ Some r → x ≡ Some r
sound unknown cut x r eu ec e = rw (eu, ec) at e

not_three : (n : ℕ) → n ≡ 0 → (n == 3) ≡ false
not_three n e = rw e refl

pub addresses_are_told : AddressesAreTold
addresses_are_told octets q a r code cut there e =
    let h = header_in octets in
    let found = found_from h.answer_count q.query_type octets (question_in octets 12).end (nothing_at 12) in
    by found refl (sound (h.response_code == 3) h.is_truncated (result_if found) r (not_three h.response_code code) cut e) where
      by : (f : Option Found) → found_from (header_in octets).answer_count q.query_type octets (question_in octets 12).end (nothing_at 12) ≡ f →
          result_if f ≡ Some r → (r ≡ Failed TooManyAliases) ⊎ IsTold a r
      by None is x = absurd (cc)
      by (Some g) is x =
          let t = q.query_type in
          let good = (by_records t octets (header_in octets).answer_count (question_in octets 12).end (nothing_at 12) g (empty t octets) is).good in
          let has = comes t octets a (header_in octets).answer_count (question_in octets 12).end 12 (nothing_at 12) g there refl (empty t octets) is in
          let some = has.some in
          let counted : (g.count == 0) ≡ false = grind (arith, nat_tests, some) in
          let same : result_of g ≡ r = ap (of_result r) x in
          subst (λ (y : DnsResult). (y ≡ Failed TooManyAliases) ⊎ IsTold a y) same (told (nat_lt 8 g.aliases) (g.count == 0) a g good counted has.is_in)
