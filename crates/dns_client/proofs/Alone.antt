-- Each query goes as if it were alone.
use Rattle.std.proofs.Common.{◌≡◌, ◌≢◌, ℕ, zero, suc, ◌<◌, Bool, true, false, List, [], ◌∷◌, length, Option, Some, None, refl, ap, sym, ◌∙◌, subst}
use Rattle.std.proofs.Common.{get_or, set, eqb, ltb, arith}
use Rattle.std.specs.Prelude.{All, if◌then◌else◌}
use Rattle.std.specs.Option.{option_map}
use Rattle.std.specs.List.{position_or_len}
use Rattle.std.proofs.lemmas.Bool.{eqb-true, eq-eqb, ltb-true}
use Rattle.std.proofs.lemmas.List.{get_or-set_same, get_or-set_other}
use Rattle.std.proofs.lemmas.List.Sums.{passes_at_first}
use Rattle.ip_address.specs.declared.ip.IpAddress.{IpAddress}
use Rattle.dns_client.specs.declared.message.DnsType.{DnsType}
use Rattle.dns_client.specs.Run as query
use Rattle.dns_client.specs.declared.query.DnsQuery.{DnsQuery}
use Rattle.dns_client.specs.DnsResolver.Places.{Named, Place, Queries}
use Rattle.dns_client.specs.DnsResolver.Resolver.{at, free_in, is_free, is_whole, named_after_asking, named_after_failure, named_after_receiving}
use Rattle.dns_client.specs.DnsResolver.Laws.{Event, Start, Cancel, Answer, Receive, Fail, Ask, after, after_all, cancels, own_event, own_events, with_event, with_query}
use Rattle.dns_client.specs.DnsResolver.Laws.{EachGoesAlone}

-- where a query is, its place is one of the list
within : (xs : List Place) (i : ℕ) (n : Named) → get_or xs i None ≡ Some n → i < length xs
within [] i n h = absurd cc
within (x ∷ xs) zero n h = omega arith
within (x ∷ xs) (suc i) n h = let le : i < length xs = within xs i n h in omega (arith, le)

-- a query is changed by its own event
abbrev went : List ℕ → List IpAddress → Option query.Event → DnsQuery → DnsQuery
went name servers None q = q
went name servers (Some e) q = query.query_after name servers e q

abbrev changed : List IpAddress → Option query.Event → Named → Named
changed servers e n = record n { query = went n.name servers e n.query }

other_place : (other place : ℕ) → eqb other place ≡ false → place ≢ other
other_place other place e same = let t : eqb other place ≡ true = eq-eqb other place (sym same) in cc

-- what is done at one place
step_at : (servers : List IpAddress) (f : Named → Named) (ev : query.Event) → ((m : Named) → f m ≡ changed servers (Some ev) m) →
    (xs : List Place) (other place : ℕ) (n : Named) (b : Bool) → eqb other place ≡ b → get_or xs place None ≡ Some n →
    get_or (set xs other (option_map f (get_or xs other None))) place None ≡ Some (changed servers (if b then Some ev else None) n)
step_at servers f ev is xs other place n true e h =
    let P : ℕ → Type 0 = λ o. get_or (set xs o (option_map f (get_or xs o None))) place None ≡ Some (changed servers (Some ev) n) in
    subst P (sym (eqb-true other place e))
    (get_or-set_same xs place (option_map f (get_or xs place None)) None (within xs place n h) ∙ ap (option_map f) h ∙ ap Some (is n))
step_at servers f ev is xs other place n false e h = get_or-set_other xs other place _ None (other_place other place e) ∙ h

-- a free place has no query
free_at : (xs : List Place) (p : ℕ) → free_in xs ≡ Some p → is_free (get_or xs p None) ≡ true
free_at xs p h = by (ltb (position_or_len is_free xs) (length xs)) refl where
  got : Option ℕ → ℕ
  got None = 0
  got (Some i) = i

  by : (b : Bool) → ltb (position_or_len is_free xs) (length xs) ≡ b → is_free (get_or xs p None) ≡ true
  by true e =
      let same : position_or_len is_free xs ≡ p = ap got (rw e at h) in
      subst (λ (i : ℕ). is_free (get_or xs i None) ≡ true) same (passes_at_first is_free xs None (ltb-true _ _ e))
  by false e = absurd (let f = rw e at h in cc)

start_at : (now : ℕ) (name : List ℕ) (type : DnsType) (r : Queries) (place : ℕ) (n : Named) (o : Option ℕ) → free_in r.places ≡ o →
    at r place ≡ Some n → at (with_query now name type o r) place ≡ Some n
start_at now name type r place n None e h = h
start_at now name type r place n (Some p) e h = get_or-set_other r.places p place _ None not_free ∙ h where
  not_free : place ≢ p
  not_free same =
      let free : is_free (get_or r.places p None) ≡ true = free_at r.places p e in
      let there : get_or r.places p None ≡ Some n = subst (λ (i : ℕ). get_or r.places i None ≡ Some n) same h in
      let f : is_free (Some n) ≡ true = ap is_free (sym there) ∙ free in cc

started : (now : ℕ) (name : List ℕ) (type : DnsType) (r : Queries) (place : ℕ) (n : Named) (b : Bool) → at r place ≡ Some n →
    at (if b then with_query now name type (free_in r.places) r else r) place ≡ Some n
started now name type r place n true h = start_at now name type r place n (free_in r.places) refl h
started now name type r place n false h = h

step : (place : ℕ) (n : Named) (e : Event) (r : Queries) → at r place ≡ Some n → cancels place e ≡ false →
    at (after e r) place ≡ Some (changed r.servers (own_event place e) n)
step place n (Start now name type) r h kept = started now name type r place n (is_whole name) h
step place n (Cancel other) r h kept = get_or-set_other r.places other place None None (other_place other place kept) ∙ h
step place n (Answer other result) r h kept = get_or-set_other r.places other place _ None (other_place other place kept) ∙ h
step place n (Receive other from from_port to_port octets) r h kept =
    step_at r.servers (named_after_receiving r.servers from from_port to_port octets) (query.Receive from from_port to_port octets) (λ m. refl)
    r.places other place n (eqb other place) refl h
step place n (Fail other server) r h kept =
    step_at r.servers (named_after_failure r.servers server) (query.Fail server) (λ m. refl) r.places other place n (eqb other place) refl h
step place n (Ask other now) r h kept =
    step_at r.servers (named_after_asking r.servers now) (query.Ask now) (λ m. refl) r.places other place n (eqb other place) refl h

-- the servers stay
with_servers : (now : ℕ) (name : List ℕ) (type : DnsType) (o : Option ℕ) (r : Queries) → (with_query now name type o r).servers ≡ r.servers
with_servers now name type None r = refl
with_servers now name type (Some p) r = refl

same_servers : (e : Event) (r : Queries) → (after e r).servers ≡ r.servers
same_servers (Start now name type) r = by (is_whole name) where
  by : (b : Bool) → (if b then with_query now name type (free_in r.places) r else r).servers ≡ r.servers
  by true = with_servers now name type (free_in r.places) r
  by false = refl
same_servers (Cancel place) r = refl
same_servers (Answer place result) r = refl
same_servers (Receive place from from_port to_port octets) r = refl
same_servers (Fail place server) r = refl
same_servers (Ask place now) r = refl

first_then : (name : List ℕ) (servers : List IpAddress) (o : Option query.Event) (es : List query.Event) (q : DnsQuery) →
    query.query_after_all name servers es (went name servers o q) ≡ query.query_after_all name servers (with_event o es) q
first_then name servers None es q = refl
first_then name servers (Some e) es q = refl

abbrev Kept : ℕ → List Event → Type 0
Kept place es = All (λ (e : Event). cancels place e ≡ false) es

kept_first : (place : ℕ) (e : Event) (es : List Event) → Kept place (e ∷ es) → cancels place e ≡ false
kept_first place e es kept = kept 0 e (omega arith)

kept_rest : (place : ℕ) (e : Event) (es : List Event) → Kept place (e ∷ es) → Kept place es
kept_rest place e es kept = λ k d lt. kept (suc k) d (omega (arith, lt))

pub each_goes_alone : EachGoesAlone
each_goes_alone place n [] r h kept = h
each_goes_alone place n (e ∷ es) r h kept =
    let n' : Named = changed r.servers (own_event place e) n in
    each_goes_alone place n' es (after e r) (step place n e r h (kept_first place e es kept)) (kept_rest place e es kept)
    ∙ ap (λ (servers : List IpAddress). Some (record n { query = query.query_after_all n.name servers (own_events place es) n'.query })) (same_servers e r)
    ∙ ap (λ (q : DnsQuery). Some (record n { query = q })) (first_then n.name r.servers (own_event place e) (own_events place es) n.query)
