-- A query ends, and is told when something is due.
use Rattle.std.proofs.Common.{◌≡◌, ℕ, ◌+◌, ◌*◌, ◌<◌, ◌≤◌, Bool, true, false, refl, sym, subst, ap, ◌∙◌, arith, List, [], ◌∷◌, length}
use Rattle.std.specs.Prelude.{Option, Some, None, IfSome, max, min, nat_le, not, ◌==◌, ◌&&◌, ◌||◌, if◌then◌else◌}
use Rattle.std.proofs.lemmas.Bool.Decides.{nat_tests}
use Rattle.std.proofs.lemmas.Bool.{le-leb}
use Rattle.ip_address.specs.declared.ip.IpAddress.{IpAddress}
use Rattle.dns_client.specs.declared.query.DnsFailure.TheVariants.{ServerFailure, TimedOut}
use Rattle.dns_client.specs.declared.query.DnsQuery.{DnsQuery}
use Rattle.dns_client.specs.declared.query.DnsResult.{DnsResult}
use Rattle.dns_client.specs.declared.query.DnsResult.TheVariants.{Failed}
use Rattle.dns_client.specs.Answers.{with_result, result_in, after_answer, is_by_asked, is_answer, is_failure, is_refusal, waits_for}
use Rattle.dns_client.specs.Query.{new_query, after_asking, after_refusal, after_sending, after_time, asked_at, begins_round, delay, due_at, ends_at}
use Rattle.dns_client.specs.Query.{in_round, is_over, is_pending, is_to_send, next_due, next_of, waits}
use Rattle.dns_client.specs.Run.{Event, Receive, Fail, Ask, query_after, query_after_all}
use Rattle.dns_client.specs.Laws.{NeverStuck, PollAtIsExact, QueriesEnd}

due : (t : Bool) (n : ℕ) → t ≡ true → (if t then Some n else None) ≡ None → ⊥
due true n h e = absurd (cc)
due false n h e = absurd (cc)

pub never_stuck : NeverStuck
never_stuck servers q h e = due (is_pending q) (min (due_at servers q) 0xffff_ffff_ffff_ffff) h e

-- When a query began doesn't change.

with_it : (r : Option DnsResult) (q : DnsQuery) → (with_result r q).started_at ≡ q.started_at
with_it None q = refl
with_it (Some r) q = refl

refused : (b : Bool) (q : DnsQuery) →
    (if b then record q { result = Failed ServerFailure } else record q { has_refused = true; next_at = q.round_at }).started_at ≡ q.started_at
refused true q = refl
refused false q = refl

answered : (refuses answers : Bool) (servers : ℕ) (r : Option DnsResult) (q : DnsQuery) →
    (if refuses then after_refusal servers q else if answers then with_result r q else q).started_at ≡ q.started_at
answered true answers servers r q = refused (q.all_refused && nat_le servers q.asked) q
answered false true servers r q = with_it r q
answered false false servers r q = refl

by_receiving : (t : Bool) (name : List ℕ) (servers : ℕ) (octets : List ℕ) (q : DnsQuery) →
    (if t then after_answer name servers octets q else q).started_at ≡ q.started_at
by_receiving true name servers octets q =
    answered (is_refusal name octets q) (is_answer name octets q && not (is_failure octets)) servers (result_in octets q) q
by_receiving false name servers octets q = refl

unreached : (b : Bool) (servers : ℕ) (q : DnsQuery) → (if b then after_refusal servers q else q).started_at ≡ q.started_at
unreached true servers q = refused (q.all_refused && nat_le servers q.asked) q
unreached false servers q = refl

timed : (b : Bool) (q : DnsQuery) → (if b then record q { result = Failed TimedOut } else q).started_at ≡ q.started_at
timed true q = refl
timed false q = refl

rounded : (b : Bool) (q : DnsQuery) →
    (if b then record q { round = min 255 (q.round + 1); asked = 0; has_refused = true; all_refused = true; round_at = q.silent_until } else q).started_at
    ≡ q.started_at
rounded true q = refl
rounded false q = refl

by_sending : (t : Bool) (now servers : ℕ) (d : DnsQuery) → (if t then after_sending now (in_round servers d) else d).started_at ≡ d.started_at
by_sending true now servers d = rounded (begins_round servers d) d
by_sending false now servers d = refl

by_asking : (now servers : ℕ) (q : DnsQuery) → (after_asking now servers q).started_at ≡ q.started_at
by_asking now servers q =
    let d = after_time now servers q in by_sending (is_to_send now servers d) now servers d ∙ timed (is_pending q && is_over now servers q) q

by_event : (name : List ℕ) (servers : List IpAddress) (e : Event) (q : DnsQuery) → (query_after name servers e q).started_at ≡ q.started_at
by_event name servers (Receive from from_port to_port octets) q =
    by_receiving (is_by_asked servers from from_port to_port q) name (length servers) octets q
by_event name servers (Fail server) q = unreached (waits_for servers server q) (length servers) q
by_event name servers (Ask now) q = by_asking now (length servers) q

pub started_same : (name : List ℕ) (servers : List IpAddress) (es : List Event) (q : DnsQuery) →
    (query_after_all name servers es q).started_at ≡ q.started_at
started_same name servers [] q = refl
started_same name servers (e ∷ es) q = started_same name servers es (query_after name servers e q) ∙ by_event name servers e q

-- when its time is over a query doesn't wait
either : (b : Bool) → (b || true) ≡ true
either true = refl
either false = refl

given_up : (waits over : Bool) (q : DnsQuery) → is_pending q ≡ waits → over ≡ true →
    is_pending (if waits && over then record q { result = Failed TimedOut } else q) ≡ false
given_up true true q h o = refl
given_up true false q h o = absurd (cc)
given_up false over q h o = h

round_result : (b : Bool) (q : DnsQuery) →
    (if b then record q { round = min 255 (q.round + 1); asked = 0; has_refused = true; all_refused = true; round_at = q.silent_until } else q).result
    ≡ q.result
round_result true q = refl
round_result false q = refl

-- what is sent changes no result
pub same_result : (t : Bool) (now servers : ℕ) (d : DnsQuery) → (if t then after_sending now (in_round servers d) else d).result ≡ d.result
same_result true now servers d = round_result (begins_round servers d) d
same_result false now servers d = refl

pub queries_end : QueriesEnd
queries_end name servers begun random first now type es h =
    let n = length servers in
    let q = query_after_all name servers es (new_query begun type random first) in
    let started : q.started_at ≡ begun = started_same name servers es (new_query begun type random first) in
    let d = after_time now n q in
    let late : ends_at n q ≤ now = rw started h in
    let over : is_over now n q ≡ true = ap (λ (b : Bool). (n == 0) || b) (le-leb _ _ late) ∙ either (n == 0) in
    let ended : is_pending d ≡ false = given_up (is_pending q) (is_over now n q) q refl over in
    ap waits (same_result (is_to_send now n d) now n d) ∙ ended

-- When something is due.

same_time : (waits over : Bool) (q : DnsQuery) → over ≡ false → (if waits && over then record q { result = Failed TimedOut } else q) ≡ q
same_time true true q o = absurd (cc)
same_time true false q o = refl
same_time false over q o = refl

abbrev Undisturbed : ℕ → ℕ → DnsQuery → DnsQuery → Type 0
Undisturbed now servers q d =
    ((if is_to_send now servers d then Some (next_of servers (in_round servers d)) else None) ≡ None)
    × ((if is_to_send now servers d then after_sending now (in_round servers d) else d) ≡ q)

undisturbed : (now servers : ℕ) (q : DnsQuery) → is_to_send now servers q ≡ false → Undisturbed now servers q q
undisturbed now servers q h = rw h (refl, refl)

not_over : (z : Bool) (now servers : ℕ) (q : DnsQuery) → (servers == 0) ≡ z → z ≡ false → now < ends_at servers q → is_over now servers q ≡ false
not_over true now servers q e f h = absurd (cc)
not_over false now servers q e f h = rw e (grind (arith, nat_tests, h))

before : (t z : Bool) (now servers : ℕ) (q : DnsQuery) → (servers == 0) ≡ z →
    IfSome (if t then Some (min (if z then 0 else min (next_due servers q) (ends_at servers q)) 0xffff_ffff_ffff_ffff) else None)
    (λ at. now < at → (asked_at now servers q ≡ None) × (after_asking now servers q ≡ q))
before false z now servers q e = tt
before true true now servers q e = λ early. absurd (omega (arith, early))
before true false now servers q e = λ early.
    let silent : now < next_due servers q = omega (arith, early) in
    let within : now < ends_at servers q = omega (arith, early) in
    let unsent : is_to_send now servers q ≡ false = grind (arith, nat_tests, silent) in
    let same = same_time (is_pending q) (is_over now servers q) q (not_over false now servers q e refl within) in
    subst (λ (d : DnsQuery). Undisturbed now servers q d) (sym same) (undisturbed now servers q unsent)

later : (t : Bool) (now servers : ℕ) (r : DnsQuery) → now < 0xffff_ffff_ffff_ffff → is_pending r ≡ t →
    (is_pending r ≡ true → now < due_at servers r) →
    IfSome (if t then Some (min (due_at servers r) 0xffff_ffff_ffff_ffff) else None) (λ at. now < at)
later false now servers r h e f = tt
later true now servers r h e f = let d = f e in omega (arith, d, h)

some : (a b : Bool) → 1 ≤ (if a then 2000000 else if b then 3000000 else 5000000)
some true b = omega arith
some false true = omega arith
some false false = omega arith

-- a query that waits when its time was taken had some left
pub record Waits (now servers : ℕ) (q : DnsQuery) : Type 0 where
  pub within : is_over now servers q ≡ false
  pub same : after_time now servers q ≡ q

waiting : (waits over : Bool) (q : DnsQuery) → is_pending q ≡ waits →
    is_pending (if waits && over then record q { result = Failed TimedOut } else q) ≡ true → over ≡ false
waiting true true q w p = absurd (cc)
waiting true false q w p = refl
waiting false over q w p = absurd (cc)

pub still : (now servers : ℕ) (q : DnsQuery) → is_pending (after_time now servers q) ≡ true → Waits now servers q
still now servers q p =
    let within = waiting (is_pending q) (is_over now servers q) q refl p in
    record { within = within; same = same_time (is_pending q) (is_over now servers q) q within }

-- a time that isn't over ends later, and there are servers
pub record Within (now servers : ℕ) (q : DnsQuery) : Type 0 where
  pub some : (servers == 0) ≡ false
  pub before : now < ends_at servers q

pub within_time : (now servers : ℕ) (q : DnsQuery) → is_over now servers q ≡ false → Within now servers q
within_time now servers q h = by (servers == 0) (nat_le (ends_at servers q) now) refl refl h where
  by : (z o : Bool) → (servers == 0) ≡ z → nat_le (ends_at servers q) now ≡ o → (z || o) ≡ false → Within now servers q
  by true o ez eo f = absurd (cc)
  by false true ez eo f = absurd (cc)
  by false false ez eo f = record { some = ez; before = grind (arith, nat_tests, eo) }

due_at_later : (z : Bool) (now a b : ℕ) → z ≡ false → now < a → now < b → now < (if z then 0 else min a b)
due_at_later true now a b e ha hb = absurd (cc)
due_at_later false now a b e ha hb = omega (arith, ha, hb)

next_later : (b : Bool) (now next silent : ℕ) → now < next → now < (if b then max next silent else next)
next_later true now next silent h = omega (arith, h)
next_later false now next silent h = h

due_later : (t : Bool) (now servers : ℕ) (q : DnsQuery) → is_to_send now servers q ≡ t → is_pending q ≡ true → Within now servers q →
    now < due_at servers (if t then after_sending now (in_round servers q) else q)
due_later true now servers q e p w =
    let d = in_round servers q in
    let start : d.started_at ≡ q.started_at = rounded (begins_round servers q) q in
    let wait : 1 ≤ delay d.round = some _ _ in
    let before = w.before in
    let next : now < max d.round_at (now + delay d.round) = omega (arith, wait) in
    let ends : now < d.started_at + servers * 10000000 = omega (arith, start, before) in
    due_at_later (servers == 0) now _ _ w.some (next_later (begins_round servers (after_sending now d)) now _ _ next) ends
due_later false now servers q e p w =
    let silent : now < next_due servers q = grind (arith, nat_tests, e, p) in
    due_at_later (servers == 0) now _ _ w.some silent w.before

pub poll_at_is_exact : PollAtIsExact
poll_at_is_exact now servers q h =
    let d = after_time now servers q in
    let r = after_asking now servers q in (
      before (is_pending q) (servers == 0) now servers q refl,
      later (is_pending r) now servers r h refl (λ p.
          let waits : is_pending d ≡ true = sym (ap waits (same_result (is_to_send now servers d) now servers d)) ∙ p in
          let s = still now servers q waits in
          let there : is_pending q ≡ true = sym (ap is_pending s.same) ∙ waits in
          let w = within_time now servers q s.within in
          subst (λ (x : DnsQuery). now < due_at servers (if is_to_send now servers x then after_sending now (in_round servers x) else x)) (sym s.same)
          (due_later (is_to_send now servers q) now servers q refl there w)),
    )
