-- Answers to what was asked are taken.
use Rattle.std.proofs.Common.{◌≡◌, ℕ, ◌+◌, ◌-◌, ◌<◌, Bool, true, false, refl, ap, ◌∙◌, arith, List, length}
use Rattle.std.specs.Prelude.{Option, Some, None, min, nat_lt, not, ◌&&◌, ◌||◌, if◌then◌else◌}
use Rattle.std.proofs.lemmas.Bool.Decides.{nat_tests}
use Rattle.std.proofs.lemmas.Bool.{and_parts, and_from, eq-eqb}
use Rattle.ip_address.specs.declared.ip.IpAddress.{IpAddress}
use Rattle.dns_client.specs.declared.query.DnsQuery.{DnsQuery}
use Rattle.dns_client.specs.declared.query.DnsResult.{DnsResult}
use Rattle.dns_client.specs.Answers.{after_answer, with_result, result_in, has_question, is_by_asked, is_failure, is_refusal, is_response, is_server, is_answer}
use Rattle.dns_client.specs.Message.{header_in}
use Rattle.dns_client.specs.Query.{after_asking, after_refusal, after_sending, after_time, asked_last, in_round, is_pending, is_to_send, next_of, server_of, waits}
use Rattle.dns_client.specs.Laws.{AnswersAreTaken}
use Rattle.dns_client.proofs.DnsClient.Ends.{same_result}

abbrev got : ℕ → Option ℕ → ℕ
got n None = n
got n (Some m) = m

tried : (n : ℕ) → nat_lt 0 (n + 1) ≡ true
tried n = grind (arith, nat_tests)

-- the server that was just asked is the one that was asked last
pub just_asked : (servers now : ℕ) (r : DnsQuery) → asked_last servers (after_sending now r) ≡ next_of servers r
just_asked servers now r = let is : r.asked + 1 - 1 ≡ r.asked = omega arith in ap (server_of servers r.first) is

pub by_sent : (t : Bool) (servers : List IpAddress) (now server : ℕ) (from : IpAddress) (d : DnsQuery) → is_to_send now (length servers) d ≡ t →
    (if t then Some (next_of (length servers) (in_round (length servers) d)) else None) ≡ Some server → is_server servers server from ≡ true →
    is_by_asked servers from 53 (if t then after_sending now (in_round (length servers) d) else d).source_port
    (if t then after_sending now (in_round (length servers) d) else d) ≡ true
by_sent false servers now server from d h e s = absurd (cc)
by_sent true servers now server from d h e s =
    let n = length servers in
    let r = in_round n d in
    let waits : is_pending (after_sending now r) ≡ true = ap waits (same_result true now n d) ∙ (and_parts _ _ h).0 in
    let same : asked_last n (after_sending now r) ≡ server = just_asked n now r ∙ ap (got 0) e in
    let by : is_server servers (asked_last n (after_sending now r)) from ≡ true = ap (λ (i : ℕ). is_server servers i from) same ∙ s in
    and_from _ _ (and_from _ _ (and_from _ _ (and_from _ _ waits (tried r.asked)) refl) (eq-eqb r.source_port r.source_port refl)) by

no_refusal : (responds failure question : Bool) → failure ≡ false → (responds && failure && question) ≡ false
no_refusal true true question e = absurd (cc)
no_refusal true false question e = refl
no_refusal false failure question e = refl

told : (b c f a : Bool) (n : ℕ) (o : Option DnsResult) (q : DnsQuery) (r : DnsResult) → b ≡ true → c ≡ false → a ≡ true → f ≡ false → o ≡ Some r →
    (if b then (if c then after_refusal n q else if a && not f then with_result o q else q) else q).result ≡ r
told b c f a n o q r eb ec ea ef eo = rw (eb, ec, ea, ef, eo) refl

pub answers_are_taken : AnswersAreTaken
answers_are_taken name servers now server from octets q r e s is sound told_is =
    let n = length servers in
    let d = after_time now n q in
    let asked = after_asking now n q in
    told (is_by_asked servers from 53 asked.source_port asked) (is_refusal name octets asked) (is_failure octets) (is_answer name octets asked) n
    (result_in octets asked) asked r (by_sent (is_to_send now n d) servers now server from d refl e s)
    (no_refusal (is_response octets asked) (is_failure octets) _ sound) is sound told_is
