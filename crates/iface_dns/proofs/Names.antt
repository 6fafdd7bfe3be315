-- A name that comes of a text is one that a resolver takes.
use Rattle.std.proofs.Common.{◌≡◌, ◌∙◌, ℕ, true, List, Option, Some, None, Err, ap, refl}
use Rattle.std.specs.Prelude.{is_some}
use Rattle.std.specs.Result.{IsErrOf}
use Rattle.std.proofs.lemmas.Bool.{and_from}
use Rattle.dns_client.specs.Details.Text.{name_in}
use Rattle.dns_client.proofs.TextAgain.{read_again}
use Rattle.dns_client.specs.DnsResolver.Places.{Queries}
use Rattle.dns_client.specs.DnsResolver.Resolver.{free_in, is_whole, start_refusal}
use Rattle.dns_client.specs.declared.dns_resolver.resolver.QueryHandle.{QueryHandle}
use Rattle.dns_client.specs.declared.dns_resolver.resolver.StartQueryError.{StartQueryError}
use Rattle.iface_host.specs.declared.refusal.Refusal.{Refusal}
use Rattle.iface_dns.specs.Start.{or_else}
use Rattle.iface_dns.specs.declared.start.StartRefusal.{StartRefusal}
use Rattle.iface_dns.specs.declared.start.StartRefusal.TheVariants.{Refused}

name_whole : (text name : List ℕ) → name_in text ≡ Some name → is_whole name ≡ true
name_whole text name h = and_from _ _ (read_again text name h).within (read_again text name h).whole

-- so it is refused only where there is no place
pub never_refused : (text name : List ℕ) (r : Queries) → name_in text ≡ Some name → is_some (free_in r.places) ≡ true →
    start_refusal r name ≡ None
never_refused text name r h free = rw (name_whole text name h, free) refl

pub not_refused : (text name slice : List ℕ) (r : Queries) (e : StartQueryError) → name_in text ≡ Some name →
    is_some (free_in r.places) ≡ true → slice ≡ name → Some e ≡ start_refusal r slice → ⊥
not_refused text name slice r e h free same is =
    let bad : Some e ≡ None = is ∙ ap (start_refusal r) same ∙ never_refused text name r h free in cc

-- where the text is read, the host's refusal is the one that is told
pub opening_why : (first : Option StartRefusal) (second : Option Refusal) (refusal : Refusal) → None ≡ first →
    ((r : Refusal) → second ≡ Some r → IsErrOf {T = ℕ} (Err refusal) r) → (e : StartRefusal) → or_else first second ≡ Some e →
    IsErrOf {T = QueryHandle} (Err (Refused refusal)) e
opening_why (Some f) second refusal none why e is = absurd cc
opening_why None None refusal none why e is = absurd cc
opening_why None (Some r) refusal none why e is = let same : Err refusal ≡ Err r = why r refl in cc
