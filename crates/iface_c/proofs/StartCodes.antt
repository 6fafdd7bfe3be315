-- The code of the call that starts a query of DNS, for which memory may be refused.
use Rattle.std.proofs.Common.{◌≡◌, ◌≢◌, ℕ, Option, Some, None, Ok, Err, refl, ap, ◌∙◌}
use Rattle.std.specs.Result.{IsErrOf}
use Rattle.iface_dns.specs.declared.start.StartRefusal.{StartRefusal}
use Rattle.iface_dns.specs.declared.start.StartRefusal.TheVariants.{Refused}
use Rattle.iface_host.specs.declared.refusal.Refusal.TheVariants.{NoMemory}
use Rattle.iface_c.specs.Dns.{code_if_start, code_of_start}
use Rattle.iface_c.specs.Status.{IsDueOrMemory}

the_one : {T : Type 0} {e r : StartRefusal} → IsErrOf {T = T} (Err e) r → e ≡ r
the_one is = cc

not_done : {T : Type 0} {done : T} {r : StartRefusal} → IsErrOf (Ok done) r → ⊥
not_done is = cc

-- it was refused: by the first reason that holds; and where none does, for want of memory
pub start_refused : {T : Type 0} (first : Option StartRefusal) (e : StartRefusal) (code : ℕ) →
    ((r : StartRefusal) → first ≡ Some r → IsErrOf {T = T} (Err e) r) → (first ≡ None → e ≡ Refused NoMemory) → code ≡ code_of_start e →
    code ≢ 0 → IsDueOrMemory (code_if_start first) code
start_refused None e code why memory is some = record {
  due_one = λ other. absurd (other refl);
  memory = λ none refuses. is ∙ ap code_of_start (memory refl);
}
start_refused (Some r) e code why memory is some = record {
  due_one = λ other. is ∙ ap code_of_start (the_one (why r refl));
  memory = λ none refuses. absurd (some (is ∙ ap code_of_start (the_one (why r refl)) ∙ none));
}

-- no reason holds, and the query is started
pub started : {T : Type 0} (done : T) (first : Option StartRefusal) →
    ((r : StartRefusal) → first ≡ Some r → IsErrOf (Ok done) r) → IsDueOrMemory (code_if_start first) 0
started done None why = record { due_one = λ other. absurd (other refl); memory = λ none refuses. absurd (refuses refl) }
started done (Some r) why = absurd (not_done (why r refl))
