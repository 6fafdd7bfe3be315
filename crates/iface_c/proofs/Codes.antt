-- The code of a call for which memory may be refused.
use Rattle.std.proofs.Common.{◌≡◌, ◌≢◌, ℕ, Option, Some, None, Ok, Err, refl, ap, ◌∙◌}
use Rattle.std.specs.Result.{IsErrOf}
use Rattle.iface_host.specs.declared.refusal.Refusal.{Refusal}
use Rattle.iface_host.specs.declared.refusal.Refusal.TheVariants.{NoMemory}
use Rattle.iface_c.specs.Status.{IsDueOrMemory, code_if, code_of}

the_one : {T : Type 0} {e r : Refusal} → IsErrOf {T = T} (Err e) r → e ≡ r
the_one is = cc

not_done : {T : Type 0} {done : T} {r : Refusal} → IsErrOf (Ok done) r → ⊥
not_done is = cc

-- it was refused: by the first reason that holds; and where none does, for want of memory
pub of_refusal : {T : Type 0} (first : Option Refusal) (e : Refusal) (code : ℕ) →
    ((r : Refusal) → first ≡ Some r → IsErrOf {T = T} (Err e) r) → (first ≡ None → e ≡ NoMemory) → code ≡ code_of e → code ≢ 0 →
    IsDueOrMemory (code_if first) code
of_refusal None e code why memory is some = record {
  due_one = λ other. absurd (other refl);
  memory = λ none refuses. is ∙ ap code_of (memory refl);
}
of_refusal (Some r) e code why memory is some = record {
  due_one = λ other. is ∙ ap code_of (the_one (why r refl));
  memory = λ none refuses. absurd (some (is ∙ ap code_of (the_one (why r refl)) ∙ none));
}

-- no reason holds, and the call is done
pub of_done : {T : Type 0} (done : T) (first : Option Refusal) →
    ((r : Refusal) → first ≡ Some r → IsErrOf (Ok done) r) → IsDueOrMemory (code_if first) 0
of_done done None why = record { due_one = λ other. absurd (other refl); memory = λ none refuses. absurd (refuses refl) }
of_done done (Some r) why = absurd (not_done (why r refl))
