-- The place that leaves a backlog.
use Rattle.std.proofs.Common.{◌≡◌, ℕ, zero, suc, Bool, true, false, List, [], ◌∷◌, refl, sym, ap, ◌∙◌, arith}
use Rattle.std.specs.Prelude.{◌==◌, remove, if◌then◌else◌}
use Rattle.std.proofs.lemmas.Bool.Decides.{nat_tests}
use Rattle.tcp_host.specs.Backlog.{without, IsFirst, IsNowhere}

pub removed : (place i : ℕ) (places : List ℕ) → IsFirst place i places → remove places i ≡ without place places
removed place i [] f = let l = f.within in absurd (omega (arith, l))
removed place zero (p ∷ places) f =
    let a = f.at in
    let e : (p == place) ≡ true = grind (arith, nat_tests, a) in
    sym (ap (λ (b : Bool). if b then places else p ∷ without place places) e)
removed place (suc i) (p ∷ places) f =
    let a = f.first zero (omega arith) in
    let e : (p == place) ≡ false = grind (arith, nat_tests, a) in
    let l = f.within in
    ap (λ (ps : List ℕ). p ∷ ps) (removed place i places (record { within = omega (arith, l); at = f.at; first = λ k m. f.first (suc k) (omega (arith, m)) }))
    ∙ sym (ap (λ (b : Bool). if b then places else p ∷ without place places) e)

pub nowhere : (place : ℕ) (places : List ℕ) → IsNowhere place places → without place places ≡ places
nowhere place [] n = refl
nowhere place (p ∷ places) n =
    let a = n zero (omega arith) in
    let e : (p == place) ≡ false = grind (arith, nat_tests, a) in
    ap (λ (b : Bool). if b then places else p ∷ without place places) e
    ∙ ap (λ (ps : List ℕ). p ∷ ps) (nowhere place places (λ k m. n (suc k) (omega (arith, m))))
