use Rattle.std.proofs.Common.{◌≡◌, ◌≤◌, ◌∷◌, List, Vec, Global, ℕ, arith}
use Rattle.std.proofs.lemmas.List.Elements.{All-tail}
use Rattle.std.specs.Prelude.{All}
use Rattle.std.specs.Vec.{vec_len, vec_capacity}
use Rattle.iface_host.proofs.outbox.Outbox.hand_over.Goals as goal

head_of : {A : Type 0} (P : A → Type 0) (x : A) (xs : List A) → All P (x ∷ xs) → P x
head_of P x xs all = all 0 x (omega arith)

pub invariant_of-self-then-is_none-2 : goal.invariant_of-self-then-is_none-2
invariant_of-self-then-is_none-2 c =
    let waited : c.self.inside.frames.items ≡ c.in-Some.frame ∷ c.pop_front.new.self.items = c.in-Some.ensures.items in
    let wide = rw waited at c.self.invariant.1 in
    let len = c.in-Some.ensures.len in
    let capacity = c.in-Some.ensures.capacity in
    let most = c.self.invariant.2 in (
      All-tail (λ (v : Vec ℕ Global). vec_len v ≤ 1514) c.in-Some.frame c.pop_front.new.self.items (rw waited at c.self.invariant.0),
      All-tail (λ (v : Vec ℕ Global). 1514 ≤ vec_capacity v) c.in-Some.frame c.pop_front.new.self.items wide,
      omega (arith, len, capacity, most),
      λ x is.
          let same : c.clear.new.self ≡ x = cc in
          rw (← same) (
            c.clear.ensures.items,
            (rw c.clear.ensures.capacity (head_of (λ (v : Vec ℕ Global). 1514 ≤ vec_capacity v) c.in-Some.frame c.pop_front.new.self.items wide)),
            omega (arith, len, capacity, most),
          ),
    )

pub invariant_of-self-else-is_none : goal.invariant_of-self-else-is_none
invariant_of-self-else-is_none c =
    let waited : c.self.inside.frames.items ≡ c.in-Some.frame ∷ c.pop_front.new.self.items = c.in-Some.ensures.items in
    let len = c.in-Some.ensures.len in
    let capacity = c.in-Some.ensures.capacity in
    let most = c.self.invariant.2 in (
      All-tail (λ (v : Vec ℕ Global). vec_len v ≤ 1514) c.in-Some.frame c.pop_front.new.self.items (rw waited at c.self.invariant.0),
      All-tail (λ (v : Vec ℕ Global). 1514 ≤ vec_capacity v) c.in-Some.frame c.pop_front.new.self.items (rw waited at c.self.invariant.1),
      omega (arith, len, capacity, most),
      λ x is. let room = c.self.invariant.3 x is in (room.0, room.1, omega (arith, len, capacity, most)),
    )
