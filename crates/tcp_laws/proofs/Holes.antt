-- What is sent again begins within what was sent and isn't acknowledged.
use Rattle.std.proofs.Common.{◌≡◌, ◌≤◌, ◌<◌, ℕ, Bool, true, false, List, [], ◌∷◌, arith}
use Rattle.std.specs.Prelude.{min, max, nat_le, nat_lt, ◌&&◌, if◌then◌else◌}
use Rattle.std.proofs.lemmas.Bool.Decides.{nat_tests}
use Rattle.net_base.specs.declared.assembler.Range.{Range}
use Rattle.tcp_machine.specs.Scoreboard.{hole_from}
use Rattle.tcp_machine.specs.Connection.{Connection}
use Rattle.tcp_machine.specs.Acknowledgements.{next_hole}
use Rattle.tcp_machine.specs.Outgoing.{again_from}
use Rattle.tcp_laws.proofs.MachineArrivals.{either, last_of, is_lt}

above_lt : (p q : ℕ) → p < q → p ≤ q
above_lt p q h = omega (arith, h)

pub hole_above : (p : ℕ) (rs : List Range) → p ≤ hole_from p rs
hole_above p [] = omega arith
hole_above p (r ∷ rs) =
    either (λ (q : ℕ). p ≤ q) (nat_le r.start p && nat_lt p r.end) r.end (hole_from p rs)
    (λ e. above_lt p r.end (is_lt p r.end (last_of (nat_le r.start p) (nat_lt p r.end) e))) (λ _. hole_above p rs)

within : (u t m h : ℕ) → u ≤ t → max u m ≤ h → u ≤ min t h
within u t m h l k = grind (arith, l, k)

least : (t h : ℕ) → min t h ≤ t
least t h = grind arith

pub again_within : (c : Connection) → c.transmission.sender.una ≤ c.transmission.sender.top →
    (c.transmission.sender.una ≤ again_from c) × (again_from c ≤ c.transmission.sender.top)
again_within c h =
    let t = c.transmission in
    let u = t.sender.una in
    let p = max u t.resent in
    either (λ (q : ℕ). (u ≤ q) × (q ≤ t.sender.top)) c.congestion.is_recovering (next_hole t) u
    (λ _. (within u t.sender.top t.resent (hole_from p t.told) h (hole_above p t.told), least t.sender.top (hole_from p t.told)))
    (λ _. (omega arith, h))
