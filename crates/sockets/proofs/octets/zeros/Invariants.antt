use Rattle.std.proofs.Common.{◌≡◌}
use Rattle.std.specs.Prelude.{vec_len, vec_capacity}
use Rattle.sockets.proofs.octets.zeros.Given as goal

-- as many zeros as turns were taken, and the room as it was
abbrev pub invariant-loop : goal.invariant-loop
invariant-loop l = (vec_len l.items ≡ l.counter) × (vec_capacity l.items ≡ l.count)
