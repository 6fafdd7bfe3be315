use Rattle.std.proofs.Common.{◌≡◌, ◌+◌, drop}
use Rattle.std.specs.VecDeque.{deque_len}
use Rattle.network.proofs.transmission.Kept.forget.Given as goal

abbrev pub invariant-loop : goal.invariant-loop
invariant-loop l = (l.self.transmissions.items ≡ drop l.counter l.initial.self.transmissions.items)
    × (deque_len l.self.transmissions + l.counter ≡ deque_len l.initial.self.transmissions) × (l.self.forgotten ≡ l.initial.self.forgotten)
