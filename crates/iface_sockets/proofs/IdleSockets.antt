-- Nothing is due of idle sockets.
use Rattle.std.proofs.Common.{◌≡◌, ◌⊎◌, ℕ, ◌<◌, ◌≤◌, ap, arith, inl, inr, Option, Some}
use Rattle.std.proofs.lemmas.Bool.{cases_lt}
use Rattle.std.specs.Prelude.{ℤ}
use Rattle.std.specs.Option.{option_and_then}
use Rattle.socket_set.specs.Details.Busy.{IsIdle}
use Rattle.socket_set.specs.SocketSet.{socket_at}
use Rattle.host_machine.specs.Context.Host.{Host}
use Rattle.host_machine.specs.Sockets.Polling.{SocketDue}
use Rattle.host_machine.specs.Interface.Due.{IsLeast}
use Rattle.host_machine.proofs.Interface.EarliestInstant.{DueBelow, least_same}

-- an idle socket has no instant
idle_not_due : (H : Host) (i : ℕ) (x : ℤ) → IsIdle H.sockets i → SocketDue H i x → ⊥
idle_not_due H i x idle d =
    let here : socket_at H.sockets i ≡ Some d.socket = ap (option_and_then (λ place. place)) d.here in
    let rests = rw here at idle in
    let never = rw (rests.1, rests.0) at d.instant in
    absurd cc

-- so the least of some places is that of idle ones behind them too
pub below_passed : (H : Host) (from to : ℕ) (a : Option ℤ) → from ≤ to → ((i : ℕ) → from ≤ i → i < to → IsIdle H.sockets i) →
    IsLeast (DueBelow H from) a → IsLeast (DueBelow H to) a
below_passed H from to a after idle least = least_same (DueBelow H from) (DueBelow H to) a (λ x d. (d.0, (let before = d.1 in omega arith), d.2))
    (λ x d. back x d (cases_lt d.0 from)) least where
      back : (x : ℤ) (d : DueBelow H to x) → ((d.0 < from) ⊎ (from ≤ d.0)) → DueBelow H from x
      back x d (inl before) = (d.0, before, d.2)
      back x d (inr past) = absurd (idle_not_due H d.0 x (idle d.0 past d.1) d.2)
