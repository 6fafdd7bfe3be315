use Rattle.std.proofs.Common.{◌≡◌, arith}
use Rattle.std.specs.Prelude.{Result, Ok, Err}
use Rattle.host_machine.specs.declared.results.TimeoutError.{TimeoutError}
use Rattle.host_machine.specs.declared.results.TimeoutError.TheVariants.{TimeoutTooLong}
use Rattle.host_machine.specs.Context.Host.{Host}
use Rattle.host_machine.specs.Interface.Step.{SetsReassemblyTimeout, WithinDay, OverDay}
use Rattle.host_machine.proofs.worked_examples.timeouts_are_tested.Goals as goal

of_a_day : (answer : Result (Unit {0}) TimeoutError) (old new : Host) →
    SetsReassemblyTimeout 86_400_000_000 answer old new → (answer ≡ Ok tt) × (new ≡ record old { reassembly_timeout = 86_400_000_000 })
of_a_day answer old new (WithinDay l r e) = (r, e)
of_a_day answer old new (OverDay l r e) = absurd (omega (arith, l))

longer : (answer : Result (Unit {0}) TimeoutError) (old new : Host) →
    SetsReassemblyTimeout 86_400_000_001 answer old new → (answer ≡ Err TimeoutTooLong) × (new ≡ old)
longer answer old new (WithinDay l r e) = absurd (omega (arith, l))
longer answer old new (OverDay l r e) = (r, e)

pub returns : goal.returns
returns c = record { of_a_day = of_a_day; longer = longer }
