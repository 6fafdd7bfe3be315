use Rattle.std.proofs.Common.{◌≤◌, ◌+◌, arith}
use Rattle.net_base.specs.declared.bucket.Bucket.{Bucket}
use Rattle.tcp_host.proofs.slot.challenges_are_few.Goals as goal

pub returns : goal.returns
returns c = λ first instants full_at within.
    let bucket : Bucket = record { interval = 200000; depth = 5; full_at = full_at } in
    let ends : first ≤ first + 1000000 = omega arith in
    let few = c.few_are_taken.ensures bucket first (first + 1000000) instants ends within in
    omega (arith, few)
