use Rattle.ip_address.proofs.LongestRun.{best_past_longer, best_past_other, best_past_zero, none_of_two, shortened}
use Rattle.ip_address.proofs.ipv6.longest_run.Goals as goal
use Rattle.ip_address.proofs.ipv6.longest_run.Goals.{then-groups-i-ne0, else-groups-i-ne0+then-len-from, else-groups-i-ne0+else-len-from}

-- src/ipv6.rt:168:5
pub loop-i-preserved : goal.loop-i-preserved
loop-i-preserved c =
    let groups = c.args.groups.now in
    let best = c.loop-i.invariant in
    let lt = c.loop-i-test.true in
    elim c.if-groups-i-ne0.branch [
      | then-groups-i-ne0 w ↦ rw (w.start-is, w.len-is, w.from-is) (best_past_other groups _ _ _ _ best lt w.if-groups-i-ne0.true)
      | else-groups-i-ne0+then-len-from w ↦
          rw (w.start-is, w.len-is, w.from-is) (best_past_longer groups _ _ _ _ best lt w.if-groups-i-ne0.false w.if-len-from.true)
      | else-groups-i-ne0+else-len-from w ↦
          rw (w.start-is, w.len-is, w.from-is) (best_past_zero groups _ _ _ _ best lt w.if-groups-i-ne0.false w.if-len-from.false)
    ]

-- src/ipv6.rt:162:1
pub returns-else-is_run-clause-none : goal.returns-else-is_run-clause-none
returns-else-is_run-clause-none c = none_of_two _ _ _ _ _ c.loop-i.invariant c.loop-i-test.false c.if-is_run.false

-- src/ipv6.rt:162:1
pub returns-then-is_run-clause-run : goal.returns-then-is_run-clause-run
returns-then-is_run-clause-run c = shortened _ _ _ _ _ c.loop-i.invariant c.loop-i-test.false c.loop-i.auto.i-end c.if-is_run.true
