use Rattle.ip_address.proofs.LongestRun.{IsBest}
use Rattle.ip_address.proofs.ipv6.longest_run.Given as goal

abbrev pub invariant-loop-i : goal.invariant-loop-i
invariant-loop-i l = IsBest l.groups l.start l.len l.from l.i
