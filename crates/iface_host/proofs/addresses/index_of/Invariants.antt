use Rattle.std.proofs.Common.{◌≡◌, ◌+◌, drop}
use Rattle.std.specs.List.{position_or_len}
use Rattle.iface_host.specs.Calls.{is_same}
use Rattle.iface_host.proofs.addresses.index_of.Given as goal

abbrev pub invariant-loop-i : goal.invariant-loop-i
invariant-loop-i l = l.i + position_or_len (is_same l.cidr) (drop l.i l.list) ≡ position_or_len (is_same l.cidr) l.list
