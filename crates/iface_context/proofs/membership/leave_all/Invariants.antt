use Rattle.std.proofs.Common.{◌≡◌, drop}
use Rattle.host_machine.specs.Context.Membership.{groups_after_leaves}
use Rattle.iface_context.proofs.membership.leave_all.Given as goal

abbrev pub invariant-loop-address : goal.invariant-loop-address
invariant-loop-address l = groups_after_leaves l.groups (drop l.address-index l.addresses) ≡ groups_after_leaves l.fn.groups l.addresses
