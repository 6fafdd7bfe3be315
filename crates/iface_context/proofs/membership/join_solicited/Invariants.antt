use Rattle.std.proofs.Common.{◌≡◌, drop}
use Rattle.host_machine.specs.Context.Membership.{groups_after_joins}
use Rattle.iface_context.proofs.membership.join_solicited.Given as goal

abbrev pub invariant-loop-cidr : goal.invariant-loop-cidr
invariant-loop-cidr l = groups_after_joins l.room l.groups (drop l.cidr-index l.own) ≡ groups_after_joins l.room l.fn.groups l.own
