use Rattle.std.proofs.Common.{◌≡◌, replicate}
use Rattle.iface_host.specs.Stands.{free_storage}
use Rattle.iface_host.proofs.host.free_storages.Given as goal

abbrev pub invariant-loop : goal.invariant-loop
invariant-loop l = l.places.items ≡ replicate l.counter free_storage
