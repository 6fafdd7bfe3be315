use Rattle.std.proofs.Common.{◌<◌, ◌∙◌, length, ap, arith}
use Rattle.std.proofs.lemmas.List.{get_or_read}
use Rattle.tcp_machine.specs.Connection.{Connection}
use Rattle.tcp_machine.specs.Timers.{after_timers}
use Rattle.tcp_host.specs.declared.slot.Slot.{Slot}
use Rattle.tcp_host.specs.Host.{Host, no_slot, with_connection}
use Rattle.tcp_host.specs.Turns.{expired}
use Rattle.tcp_host.specs.contracts.host.TcpHost.{the_view}
use Rattle.tcp_host.proofs.HostLemmas.{connection_set}
use Rattle.tcp_host.proofs.host.TcpHost.expire.Goals as goal

pub returns : goal.returns
returns c =
    let i = c.self.inside in
    let v = c.self.view_is in
    let within : c.args.place < length i.slots.items = grind (arith, c.requires, v) in
    let slot = get_or_read i.slots.items _ _ within c.index_mut.ensures.value no_slot in
    connection_set (the_view i) c.args.place c.index_mut.result.now c.expire.new.self slot
    ∙ ap (λ (x : Connection). with_connection c.args.place x (the_view i)) (c.expire.ensures ∙ ap (λ (s : Slot). after_timers c.args.now s.connection) slot)
    ∙ ap (λ (h : Host). expired c.args.place c.args.now h) v
