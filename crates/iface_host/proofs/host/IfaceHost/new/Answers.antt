use Rattle.std.proofs.Common.{◌≡◌, ℕ, List, ap, false, refl, ◌∙◌}
use Rattle.net_base.specs.Checksum.{ip_mtu_of}
use Rattle.socket_set.specs.SocketSet.{Sockets, Storage, over}
use Rattle.iface_host.specs.Outbox.{empty}
use Rattle.iface_host.proofs.FrameCalls.{stood}
use Rattle.iface_host.proofs.host.IfaceHost.new.Goals as goal

-- a set over other places, with the room that it has
in_room : {L : Type 0} {set : Sockets L} {made places : List (Storage L)} {room : ℕ} →
    set ≡ over made false room → made ≡ places → set ≡ over places false set.room
in_room {room = room} is same = rw is (ap (λ xs. over xs false room) same)

pub returns-in-Ok-host-clause-made : goal.returns-in-Ok-host-clause-made
returns-in-Ok-host-clause-made c = rw c.in-Ok-host.ensures.ok (record {
  stands = (rw c.deref_mut-2.ensures.value at c.in-Ok-make_room.ensures) c.fixed.result _
      ((rw (c.deref_mut.ensures.value, c.in-Ok.ensures.ok) at c.in-Ok-let_fragments_wait.ensures.waits) c.fixed.result _
      (stood c.args.settings.now c.over.result c.capabilities-capabilities.result c.in_ok-start.start
      c.capabilities-capabilities.ensures.value c.in_ok-start.ensures.start.0 c.over.ensures c.fixed.result));
  some_time = c.in-Ok-let_fragments_wait.ensures.within.0;
  within_day = c.in-Ok-let_fragments_wait.ensures.within.1;
  ip_mtu = c.ip_mtu-2.ensures ∙ ap ip_mtu_of c.capabilities-capabilities.ensures.value;
  sockets = in_room c.fixed.ensures c.in_ok-places.ensures;
  names = c.in_ok-names.ensures;
  outbox = c.new-outbox.ensures ∙ ap empty c.capabilities-capabilities.ensures.value;
  schedule = c.in_ok-schedule.ensures;
  changed = refl;
  frames = refl;
  watch = c.watch_for.ensures;
  errors = c.new-4.ensures;
  watched = refl;
})
