use Rattle.std.proofs.Common.{◌<◌, length, refl, arith}
use Rattle.std.proofs.lemmas.List.{get_or_read}
use Rattle.tcp_host.specs.Host.{no_slot}
use Rattle.tcp_host.proofs.host.TcpHost.accept_with.Goals as goal

pub returns : goal.returns
returns c =
    let i = c.self.inside in
    let v = c.self.view_is in
    let within : c.args.place < length i.slots.items = grind (arith, c.requires.within, v) in
    let slot = get_or_read i.slots.items _ _ within c.index_mut.ensures.value no_slot in
    rw (
      c.enroll.ensures,
      c.accept.ensures,
      c.default_mss-default.ensures,
      c.link_mss-link.ensures,
      c.accepted_settings_for-settings.ensures.value,
      slot,
      ← v,
    )
    refl
