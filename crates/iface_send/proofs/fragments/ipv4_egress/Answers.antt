use Rattle.std.proofs.Common.{◌≡◌, false, sym, ◌∙◌, rules}
use Rattle.iface_send.proofs.FragmentTurns.{no_piece, not_granted, piece_goes}
use Rattle.iface_send.proofs.fragments.ipv4_egress.Goals as goal

pub returns-then-not-has_pending_fragment : goal.returns-then-not-has_pending_fragment
returns-then-not-has_pending_fragment g c =
    no_piece c.args.context.now (g.met.D.Device.tells_nothing c.args.device.now) (sym c.has_pending_fragment.ensures ∙ waits_none) where
      waits_none : c.has_pending_fragment.result ≡ false
      waits_none = search rules

pub returns-then-not-transmit : goal.returns-then-not-transmit
returns-then-not-transmit g c = not_granted c.args.context.now (rw (c.now.ensures, c.if-not-transmit.true) at c.transmit.ensures.told) (search rules)

pub returns : goal.returns
returns g c = piece_goes c.args.context.now c.emit_next_piece.new.context g.met.D.Device.tells_on
    (rw (c.now.ensures, c.if-not-transmit.false) at c.transmit.ensures.told) c.emit_next_piece.ensures c.send_frame.ensures
