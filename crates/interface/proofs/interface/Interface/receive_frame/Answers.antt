use Rattle.std.proofs.Common.{rules, refl, None, Some}
use Rattle.host_machine.specs.Context.Host.{without_expired}
use Rattle.interface.proofs.IngressCall.{frame_received, shows_none, shows_some}
use Rattle.interface.proofs.interface.Interface.receive_frame.Goals as goal

pub returns-then-is_empty : goal.returns-then-is_empty
returns-then-is_empty c = (
  (
    refl,
    λ w. tt,
    λ H h.
        frame_received c.args.timestamp H c.args.frame.now c.take_frame.new.out None _
        (c.take_frame.ensures (without_expired H c.args.timestamp) (c.expire_slots.ensures c.args.sockets.now H h))
        (shows_none c.take_frame.new.out (search rules)),
  ),
  record { received = tt; short = tt },
)

pub returns-else-is_empty : goal.returns-else-is_empty
returns-else-is_empty c = (
  (
    refl,
    λ w. tt,
    λ H h.
        frame_received c.args.timestamp H c.args.frame.now c.take_frame.new.out (Some c.as_slice.result.now) _
        (c.take_frame.ensures (without_expired H c.args.timestamp) (c.expire_slots.ensures c.args.sockets.now H h))
        (shows_some c.take_frame.new.out c.as_slice.result.now (search rules) c.as_slice.ensures.value),
  ),
  record { received = tt; short = c.as_slice.ensures.fits },
)
