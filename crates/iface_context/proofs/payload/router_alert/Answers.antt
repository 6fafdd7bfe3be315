use Rattle.std.proofs.Common.{refl}
use Rattle.ip_wire.specs.HopByHop.{option_text}
use Rattle.iface_context.proofs.payload.router_alert.Goals as goal

pub returns-clause-len : goal.returns-clause-len
unfolding option_text
returns-clause-len c = rw (c.push-2.ensures.items, c.push.ensures.items, c.new-options.ensures) refl
