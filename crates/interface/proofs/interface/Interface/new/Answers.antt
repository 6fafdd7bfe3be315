use Rattle.std.proofs.Common.{sym, ◌∙◌}
use Rattle.interface.proofs.NewInterface.{not_refused}
use Rattle.interface.proofs.interface.Interface.new.Goals as goal

pub returns-clause-made : goal.returns-clause-made
returns-clause-made g c = rw (← c.capabilities-capabilities.ensures) (
  not_refused c.capabilities-capabilities.result c.args.config.hardware_addr
      (rw (← c.medium.ensures.value) (sym c.is_same_medium.ensures.value ∙ c.if-not-is_same_medium.false))
      (sym c.is_unicast.ensures ∙ c.if-not-is_unicast.false)
      (rw (← c.ip_mtu.ensures) c.if-ip_mtu-lt576.false) c.if-capabilities-gt-FRAME_BUFFER_SIZE.false,
  c.over.ensures,
)
