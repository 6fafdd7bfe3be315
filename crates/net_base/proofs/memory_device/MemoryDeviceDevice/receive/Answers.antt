use Rattle.std.proofs.Common.{rules, ◌∙◌}
use Rattle.net_base.proofs.MemoryMoves.{tells_nothing, tells_withheld, tells_frame}
use Rattle.net_base.proofs.memory_device.MemoryDeviceDevice.receive.Goals as goal

pub returns-then-queued-eq0-clause-told : goal.returns-then-queued-eq0-clause-told
returns-then-queued-eq0-clause-told c = tells_nothing c.args.now _ (search rules)

pub returns-then-not-reserve-clause-told : goal.returns-then-not-reserve-clause-told
returns-then-not-reserve-clause-told c =
    tells_withheld c.args.now (search rules) c.reserve.ensures c.if-not-reserve.true c.count_refusal.ensures

pub returns-clause-told : goal.returns-clause-told
returns-clause-told c =
    tells_frame c.args.now c.reserve.ensures
    c.if-not-reserve.false
    c.in_ok-frame.ensures.1
    c.in_ok-frame.ensures.2
    (c.write_front.ensures.front ∙ c.deref.ensures.value)
