use Rattle.std.proofs.Common.{sym, ◌∙◌}
use Rattle.net_base.proofs.MemoryMoves.{tells_grant, tells_refused, tells_no_room}
use Rattle.net_base.proofs.memory_device.MemoryDeviceDevice.transmit.Goals as goal
use Rattle.net_base.proofs.memory_device.MemoryDeviceDevice.transmit.Goals.{then-take_answer-via-then-take_answer}
use Rattle.net_base.proofs.memory_device.MemoryDeviceDevice.transmit.Goals.{then-take_answer-via-else-take_answer+then-not-reserve}

pub returns-then-take_answer-clause-told : goal.returns-then-take_answer-clause-told
returns-then-take_answer-clause-told c =
    elim c.then-take_answer.branch [
      | then-take_answer-via-then-take_answer w ↦
          tells_refused c.args.now
          (sym c.take_answer.ensures.refused ∙ w.if-take_answer.true)
          (w.self-is ∙ c.take_answer.ensures.after)
          c.count_refusal.ensures
      | then-take_answer-via-else-take_answer+then-not-reserve w ↦
          tells_no_room c.args.now
          (sym c.take_answer.ensures.refused ∙ w.if-take_answer.false)
          c.take_answer.ensures.after
          w.reserve.ensures
          w.if-not-reserve.true
          (rw (← w.self-is) c.count_refusal.ensures)
    ]

pub returns-clause-told : goal.returns-clause-told
returns-clause-told c =
    tells_grant c.args.now
    (sym c.take_answer.ensures.refused ∙ c.if-take_answer.false)
    c.take_answer.ensures.after
    c.reserve.ensures
    c.if-not-reserve.false
