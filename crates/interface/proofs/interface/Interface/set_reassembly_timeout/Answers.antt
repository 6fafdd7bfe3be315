use Rattle.std.proofs.Common.{◌<◌, ◌≤◌, refl, rules}
use Rattle.host_machine.specs.Interface.Step.{WithinDay, OverDay}
use Rattle.interface.proofs.SettingCalls.{kept, led}
use Rattle.interface.proofs.interface.Interface.set_reassembly_timeout.Goals as goal

pub returns-then-total_micros-gt86400000000 : goal.returns-then-total_micros-gt86400000000
returns-then-total_micros-gt86400000000 c = λ sockets H h. kept H h (OverDay over refl refl) where
  over : 86400000000 < c.args.timeout
  over = search rules

pub returns : goal.returns
returns c = λ sockets H h. led c.args.self.now.context c.set_reassembly_timeout.new.context c.args.self.now.fragments sockets H h
    (λ K. record K { reassembly_timeout = c.args.timeout }) (c.set_reassembly_timeout.ensures sockets) (λ K slots. refl)
    (WithinDay within refl refl) where
      within : c.args.timeout ≤ 86400000000
      within = search rules
