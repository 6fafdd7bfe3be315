use Rattle.std.proofs.Common.{refl, ap, sym, ◌∙◌}
use Rattle.host_machine.specs.Context.Host.{Host}
use Rattle.host_machine.specs.Interface.Config.{hardware_refusal_of}
use Rattle.host_machine.specs.Interface.Step.{Taken, NotTaken}
use Rattle.interface.proofs.SettingCalls.{kept, led}
use Rattle.interface.proofs.interface.Interface.set_hardware_addr.Goals as goal

pub returns-in-Some : goal.returns-in-Some
returns-in-Some c = λ sockets H h. kept H h (NotTaken c.in-Some.error
    (ap (λ (K : Host). hardware_refusal_of K.capabilities c.args.hardware_addr) h.same
    ∙ rw (← c.capabilities.ensures) (sym c.hardware_refusal.ensures.value ∙ c.in-Some.is)) refl refl)

pub returns : goal.returns
returns c = λ sockets H h. led c.args.self.now.context c.set_hardware_addr.new.context c.args.self.now.fragments sockets H h
    (λ K. record K { hardware_addr = c.args.hardware_addr }) (c.set_hardware_addr.ensures sockets) (λ K slots. refl)
    (Taken (ap (λ (K : Host). hardware_refusal_of K.capabilities c.args.hardware_addr) h.same
    ∙ rw (← c.capabilities.ensures) (sym c.hardware_refusal.ensures.value ∙ c.in_default.is))
    (rw h.same (rw (← c.capabilities.ensures) (c.hardware_refusal.ensures.of c.in_default.is))) refl refl)
