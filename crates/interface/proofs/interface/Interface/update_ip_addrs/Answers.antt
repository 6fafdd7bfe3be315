use Rattle.std.proofs.Common.{refl, sym, ap, take, ◌∙◌}
use Rattle.host_machine.specs.Context.Settings.{after_address_change}
use Rattle.host_machine.specs.Interface.Step.{Accepted, Refused}
use Rattle.interface.proofs.SettingCalls.{kept, led}
use Rattle.interface.proofs.interface.Interface.update_ip_addrs.Goals as goal

pub returns-then-not-are_assignable : goal.returns-then-not-are_assignable
returns-then-not-are_assignable g c = (
  c.first_four.result,
  c.f-list.result,
  c.f-list.ensures,
  λ sockets. c.first_four.ensures ∙ ap (take 4) c.ip_addrs.ensures.value,
  λ sockets H h. kept H h (Refused (rw (← c.as_slice.ensures.value) (sym c.are_assignable.ensures ∙ c.if-not-are_assignable.true)) refl refl),
)

pub returns : goal.returns
returns g c = (
  c.first_four.result,
  c.f-list.result,
  c.f-list.ensures,
  λ sockets. c.first_four.ensures ∙ ap (take 4) c.ip_addrs.ensures.value,
  λ sockets H h. led c.args.self.now.context c.set_ip_addrs.new.context c.args.self.now.fragments sockets H h
      (λ K. after_address_change K c.f-list.result.items) (rw c.as_slice-2.ensures.value at c.set_ip_addrs.ensures sockets) (λ K slots. refl)
      (Accepted (rw (← c.as_slice.ensures.value) (sym c.are_assignable.ensures ∙ c.if-not-are_assignable.false)) refl refl),
)
