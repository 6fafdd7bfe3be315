-- When something is due (the instants of `Timers` and `Outgoing`).
use Rattle.std.specs.Prelude.{ℕ, min, ◌&&◌, Bool, Option, Some, None, is_some, is_none, if◌then◌else◌}
use Rattle.tcp_machine.specs.declared.timers.Owed.{Owed}
use Rattle.tcp_machine.specs.declared.timers.Owed.TheVariants.{Nothing, By, AtOnce}
use Rattle.tcp_machine.specs.States.{sends_octets}
use Rattle.tcp_machine.specs.Connection.{Connection}
use Rattle.tcp_machine.specs.Timers.{is_held_back, keep_alive_at, gives_up_at}
use Rattle.tcp_machine.specs.Outgoing.{action}

abbrev pub least : Option ℕ → Option ℕ → Option ℕ
least None b = b
least (Some a) None = Some a
least (Some a) (Some b) = Some (min a b)

abbrev pub owed_at : Owed → Option ℕ
owed_at Nothing = None
owed_at (By t) = Some t
owed_at AtOnce = None

abbrev pub timer_at : Connection → Option ℕ
timer_at c = least (least c.timers.resend_at c.timers.ends_at) (least (least (gives_up_at c) (keep_alive_at c)) (owed_at c.reception.owed))

-- what is held back has no timer yet
abbrev pub lacks_timer : Connection → Bool
lacks_timer c = is_none c.timers.resend_at && sends_octets c.state && is_held_back c

-- at once, if something is to be sent or a timer to be begun; else when the first timer ends; none: nothing is due by itself
abbrev pub due_at : ℕ → Connection → Option ℕ
due_at now c = if is_some (action now c) then Some now else if lacks_timer c then Some now else timer_at c
