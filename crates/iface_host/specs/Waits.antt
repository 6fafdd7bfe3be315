-- What is told of packets that wait for a neighbour, and of those that were given up.
use Rattle.std.specs.Prelude.{ℕ, ◌≡◌, Bool, is_some, Option, Some, None, if◌then◌else◌}
use Rattle.std.specs.Option.{option_and_then}
use Rattle.ip_address.specs.declared.ip.IpAddress.{IpAddress}
use Rattle.egress_schedule.specs.Plan.{given_up_at, waiting_at, without_given_up}
use Rattle.egress_schedule.specs.declared.watch.Waiting.{Waiting}
use Rattle.iface_host.specs.Frames.{planned}
use Rattle.iface_host.specs.Names.{handle_named}
use Rattle.iface_host.specs.Refusals.{close_refusal}
use Rattle.iface_host.specs.declared.host.IfaceHost.{IfaceHost}
use Rattle.iface_host.specs.declared.refusal.Refusal.{Refusal}
use Rattle.iface_host.specs.declared.refusal.Refusal.TheVariants.{Empty}

-- for whom the socket of a number waits
pub record TellsWaiting (n : ℕ) (waiting : Waiting) (host : IfaceHost) : Type 0 where
  pub handle : ℕ
  pub is_named : handle_named host.names n ≡ Some handle
  pub waiting_is : waiting_at handle (planned host) ≡ Some waiting

-- the destination of the packet that the socket of a number gave up last is told, and isn't told again
pub record TellsGivenUp (n : ℕ) (given_up : IpAddress) (old new : IfaceHost) : Type 0 where
  pub handle : ℕ
  pub is_named : handle_named old.names n ≡ Some handle
  pub given_up_is : given_up_at handle old.schedule ≡ Some given_up
  pub once : new ≡ record old { schedule = without_given_up handle old.schedule }

-- without a socket the number is refused, and where nothing is to be told that is said
abbrev pub if_nothing : Option Refusal → Bool → Option Refusal
if_nothing None something = if something then None else Some Empty
if_nothing (Some refusal) something = Some refusal

abbrev pub waiting_refusal : IfaceHost → ℕ → Option Refusal
waiting_refusal host n =
    if_nothing (close_refusal host n)
    (is_some (option_and_then (λ handle. waiting_at handle (planned host)) (handle_named host.names n)))

abbrev pub given_up_refusal : IfaceHost → ℕ → Option Refusal
given_up_refusal host n =
    if_nothing (close_refusal host n)
    (is_some (option_and_then (λ handle. given_up_at handle host.schedule) (handle_named host.names n)))
