-- Which of the frames that a run sends solicit routers, and when they are sent (RFC 4861 6.3.7, 10).
use Rattle.std.specs.Prelude.{◌≡◌, ℕ, ◌≤◌, ℤ, pos, ◌+ℤ◌, ◌≤ℤ◌, ◌==◌, ◌&&◌, Bool, false}
use Rattle.std.specs.Prelude.{List, [], ◌∷◌, length, slice_index, if◌then◌else◌}
use Rattle.std.specs.List.{AllByRecursion}
use Rattle.net_base.specs.declared.phy.Medium.{Medium}
use Rattle.net_base.specs.declared.phy.Medium.TheVariants as medium
use Rattle.ip_wire.specs.Octets.{u16_at}
use Rattle.iface_tables.specs.Slaac.{initial_state}
use Rattle.host_machine.specs.Context.Host.{Host}
use Rattle.host_machine.specs.Interface.Run.{Transition, Run, events_in}
use Rattle.host_machine.specs.Context.Real.{IsRegular}
use Rattle.host_laws.specs.Laws.Requests.{NoSocketSpeaks, sent_at}

-- an Ethernet frame that solicits routers: over IPv6, its next header is ICMPv6, and the message a router solicitation
-- (RFC 4861 4.1)
abbrev pub solicits_routers : List ℕ → Bool
solicits_routers frame = u16_at frame 12 == 0x86dd && slice_index frame 20 == 58 && slice_index frame 54 == 133

-- by the medium: on one without hardware addresses no routers are solicited
abbrev pub is_router_solicitation : Medium → List ℕ → Bool
is_router_solicitation medium.Ethernet frame = solicits_routers frame
is_router_solicitation medium.Ip frame = false

-- the moments of those frames that do, in order
abbrev pub solicitations_at : Medium → List (ℤ × List ℕ) → List ℤ
solicitations_at m [] = []
solicitations_at m (f ∷ fs) =
    if is_router_solicitation m f.1 then f.0 ∷ solicitations_at m fs else solicitations_at m fs

-- the moments of the router solicitations of a whole run
abbrev pub solicitations_in : Medium → List Transition → List ℤ
solicitations_in m transitions = solicitations_at m (sent_at (pos 0) (events_in transitions))

-- each moment is at least four seconds after the one before, even if the clock was set back between them
abbrev pub AreFourSecondsApart : List ℤ → Type 0
AreFourSecondsApart [] = Unit {0}
AreFourSecondsApart (t ∷ []) = Unit {0}
AreFourSecondsApart (t ∷ u ∷ us) = ((t +ℤ pos 4000000) ≤ℤ u) × AreFourSecondsApart (u ∷ us)

-- a run solicits routers three times at most, four seconds apart or more, if the first host has solicited none, and no
-- socket writes such messages itself
abbrev pub SolicitsSeldom : Host → List Transition → Type 0
SolicitsSeldom first transitions =
    first.slaac ≡ initial_state → IsRegular first → AllByRecursion (λ p. NoSocketSpeaks p.before) transitions
    → (length (solicitations_in first.capabilities.medium transitions) ≤ 3)
    × AreFourSecondsApart (solicitations_in first.capabilities.medium transitions)

abbrev pub SolicitationsAreFew : Type 0
SolicitationsAreFew =
    (first last : Host) (transitions : List Transition) → Run first transitions last → SolicitsSeldom first transitions
