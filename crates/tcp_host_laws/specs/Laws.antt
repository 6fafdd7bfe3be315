-- What the connections of a host do in a turn.
use Rattle.std.specs.Prelude.{ℕ, Bool, List}
use Rattle.ip_address.specs.declared.ip.IpAddress.{IpAddress}
use Rattle.ip_address.specs.declared.cidr.IpCidr.{IpCidr}
use Rattle.tcp_host.specs.Host.{Host}
use Rattle.tcp_sockets.specs.Polls.{State, Polls}
use Rattle.tcp_host_laws.specs.Lives.{Life, Event, after_events, Tells}
use Rattle.tcp_host_laws.specs.Calls.{Calls}
use Rattle.tcp_host_laws.specs.Turns.{LivesOn}

-- after a call the lives tell of the host, with what the call's connections did
abbrev pub CallsLiveOn : Type 0
CallsLiveOn = (ls : List Life) (old new : Host) (events : List Event) →
    Tells ls old → Calls old events new → Tells (after_events events ls) new

-- whatever is told of next hops
abbrev pub Whatever : IpAddress → Bool → Type 0
Whatever a known = Unit {0}

-- after a poll they do, with what came and expired
abbrev pub PollsLiveOn : Type 0 → Type 0
PollsLiveOn L = (now : ℕ) (own : List IpCidr) (ls : List Life) (old new : State L) →
    Tells ls old.host → Polls Whatever now own old new → LivesOn own ls old new
