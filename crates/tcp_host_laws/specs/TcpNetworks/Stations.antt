-- A host with its connections, in its run.
use Rattle.std.specs.Prelude.{◌≡◌, List, [], ◌∷◌}
use Rattle.ip_address.specs.declared.cidr.IpCidr.{IpCidr}
use Rattle.host_machine.specs.Context.Host.{SocketSet}
use Rattle.host_machine.specs.Interface.Run.{Transition}
use Rattle.host_machine.specs.Interface.Step.{Act}
use Rattle.tcp_host.specs.Host.{Host as Connections}
use Rattle.tcp_sockets.specs.Polls.{Carrier, state}
use Rattle.tcp_host_laws.specs.Lives.{Life, Event, after_events}
use Rattle.tcp_host_laws.specs.Calls.{Calls}
use Rattle.tcp_host_laws.specs.Turns.{LivesOn}

-- what carries the connections, the connections, and their lives
pub record Station : Type 0 where
  pub carrier : Carrier
  pub connections : Connections
  pub lives : List Life

-- What an owner may do to the sockets: a turn of a host of connections, in which they live on, at these addresses; or a
-- call of a program, for which the sockets stay.
pub data Turn (old new : Station) (before after : SocketSet) : Type 0 where
  Polled : (own : List IpCidr)
      (lived : LivesOn own old.lives (state old.carrier old.connections before)
      (state new.carrier new.connections after)) →
      new.lives ≡ after_events lived.events old.lives → Turn old new before after
  Called : (events : List Event) → Calls old.connections events new.connections → new.carrier ≡ old.carrier →
      new.lives ≡ after_events events old.lives → after ≡ before → Turn old new before after

-- the connections of a host in its run: they stay while the interface works, and where the owner acts it does a turn
pub data Goes : Station → List Transition → Station → Type 0 where
  Stops : {s : Station} → Goes s [] s
  Works : {s last : Station} {p : Transition} {ps : List Transition} → p.acts ≡ [] → Goes s ps last →
      Goes s (p ∷ ps) last
  Acts : {s mid last : Station} {p : Transition} {ps : List Transition} (act : Act) → p.acts ≡ act ∷ [] →
      Turn s mid p.before.sockets p.after.sockets → Goes mid ps last → Goes s (p ∷ ps) last
