-- What connections do whenever their owner polls them.
use Rattle.std.specs.Prelude.{ℕ, ℤ, ◌≡◌, pos, min, Option}
use Rattle.std.specs.Option.{option_map}
use Rattle.iface_host.specs.Streams.{PollsStreams}
use Rattle.iface_host.specs.declared.host.IfaceHost.{IfaceHost}
use Rattle.tcp_host.specs.Turns.{IsPollAt}
use Rattle.iface_streams.specs.Reports.{HearsAll, Loses}
use Rattle.iface_streams.specs.declared.streams.Streams.{Streams}

-- They hear of paths and peers: four messages at most, as many as a host keeps, and whom it gave up. Then they are polled over the
-- host's addresses and sockets
pub record Polls (now : ℤ) (s s' : Streams) (old new : IfaceHost) : Type 0 where
  pub micros : ℕ
  pub is_now : pos micros ≡ now
  pub heard : Streams
  pub lost : Streams
  pub between : IfaceHost
  pub before : IfaceHost
  pub hears : HearsAll micros 4 s heard old between
  pub loses : Loses micros heard lost between before
  pub polled : PollsStreams now lost.carrier s'.carrier lost.connections s'.connections before new
  pub rest : s' ≡ record lost { carrier = s'.carrier; connections = s'.connections }

-- when something is due first, up to the last moment
pub record IsDue (s : Streams) (at : Option ℤ) : Type 0 where
  pub due : Option ℕ
  pub is_due : IsPollAt s.connections due
  pub told : at ≡ option_map (λ instant. pos (min instant 0x4000_0000_0000_0000)) due
