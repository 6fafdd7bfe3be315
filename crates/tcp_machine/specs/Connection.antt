-- One connection (RFC 9293 3.3.1). Instants and spans are in microseconds; SYN is at position 0 of a direction.
use Rattle.std.specs.Prelude.{ℕ, Bool, List, Option}
use Rattle.net_base.specs.declared.assembler.Range.{Range}
use Rattle.tcp_machine.specs.declared.state.State.{State}
use Rattle.tcp_machine.specs.Sending.{Sender}
use Rattle.tcp_machine.specs.Receiving.{Receiver}
use Rattle.tcp_machine.specs.declared.settings.Settings.{Settings}
use Rattle.tcp_machine.specs.declared.timers.Timers.{Timers}
use Rattle.tcp_machine.specs.declared.timers.Owed.{Owed}
use Rattle.tcp_machine.specs.declared.timers.Pending.{Pending}
use Rattle.tcp_machine.specs.declared.timers.Ending.{Ending}
use Rattle.tcp_machine.specs.declared.estimator.Estimator.{Estimator}
use Rattle.tcp_machine.specs.declared.congestion.Congestion.{Congestion}
use Rattle.tcp_machine.specs.declared.path.Path.{Path}

-- how often a segment is sent again before the connection is given up, where no time-out is set
abbrev pub most_tries : ℕ
most_tries = 12

-- what a connection sends, and how far it may
pub record Transmission : Type 0 where
  pub sender : Sender
  -- SND.NXT: the position to be sent next. It goes back when a time-out ends
  pub nxt : ℕ
  -- the edge of the window that the peer told last, and how large its window was at most
  pub told_edge : ℕ
  pub largest_window : ℕ
  -- the position and the acknowledgement of the segment that told it: SND.WL1, SND.WL2
  pub wl1 : ℕ
  pub wl2 : ℕ
  -- by how many bits the peer's windows are scaled, the most octets of a segment to it, and what is known of the path
  pub scale : ℕ
  pub mss : ℕ
  pub path : Path
  -- what the peer's selective acknowledgements told, and the position after what was sent again in the recovery that they guide
  pub told : List Range
  pub resent : ℕ

-- what a connection receives, and what it told of that
pub record Reception : Type 0 where
  pub receiver : Receiver
  -- the right edge of the windows told so far: it never goes back (RFC 9293 3.8.6)
  pub promised : ℕ
  -- by how many bits the own windows are scaled
  pub scale : ℕ
  pub owed : Owed
  -- the octets in order that arrived since an acknowledgement was sent last
  pub unacknowledged : ℕ
  -- whether the peer's SYN permitted selective acknowledgements (RFC 2018 2)
  pub sack_permitted : Bool
  -- where the octets begin that arrived last beyond a gap
  pub latest : ℕ

pub record Connection : Type 0 where
  pub state : State
  -- whether this side opened it (RFC 9293 3.10.1)
  pub is_active : Bool
  -- ISS and IRS
  pub local : ℕ
  pub remote : ℕ
  pub settings : Settings
  pub transmission : Transmission
  pub reception : Reception
  pub estimator : Estimator
  pub congestion : Congestion
  pub timers : Timers
  pub pending : Pending
  pub ending : Option Ending
