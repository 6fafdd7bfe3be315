-- Paths with a smaller MTU, told by routers (RFC 1191, RFC 8201), or by time-outs alone. Segments have 100 octets, and every path carries
-- some of 50.
use Rattle.std.specs.Prelude.{◌≡◌, replicate, true, Some}
use Rattle.tcp_machine.specs.declared.timers.Ending.TheVariants.{Unreachable}
use Rattle.tcp_machine.specs.declared.state.State.TheVariants as state
use Rattle.tcp_machine.specs.Connection.{Connection}
use Rattle.tcp_machine.specs.Opening.{opened, after_arrival}
use Rattle.tcp_machine.specs.Calls.{after_writing}
use Rattle.tcp_machine.specs.Timers.{after_timers}
use Rattle.tcp_machine.specs.Reports.{after_too_long, after_unreachable}
use Rattle.tcp_machine.specs.Examples.Ends.{settings, no_options, ack_segment, syn_segment, after_sending}

abbrev pub opening : Connection
opening = after_sending 0 (opened 0 99 300 20 100 settings)

-- established, with the next number 100 and the peer's 300
abbrev pub connected : Connection
connected =
    after_sending 0
    (after_arrival 50 100 0 true (record (syn_segment 299 (Some 100)) { window = 1000; options = record no_options { mss = Some 100 } })
    opening)

-- two segments are on their way
abbrev pub sending : Connection
sending = after_sending 0 (after_sending 0 (after_writing (replicate 200 7) connected))

-- a router that drops the first says that segments may have 80 octets
abbrev pub told : Connection
told = after_too_long 80 sending

pub record PathsTold : Type 0 where
  pub before : (sending.transmission.mss ≡ 100) × (sending.transmission.nxt ≡ 201)
  pub shorter : told.transmission.mss ≡ 80
  -- all is sent again, at once
  pub again : (told.transmission.nxt ≡ 1) × ((after_sending 1000 told).transmission.nxt ≡ 81)
  -- a message that allows as much as before changes nothing
  pub longer : after_too_long 100 sending ≡ sending
  -- that a path doesn't carry what every path does isn't believed
  pub forged : (after_too_long 8 sending).transmission.mss ≡ 50

-- nobody tells anything, and the time-out ends twice
abbrev pub once_late : Connection
once_late = after_sending 1000000 (after_timers 1000000 sending)

abbrev pub twice_late : Connection
twice_late = after_timers 3000000 once_late

-- the first segment is acknowledged, and what is behind it isn't for two time-outs
abbrev pub carried : Connection
carried = after_arrival 50 100 9000 true (record (ack_segment 300 200) { window = 1000 }) sending

pub record BlackHoles : Type 0 where
  pub first : once_late.transmission.mss ≡ 100
  pub second : twice_late.transmission.mss ≡ 50
  pub sent : (after_sending 3000000 twice_late).transmission.nxt ≡ 51
  -- longer ones are tried again 65,538 octets later
  pub until : twice_late.transmission.path.again_at ≡ 65538
  -- a path that carried a segment of 100 octets is no black hole
  pub carries : carried.transmission.path.carries ≡ true
  pub none : (after_timers 9000000 (after_sending 3000000 (after_timers 3000000 carried))).transmission.mss ≡ 100

pub record Unreachables : Type 0 where
  pub ended : (after_unreachable opening).ending ≡ Some Unreachable
  pub closed : (after_unreachable opening).state ≡ state.Closed
  -- one that is open lives on
  pub stays : after_unreachable sending ≡ sending
