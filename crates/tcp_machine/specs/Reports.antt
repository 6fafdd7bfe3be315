-- What others say of a connection's packets, by messages of ICMP (RFC 9293 3.9.2.2, RFC 5927). The host has checked that a message
-- quotes a segment that isn't acknowledged.
use Rattle.std.specs.Prelude.{ℕ, nat_lt, ◌&&◌, Bool, None, if◌then◌else◌}
use Rattle.tcp_machine.specs.declared.timers.Ending.TheVariants.{Unreachable}
use Rattle.tcp_machine.specs.Path.{size_told, path_told}
use Rattle.tcp_machine.specs.States.{is_opening, sends_octets}
use Rattle.tcp_machine.specs.Connection.{Connection}
use Rattle.tcp_machine.specs.Arrivals.{aborted}

-- A router dropped a segment for its length: segments may have so many octets. It counts where they had more
abbrev pub is_too_long : (size : ℕ) → Connection → Bool
is_too_long size c = sends_octets c.state && nat_lt (size_told size c.transmission.path) c.transmission.mss

-- Then all that isn't acknowledged is sent again at once, in such segments, and none of it is measured. The network isn't congested
-- (RFC 1191 6.5, RFC 8201 5.4)
abbrev pub after_too_long : (size : ℕ) → Connection → Connection
after_too_long size c =
    if is_too_long size c
    then record c {
      transmission = record c.transmission {
        nxt = c.transmission.sender.una;
        mss = size_told size c.transmission.path;
        path = path_told size c.transmission.path;
      };
      timers = record c.timers { measured = None };
    }
    else c

-- The peer can't be reached: that ends a connection which is being opened. One that is open lives on, since such a message may be
-- forged, or its cause pass (RFC 5461 4, RFC 5927 5.2)
abbrev pub after_unreachable : Connection → Connection
after_unreachable c = if is_opening c.state then aborted Unreachable c else c
