-- How many octets a path carries (RFC 9293 3.7.5). A router that has to drop a packet for its length says how long one may be (RFC
-- 1191, RFC 8201). Where such messages are lost the path is a black hole for longer packets, and time-outs alone tell it (RFC 2923 2.1,
-- RFC 4821 7.7).
use Rattle.std.specs.Prelude.{ℕ, ◌+◌, ◌*◌, min, max, nat_lt, nat_le, ◌==◌, ◌&&◌, not, Bool, true, false, Option, Some, None, is_none}
use Rattle.std.specs.Prelude.{if◌then◌else◌}
use Rattle.tcp_machine.specs.declared.path.Path.{Path}

-- At first segments have what both ends let them have. They are never shortened below what every path carries (RFC 9293 3.7.1)
abbrev pub new_path : (default mss : ℕ) → Path
new_path default mss = record { most = mss; least = min default mss; tried = None; carries = false; again_at = 0 }

-- A segment of the most octets is tried: the position after it is kept until it is acknowledged
abbrev pub is_tried : (mss len : ℕ) → Path → Bool
is_tried mss len p = not p.carries && is_none p.tried && nat_lt p.least mss && (len == mss)

abbrev pub path_sent : (mss len end : ℕ) → Path → Path
path_sent mss len end p = if is_tried mss len p then record p { tried = Some end } else p

abbrev pub is_reached : Option ℕ → ℕ → Bool
is_reached None a = false
is_reached (Some end) a = nat_le end a

-- then the path carries such segments, whatever is lost later
abbrev pub path_acknowledged : (a : ℕ) → Path → Path
path_acknowledged a p = if is_reached p.tried a then record p { tried = None; carries = true } else p

-- Two time-outs in a row, before the path is known to carry such a segment: it may be a black hole
abbrev pub is_black_hole : (tries mss : ℕ) → Path → Bool
is_black_hole tries mss p = nat_le 1 tries && not p.carries && nat_lt p.least mss

-- So segments have the least, until as many octets more are acknowledged as were before, and 65,536: then the most are tried again
abbrev pub path_shortened : (una : ℕ) → Path → Path
path_shortened una p = record p { tried = None; again_at = 2 * una + 65536 }

abbrev pub mss_acknowledged : (a mss : ℕ) → Path → ℕ
mss_acknowledged a mss p = if nat_lt mss p.most && nat_le p.again_at a then p.most else mss

-- A router tells how many octets a segment may have. That it has less than every path carries isn't believed (RFC 8201 4)
abbrev pub size_told : (size : ℕ) → Path → ℕ
size_told size p = max p.least size

abbrev pub path_told : (size : ℕ) → Path → Path
path_told size p = record p { most = size_told size p; tried = None }
