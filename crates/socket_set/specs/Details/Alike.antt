-- Waits for one destination.
use Rattle.std.specs.Prelude.{ℕ, ℤ, Bool, ◌==◌, ◌&&◌, if◌then◌else◌, Option, Some, None}
use Rattle.std.specs.Ordering.{int_cmp, is_lt}
use Rattle.ip_address.specs.Ip.{address_key}
use Rattle.ip_address.specs.declared.ip.IpAddress.{IpAddress}
use Rattle.socket_set.specs.SocketMeta.{Wait}
use Rattle.socket_set.specs.SocketSet.{Sockets, wait_of}

-- whether two addresses are the same: of one family, with one number
abbrev pub is_same : IpAddress → IpAddress → Bool
is_same a b = ((address_key a).0 == (address_key b).0) && ((address_key a).1 == (address_key b).1)

-- the end of a wait, if another wait is for the same neighbour, and that end hasn't come at t
abbrev pub alike_until : (wait other : Wait) → ℤ → Option ℤ
alike_until None other t = None
alike_until (Some wait) None t = None
alike_until (Some wait) (Some other) t = if is_lt (int_cmp t wait.1) && is_same wait.0 other.0 then Some wait.1 else None

-- until when the socket at an index waits, if it waits for the neighbour that the one at another index waits for, and
-- that isn't over at t
abbrev pub waits_like : {L : Type 0} → Sockets L → (i other : ℕ) → ℤ → Option ℤ
waits_like s i other t = alike_until (wait_of s i) (wait_of s other) t
