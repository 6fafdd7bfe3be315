-- Marks of the places of a set that may have a busy socket: a bit a place, in words of 64.
use Rattle.std.specs.Prelude.{◌≡◌, ℕ, ◌<◌, ◌/◌, ◌%◌, List, get_or, None, IfSome}
use Rattle.std.specs.Int.{bit_at}
use Rattle.sockets.specs.Kinds.{poll_at}
use Rattle.sockets.specs.declared.poll_at.PollAt.TheVariants.{Ingress}
use Rattle.socket_set.specs.SocketSet.{Sockets, socket_at, wait_at}

-- the mark of a place: 1 where it is set, 0 where it is clear
abbrev pub mark_of : List ℕ → ℕ → ℕ
mark_of words i = bit_at (get_or words (i / 64) 0) (i % 64)

-- a place has a mark, as the first 1,024 have, and it is clear
pub record IsClear (words : List ℕ) (i : ℕ) : Type 0 where
  pub marked : i < 1024
  pub clear : mark_of words i ≡ 0

-- nothing is to be asked of the socket at an index, if there is one: it has nothing to send, now or at a later
-- moment, and doesn't wait
abbrev pub IsIdle : {L : Type 0} → Sockets L → ℕ → Type 0
IsIdle set i = IfSome (socket_at set i) (λ socket. (poll_at socket ≡ Ingress) × (wait_at set i ≡ None))

-- the law of marks: a place whose mark is clear is idle
abbrev pub AreTrue : {L : Type 0} → List ℕ → Sockets L → Type 0
AreTrue words set = (i : ℕ) → IsClear words i → IsIdle set i
