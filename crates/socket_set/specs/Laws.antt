-- What an `add` and a `remove` leave as it was.
use Rattle.std.specs.Prelude.{◌≡◌, ◌≢◌, ℕ, None}
use Rattle.sockets.specs.declared.socket.SocketOf.{SocketOf}
use Rattle.socket_set.specs.SocketSet.{Sockets, first_free, set_after_add, socket_at, wait_of, with_place}

-- an index has the same socket in two sets, or none, and that socket's wait
pub record IsSameAt {L : Type 0} (old new : Sockets L) (i : ℕ) : Type 0 where
  pub socket : socket_at new i ≡ socket_at old i
  pub wait : wait_of new i ≡ wait_of old i

-- a socket is added: each other index than its own keeps what it has
abbrev pub OthersStayAtAdd : Type 0 → Type 0
OthersStayAtAdd L = (s : Sockets L) (socket : SocketOf L) (room i : ℕ) →
    i ≢ first_free s.places → IsSameAt s (set_after_add s socket room) i

-- a socket is removed: each other index keeps what it has
abbrev pub OthersStayAtRemove : Type 0 → Type 0
OthersStayAtRemove L = (s : Sockets L) (index i : ℕ) → i ≢ index → IsSameAt s (with_place s index None) i
