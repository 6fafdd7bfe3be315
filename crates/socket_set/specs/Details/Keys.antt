-- Keys of the places of a set: what is known of the port of a place's socket without a look at it,
-- as a number of 16 bits.
use Rattle.std.specs.Prelude.{◌≡◌, ◌≢◌, ◌==◌, ◌||◌, ℕ, Bool, cond, List, get_or, Option, Some, None, IfSome}
use Rattle.sockets.specs.Kinds.{own_port}
use Rattle.socket_set.specs.SocketSet.{Sockets, socket_at}

-- the key of a socket: its own port; 65,535 where its kind has none, and where it is bound to none,
-- so that it is never 0
abbrev pub key_of : Option ℕ → ℕ
key_of None = 65535
key_of (Some port) = cond (port == 0) 65535 port

-- the key of a place; 0 where nothing is known of it
abbrev pub key_at : List ℕ → ℕ → ℕ
key_at keys i = get_or keys i 0

-- a place that may have a socket of this key: nothing is known of it, or it has the key
abbrev pub is_candidate : List ℕ → ℕ → ℕ → Bool
is_candidate keys key i = (key_at keys i == 0) || (key_at keys i == key)

-- the law of keys: each that isn't 0 is that of its place's socket, if there is one
abbrev pub AreKeysOf : {L : Type 0} → List ℕ → Sockets L → Type 0
AreKeysOf keys set = (i : ℕ) →
    key_at keys i ≢ 0 → IfSome (socket_at set i) (λ socket. key_at keys i ≡ key_of (own_port socket))

-- each socket is of a kind that has ports
abbrev pub AllHavePorts : {L : Type 0} → Sockets L → Type 0
AllHavePorts set = (i : ℕ) → IfSome (socket_at set i) (λ socket. own_port socket ≢ None)
