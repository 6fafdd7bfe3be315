-- A socket that offers nothing before the instant that it names.
use Rattle.std.specs.Prelude.{◌≡◌, ℤ, pos, ◌≤ℤ◌, ◌<ℤ◌, [], ◌∷◌, Option, Some, None}
use Rattle.ip_address.specs.declared.ip.IpAddress.{IpAddress}
use Rattle.sockets.specs.Kinds.{offered_packet, socket_after_offer}
use Rattle.sockets.specs.Kinds as socket
use Rattle.host_machine.specs.Context.Host.{Socket}
use Rattle.host_machine.specs.Sockets.Polling.{instant_of}

-- before the end, if there is one
abbrev pub IsBefore : ℤ → Option ℤ → Type 0
IsBefore s None = Unit {0}
IsBefore s (Some end) = s <ℤ end

-- from t0 until the end a socket that is asked offers nothing and stays unchanged
abbrev pub IsQuietUntil : (IpAddress → Option IpAddress) → Socket → (t0 : ℤ) → (end : Option ℤ) → Type 0
IsQuietUntil source s t0 end = (t : ℤ) →
    t0 ≤ℤ t → IsBefore t end → (offered_packet t source s ≡ None) × (socket_after_offer t source s ≡ s)

-- each socket is quiet until the instant that it names itself
abbrev pub SocketsAreQuiet : Type 0
SocketsAreQuiet = (source : IpAddress → Option IpAddress) (s : Socket) (t0 : ℤ) →
    pos 0 ≤ℤ t0 → IsQuietUntil source s t0 (instant_of (socket.poll_at s))
