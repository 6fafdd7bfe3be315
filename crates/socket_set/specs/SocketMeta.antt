-- The wait of a socket: the neighbour that one of its packets needs, and the moment until which it
-- is not asked for again.
use Rattle.std.specs.Prelude.{◌≡◌, ℤ, Bool, false, true, ◌&&◌, ◌||◌, if◌then◌else◌, Option, Some, None, refl}
use Rattle.std.specs.Ordering.{int_cmp, int_eq, is_ge}
use Rattle.ip_address.specs.declared.ip.IpAddress.{IpAddress}
use Rattle.sockets.specs.Source.{is_same}
use Rattle.sockets.specs.declared.poll_at.PollAt.{PollAt}
use Rattle.sockets.specs.declared.poll_at.PollAt.TheVariants.{Time}
use Rattle.socket_set.specs.declared.socket_meta.NeighborState.{NeighborState}
use Rattle.socket_set.specs.declared.socket_meta.NeighborState.TheVariants.{Active, Waiting}

-- the neighbour that a socket waits for, and until when; none where it does not wait
abbrev pub Wait : Type 0
Wait = Option (IpAddress × ℤ)

-- it waits for the next hop to this destination, until this instant
abbrev pub is_wait : IpAddress → ℤ → Wait → Bool
is_wait destination until None = false
is_wait destination until (Some wait) = int_eq wait.1 until && is_same destination wait.0

-- known is what is told of the neighbour that is waited for
abbrev pub IsAnswerFor : (IpAddress → Bool → Type 0) → Wait → Bool → Type 0
IsAnswerFor told None known = Unit {0}
IsAnswerFor told (Some wait) known = told wait.0 known

-- whether the socket may send at t: it doesn't wait, the neighbour is known, or the end has come
abbrev pub is_permitted : Wait → Bool → ℤ → Bool
is_permitted None known t = true
is_permitted (Some wait) known t = known || is_ge (int_cmp t wait.1)

-- the wait after the socket was asked: only a known neighbour ends it
abbrev pub after_asking : Wait → Bool → Wait
after_asking None known = None
after_asking (Some wait) known = if known then None else Some wait

-- when the socket wants to be asked: by its own answer where it may send, else at the end of the wait
abbrev pub poll_at : Wait → Bool → ℤ → PollAt → PollAt
poll_at None known t own = own
poll_at (Some wait) known t own = if is_permitted (Some wait) known t then own else Time wait.1

-- the wait that a state writes down, and back
abbrev pub wait_of : NeighborState → Wait
wait_of Active = None
wait_of (Waiting neighbor silent_until) = Some (neighbor, silent_until)

abbrev pub state_of : Wait → NeighborState
state_of None = Active
state_of (Some wait) = Waiting wait.0 wait.1

pub state_of-wait_of : (s : NeighborState) → state_of (wait_of s) ≡ s
state_of-wait_of Active = refl
state_of-wait_of (Waiting neighbor silent_until) = refl
