-- Rounds one after the other: in each the schedule prepares the sockets, the interface polls, and the schedule ends the
-- round.
use Rattle.std.specs.Prelude.{ℕ, ℤ, pos, ◌+ℤ◌, ◌≡◌, ◌<◌, ◌⊎◌, Bool, true, List, [], ◌∷◌, length, is_some, Option, Some, None}
use Rattle.std.specs.Borrow.{Bor}
use Rattle.std.specs.Option.{option_map}
use Rattle.std.specs.Ordering.{int_cmp, is_gt, is_le}
use Rattle.net_base.specs.Time.{silence_from}
use Rattle.ip_address.specs.declared.ip.IpAddress.{IpAddress}
use Rattle.sockets.specs.Source.{is_same}
use Rattle.socket_set.specs.SocketSet.{Sockets, socket_at, wait_of}
use Rattle.egress_schedule.specs.declared.watch.Waiting.{Waiting}
use Rattle.egress_schedule.specs.Asides.{nobody}
use Rattle.egress_schedule.specs.Plan.{Planned, watch_at}
use Rattle.egress_schedule.specs.Passing.{without_packet_for}
use Rattle.egress_schedule.specs.Queues.{has_others}
use Rattle.egress_schedule.specs.Rounds.{after_round, before_round}

-- an address is this one, if there is one
abbrev pub IsSameAs : IpAddress → Option IpAddress → Type 0
IsSameAs d None = ⊥
IsSameAs d (Some unreachable) = is_same unreachable d ≡ true

-- a round: who is known in it, its moment, the length of the link's packets, whether a piece is left, and the sockets as the
-- interface left them
pub record Round : Type 0 where
  pub known : IpAddress → Bool
  pub now : ℤ
  pub mtu : ℕ
  pub is_piece_left : Bool
  pub polled : Sockets (Bor (Unit {0}))

abbrev pub prepared : Round → Planned (Bor (Unit {0})) → Planned (Bor (Unit {0}))
prepared p r = before_round p.known p.now p.mtu p.is_piece_left r

abbrev pub ended : Round → Planned (Bor (Unit {0})) → Planned (Bor (Unit {0}))
ended p r = after_round p.now (record { plan = (prepared p r).plan; sockets = p.polled })

-- the socket at an index isn't asked in a round: it waits for nobody
abbrev pub IsUnasked : ℕ → Round → Planned (Bor (Unit {0})) → Type 0
IsUnasked i p r = wait_of (prepared p r).sockets i ≡ Some (nobody, silence_from p.now)

-- another packet of the socket at an index passes in a round: the socket may be asked, and is still there
pub record IsPassed (i : ℕ) (p : Round) (r : Planned (Bor (Unit {0}))) : Type 0 where
  pub is_free : wait_of (prepared p r).sockets i ≡ None
  pub is_there : is_some (socket_at p.polled i) ≡ true

-- the packet of the socket at an index goes on waiting for a neighbour in a round: the socket isn't asked, so the interface
-- leaves it alone; or it may be asked, and then waits for that neighbour until a later moment; or another one passes
pub data StillWaits (i : ℕ) (d : IpAddress) (p : Round) (r : Planned (Bor (Unit {0}))) : Type 0 where
  Unasked : IsUnasked i p r → wait_of p.polled i ≡ Some (nobody, silence_from p.now) → StillWaits i d p r
  Asked : (until : ℤ) → (IsUnasked i p r → ⊥) → wait_of p.polled i ≡ Some (d, until) →
      is_gt (int_cmp until p.now) ≡ true → StillWaits i d p r
  Passed : IsPassed i p r → StillWaits i d p r

-- between rounds it is known of the socket at an index that it waits for a neighbour, and since when
pub record IsWaiting (i : ℕ) (d : IpAddress) (since : ℤ) (r : Planned (Bor (Unit {0}))) : Type 0 where
  pub waiting : Waiting
  pub is_noted : (watch_at i r).waiting ≡ Some waiting
  pub for_whom : waiting.neighbor ≡ d
  pub since_when : waiting.since ≡ since
  pub is_set : wait_of r.sockets i ≡ Some (d, waiting.until)
  pub is_own : (watch_at i r).set_aside ≡ None
  pub is_watched : i < length r.plan.watches
  pub has_wait : i < length r.sockets.waits

-- the first packet of the socket at an index for a neighbour was given up in a round: it is gone, and the others are there as
-- they were
abbrev pub IsGivenUp : ℕ → IpAddress → Round → Planned (Bor (Unit {0})) → Type 0
IsGivenUp i d p r = socket_at (ended p r).sockets i ≡ option_map (without_packet_for d) (socket_at p.polled i)

-- why a packet that has waited for a neighbour since a moment is given up in a round: for the patience, or since others wait
-- behind it, or since its socket just gave up that neighbour
abbrev pub MayGiveUp : ℕ → IpAddress → ℤ → Round → Planned (Bor (Unit {0})) → Type 0
MayGiveUp i d since p r =
    (is_le (int_cmp (since +ℤ pos (prepared p r).plan.patience) p.now) ≡ true)
    ⊎ ((has_others (socket_at p.polled i) ≡ true) ⊎ IsSameAs d (watch_at i (prepared p r)).unreachable)

-- what the owner does between two rounds leaves the schedule as it is, but for what it tells of long packets, and the wait
-- of the socket at an index, which is still there
pub record IsLeft (i : ℕ) (r next : Planned (Bor (Unit {0}))) : Type 0 where
  pub watches : next.plan.watches ≡ r.plan.watches
  pub patience : next.plan.patience ≡ r.plan.patience
  pub wait : wait_of next.sockets i ≡ wait_of r.sockets i
  pub waits : length next.sockets.waits ≡ length r.sockets.waits

-- in each of these rounds, one after the other, the packet of the socket at an index goes on waiting for a neighbour, and
-- isn't given up
pub data WaitsThrough (i : ℕ) (d : IpAddress) : Planned (Bor (Unit {0})) → List Round → Planned (Bor (Unit {0})) → Type 0 where
  Ends : (r : Planned (Bor (Unit {0}))) → WaitsThrough i d r [] r
  Then : (r : Planned (Bor (Unit {0}))) (p : Round) (rounds : List Round) (next last : Planned (Bor (Unit {0}))) →
      i < length p.polled.waits → StillWaits i d p r → (IsGivenUp i d p r → ⊥) → IsLeft i (ended p r) next →
      WaitsThrough i d next rounds last → WaitsThrough i d r (p ∷ rounds) last
