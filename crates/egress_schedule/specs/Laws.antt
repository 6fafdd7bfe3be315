-- What a schedule promises, whatever arrives: no packet waits longer than the patience, the turn comes to each socket
-- that waits, and all that wait do so until one instant.
use Rattle.std.specs.Prelude.{ℕ, ◌≡◌, ◌≢◌, ◌≤◌, ◌<◌, ◌+◌, ◌-◌, ◌⊎◌, nat_lt, Bool, true, false, ℤ, pos, ◌+ℤ◌, List, Some, None, IfSome, if◌then◌else◌}
use Rattle.std.specs.Prelude.{length, map, drop, get_or, Option}
use Rattle.std.specs.List.{filter}
use Rattle.std.specs.Borrow.{Bor}
use Rattle.std.specs.Ordering.{int_cmp, is_le}
use Rattle.ip_address.specs.declared.ip.IpAddress.{IpAddress}
use Rattle.sockets.specs.Kinds.{destinations}
use Rattle.sockets.specs.Raw.{destination_in}
use Rattle.sockets.specs.Source.{is_same}
use Rattle.sockets.specs.declared.socket.SocketOf.{SocketOf}
use Rattle.sockets.specs.declared.socket.SocketOf.TheVariants.{Raw, Icmp, Udp, Tcp}
use Rattle.socket_set.specs.SocketMeta.{Wait, is_permitted}
use Rattle.socket_set.specs.SocketSet.{Sockets, socket_at, wait_of}
use Rattle.egress_schedule.specs.declared.watch.Waiting.{Waiting}
use Rattle.egress_schedule.specs.LongPackets.{has_long, is_long}
use Rattle.egress_schedule.specs.Asides.{is_over, nobody}
use Rattle.egress_schedule.specs.Plan.{Planned, next_in_turn, turn_after, waiting_at, watch_at}
use Rattle.egress_schedule.specs.Queues.{has_packets, lens_to_send}
use Rattle.egress_schedule.specs.Patience.{is_at_end, must_go}
use Rattle.egress_schedule.specs.Passing.{before_first, is_first_for, is_for, with_first_for}
use Rattle.egress_schedule.specs.Rounds.{after_round, before_round, with_long_set_aside, with_packets_brought}
use Rattle.egress_schedule.specs.Runs.{IsGivenUp, IsWaiting, MayGiveUp, Round, StillWaits, WaitsThrough, ended}
use Rattle.egress_schedule.specs.Turns.{after_taking_turns, asks_at, next_to_ask}

-- after a round no socket waits that has waited long enough, for the patience or since its packet has to make room
abbrev pub PatienceEnds : Type 0
PatienceEnds =
    (now : ℤ) (r : Planned (Bor (Unit {0}))) (i : ℕ) →
    IfSome (waiting_at i (after_round now r))
    (λ w. is_at_end r.plan.patience now (must_go now i (after_round now r) w) w ≡ false)

-- a socket with this wait may be asked: it doesn't wait, or the neighbour that it waits for is known, or the wait is over
abbrev pub may_be_asked : (IpAddress → Bool) → ℤ → Wait → Bool
may_be_asked known now None = true
may_be_asked known now (Some wait) = is_permitted (Some wait) (known wait.0) now

-- the interface may begin a long packet of the socket at an index in a round: the packet is the first of its queue then, and
-- the socket may be asked
pub record MayBegin (known : IpAddress → Bool) (now : ℤ) (mtu : ℕ) (is_piece_left : Bool)
    (r : Planned (Bor (Unit {0}))) (i : ℕ) : Type 0 where
  pub there : i < length r.plan.watches
  pub has_wait : i < length r.sockets.waits
  pub is_long : has_long mtu (before_round known now mtu is_piece_left r).sockets i ≡ true
  pub is_asked : may_be_asked known now (wait_of (before_round known now mtu is_piece_left r).sockets i) ≡ true

-- none of the packets that the first n sockets have to send is long, wherever it stands in its queue
abbrev pub NoneIsLong : ℕ → ℕ → Sockets (Bor (Unit {0})) → Type 0
NoneIsLong mtu n s =
    (i : ℕ) → i < n → IfSome (socket_at s i) (λ socket. (j : ℕ) → get_or (lens_to_send socket) j 0 ≤ mtu)

-- the schedule was told of a long packet, or none is
abbrev pub IsTold : ℕ → Planned (Bor (Unit {0})) → Type 0
IsTold mtu r = r.plan.may_have_long ≡ false → NoneIsLong mtu (length r.plan.watches) r.sockets

-- a long packet is begun only where no piece is left, and by one socket in a round; nobody's address is known
abbrev pub LongPacketsApart : Type 0
LongPacketsApart =
    (known : IpAddress → Bool) (now : ℤ) (mtu : ℕ) (is_piece_left : Bool) (r : Planned (Bor (Unit {0}))) (i : ℕ) →
    known nobody ≡ false → IsTold mtu r → MayBegin known now mtu is_piece_left r i →
    (is_piece_left ≡ false) × ((j : ℕ) → MayBegin known now mtu is_piece_left r j → j ≡ i)

-- from the queues of the first n sockets packets were taken at their front, and nothing else happened to them
abbrev pub OnlyTaken : ℕ → Sockets (Bor (Unit {0})) → Sockets (Bor (Unit {0})) → Type 0
OnlyTaken n s s' =
    (i : ℕ) → i < n → IfSome (socket_at s' i)
    (λ left. (had : SocketOf (Bor (Unit {0}))) × (taken : ℕ) × (socket_at s i ≡ Some had)
    × (lens_to_send left ≡ drop taken (lens_to_send had)))

-- a round keeps that the schedule was told, if packets alone were taken from the queues in it
abbrev pub LongPacketsExpected : Type 0
LongPacketsExpected =
    (known : IpAddress → Bool) (now : ℤ) (mtu : ℕ) (is_piece_left : Bool) (r : Planned (Bor (Unit {0})))
    (polled : Sockets (Bor (Unit {0}))) →
    IsTold mtu r → OnlyTaken (length r.plan.watches) (before_round known now mtu is_piece_left r).sockets polled →
    IsTold mtu (after_round now (record { plan = (before_round known now mtu is_piece_left r).plan; sockets = polled }))

-- a packet that goes on waiting in a round does so since the same moment as before, or it is given up in it: after the
-- patience, and before that only where others wait behind it, or its socket just gave up that neighbour
abbrev pub WaitsGoOn : Type 0
WaitsGoOn =
    (p : Round) (r : Planned (Bor (Unit {0}))) (i : ℕ) (d : IpAddress) (since : ℤ) → d ≢ nobody →
    i < length p.polled.waits → IsWaiting i d since r → StillWaits i d p r →
    IsWaiting i d since (ended p r) ⊎ (IsGivenUp i d p r × MayGiveUp i d since p r)

-- a packet that has waited for the patience, through as many rounds as there were, is given up in the first round after that
abbrev pub PatienceIsKept : Type 0
PatienceIsKept =
    (i : ℕ) (d : IpAddress) (since : ℤ) (r last : Planned (Bor (Unit {0}))) (rounds : List Round) (p : Round) → d ≢ nobody →
    r.plan.patience ≢ 0 → IsWaiting i d since r → WaitsThrough i d r rounds last → i < length p.polled.waits →
    StillWaits i d p last → is_le (int_cmp (since +ℤ pos r.plan.patience) p.now) ≡ true → IsGivenUp i d p last

-- how many of n indices stand before one, from the turn on
abbrev pub ahead : ℕ → ℕ → ℕ → ℕ
ahead n turn i = if nat_lt i turn then i + (n - turn) else i - turn

-- one that has the property has its turn, or fewer stand before it afterwards; so it has its turn after at most n turns
-- at which it has the property
abbrev pub TurnsCome : Type 0
TurnsCome =
    (p : ℕ → Bool) (n turn i : ℕ) → i < n → turn ≤ n → p i ≡ true →
    (next_in_turn p turn n ≡ i) ⊎ (ahead n (turn_after n turn (next_in_turn p turn n)) i < ahead n turn i)

-- a socket that asks again has its turn in the round, or fewer stand before it from the turn on afterwards
abbrev pub AskersHaveTurns : Type 0
AskersHaveTurns =
    (now : ℤ) (r : Planned (Bor (Unit {0}))) (i : ℕ) → i < length r.plan.watches →
    r.plan.discovery_turn ≤ length r.plan.watches → asks_at now r i ≡ true →
    (next_to_ask now r ≡ i)
    ⊎ (ahead (length r.plan.watches) (after_taking_turns now r).plan.discovery_turn i
    < ahead (length r.plan.watches) r.plan.discovery_turn i)

-- it is written down of a socket that waits whom it waits for, and until when
abbrev pub IsWritten : ℕ → Planned (Bor (Unit {0})) → Type 0
IsWritten i r = IfSome (waiting_at i r) (λ w. wait_of r.sockets i ≡ Some (w.neighbor, w.until))

-- a socket waits for a neighbour that is known
abbrev pub WaitsForKnown : (IpAddress → Bool) → Wait → Type 0
WaitsForKnown known None = ⊥
WaitsForKnown known (Some wait) = known wait.0 ≡ true

-- where a socket has its turn to ask in a round, no socket before it that has something to send is asked, whether it waited
-- or not, but one whose neighbour is known by now, or whose first packet is for one that is; nobody's address is known
abbrev pub TurnsAreKept : Type 0
TurnsAreKept =
    (known : IpAddress → Bool) (now : ℤ) (mtu : ℕ) (is_piece_left : Bool) (r : Planned (Bor (Unit {0}))) (i : ℕ) →
    let asker = next_to_ask now (with_long_set_aside mtu now is_piece_left (with_packets_brought known now r)) in
    let last = (before_round known now mtu is_piece_left r).sockets in
    known nobody ≡ false → r.plan.is_waiting ≡ true → IsWritten i r → i < length r.sockets.waits →
    i < asker → asker < length r.plan.watches → has_packets (socket_at r.sockets i) ≡ true →
    may_be_asked known now (wait_of last i) ≡ true →
    WaitsForKnown known (wait_of last i) ⊎ (is_first_for known (socket_at last i) ≡ true)

-- where none has the property, the turn stays; and it is always one of n indices, or the one after them
abbrev pub TurnsStay : Type 0
TurnsStay = (n turn had : ℕ) → turn ≤ n → (n ≤ had → turn_after n turn had ≡ turn) × (turn_after n turn had ≤ n)

-- after a round all sockets that wait may ask again at one instant
abbrev pub WaitsEndTogether : Type 0
WaitsEndTogether =
    (now : ℤ) (r : Planned (Bor (Unit {0}))) (i j : ℕ) →
    IfSome (waiting_at i (after_round now r)) (λ w. IfSome (waiting_at j (after_round now r)) (λ x. w.until ≡ x.until))

-- it is known of the socket at an index between rounds that it waits for a neighbour that isn't known, by its own wait, which
-- isn't over
pub record WaitsInVain (known : IpAddress → Bool) (now : ℤ) (i : ℕ) (w : Waiting) (r : Planned (Bor (Unit {0}))) : Type 0 where
  pub is_noted : (watch_at i r).waiting ≡ Some w
  pub is_set : wait_of r.sockets i ≡ Some (w.neighbor, w.until)
  pub is_own : (watch_at i r).set_aside ≡ None
  pub is_on : is_over now w ≡ false
  pub is_unknown : known w.neighbor ≡ false
  pub is_somebody : is_same w.neighbor nobody ≡ false
  pub is_watched : i < length r.plan.watches
  pub has_wait : i < length r.sockets.waits

-- a socket has a packet to send for a neighbour that is known
abbrev pub HasKnown : (IpAddress → Bool) → SocketOf (Bor (Unit {0})) → Type 0
HasKnown known s = before_first known (destinations s) < length (destinations s)

-- a packet to a neighbour that is known goes in its round, whatever waits before it: its socket may be asked, and it is the
-- first there; but for one that is longer than the link's packets, and not in its turn
abbrev pub KnownPass : Type 0
KnownPass =
    (known : IpAddress → Bool) (now : ℤ) (mtu : ℕ) (is_piece_left : Bool) (r : Planned (Bor (Unit {0}))) (i : ℕ)
    (w : Waiting) (s : SocketOf (Bor (Unit {0}))) →
    r.plan.is_waiting ≡ true → WaitsInVain known now i w r → socket_at r.sockets i ≡ Some s → HasKnown known s →
    is_long mtu (Some (with_first_for known s)) ≡ false →
    let last = (before_round known now mtu is_piece_left r).sockets in
    (wait_of last i ≡ None) × (socket_at last i ≡ Some (with_first_for known s))

-- the octets of each packet that a socket has to send, in order, with its destination
abbrev pub packets_of : {L : Type 0} → SocketOf L → List (Option IpAddress × List ℕ)
packets_of (Raw s) = map (λ p. (destination_in s p.1, p.1)) s.tx.packets
packets_of (Icmp s) = map (λ p. (Some p.0, p.1)) s.tx.packets
packets_of (Udp s) = map (λ p. (Some p.0.addr, p.1)) s.tx.packets
packets_of (Tcp s) = map (λ p. (Some p.0.remote.addr, p.1)) s.tx.packets

-- those for an address
abbrev pub packets_for : IpAddress → List (Option IpAddress × List ℕ) → List (Option IpAddress × List ℕ)
packets_for d ps = filter (λ p. is_for (is_same d) p.0) ps

-- where a packet of a socket comes forward, those to each address keep their order
abbrev pub OrderIsKept : Type 0
OrderIsKept =
    (p : IpAddress → Bool) (s : SocketOf (Bor (Unit {0}))) (d : IpAddress) →
    packets_for d (packets_of (with_first_for p s)) ≡ packets_for d (packets_of s)
