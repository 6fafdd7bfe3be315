-- Sockets that are passed, since they wait for the destination that one before them waits for.
use Rattle.std.proofs.Common.{◌≡◌, ℕ, ◌+◌, ◌<◌, Bool, true, false, List, Option, Some, None, refl, sym, ap, ◌∙◌, subst, ◌⊎◌, inl, inr, arith}
use Rattle.std.proofs.lemmas.Bool.{cases_lt}
use Rattle.std.specs.Prelude.{ℤ, ◌≤◌, IfSome, is_some, length, slice_get, Ok, Err}
use Rattle.std.specs.Option.{option_and_then}
use Rattle.net_base.specs.Device.{Event}
use Rattle.fragmentation.specs.Slots.{Slots}
use Rattle.ip_address.specs.declared.ip.IpAddress.{IpAddress}
use Rattle.sockets.specs.declared.poll_at.PollAt.{PollAt}
use Rattle.sockets.specs.Kinds as kinds
use Rattle.socket_set.specs.Details.Alike.{waits_like}
use Rattle.socket_set.specs.Details.Busy.{IsIdle}
use Rattle.socket_set.specs.SocketMeta.{Wait, IsAnswerFor, after_asking, is_permitted, poll_at}
use Rattle.socket_set.specs.SocketSet.{socket_at, wait_at, wait_of}
use Rattle.socket_set.proofs.WaitLemmas.{alike}
use Rattle.host_machine.specs.declared.results.Turn.{Turn}
use Rattle.host_machine.specs.declared.results.Turn.TheVariants.{Idle}
use Rattle.host_machine.specs.Context.Note.{Note}
use Rattle.host_machine.specs.Context.Host.{Host, Socket, SocketSet, Storage}
use Rattle.host_machine.specs.Packet.Packet.{Packet}
use Rattle.host_machine.specs.Send.Hops.{HasNeighbor, IsNextHop, OfNoHost, OfHost, OnLink, ByRouter}
use Rattle.host_machine.specs.Send.Outcome.{Outcome}
use Rattle.host_machine.specs.Sockets.Polling.{SocketDue, instant_of}
use Rattle.host_machine.specs.Sockets.Turns.{Serves, Free, Waits, Served, Silent, Refused, Sent, turn_of, with_socket}
use Rattle.host_machine.specs.Interface.Due.{IsLeast, earlier_of}
use Rattle.host_machine.proofs.Interface.EarliestInstant.{below_more, socket_least}
use Rattle.iface_context.specs.declared.context.Context.{Context}
use Rattle.iface_context.specs.Stands.{host_in}
use Rattle.iface_sockets.specs.Polling.{DueBefore}
use Rattle.iface_sockets.specs.Turns.{HasIdleTurn, WaitsInVain}
use Rattle.iface_sockets.proofs.SocketTurns.{decided_wait, idle_turn, waits_on}

-- what is known of a next hop doesn't hang on the sockets
hop_beside : (H : Host) (sockets : SocketSet) {a : IpAddress} {hop : Option IpAddress} →
    IsNextHop H a hop → IsNextHop (record H { sockets = sockets }) a hop
hop_beside H sockets (OnLink near is) = OnLink near is
hop_beside H sockets (ByRouter router far best is) = ByRouter router far best is

known_beside : (H : Host) (sockets : SocketSet) {a : IpAddress} {known : Bool} →
    HasNeighbor H a known → HasNeighbor (record H { sockets = sockets }) a known
known_beside H sockets (OfNoHost none is) = OfNoHost none is
known_beside H sockets (OfHost hop one next is) = OfHost hop one (hop_beside H sockets next) is

-- where a socket waits, there is one, and its wait is that of its place
wait_there : (sockets : SocketSet) (i : ℕ) (w : IpAddress × ℤ) → wait_of sockets i ≡ Some w → wait_at sockets i ≡ Some w
wait_there sockets i w is = by (socket_at sockets i) is where
  by : (o : Option Socket) → option_and_then (λ (s : Socket). wait_at sockets i) o ≡ Some w → wait_at sockets i ≡ Some w
  by None is = absurd cc
  by (Some s) is = is

socket_there : (sockets : SocketSet) (i : ℕ) (w : IpAddress × ℤ) →
    wait_of sockets i ≡ Some w → (s : Socket) × (slice_get sockets.places i ≡ Some (Some s))
socket_there sockets i w is = by (slice_get sockets.places i) refl is where
  by : (place : Option Storage) → slice_get sockets.places i ≡ place →
      option_and_then (λ (s : Socket). wait_at sockets i) (option_and_then (λ (p : Storage). p) place) ≡ Some w →
      (s : Socket) × (slice_get sockets.places i ≡ Some (Some s))
  by None there is = absurd cc
  by (Some None) there is = absurd cc
  by (Some (Some s)) there is = (s, there)

-- a wait that isn't ended when its socket is asked: its next hop isn't known
goes_on : (H : Host) (wait : Wait) (known : Bool) (w : IpAddress × ℤ) →
    IsAnswerFor (HasNeighbor H) wait known → after_asking wait known ≡ Some w → HasNeighbor H w.0 false
goes_on H None known w told is = absurd cc
goes_on H (Some v) true w told is = absurd cc
goes_on H (Some v) false w told is =
    let same : v ≡ w = cc in
    subst (λ (x : IpAddress × ℤ). HasNeighbor H x.0 false) same told

not_idle : (p : Packet) (o : Outcome) → Idle ≡ turn_of p o → ⊥
not_idle p (Ok done) is = absurd cc
not_idle p (Err error) is = absurd cc

-- a turn of which nothing came doesn't end a wait whose next hop isn't known, and ends each other one
still_waits : {H new : Host} {told : List Event} {notes : List Note} (i : ℕ) (w : IpAddress × ℤ) →
    Serves i Idle H told notes new → wait_of new.sockets i ≡ Some w → HasNeighbor new w.0 false
still_waits {H} {new} i w (Free free idle t n same) is =
    let there = socket_there H.sockets i w (rw same at is) in
    let bad : Some None ≡ Some (Some there.0) = sym free ∙ there.1 in
    absurd cc
still_waits {H} {new} i w (Waits s known here told stays idle t n same) is =
    let waits = wait_there H.sockets i w (rw same at is) in
    rw same (goes_on H (wait_at H.sockets i) known w told (waits_on (wait_at H.sockets i) known H.moment stays ∙ waits))
still_waits {H} {new} i w (Served s s' known mid here told may (Silent none idle t n same settles) changed) is =
    let wait = after_asking (wait_at H.sockets i) known in
    let whole : new ≡ with_socket H i s' wait = changed ∙ ap (λ (x : Host). with_socket x i s' wait) same in
    let waits = wait_there (with_socket H i s' wait).sockets i w (rw whole at is) in
    rw whole (known_beside H (with_socket H i s' wait).sockets
    (goes_on H (wait_at H.sockets i) known w told (sym (decided_wait H.sockets.waits i known) ∙ waits)))
still_waits {H} {new} i w (Served s s' known mid here told may (Refused p some refused t n same settles) changed) is = absurd cc
still_waits {H} {new} i w (Served s s' known mid here told may (Sent p o frames some d turn t settles) changed) is = absurd (not_idle p o turn)

pub still_unknown : {H new : Host} {told : List Event} {notes : List Note} (i : ℕ) (turn : Turn) →
    turn ≡ Idle → Serves i turn H told notes new → WaitsInVain new i
still_unknown {H} {new} {told} {notes} i turn idle served = by (wait_of new.sockets i) refl where
  by : (wait : Wait) → wait_of new.sockets i ≡ wait → IfSome wait (λ w. HasNeighbor new w.0 false)
  by None is = tt
  by (Some w) is = still_waits i w (subst (λ (t : Turn). Serves i t H told notes new) idle served) is

-- what a socket is due at that may not send before its wait ends
at_end : (wait : Wait) (w : IpAddress × ℤ) (t : ℤ) (own : PollAt) →
    wait ≡ Some w → is_permitted (Some w) false t ≡ false → instant_of (poll_at wait false t own) ≡ Some w.1
at_end wait w t own is forbids = rw (is, forbids) refl

-- of the socket at an index that waits like another one, whose next hop isn't known
module _ (H : Host) (i other : ℕ) (until : ℤ) (unknown : WaitsInVain H other)
    (like : waits_like H.sockets i other H.moment ≡ Some until) where
  -- its turn comes to nothing
  waits_turn : HasIdleTurn H i
  waits_turn =
      let a = alike (wait_of H.sockets i) (wait_of H.sockets other) H.moment until like in
      let there = socket_there H.sockets i (a.neighbor, until) a.waits in
      let waits = wait_there H.sockets i (a.neighbor, until) a.waits in
      let missing : HasNeighbor H a.neighbor false = rw a.waits_too at unknown in
      Waits there.0 false there.1 (rw waits missing) (rw waits a.forbids) refl refl refl refl

  -- it is due at the end of its wait
  waits_due : IsLeast (SocketDue H i) (Some until)
  waits_due =
      let a = alike (wait_of H.sockets i) (wait_of H.sockets other) H.moment until like in
      let there = socket_there H.sockets i (a.neighbor, until) a.waits in
      let waits = wait_there H.sockets i (a.neighbor, until) a.waits in
      let missing : HasNeighbor H a.neighbor false = rw a.waits_too at unknown in
      let ends = at_end (wait_at H.sockets i) (a.neighbor, until) H.moment (kinds.poll_at there.0) waits a.forbids in
      subst (IsLeast (SocketDue H i)) ends (socket_least H i there.0 false there.1 (rw waits missing))

-- one place more
module _ (H : Host) (first index : ℕ) (unknown : WaitsInVain H first) where
  pub waits_more : is_some (waits_like H.sockets index first H.moment) ≡ true →
      ((i : ℕ) → first < i → i < index → HasIdleTurn H i) → (i : ℕ) → first < i → i < index + 1 → HasIdleTurn H i
  waits_more like before i after within = by (waits_like H.sockets index first H.moment) refl like (cases_lt i index) where
    by : (until : Option ℤ) → waits_like H.sockets index first H.moment ≡ until → is_some until ≡ true →
        ((i < index) ⊎ (index ≤ i)) → HasIdleTurn H i
    by None is some past = absurd cc
    by (Some until) is some (inl earlier) = before i after earlier
    by (Some until) is some (inr last) =
        let same : i ≡ index = omega (arith, within, last) in
        subst (HasIdleTurn H) (sym same) (waits_turn H index first until unknown is)

  pub due_more : (until : ℤ) (least : Option ℤ) → waits_like H.sockets index first H.moment ≡ Some until →
      IsLeast (DueBefore H index) least → IsLeast (DueBefore H (index + 1)) (earlier_of least (Some until))
  due_more until least like so = below_more H index least (Some until) so (waits_due H index first until unknown like)

-- what is known of the next hop of a socket that waits
pub in_vain : (H : Host) (i : ℕ) (w : IpAddress × ℤ) (known : Bool) →
    wait_of H.sockets i ≡ Some w → HasNeighbor H w.0 known → known ≡ false → WaitsInVain H i
in_vain H i w known is told missing = rw is (subst (HasNeighbor H w.0) missing told)

-- idle sockets after those that are passed
pub then_idle : (c : Context) (slots : Slots) (sockets : SocketSet) (first from to : ℕ) → to ≤ length sockets.places →
    ((i : ℕ) → first < i → i < from → HasIdleTurn (host_in c slots sockets) i) → ((i : ℕ) → from ≤ i → i < to → IsIdle sockets i) →
    (i : ℕ) → first < i → i < to → HasIdleTurn (host_in c slots sockets) i
then_idle c slots sockets first from to within before idle i after earlier = by (cases_lt i from) where
  by : ((i < from) ⊎ (from ≤ i)) → HasIdleTurn (host_in c slots sockets) i
  by (inl passed) = before i after passed
  by (inr past) = idle_turn c slots sockets i (omega (arith, within, earlier)) (idle i past earlier)
