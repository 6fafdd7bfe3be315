-- Places of a set.
use Rattle.std.proofs.Common.{◌≡◌, ℕ, ◌+◌, ◌<◌, ◌≤◌, Bool, false, List, [], ◌∷◌, ◌++◌, length, get_or, slice_get}
use Rattle.std.proofs.Common.{slice_set, Option, Some, None, refl, sym, ap, ◌∙◌, subst, ◌⊎◌, inl, inr, zero, suc, arith}
use Rattle.std.specs.Prelude.{nat_lt, is_some, true, IsNone, IfSome, ◌≢◌, ◌↔◌, ◌||◌}
use Rattle.std.specs.Option.{option_and_then}
use Rattle.std.proofs.lemmas.Bool.{cases_eq, cases_lt}
use Rattle.std.proofs.lemmas.Bool.Decides.{nat_tests}
use Rattle.std.proofs.lemmas.List.{get_or-set_other, set-get_or, length-map}
use Rattle.sockets.specs.Kinds.{own_port, poll_at}
use Rattle.sockets.specs.declared.poll_at.PollAt.TheVariants.{Ingress}
use Rattle.sockets.specs.declared.socket.SocketOf.{SocketOf}
use Rattle.sockets.specs.declared.socket.SocketOf.TheVariants.{Raw, Icmp, Udp, Tcp}
use Rattle.sockets.specs.declared.endpoint.IpEndpoint.{IpEndpoint}
use Rattle.socket_set.specs.Details.Datagrams.{after_datagram}
use Rattle.socket_set.specs.Details.Busy.{IsClear, IsIdle, AreTrue}
use Rattle.socket_set.specs.Laws.{IsSameAt, OthersStayAtAdd}
use Rattle.socket_set.specs.Details.Keys.{AllHavePorts, AreKeysOf, key_at}
use Rattle.socket_set.proofs.KeyLemmas.{Tells, known_there, unknown_there}
use Rattle.socket_set.specs.SocketMeta.{Wait, after_asking}
use Rattle.socket_set.specs.SocketSet.{Storage, Sockets, set_after_add, first_free, has_free, over, socket_at, wait_at, with_place, with_wait}

module _ {S : Type 0} where
  -- a socket that stands at a place, put there again
  pub put_back : (ps : List (Option S)) (i : ℕ) (s : S) → Some s ≡ option_and_then (λ q. q) (slice_get ps i) → slice_set ps i (Some s) ≡ ps
  put_back [] i s is = refl
  put_back (q ∷ ps) zero s is = ap (λ (p : Option S). p ∷ ps) is
  put_back (q ∷ ps) (suc i) s is = ap (λ (rest : List (Option S)). q ∷ rest) (put_back ps i s is)

-- a socket of a kind stands for the one of its place
pub stands_for : {T S : Type 0} {s : S} {place : Option S} (up : T → S) (o : Option T) →
    Some s ≡ place → IfSome o (λ t. s ≡ up t) → IfSome o (λ t. place ≡ Some (up t))
stands_for up None is whole = tt
stands_for up (Some t) is whole = sym is ∙ ap Some whole

-- and is of a kind that has ports, if that has
pub ported_for : {L T : Type 0} {s : SocketOf L} {place : Option (SocketOf L)} (up : T → SocketOf L) (o : Option T) →
    Some s ≡ place → IfSome o (λ t. (other : T) → is_some (own_port (up other)) ≡ is_some (own_port s)) →
    IfSome o (λ t. (other : T) → IfSome place (λ old. is_some (own_port (up other)) ≡ is_some (own_port old)))
ported_for up None is ports = tt
ported_for up (Some t) is ports = rw (← is) ports

pub neither_true : (a b : Bool) → a || b ≡ false → (a ≡ false) × (b ≡ false)
neither_true true b none = absurd cc
neither_true false b none = (refl, none)

-- a port that is there
pub has_port : (o own : Option ℕ) → is_some o ≡ true → o ≡ own → own ≢ None
has_port o None is same = absurd cc
has_port o (Some port) is same = λ none. absurd cc

module _ {S : Type 0} where
  pub none_is : (o : Option S) → IsNone o → o ≡ None
  none_is None none = refl
  none_is (Some s) none = absurd cc

  pub some_none : (o : Option S) → is_some o ≡ true → IsNone o → ⊥
  some_none None some none = absurd cc
  some_none (Some s) some none = absurd cc

module _ {L : Type 0} where
  -- the least free index is within the places, or their number
  pub first_free_le : (ps : List (Option (SocketOf L))) → first_free ps ≤ length ps
  first_free_le [] = omega arith
  first_free_le (None ∷ ps) = omega arith
  first_free_le (Some s ∷ ps) = omega (arith, first_free_le ps)

module _ {L : Type 0} (grows : Bool) (room : ℕ) where
  -- a set with one more place in front
  abbrev after : Storage L → Sockets L → Sockets L
  after q s = record { places = q.socket ∷ s.places; waits = q.wait ∷ s.waits; grows = s.grows; room = s.room }

  -- a place replaced
  pub over_set : (ps : List (Storage L)) (i : ℕ) (p : Storage L) →
      over (slice_set ps i p) grows room ≡ with_wait (with_place (over ps grows room) i p.socket) i p.wait
  over_set [] i p = refl
  over_set (q ∷ ps) zero p = refl
  over_set (q ∷ ps) (suc i) p = ap (after q) (over_set ps i p)

  -- a place more behind all
  pub over_push : (ps : List (Storage L)) (p : Storage L) →
      over (ps ++ p ∷ []) grows room
      ≡ record (over ps grows room) { places = (over ps grows room).places ++ p.socket ∷ []; waits = (over ps grows room).waits ++ p.wait ∷ [] }
  over_push [] p = refl
  over_push (q ∷ ps) p = ap (after q) (over_push ps p)

  -- another wait for the socket of a place
  pub wait_set : (ps : List (Storage L)) (i : ℕ) (p : Storage L) (w : Wait) →
      p ≡ get_or ps i p → over (slice_set ps i (record { socket = p.socket; wait = w })) grows room ≡ with_wait (over ps grows room) i w
  wait_set [] i p w is = refl
  wait_set (q ∷ ps) zero p w is = ap (λ (s : Storage L). over (record { socket = s.socket; wait = w } ∷ ps) grows room) is
  wait_set (q ∷ ps) (suc i) p w is = ap (after q) (wait_set ps i p w is)

  -- another socket at a place, or none
  pub place_set : (ps : List (Storage L)) (i : ℕ) (p : Storage L) (s : Option (SocketOf L)) →
      p ≡ get_or ps i p → over (slice_set ps i (record { socket = s; wait = p.wait })) grows room ≡ with_place (over ps grows room) i s
  place_set [] i p s is = refl
  place_set (q ∷ ps) zero p s is = ap (λ (t : Storage L). over (record { socket = s; wait = t.wait } ∷ ps) grows room) is
  place_set (q ∷ ps) (suc i) p s is = ap (after q) (place_set ps i p s is)

  -- a place as it was, put there again
  pub put_again : (ps : List (Storage L)) (i : ℕ) (p : Storage L) → p ≡ get_or ps i p → over (slice_set ps i p) grows room ≡ over ps grows room
  put_again ps i p is = ap (λ (qs : List (Storage L)). over qs grows room) (ap (slice_set ps i) is ∙ set-get_or ps i p)

  -- a socket at the least free index
  pub added_within : (after_room : ℕ) (ps : List (Storage L)) (i : ℕ) (s : SocketOf L) →
      i ≡ first_free (over ps grows room).places → nat_lt i (length ps) ≡ true →
      over (slice_set ps i (record { socket = Some s; wait = None })) grows room ≡ set_after_add (over ps grows room) s after_room
  added_within after_room ps i s is free =
      let same : has_free (over ps grows room) ≡ true = rw (← is, length-map) free in
      rw (same, ← is) (over_set ps i (record { socket = Some s; wait = None }))

  -- a socket behind all
  pub added_after : (after_room : ℕ) (ps : List (Storage L)) (i : ℕ) (s : SocketOf L) →
      i ≡ first_free (over ps grows room).places → nat_lt i (length ps) ≡ false →
      over (ps ++ record { socket = Some s; wait = None } ∷ []) grows after_room ≡ set_after_add (over ps grows room) s after_room
  added_after after_room ps i s is full =
      let same : has_free (over ps grows room) ≡ false = rw (← is, length-map) full in
      rw same (ap (λ (x : Sockets L). record x { room = after_room }) (over_push ps (record { socket = Some s; wait = None })))

  -- what stands at a place
  pub socket_is : (ps : List (Storage L)) (i : ℕ) (p : Storage L) → i < length ps → p ≡ get_or ps i p → socket_at (over ps grows room) i ≡ p.socket
  socket_is [] i p h is = absurd (omega arith)
  socket_is (q ∷ ps) zero p h is = ap (λ (s : Storage L). s.socket) (sym is)
  socket_is (q ∷ ps) (suc i) p h is = socket_is ps i p (omega arith) is

  -- how long it waits
  pub wait_is : (ps : List (Storage L)) (i : ℕ) (p : Storage L) → i < length ps → p ≡ get_or ps i p → wait_at (over ps grows room) i ≡ p.wait
  wait_is [] i p h is = absurd (omega arith)
  wait_is (q ∷ ps) zero p h is = ap (λ (s : Storage L). s.wait) (sym is)
  wait_is (q ∷ ps) (suc i) p h is = wait_is ps i p (omega arith) is

  -- past the places there is no socket
  pub no_socket_past : (ps : List (Storage L)) (i : ℕ) → length ps ≤ i → socket_at (over ps grows room) i ≡ None
  no_socket_past [] i h = refl
  no_socket_past (q ∷ ps) zero h = absurd (omega arith)
  no_socket_past (q ∷ ps) (suc i) h = no_socket_past ps i (omega arith)

  -- and no place to write to
  pub wait_past : (ps : List (Storage L)) (i : ℕ) (w : Wait) → length ps ≤ i → with_wait (over ps grows room) i w ≡ over ps grows room
  wait_past [] i w h = refl
  wait_past (q ∷ ps) zero w h = absurd (omega arith)
  wait_past (q ∷ ps) (suc i) w h = ap (after q) (wait_past ps i w (omega arith))

  -- a place that wasn't written is as idle as before
  idle_other : (ps : List (Storage L)) (k : ℕ) (p : Storage L) (i : ℕ) →
      i ≢ k → IsIdle (over ps grows room) i → IsIdle (over (slice_set ps k p) grows room) i
  idle_other [] k p i other idle = idle
  idle_other (q ∷ ps) zero p zero other idle = absurd (other refl)
  idle_other (q ∷ ps) zero p (suc i) other idle = idle
  idle_other (q ∷ ps) (suc k) p zero other idle = idle
  idle_other (q ∷ ps) (suc k) p (suc i) other idle = idle_other ps k p i (λ is. other (ap suc is)) idle

  idle_before : (ps : List (Storage L)) (p : Storage L) (i : ℕ) →
      i ≢ length ps → IsIdle (over ps grows room) i → IsIdle (over (ps ++ p ∷ []) grows room) i
  idle_before [] p zero other idle = absurd (other refl)
  idle_before [] p (suc i) other idle = idle
  idle_before (q ∷ ps) p zero other idle = idle
  idle_before (q ∷ ps) p (suc i) other idle = idle_before ps p i (λ is. other (ap suc is)) idle

  idle_freed : (ps : List (Storage L)) (k : ℕ) (w : Wait) (i : ℕ) →
      IsIdle (over ps grows room) i → IsIdle (over (slice_set ps k (record { socket = None; wait = w })) grows room) i
  idle_freed [] k w i idle = idle
  idle_freed (q ∷ ps) zero w zero idle = tt
  idle_freed (q ∷ ps) zero w (suc i) idle = idle
  idle_freed (q ∷ ps) (suc k) w zero idle = idle
  idle_freed (q ∷ ps) (suc k) w (suc i) idle = idle_freed ps k w i idle

  -- marks stay true where one more is set, and that place is written
  pub true_written : (ps : List (Storage L)) (marks new : List ℕ) (k : ℕ) (p : Storage L) →
      (IsClear new k → ⊥) → ((i : ℕ) → i ≢ k → IsClear new i ↔ IsClear marks i) → AreTrue marks (over ps grows room) →
      AreTrue new (over (slice_set ps k p) grows room)
  true_written ps marks new k p marked others holds i is = by (cases_eq i k) where
    by : ((i ≡ k) ⊎ (i ≡ k → ⊥)) → IsIdle (over (slice_set ps k p) grows room) i
    by (inl same) = absurd (marked (subst (IsClear new) same is))
    by (inr other) = idle_other ps k p i other (holds i ((others i other).0 is))

  -- or comes behind all
  pub true_pushed : (ps : List (Storage L)) (marks new : List ℕ) (k : ℕ) (p : Storage L) →
      k ≡ length ps → (IsClear new k → ⊥) → ((i : ℕ) → i ≢ k → IsClear new i ↔ IsClear marks i) → AreTrue marks (over ps grows room) →
      AreTrue new (over (ps ++ p ∷ []) grows room)
  true_pushed ps marks new k p last marked others holds i is = by (cases_eq i k) where
    by : ((i ≡ k) ⊎ (i ≡ k → ⊥)) → IsIdle (over (ps ++ p ∷ []) grows room) i
    by (inl same) = absurd (marked (subst (IsClear new) same is))
    by (inr other) = idle_before ps p i (λ e. other (e ∙ sym last)) (holds i ((others i other).0 is))

  -- who doesn't wait doesn't wait after it was asked
  unasked : (o : Option (SocketOf L)) (w : Wait) (known : Bool) →
      IfSome o (λ s. (poll_at s ≡ Ingress) × (w ≡ None)) → IfSome o (λ s. (poll_at s ≡ Ingress) × (after_asking w known ≡ None))
  unasked None w known idle = tt
  unasked (Some s) None known idle = idle
  unasked (Some s) (Some wait) known idle = let never = idle.1 in absurd cc

  idle_asked : (ps : List (Storage L)) (k : ℕ) (p : Storage L) (known : Bool) (i : ℕ) → p ≡ get_or ps k p → IsIdle (over ps grows room) i →
      IsIdle (over (slice_set ps k (record { socket = p.socket; wait = after_asking p.wait known })) grows room) i
  idle_asked [] k p known i is idle = idle
  idle_asked (q ∷ ps) zero p known zero is idle =
      unasked p.socket p.wait known (subst (λ (x : Storage L). IfSome x.socket (λ s. (poll_at s ≡ Ingress) × (x.wait ≡ None))) (sym is) idle)
  idle_asked (q ∷ ps) zero p known (suc i) is idle = idle
  idle_asked (q ∷ ps) (suc k) p known zero is idle = idle
  idle_asked (q ∷ ps) (suc k) p known (suc i) is idle = idle_asked ps k p known i is idle

  pub true_asked : (ps : List (Storage L)) (marks : List ℕ) (k : ℕ) (p : Storage L) (known : Bool) →
      p ≡ get_or ps k p → AreTrue marks (over ps grows room) →
      AreTrue marks (over (slice_set ps k (record { socket = p.socket; wait = after_asking p.wait known })) grows room)
  true_asked ps marks k p known is holds i clear = idle_asked ps k p known i is (holds i clear)

  -- a socket that got a datagram is as idle as before
  heard_idle : (remote : IpEndpoint) (payload : List ℕ) (o : Option (SocketOf L)) (w : Wait) →
      IfSome o (λ s. (poll_at s ≡ Ingress) × (w ≡ None)) → IfSome (after_datagram remote payload o) (λ s. (poll_at s ≡ Ingress) × (w ≡ None))
  heard_idle remote payload None w idle = idle
  heard_idle remote payload (Some (Raw s)) w idle = idle
  heard_idle remote payload (Some (Icmp s)) w idle = idle
  heard_idle remote payload (Some (Udp s)) w idle = idle
  heard_idle remote payload (Some (Tcp s)) w idle = idle

  idle_heard : (remote : IpEndpoint) (payload : List ℕ) (ps : List (Storage L)) (k : ℕ) (p : Storage L) (i : ℕ) →
      p ≡ get_or ps k p → IsIdle (over ps grows room) i →
      IsIdle (over (slice_set ps k (record { socket = after_datagram remote payload p.socket; wait = p.wait })) grows room) i
  idle_heard remote payload [] k p i is idle = idle
  idle_heard remote payload (q ∷ ps) zero p zero is idle =
      heard_idle remote payload p.socket p.wait
      (subst (λ (x : Storage L). IfSome x.socket (λ s. (poll_at s ≡ Ingress) × (x.wait ≡ None))) (sym is) idle)
  idle_heard remote payload (q ∷ ps) zero p (suc i) is idle = idle
  idle_heard remote payload (q ∷ ps) (suc k) p zero is idle = idle
  idle_heard remote payload (q ∷ ps) (suc k) p (suc i) is idle = idle_heard remote payload ps k p i is idle

  -- marks stay true where a datagram is received
  pub true_heard : (remote : IpEndpoint) (payload : List ℕ) (ps : List (Storage L)) (marks : List ℕ) (k : ℕ) (p : Storage L) →
      p ≡ get_or ps k p → AreTrue marks (over ps grows room) →
      AreTrue marks (over (slice_set ps k (record { socket = after_datagram remote payload p.socket; wait = p.wait })) grows room)
  true_heard remote payload ps marks k p is holds i clear = idle_heard remote payload ps k p i is (holds i clear)

  -- where a place is freed
  pub true_freed : (ps : List (Storage L)) (marks : List ℕ) (k : ℕ) (w : Wait) →
      AreTrue marks (over ps grows room) → AreTrue marks (over (slice_set ps k (record { socket = None; wait = w })) grows room)
  true_freed ps marks k w holds i is = idle_freed ps k w i (holds i is)

  -- and where the mark of an idle place is cleared
  pub true_cleared : (ps : List (Storage L)) (marks new : List ℕ) (k : ℕ) → IsIdle (over ps grows room) k →
      ((i : ℕ) → i ≢ k → IsClear new i ↔ IsClear marks i) → AreTrue marks (over ps grows room) → AreTrue new (over ps grows room)
  true_cleared ps marks new k idle others holds i is = by (cases_eq i k) where
    by : ((i ≡ k) ⊎ (i ≡ k → ⊥)) → IsIdle (over ps grows room) i
    by (inl same) = subst (IsIdle (over ps grows room)) (sym same) idle
    by (inr other) = holds i ((others i other).0 is)

  -- a place whose socket isn't busy is idle
  pub idle_is : (ps : List (Storage L)) (i : ℕ) (p : Storage L) →
      i < length ps → p ≡ get_or ps i p → IfSome p.socket (λ s. (poll_at s ≡ Ingress) × (p.wait ≡ None)) → IsIdle (over ps grows room) i
  idle_is [] i p within is idle = absurd (omega arith)
  idle_is (q ∷ ps) zero p within is idle = subst (λ (x : Storage L). IsIdle (over (x ∷ ps) grows room) zero) is idle
  idle_is (q ∷ ps) (suc i) p within is idle = idle_is ps i p (omega arith) is idle

  -- a key tells of a place that wasn't written what it told
  tells_other : (ps : List (Storage L)) (k : ℕ) (p : Storage L) (key i : ℕ) →
      i ≢ k → Tells key (socket_at (over ps grows room) i) → Tells key (socket_at (over (slice_set ps k p) grows room) i)
  tells_other [] k p key i other tells = tells
  tells_other (q ∷ ps) zero p key zero other tells = absurd (other refl)
  tells_other (q ∷ ps) zero p key (suc i) other tells = tells
  tells_other (q ∷ ps) (suc k) p key zero other tells = tells
  tells_other (q ∷ ps) (suc k) p key (suc i) other tells = tells_other ps k p key i (λ is. other (ap suc is)) tells

  tells_before : (ps : List (Storage L)) (p : Storage L) (key i : ℕ) →
      i ≢ length ps → Tells key (socket_at (over ps grows room) i) → Tells key (socket_at (over (ps ++ p ∷ []) grows room) i)
  tells_before [] p key zero other tells = absurd (other refl)
  tells_before [] p key (suc i) other tells = tells
  tells_before (q ∷ ps) p key zero other tells = tells
  tells_before (q ∷ ps) p key (suc i) other tells = tells_before ps p key i (λ is. other (ap suc is)) tells

  tells_freed : (ps : List (Storage L)) (k : ℕ) (w : Wait) (key i : ℕ) →
      Tells key (socket_at (over ps grows room) i) → Tells key (socket_at (over (slice_set ps k (record { socket = None; wait = w })) grows room) i)
  tells_freed [] k w key i tells = tells
  tells_freed (q ∷ ps) zero w key zero tells = tt
  tells_freed (q ∷ ps) zero w key (suc i) tells = tells
  tells_freed (q ∷ ps) (suc k) w key zero tells = tells
  tells_freed (q ∷ ps) (suc k) w key (suc i) tells = tells_freed ps k w key i tells

  -- a key tells of a socket that got a datagram what it told
  heard_tells : (remote : IpEndpoint) (payload : List ℕ) (key : ℕ) (o : Option (SocketOf L)) → Tells key o → Tells key (after_datagram remote payload o)
  heard_tells remote payload key None tells = tells
  heard_tells remote payload key (Some (Raw s)) tells = tells
  heard_tells remote payload key (Some (Icmp s)) tells = tells
  heard_tells remote payload key (Some (Udp s)) tells = tells
  heard_tells remote payload key (Some (Tcp s)) tells = tells

  tells_heard : (remote : IpEndpoint) (payload : List ℕ) (ps : List (Storage L)) (k : ℕ) (p : Storage L) (key i : ℕ) →
      p ≡ get_or ps k p → Tells key (socket_at (over ps grows room) i) →
      Tells key (socket_at (over (slice_set ps k (record { socket = after_datagram remote payload p.socket; wait = p.wait })) grows room) i)
  tells_heard remote payload [] k p key i is tells = tells
  tells_heard remote payload (q ∷ ps) zero p key zero is tells =
      heard_tells remote payload key p.socket (subst (λ (x : Storage L). Tells key x.socket) (sym is) tells)
  tells_heard remote payload (q ∷ ps) zero p key (suc i) is tells = tells
  tells_heard remote payload (q ∷ ps) (suc k) p key zero is tells = tells
  tells_heard remote payload (q ∷ ps) (suc k) p key (suc i) is tells = tells_heard remote payload ps k p key i is tells

  -- keys stay true where a datagram is received
  pub keyed_heard : (remote : IpEndpoint) (payload : List ℕ) (ps : List (Storage L)) (keys : List ℕ) (k : ℕ) (p : Storage L) →
      p ≡ get_or ps k p → AreKeysOf keys (over ps grows room) →
      AreKeysOf keys (over (slice_set ps k (record { socket = after_datagram remote payload p.socket; wait = p.wait })) grows room)
  keyed_heard remote payload ps keys k p is holds i known = tells_heard remote payload ps k p (key_at keys i) i is (holds i known)

  -- keys are true where nothing is known of any place
  pub keyed_at_first : (ps : List (Storage L)) (keys : List ℕ) → ((i : ℕ) → i < length ps → key_at keys i ≡ 0) → AreKeysOf keys (over ps grows room)
  keyed_at_first ps keys unknown i known = by (cases_lt i (length ps)) where
    by : ((i < length ps) ⊎ (length ps ≤ i)) → Tells (key_at keys i) (socket_at (over ps grows room) i)
    by (inl within) = absurd (known (unknown i within))
    by (inr past) = subst (Tells (key_at keys i)) (sym (no_socket_past ps i past)) tt

  -- they stay true where a place is written of which nothing is known any more
  pub keyed_written : (ps : List (Storage L)) (keys : List ℕ) (k : ℕ) (p : Storage L) →
      AreKeysOf keys (over ps grows room) → AreKeysOf (slice_set keys k 0) (over (slice_set ps k p) grows room)
  keyed_written ps keys k p holds i known = by (cases_eq i k) where
    by : ((i ≡ k) ⊎ (i ≡ k → ⊥)) → Tells (key_at (slice_set keys k 0) i) (socket_at (over (slice_set ps k p) grows room) i)
    by (inl same) = absurd (known (ap (key_at (slice_set keys k 0)) same ∙ unknown_there keys k))
    by (inr other) =
        let stays : key_at (slice_set keys k 0) i ≡ key_at keys i = get_or-set_other keys k i 0 0 other in
        rw stays (tells_other ps k p (key_at keys i) i other (holds i (rw stays at known)))

  -- or such a place comes behind all
  pub keyed_pushed : (ps : List (Storage L)) (keys : List ℕ) (k : ℕ) (p : Storage L) →
      k ≡ length ps → AreKeysOf keys (over ps grows room) → AreKeysOf (slice_set keys k 0) (over (ps ++ p ∷ []) grows room)
  keyed_pushed ps keys k p last holds i known = by (cases_eq i k) where
    by : ((i ≡ k) ⊎ (i ≡ k → ⊥)) → Tells (key_at (slice_set keys k 0) i) (socket_at (over (ps ++ p ∷ []) grows room) i)
    by (inl same) = absurd (known (ap (key_at (slice_set keys k 0)) same ∙ unknown_there keys k))
    by (inr other) =
        let stays : key_at (slice_set keys k 0) i ≡ key_at keys i = get_or-set_other keys k i 0 0 other in
        rw stays (tells_before ps p (key_at keys i) i (λ e. other (e ∙ sym last)) (holds i (rw stays at known)))

  -- where a place is freed
  pub keyed_freed : (ps : List (Storage L)) (keys : List ℕ) (k : ℕ) (w : Wait) →
      AreKeysOf keys (over ps grows room) → AreKeysOf keys (over (slice_set ps k (record { socket = None; wait = w })) grows room)
  keyed_freed ps keys k w holds i known = tells_freed ps k w (key_at keys i) i (holds i known)

  -- where its socket waits, or waits no more
  pub keyed_waiting : (ps : List (Storage L)) (keys : List ℕ) (i : ℕ) (p : Storage L) (w : Wait) → p ≡ get_or ps i p →
      AreKeysOf keys (over ps grows room) → AreKeysOf keys (over (slice_set ps i (record { socket = p.socket; wait = w })) grows room)
  keyed_waiting ps keys i p w is holds = subst (AreKeysOf keys) (sym (wait_set ps i p w is)) holds

  -- and where the key of a place's socket is put down
  pub keyed_learnt : (ps : List (Storage L)) (keys : List ℕ) (k : ℕ) (p : Storage L) (key : ℕ) →
      k < length ps → p ≡ get_or ps k p → Tells key p.socket → AreKeysOf keys (over ps grows room) →
      AreKeysOf (slice_set keys k key) (over ps grows room)
  keyed_learnt ps keys k p key within is tells holds i known = by (cases_eq i k) where
    by : ((i ≡ k) ⊎ (i ≡ k → ⊥)) → Tells (key_at (slice_set keys k key) i) (socket_at (over ps grows room) i)
    by (inl same) =
        let here : key_at (slice_set keys k key) k ≢ 0 = rw same at known in
        let learnt : key_at (slice_set keys k key) k ≡ key = known_there keys k key here in
        rw (same, learnt) (subst (Tells key) (sym (socket_is ps k p within is)) tells)
    by (inr other) =
        let stays : key_at (slice_set keys k key) i ≡ key_at keys i = get_or-set_other keys k i key 0 other in
        rw stays (holds i (rw stays at known))

  -- a socket of a kind that has ports, or none
  abbrev pub HasPort : Option (SocketOf L) → Type 0
  HasPort place = IfSome place (λ socket. own_port socket ≢ None)

  -- such a one is put at a place
  pub ported_written : (ps : List (Storage L)) (k : ℕ) (p : Storage L) →
      HasPort p.socket → AllHavePorts (over ps grows room) → AllHavePorts (over (slice_set ps k p) grows room)
  ported_written [] k p this holds i = holds i
  ported_written (q ∷ ps) zero p this holds zero = this
  ported_written (q ∷ ps) zero p this holds (suc i) = holds (suc i)
  ported_written (q ∷ ps) (suc k) p this holds zero = holds 0
  ported_written (q ∷ ps) (suc k) p this holds (suc i) = ported_written ps k p this (λ j. holds (suc j)) i

  -- or behind all
  pub ported_pushed : (ps : List (Storage L)) (p : Storage L) →
      HasPort p.socket → AllHavePorts (over ps grows room) → AllHavePorts (over (ps ++ p ∷ []) grows room)
  ported_pushed [] p this holds zero = this
  ported_pushed [] p this holds (suc i) = tt
  ported_pushed (q ∷ ps) p this holds zero = holds 0
  ported_pushed (q ∷ ps) p this holds (suc i) = ported_pushed ps p this (λ j. holds (suc j)) i

  -- or waits, or waits no more
  pub ported_waiting : (ps : List (Storage L)) (i : ℕ) (p : Storage L) (w : Wait) →
      p ≡ get_or ps i p → AllHavePorts (over ps grows room) → AllHavePorts (over (slice_set ps i (record { socket = p.socket; wait = w })) grows room)
  ported_waiting ps i p w is holds = subst AllHavePorts (sym (wait_set ps i p w is)) holds

  -- what stands at a place is one
  pub ported_here : (ps : List (Storage L)) (i : ℕ) (p : Storage L) →
      i < length ps → p ≡ get_or ps i p → AllHavePorts (over ps grows room) → HasPort p.socket
  ported_here ps i p within is holds = subst HasPort (socket_is ps i p within is) (holds i)

  -- a socket that got a datagram still has a port
  pub heard_port : (remote : IpEndpoint) (payload : List ℕ) (o : Option (SocketOf L)) → HasPort o → HasPort (after_datagram remote payload o)
  heard_port remote payload None this = this
  heard_port remote payload (Some (Raw s)) this = this
  heard_port remote payload (Some (Icmp s)) this = this
  heard_port remote payload (Some (Udp s)) this = this
  heard_port remote payload (Some (Tcp s)) this = this

  -- one place more, and all of them
  pub one_ported : (ps : List (Storage L)) (n : ℕ) (p : Storage L) →
      n < length ps → p ≡ get_or ps n p → ((i : ℕ) → i < n → HasPort (socket_at (over ps grows room) i)) → HasPort p.socket →
      (i : ℕ) → i < n + 1 → HasPort (socket_at (over ps grows room) i)
  one_ported ps n p there is before this i within = by (cases_lt i n) where
    by : ((i < n) ⊎ (n ≤ i)) → HasPort (socket_at (over ps grows room) i)
    by (inl earlier) = before i earlier
    by (inr last) =
        let same : i ≡ n = omega (arith, within, last) in
        subst (λ (k : ℕ). HasPort (socket_at (over ps grows room) k)) (sym same) (subst HasPort (sym (socket_is ps n p there is)) this)

  pub all_ported : (ps : List (Storage L)) (n : ℕ) →
      length ps ≤ n → ((i : ℕ) → i < n → HasPort (socket_at (over ps grows room) i)) → AllHavePorts (over ps grows room)
  all_ported ps n all before i = by (cases_lt i n) where
    by : ((i < n) ⊎ (n ≤ i)) → HasPort (socket_at (over ps grows room) i)
    by (inl within) = before i within
    by (inr past) = subst HasPort (sym (no_socket_past ps i (omega (arith, all, past)))) tt

-- a kind that has ports still has them
pub kept_port : {L : Type 0} (place : Option (SocketOf L)) (new old : SocketOf L) →
    place ≡ Some old → IfSome place (λ s. is_some (own_port new) ≡ is_some (own_port s)) → HasPort true 0 place → own_port new ≢ None
kept_port None new old is same this = absurd cc
kept_port (Some s) new old is same this = by (own_port new) (own_port s) same this where
  by : (n o : Option ℕ) → is_some n ≡ is_some o → o ≢ None → n ≢ None
  by None None same this = this
  by None (Some port) same this = absurd cc
  by (Some port) o same this = λ none. absurd cc

-- an index that isn't the last one reads what stood before
got_before : {X : Type 0} (xs : List X) (x : X) (i : ℕ) → i ≢ length xs → slice_get (xs ++ x ∷ []) i ≡ slice_get xs i
got_before [] x zero other = absurd (other refl)
got_before [] x (suc i) other = refl
got_before (y ∷ xs) x zero other = refl
got_before (y ∷ xs) x (suc i) other = got_before xs x i (λ e. other (ap suc e))

-- behind all waits there is none
waits_before : (ws : List Wait) (i : ℕ) → get_or (ws ++ None ∷ []) i None ≡ get_or ws i None
waits_before [] zero = refl
waits_before [] (suc i) = refl
waits_before (w ∷ ws) zero = refl
waits_before (w ∷ ws) (suc i) = waits_before ws i

got_other : {X : Type 0} (xs : List X) (k i : ℕ) (x : X) → i ≢ k → slice_get (slice_set xs k x) i ≡ slice_get xs i
got_other [] k i x other = refl
got_other (y ∷ xs) zero zero x other = absurd (other refl)
got_other (y ∷ xs) zero (suc i) x other = refl
got_other (y ∷ xs) (suc k) zero x other = refl
got_other (y ∷ xs) (suc k) (suc i) x other = got_other xs k i x (λ e. other (ap suc e))

-- what an index has follows from the place and the wait that are read there
same_at : {L : Type 0} (old new : Sockets L) (i : ℕ) → slice_get new.places i ≡ slice_get old.places i →
    wait_at new i ≡ wait_at old i → IsSameAt old new i
same_at old new i place wait = record { socket = ap (λ o. option_and_then (λ q. q) o) place; wait = rw (place, wait) refl }

-- an index other than the one that a socket is added at
pub others_stay_at_add : {L : Type 0} → OthersStayAtAdd L
others_stay_at_add s socket room i other = by (has_free s) refl where
  by : (b : Bool) → has_free s ≡ b → IsSameAt s (set_after_add s socket room) i
  by true free = rw free (same_at s _ i (got_other s.places (first_free s.places) i (Some socket) other)
      (get_or-set_other s.waits (first_free s.places) i None None other))
  by false full =
      let last : first_free s.places ≡ length s.places = grind (arith, nat_tests, full, first_free_le s.places) in
      rw full (same_at s _ i (got_before s.places (Some socket) i (λ e. other (e ∙ sym last))) (waits_before s.waits i))
