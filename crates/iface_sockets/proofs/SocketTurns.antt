-- The turns of sockets, from their parts.
use Rattle.std.proofs.Common.{◌≡◌, ℕ, ◌+◌, ◌-◌, ◌<◌, Bool, true, false, List, [], ◌∷◌, ◌++◌, length, ◌≤◌, refl, sym}
use Rattle.std.proofs.Common.{ap, ◌∙◌, subst, zero, suc, ◌⊎◌, inl, inr, get_or, arith, Option, Some, None, Ok, Err}
use Rattle.std.specs.Prelude.{IfSome, IsSome, IsNone, ℤ, ◌||◌, is_ok, slice_get, slice_set}
use Rattle.std.specs.Option.{option_map, option_and_then}
use Rattle.std.proofs.lemmas.List.{set-get_or, set-set}
use Rattle.std.proofs.lemmas.Option.{slice_get_cases}
use Rattle.net_base.specs.Device.{Event, Asked}
use Rattle.fragmentation.specs.Slots.{Slots}
use Rattle.sockets.specs.Kinds.{Offered, socket_after_told}
use Rattle.sockets.specs.Kinds as kinds
use Rattle.sockets.specs.declared.poll_at.PollAt.TheVariants.{Ingress}
use Rattle.host_machine.proofs.Sockets.QuietSockets.{socket_quiet}
use Rattle.ip_address.specs.declared.ip.IpAddress.{IpAddress}
use Rattle.socket_set.specs.Details.Busy.{IsIdle}
use Rattle.socket_set.specs.SocketMeta.{Wait, IsAnswerFor, is_permitted, after_asking}
use Rattle.socket_set.specs.SocketSet.{socket_at, wait_at, with_place, with_wait}
use Rattle.host_machine.specs.declared.results.Turn.{Turn}
use Rattle.host_machine.specs.declared.results.Turn.TheVariants.{Idle, Done, Deferred, Exhausted}
use Rattle.host_machine.specs.Context.Note.{Note}
use Rattle.host_machine.specs.Context.Host.{Host, Socket, SocketSet, Storage, no_sockets}
use Rattle.host_machine.specs.Context.Addresses.{source_for}
use Rattle.host_machine.specs.Packet.Packet as value
use Rattle.host_machine.specs.Packet.Frame.{frames_in, sends}
use Rattle.host_machine.specs.Send.Outcome.{Outcome}
use Rattle.host_machine.specs.Send.Dispatch.{Dispatches, destination_of}
use Rattle.host_machine.specs.Send.Hops.{HasNeighbor}
use Rattle.host_machine.specs.Sockets.Turns.{SocketTurn, turn_of, is_done, is_exhausted, Silent, Refused, Sent, Free, Waits, Served, wait_after}
use Rattle.host_machine.specs.Sockets.Offers.{packet_of, packet_from, socket_after_asking}
use Rattle.host_machine.specs.Sockets.Turns.{Begins, Goes, Stops, Stopped, Whole, Serves, Walks, SocketEgress}
use Rattle.iface_context.specs.declared.context.Context.{Context}
use Rattle.iface_context.specs.Refines.{RefinesBuilding, RefinesTelling}
use Rattle.iface_context.specs.Stands.{host_in, host_of}
use Rattle.iface_sockets.specs.Turns.{HasIdleTurn, HasTurn, OfferTurn, OfferHasTurn, NoPacket, NotGiven, Given, IsPermitted, NoSocket, OfSocket, outcome_of}

-- of an offer of some kind
module _ {A B : Type 0} (kind : B → Offered) (shown : A → B) {offers : Option B} (r : Option A) (is : option_map shown r ≡ offers) where
  -- without one there is no packet
  pub none_offered : r ≡ None → option_and_then packet_of (option_map kind offers) ≡ None
  none_offered none = rw (← is, none) refl

  -- else its packet
  pub packet_is : (o : A) → r ≡ Some o → option_and_then packet_of (option_map kind offers) ≡ packet_of (kind (shown o))
  packet_is o some = rw (← is, some) refl

gone_turn : (p : value.Packet) (o : Outcome) → is_ok o ≡ true → Done ≡ turn_of p o
gone_turn p (Ok done) is = refl
gone_turn p (Err error) is = absurd cc

kept_turn : (p : value.Packet) (o : Outcome) → is_ok o ≡ false → Deferred (destination_of p) ≡ turn_of p o
kept_turn p (Ok done) is = absurd cc
kept_turn p (Err error) is = refl

-- what a socket is told of its packet
module _ {s s' : Socket} {packet : Option value.Packet} {t : Turn} {H new : Host} {told_it : List Event}
    {notes : List Note} (is : packet_from H s ≡ packet) where
  was_gone : t ≡ Done → s' ≡ socket_after_told true (socket_after_asking H s) →
      OfferTurn packet t H told_it notes new → SocketTurn s t s' H told_it notes new
  was_gone gone tells_it (NoPacket none idle o n e) = absurd cc
  was_gone gone tells_it (NotGiven p some refused o n e) = absurd cc
  was_gone gone tells_it (Given p (Ok done) frames some d turns o) = Sent p (Ok done) frames (is ∙ some) d turns o tells_it
  was_gone gone tells_it (Given p (Err error) frames some d turns o) = absurd cc

  was_kept : (a : IpAddress) → t ≡ Deferred a → s' ≡ socket_after_told false (socket_after_asking H s) →
      OfferTurn packet t H told_it notes new → SocketTurn s t s' H told_it notes new
  was_kept a kept tells_it (NoPacket none idle o n e) = absurd cc
  was_kept a kept tells_it (NotGiven p some refused o n e) = absurd cc
  was_kept a kept tells_it (Given p (Ok done) frames some d turns o) = absurd cc
  was_kept a kept tells_it (Given p (Err error) frames some d turns o) = Sent p (Err error) frames (is ∙ some) d turns o tells_it

  was_idle : (t ≡ Idle) ⊎ (t ≡ Exhausted) → s' ≡ socket_after_asking H s →
      OfferTurn packet t H told_it notes new → SocketTurn s t s' H told_it notes new
  was_idle rests settles (NoPacket none idle o n e) = Silent (is ∙ none) idle o n e settles
  was_idle rests settles (NotGiven p some refused o n e) = Refused p (is ∙ some) refused o n e settles
  was_idle (inl idle) settles (Given p (Ok done) frames some d turns o) = absurd cc
  was_idle (inr refused) settles (Given p (Ok done) frames some d turns o) = absurd cc
  was_idle (inl idle) settles (Given p (Err error) frames some d turns o) = absurd cc
  was_idle (inr refused) settles (Given p (Err error) frames some d turns o) = absurd cc

module _ {D : Type 0} {tells : D → List Event → D → Type 0} where
  pub silent : {d : D} (c : Context) {s s' : Socket} → tells d [] d → packet_from (host_of c no_sockets) s ≡ None →
      s' ≡ socket_after_asking (host_of c no_sockets) s → RefinesTelling tells d d (HasTurn s Idle s' c) c
  silent c quiet none settles = record { told = []; notes = []; tells_it = quiet; follows = λ slots sockets. Silent none refl refl refl refl settles }

  -- of what is offered
  pub no_packet : {d : D} (c : Context) {packet : Option value.Packet} →
      tells d [] d → packet ≡ None → RefinesTelling tells d d (OfferHasTurn packet Idle c) c
  no_packet c quiet none = record { told = []; notes = []; tells_it = quiet; follows = λ slots sockets. NoPacket none refl refl refl refl }

  pub not_given : {d e : D} (c : Context) (p : value.Packet) →
      tells d (Asked c.moment false ∷ []) e → RefinesTelling tells d e (OfferHasTurn (Some p) Exhausted c) c
  not_given c p asks =
      record { told = Asked c.moment false ∷ []; notes = []; tells_it = asks; follows = λ slots sockets. NotGiven p refl refl refl refl refl }

  given : {d m e : D} {buffer : List ℕ} (c c' : Context) {t : Turn} →
      ((a b c : D) (xs ys : List Event) → tells a xs b → tells b ys c → tells a (xs ++ ys) c) →
      (p : value.Packet) (o : Outcome) → tells d (Asked c.moment true ∷ []) m → RefinesBuilding buffer (Dispatches p o) c c' →
      tells m (sends (frames_in buffer)) e → t ≡ turn_of p o → RefinesTelling tells d e (OfferHasTurn (Some p) t c) c'
  given {d} {m} {e} {buffer} c c' tells_on p o asks built sends_it turns = record {
    told = Asked c.moment true ∷ sends (frames_in buffer);
    notes = built.notes;
    tells_it = tells_on d m e (Asked c.moment true ∷ []) (sends (frames_in buffer)) asks sends_it;
    follows = λ slots sockets. Given p o (frames_in buffer) refl (built.follows slots sockets) turns refl;
  }

  pub given_gone : {d m e : D} {buffer : List ℕ} (c c' : Context) →
      ((a b c : D) (xs ys : List Event) → tells a xs b → tells b ys c → tells a (xs ++ ys) c) →
      (p : value.Packet) (o : Outcome) (gone : Bool) → tells d (Asked c.moment true ∷ []) m → RefinesBuilding buffer (Dispatches p o) c c' →
      tells m (sends (frames_in buffer)) e → gone ≡ is_ok o → gone ≡ true →
      RefinesTelling tells d e (OfferHasTurn (Some p) Done c) c'
  given_gone c c' tells_on p o gone asks built sends_it is_it is = given c c' tells_on p o asks built sends_it (gone_turn p o (sym is_it ∙ is))

  pub given_kept : {d m e : D} {buffer : List ℕ} (c c' : Context) {a : IpAddress} →
      ((a b c : D) (xs ys : List Event) → tells a xs b → tells b ys c → tells a (xs ++ ys) c) →
      (p : value.Packet) (o : Outcome) (gone : Bool) → tells d (Asked c.moment true ∷ []) m → RefinesBuilding buffer (Dispatches p o) c c' →
      tells m (sends (frames_in buffer)) e → gone ≡ is_ok o → gone ≡ false →
      a ≡ destination_of p → RefinesTelling tells d e (OfferHasTurn (Some p) (Deferred a) c) c'
  given_kept c c' tells_on p o gone asks built sends_it is_it is goes_to =
      given c c' tells_on p o asks built sends_it (ap Deferred goes_to ∙ kept_turn p o (sym is_it ∙ is))

  -- of the socket that offered it
  module _ {d e : D} (c c' : Context) {s s' asked_so : Socket} {packet : Option value.Packet} {t : Turn}
      (is : packet_from (host_of c no_sockets) s ≡ packet) (settles : asked_so ≡ socket_after_asking (host_of c no_sockets) s)
      (offer : RefinesTelling tells d e (OfferHasTurn packet t c) c') where
    turned_gone : t ≡ Done → s' ≡ socket_after_told true asked_so → RefinesTelling tells d e (HasTurn s t s' c) c'
    turned_gone gone tells_it = record {
      told = offer.told;
      notes = offer.notes;
      tells_it = offer.tells_it;
      follows = λ slots sockets. was_gone is gone (rw (← settles) tells_it) (offer.follows slots sockets);
    }

    turned_kept : (a : IpAddress) → t ≡ Deferred a → s' ≡ socket_after_told false asked_so → RefinesTelling tells d e (HasTurn s t s' c) c'
    turned_kept a kept tells_it = record {
      told = offer.told;
      notes = offer.notes;
      tells_it = offer.tells_it;
      follows = λ slots sockets. was_kept is a kept (rw (← settles) tells_it) (offer.follows slots sockets);
    }

    turned_idle : (t ≡ Idle) ⊎ (t ≡ Exhausted) → s' ≡ asked_so → RefinesTelling tells d e (HasTurn s t s' c) c'
    turned_idle rests same = record {
      told = offer.told;
      notes = offer.notes;
      tells_it = offer.tells_it;
      follows = λ slots sockets. was_idle is rests (same ∙ settles) (offer.follows slots sockets);
    }

    -- which was told of its packet
    pub turned_told : (gone : Bool) → outcome_of t ≡ Some gone → s' ≡ socket_after_told gone asked_so → RefinesTelling tells d e (HasTurn s t s' c) c'
    turned_told gone so tells_it = by t refl so where
      by : (u : Turn) → t ≡ u → outcome_of u ≡ Some gone → RefinesTelling tells d e (HasTurn s t s' c) c'
      by Done is_it so = turned_gone is_it cc
      by (Deferred a) is_it so = turned_kept a is_it cc
      by Idle is_it so = absurd cc
      by Exhausted is_it so = absurd cc

    -- or wasn't
    pub turned_untold : outcome_of t ≡ None → s' ≡ asked_so → RefinesTelling tells d e (HasTurn s t s' c) c'
    turned_untold so same = by t refl so where
      by : (u : Turn) → t ≡ u → outcome_of u ≡ None → RefinesTelling tells d e (HasTurn s t s' c) c'
      by Done is_it so = absurd cc
      by (Deferred a) is_it so = absurd cc
      by Idle is_it so = turned_idle (inl is_it) same
      by Exhausted is_it so = turned_idle (inr is_it) same

none_some : {A : Type 0} {x : A} → None ≡ Some x → ⊥
none_some is = absurd cc

taken_place : (x : Option Storage) (s : Socket) → option_and_then (λ place. place) x ≡ Some s → x ≡ Some (Some s)
taken_place None s is = absurd cc
taken_place (Some None) s is = absurd cc
taken_place (Some (Some t)) s is = cc

inside : (xs : List Storage) (i : ℕ) → i < length xs → slice_get xs i ≡ None → ⊥
inside xs i within none = by (slice_get_cases xs i).1 where
  by : ((x : Storage) × (i < length xs) × (slice_get xs i ≡ Some x) × (get_or xs i x ≡ x)) ⊎ ((length xs ≤ i) × (slice_get xs i ≡ None)) → ⊥
  by (inl found) = none_some (sym none ∙ found.2)
  by (inr past) = omega (arith, within, past.0)

free_slot : (x : Option Storage) → option_and_then (λ place. place) x ≡ None → (x ≡ None → ⊥) → x ≡ Some None
free_slot None is inside = absurd (inside refl)
free_slot (Some None) is inside = refl
free_slot (Some (Some t)) is inside = absurd cc

-- what a closure of this kind is told, the host is told
told_as : {P Q : IpAddress → Bool → Type 0} (w : Wait) (known : Bool) →
    ((a : IpAddress) (k : Bool) → P a k → Q a k) → IsAnswerFor P w known → IsAnswerFor Q w known
told_as None known tells is = is
told_as (Some wait) known tells is = tells wait.0 known is

-- it is decided whether the socket of a place may be asked
pub decided : {P : IpAddress → Bool → Type 0} (c : Context) (sockets new : SocketSet) (i : ℕ) (permitted : Bool) →
    ((slots : Slots) (a : IpAddress) (k : Bool) → P a k → HasNeighbor (host_in c slots sockets) a k) →
    (IsSome (socket_at sockets i) → (known : Bool) × IsAnswerFor P (wait_at sockets i) known
    × (permitted ≡ is_permitted (wait_at sockets i) known c.moment) × (new ≡ with_wait sockets i (after_asking (wait_at sockets i) known))) →
    (IsNone (socket_at sockets i) → (permitted ≡ false) × (new ≡ sockets)) → IsPermitted c sockets i permitted new
decided {P} c sockets new i permitted knows asked none = by (socket_at sockets i) refl where
  by : (o : Option Socket) → socket_at sockets i ≡ o → IsPermitted c sockets i permitted new
  by None is = NoSocket is (none (rw is refl)).0 (none (rw is refl)).1
  by (Some s) is =
      let e = asked (rw is refl) in
      OfSocket s e.0 is (λ slots. told_as (wait_at sockets i) e.0 (knows slots) e.1) e.2 e.3

-- a socket that may not be asked keeps its wait
pub waits_on : (w : Wait) (known : Bool) (t : ℤ) → is_permitted w known t ≡ false → after_asking w known ≡ w
waits_on None known t is = absurd cc
waits_on (Some wait) true t is = absurd cc
waits_on (Some wait) false t is = refl

-- the wait after it was decided stands at its place
pub decided_wait : (ws : List Wait) (i : ℕ) (known : Bool) →
    get_or (slice_set ws i (after_asking (get_or ws i None) known)) i None ≡ after_asking (get_or ws i None) known
decided_wait [] i known = refl
decided_wait (w ∷ ws) zero known = refl
decided_wait (w ∷ ws) (suc i) known = decided_wait ws i known

-- what stands at a place, put there again
places_back : (ps : List Storage) (i : ℕ) (s : Socket) → option_and_then (λ place. place) (slice_get ps i) ≡ Some s → slice_set ps i (Some s) ≡ ps
places_back [] i s is = refl
places_back (p ∷ ps) zero s is = ap (λ (q : Storage). q ∷ ps) (sym is)
places_back (p ∷ ps) (suc i) s is = ap (λ (rest : List Storage). p ∷ rest) (places_back ps i s is)

or_false : (b : Bool) → (b || false) ≡ b
or_false true = refl
or_false false = refl

waits_back : (ws : List Wait) (i : ℕ) → get_or ws i None ≡ None → slice_set ws i None ≡ ws
waits_back [] i is = refl
waits_back (w ∷ ws) zero is = ap (λ (v : Wait). v ∷ ws) (sym is)
waits_back (w ∷ ws) (suc i) is = ap (λ (rest : List Wait). w ∷ rest) (waits_back ws i is)

-- a place that may be asked has a socket
there : (c : Context) (sockets mid : SocketSet) (i : ℕ) (permitted : Bool) →
    permitted ≡ true → IsPermitted c sockets i permitted mid → socket_at mid i ≡ None → ⊥
there c sockets mid i permitted allowed (NoSocket none isn_t same) free = absurd cc
there c sockets mid i permitted allowed (OfSocket s known some knows is same) free =
    let both : Some s ≡ None = sym some ∙ sym (ap (λ (x : SocketSet). socket_at x i) same) ∙ free in
    absurd cc

-- the turn of a place whose socket doesn't wait and has nothing to send comes to nothing
pub idle_turn : (c : Context) (slots : Slots) (sockets : SocketSet) (i : ℕ) →
    i < length sockets.places → IsIdle sockets i → HasIdleTurn (host_in c slots sockets) i
idle_turn c slots sockets i within rests = by (socket_at sockets i) refl rests where
  by : (o : Option Socket) → socket_at sockets i ≡ o → IfSome o (λ s. (kinds.poll_at s ≡ Ingress) × (wait_at sockets i ≡ None)) →
      HasIdleTurn (host_in c slots sockets) i
  by None none rests = Free (free_slot (slice_get sockets.places i) none (inside sockets.places i within)) refl refl refl refl
  by (Some s) some rests =
      let no_wait = rests.1 in
      let q = socket_quiet (source_for c.ip_addrs.items) s c.moment c.timely.low (rw rests.0 tt) in
      let back : with_wait (with_place sockets i (Some s)) i None ≡ sockets =
      ap (λ (ps : List Storage). with_wait (record sockets { places = ps }) i None) (places_back sockets.places i s some)
      ∙ ap (λ (ws : List Wait). record sockets { waits = ws }) (waits_back sockets.waits i no_wait) in
      Served s s true (host_in c slots sockets) (taken_place (slice_get sockets.places i) s some) (rw no_wait tt) (rw no_wait refl)
      (Silent (ap (option_and_then packet_of) q.0) refl refl refl refl (sym q.1)) (rw no_wait (ap (host_in c slots) (sym back)))

module _ {D : Type 0} {tells : D → List Event → D → Type 0} where
  -- a place that isn't asked has its turn for nothing
  pub not_asked : {d : D} (c : Context) (slots : Slots) (sockets new : SocketSet) (i : ℕ) (permitted : Bool) →
      tells d [] d → i < length sockets.places → permitted ≡ false →
      IsPermitted c sockets i permitted new → RefinesTelling tells d d (Serves i Idle (host_in c slots sockets)) (host_in c slots new)
  not_asked c slots sockets new i permitted quiet within refused (NoSocket none isn_t same) =
      rw same (record {
        told = [];
        notes = [];
        tells_it = quiet;
        follows = Free (free_slot (slice_get sockets.places i) none (inside sockets.places i within)) refl refl refl refl;
      })
  not_asked c slots sockets new i permitted quiet within refused (OfSocket s known some knows is same) =
      let not_permitted : is_permitted (wait_at sockets i) known c.moment ≡ false = sym is ∙ refused in
      let unchanged : new ≡ sockets = same ∙ ap (with_wait sockets i) (waits_on (wait_at sockets i) known c.moment not_permitted)
      ∙ ap (λ (ws : List Wait). record sockets { waits = ws }) (set-get_or sockets.waits i None) in
      rw unchanged (record {
        told = [];
        notes = [];
        tells_it = quiet;
        follows = Waits s known (taken_place (slice_get sockets.places i) s some) (knows slots) not_permitted refl refl refl refl;
      })

  -- a place whose socket doesn't wait and has nothing to send has its turn for nothing
  pub idle_served : {d : D} (c : Context) (slots : Slots) (sockets : SocketSet) (i : ℕ) →
      tells d [] d → i < length sockets.places → IsIdle sockets i →
      RefinesTelling tells d d (Serves i Idle (host_in c slots sockets)) (host_in c slots sockets)
  idle_served c slots sockets i quiet within rests =
      record { told = []; notes = []; tells_it = quiet; follows = idle_turn c slots sockets i within rests }

  -- the socket of a place had its turn, and waits or not from then on
  was_asked : {d e : D} (c c' : Context) (s s' : Socket) (t : Turn) (slots : Slots) (sockets mid new : SocketSet) (i : ℕ) (permitted : Bool) →
      permitted ≡ true →
      IsPermitted c sockets i permitted mid → Some s ≡ socket_at mid i → RefinesTelling tells d e (HasTurn s t s' c) c' →
      new ≡ with_wait (with_place mid i (Some s')) i (wait_after t c.moment (wait_at (with_place mid i (Some s')) i)) →
      RefinesTelling tells d e (Serves i t (host_in c slots sockets)) (host_in c' slots new)
  was_asked c c' s s' t slots sockets mid new i permitted allowed (NoSocket none isn_t same) there turned changed = absurd cc
  was_asked c c' s s' t slots sockets mid new i permitted allowed (OfSocket r known some knows is same) there turned changed =
      let wait = after_asking (wait_at sockets i) known in
      let stays : wait_at mid i ≡ wait = ap (λ (x : SocketSet). wait_at x i) same ∙ decided_wait sockets.waits i known in
      let at_place : socket_at sockets i ≡ Some s = ap (λ (x : SocketSet). socket_at x i) (sym same) ∙ sym there in
      let whole : new ≡ with_wait (with_place sockets i (Some s')) i (wait_after t c.moment wait) =
      changed
      ∙ ap (λ (w : Wait). with_wait (with_place mid i (Some s')) i (wait_after t c.moment w)) stays
      ∙ ap (λ (x : SocketSet). with_wait (with_place x i (Some s')) i (wait_after t c.moment wait)) same
      ∙ ap (λ (ws : List Wait). record (with_place sockets i (Some s')) { waits = ws }) (set-set sockets.waits i wait (wait_after t c.moment wait))
      in
      record {
        told = turned.told;
        notes = turned.notes;
        tells_it = turned.tells_it;
        follows = Served s s' known (host_in c' slots sockets) (taken_place (slice_get sockets.places i) s at_place) (knows slots) (sym is ∙ allowed)
            (turned.follows slots sockets) (ap (host_in c' slots) whole);
      }

  -- and so, whatever its kind
  pub was_served : {d e : D} (c c' : Context) (t : Turn) (slots : Slots) (sockets mid turned new : SocketSet) (i : ℕ) (permitted : Bool) →
      permitted ≡ true → IsPermitted c sockets i permitted mid →
      IfSome (socket_at mid i)
      (λ s. (after : Socket) × RefinesTelling tells d e (HasTurn s t after c) c' × (turned ≡ with_place mid i (Some after))) →
      new ≡ with_wait turned i (wait_after t c.moment (wait_at turned i)) →
      RefinesTelling tells d e (Serves i t (host_in c slots sockets)) (host_in c' slots new)
  was_served {d} {e} c c' t slots sockets mid turned new i permitted allowed decided had changed = by (socket_at mid i) refl had where
    by : (o : Option Socket) → socket_at mid i ≡ o →
        IfSome o (λ s. (after : Socket) × RefinesTelling tells d e (HasTurn s t after c) c' × (turned ≡ with_place mid i (Some after))) →
        RefinesTelling tells d e (Serves i t (host_in c slots sockets)) (host_in c' slots new)
    by None none had = absurd (there c sockets mid i permitted allowed decided none)
    by (Some s) some had =
        was_asked c c' s had.0 t slots sockets mid new i permitted allowed decided (sym some) had.1
        (changed ∙ ap (λ (x : SocketSet). with_wait x i (wait_after t c.moment (wait_at x i))) had.2)

  pub none_served : {d : D} (H : Host) → tells d [] d → RefinesTelling tells d d (Walks H 0 true false) H
  none_served H quiet = record { told = []; notes = []; tells_it = quiet; follows = Begins }

  pub one_served : {d m e : D} {old mid new : Host} {n : ℕ} {changed : Bool} →
      ((a b c : D) (xs ys : List Event) → tells a xs b → tells b ys c → tells a (xs ++ ys) c) →
      (t : Turn) → RefinesTelling tells d m (Walks old n true changed) mid → RefinesTelling tells m e (Serves n t mid) new → is_exhausted t ≡ false →
      RefinesTelling tells d e (Walks old (n + 1) true (changed || is_done t)) new
  one_served {d} {m} {e} {new = new} tells_on t so one granted = record {
    told = so.told ++ one.told;
    notes = so.notes ++ one.notes;
    tells_it = tells_on d m e so.told one.told so.tells_it one.tells_it;
    follows = Goes t one.told one.notes new so.follows one.follows granted;
  }

  -- over places whose turns come to nothing a walk goes on for nothing
  pub passed : {d m : D} {old new : Host} {changed : Bool} →
      ((a b c : D) (xs ys : List Event) → tells a xs b → tells b ys c → tells a (xs ++ ys) c) → tells m [] m →
      (from to : ℕ) → from ≤ to → ((i : ℕ) → from ≤ i → i < to → HasIdleTurn new i) →
      RefinesTelling tells d m (Walks old from true changed) new → RefinesTelling tells d m (Walks old to true changed) new
  passed {d} {m} {old} {new} {changed} tells_on quiet from to behind idle so = walk (to - from) from (omega arith) idle so where
    at : ℕ → Type 0
    at n = RefinesTelling tells d m (Walks old n true changed) new

    walk : (k n : ℕ) → n + k ≡ to → ((i : ℕ) → n ≤ i → i < to → HasIdleTurn new i) → at n → at to
    walk zero n is idle so = subst at (omega (arith, is)) so
    walk (suc k) n is idle so =
        let one : RefinesTelling tells m m (Serves n Idle new) new =
        record { told = []; notes = []; tells_it = quiet; follows = idle n (omega arith) (omega (arith, is)) } in
        let next : at (n + 1) = subst (λ (b : Bool). RefinesTelling tells d m (Walks old (n + 1) true b) new)
        (or_false changed) (one_served tells_on Idle so one refl) in
        walk k (n + 1) (omega (arith, is)) (λ i after. idle i (omega (arith, after))) next

  pub one_refused : {d m e : D} {old mid new : Host} {n : ℕ} {changed : Bool} →
      ((a b c : D) (xs ys : List Event) → tells a xs b → tells b ys c → tells a (xs ++ ys) c) →
      (t : Turn) → RefinesTelling tells d m (Walks old n true changed) mid → RefinesTelling tells m e (Serves n t mid) new → is_exhausted t ≡ true →
      RefinesTelling tells d e (SocketEgress old changed) new
  one_refused {d} {m} {e} {new = new} {n = n} tells_on t so one is = record {
    told = so.told ++ one.told;
    notes = so.notes ++ one.notes;
    tells_it = tells_on d m e so.told one.told so.tells_it one.tells_it;
    follows = Stopped (n + 1) (Stops t one.told one.notes new so.follows one.follows is);
  }

  pub all_served : {d e : D} {old new : Host} {n : ℕ} {changed : Bool} → RefinesTelling tells d e (Walks old n true changed) new →
      n ≡ length old.sockets.places → RefinesTelling tells d e (SocketEgress old changed) new
  all_served {old = old} {new = new} {changed = changed} so all = record {
    told = so.told;
    notes = so.notes;
    tells_it = so.tells_it;
    follows = Whole (subst (λ n. Walks old n true changed so.told so.notes new) all so.follows);
  }
