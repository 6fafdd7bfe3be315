-- What a turn does to the connection whose turn it is.
use Rattle.std.proofs.Common.{◌≡◌, ◌∙◌, ℕ, ◌<◌, Bool, true, false, List, [], ◌∷◌, ◌++◌, length, get_or, Option, Some, None}
use Rattle.std.proofs.Common.{refl, sym, subst}
use Rattle.std.specs.Prelude.{nat_lt, nat_le, if◌then◌else◌}
use Rattle.ip_address.specs.declared.cidr.IpCidr.{IpCidr}
use Rattle.socket_set.specs.SocketSet.{Sockets}
use Rattle.tcp_machine.specs.Arrivals.{is_closed}
use Rattle.tcp_machine.specs.Calls.{after_abort}
use Rattle.tcp_machine.specs.Connection.{Connection}
use Rattle.tcp_machine.specs.Instants.{later}
use Rattle.tcp_machine.specs.Outgoing as outgoing
use Rattle.tcp_machine.specs.States.{is_synchronized}
use Rattle.tcp_machine.specs.Timers.{after_timers}
use Rattle.tcp_connection.specs.Actions.{after_all_of, after_sending}
use Rattle.tcp_host.specs.Listener as listener
use Rattle.tcp_host.specs.declared.slot.Owner.{Owner}
use Rattle.tcp_host.specs.declared.slot.Owner.TheVariants.{Nobody, HalfOpen, Waiting, Program, Itself}
use Rattle.tcp_host.specs.declared.turns.Turn.{Turn}
use Rattle.tcp_host.specs.declared.turns.Turn.TheVariants.{Idle, Quiet, Sends}
use Rattle.tcp_host.specs.Challenges.{is_challenge_left, slot_after_sending}
use Rattle.tcp_host.specs.Host.{Host, slot_at, connection_at, with_slot, with_connection, with_owner, with_alarm, vacated, listener_at, with_listener}
use Rattle.tcp_host.specs.Turns.{expired, completed_in, completed, advanced_by, ended_in, finished_by, due_after, gives_way, taken_until, waiting_until}
use Rattle.tcp_host.specs.Turns.{rested, limited, limited_by, is_over, advanced, before_sending}
use Rattle.tcp_host.specs.Turns.{left_at, turn_by, turn_asked, sent_at, sent_if, postponed, aborted_at, aborted_if, TakesTurn}
use Rattle.tcp_laws.specs.Machines.{Act, Expires, Aborts}
use Rattle.tcp_laws.specs.Machines as machines
use Rattle.tcp_host_laws.specs.Lives.{Life, Does, after_events, Tells}
use Rattle.tcp_host_laws.specs.Turns.{MayFollow}
use Rattle.tcp_host_laws.proofs.LifeLemmas.{after_of, side_with, IsLater, Rests, Steps, rests_then, rests_steps, steps_rests, tells_step}
use Rattle.tcp_host_laws.proofs.HostSteps.{same, owner_rests, alarm_rests, listener_rests, vacated_rests, slot_steps, connection_steps, without, noted_rests, alarm_noted_rests}
use Rattle.tcp_host.specs.News.{seen_at}
use Rattle.tcp_host_laws.proofs.Growing.{after_both, follow_both}
use Rattle.tcp_host_laws.proofs.Receiving.{Follows, rests}

-- what is sent, as both say it
pub all_sent : (now : ℕ) (o : Option outgoing.Action) (c : Connection) →
    after_all_of now o c ≡ (machines.after_sending now o (side_with c)).connection
all_sent now None c = refl
all_sent now (Some m) c = refl

pub sends_of : (now : ℕ) (c : Connection) → after_sending now c ≡ after_of 0 (machines.Sends now) c
sends_of now c = all_sent now (outgoing.action now c) c

pub sends_later : (now : ℕ) → IsLater (machines.Sends now)
sends_later now number c = refl

-- the end of a connection
ended_rests : (place index : ℕ) (h : Host) → Rests h (ended_in place index h)
ended_rests place index h = by (nat_lt index (length h.listeners)) where
  by : (b : Bool) → Rests h (if b then with_listener index (listener.after_end place (listener_at index h)) h else h)
  by true = listener_rests index (listener.after_end place (listener_at index h)) h
  by false = same h

finished_rests : (owner : Owner) (place : ℕ) (h : Host) → Rests h (finished_by owner place h)
finished_rests Program place h = record { slots = refl; connections = λ q. refl; ends = without h.ends place }
finished_rests (HalfOpen index) place h =
    rests_then h (ended_in place index h) (vacated place (ended_in place index h)) (ended_rests place index h) (vacated_rests place (ended_in place index h))
finished_rests (Waiting index) place h =
    rests_then h (ended_in place index h) (vacated place (ended_in place index h)) (ended_rests place index h) (vacated_rests place (ended_in place index h))
finished_rests Nobody place h = vacated_rests place h
finished_rests (Itself until) place h = vacated_rests place h

waiting_rests : (b : Bool) (place instant : ℕ) (h : Host) →
    Rests h (if b then taken_until place instant (with_alarm place instant h) else with_alarm place instant h)
waiting_rests true place instant h = record { slots = refl; connections = λ q. refl; ends = λ q e is. is }
waiting_rests false place instant h = alarm_rests place instant h

rested_rests : (place now : ℕ) (h : Host) → Rests h (rested place now h)
rested_rests place now h = by (is_closed (connection_at place h).state) where
  by : (b : Bool) →
      Rests h (if b then finished_by (slot_at place h).owner place h else waiting_until place (due_after now (slot_at place h)) h)
  by true = finished_rests (slot_at place h).owner place h
  by false = waiting_rests (gives_way (slot_at place h)) place (due_after now (slot_at place h)) h

-- it is due at another instant
pub postpones : (place instant : ℕ) (h : Host) → Rests h (postponed place instant h)
postpones place instant h = by (nat_lt place (length h.slots)) where
  by : (b : Bool) → Rests h (if b then with_alarm place instant h else h)
  by true = alarm_rests place instant h
  by false = same h

module _ {L : Type 0} (checked : Bool) (own : List IpCidr) (sockets : Sockets L) where
  -- one after another
  pub follows_then : (ls : List Life) (old mid new : Host) (a : Follows checked own sockets ls old mid) →
      Follows checked own sockets (after_events a.events ls) mid new → Follows checked own sockets ls old new
  follows_then ls old mid new a b = record {
    events = a.events ++ b.events;
    follow = follow_both checked own sockets ls a.events b.events a.follow b.follow;
    tells = subst (λ (ks : List Life). Tells ks new) (sym (after_both a.events b.events ls)) b.tells;
    slots = b.slots ∙ a.slots;
  }

  -- timers, aborts and what is sent need nothing that has come
  may_abort : (ls : List Life) (place : ℕ) → MayFollow checked own sockets ls (Does place Aborts ∷ [])
  may_abort ls place = (λ l is. tt, tt)

  may_expire : (ls : List Life) (place now : ℕ) → MayFollow checked own sockets ls (Does place (Expires now) ∷ [])
  may_expire ls place now = (λ l is. tt, tt)

  pub may_send : (ls : List Life) (place now : ℕ) → MayFollow checked own sockets ls (Does place (machines.Sends now) ∷ [])
  may_send ls place now = (λ l is. tt, tt)

  pub stepped : (ls : List Life) (old new : Host) (place : ℕ) (act : Act) → Tells ls old → IsLater act →
      MayFollow checked own sockets ls (Does place act ∷ []) →
      Steps place (after_of 0 act (connection_at place old)) old new → Follows checked own sockets ls old new
  stepped ls old new place act t later may s = record {
    events = Does place act ∷ [];
    follow = may;
    tells = tells_step place act ls old new later t s;
    slots = s.slots;
  }

  pub aborts : (place : ℕ) (ls : List Life) (old : Host) → Tells ls old → Follows checked own sockets ls old (aborted_if place old)
  aborts place ls old t = by (nat_lt place (length old.slots)) where
    by : (b : Bool) → Follows checked own sockets ls old (if b then aborted_at place old else old)
    by true =
        let c = after_abort (connection_at place old) in
        let mid = with_connection place c old in
        stepped ls old (aborted_at place old) place Aborts t (λ number x. refl) (may_abort ls place)
        (steps_rests place c old mid (aborted_at place old) (connection_steps place c old) (alarm_noted_rests place 0 0 (seen_at place old) mid))
    by false = rests checked own sockets ls old t old (same old)

  pub sent_steps : (place now : ℕ) (h : Host) → Steps place (after_of 0 (machines.Sends now) (connection_at place h)) h (sent_at place now h)
  sent_steps place now h =
      let s = slot_after_sending now (slot_at place h) in
      let mid = with_slot place s h in
      subst (λ (x : Connection). Steps place x h (sent_at place now h)) (sends_of now (connection_at place h))
      (steps_rests place s.connection h mid (sent_at place now h) (slot_steps place s h) (alarm_rests place now mid))

  pub sends : (place now : ℕ) (ls : List Life) (old : Host) → Tells ls old → Follows checked own sockets ls old (sent_if place now old)
  sends place now ls old t = by (nat_lt place (length old.slots)) where
    by : (b : Bool) → Follows checked own sockets ls old (if b then sent_at place now old else old)
    by true = stepped ls old (sent_at place now old) place (machines.Sends now) t (sends_later now) (may_send ls place now) (sent_steps place now old)
    by false = rests checked own sockets ls old t old (same old)

  leaves : (place now : ℕ) (ls : List Life) (old : Host) → Tells ls old → Follows checked own sockets ls old (left_at place now old)
  leaves place now ls old t =
      let c = after_sending now (connection_at place old) in
      let mid = with_connection place c old in
      stepped ls old (left_at place now old) place (machines.Sends now) t (sends_later now) (may_send ls place now)
      (subst (λ (x : Connection). Steps place x old (left_at place now old)) (sends_of now (connection_at place old))
      (steps_rests place c old mid (left_at place now old) (connection_steps place c old) (alarm_rests place now mid)))

  -- timers end, and a handshake may be complete
  expires : (place now : ℕ) (ls : List Life) (old : Host) → Tells ls old → Follows checked own sockets ls old (expired place now old)
  expires place now ls old t =
      stepped ls old (expired place now old) place (Expires now) t (λ number c. refl) (may_expire ls place now)
      (connection_steps place (after_timers now (connection_at place old)) old)

  completes_in : (place index : ℕ) (ls : List Life) (old : Host) → Tells ls old → Follows checked own sockets ls old (completed_in place index old)
  completes_in place index ls old t = by (listener.has_room (listener_at index old)) where
    by : (b : Bool) → Follows checked own sockets ls old
        (if b then with_owner place (Waiting index) (with_listener index (listener.after_handshake place (listener_at index old)) old)
        else with_connection place (after_abort (connection_at place old))
        (with_owner place (Itself None) (with_listener index (listener.after_handshake place (listener_at index old)) old)))
    by true =
        let l = with_listener index (listener.after_handshake place (listener_at index old)) old in
        rests checked own sockets ls old t (with_owner place (Waiting index) l)
        (rests_then old l (with_owner place (Waiting index) l) (listener_rests index (listener.after_handshake place (listener_at index old)) old)
        (owner_rests place (Waiting index) l))
    by false =
        let l = with_listener index (listener.after_handshake place (listener_at index old)) old in
        let o = with_owner place (Itself None) l in
        let c = after_abort (connection_at place old) in
        stepped ls old (with_connection place c o) place Aborts t (λ number x. refl) (may_abort ls place)
        (rests_steps place c old o (with_connection place c o)
        (rests_then old l o (listener_rests index (listener.after_handshake place (listener_at index old)) old) (owner_rests place (Itself None) l))
        (connection_steps place c o))

  completes : (place index : ℕ) (ls : List Life) (old : Host) → Tells ls old → Follows checked own sockets ls old (completed place index old)
  completes place index ls old t = by (nat_lt index (length old.listeners)) where
    by : (b : Bool) → Follows checked own sockets ls old (if b then completed_in place index old else old)
    by true = completes_in place index ls old t
    by false = rests checked own sockets ls old t old (same old)

  advances_if : (b : Bool) (place index : ℕ) (ls : List Life) (old : Host) → Tells ls old →
      Follows checked own sockets ls old (if b then completed place index old else old)
  advances_if true place index ls old t = completes place index ls old t
  advances_if false place index ls old t = rests checked own sockets ls old t old (same old)

  advances_by : (owner : Owner) (place : ℕ) (ls : List Life) (old : Host) → Tells ls old →
      Follows checked own sockets ls old (advanced_by owner place old)
  advances_by (HalfOpen index) place ls old t = advances_if (is_synchronized (connection_at place old).state) place index ls old t
  advances_by Nobody place ls old t = rests checked own sockets ls old t old (same old)
  advances_by (Waiting index) place ls old t = rests checked own sockets ls old t old (same old)
  advances_by Program place ls old t = rests checked own sockets ls old t old (same old)
  advances_by (Itself until) place ls old t = rests checked own sockets ls old t old (same old)

  -- its time ends since its program let go of it
  limits_if : (b : Bool) (place : ℕ) (ls : List Life) (old : Host) → Tells ls old →
      Follows checked own sockets ls old (if b then with_connection place (after_abort (connection_at place old)) old else old)
  limits_if true place ls old t =
      let c = after_abort (connection_at place old) in
      stepped ls old (with_connection place c old) place Aborts t (λ number x. refl) (may_abort ls place) (connection_steps place c old)
  limits_if false place ls old t = rests checked own sockets ls old t old (same old)

  limits_by : (owner : Owner) (place now : ℕ) (ls : List Life) (old : Host) → Tells ls old →
      Follows checked own sockets ls old (limited_by owner place now old)
  limits_by (Itself None) place now ls old t =
      let o = Itself (Some (later now old.config.release_timeout)) in
      rests checked own sockets ls old t (with_owner place o old) (owner_rests place o old)
  limits_by (Itself (Some limit)) place now ls old t = limits_if (nat_le limit now) place ls old t
  limits_by Nobody place now ls old t = rests checked own sockets ls old t old (same old)
  limits_by (HalfOpen index) place now ls old t = rests checked own sockets ls old t old (same old)
  limits_by (Waiting index) place now ls old t = rests checked own sockets ls old t old (same old)
  limits_by Program place now ls old t = rests checked own sockets ls old t old (same old)

  before : (place now : ℕ) (ls : List Life) (old : Host) → Tells ls old → Follows checked own sockets ls old (before_sending place now old)
  before place now ls old t =
      let one = expired place now old in
      let two = advanced place one in
      let a = expires place now ls old t in
      let b = follows_then ls old one two a (advances_by (slot_at place one).owner place (after_events a.events ls) one a.tells) in
      let three = limited place now two in
      let c = follows_then ls old two three b (limits_by (slot_at place two).owner place now (after_events b.events ls) two b.tells) in
      follows_then ls old three (before_sending place now old) c
      (rests checked own sockets (after_events c.events ls) three c.tells (before_sending place now old)
      (noted_rests place now (seen_at place old) three))

  -- a turn
  asked_by : (o : Option outgoing.Action) (place now : ℕ) (ls : List Life) (old : Host) → Tells ls old →
      Follows checked own sockets ls old (turn_by o place now old).1
  asked_by None place now ls old t = rests checked own sockets ls old t (rested place now old) (rested_rests place now old)
  asked_by (Some a) place now ls old t = rests checked own sockets ls old t old (same old)

  abbrev turn_left : Bool → (place now : ℕ) → Host → Turn × Host
  turn_left b place now h = if b then (Quiet, left_at place now h) else turn_by (outgoing.action now (connection_at place h)) place now h

  asked_left : (b : Bool) (place now : ℕ) (ls : List Life) (old : Host) → Tells ls old →
      Follows checked own sockets ls old (turn_left b place now old).1
  asked_left true place now ls old t = leaves place now ls old t
  asked_left false place now ls old t = asked_by (outgoing.action now (connection_at place old)) place now ls old t

  abbrev turn_over : Bool → (place now : ℕ) → Host → Turn × Host
  turn_over b place now h = if b then (Quiet, vacated place h) else turn_asked place now (before_sending place now h)

  over : (b : Bool) (place now : ℕ) (ls : List Life) (old : Host) → Tells ls old →
      Follows checked own sockets ls old (turn_over b place now old).1
  over true place now ls old t = rests checked own sockets ls old t (vacated place old) (vacated_rests place old)
  over false place now ls old t =
      let a = before place now ls old t in
      let mid = before_sending place now old in
      follows_then ls old mid (turn_asked place now mid).1 a
      (asked_left (is_challenge_left now (slot_at place mid)) place now (after_events a.events ls) mid a.tells)

  abbrev turn_early : Bool → (place now : ℕ) → Host → Turn × Host
  turn_early b place now h = if b then (Idle, h) else turn_over (is_over now (slot_at place h)) place now h

  early : (b : Bool) (place now : ℕ) (ls : List Life) (old : Host) → Tells ls old →
      Follows checked own sockets ls old (turn_early b place now old).1
  early true place now ls old t = rests checked own sockets ls old t old (same old)
  early false place now ls old t = over (is_over now (slot_at place old)) place now ls old t

  pub takes : (now : ℕ) (ls : List Life) (old : Host) (turn : Turn) (new : Host) → Tells ls old → TakesTurn now old turn new →
      Follows checked own sockets ls old new
  takes now ls old turn new t k =
      subst (λ (x : Turn × Host). Follows checked own sockets ls old x.1) (sym k.is)
      (early (nat_lt now (get_or old.alarms k.place 0)) k.place now ls old t)

-- whose turn it is
abbrev IsAt : ℕ → Turn → Type 0
IsAt place Idle = Unit {0}
IsAt place Quiet = Unit {0}
IsAt place (Sends q a) = place ≡ q

at_by : (o : Option outgoing.Action) (place now : ℕ) (h : Host) → IsAt place (turn_by o place now h).0
at_by None place now h = tt
at_by (Some a) place now h = refl

abbrev left_turn : Bool → (place now : ℕ) → Host → Turn × Host
left_turn b place now h = if b then (Quiet, left_at place now h) else turn_by (outgoing.action now (connection_at place h)) place now h

at_left : (b : Bool) (place now : ℕ) (h : Host) → IsAt place (left_turn b place now h).0
at_left true place now h = tt
at_left false place now h = at_by (outgoing.action now (connection_at place h)) place now h

abbrev over_turn : Bool → (place now : ℕ) → Host → Turn × Host
over_turn b place now h = if b then (Quiet, vacated place h) else turn_asked place now (before_sending place now h)

at_over : (b : Bool) (place now : ℕ) (h : Host) → IsAt place (over_turn b place now h).0
at_over true place now h = tt
at_over false place now h =
    at_left (is_challenge_left now (slot_at place (before_sending place now h))) place now (before_sending place now h)

abbrev early_turn : Bool → (place now : ℕ) → Host → Turn × Host
early_turn b place now h = if b then (Idle, h) else over_turn (is_over now (slot_at place h)) place now h

at_early : (b : Bool) (place now : ℕ) (h : Host) → IsAt place (early_turn b place now h).0
at_early true place now h = tt
at_early false place now h = at_over (is_over now (slot_at place h)) place now h

pub turn_within : (now : ℕ) (old new : Host) (place : ℕ) (a : _) → TakesTurn now old (Sends place a) new → place < length old.slots
turn_within now old new place a k =
    let at : IsAt k.place (Sends place a) =
    subst (λ (x : Turn × Host). IsAt k.place x.0) (sym k.is) (at_early (nat_lt now (get_or old.alarms k.place 0)) k.place now old) in
    subst (λ (n : ℕ). n < length old.slots) at k.within
