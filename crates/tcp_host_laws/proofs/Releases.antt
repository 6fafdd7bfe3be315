-- What becomes of a connection that its program let go of.
use Rattle.std.proofs.Common.{◌≡◌, ◌∙◌, ℕ, ◌<◌, ◌≤◌, Bool, true, false, List, [], ◌∷◌, length, get_or, slice_set, Option, Some, None, inl, inr}
use Rattle.std.proofs.Common.{refl, sym, ap, subst, arith}
use Rattle.std.specs.Prelude.{nat_lt, nat_le, min, ◌==◌, ◌&&◌, ◌||◌, ◌⊎◌, if◌then◌else◌}
use Rattle.std.specs.List.{AllByRecursion}
use Rattle.std.proofs.lemmas.Bool.{cases_eq}
use Rattle.std.proofs.lemmas.Bool.Decides.{nat_tests}
use Rattle.std.proofs.lemmas.List.{length-set, get_or-set_same}
use Rattle.tcp_machine.specs.Acknowledgements.{empty_position}
use Rattle.tcp_machine.specs.Arrivals.{is_closed, is_syn_received, ended, aborted}
use Rattle.tcp_machine.specs.Calls.{after_abort}
use Rattle.tcp_machine.specs.Connection.{Connection}
use Rattle.tcp_machine.specs.Due.{due_at}
use Rattle.tcp_machine.specs.Instants.{later, has_passed}
use Rattle.tcp_machine.specs.Outgoing as outgoing
use Rattle.tcp_machine.specs.Outgoing.{SendReset, SendSyn, SendNext, SendAgain, SendProbe, SendKeepAlive, SendAck}
use Rattle.tcp_machine.specs.Positions.{number_at}
use Rattle.tcp_machine.specs.declared.timers.Ending.TheVariants as ending
use Rattle.tcp_machine.specs.declared.timers.Pending.TheVariants.{Reset}
use Rattle.tcp_machine.specs.States.{is_synchronized}
use Rattle.tcp_machine.specs.Timers.{after_timers}
use Rattle.tcp_connection.specs.Actions.{after_sending, after_all_of}
use Rattle.tcp_host.specs.Challenges.{is_challenge_left, slot_after_sending}
use Rattle.tcp_host.specs.Listener as listener
use Rattle.tcp_host.specs.declared.calls.Handle.{Handle}
use Rattle.tcp_host.specs.declared.slot.Owner.{Owner}
use Rattle.tcp_host.specs.declared.slot.Owner.TheVariants.{Nobody, HalfOpen, Waiting, Program, Itself}
use Rattle.tcp_host.specs.declared.slot.Slot.{Slot}
use Rattle.tcp_host.specs.declared.turns.Turn.{Turn}
use Rattle.tcp_host.specs.declared.turns.Turn.TheVariants.{Idle, Quiet}
use Rattle.tcp_host.specs.Handles.{is_named, ends_by_itself, released}
use Rattle.tcp_host.specs.News.{noted, seen_at}
use Rattle.tcp_host.specs.Host.{Host, is_program, never, no_slot, is_let_go, limit_of, slot_at, connection_at, with_slot, with_connection, with_owner, with_alarm, vacated, listener_at, with_listener}
use Rattle.tcp_host.specs.Turns.{TakesTurn, over_at, is_over, expired, completed_in, completed, advanced_by, advanced, limited_by, limited, before_sending}
use Rattle.tcp_host.specs.Turns.{turn_by, turn_asked, turn_at, left_at, ended_in, finished_by, rested, again_at, not_after, due_after, gives_way, taken_until, waiting_until}
use Rattle.tcp_host.specs.Turns.{sent_at, sent_if, postponed, aborted_at, aborted_if, time_for_a_reset}
use Rattle.tcp_host_laws.specs.Releases.{Deed, Turned, Again, Other, Is, Called, Received, Waited, TookTurn, Sent, Postponed, Aborted}
use Rattle.tcp_host_laws.specs.Releases.{owner_at, IsHeld, Held, Ends, Goes, IsNoTurn, IsBefore, IsBy, limit, over, ReleasedPlacesEnd}
use Rattle.tcp_host_laws.proofs.HostSteps.{in_or_past, past_set}
use Rattle.tcp_host_laws.proofs.Held.{IsAt, IsGone, Then, within_by, staying, at_slot, at_connection, at_alarm, other_slot, then_vacated, called, received}

is_due : (now instant : ℕ) → instant ≤ now → nat_lt now instant ≡ false
is_due now instant e = grind (arith, nat_tests)

is_early : (now instant : ℕ) → now < instant → nat_lt now instant ≡ true
is_early now instant e = grind (arith, nat_tests)

has_come : (now instant : ℕ) → instant ≤ now → nat_le instant now ≡ true
has_come now instant e = grind (arith, nat_tests)

before_or_not : (now instant : ℕ) → (now < instant) ⊎ (instant ≤ now)
before_or_not now instant = in_or_past now instant

min_below : (t l : ℕ) → min t l ≤ l
min_below t l = grind arith

-- a turn, by whether something is due and whether the place's time is over
abbrev turned : (early late : Bool) → (place now : ℕ) → Host → Turn × Host
turned early late place now h =
    if early then (Idle, h) else if late then (Quiet, vacated place h) else turn_asked place now (before_sending place now h)

is_idle : (early late : Bool) (place now : ℕ) (h : Host) → early ≡ true → (turned early late place now h).1 ≡ h
is_idle true late place now h e = refl
is_idle false late place now h e = absurd cc

is_vacated : (early late : Bool) (place now : ℕ) (h : Host) → early ≡ false → late ≡ true → (turned early late place now h).1 ≡ vacated place h
is_vacated false true place now h e o = refl
is_vacated true late place now h e o = absurd cc
is_vacated false false place now h e o = absurd cc

goes_on : (early late : Bool) (place now : ℕ) (h : Host) → early ≡ false → late ≡ false →
    (turned early late place now h).1 ≡ (turn_asked place now (before_sending place now h)).1
goes_on false false place now h e o = refl
goes_on true late place now h e o = absurd cc
goes_on false true place now h e o = absurd cc

-- who has a place, after its slot became another one
slot_owner : (place : ℕ) (s : Slot) (h : Host) → place < length h.slots → owner_at place (with_slot place s h) ≡ s.owner
slot_owner place s h within = ap (λ (x : Slot). x.owner) (get_or-set_same h.slots place s no_slot within)

vacated_owner : (place : ℕ) (h : Host) → place < length h.slots → owner_at place (vacated place h) ≡ Nobody
vacated_owner place h within = slot_owner place (record (slot_at place h) { owner = Nobody }) h within

module _ (place : ℕ) (Q : ℕ → Type 0) (down : (a b : ℕ) → a ≤ b → Q b → Q a) (zero : Q 0) where
  abbrev At : Option ℕ → Host → Type 0
  At until h = IsAt place Q zero until h

  abbrev Stays : Option ℕ → Host → Type 0
  Stays until h = Then place Q zero until h

  -- a turn of another place
  module _ (until : Option ℕ) (p : ℕ) (ne : place ≡ p → ⊥) where
    o_slot : (s : Slot) (h : Host) → At until h → At until (with_slot p s h)
    o_slot s h at = record { owner = other_slot place Q zero until p s h ne ∙ at.owner; due = at.due }

    o_connection : (h : Host) (c : _) → At until h → At until (with_connection p c h)
    o_connection h c at = o_slot (record (slot_at p h) { connection = c }) h at

    o_owner : (o : Owner) (h : Host) → At until h → At until (with_owner p o h)
    o_owner o h at = o_slot (record (slot_at p h) { owner = o }) h at

    o_alarm : (t : ℕ) (h : Host) → At until h → At until (with_alarm p t h)
    o_alarm t h at = at_alarm place Q zero until p t h (λ e. absurd (ne (sym e))) at

    o_vacated : (h : Host) → At until h → At until (vacated p h)
    o_vacated h at =
        let one = with_slot p (record (slot_at p h) { owner = Nobody }) h in
        let x = o_alarm never one (o_slot (record (slot_at p h) { owner = Nobody }) h at) in
        record { owner = x.owner; due = x.due }

    o_completed_in : (b : Bool) (index : ℕ) (h : Host) → At until h →
        At until (if b then with_owner p (Waiting index) (with_listener index (listener.after_handshake p (listener_at index h)) h)
        else with_connection p (after_abort (connection_at p h))
        (with_owner p (Itself None) (with_listener index (listener.after_handshake p (listener_at index h)) h)))
    o_completed_in true index h at =
        o_owner (Waiting index) (with_listener index (listener.after_handshake p (listener_at index h)) h) (record { owner = at.owner; due = at.due })
    o_completed_in false index h at =
        let l = with_listener index (listener.after_handshake p (listener_at index h)) h in
        o_connection (with_owner p (Itself None) l) (after_abort (connection_at p h))
        (o_owner (Itself None) l (record { owner = at.owner; due = at.due }))

    o_completed : (b : Bool) (index : ℕ) (h : Host) → At until h → At until (if b then completed_in p index h else h)
    o_completed true index h at = o_completed_in (listener.has_room (listener_at index h)) index h at
    o_completed false index h at = at

    o_advanced_if : (b : Bool) (index : ℕ) (h : Host) → At until h → At until (if b then completed p index h else h)
    o_advanced_if true index h at = o_completed (nat_lt index (length h.listeners)) index h at
    o_advanced_if false index h at = at

    o_advanced : (o : Owner) (h : Host) → At until h → At until (advanced_by o p h)
    o_advanced (HalfOpen index) h at = o_advanced_if (is_synchronized (connection_at p h).state) index h at
    o_advanced Nobody h at = at
    o_advanced (Waiting index) h at = at
    o_advanced Program h at = at
    o_advanced (Itself u) h at = at

    o_limited_if : (b : Bool) (h : Host) → At until h → At until (if b then with_connection p (after_abort (connection_at p h)) h else h)
    o_limited_if true h at = o_connection h (after_abort (connection_at p h)) at
    o_limited_if false h at = at

    o_limited : (o : Owner) (now : ℕ) (h : Host) → At until h → At until (limited_by o p now h)
    o_limited (Itself None) now h at = o_owner (Itself (Some (later now h.config.release_timeout))) h at
    o_limited (Itself (Some t)) now h at = o_limited_if (nat_le t now) h at
    o_limited Nobody now h at = at
    o_limited (HalfOpen index) now h at = at
    o_limited (Waiting index) now h at = at
    o_limited Program now h at = at

    o_ended : (b : Bool) (index : ℕ) (h : Host) → At until h →
        At until (if b then with_listener index (listener.after_end p (listener_at index h)) h else h)
    o_ended true index h at = record { owner = at.owner; due = at.due }
    o_ended false index h at = at

    o_finished : (o : Owner) (h : Host) → At until h → At until (finished_by o p h)
    o_finished Program h at = record { owner = at.owner; due = (o_alarm never h at).due }
    o_finished (HalfOpen index) h at = o_vacated (ended_in p index h) (o_ended (nat_lt index (length h.listeners)) index h at)
    o_finished (Waiting index) h at = o_vacated (ended_in p index h) (o_ended (nat_lt index (length h.listeners)) index h at)
    o_finished Nobody h at = o_vacated h at
    o_finished (Itself u) h at = o_vacated h at

    o_waiting : (b : Bool) (t : ℕ) (h : Host) → At until h → At until (if b then taken_until p t (with_alarm p t h) else with_alarm p t h)
    o_waiting true t h at = let x = o_alarm t h at in record { owner = x.owner; due = x.due }
    o_waiting false t h at = o_alarm t h at

    o_rested : (b : Bool) (now : ℕ) (h : Host) → At until h →
        At until (if b then finished_by (slot_at p h).owner p h else waiting_until p (due_after now (slot_at p h)) h)
    o_rested true now h at = o_finished (slot_at p h).owner h at
    o_rested false now h at = o_waiting (gives_way (slot_at p h)) (due_after now (slot_at p h)) h at

    o_asked : (a : Option outgoing.Action) (now : ℕ) (h : Host) → At until h → At until (turn_by a p now h).1
    o_asked None now h at = o_rested (is_closed (connection_at p h).state) now h at
    o_asked (Some a) now h at = at

    o_left : (b : Bool) (now : ℕ) (h : Host) → At until h →
        At until (if b then (Quiet, left_at p now h) else turn_by (outgoing.action now (connection_at p h)) p now h).1
    o_left true now h at =
        o_alarm now (with_connection p (after_sending now (connection_at p h)) h) (o_connection h (after_sending now (connection_at p h)) at)
    o_left false now h at = o_asked (outgoing.action now (connection_at p h)) now h at

    o_before : (now : ℕ) (h : Host) → At until h → At until (before_sending p now h)
    o_before now h at =
        let one = expired p now h in
        let two = advanced p one in
        let a = o_connection h (after_timers now (connection_at p h)) at in
        let x = o_limited (slot_at p two).owner now two (o_advanced (slot_at p one).owner one a) in
        record { owner = x.owner; due = x.due }

    o_turned : (early late : Bool) (now : ℕ) (h : Host) → At until h → At until (turned early late p now h).1
    o_turned true late now h at = at
    o_turned false true now h at = o_vacated h at
    o_turned false false now h at =
        let mid = before_sending p now h in
        o_left (is_challenge_left now (slot_at p mid)) now mid (o_before now h at)

  -- a turn of the place
  module _ (until now : ℕ) (q : Q now) (r : Q until) where
    is_within : (h : Host) → At (Some until) h → place < length h.slots
    is_within h at = within_by place (Some until) h at.owner (in_or_past place (length h.slots))

    due_by : (t : ℕ) (s : Slot) → s.owner ≡ Itself (Some until) → not_after (limit_of s.owner) t ≤ until
    due_by t s is = subst (λ (o : Owner). not_after (limit_of o) t ≤ until) (sym is) (min_below t until)

    waiting : (b : Bool) (t : ℕ) (h : Host) → t ≤ until → At (Some until) h →
        At (Some until) (if b then taken_until place t (with_alarm place t h) else with_alarm place t h)
    waiting true t h le at =
        let x = at_alarm place Q zero (Some until) place t h (λ e. down t until le r) at in record { owner = x.owner; due = x.due }
    waiting false t h le at = at_alarm place Q zero (Some until) place t h (λ e. down t until le r) at

    finished : (h : Host) → At (Some until) h → IsGone place Q zero (finished_by (slot_at place h).owner place h)
    finished h at =
        ap (λ (o : Owner). is_let_go (owner_at place (finished_by o place h))) at.owner
        ∙ ap is_let_go (vacated_owner place h (is_within h at))

    rested_by : (b : Bool) (h : Host) → At (Some until) h →
        Stays (Some until) (if b then finished_by (slot_at place h).owner place h else waiting_until place (due_after now (slot_at place h)) h)
    rested_by true h at = inr (finished h at)
    rested_by false h at =
        inl (waiting (gives_way (slot_at place h)) (due_after now (slot_at place h)) h
        (due_by (again_at now (due_at now (connection_at place h))) (slot_at place h) at.owner) at)

    asked : (a : Option outgoing.Action) (h : Host) → At (Some until) h → Stays (Some until) (turn_by a place now h).1
    asked None h at = rested_by (is_closed (connection_at place h).state) h at
    asked (Some a) h at = inl at

    left : (b : Bool) (h : Host) → At (Some until) h →
        Stays (Some until) (if b then (Quiet, left_at place now h) else turn_by (outgoing.action now (connection_at place h)) place now h).1
    left true h at =
        let c = after_sending now (connection_at place h) in
        inl (at_alarm place Q zero (Some until) place now (with_connection place c h) (λ e. q) (at_connection place Q zero (Some until) place c h at))
    left false h at = asked (outgoing.action now (connection_at place h)) h at

    asks : (h : Host) → At (Some until) h → Stays (Some until) (turn_asked place now h).1
    asks h at = left (is_challenge_left now (slot_at place h)) h at

    aborts_if : (b : Bool) (h : Host) → At (Some until) h →
        At (Some until) (if b then with_connection place (after_abort (connection_at place h)) h else h)
    aborts_if true h at = at_connection place Q zero (Some until) place (after_abort (connection_at place h)) h at
    aborts_if false h at = at

    limits : (h : Host) → At (Some until) h → At (Some until) (limited place now h)
    limits h at =
        subst (λ (o : Owner). At (Some until) (limited_by o place now h)) (sym at.owner) (aborts_if (nat_le until now) h at)

    advances : (h : Host) → At (Some until) h → At (Some until) (advanced place h)
    advances h at = subst (λ (o : Owner). At (Some until) (advanced_by o place h)) (sym at.owner) at

    turns : (early late : Bool) (h : Host) → At (Some until) h → Stays (Some until) (turned early late place now h).1
    turns true late h at = inl at
    turns false true h at = then_vacated place Q zero (Some until) place h (inl at)
    turns false false h at =
        let c = after_timers now (connection_at place h) in
        let one = expired place now h in
        let a = advances one (at_connection place Q zero (Some until) place c h at) in
        let x = limits (advanced place one) a in
        asks (before_sending place now h) (record { owner = x.owner; due = x.due })

  -- the first one after its program let go
  first_turn : (now : ℕ) (h : Host) → get_or h.alarms place 0 ≤ now → Q now → Q (limit now h) → At None h → Stays (Some (limit now h)) (turn_at place now h).1
  first_turn now h due q r at =
      let late : is_over now (slot_at place h) ≡ false = ap (λ (o : Owner). has_passed (over_at (limit_of o)) now) at.owner in
      let one = expired place now h in
      let a = at_connection place Q zero None place (after_timers now (connection_at place h)) h at in
      let within = within_by place None one a.owner (in_or_past place (length one.slots)) in
      let two : advanced place one ≡ one = ap (λ (o : Owner). advanced_by o place one) a.owner in
      let last = with_owner place (Itself (Some (limit now h))) one in
      let three : limited place now one ≡ last = ap (λ (o : Owner). limited_by o place now one) a.owner in
      let told = noted place now (seen_at place h) last in
      let before : before_sending place now h ≡ told =
      ap (λ (x : Host). noted place now (seen_at place h) x) (ap (λ (x : Host). limited place now x) two ∙ three) in
      let b : At (Some (limit now h)) told =
      record { owner = slot_owner place (record (slot_at place one) { owner = Itself (Some (limit now h)) }) one within; due = a.due } in
      subst (λ (x : Host). Stays (Some (limit now h)) x)
      (sym (goes_on (nat_lt now (get_or h.alarms place 0)) (is_over now (slot_at place h)) place now h (is_due now (get_or h.alarms place 0) due) late
      ∙ ap (λ (x : Host). (turn_asked place now x).1) before))
      (asks (limit now h) now q r told b)

  -- all that is done
  abbrev Meets : Deed → Type 0
  Meets (Turned p now) = p ≡ place → Q now
  Meets (Again p t) = p ≡ place → Q t
  Meets Other = Unit {0}

  sent_by : (b : Bool) (until : Option ℕ) (p now : ℕ) (h : Host) → (p ≡ place → Q now) → At until h → At until (if b then sent_at p now h else h)
  sent_by true until p now h meets at =
      let s = slot_after_sending now (slot_at p h) in
      at_alarm place Q zero until p now (with_slot p s h) meets (at_slot place Q zero until p s h refl at)
  sent_by false until p now h meets at = at

  postponed_by : (b : Bool) (until : Option ℕ) (p t : ℕ) (h : Host) → (p ≡ place → Q t) → At until h → At until (if b then with_alarm p t h else h)
  postponed_by true until p t h meets at = at_alarm place Q zero until p t h meets at
  postponed_by false until p t h meets at = at

  aborted_by : (b : Bool) (until : Option ℕ) (p : ℕ) (h : Host) → At until h → At until (if b then aborted_at p h else h)
  aborted_by true until p h at =
      let c = after_abort (connection_at p h) in
      let x = at_alarm place Q zero until p 0 (with_connection p c h) (λ e. zero) (at_connection place Q zero until p c h at) in
      record { owner = x.owner; due = x.due }
  aborted_by false until p h at = at

  turned_to : (now : ℕ) (old new : Host) (turn : Turn) (taken : TakesTurn now old turn new) (p : ℕ) → taken.place ≡ p →
      new ≡ (turn_at p now old).1
  turned_to now old new turn taken p same =
      ap (λ (x : Turn × Host). x.1) taken.is ∙ ap (λ (n : ℕ). (turn_at n now old).1) same

  waited : (now : ℕ) (old new : Host) (turn : Turn) (taken : TakesTurn now old turn new) → now < get_or old.alarms taken.place 0 → new ≡ old
  waited now old new turn taken early =
      turned_to now old new turn taken taken.place refl
      ∙ is_idle (nat_lt now (get_or old.alarms taken.place 0)) (is_over now (slot_at taken.place old)) taken.place now old
      (is_early now (get_or old.alarms taken.place 0) early)

  elsewhere : (until : Option ℕ) (now : ℕ) (old new : Host) (turn : Turn) (taken : TakesTurn now old turn new) (p : ℕ) → taken.place ≡ p →
      (place ≡ p → ⊥) → At until old → At until new
  elsewhere until now old new turn taken p same ne at =
      subst (λ (x : Host). At until x) (sym (turned_to now old new turn taken p same))
      (o_turned until p ne (nat_lt now (get_or old.alarms p 0)) (is_over now (slot_at p old)) now old at)

  -- but a turn of the place
  other : (until : Option ℕ) (old : Host) (d : Deed) (new : Host) → Is old d new → Meets d → IsNoTurn place d → At until old → Stays until new
  other until old _ new (Called events _ calls) m n at = called place Q zero until old events new calls at
  other until old _ new (Received now e s octets answer _ receives) m n at = received place Q zero until now e s octets old at answer new receives
  other until old _ new (Waited now turn _ taken early) m n at =
      inl (subst (λ (x : Host). At until x) (sym (waited now old new turn taken early)) at)
  other until old _ new (TookTurn p now turn _ taken same due) m n at =
      inl (elsewhere until now old new turn taken p same (λ e. n (sym e)) at)
  other until old _ _ (Sent p now) m n at = inl (sent_by (nat_lt p (length old.slots)) until p now old m at)
  other until old _ _ (Postponed p t) m n at = inl (postponed_by (nat_lt p (length old.slots)) until p t old m at)
  other until old _ _ (Aborted p) m n at = inl (aborted_by (nat_lt p (length old.slots)) until p old at)

  module _ (until : ℕ) (r : Q until) where
    turn_by_place : (now : ℕ) (old new : Host) (turn : Turn) (taken : TakesTurn now old turn new) (p : ℕ) → taken.place ≡ p → (p ≡ place → Q now) →
        ((place ≡ p) ⊎ (place ≡ p → ⊥)) → At (Some until) old → Stays (Some until) new
    turn_by_place now old new turn taken p same q (inl e) at =
        subst (λ (x : Host). Stays (Some until) x) (sym (turned_to now old new turn taken place (same ∙ sym e)))
        (turns until now (q (sym e)) r (nat_lt now (get_or old.alarms place 0)) (is_over now (slot_at place old)) old at)
    turn_by_place now old new turn taken p same q (inr ne) at = inl (elsewhere (Some until) now old new turn taken p same ne at)

    deed : (old : Host) (d : Deed) (new : Host) → Is old d new → Meets d → At (Some until) old → Stays (Some until) new
    deed old _ new (Called events _ calls) m at = called place Q zero (Some until) old events new calls at
    deed old _ new (Received now e s octets answer _ receives) m at =
        received place Q zero (Some until) now e s octets old at answer new receives
    deed old _ new (Waited now turn _ taken early) m at =
        inl (subst (λ (x : Host). At (Some until) x) (sym (waited now old new turn taken early)) at)
    deed old _ new (TookTurn p now turn _ taken same due) m at = turn_by_place now old new turn taken p same m (cases_eq place p) at
    deed old _ _ (Sent p now) m at = inl (sent_by (nat_lt p (length old.slots)) (Some until) p now old m at)
    deed old _ _ (Postponed p t) m at = inl (postponed_by (nat_lt p (length old.slots)) (Some until) p t old m at)
    deed old _ _ (Aborted p) m at = inl (aborted_by (nat_lt p (length old.slots)) (Some until) p old at)

  first_held : (h new : Host) (ds : List Deed) → Held place h ds new → IsHeld place h
  first_held h _ [] (Ends held) = held
  first_held h new (d ∷ ds) (Goes held is rest) = held

  -- until its first turn, and from then on
  waits_by : (old new : Host) (ds : List Deed) → Held place old ds new → AllByRecursion (IsNoTurn place) ds → AllByRecursion Meets ds →
      At None old → At None new
  waits_by old _ [] (Ends held) n m at = at
  waits_by old new (d ∷ ds) (Goes {mid = mid} held is rest) n m at =
      waits_by mid new ds rest n.1 m.1
      (staying place Q zero None mid (first_held mid new ds rest) (other None old d mid is m.0 n.0 at))

  stays_by : (until : ℕ) → Q until → (old new : Host) (ds : List Deed) → Held place old ds new → AllByRecursion Meets ds →
      At (Some until) old → At (Some until) new
  stays_by until r old _ [] (Ends held) m at = at
  stays_by until r old new (d ∷ ds) (Goes {mid = mid} held is rest) m at =
      stays_by until r mid new ds rest m.1
      (staying place Q zero (Some until) mid (first_held mid new ds rest) (deed until r old d mid is m.0 at))

  begins_by : (now : ℕ) (old mid new : Host) (ds : List Deed) → Is old (Turned place now) mid → Held place mid ds new → Q now → Q (limit now old) →
      At None old → At (Some (limit now old)) mid
  begins_by now old mid new ds (TookTurn _ _ turn _ taken same due) rest q r at =
      staying place Q zero (Some (limit now old)) mid (first_held mid new ds rest)
      (subst (λ (x : Host). Stays (Some (limit now old)) x) (sym (turned_to now old mid turn taken place same)) (first_turn now old due q r at))

-- a late turn frees the place
freed : (place now until : ℕ) (h : Host) → place < length h.slots → get_or h.alarms place 0 ≤ now → owner_at place h ≡ Itself (Some until) →
    later until time_for_a_reset ≤ now → owner_at place (turn_at place now h).1 ≡ Nobody
freed place now until h within due owner late =
    let is_late : is_over now (slot_at place h) ≡ true =
    ap (λ (o : Owner). has_passed (over_at (limit_of o)) now) owner ∙ has_come now (later until time_for_a_reset) late in
    ap (λ (x : Host). owner_at place x)
    (is_vacated (nat_lt now (get_or h.alarms place 0)) (is_over now (slot_at place h)) place now h (is_due now (get_or h.alarms place 0) due) is_late)
    ∙ vacated_owner place h within

-- so there is none while it stays
module _ (place : ℕ) where
  abbrev Always : ℕ → Type 0
  Always t = Unit {0}

  below : (a b : ℕ) → a ≤ b → Always b → Always a
  below a b le x = tt

  all_meet : (ds : List Deed) → AllByRecursion (Meets place Always below tt) ds
  all_meet [] = tt
  all_meet (Turned p now ∷ ds) = ((λ e. tt), all_meet ds)
  all_meet (Again p t ∷ ds) = ((λ e. tt), all_meet ds)
  all_meet (Other ∷ ds) = (tt, all_meet ds)

  early_by : (until now : ℕ) (old new : Host) (turn : Turn) (taken : TakesTurn now old turn new) → taken.place ≡ place →
      get_or old.alarms place 0 ≤ now → owner_at place old ≡ Itself (Some until) → IsHeld place new →
      ((now < later until time_for_a_reset) ⊎ (later until time_for_a_reset ≤ now)) → now < later until time_for_a_reset
  early_by until now old new turn taken same due is held (inl early) = early
  early_by until now old new turn taken same due is held (inr late) =
      let within = within_by place (Some until) old is (in_or_past place (length old.slots)) in
      let gone : owner_at place new ≡ Nobody =
      ap (λ (h : Host). owner_at place h) (turned_to place Always below tt now old new turn taken place same)
      ∙ freed place now until old within due is late in
      let never_so : false ≡ true = sym (ap is_let_go gone) ∙ held in
      absurd cc

  early : (until : ℕ) (old : Host) (d : Deed) (new : Host) → Is old d new → owner_at place old ≡ Itself (Some until) → IsHeld place new →
      IsBefore place (later until time_for_a_reset) d
  early until old _ new (Called events _ calls) is held = tt
  early until old _ new (Received now e s octets answer _ receives) is held = tt
  early until old _ new (Waited now turn _ taken waits) is held = tt
  early until old _ new (TookTurn p now turn _ taken same due) is held =
      λ e. early_by until now old new turn taken (same ∙ e) (subst (λ (n : ℕ). get_or old.alarms n 0 ≤ now) e due) is held
      (before_or_not now (later until time_for_a_reset))
  early until old _ _ (Sent p now) is held = tt
  early until old _ _ (Postponed p t) is held = tt
  early until old _ _ (Aborted p) is held = tt

  all_early : (until : ℕ) (old new : Host) (ds : List Deed) → Held place old ds new → IsAt place Always tt (Some until) old →
      AllByRecursion (IsBefore place (later until time_for_a_reset)) ds
  all_early until old _ [] (Ends held) at = tt
  all_early until old new (d ∷ ds) (Goes {mid = mid} held is rest) at =
      let next = first_held place Always below tt mid new ds rest in
      let m = all_meet (d ∷ ds) in (
        early until old d mid is at.owner next,
        all_early until mid new ds rest (staying place Always tt (Some until) mid next (deed place Always below tt until tt old d mid is m.0 at)),
      )

  ends : (now : ℕ) (old new : Host) (ds : List Deed) → owner_at place old ≡ Itself None → Held place old (Turned place now ∷ ds) new →
      AllByRecursion (IsBefore place (over now old)) ds
  ends now old new ds owner (Goes {mid = mid} held is rest) =
      all_early (limit now old) mid new ds rest
      (begins_by place Always below tt now old mid new ds is rest tt tt (record { owner = owner; due = tt }))

-- and it is due by its time
module _ (place instant : ℕ) where
  abbrev By : ℕ → Type 0
  By t = t ≤ instant

  by_below : (a b : ℕ) → a ≤ b → By b → By a
  by_below a b le x = grind arith

  from_zero : By 0
  from_zero = grind arith

  all_by : (ds : List Deed) → AllByRecursion (IsBy place instant) ds → AllByRecursion (Meets place By by_below from_zero) ds
  all_by [] m = tt
  all_by (Turned p now ∷ ds) m = (m.0, all_by ds m.1)
  all_by (Again p t ∷ ds) m = (m.0, all_by ds m.1)
  all_by (Other ∷ ds) m = (tt, all_by ds m.1)

  waits : (old new : Host) (ds : List Deed) → owner_at place old ≡ Itself None → get_or old.alarms place 0 ≤ instant →
      Held place old ds new → AllByRecursion (IsNoTurn place) ds → AllByRecursion (IsBy place instant) ds →
      (owner_at place new ≡ Itself None) × (get_or new.alarms place 0 ≤ instant)
  waits old new ds owner due held none by =
      let at = waits_by place By by_below from_zero old new ds held none (all_by ds by) (record { owner = owner; due = due }) in
      (at.owner, at.due)

  is_due_by : (now : ℕ) (old mid : Host) → Is old (Turned place now) mid → now ≤ instant → get_or old.alarms place 0 ≤ instant
  is_due_by now old mid (TookTurn _ _ turn _ taken same due) le = grind (arith, due, le)

  due_by_limit : (now : ℕ) (old new : Host) (ds : List Deed) → owner_at place old ≡ Itself None → Held place old (Turned place now ∷ ds) new →
      limit now old ≤ instant → AllByRecursion (IsBy place instant) (Turned place now ∷ ds) →
      (owner_at place new ≡ Itself (Some (limit now old))) × (get_or new.alarms place 0 ≤ instant)
  due_by_limit now old new ds owner (Goes {mid = mid} held is rest) le by =
      let soon = by.0 refl in
      let at = begins_by place By by_below from_zero now old mid new ds is rest soon le
      (record { owner = owner; due = is_due_by now old mid is soon }) in
      let last = stays_by place By by_below from_zero (limit now old) le mid new ds rest (all_by ds by.1) at in
      (last.owner, last.due)

-- an abort closes, and what is sent then keeps it closed
aborted_closed : (b : Bool) (c : Connection) →
    is_closed (if b then record (ended (Some ending.Aborted) c) { pending = Reset (number_at c.local (empty_position c.transmission)) } else ended (Some ending.Aborted) c).state
    ≡ true
aborted_closed true c = refl
aborted_closed false c = refl

closed_by : (b : Bool) (c : Connection) → is_closed c.state ≡ b → is_closed (if b then c else aborted ending.Aborted c).state ≡ true
closed_by true c is = is
closed_by false c is = aborted_closed (is_synchronized c.state || is_syn_received c.state) c

sent_closed : (now : ℕ) (a : Option outgoing.Action) (c : Connection) → is_closed c.state ≡ true → is_closed (after_all_of now a c).state ≡ true
sent_closed now None c is = is
sent_closed now (Some (SendReset n)) c is = is
sent_closed now (Some SendSyn) c is = is
sent_closed now (Some (SendNext p)) c is = is
sent_closed now (Some (SendAgain p)) c is = is
sent_closed now (Some (SendProbe p)) c is = is
sent_closed now (Some SendKeepAlive) c is = is
sent_closed now (Some SendAck) c is = is

module _ (place now until : ℕ) where
  abbrev IsEnded : Host → Type 0
  IsEnded h = (is_let_go (owner_at place h) ≡ false) ⊎ (is_closed (connection_at place h).state ≡ true)

  -- the place has the connection, which is closed
  record IsOut (h : Host) : Type 0 where
    within : place < length h.slots
    owner : owner_at place h ≡ Itself (Some until)
    closed : is_closed (connection_at place h).state ≡ true

  connection_there : (c : Connection) (h : Host) → place < length h.slots → connection_at place (with_connection place c h) ≡ c
  connection_there c h within =
      ap (λ (x : Slot). x.connection) (get_or-set_same h.slots place (record (slot_at place h) { connection = c }) no_slot within)

  out_rested : (b : Bool) (h : Host) → is_closed (connection_at place h).state ≡ b → IsOut h →
      IsEnded (if b then finished_by (slot_at place h).owner place h else waiting_until place (due_after now (slot_at place h)) h)
  out_rested true h e out =
      inl (ap (λ (o : Owner). is_let_go (owner_at place (finished_by o place h))) out.owner ∙ ap is_let_go (vacated_owner place h out.within))
  out_rested false h e out = absurd cc

  out_asked : (a : Option outgoing.Action) (h : Host) → IsOut h → IsEnded (turn_by a place now h).1
  out_asked None h out = out_rested (is_closed (connection_at place h).state) h refl out
  out_asked (Some a) h out = inr out.closed

  out_left : (b : Bool) (h : Host) → IsOut h →
      IsEnded (if b then (Quiet, left_at place now h) else turn_by (outgoing.action now (connection_at place h)) place now h).1
  out_left true h out =
      let c = connection_at place h in
      inr (ap (λ (x : Connection). is_closed x.state) (connection_there (after_sending now c) h out.within)
      ∙ sent_closed now (outgoing.action now c) c out.closed)
  out_left false h out = out_asked (outgoing.action now (connection_at place h)) h out

  -- the turn aborts it
  out_before : (h : Host) → place < length h.slots → owner_at place h ≡ Itself (Some until) → until ≤ now → IsOut (before_sending place now h)
  out_before h within is come =
      let one = expired place now h in
      let s = record (slot_at place h) { connection = after_timers now (connection_at place h) } in
      let one_within : place < length one.slots = subst (λ (n : ℕ). place < n) (sym (length-set h.slots place s)) within in
      let one_is : owner_at place one ≡ Itself (Some until) = slot_owner place s h within ∙ is in
      let two : advanced place one ≡ one = ap (λ (o : Owner). advanced_by o place one) one_is in
      let c = after_abort (connection_at place one) in
      let last = with_connection place c one in
      let three : limited place now one ≡ last =
      ap (λ (o : Owner). limited_by o place now one) one_is
      ∙ ap (λ (b : Bool). if b then with_connection place c one else one) (has_come now until come) in
      let before : before_sending place now h ≡ noted place now (seen_at place h) last =
      ap (λ (x : Host). noted place now (seen_at place h) x) (ap (λ (x : Host). limited place now x) two ∙ three) in
      let t = record (slot_at place one) { connection = c } in
      subst (λ (x : Host). IsOut x) (sym before) (record {
        within = subst (λ (n : ℕ). place < n) (sym (length-set one.slots place t)) one_within;
        owner = slot_owner place t one one_within ∙ one_is;
        closed = ap (λ (x : Connection). is_closed x.state) (connection_there c one one_within)
            ∙ closed_by (is_closed (connection_at place one).state) (connection_at place one) refl;
      })

  ended_turn : (late : Bool) (h : Host) → place < length h.slots → owner_at place h ≡ Itself (Some until) → until ≤ now →
      IsEnded (turned false late place now h).1
  ended_turn true h within is come = inl (ap is_let_go (vacated_owner place h within))
  ended_turn false h within is come =
      let mid = before_sending place now h in
      out_left (is_challenge_left now (slot_at place mid)) mid (out_before h within is come)

  of_ended : (h : Host) → IsHeld place h → IsEnded h → is_closed (connection_at place h).state ≡ true
  of_ended h held (inl gone) = absurd cc
  of_ended h held (inr closed) = closed

  aborts : (old new : Host) → owner_at place old ≡ Itself (Some until) → until ≤ now → Is old (Turned place now) new → IsHeld place new →
      is_closed (connection_at place new).state ≡ true
  aborts old new is come (TookTurn _ _ turn _ taken same due) held =
      let within = within_by place (Some until) old is (in_or_past place (length old.slots)) in
      let late = is_over now (slot_at place old) in
      let turn_is : (turn_at place now old).1 ≡ (turned false late place now old).1 =
      ap (λ (b : Bool). (turned b late place now old).1) (is_due now (get_or old.alarms place 0) due) in
      let all = ap (λ (x : Turn × Host). x.1) taken.is ∙ ap (λ (n : ℕ). (turn_at n now old).1) same ∙ turn_is in
      of_ended new held (subst (λ (x : Host). IsEnded x) (sym all) (ended_turn late old within is come))

-- what `release` leaves
first_of : (a b c : Bool) → a && b && c ≡ true → a ≡ true
first_of true b c e = refl
first_of false b c e = absurd cc

let_go_by : (b : Bool) (place : ℕ) (h : Host) → place < length h.slots →
    owner_at place (with_alarm place 0 (with_owner place (Itself None) (if b then h else with_connection place (after_abort (connection_at place h)) h)))
    ≡ Itself None
let_go_by true place h within = slot_owner place (record (slot_at place h) { owner = Itself None }) h within
let_go_by false place h within =
    let one = with_connection place (after_abort (connection_at place h)) h in
    let still : place < length one.slots =
    subst (λ (n : ℕ). place < n) (sym (length-set h.slots place (record (slot_at place h) { connection = after_abort (connection_at place h) }))) within in
    slot_owner place (record (slot_at place one) { owner = Itself None }) one still

alarm_there : (place : ℕ) (xs : List ℕ) → ((place < length xs) ⊎ (length xs ≤ place)) → get_or (slice_set xs place 0) place 0 ≡ 0
alarm_there place xs (inl lt) = get_or-set_same xs place 0 0 lt
alarm_there place xs (inr past) = past_set xs place 0 0 past

alarm_by : (b : Bool) (place : ℕ) (h : Host) →
    get_or (with_alarm place 0 (with_owner place (Itself None) (if b then h else with_connection place (after_abort (connection_at place h)) h))).alarms place 0
    ≡ 0
alarm_by true place h = alarm_there place h.alarms (in_or_past place (length h.alarms))
alarm_by false place h = alarm_there place h.alarms (in_or_past place (length h.alarms))

named_within : (place n : ℕ) (b c : Bool) → nat_lt place n && b && c ≡ true → place < n
named_within place n b c e = let there = first_of (nat_lt place n) b c e in grind (arith, nat_tests, there)

lets_go : (handle : Handle) (h : Host) → is_named handle h ≡ true →
    (owner_at handle.place (released handle.place h) ≡ Itself None) × (get_or (released handle.place h).alarms handle.place 0 ≡ 0)
lets_go handle h named =
    let b = ends_by_itself (connection_at handle.place h).state in
    let within = named_within handle.place (length h.slots)
    ((slot_at handle.place h).generation == handle.generation) (is_program (owner_at handle.place h)) named in
    (let_go_by b handle.place h within, alarm_by b handle.place h)

pub released_places_end : ReleasedPlacesEnd
released_places_end = record {
  lets_go = lets_go;
  waits = λ place instant old new ds owner due held none by. waits place instant old new ds owner due held none by;
  ends = λ place now old new ds owner held. ends place now old new ds owner held;
  due = λ place now instant old new ds owner held le by. due_by_limit place instant now old new ds owner held le by;
  aborts = λ place now until old new owner come is held. aborts place now until old new owner come is held;
}
