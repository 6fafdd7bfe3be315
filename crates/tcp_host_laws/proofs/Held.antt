-- What is done with a host, beside turns, leaves a place to the connection of which its program let go; or the place goes to nobody or
-- to another connection.
use Rattle.std.proofs.Common.{◌≡◌, ◌≢◌, ◌∙◌, ℕ, ◌<◌, ◌≤◌, Bool, true, false, List, length, get_or, slice_set, Option, Some, None, inl, inr}
use Rattle.std.proofs.Common.{refl, sym, ap, subst, arith}
use Rattle.std.specs.Prelude.{nat_lt, ◌==◌, ◌&&◌, ◌⊎◌, if◌then◌else◌}
use Rattle.std.proofs.lemmas.Bool.{cases_eq}
use Rattle.std.proofs.lemmas.List.{get_or-set_same, get_or-set_other, get_or_past}
use Rattle.tcp_machine.specs.Calls.{after_abort}
use Rattle.tcp_machine.specs.Connection.{Connection}
use Rattle.tcp_connection.specs.Actions.{after_sending}
use Rattle.tcp_connection.specs.declared.segment.Segment.{Segment}
use Rattle.tcp_host.specs.Backlog.{first_of, evicted}
use Rattle.tcp_host.specs.Listener as listener
use Rattle.tcp_host.specs.Listener.{Listener, after_accepting, after_closing}
use Rattle.tcp_host.specs.declared.calls.Handle.{Handle}
use Rattle.tcp_host.specs.declared.iss.Endpoints.{Endpoints}
use Rattle.tcp_host.specs.declared.resets.Reply.{Reply}
use Rattle.tcp_host.specs.declared.resets.Reset.{Reset}
use Rattle.tcp_host.specs.declared.slot.Owner.{Owner}
use Rattle.tcp_host.specs.declared.slot.Owner.TheVariants.{Nobody, Program, Itself}
use Rattle.tcp_host.specs.declared.slot.Slot.{Slot}
use Rattle.tcp_host.specs.Arrivals.{Delivers, Receives, Known, Reopened, Improper, Begun, Resumed, Unheeded, Answered, Nobody as Unwanted}
use Rattle.tcp_host.specs.Arrivals.{Begins, TooMany, NoPlace, Unkept, InPlace, Resumes, NotTaken, Unplaced, AtPlace, accepted_with, answered_at, before, told_syn}
use Rattle.tcp_host.specs.Arrivals.{refused, accepted_at, vacated_if, counted, without_oldest, FindsPlace, Free, OfHalfOpen}
use Rattle.tcp_host.specs.News.{noted, seen_at}
use Rattle.tcp_host.specs.Resets.{reset_for}
use Rattle.tcp_host.specs.Handles.{is_named, changed, ends_by_itself, released, accepting_at, accepting_from, accepting, is_listener, listener_closed, untold}
use Rattle.tcp_host.specs.Host.{Host, never, no_slot, is_let_go, slot_at, connection_at, with_slot, with_connection, with_owner, with_alarm, vacated, enrolled, is_program}
use Rattle.tcp_host.specs.Host.{listener_at, with_listener}
use Rattle.tcp_host_laws.specs.Lives.{Event}
use Rattle.tcp_host_laws.specs.Calls.{Calls, Connect, Send, Receive, Close, Abort, Choose, Limit, Release, Changed, Accept, Listen, CloseListener, Shorten, Note, Lose}
use Rattle.tcp_host_laws.specs.Releases.{owner_at}
use Rattle.tcp_host_laws.proofs.HostSteps.{in_or_past, past_set, kept, accepting_if, accepting_in}

-- one of a list
gone_there : (p : ℕ) (s : Slot) (xs : List Slot) → is_let_go s.owner ≡ false → ((p < length xs) ⊎ (length xs ≤ p)) →
    is_let_go (get_or (slice_set xs p s) p no_slot).owner ≡ false
unfolding no_slot
gone_there p s xs gone (inl lt) = ap (λ (x : Slot). is_let_go x.owner) (get_or-set_same xs p s no_slot lt) ∙ gone
gone_there p s xs gone (inr past) = ap (λ (x : Slot). is_let_go x.owner) (past_set xs p s no_slot past)

pub within_by : (place : ℕ) (until : Option ℕ) (h : Host) → owner_at place h ≡ Itself until → ((place < length h.slots) ⊎ (length h.slots ≤ place)) →
    place < length h.slots
unfolding no_slot
within_by place until h is (inl lt) = lt
within_by place until h is (inr past) =
    let none : Nobody ≡ Itself until = sym (ap (λ (x : Slot). x.owner) (get_or_past h.slots place no_slot past)) ∙ is in
    absurd cc

module _ (place : ℕ) (Q : ℕ → Type 0) (zero : Q 0) where
  alarm_there : (t : ℕ) (xs : List ℕ) → Q t → ((place < length xs) ⊎ (length xs ≤ place)) → Q (get_or (slice_set xs place t) place 0)
  alarm_there t xs q (inl lt) = subst Q (sym (get_or-set_same xs place t 0 lt)) q
  alarm_there t xs q (inr past) = subst Q (sym (past_set xs place t 0 past)) zero

  alarm_by : (p t : ℕ) (xs : List ℕ) → (p ≡ place → Q t) → Q (get_or xs place 0) → ((place ≡ p) ⊎ (place ≡ p → ⊥)) →
      Q (get_or (slice_set xs p t) place 0)
  alarm_by p t xs here old (inl e) =
      subst (λ (n : ℕ). Q (get_or (slice_set xs n t) place 0)) e (alarm_there t xs (here (sym e)) (in_or_past place (length xs)))
  alarm_by p t xs here old (inr ne) = subst Q (sym (get_or-set_other xs p place t 0 ne)) old

  -- it waits with this limit, and is due; or it is gone
  pub record IsAt (until : Option ℕ) (h : Host) : Type 0 where
    pub owner : owner_at place h ≡ Itself until
    pub due : Q (get_or h.alarms place 0)

  abbrev pub IsGone : Host → Type 0
  IsGone h = is_let_go (owner_at place h) ≡ false

  abbrev pub Then : Option ℕ → Host → Type 0
  Then until h = IsAt until h ⊎ IsGone h

  module _ (until : Option ℕ) where
    pub staying : (h : Host) → is_let_go (owner_at place h) ≡ true → Then until h → IsAt until h
    staying h held (inl at) = at
    staying h held (inr gone) = absurd cc

    pub at_slot : (p : ℕ) (s : Slot) (h : Host) → s.owner ≡ owner_at p h → IsAt until h → IsAt until (with_slot p s h)
    at_slot p s h same at = record { owner = kept (λ (x : Slot). x.owner) h.slots p s same place ∙ at.owner; due = at.due }

    pub at_connection : (p : ℕ) (c : Connection) (h : Host) → IsAt until h → IsAt until (with_connection p c h)
    at_connection p c h at = at_slot p (record (slot_at p h) { connection = c }) h refl at

    pub at_alarm : (p t : ℕ) (h : Host) → (p ≡ place → Q t) → IsAt until h → IsAt until (with_alarm p t h)
    at_alarm p t h here at = record { owner = at.owner; due = alarm_by p t h.alarms here at.due (cases_eq place p) }

    pub at_changed : (p : ℕ) (c : Connection) (h : Host) → IsAt until h → IsAt until (changed p c h)
    at_changed p c h at = at_alarm p 0 (with_connection p c h) (λ e. zero) (at_connection p c h at)

    -- a slot of another place
    pub other_slot : (p : ℕ) (s : Slot) (h : Host) → (place ≡ p → ⊥) → owner_at place (with_slot p s h) ≡ owner_at place h
    other_slot p s h ne = ap (λ (x : Slot). x.owner) (get_or-set_other h.slots p place s no_slot ne)

    -- a place that goes to nobody, or to another connection, with another alarm
    abbrev given : (p : ℕ) → Slot → ℕ → Host → Host
    given p s t h = with_alarm p t (with_slot p s h)

    given_by : (p : ℕ) (s : Slot) (t : ℕ) (h : Host) → is_let_go s.owner ≡ false → ((place ≡ p) ⊎ (place ≡ p → ⊥)) → Then until h →
        Then until (given p s t h)
    given_by p s t h gone (inl e) x =
        inr (subst (λ (n : ℕ). is_let_go (get_or (slice_set h.slots p s) n no_slot).owner ≡ false) (sym e)
        (gone_there p s h.slots gone (in_or_past p (length h.slots))))
    given_by p s t h gone (inr ne) (inl at) = inl (record {
      owner = other_slot p s h ne ∙ at.owner;
      due = subst Q (sym (get_or-set_other h.alarms p place t 0 ne)) at.due;
    })
    given_by p s t h gone (inr ne) (inr out) = inr (ap is_let_go (other_slot p s h ne) ∙ out)

    like : (one two : Host) → two.slots ≡ one.slots → two.alarms ≡ one.alarms → Then until one → Then until two
    like one two slots alarms (inl at) = inl (record {
      owner = ap (λ (xs : List Slot). (get_or xs place no_slot).owner) slots ∙ at.owner;
      due = subst (λ (xs : List ℕ). Q (get_or xs place 0)) (sym alarms) at.due;
    })
    like one two slots alarms (inr out) = inr (ap (λ (xs : List Slot). is_let_go (get_or xs place no_slot).owner) slots ∙ out)

    pub then_vacated : (p : ℕ) (h : Host) → Then until h → Then until (vacated p h)
    then_vacated p h x =
        let s = record (slot_at p h) { owner = Nobody } in
        like (given p s never h) (vacated p h) refl refl (given_by p s never h refl (cases_eq place p) x)

    then_begun : (p : ℕ) (e : Endpoints) (s : Slot) (h : Host) → is_let_go s.owner ≡ false → Then until h → Then until (enrolled p e (with_slot p s h))
    then_begun p e s h gone x =
        like (given p s 0 h) (enrolled p e (with_slot p s h)) refl refl (given_by p s 0 h gone (cases_eq place p) x)

    then_connection : (p : ℕ) (c : Connection) (h : Host) → Then until h → Then until (with_connection p c h)
    then_connection p c h (inl at) = inl (at_connection p c h at)
    then_connection p c h (inr gone) =
        inr (ap is_let_go (kept (λ (x : Slot). x.owner) h.slots p (record (slot_at p h) { connection = c }) refl place) ∙ gone)

    then_owner : (p : ℕ) (o : Owner) (h : Host) → is_let_go o ≡ false → IsAt until h → Then until (with_owner p o h)
    then_owner p o h gone at = by (cases_eq place p) where
      by : ((place ≡ p) ⊎ (place ≡ p → ⊥)) → Then until (with_owner p o h)
      by (inl e) =
          let s = record (slot_at p h) { owner = o } in
          inr (subst (λ (n : ℕ). is_let_go (get_or (slice_set h.slots p s) n no_slot).owner ≡ false) (sym e)
          (gone_there p s h.slots gone (in_or_past p (length h.slots))))
      by (inr ne) = inl (record { owner = other_slot p (record (slot_at p h) { owner = o }) h ne ∙ at.owner; due = at.due })

    same_at : (one two : Host) → two.slots ≡ one.slots → two.alarms ≡ one.alarms → IsAt until one → Then until two
    same_at one two slots alarms at = like one two slots alarms (inl at)

    -- calls
    released_by : (b : Bool) (p : ℕ) (h : Host) → (place ≡ p → ⊥) → IsAt until h →
        IsAt until (with_alarm p 0 (with_owner p (Itself None) (if b then h else with_connection p (after_abort (connection_at p h)) h)))
    released_by true p h ne at =
        at_alarm p 0 (with_owner p (Itself None) h) (λ e. zero)
        (record { owner = other_slot p (record (slot_at p h) { owner = Itself None }) h ne ∙ at.owner; due = at.due })
    released_by false p h ne at =
        let one = with_connection p (after_abort (connection_at p h)) h in
        let mid = at_connection p (after_abort (connection_at p h)) h at in
        at_alarm p 0 (with_owner p (Itself None) one) (λ e. zero)
        (record { owner = other_slot p (record (slot_at p one) { owner = Itself None }) one ne ∙ mid.owner; due = mid.due })

    last_of : (a b c : Bool) → a && b && c ≡ true → c ≡ true
    last_of true true c e = e
    last_of true false c e = absurd cc
    last_of false b c e = absurd cc

    another : (handle : Handle) (h : Host) → is_named handle h ≡ true → IsAt until h → place ≡ handle.place → ⊥
    another handle h named at e =
        let mine : is_program (owner_at handle.place h) ≡ true =
        last_of (nat_lt handle.place (length h.slots)) ((slot_at handle.place h).generation == handle.generation)
        (is_program (owner_at handle.place h)) named in
        let its : owner_at handle.place h ≡ Itself until = ap (λ (n : ℕ). owner_at n h) (sym e) ∙ at.owner in
        let never_so : true ≡ false = sym mine ∙ ap is_program its in
        absurd cc

    accepted_if : (b : Bool) (p : ℕ) (h : Host) → IsAt until h →
        Then until (accepting_if b p h).1
    accepted_if true p h at = like (with_owner p Program h) (untold p 0 (with_owner p Program h)) refl refl (then_owner p Program h refl at)
    accepted_if false p h at = inl at

    accepted_in : (o : Option ℕ) (h : Host) → IsAt until h → Then until (accepting_at o h).1
    accepted_in None h at = inl at
    accepted_in (Some p) h at = accepted_if (nat_lt p (length h.slots)) p h at

    accepted : (b : Bool) (index : ℕ) (h : Host) → IsAt until h → Then until (accepting_in b index h).1
    accepted true index h at =
        accepted_in (first_of (listener_at index h).ready) (with_listener index (after_accepting (listener_at index h)) h)
        (record { owner = at.owner; due = at.due })
    accepted false index h at = inl at

    closed : (b : Bool) (index : ℕ) (h : Host) → IsAt until h →
        Then until (if b then with_listener index (after_closing (listener_at index h)) h else h)
    closed true index h at = inl (record { owner = at.owner; due = at.due })
    closed false index h at = inl at

    -- a place that was free or has given way
    then_found : (p : ℕ) (h ready : Host) → FindsPlace h p ready → IsAt until h → Then until ready
    then_found p h ready (Free next is) at = subst (λ (x : Host). Then until x) (sym is) (inl at)
    then_found p h ready (OfHalfOpen from none most oldest is) at =
        let one = without_oldest from h in
        subst (λ (x : Host). Then until x) (sym is) (then_vacated p one (like h one refl refl (inl at)))

    pub called : (h : Host) (events : List Event) (new : Host) → Calls h events new → IsAt until h → Then until new
    called h _ _ (Connect p now e ready within found) at = then_begun p e _ ready refl (then_found p h ready found at)
    called h _ _ (Send handle octets named) at = inl (at_changed handle.place _ h at)
    called h _ _ (Receive handle count named) at = inl (at_changed handle.place _ h at)
    called h _ _ (Close handle named) at = inl (at_changed handle.place _ h at)
    called h _ _ (Abort handle named) at = inl (at_changed handle.place _ h at)
    called h _ _ (Choose handle settings named) at = inl (at_changed handle.place _ h at)
    called h _ _ (Shorten place size within) at = inl (at_changed place _ h at)
    called h _ _ (Note now place within) at = inl (at_slot place (record (slot_at place h) { reported = Some now }) h refl at)
    called h _ _ (Lose place within) at = inl (at_changed place _ h at)
    called h _ _ (Limit handle hop_limit named) at =
        inl (at_slot handle.place (record (slot_at handle.place h) { hop_limit = hop_limit }) h refl at)
    called h _ _ (Release handle named) at =
        let x = released_by (ends_by_itself (connection_at handle.place h).state) handle.place h (another handle h named at) at in
        inl (record { owner = x.owner; due = x.due })
    called h _ new (Changed told _ tells) at =
        subst (λ (x : Host). Then until x) (sym tells.rest) (inl (record { owner = at.owner; due = at.due }))
    called h _ _ (Accept index) at = accepted (nat_lt index (length h.listeners)) index h at
    called h _ _ (Listen port address most) at = inl (record { owner = at.owner; due = at.due })
    called h _ _ (CloseListener index) at = closed (is_listener index h) index h at

    -- a segment arrives
    then_vacated_if : (o : Option ℕ) (h : Host) → Then until h → Then until (vacated_if o h)
    then_vacated_if None h x = x
    then_vacated_if (Some p) h x = by (nat_lt p (length h.slots)) where
      by : (b : Bool) → Then until (if b then vacated p h else h)
      by true = then_vacated p h x
      by false = x

    then_counted : (p index : ℕ) (h : Host) → Then until h → Then until (counted p index h)
    then_counted p index h x =
        let l = listener.after_syn p (listener_at index h) in
        then_vacated_if (evicted (listener_at index h).half_open) (with_listener index l h)
        (like h (with_listener index l h) refl refl x)

    module _ (now : ℕ) (e : Endpoints) (s : Segment) (octets : List ℕ) (h : Host) (at : IsAt until h) where
      stays : (new : Host) → new ≡ h → Then until new
      stays new is = subst (λ (x : Host). Then until x) (sym is) (inl at)

      accepts : (p index : ℕ) (mid new : Host) → new ≡ accepted_at p index now e s mid → Then until mid → Then until new
      accepts p index mid new is x = subst (λ (y : Host). Then until y) (sym is) (then_begun p e _ mid refl x)

      begins_by : (index : ℕ) (answer : Option Reply) (new : Host) → Begins index now e s h answer new → Then until new
      begins_by index answer new (TooMany full none is) = stays new is
      begins_by index answer new (NoPlace room never_so none is) = stays new is
      begins_by index answer new (Unkept room crowded may one is) = stays new is
      begins_by index answer new (InPlace p room few next none is) =
          accepts p index (counted p index h) new is (then_counted p index h (inl at))

      delivers : (p : ℕ) (old new : Host) → Delivers p now e s octets old new → Then until old → Then until new
      delivers p old new d x = subst (λ (y : Host). Then until y) (sym d.all_else) (by (then_connection p (connection_at p new) old x)) where
        by : Then until (with_connection p (connection_at p new) old) →
            Then until (noted p now (seen_at p old) (with_alarm p 0 (with_connection p (connection_at p new) old)))
        by (inl y) =
            let z = at_alarm p 0 (with_connection p (connection_at p new) old) (λ e. zero) y in inl (record { owner = z.owner; due = z.due })
        by (inr gone) = inr gone

      resumes_by : (number mss index : ℕ) (new : Host) → Resumes number mss index now e s octets h new → Then until new
      resumes_by number mss index new (NotTaken full is) = stays new is
      resumes_by number mss index new (Unplaced room none is) = stays new is
      resumes_by number mss index new (AtPlace p ready room found d) =
          let mid = counted p index ready in
          let one = accepted_with number p index now e (told_syn s mss) mid in
          delivers p (answered_at p now one) new d
          (then_connection p (after_sending now (connection_at p one)) one
          (then_begun p e _ mid refl (then_counted p index ready (then_found p h ready found at))))

      refused_by : (o : Option Reset) → Then until (refused now o h).1
      refused_by None = inl at
      refused_by (Some r) = inl (record { owner = at.owner; due = at.due })

      refuse : (answer : Option Reply) (new : Host) → (answer, new) ≡ refused now (reset_for s (length octets)) h → Then until new
      refuse answer new is = subst (λ (x : Option Reply × Host). Then until x.1) (sym is) (refused_by (reset_for s (length octets)))

      pub received : (answer : Option Reply) (new : Host) → Receives now e s octets h answer new → Then until new
      received answer new (Known p is kept none d) = delivers p h new d (inl at)
      received answer new (Reopened p is index reopens none same) =
          let free = vacated p h in
          accepts p index (counted p index free) new same (then_counted p index free (then_vacated p h (inl at)))
      received answer new (Improper nowhere never_so none is) = stays new is
      received answer new (Begun nowhere proper index listens begin b) = begins_by index answer new b
      received answer new (Resumed nowhere proper index listens n mss ack known none r) = resumes_by (before n) mss index new r
      received answer new (Unheeded nowhere proper index listens begin ack none is) = stays new is
      received answer new (Answered nowhere proper index listens ack unknown is) = refuse answer new is
      received answer new (Unwanted nowhere proper none is) = refuse answer new is
