-- Ends of connections that are gone.
use Rattle.std.proofs.Common.{◌≡◌, ◌≢◌, ◌<◌, ◌≤◌, ◌∙◌, ℕ, Bool, true, false, List, length, refl, sym, ap, arith}
use Rattle.std.specs.Prelude.{get_or, set, ◌==◌, nat_lt, nat_le, ◌&&◌, Option, Some, None, if◌then◌else◌}
use Rattle.std.proofs.lemmas.Bool.Decides.{nat_tests}
use Rattle.std.proofs.lemmas.List.{get_or-set_same, get_or-set_other, get_or_past, length-set}
use Rattle.tcp_host.specs.declared.iss.Endpoints.{Endpoints}
use Rattle.tcp_host.specs.Table.{ends_at, IsPlaceOf, IsNowhere, AreDistinct}
use Rattle.tcp_machine.specs.Connection.{Connection}
use Rattle.tcp_host.specs.declared.slot.Slot.{Slot}
use Rattle.tcp_machine.specs.Calls.{after_abort}
use Rattle.tcp_machine.specs.Instants.{later}
use Rattle.tcp_machine.specs.States.{is_synchronized, is_opening}
use Rattle.tcp_machine.specs.Timers.{after_timers}
use Rattle.tcp_host.specs.Listener.{after_handshake, has_room}
use Rattle.tcp_host.specs.declared.slot.Owner.{Owner}
use Rattle.tcp_host.specs.declared.slot.Owner.TheVariants.{Nobody, HalfOpen, Waiting, Program, Itself}
use Rattle.tcp_host.specs.Host.{Host, no_slot, slot_at, connection_at, with_connection, with_owner, listener_at, with_listener}
use Rattle.ip_address.specs.declared.ip.IpAddress.{IpAddress}
use Rattle.tcp_machine.specs.Reports.{after_unreachable}
use Rattle.tcp_host.specs.declared.reports.Report.TheVariants.{Hard}
use Rattle.tcp_host.specs.Reports.{noted, reported, is_to, lost_at}
use Rattle.tcp_host.specs.Turns.{expired, completed_in, completed, advanced_by, advanced, limited_by, limited}

-- ends that are nowhere are nowhere where a place has none
pub still_nowhere : (e : Endpoints) (ends : List (Option Endpoints)) (place : ℕ) → IsNowhere e ends → IsNowhere e (set ends place None)
still_nowhere e ends place nowhere p has = by (p == place) (nat_lt place (length ends)) refl refl where
  past : length ends ≤ place → p ≡ place → ends_at (set ends place None) p ≡ None
  past l n = get_or_past (set ends place None) p None (let s = length-set ends place None in omega (arith, l, n, s))

  by : (s t : Bool) → (p == place) ≡ s → nat_lt place (length ends) ≡ t → ⊥
  by false t s _ =
      let n : p ≢ place = grind (arith, nat_tests, s) in
      nowhere p (sym (get_or-set_other ends place p None None n) ∙ has)
  by true true s t =
      let n : p ≡ place = grind (arith, nat_tests, s) in
      let l : place < length ends = grind (arith, nat_tests, t) in
      let same = ap (λ (i : ℕ). ends_at (set ends place None) i) n ∙ get_or-set_same ends place None None l in
      grind (arith, same, has)
  by true false s t =
      let n : p ≡ place = grind (arith, nat_tests, s) in
      let l : length ends ≤ place = grind (arith, nat_tests, t) in
      let gone = past l n in
      grind (arith, gone, has)

-- ends are nowhere, once the place that had them has none
pub then_nowhere : (e : Endpoints) (ends : List (Option Endpoints)) (place : ℕ) → IsPlaceOf e ends place → AreDistinct ends →
    IsNowhere e (set ends place None)
then_nowhere e ends place at distinct p has = by (p == place) refl where
  by : (s : Bool) → (p == place) ≡ s → ⊥
  by false s =
      let n : p ≢ place = grind (arith, nat_tests, s) in
      n (distinct e p place (sym (get_or-set_other ends place p None None n) ∙ has) at.has)
  by true s =
      let n : p ≡ place = grind (arith, nat_tests, s) in
      let same = ap (λ (i : ℕ). ends_at (set ends place None) i) n ∙ get_or-set_same ends place None None at.within in
      grind (arith, same, has)

-- what was read of a place is its slot, and its connection alone is changed
pub connection_set : (h : Host) (place : ℕ) (seen : Slot) (c : Connection) → seen ≡ get_or h.slots place no_slot →
    record h { slots = set h.slots place (record { connection = c; owner = seen.owner; generation = seen.generation; challenges = seen.challenges; hop_limit = seen.hop_limit; reported = seen.reported }) }
    ≡ with_connection place c h
connection_set h place seen c e =
    ap (λ (s : Slot). record h {
      slots = set h.slots place (record { connection = c; owner = s.owner; generation = s.generation; challenges = s.challenges; hop_limit = s.hop_limit; reported = s.reported });
    }) e

-- a turn keeps how many places there are
expired_slots : (place now : ℕ) (h : Host) → length (expired place now h).slots ≡ length h.slots
expired_slots place now h = length-set h.slots place (record (slot_at place h) { connection = after_timers now (connection_at place h) })

completed_by : (b : Bool) (place index : ℕ) (h : Host) →
    length
    (if b then with_owner place (Waiting index) (with_listener index (after_handshake place (listener_at index h)) h)
    else with_connection place (after_abort (connection_at place h))
    (with_owner place (Itself None) (with_listener index (after_handshake place (listener_at index h)) h))).slots
    ≡ length h.slots
completed_by true place index h = length-set h.slots place (record (slot_at place h) { owner = Waiting index })
completed_by false place index h =
    let one = with_owner place (Itself None) (with_listener index (after_handshake place (listener_at index h)) h) in
    length-set one.slots place (record (slot_at place one) { connection = after_abort (connection_at place h) })
    ∙ length-set h.slots place (record (slot_at place h) { owner = Itself None })

completed_slots : (b : Bool) (place index : ℕ) (h : Host) → length (if b then completed_in place index h else h).slots ≡ length h.slots
completed_slots true place index h = completed_by (has_room (listener_at index h)) place index h
completed_slots false place index h = refl

advanced_slots : (owner : Owner) (place : ℕ) (h : Host) → length (advanced_by owner place h).slots ≡ length h.slots
advanced_slots (HalfOpen index) place h = by (is_synchronized (connection_at place h).state) where
  by : (b : Bool) → length (if b then completed place index h else h).slots ≡ length h.slots
  by true = completed_slots (nat_lt index (length h.listeners)) place index h
  by false = refl
advanced_slots Nobody place h = refl
advanced_slots (Waiting index) place h = refl
advanced_slots Program place h = refl
advanced_slots (Itself until) place h = refl

limited_slots : (owner : Owner) (place now : ℕ) (h : Host) → length (limited_by owner place now h).slots ≡ length h.slots
limited_slots (Itself None) place now h =
    length-set h.slots place (record (slot_at place h) { owner = Itself (Some (later now h.config.release_timeout)) })
limited_slots (Itself (Some t)) place now h = by (nat_le t now) where
  by : (b : Bool) → length (if b then with_connection place (after_abort (connection_at place h)) h else h).slots ≡ length h.slots
  by true = length-set h.slots place (record (slot_at place h) { connection = after_abort (connection_at place h) })
  by false = refl
limited_slots Nobody place now h = refl
limited_slots (HalfOpen index) place now h = refl
limited_slots (Waiting index) place now h = refl
limited_slots Program place now h = refl

pub advanced_all_slots : (place now : ℕ) (h : Host) → length (advanced place (expired place now h)).slots ≡ length h.slots
advanced_all_slots place now h =
    let one = expired place now h in advanced_slots (slot_at place one).owner place one ∙ expired_slots place now h

pub limited_all_slots : (place now : ℕ) (h : Host) → length (limited place now (advanced place (expired place now h))).slots ≡ length h.slots
limited_all_slots place now h =
    let one = expired place now h in
    let two = advanced place one in
    limited_slots (slot_at place two).owner place now two ∙ advanced_slots (slot_at place one).owner place one ∙ expired_slots place now h

-- a peer that is lost keeps how many places there are
pub lost_slots : (now : ℕ) (address : IpAddress) (place : ℕ) (h : Host) → length (lost_at now address place h).slots ≡ length h.slots
lost_slots now address place h = by (is_to address (ends_at h.ends place) && is_opening (connection_at place h).state) where
  by : (b : Bool) → length (if b then reported now Hard place h else h).slots ≡ length h.slots
  by true =
      let mid = noted now place h in
      length-set mid.slots place (record (slot_at place mid) { connection = after_unreachable (connection_at place mid) })
      ∙ length-set h.slots place (record (slot_at place h) { reported = Some now })
  by false = refl
