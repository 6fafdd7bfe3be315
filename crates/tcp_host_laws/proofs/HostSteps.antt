-- What a host's functions do to its connections.
use Rattle.std.proofs.Common.{◌≡◌, ◌∙◌, ℕ, ◌<◌, ◌≤◌, Bool, true, false, List, length, Option, Some, None, get_or, slice_set, inl, inr}
use Rattle.std.proofs.Common.{refl, sym, ap, subst, arith}
use Rattle.std.specs.Prelude.{nat_lt, ◌⊎◌, if◌then◌else◌}
use Rattle.std.proofs.lemmas.Bool.{cases_eq}
use Rattle.std.proofs.lemmas.Bool.Decides.{nat_tests}
use Rattle.std.proofs.lemmas.List.{length-set, get_or-set_same, get_or-set_other, get_or_past}
use Rattle.tcp_machine.specs.Connection.{Connection}
use Rattle.tcp_host.specs.Reports.{noted as noted_report}
use Rattle.tcp_host.specs.declared.iss.Endpoints.{Endpoints}
use Rattle.tcp_host.specs.Arrivals.{FindsPlace, Free, OfHalfOpen, without_oldest}
use Rattle.tcp_host.specs.Backlog.{first_of}
use Rattle.tcp_host.specs.Listener.{Listener, after_accepting, after_closing}
use Rattle.tcp_host.specs.Table.{ends_at}
use Rattle.tcp_host.specs.declared.slot.Owner.{Owner}
use Rattle.tcp_host.specs.declared.slot.Owner.TheVariants.{Nobody, Program}
use Rattle.tcp_host.specs.declared.slot.Slot.{Slot}
use Rattle.tcp_host.specs.declared.calls.Handle.{Handle}
use Rattle.tcp_host.specs.Handles.{changed, accepting_at, accepting_from, accepting, is_listener, listener_closed, untold, with_hop_limit}
use Rattle.tcp_host.specs.Host.{Host, no_slot, slot_at, connection_at, with_slot, with_connection, with_owner, with_alarm, vacated, enrolled}
use Rattle.tcp_host.specs.Host.{listener_at, with_listener}
use Rattle.tcp_host.specs.News.{TellsChanged, noted}
use Rattle.tcp_host.specs.declared.news.Shown.{Shown}
use Rattle.tcp_host_laws.proofs.LifeLemmas.{Rests, Steps, Starts, rests_then, steps_rests}

-- one of a list
tests_lt : (a b : ℕ) → nat_lt a b ≡ true → a < b
tests_lt a b e = grind (arith, nat_tests)

tests_ge : (a b : ℕ) → nat_lt a b ≡ false → b ≤ a
tests_ge a b e = grind (arith, nat_tests)

pub in_or_past : (a b : ℕ) → (a < b) ⊎ (b ≤ a)
in_or_past a b = by (nat_lt a b) refl where
  by : (t : Bool) → nat_lt a b ≡ t → (a < b) ⊎ (b ≤ a)
  by true e = inl (tests_lt a b e)
  by false e = inr (tests_ge a b e)

pub past_set : {A : Type 0} (xs : List A) (i : ℕ) (x d : A) → length xs ≤ i → get_or (slice_set xs i x) i d ≡ d
past_set xs i x d past = get_or_past (slice_set xs i x) i d (subst (λ (n : ℕ). n ≤ i) (sym (length-set xs i x)) past)

-- what stays of a slot stays of each
module _ {A : Type 0} (f : Slot → A) (xs : List Slot) (place : ℕ) (s : Slot) (same : f s ≡ f (get_or xs place no_slot)) where
  kept_there : ((place < length xs) ⊎ (length xs ≤ place)) →
      f (get_or (slice_set xs place s) place no_slot) ≡ f (get_or xs place no_slot)
  kept_there (inl lt) = ap f (get_or-set_same xs place s no_slot lt) ∙ same
  kept_there (inr past) = ap f (past_set xs place s no_slot past ∙ sym (get_or_past xs place no_slot past))

  kept_by : (q : ℕ) → ((q ≡ place) ⊎ (q ≡ place → ⊥)) → f (get_or (slice_set xs place s) q no_slot) ≡ f (get_or xs q no_slot)
  kept_by q (inl e) = subst (λ (n : ℕ). f (get_or (slice_set xs place s) n no_slot) ≡ f (get_or xs n no_slot)) (sym e)
      (kept_there (in_or_past place (length xs)))
  kept_by q (inr ne) = ap f (get_or-set_other xs place q s no_slot ne)

  pub kept : (q : ℕ) → f (get_or (slice_set xs place s) q no_slot) ≡ f (get_or xs q no_slot)
  kept q = kept_by q (cases_eq q place)

-- ends that go
module _ (table : List (Option Endpoints)) (place : ℕ) where
  none_there : ((place < length table) ⊎ (length table ≤ place)) → ends_at (slice_set table place None) place ≡ None
  none_there (inl lt) = get_or-set_same table place None None lt
  none_there (inr past) = past_set table place None None past

  none_by : (q : ℕ) (e : Endpoints) → ((q ≡ place) ⊎ (q ≡ place → ⊥)) → ends_at (slice_set table place None) q ≡ Some e → ends_at table q ≡ Some e
  none_by q e (inl same) is =
      let gone = none_there (in_or_past place (length table)) in
      let here : ends_at (slice_set table place None) place ≡ Some e = ap (λ (n : ℕ). ends_at (slice_set table place None) n) (sym same) ∙ is in
      absurd cc
  none_by q e (inr ne) is = sym (get_or-set_other table place q None None ne) ∙ is

  pub without : (q : ℕ) (e : Endpoints) → ends_at (slice_set table place None) q ≡ Some e → ends_at table q ≡ Some e
  without q e is = none_by q e (cases_eq q place) is

-- and that come
module _ (table : List (Option Endpoints)) (place : ℕ) (e : Endpoints) where
  some_there : (d : Endpoints) → ((place < length table) ⊎ (length table ≤ place)) → ends_at (slice_set table place (Some e)) place ≡ Some d → e ≡ d
  some_there d (inl lt) is = let here = get_or-set_same table place (Some e) None lt in cc
  some_there d (inr past) is = let here = past_set table place (Some e) None past in absurd cc

  pub come : (d : Endpoints) → ends_at (slice_set table place (Some e)) place ≡ Some d → e ≡ d
  come d is = some_there d (in_or_past place (length table)) is

-- the same connections
pub same : (h : Host) → Rests h h
same h = record { slots = refl; connections = λ q. refl; ends = λ q e is. is }

pub slot_rests : (place : ℕ) (s : Slot) (h : Host) → s.connection ≡ connection_at place h → Rests h (with_slot place s h)
slot_rests place s h is = record {
  slots = length-set h.slots place s;
  connections = kept (λ (x : Slot). x.connection) h.slots place s is;
  ends = λ q e at. at;
}

pub owner_rests : (place : ℕ) (o : Owner) (h : Host) → Rests h (with_owner place o h)
owner_rests place o h = slot_rests place (record (slot_at place h) { owner = o }) h refl

pub alarm_rests : (place instant : ℕ) (h : Host) → Rests h (with_alarm place instant h)
alarm_rests place instant h = record { slots = refl; connections = λ q. refl; ends = λ q e is. is }

pub noted_rests : (place now : ℕ) (before : Shown) (h : Host) → Rests h (noted place now before h)
noted_rests place now before h = record { slots = refl; connections = λ q. refl; ends = λ q e is. is }

pub alarm_noted_rests : (place instant now : ℕ) (before : Shown) (h : Host) → Rests h (noted place now before (with_alarm place instant h))
alarm_noted_rests place instant now before h = record { slots = refl; connections = λ q. refl; ends = λ q e is. is }

pub untold_rests : (place since : ℕ) (h : Host) → Rests h (untold place since h)
untold_rests place since h = record { slots = refl; connections = λ q. refl; ends = λ q e is. is }

pub told_rests : (old new : Host) (told : Option Handle) → TellsChanged old told new → Rests old new
told_rests old new told t =
    subst (λ (h : Host). Rests old h) (sym t.rest) (record { slots = refl; connections = λ q. refl; ends = λ q e is. is })

pub listener_rests : (index : ℕ) (l : Listener) (h : Host) → Rests h (with_listener index l h)
listener_rests index l h = record { slots = refl; connections = λ q. refl; ends = λ q e is. is }

pub hops_rest : (place hop_limit : ℕ) (h : Host) → Rests h (with_hop_limit place hop_limit h)
hops_rest place hop_limit h = slot_rests place (record (slot_at place h) { hop_limit = hop_limit }) h refl

pub report_rests : (now place : ℕ) (h : Host) → Rests h (noted_report now place h)
report_rests now place h = slot_rests place (record (slot_at place h) { reported = Some now }) h refl

pub vacated_rests : (place : ℕ) (h : Host) → Rests h (vacated place h)
vacated_rests place h = record {
  slots = length-set h.slots place (record (slot_at place h) { owner = Nobody });
  connections = kept (λ (x : Slot). x.connection) h.slots place (record (slot_at place h) { owner = Nobody }) refl;
  ends = without h.ends place;
}

-- a place that was free or has given way
pub found_rests : (old : Host) (place : ℕ) (ready : Host) → FindsPlace old place ready → Rests old ready
found_rests old place ready (Free next is) = subst (λ (h : Host). Rests old h) (sym is) (same old)
found_rests old place ready (OfHalfOpen from none most oldest is) =
    let one = without_oldest from old in
    subst (λ (h : Host). Rests old h) (sym is) (rests_then old one (vacated place one) (listener_rests from _ old) (vacated_rests place one))

-- one connection becomes another one
pub slot_steps : (place : ℕ) (s : Slot) (h : Host) → Steps place s.connection h (with_slot place s h)
slot_steps place s h = record {
  slots = length-set h.slots place s;
  here = λ lt. ap (λ (x : Slot). x.connection) (get_or-set_same h.slots place s no_slot lt);
  others = λ q ne. ap (λ (x : Slot). x.connection) (get_or-set_other h.slots place q s no_slot ne);
  ends = λ q e is. is;
}

pub connection_steps : (place : ℕ) (c : Connection) (h : Host) → Steps place c h (with_connection place c h)
connection_steps place c h = slot_steps place (record (slot_at place h) { connection = c }) h

pub changed_steps : (place : ℕ) (c : Connection) (h : Host) → Steps place c h (changed place c h)
changed_steps place c h =
    steps_rests place c h (with_connection place c h) (changed place c h) (connection_steps place c h)
    (alarm_rests place 0 (with_connection place c h))

-- or a new one
pub slot_starts : (place : ℕ) (e : Endpoints) (s : Slot) (h : Host) → Starts place e s.connection h (enrolled place e (with_slot place s h))
slot_starts place e s h =
    let t = slot_steps place s h in record {
      slots = t.slots;
      here = t.here;
      others = t.others;
      own_ends = come (slice_set h.ends place None) place e;
      ends = λ q d ne is. sym (get_or-set_other h.ends place q None None ne)
          ∙ sym (get_or-set_other (slice_set h.ends place None) place q (Some e) None ne) ∙ is;
    }

-- what a listener does
abbrev pub accepting_if : Bool → ℕ → Host → Option Handle × Host
accepting_if b place h =
    if b then (Some (record { place = place; generation = (slot_at place h).generation }), untold place 0 (with_owner place Program h)) else (None, h)

accepting_by : (b : Bool) (place : ℕ) (h : Host) → Rests h (accepting_if b place h).1
accepting_by true place h =
    let one = with_owner place Program h in
    rests_then h one (untold place 0 one) (owner_rests place Program h) (untold_rests place 0 one)
accepting_by false place h = same h

accepting_place : (o : Option ℕ) (h : Host) → Rests h (accepting_at o h).1
accepting_place None h = same h
accepting_place (Some place) h = accepting_by (nat_lt place (length h.slots)) place h

accepting_some : (index : ℕ) (h : Host) → Rests h (accepting_from index h).1
accepting_some index h =
    let l = after_accepting (listener_at index h) in
    rests_then h (with_listener index l h) (accepting_from index h).1 (listener_rests index l h)
    (accepting_place (first_of (listener_at index h).ready) (with_listener index l h))

abbrev pub accepting_in : Bool → ℕ → Host → Option Handle × Host
accepting_in b index h = if b then accepting_from index h else (None, h)

accepting_index : (b : Bool) (index : ℕ) (h : Host) → Rests h (accepting_in b index h).1
accepting_index true index h = accepting_some index h
accepting_index false index h = same h

pub accepting_rests : (index : ℕ) (h : Host) → Rests h (accepting index h).1
accepting_rests index h = accepting_index (nat_lt index (length h.listeners)) index h

pub closed_rests : (index : ℕ) (h : Host) → Rests h (listener_closed index h)
closed_rests index h = by (is_listener index h) where
  by : (b : Bool) → Rests h (if b then with_listener index (after_closing (listener_at index h)) h else h)
  by true = listener_rests index (after_closing (listener_at index h)) h
  by false = same h
