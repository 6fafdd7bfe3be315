-- What a turn sends is due.
use Rattle.std.proofs.Common.{◌≡◌, ◌∙◌, ℕ, Bool, true, false, Option, Some, None, get_or, refl, sym, ap}
use Rattle.std.proofs.lemmas.Bool.{false≢true}
use Rattle.std.specs.Prelude.{nat_lt, if◌then◌else◌}
use Rattle.tcp_machine.specs.Outgoing as machine
use Rattle.tcp_connection.specs.declared.outgoing.Action.{Action}
use Rattle.tcp_connection.specs.Actions.{action_of, header_of, IsHeader, AreBlocks, AreOctets}
use Rattle.tcp_connection.specs.Blocks.{places_of}
use Rattle.tcp_connection.specs.declared.outgoing.Header.{Header}
use Rattle.tcp_host.specs.Host.{Host, connection_at, slot_at, vacated}
use Rattle.tcp_host.specs.declared.turns.Turn.{Turn}
use Rattle.tcp_host.specs.declared.turns.Turn.TheVariants.{Idle, Quiet, Sends}
use Rattle.tcp_host.specs.Challenges.{is_challenge_left}
use Rattle.tcp_host.specs.Turns.{TakesTurn, turn_by, turn_asked, left_at, is_over, before_sending, mss_of, scale_of}
use Rattle.tcp_host.specs.declared.turns.Outgoing.{Outgoing}
use Rattle.tcp_sockets.specs.Packets.{value_of}
use Rattle.tcp_sockets.specs.Polls.{segment_at}

pub record IsDue (place : ℕ) (a : Action) (now : ℕ) (h : Host) : Type 0 where
  pub due : machine.Action
  pub is_due : machine.action now (connection_at place h) ≡ Some due
  pub is_asked : action_of due ≡ a

abbrev sends : Turn → Bool
sends Idle = false
sends Quiet = false
sends (Sends place a) = true

abbrev place_of : Turn → ℕ
place_of Idle = 0
place_of Quiet = 0
place_of (Sends place a) = place

abbrev asked_of : Action → Turn → Action
asked_of other Idle = other
asked_of other Quiet = other
asked_of other (Sends place a) = a

-- the connection that is asked is the one that sends
asked_is_due : (o : Option machine.Action) (at place now : ℕ) (a : Action) (before h : Host) →
    machine.action now (connection_at at before) ≡ o → (Sends place a, h) ≡ turn_by o at now before → IsDue place a now h
asked_is_due None at place now a before h is e = absurd (false≢true (ap (λ (x : Turn × Host). sends x.0) (sym e)))
asked_is_due (Some m) at place now a before h is e = record {
  due = m;
  is_due = ap (λ (x : Turn × Host). machine.action now (connection_at (place_of x.0) x.1)) e ∙ is;
  is_asked = sym (ap (λ (x : Turn × Host). asked_of a x.0) e);
}

-- a challenge that is left isn't sent
abbrev unless_left : Bool → (at now : ℕ) → Host → Turn × Host
unless_left left at now h = if left then (Quiet, left_at at now h) else turn_by (machine.action now (connection_at at h)) at now h

not_left : (left : Bool) (place at : ℕ) (a : Action) (now : ℕ) (old h : Host) → (Sends place a, h) ≡ unless_left left at now old → IsDue place a now h
not_left true place at a now old h e = absurd (false≢true (ap (λ (x : Turn × Host). sends x.0) (sym e)))
not_left false place at a now old h e = asked_is_due (machine.action now (connection_at at old)) at place now a old h refl e

-- nothing is sent once the time of a connection is over, or before its instant
abbrev unless_over : Bool → (at now : ℕ) → Host → Turn × Host
unless_over late at now h = if late then (Quiet, vacated at h) else turn_asked at now (before_sending at now h)

not_over : (late : Bool) (place at : ℕ) (a : Action) (now : ℕ) (old h : Host) →
    (Sends place a, h) ≡ unless_over late at now old → IsDue place a now h
not_over true place at a now old h e = absurd (false≢true (ap (λ (x : Turn × Host). sends x.0) (sym e)))
not_over false place at a now old h e =
    not_left (is_challenge_left now (slot_at at (before_sending at now old))) place at a now (before_sending at now old) h e

abbrev after_instant : Bool → (at now : ℕ) → Host → Turn × Host
after_instant early at now h = if early then (Idle, h) else unless_over (is_over now (slot_at at h)) at now h

not_early : (early : Bool) (place at : ℕ) (a : Action) (now : ℕ) (old h : Host) →
    (Sends place a, h) ≡ after_instant early at now old → IsDue place a now h
not_early true place at a now old h e = absurd (false≢true (ap (λ (x : Turn × Host). sends x.0) (sym e)))
not_early false place at a now old h e = not_over (is_over now (slot_at at old)) place at a now old h e

pub sends_is_due : (place : ℕ) (a : Action) (now : ℕ) (old h : Host) → TakesTurn now old (Sends place a) h → IsDue place a now h
sends_is_due place a now old h t = not_early (nat_lt now (get_or old.alarms t.place 0)) place t.place a now old h t.is

-- what is sent is known from its parts
pub segment_is : (o : Outgoing) (place now : ℕ) (a : Action) (m : machine.Action) (h : Host) →
    machine.action now (connection_at place h) ≡ Some m → action_of m ≡ a →
    IsHeader a (connection_at place h) o.header → AreBlocks a (connection_at place h) o.blocks → AreOctets a (connection_at place h) o.octets.now →
    o.mss ≡ mss_of o.endpoints o.header h → o.scale ≡ scale_of o.header (connection_at place h) → o.hop_limit ≡ (slot_at place h).hop_limit →
    value_of o ≡ segment_at o.endpoints place m h
segment_is o place now a m h due of is_header are_blocks are_octets is_mss is_scale is_hop_limit =
    let header : o.header ≡ header_of (machine.segment_for m (connection_at place h)) = is_header m of in
    let blocks : o.blocks ≡ places_of (machine.segment_for m (connection_at place h)).blocks = are_blocks m of in
    let octets : o.octets.now ≡ (machine.segment_for m (connection_at place h)).octets = are_octets now m due of in
    let mss = is_mss ∙ ap (λ (x : Header). mss_of o.endpoints x h) header in
    let scale = is_scale ∙ ap (λ (x : Header). scale_of x (connection_at place h)) header in
    cc
