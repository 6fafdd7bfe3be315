-- A guard on its post: what it drops is counted by the reason, and who claims an own address is told.
use Rattle.std.specs.Prelude.{ℕ, ◌+◌, ◌-◌, ◌^◌, ◌==◌, ◌&&◌, ℤ, is_none, Bool, true, false, List, length, Option, Some, None, if◌then◌else◌}
use Rattle.ip_address.specs.declared.ethernet_address.EthernetAddress.{EthernetAddress}
use Rattle.ip_address.specs.declared.cidr.IpCidr.{IpCidr}
use Rattle.ip_address.specs.declared.ip.IpAddress.{IpAddress}
use Rattle.ip_address.specs.declared.hardware.HardwareAddress.{HardwareAddress}
use Rattle.guard.specs.declared.answers.Answer.{Answer}
use Rattle.guard.specs.declared.answers.Answer.TheVariants.{Error, Reset}
use Rattle.guard.specs.declared.guard.Reason.{Reason}
use Rattle.guard.specs.declared.guard.Reason.TheVariants as reason
use Rattle.guard.specs.declared.watch.Conflict.{Conflict}
use Rattle.guard.specs.declared.watch.Counts.{Counts}
use Rattle.guard.specs.declared.watch.Watch.{Watch}
use Rattle.guard.specs.Answers.{after_answer, answer_of, new_answers, refused}
use Rattle.guard.specs.Guard.{after_asking, after_echo, first_of, micros, new_guard, reason_of, refusal_of_echo}
use Rattle.guard.specs.Kind.{asked_in}
use Rattle.guard.specs.Claim.{hardware_at}
use Rattle.guard.specs.Pins as pins
use Rattle.guard.specs.Defence.{after_claim, after_taking, no_defence}
use Rattle.guard.specs.declared.defence.Defence.{Defence}

-- one more, up to the greatest number of 64 bits
abbrev pub one_more : ℕ → ℕ
one_more n = if n == 2 ^ 64 - 1 then n else n + 1

abbrev pub no_drops : Counts
no_drops = record {
  own_address = 0;
  own_source = 0;
  pinned = 0;
  fragment = 0;
  loops = 0;
  echo_request = 0;
  error = 0;
  reset = 0;
}

abbrev pub new_watch : Watch
new_watch = record {
  is_on = true;
  guard = new_guard;
  answers = new_answers;
  counts = no_drops;
  conflict = None;
  pinned_conflict = None;
  defence = no_defence;
}

-- a frame was dropped
abbrev pub after_drop : Reason → Counts → Counts
after_drop reason.OwnAddress c = record c { own_address = one_more c.own_address }
after_drop reason.OwnSource c = record c { own_source = one_more c.own_source }
after_drop reason.Pinned c = record c { pinned = one_more c.pinned }
after_drop reason.Fragment c = record c { fragment = one_more c.fragment }
after_drop reason.Loop c = record c { loops = one_more c.loops }
after_drop reason.EchoRequest c = record c { echo_request = one_more c.echo_request }

-- a fragment was refused
abbrev pub after_refused_fragment : Watch → Watch
after_refused_fragment w = record w { counts = after_drop reason.Fragment w.counts }

-- an answer was held back
abbrev pub after_holding : Answer → Counts → Counts
after_holding Error c = record c { error = one_more c.error }
after_holding Reset c = record c { reset = one_more c.reset }

-- from which hardware address a frame came, and when
abbrev pub conflict_by : ℤ → List ℕ → Conflict
conflict_by now frame = record { hardware = hardware_at frame 6; at = now }

-- who claimed an own address last (RFC 5227 2.4)
abbrev pub conflict_after : ℤ → List ℕ → Reason → Option Conflict → Option Conflict
conflict_after now frame reason.OwnAddress c = Some (conflict_by now frame)
conflict_after now frame other c = c

-- who claimed a pinned address last
abbrev pub pinned_conflict_after : ℤ → List ℕ → Reason → Option Conflict → Option Conflict
pinned_conflict_after now frame reason.Pinned c = Some (conflict_by now frame)
pinned_conflict_after now frame other c = c

-- a claim of an own address may be answered
abbrev pub defence_after : ℤ → List ℕ → Reason → Defence → Defence
defence_after now frame reason.OwnAddress d = after_claim now frame d
defence_after now frame other d = d

-- a frame was dropped for a reason
abbrev pub after_report : ℤ → List ℕ → Reason → Watch → Watch
after_report now frame why w = record w {
  counts = after_drop why w.counts;
  conflict = conflict_after now frame why w.conflict;
  pinned_conflict = pinned_conflict_after now frame why w.pinned_conflict;
  defence = defence_after now frame why w.defence;
}

abbrev pub after_reason : ℤ → List ℕ → Option Reason → Watch → Watch
after_reason now frame None w = w
after_reason now frame (Some why) w = after_report now frame why w

-- why the host doesn't get to see a frame: by what it is, or since there were too many requests for echoes
abbrev pub reason_for : ℤ → List ℕ → Option HardwareAddress → List IpCidr → Watch → Option Reason
reason_for now frame hardware own w =
    if w.is_on then first_of (reason_of frame hardware own w.guard) (refusal_of_echo now frame w.guard) else None

abbrev pub admits : ℤ → List ℕ → Option HardwareAddress → List IpCidr → Watch → Bool
admits now frame hardware own w = is_none (reason_for now frame hardware own w)

-- only a frame that isn't dropped by what it is takes a token
abbrev pub after_judging : ℤ → List ℕ → Option HardwareAddress → List IpCidr → Watch → Watch
after_judging now frame hardware own w =
    if w.is_on && is_none (reason_of frame hardware own w.guard) then record w { guard = after_echo now frame w.guard } else w

abbrev pub after_arrival : ℤ → List ℕ → Option HardwareAddress → List IpCidr → Watch → Watch
after_arrival now frame hardware own w =
    after_reason now frame (reason_for now frame hardware own w) (after_judging now frame hardware own w)

-- why an answer to a frame of so many octets, of a known neighbour or not, is held back
abbrev pub refused_by : ℤ → List ℕ → (answered : ℕ) → (known : Bool) → Watch → Option Answer
refused_by now frame answered known w = refused (micros now) (answer_of frame) answered (length frame) known w.answers

abbrev pub lets_go : ℤ → List ℕ → (answered : ℕ) → (known : Bool) → Watch → Bool
lets_go now frame answered known w = if w.is_on then is_none (refused_by now frame answered known w) else true

abbrev pub after_refusal : Option Answer → Counts → Counts
after_refusal None c = c
after_refusal (Some answer) c = after_holding answer c

-- a frame in response was sent, or held back
abbrev pub after_response : ℤ → List ℕ → (answered : ℕ) → (known : Bool) → Watch → Watch
after_response now frame answered known w =
    if w.is_on then record w {
      guard = after_asking now (asked_in frame) true w.guard;
      answers = after_answer (micros now) (answer_of frame) answered (length frame) known w.answers;
      counts = after_refusal (refused_by now frame answered known w) w.counts;
    }
    else w

-- another frame was sent
abbrev pub after_sending : ℤ → List ℕ → Watch → Watch
after_sending now frame w = if w.is_on then record w { guard = after_asking now (asked_in frame) false w.guard } else w

-- what was owed is announced
abbrev pub after_defence : Watch → Watch
after_defence w = record w { defence = after_taking w.defence }

-- a neighbour was pinned, or is no more
abbrev pub after_pin : IpAddress → EthernetAddress → Watch → Watch
after_pin address hardware w = record w { guard = record w.guard { pins = pins.after_pin address hardware w.guard.pins } }

abbrev pub after_unpin : IpAddress → Watch → Watch
after_unpin address w = record w { guard = record w.guard { pins = pins.after_unpin address w.guard.pins } }
