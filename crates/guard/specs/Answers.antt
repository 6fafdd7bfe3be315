-- Which answers to strangers' frames a host may send.
use Rattle.std.specs.Prelude.{ℕ, ◌+◌, ◌*◌, ◌/◌, ◌%◌, nat_lt, ◌==◌, ◌||◌, ◌&&◌, not, Bool, true, false, List, length, Option, Some, None, if◌then◌else◌}
use Rattle.net_base.specs.declared.bucket.Bucket.{Bucket}
use Rattle.ip_wire.specs.Octets.{u16_at}
use Rattle.guard.specs.declared.answers.Answer.{Answer}
use Rattle.guard.specs.declared.answers.Answer.TheVariants.{Error, Reset}
use Rattle.guard.specs.declared.answers.Answers.{Answers}
use Rattle.guard.specs.Kind.{octet_at, message_of}
use Rattle.guard.specs.Guard.{has_room, after_passing}

-- a hundred in a second, and ten at once, and as many for known neighbours; errors at most three times as long as what they answer
abbrev pub new_answers : Answers
new_answers = record {
  errors = record { interval = 10000; depth = 10; full_at = 0 };
  known_errors = record { interval = 10000; depth = 10; full_at = 0 };
  resets = record { interval = 10000; depth = 10; full_at = 0 };
  known_resets = record { interval = 10000; depth = 10; full_at = 0 };
  longest_error = 3;
}

-- the flag RST of a segment (RFC 9293 3.1)
abbrev pub reset_if : ℕ → Option Answer
reset_if flags = if flags / 4 % 2 == 1 then Some Reset else None

-- by the type of a message (RFC 792)
abbrev pub answer_of_icmp : ℕ → Option Answer
answer_of_icmp type = if (type == 3) || (type == 11) || (type == 12) then Some Error else None

abbrev pub payload_of : List ℕ → ℕ
payload_of frame = 14 + octet_at frame 14 % 16 * 4

abbrev pub answer_of_ipv4 : List ℕ → Option Answer
answer_of_ipv4 frame =
    if octet_at frame 23 == 1 then answer_of_icmp (octet_at frame (payload_of frame))
    else if octet_at frame 23 == 6 then reset_if (octet_at frame (payload_of frame + 13))
    else None

-- by the type of a message (RFC 4443 2.1)
abbrev pub answer_of_icmpv6 : ℕ → Option Answer
answer_of_icmpv6 type = if (type == 1) || (type == 2) || (type == 3) || (type == 4) then Some Error else None

abbrev pub answer_at : Option ℕ → List ℕ → Option Answer
answer_at None frame = None
answer_at (Some at) frame = answer_of_icmpv6 (octet_at frame at)

abbrev pub answer_of_ipv6 : List ℕ → Option Answer
answer_of_ipv6 frame = if octet_at frame 20 == 6 then reset_if (octet_at frame 67) else answer_at (message_of frame) frame

abbrev pub answer_of : List ℕ → Option Answer
answer_of frame =
    if nat_lt (length frame) 42 then None
    else if u16_at frame 12 == 0x0800 then answer_of_ipv4 frame
    else if u16_at frame 12 == 0x86dd then answer_of_ipv6 frame
    else None

-- an error is longer than so many times what it answers, in octets; 0 bounds nothing
abbrev pub is_too_long : (answered len times : ℕ) → Bool
is_too_long answered len times = not (times == 0) && nat_lt (answered * times) len

-- a rate of answers to whomever is used up: known neighbours have rates of their own then
abbrev pub is_short : ℕ → Answers → Bool
is_short now g = not (has_room now g.errors && has_room now g.resets)

-- the rate of an answer, to a known neighbour or to somebody else
abbrev pub rate_of : Answer → (known : Bool) → Answers → Bucket
rate_of Error true g = g.known_errors
rate_of Error false g = g.errors
rate_of Reset true g = g.known_resets
rate_of Reset false g = g.resets

-- the answer takes a token of its rate
abbrev pub after_rate : ℕ → Answer → (known : Bool) → Answers → Answers
after_rate now Error true g = record g { known_errors = after_passing now g.known_errors }
after_rate now Error false g = record g { errors = after_passing now g.errors }
after_rate now Reset true g = record g { known_resets = after_passing now g.known_resets }
after_rate now Reset false g = record g { resets = after_passing now g.resets }

-- an error is too long for what it answers
abbrev pub is_oversized : Answer → (answered len : ℕ) → Answers → Bool
is_oversized Error answered len g = is_too_long answered len g.longest_error
is_oversized Reset answered len g = false

-- an answer of so many octets, to a frame of so many, is held back
abbrev pub is_held_back : ℕ → Answer → (answered len : ℕ) → (known : Bool) → Answers → Bool
is_held_back now a answered len known g = is_oversized a answered len g || not (has_room now (rate_of a known g))

-- which answer may not be sent; none: it may
abbrev pub refused : ℕ → Option Answer → (answered len : ℕ) → (known : Bool) → Answers → Option Answer
refused now None answered len known g = None
refused now (Some a) answered len known g = if is_held_back now a answered len known g then Some a else None

abbrev pub after_answer : ℕ → Option Answer → (answered len : ℕ) → (known : Bool) → Answers → Answers
after_answer now None answered len known g = g
after_answer now (Some a) answered len known g = if is_oversized a answered len g then g else after_rate now a known g
