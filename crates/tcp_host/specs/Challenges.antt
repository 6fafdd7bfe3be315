-- How many challenges a connection sends (RFC 5961 7). Each connection has its own limit: from one that all of them shared, an
-- attacker with a connection of its own could tell what others answer.
use Rattle.std.specs.Prelude.{ℕ, ◌+◌, ◌≤◌, ◌&&◌, not, Bool, List, if◌then◌else◌}
use Rattle.net_base.specs.declared.bucket.Bucket.{Bucket}
use Rattle.net_base.specs.Bucket.{has_token, after_take, taken, AreWithin}
use Rattle.tcp_connection.specs.Actions.{after_sending}
use Rattle.tcp_connection.specs.Asked.{is_only_challenged}
use Rattle.tcp_host.specs.declared.slot.Slot.{Slot}

-- five at once, and one more each 200 ms
abbrev pub all_challenges : Bucket
all_challenges = record { interval = 200000; depth = 5; full_at = 0 }

-- what a connection sends now is a challenge, and it has sent as many as it may: it is left, as if the link had lost it
abbrev pub is_challenge_left : ℕ → Slot → Bool
is_challenge_left now s = is_only_challenged now s.connection && not (has_token now s.challenges)

-- a challenge that it sends now is counted
abbrev pub with_challenge_counted : ℕ → Slot → Slot
with_challenge_counted now s =
    record s { challenges = if is_only_challenged now s.connection then after_take now s.challenges else s.challenges }

-- what it sends was sent, and a challenge is counted
abbrev pub slot_after_sending : ℕ → Slot → Slot
slot_after_sending now s = record (with_challenge_counted now s) { connection = after_sending now s.connection }

-- so in any second a connection sends ten at most
abbrev pub AtMostTen : Type 0
AtMostTen = (first : ℕ) (instants : List ℕ) (full_at : ℕ) → AreWithin first (first + 1000000) instants →
    taken (record { interval = 200000; depth = 5; full_at = full_at }) instants ≤ 10
