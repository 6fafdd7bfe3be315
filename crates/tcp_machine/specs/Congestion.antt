-- How much may be on its way: slow start, congestion avoidance, fast retransmit and fast recovery (RFC 5681), as NewReno
-- (RFC 6582), with the initial window of RFC 6928, growth by the octets that are acknowledged (RFC 3465), and limited transmit
-- (RFC 3042). All sizes are in octets.
use Rattle.std.specs.Prelude.{ℕ, ◌+◌, ◌-◌, ◌*◌, ◌/◌, min, max, nat_lt, nat_le, ◌==◌, ◌&&◌, not, Bool, true, false}
use Rattle.std.specs.Prelude.{if◌then◌else◌}
use Rattle.tcp_machine.specs.declared.congestion.Congestion.{Congestion}

-- more isn't useful: a window of RFC 7323 has less than 2^30 octets
abbrev pub largest : ℕ
largest = 1073741824

-- min (10 MSS, max (2 MSS, 14,600)) (RFC 6928 2)
abbrev pub initial_window : ℕ → ℕ
initial_window mss = min (10 * mss) (max (2 * mss) 14600)

abbrev pub new_congestion : ℕ → Congestion
new_congestion mss = record {
  window = initial_window mss;
  threshold = largest;
  credit = 0;
  duplicates = 0;
  recover = 0;
  is_recovering = false;
}

-- A SYN, or the answer to one, was lost: at first one segment may be on its way (RFC 5681 3.1; RFC 6928 2). No octet was lost, so
-- the threshold stays
abbrev pub after_lost_syn : ℕ → Congestion → Congestion
after_lost_syn mss c = record c { window = mss }

-- after a handshake in which the own SYN was sent again so often
abbrev pub first_congestion : (tries mss : ℕ) → Congestion
first_congestion tries mss = if tries == 0 then new_congestion mss else after_lost_syn mss (new_congestion mss)

-- half of what is on its way, two segments at least (RFC 5681 3.1, equation 4)
abbrev pub half_of : ℕ → ℕ → ℕ
half_of mss flight = max (flight / 2) (2 * mss)

-- Below the threshold the window grows by what was acknowledged, up to the threshold (RFC 5681 3.1). Up to the position that
-- had been sent when the time ran out, an acknowledgement adds two segments at most, since it may be of what had arrived
-- before (RFC 3465 2.3)
abbrev pub growth : (mss acknowledged position : ℕ) → Congestion → ℕ
growth mss acknowledged position c = if nat_lt position c.recover then min acknowledged (2 * mss) else acknowledged

abbrev pub started : (mss acknowledged position : ℕ) → Congestion → Congestion
started mss acknowledged position c = record c {
  window = min (min c.threshold largest) (c.window + growth mss acknowledged position c);
  duplicates = 0;
}

-- From the threshold on it grows by a segment once a whole window was acknowledged (RFC 5681 3.1; RFC 3465 2.1, where the
-- credit is bytes_acked)
abbrev pub credit_with : ℕ → Congestion → ℕ
credit_with acknowledged c = min largest (c.credit + acknowledged)

abbrev pub avoided : (mss acknowledged : ℕ) → Congestion → Congestion
avoided mss acknowledged c =
    if nat_le c.window (credit_with acknowledged c)
    then record c { window = min largest (c.window + mss); credit = credit_with acknowledged c - c.window; duplicates = 0 }
    else record c { credit = credit_with acknowledged c; duplicates = 0 }

abbrev pub grown : (mss acknowledged position : ℕ) → Congestion → Congestion
grown mss acknowledged position c =
    if nat_lt c.window c.threshold then started mss acknowledged position c else avoided mss acknowledged c

-- All up to `recover` is acknowledged: recovery ends, with so much on its way (RFC 6582 3.2, step 3, full, option 1)
abbrev pub recovered : ℕ → ℕ → Congestion → Congestion
recovered mss flight c = record c {
  window = min c.threshold (max flight mss + mss);
  duplicates = 0;
  is_recovering = false;
}

-- Some of it is: what was acknowledged leaves the window, and a segment comes back into it (step 3, partial)
abbrev pub partly_recovered : ℕ → ℕ → Congestion → Congestion
partly_recovered mss acknowledged c = record c {
  window = max mss (min largest (c.window - acknowledged + (if nat_le mss acknowledged then mss else 0)));
}

-- so many octets more are acknowledged, up to a position, with so much on its way then
abbrev pub after_acknowledged : (mss acknowledged position flight : ℕ) → Congestion → Congestion
after_acknowledged mss acknowledged position flight c =
    if not c.is_recovering then grown mss acknowledged position c
    else if nat_le c.recover position then recovered mss flight c
    else partly_recovered mss acknowledged c

-- whether an acknowledgement that tells something new also tells of the next lost segment, which is sent again at once
abbrev pub shows_a_loss : ℕ → Congestion → Bool
shows_a_loss position c = c.is_recovering && nat_lt position c.recover

-- Where the peer tells blocks, the window stays in a recovery: what it bounds is on its way, not what may be (RFC 6675 5)
abbrev pub after_progress : (by_blocks : Bool) → (mss acknowledged position flight : ℕ) → Congestion → Congestion
after_progress by_blocks mss acknowledged position flight c =
    if by_blocks && shows_a_loss position c then c else after_acknowledged mss acknowledged position flight c

-- whether the next acknowledgement that tells nothing new, of a position, is taken for a loss: it is the third in a
-- row, and tells of more than was recovered before (RFC 5681 3.2, RFC 6582 3.2, step 2)
abbrev pub is_third : ℕ → Congestion → Bool
is_third position c = not c.is_recovering && (c.duplicates == 2) && nat_lt c.recover position

-- it does: with so much on its way, up to a position (RFC 5681 3.2, steps 2 and 3; RFC 6582 3.2, step 2)
abbrev pub after_loss : (mss flight top : ℕ) → Congestion
after_loss mss flight top = record {
  window = min largest (half_of mss flight + 3 * mss);
  threshold = half_of mss flight;
  credit = 0;
  duplicates = 3;
  recover = top;
  is_recovering = true;
}

-- a loss that blocks guide the recovery of: half of what was on its way (RFC 6675 5, step (4.2))
abbrev pub after_loss_told : (mss flight top : ℕ) → Congestion
after_loss_told mss flight top = record (after_loss mss flight top) { window = half_of mss flight }

-- blocks tell more: that counts as a duplicate (RFC 6675 2), but not in a recovery
abbrev pub after_more_told : Congestion → Congestion
after_more_told c = if c.is_recovering then c else record c { duplicates = min 3 (c.duplicates + 1) }

-- An acknowledgement tells nothing new. What limited transmit sent isn't counted (RFC 5681 3.2, step 2). In recovery each of
-- them says that a segment has left the network (step 4)
abbrev pub after_duplicate : (mss position flight top : ℕ) → Congestion → Congestion
after_duplicate mss position flight top c =
    if is_third position c then after_loss mss (min flight c.window) top
    else if c.is_recovering then record c { window = min largest (c.window + mss) }
    else record c { duplicates = min 3 (c.duplicates + 1) }

-- The time ran out (RFC 5681 3.1, RFC 6582 3.2, step 4). The threshold stays where the same segment was sent again by the
-- timer before
abbrev pub after_timeout : (is_first : Bool) → (mss flight top : ℕ) → Congestion → Congestion
after_timeout is_first mss flight top c = record {
  window = mss;
  threshold = if is_first then half_of mss flight else c.threshold;
  credit = 0;
  duplicates = 0;
  recover = top;
  is_recovering = false;
}

-- How many octets beyond the window may be on their way: a segment more for each of the first two acknowledgements that tell
-- nothing new (RFC 3042 2)
abbrev pub beyond_window : ℕ → Congestion → ℕ
beyond_window mss c = if c.is_recovering then 0 else min 2 c.duplicates * mss

-- the window after nothing was sent for a time-out: that of a new connection at most (RFC 5681 4.1)
abbrev pub restart_window : (mss window : ℕ) → ℕ
restart_window mss window = min window (initial_window mss)
