-- Whether another host has an address, before it is used, and that it is used from then on (RFC 5227 2.1.1, 2.3). Instants are in
-- microseconds.
use Rattle.std.specs.Prelude.{ℕ, ◌≡◌, ◌+◌, ◌%◌, ◌&&◌, nat_lt, nat_le, min, Bool, true, false, Option, Some, None, if◌then◌else◌, refl}
use Rattle.ip_address.specs.Ipv4.{address_of}
use Rattle.ip_address.specs.declared.ipv4.Ipv4Address.{Ipv4Address}
use Rattle.dhcp_client.specs.declared.probing.Probing.{Probing}

-- the first request goes within a second (PROBE_WAIT)
abbrev pub begun : Ipv4Address → ℕ → ℕ → Probing
begun address now random = record { address = address; sent = 0; next_at = now + random % 1000001 }

-- three requests are probes (PROBE_NUM), two announce the address (ANNOUNCE_NUM)
abbrev pub is_probe : ℕ → Bool
is_probe sent = nat_lt sent 3

-- once the first announcement was sent the address is in use
abbrev pub is_tested : Probing → Bool
is_tested p = nat_lt 3 p.sent

-- between probes pass one to two seconds (PROBE_MIN, PROBE_MAX); behind the third one two (ANNOUNCE_WAIT), and so behind an
-- announcement (ANNOUNCE_INTERVAL)
abbrev pub pause : ℕ → ℕ → ℕ
pause random sent = if nat_lt sent 2 then 1000000 + random % 1000001 else 2000000

-- when the next request goes, if one does
abbrev pub due_at : Probing → Option ℕ
due_at p = if nat_lt p.sent 5 then Some p.next_at else None

abbrev pub is_due : ℕ → Probing → Bool
is_due now p = nat_lt p.sent 5 && nat_le p.next_at now

-- the address of its sender: none in a probe, the address itself in an announcement (RFC 5227 1.1)
abbrev pub sender_of : Probing → Ipv4Address
sender_of p = if is_probe p.sent then record { bits = 0 } else p.address

abbrev pub sender_at : ℕ → Probing → Option Ipv4Address
sender_at now p = if is_due now p then Some (sender_of p) else None

abbrev pub after_request : ℕ → ℕ → Probing → Probing
after_request now random p =
    if is_due now p then record p { sent = p.sent + 1; next_at = now + pause random p.sent } else p

-- another host probes for an address that is in use: it is announced once more, two seconds behind the announcement before
abbrev pub announced_again : Probing → Probing
announced_again p = record p { sent = min p.sent 4 }

-- Examples, and what must not be: an address that a host has waited for since 0, with the least pauses, is probed for at 0, 1 and 2
-- seconds, and in use at 4.

abbrev pub first : Probing
first = begun (address_of 10 0 0 9) 0 0

abbrev pub at_three : Probing
at_three = after_request 2000000 0 (after_request 1000000 0 (after_request 0 0 first))

pub a_probe : sender_at 0 first ≡ Some (address_of 0 0 0 0)
a_probe = refl

pub not_at_once : sender_at 999999 (after_request 0 0 first) ≡ None
not_at_once = refl

pub not_yet : is_tested (after_request 3999999 0 at_three) ≡ false
not_yet = refl

pub in_use : is_tested (after_request 4000000 0 at_three) ≡ true
in_use = refl

pub announced : sender_at 4000000 at_three ≡ Some (address_of 10 0 0 9)
announced = refl

pub announced_twice : sender_at 6000000 (after_request 4000000 0 at_three) ≡ Some (address_of 10 0 0 9)
announced_twice = refl

pub not_thrice : due_at (after_request 6000000 0 (after_request 4000000 0 at_three)) ≡ None
not_thrice = refl
