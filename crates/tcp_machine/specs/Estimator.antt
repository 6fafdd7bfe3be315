-- How long an acknowledgement is waited for (RFC 6298). All spans are in microseconds.
use Rattle.std.specs.Prelude.{ℕ, ◌+◌, ◌-◌, ◌*◌, ◌/◌, min, max, Option, Some, None}
use Rattle.tcp_machine.specs.declared.estimator.RoundTrip.{RoundTrip}
use Rattle.tcp_machine.specs.declared.estimator.Estimator.{Estimator}

-- the bounds of the time-out: 60 s at most (2.5), and 1 s for the first (2.1)
abbrev pub longest_timeout : ℕ
longest_timeout = 60000000

abbrev pub first_timeout : ℕ
first_timeout = 1000000

-- the clock's granularity G (2)
abbrev pub granularity : ℕ
granularity = 1000

-- before any measurement (2.1)
abbrev pub new_estimator : Estimator
new_estimator = record { round_trip = None; timeout = first_timeout }

abbrev pub distance : ℕ → ℕ → ℕ
distance a b = (a - b) + (b - a)

-- SRTT and RTTVAR after a measurement r: RTTVAR first, by the old SRTT (2.2, 2.3; alpha is 1/8, beta 1/4)
abbrev pub after_measurement : ℕ → Option RoundTrip → RoundTrip
after_measurement r None = record { smoothed = r; variation = r / 2 }
after_measurement r (Some t) = record {
  smoothed = (7 * t.smoothed + r) / 8;
  variation = (3 * t.variation + distance t.smoothed r) / 4;
}

-- SRTT + max (G, 4 RTTVAR), from a shortest one up to the longest (2.2, 2.4, 2.5)
abbrev pub timeout_for : ℕ → RoundTrip → ℕ
timeout_for shortest t = min longest_timeout (max shortest (t.smoothed + max granularity (4 * t.variation)))

-- a segment that was sent once was acknowledged after so long (3: Karn's rule leaves out those sent again)
abbrev pub after_sample : ℕ → ℕ → Estimator → Estimator
after_sample shortest r e = record {
  round_trip = Some (after_measurement r e.round_trip);
  timeout = timeout_for shortest (after_measurement r e.round_trip);
}

-- the time ran out: it is doubled (5.5)
abbrev pub after_timeout : Estimator → Estimator
after_timeout e = record e { timeout = min longest_timeout (e.timeout + e.timeout) }

-- the time-out as it was measured last, whatever it was doubled since
abbrev pub measured_timeout : ℕ → Option RoundTrip → ℕ → ℕ
measured_timeout shortest None timeout = timeout
measured_timeout shortest (Some t) timeout = timeout_for shortest t

abbrev pub without_doubling : ℕ → Estimator → Estimator
without_doubling shortest e = record e { timeout = measured_timeout shortest e.round_trip e.timeout }
