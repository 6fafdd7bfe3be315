-- Time-outs and losses: RFC 6298 with given measurements, RFC 3042, 3465, 5681 and 6582 with segments of 1,000 octets.
use Rattle.std.specs.Prelude.{◌≡◌, true, false}
use Rattle.tcp_machine.specs.declared.estimator.Estimator.{Estimator}
use Rattle.tcp_machine.specs.declared.congestion.Congestion.{Congestion}
use Rattle.tcp_machine.specs.Estimator as estimator
use Rattle.tcp_machine.specs.Congestion as congestion

-- a first round trip of 2 s: SRTT 2 s, RTTVAR 1 s, RTO 6 s; then one of 4 s: RTTVAR 1.25 s, SRTT 2.25 s, RTO 7.25 s
abbrev pub after_first : Estimator
after_first = estimator.after_sample 1000000 2000000 estimator.new_estimator

pub record Estimates : Type 0 where
  pub at_first : estimator.new_estimator.timeout ≡ 1000000
  pub first : after_first.timeout ≡ 6000000
  pub second : (estimator.after_sample 1000000 4000000 after_first).timeout ≡ 7250000
  pub doubled : (estimator.after_timeout after_first).timeout ≡ 12000000
  -- a round trip of a millisecond waits for the shortest time-out, and none waits for more than a minute
  pub shortest : (estimator.after_sample 200000 1000 estimator.new_estimator).timeout ≡ 200000
  -- once a closed window opens it is that of the round trip again; before a round trip was measured it stays doubled
  pub without_doubling : (estimator.without_doubling 1000000 (estimator.after_timeout after_first)).timeout ≡ 6000000
  pub not_measured : (estimator.without_doubling 1000000 (estimator.after_timeout estimator.new_estimator)).timeout ≡ 2000000
  pub longest : (estimator.after_timeout (record after_first { timeout = 50000000 })).timeout ≡ 60000000

-- Ten segments are on their way at first (RFC 6928). In slow start each acknowledged one lets two go
abbrev pub start : Congestion
start = congestion.new_congestion 1000

-- the third duplicate with ten segments on their way: half of them and three, and the first is sent again
abbrev pub lost : Congestion
lost = congestion.after_duplicate 1000 1 10000 10001
    (congestion.after_duplicate 1000 1 10000 10001 (congestion.after_duplicate 1000 1 10000 10001 start))

pub record Losses : Type 0 where
  pub initial : start.window ≡ 10000
  pub slow_start : (congestion.after_acknowledged 1000 1000 1001 9000 start).window ≡ 11000
  -- one acknowledgement of eight segments is worth as much as eight; while what a time-out sends again is acknowledged, two
  pub at_once : (congestion.after_acknowledged 1000 8000 8001 2000 start).window ≡ 18000
  pub again : (congestion.after_acknowledged 1000 8000 8001 0 (congestion.after_timeout true 1000 10000 10001 start)).window ≡ 3000
  pub to_the_threshold : (congestion.after_acknowledged 1000 8000 8001 2000 (record start { threshold = 12000 })).window ≡ 12000
  -- the first two acknowledgements that tell nothing new let a segment go each, and the window stays (RFC 3042)
  pub first_goes : congestion.beyond_window 1000 (congestion.after_duplicate 1000 1 10000 10001 start) ≡ 1000
  pub second_goes : congestion.beyond_window 1000
      (congestion.after_duplicate 1000 1 10000 10001 (congestion.after_duplicate 1000 1 10000 10001 start)) ≡ 2000
  pub two_are_none : (congestion.after_duplicate 1000 1 10000 10001 (congestion.after_duplicate 1000 1 10000 10001 start)).window
      ≡ 10000
  pub third : lost.window ≡ 8000
  pub third_goes : congestion.beyond_window 1000 lost ≡ 0
  -- those two segments don't count as on their way
  pub limited : (congestion.after_duplicate 1000 1 12000 12001
      (congestion.after_duplicate 1000 1 11000 11001 (congestion.after_duplicate 1000 1 10000 10001 start))).window ≡ 8000
  pub threshold : lost.threshold ≡ 5000
  pub fourth : (congestion.after_duplicate 1000 1 10000 10001 lost).window ≡ 9000
  -- a partial acknowledgement of two segments: the window loses them and gets one back
  pub partial : (congestion.after_acknowledged 1000 2000 2001 8000 lost).window ≡ 7000
  pub still : (congestion.after_acknowledged 1000 2000 2001 8000 lost).is_recovering ≡ true
  -- all of it: at most the threshold
  pub full : (congestion.after_acknowledged 1000 10000 10001 0 lost).window ≡ 2000
  pub over : (congestion.after_acknowledged 1000 10000 10001 0 lost).is_recovering ≡ false
  pub timer : (congestion.after_timeout true 1000 10000 10001 start).window ≡ 1000
  -- congestion avoidance: a segment once a window was acknowledged, by however many acknowledgements, and not before
  pub avoidance : (congestion.after_acknowledged 1000 9000 9001 1000 (record start { threshold = 10000 })).window ≡ 10000
  pub avoided : (congestion.after_acknowledged 1000 1000 10001 9000
      (congestion.after_acknowledged 1000 9000 9001 1000 (record start { threshold = 10000 }))).window ≡ 11000
  -- after a SYN was lost one segment goes at first, and slow start goes on as far as ever
  pub lost_syn : (congestion.first_congestion 1 1000).window ≡ 1000
  pub lost_syn_threshold : (congestion.first_congestion 1 1000).threshold ≡ congestion.largest
  -- after silence the window is that of a new connection, if it was larger, and stays otherwise
  pub restart : congestion.restart_window 1000 50000 ≡ 10000
  pub small_stays : congestion.restart_window 1000 8000 ≡ 8000
  -- duplicates of what was recovered aren't taken for another loss (RFC 6582 3.2, step 2)
  pub no_second : congestion.is_third 10001 (record lost { is_recovering = false; duplicates = 2 }) ≡ false
  pub next_one : congestion.is_third 10002 (record lost { is_recovering = false; duplicates = 2 }) ≡ true
