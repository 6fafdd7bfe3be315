-- Sockets that aren't asked in a round. The own wait of one is set aside, and put back after the round.
use Rattle.std.specs.Prelude.{ℕ, Bool, length, ℤ, Option, Some, None, if◌then◌else◌}
use Rattle.std.specs.Ordering.{int_cmp, is_le}
use Rattle.net_base.specs.Time.{silence_from}
use Rattle.ip_address.specs.declared.ip.IpAddress.{IpAddress}
use Rattle.ip_address.specs.declared.ip.IpAddress.TheVariants as address
use Rattle.socket_set.specs.SocketMeta.{Wait}
use Rattle.socket_set.specs.SocketSet.{wait_of, with_wait}
use Rattle.egress_schedule.specs.declared.watch.Waiting.{Waiting}
use Rattle.egress_schedule.specs.Plan.{Planned, each_of, watch_at, with_watch}

-- a wait is over
abbrev pub is_over : ℤ → Waiting → Bool
is_over now w = is_le (int_cmp w.until now)

-- nobody has this address, so who waits for it isn't asked before the end of the wait
abbrev pub nobody : IpAddress
nobody = address.Ipv4 (record { bits = 0 })

-- when a socket asks again that isn't asked in a round: if its wait is over, a second later
abbrev pub until_unasked : ℤ → Waiting → ℤ
until_unasked now w = if is_over now w then silence_from now else w.until

-- for whom it waits then
abbrev pub waiting_unasked : ℤ → Option Waiting → Option Waiting
waiting_unasked now None = None
waiting_unasked now (Some w) = Some (record w { until = until_unasked now w })

-- the own wait of a socket, if it has one: of one that waits for somebody, until that wait's end
abbrev pub own_wait : Option Waiting → Wait → Wait
own_wait None wait = wait
own_wait (Some w) None = None
own_wait (Some w) (Some wait) = Some (w.neighbor, w.until)

module _ {L : Type 0} where
  -- the own wait of a socket is set aside, so that it isn't asked in this round; it goes on waiting for whom it waits
  abbrev pub with_wait_aside : ℤ → ℕ → Planned L → Planned L
  with_wait_aside now i r =
      let waiting = waiting_unasked now (watch_at i r).waiting in
      record {
        plan = with_watch i
            (record (watch_at i r) { waiting = waiting; set_aside = Some (own_wait waiting (wait_of r.sockets i)) }) r.plan;
        sockets = with_wait r.sockets i (Some (nobody, silence_from now));
      }

  abbrev pub if_set_aside : ℕ → Planned L → Option Wait → Planned L
  if_set_aside i r None = r
  if_set_aside i r (Some wait) = record {
    plan = with_watch i (record (watch_at i r) { set_aside = None }) r.plan;
    sockets = with_wait r.sockets i wait;
  }

  -- after the round each has its own wait again
  abbrev pub after_putting_back_at : ℕ → Planned L → Planned L
  after_putting_back_at i r = if_set_aside i r (watch_at i r).set_aside

  abbrev pub after_putting_all_back : Planned L → Planned L
  after_putting_all_back r = each_of after_putting_back_at (length r.plan.watches) r
