-- What is done before a round of an interface, and after it.
use Rattle.std.specs.Prelude.{ℕ, ℤ, Bool, ◌||◌, if◌then◌else◌}
use Rattle.ip_address.specs.declared.ip.IpAddress.{IpAddress}
use Rattle.egress_schedule.specs.Plan.{Planned}
use Rattle.egress_schedule.specs.Patience.{after_alignment, after_look, after_patience}
use Rattle.egress_schedule.specs.Turns.{after_taking_turns}
use Rattle.egress_schedule.specs.Asides.{after_putting_all_back}
use Rattle.egress_schedule.specs.LongPackets.{after_setting_aside}
use Rattle.egress_schedule.specs.Passing.{after_bringing, after_passing}

module _ {L : Type 0} where
  abbrev pub with_turns_taken : ℤ → Planned L → Planned L
  with_turns_taken now r = if r.plan.is_waiting then after_taking_turns now r else r

  abbrev pub with_long_set_aside : ℕ → ℤ → Bool → Planned L → Planned L
  with_long_set_aside mtu now is_piece_left r =
      if r.plan.may_have_long then after_setting_aside mtu now is_piece_left r else r

  abbrev pub with_packets_brought : (IpAddress → Bool) → ℤ → Planned L → Planned L
  with_packets_brought known now r = if r.plan.is_waiting then after_bringing known now r else r

  abbrev pub with_packets_passing : (IpAddress → Bool) → ℤ → Planned L → Planned L
  with_packets_passing known now r = if r.plan.is_waiting then after_passing known now r else r

  -- one long packet may go, of the sockets that may be asked those that wait ask in turn, and packets to neighbours that are
  -- known pass those that wait
  abbrev pub before_round : (IpAddress → Bool) → ℤ → ℕ → Bool → Planned L → Planned L
  before_round known now mtu is_piece_left r =
      with_packets_passing known now
      (with_turns_taken now (with_long_set_aside mtu now is_piece_left (with_packets_brought known now r)))

  -- where some may not have been asked, these have their own waits again
  abbrev pub with_waits_put_back : Planned L → Planned L
  with_waits_put_back r = if r.plan.may_have_long || r.plan.is_waiting then after_putting_all_back r else r

  abbrev pub with_waits_ended : ℤ → Planned L → Planned L
  with_waits_ended now r = if r.plan.is_waiting then after_patience now (after_alignment r) else r

  -- the sockets have their own waits again, these are written down, and the packets whose patience
  -- has ended are given up
  abbrev pub after_round : ℤ → Planned L → Planned L
  after_round now r = with_waits_ended now (after_look now (with_waits_put_back r))
