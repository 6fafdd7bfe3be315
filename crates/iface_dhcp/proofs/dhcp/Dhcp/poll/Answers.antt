use Rattle.std.proofs.Common.{◌∙◌}
use Rattle.std.proofs.lemmas.Int.{to_z-of_z}
use Rattle.iface_dhcp.proofs.dhcp.Dhcp.poll.Goals as goal

pub returns-clause-polled : goal.returns-clause-polled
returns-clause-polled c = record {
  micros = c.in_ok-micros.micros;
  is_now = c.in_ok-micros.ensures.micros ∙ to_z-of_z _ c.args.now c.ranges.now;
  count = c.in_ok-count.count;
  heard = c.hear.new.self;
  overheard = c.overhear.new.self;
  closed = c.close_sent.new.self;
  sent = c.send_next.new.self;
  after_hearing = c.hear.new.host;
  after_overhearing = c.overhear.new.host;
  tested = c.test.new.self;
  after_closing = c.close_sent.new.host;
  after_sending = c.send_next.new.host;
  waiting = c.in_ok-count.ensures.count;
  hears = c.hear.ensures;
  overhears = c.overhear.ensures;
  closes = c.close_sent.ensures;
  sends = c.send_next.ensures;
  tests = c.test.ensures;
  event_is = c.take_event.ensures.told;
  after = c.take_event.ensures.after;
}
