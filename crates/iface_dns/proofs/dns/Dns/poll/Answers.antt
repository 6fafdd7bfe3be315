use Rattle.std.proofs.Common.{◌∙◌}
use Rattle.std.proofs.lemmas.Int.{to_z-of_z}
use Rattle.iface_dns.proofs.dns.Dns.poll.Goals as goal

pub returns-clause-polled : goal.returns-clause-polled
returns-clause-polled c = record {
  micros = c.in_ok-micros.micros;
  is_now = c.in_ok-micros.ensures.micros ∙ to_z-of_z _ c.args.now c.ranges.now;
  each = c.poll_each.ensures;
}
