use Rattle.std.proofs.Common.{rules}
use Rattle.iface_context.proofs.settings.new.Goals as goal

pub invariant_of-result : goal.invariant_of-result
invariant_of-result c =
    record {
      few_addrs = search rules;
      four_addrs = search rules;
      room_for_addrs = search rules;
      timely = c.requires.timely;
      short = c.requires.short;
      long = c.requires.long;
      within_a_day = search rules;
      cut_to_fit = search rules;
      of_medium = c.requires.of_medium;
      own = c.requires.own;
      neighbors = c.new-3.ensures.of c.args.capabilities.medium;
      pending = search rules;
    }
