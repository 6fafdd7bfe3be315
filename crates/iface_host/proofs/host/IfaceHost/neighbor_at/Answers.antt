use Rattle.std.proofs.Common.{ap, ◌∙◌}
use Rattle.std.specs.Option.{option_and_then}
use Rattle.iface_tables.specs.Neighbor.{Neighbors}
use Rattle.host_machine.specs.Context.Host.{no_sockets}
use Rattle.iface_host.specs.Neighbors.{known_as}
use Rattle.iface_host.proofs.host.IfaceHost.neighbor_at.Goals as goal

pub returns : goal.returns
returns c =
    let nth = c.nth_by_expiry.ensures in
    record {
      all = nth.all;
      are_all = record {
        pairs = nth.pairs ∙ ap (λ (n : Neighbors). n.known) (rw c.deref.ensures at (c.neighbors.ensures no_sockets));
        once = nth.once;
        order = nth.order;
      };
      known_is = c.known_from.ensures ∙ ap (option_and_then known_as) nth.is;
    }
