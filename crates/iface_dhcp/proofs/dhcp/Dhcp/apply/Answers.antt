use Rattle.iface_dhcp.proofs.dhcp.Dhcp.apply.Goals as goal

pub returns-clause-applied : goal.returns-clause-applied
returns-clause-applied c = record {
  leased = c.apply_lease.new.self;
  between = c.apply_lease.new.host;
  lease = c.in_ok-apply_lease.ensures.applied;
  routes = c.apply_routes.ensures;
}
