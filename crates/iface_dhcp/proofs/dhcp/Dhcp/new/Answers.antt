use Rattle.std.proofs.Common.{rules}
use Rattle.iface_dhcp.proofs.dhcp.Dhcp.new.Goals as goal

pub returns-clause-made : goal.returns-clause-made
returns-clause-made c = record {
  hardware_addr = c.in-Some.hardware_addr;
  hardware = search rules;
  between = c.open_udp.new.self;
  opened = search rules;
  kept = c.keep_place.ensures;
  client = search rules;
  broadcast = search rules;
  probes = search rules;
  probing = search rules;
  lost = search rules;
  random = search rules;
  parameters = search rules;
  host_name = search rules;
  ack = search rules;
  leased = search rules;
  routed = search rules;
}
