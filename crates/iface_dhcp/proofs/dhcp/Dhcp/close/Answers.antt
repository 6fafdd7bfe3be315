use Rattle.std.proofs.Common.{rules}
use Rattle.iface_dhcp.proofs.dhcp.Dhcp.close.Goals as goal

pub returns-clause-sockets : goal.returns-clause-sockets
returns-clause-sockets c = record {
  between = c.close_one.new.host;
  udp = c.close_one.ensures;
  after = c.close_if.new.host;
  raw = c.close_if.ensures;
  closed = c.close_if-2.new.host;
  place = c.close_if-2.ensures;
  unwatched = search rules;
}
