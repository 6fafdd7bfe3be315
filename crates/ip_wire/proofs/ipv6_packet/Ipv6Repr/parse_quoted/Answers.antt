use Rattle.std.proofs.lemmas.List.{take_rest}
use Rattle.ip_wire.proofs.Ipv6Again.{both}
use Rattle.ip_wire.proofs.ipv6_packet.Ipv6Repr.parse_quoted.Goals as goal

pub returns : goal.returns
returns c = (
  record { whole = c.if-octets-lt-HEADER_LEN.false; version = c.if-octets-ne6.false },
  both c.header_of.ensures (take_rest c.args.octets.now 40),
)
