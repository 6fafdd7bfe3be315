use Rattle.std.proofs.Common.{refl}
use Rattle.host_laws.proofs.RawExample.{datagram_brought, datagram_taken, none_brought, packet_brought, packet_queued, packet_sent, packet_taken}
use Rattle.host_laws.proofs.raw_packets.raw_packet_arrives.Goals as goal

pub returns : goal.returns
returns c = record {
  brings = packet_brought;
  queued = packet_queued;
  call = packet_taken;
  is_read = refl;
  sent = packet_sent;
  brings_other = datagram_brought;
  not_queued = refl;
  other_call = datagram_taken;
  brings_none = none_brought;
}
