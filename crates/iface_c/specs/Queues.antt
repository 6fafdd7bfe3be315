-- What C reads of a socket's queues.
use Rattle.std.specs.Prelude.{ℕ, ◌≡◌, min, Some}
use Rattle.iface_host.specs.Queues.{fills_at}
use Rattle.iface_host.specs.declared.host.IfaceHost.{IfaceHost}
use Rattle.iface_host.specs.declared.queues.Fill.{Fill}
use Rattle.iface_c.specs.declared.queues.IfaceQueue.{IfaceQueue}

-- what waits in a queue as C reads it: each number up to the greatest one of 32 bits
abbrev pub fill_for_c : Fill → IfaceQueue
fill_for_c fill = record {
  packets = min fill.packets 4294967295;
  octets = min fill.octets 4294967295;
  most_packets = min fill.most_packets 4294967295;
  most_octets = min fill.most_octets 4294967295;
  first = min fill.first 4294967295;
}

-- what waits in the queues of a socket was written, and nothing changed
pub record ShowsQueues (n : ℕ) (received to_send : IfaceQueue) (old new : IfaceHost) : Type 0 where
  pub fills : Fill × Fill
  pub are_there : fills_at old n ≡ Some fills
  pub received_is : received ≡ fill_for_c fills.0
  pub to_send_is : to_send ≡ fill_for_c fills.1
  pub same : new ≡ old
