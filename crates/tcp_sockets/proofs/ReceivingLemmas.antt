-- A packet with a segment for the host is received.
use Rattle.std.proofs.Common.{ℕ, Bool, List, Option, Some, None, subst}
use Rattle.ip_address.specs.declared.cidr.IpCidr.{IpCidr}
use Rattle.sockets.specs.Raw.{Sent}
use Rattle.tcp_host.specs.Host.{Host}
use Rattle.tcp_sockets.specs.declared.receiving.Answer.{Answer}
use Rattle.tcp_sockets.specs.Arrivals.{Arrived, Arrives}
use Rattle.tcp_sockets.specs.Receiving.{ReceivesArrival, ReceivesSent}

pub received_sent : (now : ℕ) (checked : Bool) (own : List IpCidr) (p : Option Sent) (a : Arrived) (old : Host) (answer : Option Answer) (new : Host) →
    Arrives checked own p (Some a) → ReceivesArrival now a old answer new → ReceivesSent now checked own p old answer new
received_sent now checked own None a old answer new is r = absurd cc
received_sent now checked own (Some p) a old answer new is r = record {
  received = λ h. subst (λ (b : Arrived). ReceivesArrival now b old answer new) is.1 r;
  ignored = λ no. absurd (no is.0);
}
