-- A packet arrives at a raw socket of a host of connections.
use Rattle.std.specs.Prelude.{◌≡◌, ℕ, Bool, List, Option, Some, None}
use Rattle.std.specs.Option.{option_map}
use Rattle.ip_address.specs.declared.cidr.IpCidr.{IpCidr}
use Rattle.ip_address.specs.declared.protocol.IpVersion.{IpVersion}
use Rattle.sockets.specs.Raw.{Sent, packet_in}
use Rattle.tcp_host.specs.declared.iss.Endpoints.{Endpoints}
use Rattle.tcp_host.specs.declared.resets.Reply.{Reply}
use Rattle.tcp_host.specs.Host.{Host}
use Rattle.tcp_host.specs.Arrivals as host
use Rattle.tcp_sockets.specs.declared.receiving.Answer.{Answer}
use Rattle.tcp_sockets.specs.Arrivals.{Arrived, HasSegment, arrived_in}

-- an answer that is owed, between the ends of what it answers
abbrev pub answer_to : Endpoints → Option Reply → Option Answer
answer_to e reply = option_map (λ (r : Reply). record { endpoints = e; reply = r }) reply

-- a host receives a segment
pub record ReceivesArrival (now : ℕ) (a : Arrived) (old : Host) (answer : Option Answer) (new : Host) : Type 0 where
  pub reply : Option Reply
  pub is : answer ≡ answer_to a.endpoints reply
  pub received : host.Receives now a.endpoints a.segment a.octets old reply new

-- nothing comes of it
pub record Ignores (old : Host) (answer : Option Answer) (new : Host) : Type 0 where
  pub unanswered : answer ≡ None
  pub unchanged : new ≡ old

-- a packet with a segment for the host is received, and any other one changes nothing
pub record ReceivesPacket (now : ℕ) (checked : Bool) (own : List IpCidr) (p : Sent) (old : Host) (answer : Option Answer) (new : Host)
    : Type 0 where
  pub received : HasSegment checked own p → ReceivesArrival now (arrived_in p) old answer new
  pub ignored : (HasSegment checked own p → ⊥) → Ignores old answer new

abbrev pub ReceivesSent : ℕ → Bool → List IpCidr → Option Sent → Host → Option Answer → Host → Type 0
ReceivesSent now checked own None old answer new = Ignores old answer new
ReceivesSent now checked own (Some p) old answer new = ReceivesPacket now checked own p old answer new

-- the first packet of a socket, if there is one
abbrev pub ReceivesFirst : ℕ → Bool → List IpCidr → IpVersion → Option (Unit {0} × List ℕ) → Host → Option Answer → Host → Type 0
ReceivesFirst now checked own version None old answer new = Ignores old answer new
ReceivesFirst now checked own version (Some q) old answer new = ReceivesSent now checked own (packet_in version q.1) old answer new
