-- What connections hear of peers that can't be reached and of paths with a smaller MTU (RFC 9293 3.7.5, 3.9.2.2).
use Rattle.std.specs.Prelude.{ℕ, ◌≡◌, ◌+◌, ◌-◌, min, length, Bool, true, false, not, ◌==◌, Option, Some, None}
use Rattle.ip_address.specs.declared.ip.IpAddress.{IpAddress}
use Rattle.ip_address.specs.declared.ip.IpAddress.TheVariants.{Ipv4, Ipv6}
use Rattle.ip_address.specs.declared.protocol.IpProtocol.TheVariants.{Tcp}
use Rattle.tcp_host.specs.Host as streams
use Rattle.tcp_host.specs.Reports as reports
use Rattle.tcp_host.specs.Reports.{lost}
use Rattle.tcp_host.specs.declared.iss.Endpoints.{Endpoints}
use Rattle.tcp_host.specs.declared.reports.Report.{Report}
use Rattle.tcp_host.specs.declared.reports.Report.TheVariants as report
use Rattle.iface_host.specs.LastErrors.{first_about, without_first}
use Rattle.iface_host.specs.Waits.{TellsGivenUp, given_up_refusal}
use Rattle.iface_host.specs.declared.errors.ErrorCause.{ErrorCause}
use Rattle.iface_host.specs.declared.errors.ErrorCause.TheVariants.{TooBig, Hard, Soft}
use Rattle.iface_host.specs.declared.errors.PacketError.{PacketError}
use Rattle.iface_host.specs.declared.host.IfaceHost.{IfaceHost}
use Rattle.iface_host.specs.declared.refusal.Refusal.{Refusal}
use Rattle.iface_host.specs.declared.streams.StreamPair.{StreamPair}
use Rattle.iface_streams.specs.Connect.{with_connections}
use Rattle.iface_streams.specs.declared.streams.Streams.{Streams}

-- the octets of the headers in front of those of a segment (RFC 791 3.1, RFC 8200 3, RFC 9293 3.1)
abbrev pub headers_to : IpAddress → ℕ
headers_to (Ipv4 a) = 40
headers_to (Ipv6 a) = 60

-- how many octets a segment may have in packets of so many
abbrev pub segment_in : IpAddress → (mtu : ℕ) → ℕ
segment_in address mtu = min (mtu - headers_to address) 65535

-- what a message says of a segment
abbrev pub report_by : IpAddress → ErrorCause → Report
report_by address (TooBig mtu) = report.TooLong (segment_in address mtu)
report_by address Hard = report.Hard
report_by address Soft = report.Soft

abbrev pub ends_in : PacketError → Endpoints
ends_in e = record {
  local_addr = e.local.addr;
  local_port = e.local.port;
  remote_addr = e.remote.addr;
  remote_port = e.remote.port;
}

-- a message is heard: the connections are others
pub record Hears (now : ℕ) (e : PacketError) (old new : Streams) : Type 0 where
  pub connections : streams.Host
  pub heard : reports.Reports now (ends_in e) e.number (report_by e.remote.addr e.cause) old.connections connections
  pub rest : new ≡ with_connections old connections

-- the host doesn't keep the first message about a segment any more
abbrev pub without_report : IfaceHost → IfaceHost
without_report host = record host { errors = without_first Tcp None host.errors }

-- The messages about segments are heard in the order in which they came, so many at most
pub data HearsAll (now : ℕ) : ℕ → (old new : Streams) → (before after : IfaceHost) → Type 0 where
  Enough : (most : ℕ) (s s' : Streams) (host after : IfaceHost) → most ≡ 0 → s' ≡ s → after ≡ host → HearsAll now most s s' host after
  Silent : (most : ℕ) (s s' : Streams) (host after : IfaceHost) → first_about Tcp None host.errors ≡ None → s' ≡ s → after ≡ host →
      HearsAll now most s s' host after
  Heard : (most n : ℕ) (e : PacketError) (s middle s' : Streams) (host between after : IfaceHost) → most ≡ n + 1 →
      first_about Tcp None host.errors ≡ Some e → Hears now e s middle → between ≡ without_report host →
      HearsAll now n middle s' between after → HearsAll now most s s' host after

-- Whom the host gave up that was asked for by the socket for peers which haven't answered: connections that are being opened to it end
pub record LosesFrom (now number : ℕ) (old new : Streams) (before after : IfaceHost) : Type 0 where
  pub none : (r : Refusal) → given_up_refusal before number ≡ Some r → (new ≡ old) × (after ≡ before)
  pub some : given_up_refusal before number ≡ None → (address : IpAddress) × TellsGivenUp number address before after
      × (new ≡ with_connections old (lost now address (length old.connections.slots) old.connections))

abbrev pub LosesOf : (now : ℕ) → Option StreamPair → (old new : Streams) → (before after : IfaceHost) → Type 0
LosesOf now None old new before after = (new ≡ old) × (after ≡ before)
LosesOf now (Some pair) old new before after = LosesFrom now pair.far old new before after

-- both families, where the host gave up a packet since this was asked last
abbrev pub with_given_up : ℕ → Streams → Streams
with_given_up count s = record s { given_up = count }

pub record LosesBoth (now : ℕ) (old new : Streams) (before after : IfaceHost) : Type 0 where
  pub middle : Streams
  pub between : IfaceHost
  pub v4 : LosesOf now old.v4 (with_given_up before.schedule.given_up old) middle before between
  pub v6 : LosesOf now middle.v6 middle new between after

abbrev pub LosesIf : (has_news : Bool) → (now : ℕ) → (old new : Streams) → (before after : IfaceHost) → Type 0
LosesIf false now old new before after = (new ≡ old) × (after ≡ before)
LosesIf true now old new before after = LosesBoth now old new before after

abbrev pub Loses : (now : ℕ) → (old new : Streams) → (before after : IfaceHost) → Type 0
Loses now old new before after = LosesIf (not (before.schedule.given_up == old.given_up)) now old new before after
