-- Connections of a host: how they are made, and how they are freed.
use Rattle.std.specs.Prelude.{ℕ, ◌≡◌, Bool, true, false, [], replicate, IsSomeAnd, Option, Some, None, if◌then◌else◌}
use Rattle.std.specs.Option.{option_map}
use Rattle.net_base.specs.declared.phy.Checksum.{Checksum}
use Rattle.ip_address.specs.declared.protocol.IpProtocol.TheVariants as protocol
use Rattle.ip_address.specs.declared.protocol.IpVersion.{IpVersion}
use Rattle.ip_address.specs.declared.protocol.IpVersion.TheVariants.{Ipv4, Ipv6}
use Rattle.sockets.specs.declared.socket.SocketOf.TheVariants.{Raw}
use Rattle.tcp_sockets.specs.Polls.{Carrier}
use Rattle.tcp_sockets.specs.declared.tcp_sockets.SocketPair.{SocketPair}
use Rattle.tcp_host.specs.Host as streams
use Rattle.tcp_host.specs.declared.config.Config.{Config}
use Rattle.iface_host.specs.Refusals.{close_refusal}
use Rattle.iface_host.specs.Sockets as sockets
use Rattle.iface_host.specs.Sockets.{Socket, raw}
use Rattle.iface_host.specs.Streams.{OpensPair, has_room_for}
use Rattle.iface_host.specs.declared.host.IfaceHost.{IfaceHost}
use Rattle.iface_host.specs.declared.refusal.Refusal.{Refusal}
use Rattle.iface_host.specs.declared.refusal.Refusal.TheVariants.{TableFull}
use Rattle.iface_host.specs.declared.streams.StreamPair.{StreamPair}
use Rattle.iface_streams.specs.Settings as setting
use Rattle.iface_streams.specs.declared.settings.StreamSettings.{StreamSettings}
use Rattle.iface_streams.specs.declared.streams.Made.{Made}
use Rattle.iface_streams.specs.declared.streams.Streams.{Streams}

-- the host has no room for the sockets
abbrev pub new_refusal : StreamSettings → IfaceHost → Option Refusal
new_refusal s host = if has_room_for (setting.sockets s) host then None else Some TableFull

-- the two sockets of a family
abbrev pub sockets_of : Made → Socket × Socket
sockets_of m = (Raw m.near, Raw m.far)

abbrev pub pair_for : IpVersion → Bool → StreamSettings → Option (Socket × Socket)
pair_for v true s = Some (raw v protocol.Tcp (setting.near_rooms s), raw v protocol.Tcp (setting.far_rooms s))
pair_for v false s = None

abbrev pub count_of : Option (Socket × Socket) → ℕ
count_of None = 0
count_of (Some pair) = 2

-- they are opened, if there are any
abbrev pub OpensIf : Option (Socket × Socket) → Option StreamPair → IfaceHost → IfaceHost → Type 0
OpensIf None opened old new = (opened ≡ None) × (new ≡ old)
OpensIf (Some made) opened old new = IsSomeAnd opened (λ pair. OpensPair made.0 made.1 pair old new)

abbrev pub handles_of : Option StreamPair → Option SocketPair
handles_of None = None
handles_of (Some pair) = Some pair.handles

-- the raw sockets as a poll needs them
abbrev pub carrier_of : Checksum → Streams → Carrier
carrier_of checksum s = record {
  v4 = handles_of s.v4;
  v6 = handles_of s.v6;
  checksum = checksum;
  far_v4 = [];
  far_v6 = [];
  waiting = [];
}

-- no connection and no listener is there, and nothing is due
pub record AreFirst (config : Config) (places : ℕ) (h : streams.Host) : Type 0 where
  pub ends : h.ends ≡ replicate places None
  pub alarms : h.alarms ≡ replicate places streams.never
  pub taken : h.taken ≡ replicate places 0
  pub listeners : h.listeners ≡ []
  pub config_is : h.config ≡ config

-- they were just made, for a host which has their sockets now
pub record IsNew (s : StreamSettings) (made : Streams) (old new : IfaceHost) : Type 0 where
  pub between : IfaceHost
  pub v4 : OpensIf (pair_for Ipv4 s.ipv4 s) made.v4 old between
  pub v6 : OpensIf (pair_for Ipv6 s.ipv6 s) made.v6 between new
  pub connections : AreFirst (setting.config_for s old.ip_mtu) s.places made.connections
  pub carrier : made.carrier ≡ carrier_of old.outbox.capabilities.checksum.tcp made
  pub given_up : made.given_up ≡ 0

-- what a call of the host does unless it is refused, when it leaves the host as it is
abbrev pub Unless : Option Refusal → (IfaceHost → IfaceHost → Type 0) → IfaceHost → IfaceHost → Type 0
Unless None Step old new = Step old new
Unless (Some refusal) Step old new = new ≡ old

-- a socket is closed, if it is open
abbrev pub ClosesOne : ℕ → IfaceHost → IfaceHost → Type 0
ClosesOne n old new = Unless (close_refusal old n) (sockets.Closes n) old new

-- those of a family, first the one for peers that have answered
pub record ClosesBoth (pair : StreamPair) (old new : IfaceHost) : Type 0 where
  pub between : IfaceHost
  pub near : ClosesOne pair.near old between
  pub far : ClosesOne pair.far between new

abbrev pub ClosesPair : Option StreamPair → IfaceHost → IfaceHost → Type 0
ClosesPair None old new = new ≡ old
ClosesPair (Some pair) old new = ClosesBoth pair old new

-- the sockets are closed, first those of IPv4
pub record Closes (s : Streams) (old new : IfaceHost) : Type 0 where
  pub between : IfaceHost
  pub v4 : ClosesPair s.v4 old between
  pub v6 : ClosesPair s.v6 between new
