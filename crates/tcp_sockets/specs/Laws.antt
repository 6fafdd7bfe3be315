-- What a poll doesn't do.
use Rattle.std.specs.Prelude.{◌≡◌, ℕ, Bool, true, false, ◌||◌, List, [], ◌∷◌, Some, if◌then◌else◌}
use Rattle.net_base.specs.Checksum.{is_rx}
use Rattle.ip_address.specs.declared.ip.IpAddress.{IpAddress}
use Rattle.ip_address.specs.declared.cidr.IpCidr.{IpCidr}
use Rattle.ip_address.specs.declared.protocol.IpVersion.{IpVersion}
use Rattle.ip_wire.specs.IpPacket.{src_addr, dst_addr}
use Rattle.sockets.specs.Queue.{first_of}
use Rattle.sockets.specs.Raw.{RawSocket, Sent, packet_in, socket_after_done}
use Rattle.tcp_wire.specs.Tcp.{tcp_in}
use Rattle.tcp_machine.specs.Outgoing as machine
use Rattle.tcp_host.specs.declared.iss.Endpoints.{Endpoints}
use Rattle.tcp_host.specs.Table.{ends_at}
use Rattle.tcp_host.specs.Turns.{sent_if, postponed, aborted_if}
use Rattle.tcp_sockets.specs.Arrivals.{HasSegment, is_loopback, is_own}
use Rattle.tcp_sockets.specs.Sending.{version_between}
use Rattle.tcp_sockets.specs.Polls.{State, HearsFirst, with_raw, IsNear, after_sending, is_near_queued, segment_at, later_by_pause}

-- whatever is told of next hops
abbrev pub Whatever : IpAddress → Bool → Type 0
Whatever address known = Unit {0}

-- a packet that isn't for this host, or has no right segment, leaves its socket; nothing answers it, and nothing else changes
abbrev pub OthersAreLeft : Type 0 → Type 0
OthersAreLeft L = (v : IpVersion) (near now : ℕ) (own : List IpCidr) (socket : RawSocket) (octets : List ℕ) (p : Sent) (old new : State L) →
    first_of socket.rx.packets ≡ Some (tt, octets) → packet_in socket.version octets ≡ Some p →
    (HasSegment (is_rx old.carrier.checksum) own p → ⊥) → HearsFirst Whatever v near now own socket old new →
    new ≡ record old { sockets = with_raw near (socket_after_done socket) old.sockets }

-- no packet from a loopback address, to one that isn't, is for the host
abbrev pub LoopbackStaysInside : Type 0
LoopbackStaysInside = (checked : Bool) (own : List IpCidr) (p : Sent) →
    is_loopback (src_addr p.header) ≡ true → is_loopback (dst_addr p.header) ≡ false → HasSegment checked own p → ⊥

-- A segment from port 1234 to 7, number 100, acknowledging 300, with the octets abc. With URG set, and the pointer behind the first of
-- them, it is read as without
abbrev pub segment_text : (flags pointer : ℕ) → List ℕ
segment_text flags pointer =
    4 ∷ 210 ∷ 0 ∷ 7 ∷ 0 ∷ 0 ∷ 0 ∷ 100 ∷ 0 ∷ 0 ∷ 1 ∷ 44 ∷ 80 ∷ flags ∷ 0 ∷ 20 ∷ 0 ∷ 0 ∷ 0 ∷ pointer ∷ 97 ∷ 98 ∷ 99 ∷ []

pub record UrgentIsSkipped : Type 0 where
  pub same : tcp_in (segment_text 0x38 1) ≡ tcp_in (segment_text 0x18 0)
  pub octets : (tcp_in (segment_text 0x38 1)).1 ≡ 97 ∷ 98 ∷ 99 ∷ []

-- nothing is sent from an address that isn't the host's: the connection is aborted, and no socket changes
abbrev pub StrangersAreSilent : Type 0 → Type 0
StrangersAreSilent L = (near : Bool) (place now : ℕ) (own : List IpCidr) (m : machine.Action) (e : Endpoints) (st : State L) →
    ends_at st.host.ends place ≡ Some e → is_own own e.local_addr ≡ false →
    after_sending near place now own m st ≡ record st { host = sent_if place now (aborted_if place st.host) }

-- who was heard within the last minute is near, and of all others those to whom the next hop is told to be known
abbrev pub KnownAreNear : Type 0
KnownAreNear = (told : Bool) (e : Endpoints) (heard near : Bool) →
    IsNear (λ address. λ known. known ≡ told) (Some e) heard near → near ≡ (heard || told)

-- what goes to a peer that isn't near counts as sent, whether it found room or not
abbrev pub FarCountsAsSent : Type 0 → Type 0
FarCountsAsSent L = (place now : ℕ) (own : List IpCidr) (m : machine.Action) (e : Endpoints) (v : IpVersion) (st : State L) →
    ends_at st.host.ends place ≡ Some e → version_between e own ≡ Some v →
    (after_sending false place now own m st).host ≡ sent_if place now st.host

-- to one that is it counts as sent exactly if it found room: else its connection stays as it is, and is due again
abbrev pub NearWaits : Type 0 → Type 0
NearWaits L = (place now : ℕ) (own : List IpCidr) (m : machine.Action) (e : Endpoints) (v : IpVersion) (st : State L) →
    ends_at st.host.ends place ≡ Some e → version_between e own ≡ Some v →
    (after_sending true place now own m st).host
    ≡ (if is_near_queued v (segment_at e place m st.host) st then sent_if place now st.host else postponed place (later_by_pause now) st.host)
