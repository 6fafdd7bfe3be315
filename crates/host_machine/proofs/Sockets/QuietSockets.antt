-- A socket offers nothing before the instant that it names, and stays as it is.
use Rattle.std.proofs.Common.{◌≡◌, ℕ, List, [], ◌∷◌, refl, ap, arith, Option, None}
use Rattle.std.specs.Prelude.{ℤ, pos, ◌≤ℤ◌, ◌<ℤ◌, Bool, true, false, cond}
use Rattle.std.specs.Option.{option_map}
use Rattle.std.specs.Cmp.{int_cmp_is}
use Rattle.std.proofs.lemmas.Int.{ints}
use Rattle.std.specs.declared.cmp.Ordering.TheVariants.{Less}
use Rattle.ip_address.specs.declared.ip.IpAddress.{IpAddress}
use Rattle.sockets.specs.declared.endpoint.IpEndpoint.{IpEndpoint}
use Rattle.sockets.specs.declared.tcp.Segment.{Segment}
use Rattle.sockets.specs.declared.socket.SocketOf.TheVariants.{Raw, Icmp, Udp, Tcp}
use Rattle.sockets.specs.Raw as raw
use Rattle.sockets.specs.Icmp as icmp
use Rattle.sockets.specs.Udp as udp
use Rattle.sockets.specs.Tcp as tcp
use Rattle.sockets.specs.Kinds.{RawOffer, IcmpOffer, UdpOffer, TcpOffer, offered_packet, socket_after_offer, poll_at}
use Rattle.host_machine.specs.Context.Host.{Socket}
use Rattle.host_machine.specs.Sockets.Polling.{instant_of}
use Rattle.host_machine.specs.Sockets.Quiet.{IsBefore, SocketsAreQuiet}

-- what is due at once is never to come
not_at_once : (t : ℤ) → pos 0 ≤ℤ t → t <ℤ pos 0 → ⊥
not_at_once t low before = absurd (omega (arith, ints))

-- of each kind, with these packets to be sent
raw_quiet : (s : raw.RawSocket) (packets : List (Unit {0} × List ℕ)) (t : ℤ) →
    let now = record s { tx = record s.tx { packets = packets } } in
    pos 0 ≤ℤ t → IsBefore t (instant_of (raw.poll_at now)) → (raw.offered_packet now ≡ None) × (raw.socket_after_offer now ≡ now)
raw_quiet s [] t low before = (refl, refl)
raw_quiet s (p ∷ ps) t low before = absurd (not_at_once t low before)

icmp_quiet : (source : IpAddress → Option IpAddress) (s : icmp.IcmpSocket) (packets : List (IpAddress × List ℕ)) (t : ℤ) →
    let now = record s { tx = record s.tx { packets = packets } } in
    pos 0 ≤ℤ t → IsBefore t (instant_of (icmp.poll_at now)) → (icmp.offered_packet source now ≡ None) × (icmp.socket_after_offer source now ≡ now)
icmp_quiet source s [] t low before = (refl, refl)
icmp_quiet source s (p ∷ ps) t low before = absurd (not_at_once t low before)

udp_quiet : (source : IpAddress → Option IpAddress) (s : udp.UdpSocket) (packets : List (IpEndpoint × List ℕ)) (t : ℤ) →
    let now = record s { tx = record s.tx { packets = packets } } in
    pos 0 ≤ℤ t → IsBefore t (instant_of (udp.poll_at now)) → (udp.offered_packet source now ≡ None) × (udp.socket_after_offer source now ≡ now)
udp_quiet source s [] t low before = (refl, refl)
udp_quiet source s (p ∷ ps) t low before = absurd (not_at_once t low before)

either_way : {A : Type 0} (b : Bool) (x : A) → cond b x x ≡ x
either_way true x = refl
either_way false x = refl

tcp_quiet : (source : IpAddress → Option IpAddress) (s : tcp.TcpSocket) (packets : List (Segment × List ℕ)) (t : ℤ) →
    let now = record s { tx = record s.tx { packets = packets } } in
    pos 0 ≤ℤ t → IsBefore t (instant_of (tcp.poll_at now)) → (tcp.offered_packet t source now ≡ None) × (tcp.socket_after_offer t source now ≡ now)
tcp_quiet source s [] t low before = (either_way _ None, either_way _ (record s { tx = record s.tx { packets = [] } }))
tcp_quiet source s (p ∷ ps) t low before = (rw (← int_cmp_is t s.hold Less before) refl, rw (← int_cmp_is t s.hold Less before) refl)

pub socket_quiet : (source : IpAddress → Option IpAddress) (s : Socket) (t : ℤ) →
    pos 0 ≤ℤ t → IsBefore t (instant_of (poll_at s)) → (offered_packet t source s ≡ None) × (socket_after_offer t source s ≡ s)
socket_quiet source (Raw s) t low before = let q = raw_quiet s s.tx.packets t low before in (ap (option_map RawOffer) q.0, ap Raw q.1)
socket_quiet source (Icmp s) t low before = let q = icmp_quiet source s s.tx.packets t low before in (ap (option_map IcmpOffer) q.0, ap Icmp q.1)
socket_quiet source (Udp s) t low before = let q = udp_quiet source s s.tx.packets t low before in (ap (option_map UdpOffer) q.0, ap Udp q.1)
socket_quiet source (Tcp s) t low before = let q = tcp_quiet source s s.tx.packets t low before in (ap (option_map TcpOffer) q.0, ap Tcp q.1)

pub sockets_quiet : SocketsAreQuiet
sockets_quiet source s t0 low t from before = socket_quiet source s t (omega (arith, ints, low, from)) before
