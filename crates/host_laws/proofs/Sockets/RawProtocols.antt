-- Who has no raw socket for some protocols has none after frames were taken and sockets asked.
use Rattle.std.proofs.Common.{◌≡◌, ℕ, zero, suc, Bool, true, false, List, [], ◌∷◌, refl, ap, ◌∙◌, Option, Some, None}
use Rattle.std.specs.Prelude.{ℤ, slice_get, slice_set, cond, if◌then◌else◌}
use Rattle.std.specs.Option.{is_none}
use Rattle.std.specs.List.{AllByRecursion}
use Rattle.ip_address.specs.declared.hardware.HardwareAddress.{HardwareAddress}
use Rattle.ip_address.specs.declared.ip.IpAddress.{IpAddress}
use Rattle.ip_wire.specs.declared.ip_packet.IpRepr.{IpRepr}
use Rattle.ip_wire.specs.declared.tcp.TcpRepr.{TcpRepr}
use Rattle.ip_wire.specs.declared.udp.UdpRepr.{UdpRepr}
use Rattle.control_wire.specs.declared.icmp.IcmpRepr.{IcmpRepr}
use Rattle.sockets.specs.declared.socket.SocketOf.TheVariants.{Raw, Icmp, Udp, Tcp}
use Rattle.sockets.specs.Kinds.{socket_after_offer, socket_after_told}
use Rattle.sockets.specs.Raw as socket
use Rattle.host_machine.specs.Context.Host.{Host, Socket, Storage, with_neighbors}
use Rattle.host_machine.specs.Sockets.Delivery.{DeliversFirst, holds, to_each, to_this}
use Rattle.host_machine.specs.Sockets.Raw as raw
use Rattle.host_machine.specs.Icmp.Delivery as icmp
use Rattle.host_machine.specs.Sockets.Udp as udp
use Rattle.host_machine.specs.Sockets.Tcp as tcp
use Rattle.ip_wire.specs.IpPacket.{src_addr, dst_addr}
use Rattle.iface_tables.specs.Neighbor.{expiry_from, after_renewal}
use Rattle.host_machine.specs.Discovery.Renewal.{sender_renewed}
use Rattle.host_machine.specs.Context.Addresses.{is_unicast}
use Rattle.ip_address.specs.Protocol.{number_of}
use Rattle.sockets.specs.Kinds.{down_raw}

module _ (spoken : ℕ → Bool) where
  -- a raw socket for such a protocol, by its number
  abbrev pub speaks : Storage → Bool
  speaks place = holds down_raw (λ s. spoken (number_of s.protocol)) place

  -- at none of these places
  abbrev pub NoSpeaker : List Storage → Type 0
  NoSpeaker places = AllByRecursion (λ place. speaks place ≡ false) places

  each_is : (test : Storage → Bool) (deliver : Storage → Storage) → ((p : Storage) → speaks (deliver p) ≡ speaks p) → (p : Storage) →
      speaks p ≡ false → speaks (to_this test deliver p) ≡ false
  each_is test deliver same p none = by (test p) where
    by : (b : Bool) → speaks (if b then deliver p else p) ≡ false
    by true = rw same none
    by false = none

  pub to_each_speaks : (test : Storage → Bool) (deliver : Storage → Storage) → ((p : Storage) → speaks (deliver p) ≡ speaks p) →
      (places : List Storage) → NoSpeaker places → NoSpeaker (to_each test deliver places)
  to_each_speaks test deliver same [] none = tt
  to_each_speaks test deliver same (p ∷ ps) none = (each_is test deliver same p none.0, to_each_speaks test deliver same ps none.1)

  pub set_speaks : (places : List Storage) (i : ℕ) (p : Storage) → speaks p ≡ false → NoSpeaker places → NoSpeaker (slice_set places i p)
  set_speaks [] i p mine none = tt
  set_speaks (q ∷ qs) zero p mine none = (mine, none.1)
  set_speaks (q ∷ qs) (suc i) p mine none = (none.0, set_speaks qs i p mine none.1)

  pub get_speaks : (places : List Storage) (i : ℕ) (p : Storage) → slice_get places i ≡ Some p → NoSpeaker places → speaks p ≡ false
  get_speaks [] i p there none = absurd cc
  get_speaks (q ∷ qs) zero p there none = let same : q ≡ p = cc in rw (← same) none.0
  get_speaks (q ∷ qs) (suc i) p there none = get_speaks qs i p there none.1

  -- what a socket gets doesn't change what it speaks
  raw_speaks : (summed : Bool) (r : IpRepr) (payload : List ℕ) (p : Storage) → speaks (raw.storage_after_delivery summed r payload p) ≡ speaks p
  raw_speaks summed r payload None = refl
  raw_speaks summed r payload (Some (Raw s)) = refl
  raw_speaks summed r payload (Some (Icmp s)) = refl
  raw_speaks summed r payload (Some (Udp s)) = refl
  raw_speaks summed r payload (Some (Tcp s)) = refl

  icmp_speaks : (remote : IpAddress) (octets : List ℕ) (p : Storage) → speaks (icmp.storage_after_delivery remote octets p) ≡ speaks p
  icmp_speaks remote octets None = refl
  icmp_speaks remote octets (Some (Raw s)) = refl
  icmp_speaks remote octets (Some (Icmp s)) = refl
  icmp_speaks remote octets (Some (Udp s)) = refl
  icmp_speaks remote octets (Some (Tcp s)) = refl

  udp_speaks : (r : IpRepr) (ports : UdpRepr) (payload : List ℕ) (p : Storage) → speaks (udp.storage_after_delivery r ports payload p) ≡ speaks p
  udp_speaks r ports payload None = refl
  udp_speaks r ports payload (Some (Raw s)) = refl
  udp_speaks r ports payload (Some (Icmp s)) = refl
  udp_speaks r ports payload (Some (Udp s)) = refl
  udp_speaks r ports payload (Some (Tcp s)) = refl

  tcp_speaks : (r : IpRepr) (t : TcpRepr) (payload : List ℕ) (p : Storage) → speaks (tcp.storage_after_delivery r t payload p) ≡ speaks p
  tcp_speaks r t payload None = refl
  tcp_speaks r t payload (Some (Raw s)) = refl
  tcp_speaks r t payload (Some (Icmp s)) = refl
  tcp_speaks r t payload (Some (Udp s)) = refl
  tcp_speaks r t payload (Some (Tcp s)) = refl

  -- packets that are heard, and delivered
  pub raw_heard : (r : IpRepr) (payload : List ℕ) (H : Host) →
      NoSpeaker H.sockets.places → NoSpeaker (raw.host_after_raw_delivery r payload H).sockets.places
  raw_heard r payload H none = to_each_speaks (raw.takes r) _ (raw_speaks _ r payload) H.sockets.places none

  pub icmp_heard : (message : IcmpRepr) (contents : List ℕ) (remote : IpAddress) (octets : List ℕ) (H : Host) → NoSpeaker H.sockets.places →
      NoSpeaker (icmp.host_after_delivery message contents remote octets H).sockets.places
  icmp_heard message contents remote octets H none =
      to_each_speaks (icmp.accepts message contents) _ (icmp_speaks remote octets) H.sockets.places none

  pub udp_delivered : (test : Storage → Bool) (r : IpRepr) (ports : UdpRepr) (payload : List ℕ) (old new : List Storage) →
      DeliversFirst test (udp.storage_after_delivery r ports payload) old new → NoSpeaker old → NoSpeaker new
  udp_delivered test r ports payload old new d none =
      rw d.changed (set_speaks old d.index _ (rw udp_speaks (get_speaks old d.index d.place d.first.is_there none)) none)

  pub tcp_delivered : (r : IpRepr) (t : TcpRepr) (payload : List ℕ) (places : List Storage) (i : ℕ) (p : Storage) →
      slice_get places i ≡ Some p → NoSpeaker places →
      NoSpeaker (slice_set places i (tcp.storage_after_delivery r t payload p))
  tcp_delivered r t payload places i p there none = set_speaks places i _ (rw tcp_speaks (get_speaks places i p there none)) none

  -- nor does being asked, and told
  settled_protocol : (s : socket.RawSocket) → (socket.socket_after_offer s).protocol ≡ s.protocol
  settled_protocol s = by (is_none (socket.offered_packet s)) where
    by : (b : Bool) → (cond b (socket.without_first_to_send s) s).protocol ≡ s.protocol
    by true = refl
    by false = refl

  told_protocol : (is_done : Bool) (s : socket.RawSocket) → (socket.socket_after_told is_done s).protocol ≡ s.protocol
  told_protocol true s = refl
  told_protocol false s = refl

  pub asked_speaks : (t : ℤ) (source : IpAddress → Option IpAddress) (s : Socket) → speaks (Some (socket_after_offer t source s)) ≡ speaks (Some s)
  asked_speaks t source (Raw s) = rw settled_protocol refl
  asked_speaks t source (Icmp s) = refl
  asked_speaks t source (Udp s) = refl
  asked_speaks t source (Tcp s) = refl

  pub told_speaks : (is_done : Bool) (s : Socket) → speaks (Some (socket_after_told is_done s)) ≡ speaks (Some s)
  told_speaks is_done (Raw s) = rw told_protocol refl
  told_speaks is_done (Icmp s) = refl
  told_speaks is_done (Udp s) = refl
  told_speaks is_done (Tcp s) = refl

-- while frames are taken nobody begins to speak, and no time passes
pub record Attends (old new : Host) : Type 0 where
  pub nobody : (spoken : ℕ → Bool) → NoSpeaker spoken old.sockets.places → NoSpeaker spoken new.sockets.places
  pub moment : new.moment ≡ old.moment

pub attends : {old new : Host} → new ≡ old → Attends old new
attends e = record { nobody = λ spoken none. rw e none; moment = ap (λ (K : Host). K.moment) e }

pub attends_by : {old mid new : Host} → new ≡ mid → Attends old mid → Attends old new
attends_by e a = record { nobody = λ spoken none. rw e (a.nobody spoken none); moment = ap (λ (K : Host). K.moment) e ∙ a.moment }

pub attends_then : {old mid new : Host} → Attends old mid → Attends mid new → Attends old new
attends_then a b = record { nobody = λ spoken none. b.nobody spoken (a.nobody spoken none); moment = b.moment ∙ a.moment }

pub raw_attends : (r : IpRepr) (payload : List ℕ) (H : Host) → Attends H (raw.host_after_raw_delivery r payload H)
raw_attends r payload H = record { nobody = λ spoken none. raw_heard spoken r payload H none; moment = refl }

pub icmp_attends : (message : IcmpRepr) (contents : List ℕ) (remote : IpAddress) (octets : List ℕ) (H : Host) →
    Attends H (icmp.host_after_delivery message contents remote octets H)
icmp_attends message contents remote octets H =
    record { nobody = λ spoken none. icmp_heard spoken message contents remote octets H none; moment = refl }

pub sender_attends : (source : HardwareAddress) (r : IpRepr) (H : Host) → Attends H (sender_renewed source r H)
sender_attends source r H = by (is_unicast H.ip_addrs (dst_addr r)) where
  by : (b : Bool) → Attends H (if b then with_neighbors H (after_renewal H.neighbors (src_addr r) source (expiry_from H.moment)) else H)
  by true = record { nobody = λ spoken none. none; moment = refl }
  by false = attends refl
