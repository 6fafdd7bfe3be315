-- The first datagram of a socket is sent, if it is to many hosts.
use Rattle.std.proofs.Common.{◌≡◌, ◌≢◌, ◌≤◌, ◌+◌, ◌*◌, ◌/◌, ◌^◌, ℕ, suc, true, false, List, [], ◌∷◌, ◌++◌, refl, sym, ◌∙◌, ap, subst, append_assoc, pow-suc, inl, inr, Some, arith}
use Rattle.std.specs.Prelude.{◌<◌, ◌-◌, is_ok, slice_get}
use Rattle.std.proofs.lemmas.Nat.{pow_pos}
use Rattle.std.proofs.lemmas.Option.{slice_get_within}
use Rattle.net_base.specs.Checksum.{ip_mtu_of}
use Rattle.net_base.specs.Device.{Event, sent_frames}
use Rattle.ip_address.specs.EthernetAddress.{broadcast}
use Rattle.ip_address.specs.Ip.{is_unspecified}
use Rattle.ip_address.specs.declared.cidr.IpCidr.{IpCidr}
use Rattle.ip_address.specs.declared.ethernet_address.EthernetAddress.{EthernetAddress}
use Rattle.ip_address.specs.declared.hardware.HardwareAddress.{HardwareAddress}
use Rattle.ip_address.specs.declared.hardware.HardwareAddress.TheVariants as hardware
use Rattle.ip_address.specs.declared.ip.IpAddress.{IpAddress}
use Rattle.sockets.specs.Kinds.{socket_after_told}
use Rattle.sockets.specs.declared.socket.SocketOf.TheVariants.{Udp}
use Rattle.sockets.specs.Udp.{UdpSocket}
use Rattle.host_machine.specs.declared.results.Turn.{Turn}
use Rattle.host_machine.specs.Context.Note.{Note}
use Rattle.host_machine.specs.Context.Host.{Host, Socket, at, no_sockets, with_next_id}
use Rattle.host_machine.specs.Send.Dispatch.{Dispatches, DispatchesEthernet, SendsOver, destination_of}
use Rattle.host_machine.specs.Send.Outcome.{Outcome}
use Rattle.host_machine.specs.Send.Hops.{multicast_hardware_addr}
use Rattle.host_machine.specs.Send.Dispatch as dispatch
use Rattle.host_machine.specs.Sockets.Turns.{Serves, SocketTurn}
use Rattle.host_machine.specs.Sockets.Offers.{packet_from, socket_after_asking}
use Rattle.host_machine.specs.Sockets.Turns as egress
use Rattle.host_machine.specs.Packet.Frame.{ip_frame}
use Rattle.host_machine.specs.Packet.Packet.{Packet, total_len}
use Rattle.host_laws.specs.Laws.Many.{DatagramsToManyGo, IsManysAddress, IsToMany, OfAll, OfTheGroup, WithoutAddresses}
use Rattle.host_laws.specs.Laws.Restraint.NextHop.{AreApart, IsToAll}
use Rattle.host_laws.specs.Laws.Restraint.NextHop as law
use Rattle.host_laws.specs.Laws.Service.{MayBeAsked, all_granted}
use Rattle.host_laws.proofs.Receive.ForeignFrames.{same_bits}
use Rattle.host_laws.proofs.Receive.FrameReplies.{GoesWhole, clash, emits_whole}
use Rattle.host_laws.proofs.Receive.Malformed.{sent_frames-sends}
use Rattle.host_laws.proofs.Interface.GrantedEgress.{SameAt, TurnGoes, each_turn, first_left, first_packet, given_parts, may_as, permitted, same_at}
use Rattle.host_laws.proofs.Interface.GrantedEgress.{same_then, sans, sent_frames-append, there, to_sockets, turn_way}
use Rattle.host_laws.proofs.Send.HopsByLists.{all_address, many_address}

-- an address of all isn't unspecified
some_last : (k x a : ℕ) → a ≡ x * 2 ^ suc k + (2 ^ suc k - 1) → a ≢ 0
some_last k x a e = λ z. let some : 0 < 2 ^ k = pow_pos k in
    let two : 2 ^ suc k ≡ 2 ^ k * 2 = pow-suc 2 k in
    absurd (omega (arith, e, z, some, two))

all_specified : (own : List IpCidr) (a : IpAddress) → IsToAll own a → is_unspecified a ≡ false
all_specified own _ (law.OnLink a e) = same_bits a.bits 0 (λ z. let bad : 0xffff_ffff ≡ 0 = sym e ∙ z in absurd (omega (arith, bad)))
all_specified own _ (law.OnNetwork a i n here short e) =
    let k : 32 - n.prefix_len ≡ suc (31 - n.prefix_len) = omega (arith, short) in
    same_bits a.bits 0 (some_last (31 - n.prefix_len) (n.address.bits / 2 ^ suc (31 - n.prefix_len)) a.bits
    (subst (λ m. a.bits ≡ n.address.bits / 2 ^ m * 2 ^ m + (2 ^ m - 1)) k e))

-- the hardware address of many, on Ethernet
record HasAddress (H : Host) (own : EthernetAddress) (a : IpAddress) : Type 0 where
  address : EthernetAddress
  specified : is_unspecified a ≡ false
  is : multicast_hardware_addr H.ip_addrs a ≡ Some address
  many : IsManysAddress H a (hardware.Ethernet address)

has_address : (H : Host) (own : EthernetAddress) (a : IpAddress) → H.hardware_addr ≡ hardware.Ethernet own → IsToMany H a → HasAddress H own a
has_address H own a on (inl all) = record {
  address = broadcast;
  specified = all_specified H.ip_addrs a all;
  is = all_address H.ip_addrs a all;
  many = OfAll own on all refl;
}
has_address H own a on (inr (group, apart)) = let m = many_address H.ip_addrs a group apart in record {
  address = m.0;
  specified = m.2.specified;
  is = m.2.is;
  many = OfTheGroup own m.0 on m.1 refl;
}

to_group : {id : ℕ} {own : EthernetAddress} {p : Packet} {outcome : Outcome} {H new : Host} {frames : List (List ℕ)} {notes : List Note}
    (h : EthernetAddress) → DispatchesEthernet id own p outcome (with_next_id H) frames notes new →
    multicast_hardware_addr H.ip_addrs (destination_of p) ≡ Some h → total_len p ≤ ip_mtu_of H.capabilities →
    GoesWhole p (hardware.Ethernet h) outcome H frames new
to_group {id} {own} {p} {outcome} {H} {new} {frames} {notes} h (dispatch.ToMulticast g m e) is short =
    let both : Some g ≡ Some h = sym m ∙ is in
    let same : g ≡ h = cc in
    emits_whole (subst (λ x. dispatch.Emits id p (hardware.Ethernet x) outcome (with_next_id H) frames notes new) same e) short
to_group h (dispatch.NoHop m n o u) is short = absurd cc
to_group h (dispatch.ByHop a m n s) is short = absurd cc

-- a packet to many goes, on either medium
pub record Goes (p : Packet) (H : Host) : Type 0 where
  pub h : HardwareAddress
  pub many : IsManysAddress H (destination_of p) h
  pub goes : (outcome : Outcome) (frames : List (List ℕ)) (notes : List Note) (new : Host) → Dispatches p outcome H frames notes new →
      GoesWhole p h outcome H frames new

pub goes_to_many : (p : Packet) (H : Host) (own : HardwareAddress) → H.hardware_addr ≡ own → IsToMany H (destination_of p) →
    total_len p ≤ ip_mtu_of H.capabilities → is_unspecified (destination_of p) ≡ false → Goes p H
goes_to_many p H (hardware.Ethernet own) on many short specified =
    let a = has_address H own (destination_of p) on many in
    record { h = hardware.Ethernet a.address; many = a.many; goes = λ outcome frames notes new d. by a.address a.is outcome frames notes new d } where
      by : (h : EthernetAddress) → multicast_hardware_addr H.ip_addrs (destination_of p) ≡ Some h → (outcome : Outcome) (frames : List (List ℕ))
          (notes : List Note) (new : Host) → Dispatches p outcome H frames notes new → GoesWhole p (hardware.Ethernet h) outcome H frames new
      by h is outcome frames notes new (dispatch.ToUnspecified n o u) = absurd (clash n specified)
      by h is outcome frames notes new (dispatch.ToSpecified more s d n) =
          to_group {H = H} h (subst (λ x. SendsOver H.ipv4_id x p outcome (with_next_id H) frames more new) on d) is short
goes_to_many p H hardware.Ip on many short specified = record { h = hardware.Ip; many = WithoutAddresses on refl; goes = by } where
  by : (outcome : Outcome) (frames : List (List ℕ)) (notes : List Note) (new : Host) → Dispatches p outcome H frames notes new →
      GoesWhole p hardware.Ip outcome H frames new
  by outcome frames notes new (dispatch.ToUnspecified n o u) = absurd (clash n specified)
  by outcome frames notes new (dispatch.ToSpecified more s d n) =
      emits_whole {H = H} (subst (λ x. SendsOver H.ipv4_id x p outcome (with_next_id H) frames more new) on d) short

pub many_specified : (H : Host) (a : IpAddress) → IsToMany H a → is_unspecified a ≡ false
many_specified H a (inl all) = all_specified H.ip_addrs a all
many_specified H a (inr (group, apart)) = (many_address H.ip_addrs a group apart).2.specified

-- a turn
turn_to_many : {s s' : Socket} {turn : Turn} {H new : Host} {told_it : List Event} {notes : List Note} (p : Packet) (g : Goes p H) →
    SocketTurn s turn s' H told_it notes new → packet_from H s ≡ Some p → all_granted told_it ≡ true → TurnGoes H s p g.h s' told_it
turn_to_many p g (egress.Silent none d e m y z) is all = absurd cc
turn_to_many p g (egress.Refused q some d e m y z) is all = absurd (clash all (ap all_granted e))
turn_to_many {s} {s'} {turn} {H} {new} {told_it} {notes} p g (egress.Sent q o f some d t e z) is all =
    let lists : Some q ≡ Some p = sym some ∙ is in
    let same : q ≡ p = cc in
    let it : Dispatches p o H f notes new = subst (λ x. Dispatches x o H f notes new) same d in
    let went = g.goes o f notes new it in
    record {
      frames = ap sent_frames e ∙ sent_frames-sends f ∙ went.frames_are;
      socket = z ∙ ap (λ k. socket_after_told (is_ok k) (socket_after_asking H s)) went.outcome_is;
    }

served_to_many : {i : ℕ} {turn : Turn} {H new : Host} {told_it : List Event} {notes : List Note} (s : UdpSocket) (p : Packet) (g : Goes p H) →
    Serves i turn H told_it notes new → slice_get H.sockets.places i ≡ Some (Some (Udp s)) → MayBeAsked H i → packet_from H (Udp s) ≡ Some p →
    all_granted told_it ≡ true →
    (sent_frames told_it ≡ ip_frame H g.h p ∷ [])
    × (slice_get new.sockets.places i ≡ Some (Some (socket_after_told true (socket_after_asking H (Udp s)))))
served_to_many s p g (egress.Free f d e m y) here may is all = absurd cc
served_to_many {i} {turn} {H} s p g (egress.Waits s' known f l w d e m y) here may is all = absurd (clash (permitted H i may known l) w)
served_to_many {i} {turn} {H} {new} {told_it} {notes} s p g (egress.Served s' s'' known mid f l w z y) here may is all =
    let both : Some (Some s') ≡ Some (Some (Udp s)) = sym f ∙ here in
    let same : s' ≡ Udp s = cc in
    let it = turn_to_many p g (subst (λ x. SocketTurn x turn s'' H told_it notes mid) same z) is all in
    let at_mid : slice_get mid.sockets.places i ≡ Some (Some (Udp s)) = ap (λ (K : Host). slice_get K.sockets.places i) (turn_way z) ∙ here in (
      it.frames,
      ap (λ (K : Host). slice_get K.sockets.places i) y ∙ there mid.sockets.places i (Some (Udp s)) (Some s'') at_mid
          ∙ ap (λ x. Some (Some x)) it.socket,
    )

-- the same of a host with the same lists
pub many_as : (H K : Host) (a : IpAddress) → sans K ≡ sans H → IsToMany H a → IsToMany K a
many_as H K a e (inl all) = inl (subst (λ o. IsToAll o a) (sym (ap (λ (x : Host). x.ip_addrs) e)) all)
many_as H K a e (inr (group, apart)) = inr (group, subst (λ o. AreApart o a) (sym (ap (λ (x : Host). x.ip_addrs) e)) apart)

pub address_as : {H K : Host} {a : IpAddress} {h : HardwareAddress} → K.hardware_addr ≡ H.hardware_addr → K.ip_addrs ≡ H.ip_addrs →
    IsManysAddress K a h → IsManysAddress H a h
address_as {a = a} e o (OfAll own on all is) = OfAll own (sym e ∙ on) (subst (λ x. IsToAll x a) o all) is
address_as e o (OfTheGroup own group on of is) = OfTheGroup own group (sym e ∙ on) of is
address_as e o (WithoutAddresses on is) = WithoutAddresses (sym e ∙ on) is

pub many_go : DatagramsToManyGo
many_go t answer old new told_all notes e i s p rest all first may many short =
    let k = to_sockets e in
    let last_given : all_granted k.told_last ≡ true = (given_parts k.behind.front k.told_last (sym (ap all_granted k.behind.is) ∙ all)).1 in
    let sockets_are : k.mid.sockets ≡ old.sockets = ap (λ (K : Host). K.sockets) k.way in
    let here_mid : slice_get k.mid.sockets.places i ≡ Some (Some (Udp s)) = ap (λ x. slice_get x.places i) sockets_are ∙ first.here in
    let a = each_turn k.sends_them last_given i (slice_get_within k.mid.sockets.places i (Some (Udp s)) here_mid) in
    let rest_is : sans a.mid ≡ sans (at old t) = a.rest ∙ ap (λ (K : Host). record K { sockets = no_sockets }) k.way in
    let same : SameAt i (at old t) a.mid = same_then (same_at {k = i} {old = at old t} {new = k.mid} sockets_are) a.same in
    let given_it : all_granted a.told_it ≡ true =
    (given_parts a.told_it a.back (given_parts a.front (a.told_it ++ a.back) (sym (ap all_granted a.split) ∙ last_given)).1).0 in
    let packet_is : packet_from a.mid (Udp s) ≡ Some p = ap (λ (x : Host). packet_from x (Udp s)) rest_is
    ∙ first_packet (at old t) i s p rest first in
    let there_many : IsToMany (at old t) (destination_of p) = many in
    let go : Goes p a.mid = goes_to_many p a.mid a.mid.hardware_addr refl (many_as (at old t) a.mid (destination_of p) rest_is there_many)
    (subst (λ c. total_len p ≤ ip_mtu_of c) (sym (ap (λ (x : Host). x.capabilities) rest_is)) short)
    (many_specified old (destination_of p) many) in
    let g = served_to_many s p go a.served (same.place ∙ first.here) (may_as i rest_is same may) packet_is given_it in
    let h = go.h in
    let frame_is : ip_frame a.mid h p ≡ ip_frame old h p = ap (λ (x : Host). ip_frame x h p) rest_is in (
      h,
      address_as {H = old} {K = a.mid} (ap (λ (x : Host). x.hardware_addr) rest_is) (ap (λ (x : Host). x.ip_addrs) rest_is) go.many,
      record {
        front = sent_frames k.behind.front ++ sent_frames a.front;
        back = sent_frames a.back;
        frames = ap sent_frames k.behind.is ∙ sent_frames-append k.behind.front k.told_last
            ∙ ap (λ x. sent_frames k.behind.front ++ x) (ap sent_frames a.split ∙ sent_frames-append a.front (a.told_it ++ a.back) ∙ ap
            (λ x. sent_frames a.front ++ x) (sent_frames-append a.told_it a.back ∙ ap (λ x. x ++ sent_frames a.back)
            (g.0 ∙ ap (λ f. f ∷ []) frame_is)))
            ∙ sym (append_assoc (sent_frames k.behind.front) (sent_frames a.front) (ip_frame old h p ∷ sent_frames a.back));
        left = a.stays.place ∙ g.1 ∙ ap (λ x. Some (Some x)) (first_left (at old t) a.mid i s p rest first rest_is);
      },
    )
