-- What a host sends of its own: messages of ICMP, IGMP and MLD, and segments; but solicitations of neighbours, and what sockets for datagrams
-- and raw ones offer.
use Rattle.std.proofs.Common.{◌≡◌, Bool, true, false, refl}
use Rattle.std.specs.Prelude.{◌==◌, not}
use Rattle.ip_address.specs.Protocol.{number_of}
use Rattle.control_wire.specs.declared.icmpv6.Icmpv6Repr.{Icmpv6Repr}
use Rattle.control_wire.specs.declared.icmpv6.Icmpv6Repr.TheVariants as v6
use Rattle.control_wire.specs.declared.router.RouterRepr.{RouterRepr}
use Rattle.control_wire.specs.declared.router.RouterRepr.TheVariants.{RouterSolicit, RouterAdvert}
use Rattle.host_machine.specs.Packet.Packet.{IpPayload, Icmpv4, Icmpv6, Udp, Tcp, Raw, Igmp, Mld}
use Rattle.host_laws.specs.Laws.Requests.{may_ask, may_ask_v6}

abbrev pub is_own : IpPayload → Bool
is_own (Icmpv4 message octets) = true
is_own (Icmpv6 message octets) = not (may_ask_v6 message)
is_own (Udp header octets) = false
is_own (Tcp header octets) = true
is_own (Raw protocol octets) = false
is_own (Igmp message) = true
is_own (Mld count records) = true

not_true : (b : Bool) → not b ≡ true → b ≡ false
not_true true e = absurd cc
not_true false e = refl

-- such a message asks for no neighbour
pub own_asks : (payload : IpPayload) → is_own payload ≡ true → may_ask payload ≡ false
own_asks (Icmpv4 message octets) e = refl
own_asks (Icmpv6 message octets) e = not_true (may_ask_v6 message) e
own_asks (Udp header octets) e = refl
own_asks (Tcp header octets) e = refl
own_asks (Raw protocol octets) e = absurd cc
own_asks (Igmp message) e = refl
own_asks (Mld count records) e = refl

-- a payload that may be a solicitation of routers: one by its values, and what a raw socket for ICMPv6 sends
abbrev pub may_solicit_by : RouterRepr → Bool
may_solicit_by (RouterSolicit lladdr) = true
may_solicit_by (RouterAdvert hop_limit flags lifetime lladdr prefix) = false

abbrev pub may_solicit_v6 : Icmpv6Repr → Bool
may_solicit_v6 (v6.Router message) = may_solicit_by message
may_solicit_v6 other = false

abbrev pub may_solicit : IpPayload → Bool
may_solicit (Icmpv6 message octets) = may_solicit_v6 message
may_solicit (Raw protocol octets) = number_of protocol == 58
may_solicit other = false

-- a message that a host may send at any time: one of its own, but of routers
abbrev pub is_usual_v6 : Icmpv6Repr → Bool
is_usual_v6 (v6.Router message) = false
is_usual_v6 other = not (may_ask_v6 other)

abbrev pub is_usual : IpPayload → Bool
is_usual (Icmpv6 message octets) = is_usual_v6 message
is_usual other = is_own other

usual_v6 : (message : Icmpv6Repr) → is_usual_v6 message ≡ true → not (may_ask_v6 message) ≡ true
usual_v6 (v6.Router message) e = refl
usual_v6 other e = e

quiet_v6 : (message : Icmpv6Repr) → is_usual_v6 message ≡ true → may_solicit_v6 message ≡ false
quiet_v6 (v6.Router message) e = absurd cc
quiet_v6 other e = refl

-- it is of the host's own, and solicits no router
pub usual_own : (payload : IpPayload) → is_usual payload ≡ true → is_own payload ≡ true
usual_own (Icmpv6 message octets) e = usual_v6 message e
usual_own other e = e

pub usual_quiet : (payload : IpPayload) → is_usual payload ≡ true → may_solicit payload ≡ false
usual_quiet (Icmpv6 message octets) e = quiet_v6 message e
usual_quiet (Raw protocol octets) e = absurd cc
usual_quiet other e = refl
