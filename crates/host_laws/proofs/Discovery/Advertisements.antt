-- What an advertisement of a router tells is known then.
use Rattle.std.proofs.Common.{◌≡◌, ◌≢◌, ◌⊎◌, inl, inr, ℕ, zero, suc, ◌*◌, ◌/◌, ◌^◌, ◌<◌, ◌≤◌, Bool, true, false, List, [], ◌∷◌, ◌++◌, length, refl, sym}
use Rattle.std.proofs.Common.{◌∙◌, ap, subst, Option, Some, None, T, arith, lit≤}
use Rattle.std.specs.Prelude.{ℤ, pos, ◌+ℤ◌, ◌==◌, ◌||◌, nat_le, nat_lt, slice_get, slice_set, if◌then◌else◌}
use Rattle.std.specs.List.{position_or_len}
use Rattle.std.proofs.lemmas.Bool.Decides.{Decides-eqb, nat_tests}
use Rattle.net_base.specs.Device.{Event, sent_frames}
use Rattle.ip_address.specs.Ipv6.{is_link_local}
use Rattle.ip_address.specs.declared.cidr.Ipv6Cidr.{Ipv6Cidr}
use Rattle.ip_address.specs.declared.ethernet_address.EthernetAddress.{EthernetAddress}
use Rattle.ip_address.specs.declared.hardware.HardwareAddress.TheVariants as hardware
use Rattle.ip_address.specs.declared.ip.IpAddress.TheVariants.{Ipv6}
use Rattle.ip_address.specs.declared.ipv6.Ipv6Address.{Ipv6Address}
use Rattle.ip_wire.specs.declared.ip_packet.IpRepr.TheVariants as repr
use Rattle.ip_wire.specs.declared.ipv6_packet.Ipv6Repr.{Ipv6Repr}
use Rattle.control_wire.specs.Icmpv6.{icmpv6_in}
use Rattle.control_wire.specs.declared.icmpv6.Icmpv6Repr.TheVariants as v6
use Rattle.control_wire.specs.declared.prefix_information.NdiscPrefixInformation.{NdiscPrefixInformation}
use Rattle.control_wire.specs.declared.router.RouterRepr.{RouterRepr}
use Rattle.control_wire.specs.declared.router.RouterRepr.TheVariants.{RouterAdvert}
use Rattle.iface_tables.specs.Slaac.{SlaacState, advertised_prefix, cidr_by, cidr_from, default_route, info_from, is_of, is_prefix_full, is_prefix_news, is_router_full}
use Rattle.iface_tables.specs.Slaac.{is_router_news, is_same, is_same_route, knows_prefix, knows_router, makes_addresses, prefix_index, router_index}
use Rattle.iface_tables.specs.Slaac.{seconds, slaac_after_message, whole}
use Rattle.iface_tables.specs.declared.slaac.Prefix.{Prefix}
use Rattle.iface_tables.specs.declared.slaac.Route.{Route}
use Rattle.host_machine.specs.Context.Note.{Note}
use Rattle.host_machine.specs.Context.Host.{Host, without_expired, with_slaac}
use Rattle.host_machine.specs.Icmp.Icmpv6.{ProcessesIcmpv6, ProcessesMessage}
use Rattle.host_machine.specs.Icmp.Icmpv6 as icmpv6
use Rattle.host_machine.specs.Sockets.Raw as raw
use Rattle.host_machine.specs.Receive.Reply.{Reply}
use Rattle.host_machine.specs.Receive.Response.{Responds}
use Rattle.host_machine.specs.Discovery.Router.{after_advertisement, is_valid_advertisement}
use Rattle.host_laws.specs.Laws.Autoconfiguration.{AdvertisementsAreLearnt, BringsAdvertisement, FormsAddresses, IsKnown, IsKnownRouter}
use Rattle.host_laws.specs.Laws.Autoconfiguration.{LearnsPrefixes, LearnsRouters}
use Rattle.host_laws.specs.Laws.Many as many
use Rattle.host_laws.specs.Laws.Service.{Takes}
use Rattle.host_laws.proofs.Receive.ForeignFrames as other
use Rattle.host_laws.proofs.Receive.FrameReplies.{v6_of}
use Rattle.host_laws.proofs.Receive.FrameRepliesV6.{apart, met, met_apart, message_served}
use Rattle.host_laws.proofs.Discovery.LearntNeighbors.{and_both}
use Rattle.host_laws.proofs.Sockets.ManyDelivery.{heard_of}

-- Lists

at_last : {X : Type 0} (xs : List X) (x : X) → slice_get (xs ++ x ∷ []) (length xs) ≡ Some x
at_last [] x = refl
at_last (y ∷ xs) x = at_last xs x

known_at : {X : Type 0} (f : X → Bool) (xs : List X) → nat_lt (position_or_len f xs) (length xs) ≡ true →
    (x : X) × (slice_get xs (position_or_len f xs) ≡ Some x) × (f x ≡ true)
known_at f [] e = absurd cc
known_at {X} f (x ∷ xs) e = by (f x) refl (known_at f xs) where
  by : (b : Bool) → f x ≡ b →
      (nat_lt (position_or_len f xs) (length xs) ≡ true → (y : X) × (slice_get xs (position_or_len f xs) ≡ Some y) × (f y ≡ true)) →
      (y : X) × (slice_get (x ∷ xs) (position_or_len f (x ∷ xs)) ≡ Some y) × (f y ≡ true)
  by true is rest = (x, rw is refl, is)
  by false is rest =
      let step : position_or_len f (x ∷ xs) ≡ suc (position_or_len f xs) = rw is (omega arith) in
      let later : nat_lt (suc (position_or_len f xs)) (suc (length xs)) ≡ true = ap (λ m. nat_lt m (suc (length xs))) (sym step) ∙ e in
      let r = rest (grind (arith, nat_tests)) in (r.0, ap (slice_get (x ∷ xs)) step ∙ r.1, r.2)

-- Prefixes

-- the network of a prefix
network_of : (a : Ipv6Address) (n : ℕ) → n ≤ 128 → (c : Ipv6Cidr) × (cidr_from a n ≡ Some c) × (c.address ≡ a) × (c.prefix_len ≡ n)
network_of a n few = by (nat_le n 128) lit≤ (grind (arith, nat_tests)) where
  by : (b : Bool) (h : T b → n ≤ 128) → b ≡ true → (c : Ipv6Cidr) × (cidr_by a n b h ≡ Some c) × (c.address ≡ a) × (c.prefix_len ≡ n)
  by true h e = (record { address = a; prefix_len = n; in_range = h tt }, refl, refl, refl)
  by false h e = absurd cc

set_there : {X : Type 0} (xs : List X) (i : ℕ) (x y : X) → slice_get xs i ≡ Some x → slice_get (slice_set xs i y) i ≡ Some y
set_there [] i x y h = absurd cc
set_there (z ∷ xs) zero x y h = refl
set_there (z ∷ xs) (suc i) x y h = set_there xs i x y h

same_network : (a c : Ipv6Cidr) → is_same a c ≡ true → (a.address ≡ c.address) × (a.prefix_len ≡ c.prefix_len)
same_network a c e =
    let parts = and_both (a.address.bits == c.address.bits) (a.prefix_len == c.prefix_len) e in
    (ap (λ n. record { bits = n }) ((Decides-eqb a.address.bits c.address.bits).0 parts.0), (Decides-eqb a.prefix_len c.prefix_len).0 parts.1)

-- the prefix that is advertised
forms : (p : NdiscPrefixInformation) → FormsAddresses p →
    (c : Ipv6Cidr) × (advertised_prefix p ≡ Some c) × (c.address ≡ p.prefix) × (c.prefix_len ≡ p.prefix_len)
forms p f =
    let n = network_of p.prefix p.prefix_len f.len in
    let order : nat_le p.preferred_lifetime p.valid_lifetime ≡ true = let g = f.in_order in grind (arith, nat_tests) in
    let some : (p.valid_lifetime == 0) ≡ false = other.same_bits p.valid_lifetime 0 f.some_time in
    let far : is_link_local p.prefix ≡ false = other.same_bits (p.prefix.bits / 2 ^ 118) 0x3fa f.no_link_local in
    let made : makes_addresses p ≡ true = rw (order, f.autonomous, some, far) refl in
    (n.0, rw made n.1, n.2, n.3)

or_one : (x y z : Bool) → y ≡ true → (x || y || z) ≡ true
or_one true y z e = refl
or_one false true z e = refl
or_one false false z e = absurd cc

or_last : (x y z : Bool) → z ≡ true → (x || y || z) ≡ true
or_last true y z e = refl
or_last false true z e = refl
or_last false false z e = e

learns_prefix : (s : SlaacState) (router : Ipv6Address) (lifetime : ℕ) (p : NdiscPrefixInformation) (t : ℤ) → FormsAddresses p → length s.prefixes < s.prefix_room →
    IsKnown (slaac_after_message s router lifetime (Some p) t).prefixes p (t +ℤ pos (p.valid_lifetime * 1_000_000))
    × (((slaac_after_message s router lifetime (Some p) t).changed ≡ true) ⊎ ((end : ℤ) × IsKnown s.prefixes p end))
learns_prefix s router lifetime p t f room = by (knows_prefix s.prefixes c.0) refl where
  c : (c : Ipv6Cidr) × (advertised_prefix p ≡ Some c) × (c.address ≡ p.prefix) × (c.prefix_len ≡ p.prefix_len)
  c = forms p f

  some : (p.valid_lifetime == 0) ≡ false
  some = other.same_bits p.valid_lifetime 0 f.some_time

  full : is_prefix_full s.prefix_room s.prefixes ≡ false
  full = grind (arith, nat_tests)

  now : Prefix
  now = record { cidr = c.0; info = info_from p t }

  by : (b : Bool) → knows_prefix s.prefixes c.0 ≡ b →
      IsKnown (slaac_after_message s router lifetime (Some p) t).prefixes p (t +ℤ pos (p.valid_lifetime * 1_000_000))
      × (((slaac_after_message s router lifetime (Some p) t).changed ≡ true) ⊎ ((end : ℤ) × IsKnown s.prefixes p end))
  by true e =
      let k = known_at (is_of c.0) s.prefixes e in
      let same = same_network k.0.cidr c.0 k.2 in (
        rw (c.1, some, e) (prefix_index s.prefixes c.0, now, set_there s.prefixes (prefix_index s.prefixes c.0) k.0 now k.1, c.2, c.3, refl),
        inr (k.0.info.valid_until, (prefix_index s.prefixes c.0, k.0, k.1, same.0 ∙ c.2, same.1 ∙ c.3, refl)),
      )
  by false e =
      let news : is_prefix_news (Some p) s.prefix_room s.prefixes ≡ true = rw (c.1, some, e, full) refl in (
        rw (c.1, some, e, full) (length s.prefixes, now, at_last s.prefixes now, c.2, c.3, refl),
        inl (or_one s.changed (is_prefix_news (Some p) s.prefix_room s.prefixes) (is_router_news s.routers router lifetime) news),
      )

learns_router : (s : SlaacState) (router : Ipv6Address) (lifetime : ℕ) (prefix : Option NdiscPrefixInformation) (t : ℤ) → lifetime ≢ 0 →
    length s.routers < s.router_room →
    IsKnownRouter (slaac_after_message s router lifetime prefix t).routers router (t +ℤ pos lifetime)
    × (((slaac_after_message s router lifetime prefix t).changed ≡ true) ⊎ ((end : ℤ) × IsKnownRouter s.routers router end))
learns_router s router lifetime prefix t lives room = by (knows_router s.routers router) refl where
  some : (lifetime == 0) ≡ false
  some = other.same_bits lifetime 0 lives

  full : is_router_full s.router_room s.routers ≡ false
  full = grind (arith, nat_tests)

  now : Route
  now = default_route router (t +ℤ pos lifetime)

  by : (b : Bool) → knows_router s.routers router ≡ b →
      IsKnownRouter (slaac_after_message s router lifetime prefix t).routers router (t +ℤ pos lifetime)
      × (((slaac_after_message s router lifetime prefix t).changed ≡ true) ⊎ ((end : ℤ) × IsKnownRouter s.routers router end))
  by true e =
      let k = known_at (is_same_route whole router) s.routers e in
      let parts = and_both (is_same k.0.cidr whole) (k.0.via_router.bits == router.bits) k.2 in
      let same = same_network k.0.cidr whole parts.0 in (
        rw (some, e) (router_index s.routers router, now, set_there s.routers (router_index s.routers router) k.0 now k.1, refl, refl, refl, refl),
        inr (
          k.0.valid_until,
          (
            router_index s.routers router,
            k.0,
            k.1,
            ap (λ (a : Ipv6Address). a.bits) same.0,
            same.1,
            ap (λ n. record { bits = n }) ((Decides-eqb k.0.via_router.bits router.bits).0 parts.1),
            refl,
          ),
        ),
      )
  by false e =
      let news : is_router_news s.routers router lifetime ≡ true = rw (some, e) refl in (
        rw (some, e, full) (length s.routers, now, at_last s.routers now, refl, refl, refl, refl),
        inl (or_last s.changed (is_prefix_news prefix s.prefix_room s.prefixes) (is_router_news s.routers router lifetime) news),
      )

-- In the call that takes it
advert_settled : {K taken : Host} {r : Ipv6Repr} {octets : List ℕ} {reply : Option Reply} {notes : List Note} (new : Host) (more : List Note)
    (frames : List (List ℕ)) (message : RouterRepr) → ProcessesIcmpv6 r K octets reply notes taken → Responds reply taken frames more new →
    icmpv6.IsMessage K r octets → (icmpv6_in octets).0 ≡ v6.Router message →
    (new.slaac ≡ after_advertisement message (icmpv6.host_after_delivery r octets K) r) × (frames ≡ [])
advert_settled new more frames message (icmpv6.Malformed m d) responds is values = absurd (m is)
advert_settled {K} {taken} {r} {octets} {reply} {notes} new more frames message (icmpv6.Taken i t) responds is values =
    let done : (reply ≡ None) × (notes ≡ []) × (taken ≡ with_slaac (icmpv6.host_after_delivery r octets K)
    (after_advertisement message (icmpv6.host_after_delivery r octets K) r)) =
    subst (λ m. ProcessesMessage r m (icmpv6_in octets).1 (icmpv6.host_after_delivery r octets K) reply notes taken) values t in
    let went : Responds None taken frames more new = subst (λ x. Responds x taken frames more new) done.0 responds in
    (ap (λ (X : Host). X.slaac) (went.2 ∙ done.2), went.0)

-- what is known then, and that nothing was sent
learnt : {t : ℤ} {old new : Host} {told : List Event} {own : EthernetAddress} {frame : List ℕ} {r : Ipv6Repr} {lifetime : ℕ}
    {prefix : Option NdiscPrefixInformation} → Takes (hardware.Ethernet own) t frame old told new →
    BringsAdvertisement own old frame r lifetime prefix →
    (new.slaac ≡ slaac_after_message old.slaac r.src_addr (seconds lifetime) prefix t) × (sent_frames told ≡ [])
learnt {t} {old} {new} {told} {own} {frame} {r} {lifetime} {prefix} w a =
    let k = v6_of (hardware.Ethernet own) w a.in_packet.packet.taken a.in_packet.packet.is_packet in
    let H : Host = without_expired old t in
    let heard = heard_of H (Ipv6 r.dst_addr) (many.AllNodes (ap (λ n. Ipv6 (record { bits = n })) a.to_all)) in
    let mid : Host = met k.source r a.payload H in
    let raws : Host = raw.host_after_raw_delivery (repr.Ipv6 r) a.payload H in
    let same : apart mid old.neighbors ≡ apart raws old.neighbors = met_apart k.source r a.payload H old.neighbors in
    let is_message : icmpv6.IsMessage mid r a.payload = subst (λ (K : Host). icmpv6.IsMessage K r a.payload) (sym same) a.is_message in
    let K : Host = icmpv6.host_after_delivery r a.payload mid in
    let settled = advert_settled new k.more k.frames (RouterAdvert a.hop_limit a.flags lifetime a.lladdr prefix)
    (message_served k a.in_packet heard.for_host) k.responds is_message a.values in
    let enabled : K.slaac_enabled ≡ true = ap (λ (X : Host). X.slaac_enabled) same ∙ a.enabled in
    let on_link : K.hardware_addr ≡ hardware.Ethernet own = ap (λ (X : Host). X.hardware_addr) same ∙ w.on_medium in
    let valid : is_valid_advertisement K r ≡ true = rw (enabled, on_link, a.near, a.source, a.to_all) refl in
    let known : K.slaac ≡ old.slaac = ap (λ (X : Host). X.slaac) same in
    let moment : K.moment ≡ t = ap (λ (X : Host). X.moment) same in
    let state : (if is_valid_advertisement K r then slaac_after_message K.slaac r.src_addr (seconds lifetime) prefix K.moment else K.slaac)
    ≡ slaac_after_message K.slaac r.src_addr (seconds lifetime) prefix K.moment = rw valid refl in (
      settled.0 ∙ state ∙ ap (λ s. slaac_after_message s r.src_addr (seconds lifetime) prefix K.moment) known
          ∙ ap (λ m. slaac_after_message old.slaac r.src_addr (seconds lifetime) prefix m) moment,
      k.sends_them ∙ settled.1,
    )

prefixes_learnt : (t : ℤ) (old new : Host) (told : List Event) → LearnsPrefixes t old told new
prefixes_learnt t old new told own frame r lifetime p w a f room =
    let is = learnt w a in
    let x = learns_prefix old.slaac r.src_addr (seconds lifetime) p t f room in (
      subst (λ s. IsKnown s.prefixes p (t +ℤ pos (p.valid_lifetime * 1_000_000))) (sym is.0) x.0,
      is.1,
      subst (λ s. (s.changed ≡ true) ⊎ ((end : ℤ) × IsKnown old.slaac.prefixes p end)) (sym is.0) x.1,
    )

routers_learnt : (t : ℤ) (old new : Host) (told : List Event) → LearnsRouters t old told new
routers_learnt t old new told own frame r lifetime prefix w a lives room =
    let is = learnt w a in
    let some : seconds lifetime ≢ 0 = λ z. lives (omega (arith, z)) in
    let x = learns_router old.slaac r.src_addr (seconds lifetime) prefix t some room in (
      subst (λ s. IsKnownRouter s.routers r.src_addr (t +ℤ pos (lifetime * 1_000_000))) (sym is.0) x.0,
      is.1,
      subst (λ s. (s.changed ≡ true) ⊎ ((end : ℤ) × IsKnownRouter old.slaac.routers r.src_addr end)) (sym is.0) x.1,
    )

pub advertisements_learnt : AdvertisementsAreLearnt
advertisements_learnt t old new told = (prefixes_learnt t old new told, routers_learnt t old new told)
