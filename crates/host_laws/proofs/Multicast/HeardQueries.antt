-- A query for groups of the host makes an answer pending.
use Rattle.std.proofs.Common.{◌≡◌, ℕ, zero, suc, ◌*◌, ◌/◌, ◌^◌, true, false, List, [], ◌∷◌, length, refl, sym}
use Rattle.std.proofs.Common.{◌∙◌, ap, subst, Option, Some, None, arith}
use Rattle.std.specs.Prelude.{ℤ, pos, ◌+ℤ◌, ◌≤ℤ◌, ◌==◌, nat_lt, slice_get, if◌then◌else◌}
use Rattle.std.proofs.lemmas.Bool.Decides.{nat_tests}
use Rattle.net_base.specs.Device.{Event}
use Rattle.ip_address.specs.declared.ip.IpAddress.{IpAddress}
use Rattle.ip_address.specs.declared.ip.IpAddress.TheVariants.{Ipv4, Ipv6}
use Rattle.ip_address.specs.declared.ipv4.Ipv4Address.{Ipv4Address}
use Rattle.ip_address.specs.declared.ipv6.Ipv6Address.{Ipv6Address}
use Rattle.ip_wire.specs.declared.ip_packet.IpRepr.TheVariants as repr
use Rattle.ip_wire.specs.declared.ipv4_packet.Ipv4Repr.{Ipv4Repr}
use Rattle.ip_wire.specs.declared.ipv6_packet.Ipv6Repr.{Ipv6Repr}
use Rattle.control_wire.specs.Igmp.{IsIgmp, igmp_in, query_version}
use Rattle.control_wire.specs.declared.igmp.IgmpRepr.TheVariants.{MembershipQuery}
use Rattle.control_wire.specs.declared.mld.MldRepr.TheVariants.{Query}
use Rattle.control_wire.specs.Icmpv6.{icmpv6_in}
use Rattle.control_wire.specs.declared.icmpv6.Icmpv6Repr.TheVariants as v6
use Rattle.iface_tables.specs.Groups.{ipv4_groups, ipv6_groups, is_member}
use Rattle.iface_tables.specs.declared.groups.Group.{Group}
use Rattle.iface_tables.specs.declared.groups.GroupState.{GroupState}
use Rattle.host_machine.specs.Context.Note.{Note}
use Rattle.host_machine.specs.Context.Host.{Host, without_expired}
use Rattle.host_machine.specs.Context.Addresses.{has_multicast_group, may_be_source}
use Rattle.host_machine.specs.Icmp.Icmpv6.{ProcessesIcmpv6, ProcessesMessage}
use Rattle.host_machine.specs.Icmp.Icmpv6 as icmpv6
use Rattle.host_machine.specs.Receive.Ipv4.{ProcessesProtocol}
use Rattle.host_machine.specs.Sockets.Raw as raw
use Rattle.host_machine.specs.Discovery.Renewal.{sender_renewed}
use Rattle.host_machine.specs.Receive.Reply.{Reply}
use Rattle.host_machine.specs.Receive.Response.{Responds}
use Rattle.host_machine.specs.Multicast.Igmp as igmp_rules
use Rattle.host_machine.specs.Multicast.Mld as mld_rules
use Rattle.host_laws.specs.Laws.HeardQueries.{Answers, AnswersV6, AsksV4, AsksV6, HearsIgmpQueries, HearsMldQueries, QueriesAreHeard}
use Rattle.host_laws.specs.Laws.HeardQueries as law
use Rattle.host_laws.specs.Laws.Many.{IsMember, IsOfMany}
use Rattle.host_laws.specs.Laws.Many as many
use Rattle.host_laws.specs.Laws.Restraint.Queries.{HasGroup, allowed}
use Rattle.host_laws.proofs.Sockets.DatagramDelivery as same
use Rattle.host_laws.proofs.Receive.ForeignFrames as other
use Rattle.host_laws.proofs.Receive.FrameReplies.{ipv4_taken, v4_of, v6_of}
use Rattle.host_laws.proofs.Receive.FrameRepliesV6.{apart, met, met_apart, message_served}
use Rattle.host_laws.proofs.Sockets.ManyDelivery.{accepted, group_heard, heard_of, member_of}
use Rattle.host_laws.proofs.Receive.ReceivedFrames.{renewal}
use Rattle.host_laws.proofs.Receive.SettingChanges.{delay_fits, interval_fits, later_by, no_later, quarter_fits}

positive : (n : ℕ) → nat_lt 0 (suc n) ≡ true
positive n = grind (arith, nat_tests)

-- a table with a group has one to report
some_v4 : (groups : List Group) (g : Ipv4Address) (state : GroupState) → HasGroup groups (Ipv4 g) state → nat_lt 0 (length (ipv4_groups groups)) ≡ true
some_v4 [] g state h = absurd cc
some_v4 (x ∷ groups) g state h = by x.addr refl (λ there. some_v4 groups g state there) where
  by : (a : IpAddress) → x.addr ≡ a → (HasGroup groups (Ipv4 g) state → nat_lt 0 (length (ipv4_groups groups)) ≡ true) →
      nat_lt 0 (length (ipv4_groups (x ∷ groups))) ≡ true
  by (Ipv4 a) e rest = rw e (positive (length (ipv4_groups groups)))
  by (Ipv6 a) e rest = further h.0 h.1 where
    further : (k : ℕ) → slice_get (x ∷ groups) k ≡ Some (record { addr = Ipv4 g; state = state }) →
        nat_lt 0 (length (ipv4_groups (x ∷ groups))) ≡ true
    further zero here =
        let one : x ≡ record { addr = Ipv4 g; state = state } = cc in
        let bad : Ipv6 a ≡ Ipv4 g = sym e ∙ ap (λ (y : Group). y.addr) one in absurd cc
    further (suc k) there = rw e (rest (k, there))

some_v6 : (groups : List Group) (g : Ipv6Address) (state : GroupState) → HasGroup groups (Ipv6 g) state → nat_lt 0 (length (ipv6_groups groups)) ≡ true
some_v6 [] g state h = absurd cc
some_v6 (x ∷ groups) g state h = by x.addr refl (λ there. some_v6 groups g state there) where
  by : (a : IpAddress) → x.addr ≡ a → (HasGroup groups (Ipv6 g) state → nat_lt 0 (length (ipv6_groups groups)) ≡ true) →
      nat_lt 0 (length (ipv6_groups (x ∷ groups))) ≡ true
  by (Ipv6 a) e rest = rw e (positive (length (ipv6_groups groups)))
  by (Ipv4 a) e rest = further h.0 h.1 where
    further : (k : ℕ) → slice_get (x ∷ groups) k ≡ Some (record { addr = Ipv6 g; state = state }) →
        nat_lt 0 (length (ipv6_groups (x ∷ groups))) ≡ true
    further zero here =
        let one : x ≡ record { addr = Ipv6 g; state = state } = cc in
        let bad : Ipv4 a ≡ Ipv6 g = sym e ∙ ap (λ (y : Group). y.addr) one in absurd cc
    further (suc k) there = rw e (rest (k, there))

-- IGMP
to_many : {H : Host} {destination group : Ipv4Address} → AsksV4 H destination group → IsOfMany H (Ipv4 destination)
to_many (law.ForAll g state nobody to_all listed) = many.AllHosts (ap (λ n. Ipv4 (record { bits = n })) to_all)
to_many {H} (law.ForOne is_group to_it member) =
    many.OfGroup (ap (λ n. n / 2 ^ 28) to_it ∙ is_group)
    (subst (IsMember H.groups) (ap (λ n. Ipv4 (record { bits = n })) (sym to_it)) member)

-- what is pending then, at a host with the same groups
pub pending_v4 : {H : Host} {destination group : Ipv4Address} (K : Host) (code : ℕ) (asks : AsksV4 H destination group) → K.groups ≡ H.groups →
    (x : ℤ) × Answers asks (igmp_rules.igmp_report_for K destination code group) x × (K.moment ≤ℤ x) × (x ≤ℤ (K.moment +ℤ pos (allowed code)))
pending_v4 {H} {destination} {group} K code (law.ForAll g state nobody to_all listed) groups =
    let n : ℕ = igmp_rules.igmp_interval_for (query_version code) (igmp_rules.answer_time code) (length (ipv4_groups K.groups)) in
    let some : nat_lt 0 (length (ipv4_groups K.groups)) ≡ true = ap (λ gs. nat_lt 0 (length (ipv4_groups gs))) groups ∙ some_v4 H.groups g state listed in (
      K.moment +ℤ pos n,
      rw (nobody, to_all, some) (refl, refl),
      later_by K.moment n,
      no_later K.moment n (allowed code)
          (interval_fits code (length (ipv4_groups K.groups))),
    )
pending_v4 {H} {destination} {group} K code (law.ForOne is_group to_it member) groups =
    let n : ℕ = igmp_rules.answer_time code / 4 in
    let not_all : (group.bits == 0) ≡ false = other.same_bits group.bits 0 (λ z. let bad : 0 ≡ 14 = sym (ap (λ m. m / 2 ^ 28) z) ∙ is_group in absurd cc) in
    let heard : has_multicast_group K (Ipv4 group) ≡ true =
    group_heard K (Ipv4 group) (ap (λ gs. is_member gs (Ipv4 group)) groups ∙ member_of H.groups (Ipv4 group) member) in (
      K.moment +ℤ pos n,
      rw (to_it, not_all, heard, same.same_bits group.bits) (refl, refl),
      later_by K.moment n,
      no_later K.moment n (allowed code) (quarter_fits code),
    )

igmp_settled : {K taken : Host} {r : Ipv4Repr} {octets : List ℕ} {reply : Option Reply} {notes : List Note} (new : Host) (more : List Note)
    (frames : List (List ℕ)) (code : ℕ) (group : Ipv4Address) → igmp_rules.ProcessesIgmp r K octets reply notes taken → Responds reply taken frames more new →
    IsIgmp octets → igmp_in octets ≡ MembershipQuery code group →
    (new.igmp_report ≡ igmp_rules.igmp_report_for K r.dst_addr code group) × (frames ≡ [])
igmp_settled new more frames code group (igmp_rules.Malformed m d) responds is values = absurd (m is)
igmp_settled {K} {taken} {r} new more frames code group (igmp_rules.Taken i e n s) responds is values =
    let went : Responds None taken frames more new = subst (λ x. Responds x taken frames more new) e responds in
    (ap (λ (X : Host). X.igmp_report) (went.2 ∙ s) ∙ ap (λ m. (igmp_rules.host_after_igmp K r.dst_addr m).igmp_report) values, went.0)

heard_v4 : (t : ℤ) (old new : Host) (told : List Event) → HearsIgmpQueries t old told new
heard_v4 t old new told own frame r code group w q asks =
    let k = v4_of own w q.in_packet.taken q.in_packet.is_packet in
    let H : Host = without_expired old t in
    let heard = heard_of H (Ipv4 r.dst_addr) (still (to_many asks)) in
    let may : may_be_source old.ip_addrs r.src_addr ≡ true = rw q.in_packet.sender refl in
    let datagram = ipv4_taken r q.payload k.takes q.in_packet.is_packet q.in_packet.header q.in_packet.whole q.in_packet.behind may in
    let any = accepted datagram heard.for_host in
    let mid : Host = sender_renewed k.source (repr.Ipv4 r) (raw.host_after_raw_delivery (repr.Ipv4 r) q.payload H) in
    let message : igmp_rules.ProcessesIgmp r mid q.payload k.reply k.notes k.taken =
    subst (λ p. ProcessesProtocol p (raw.is_taken (repr.Ipv4 r) H) r mid q.payload k.reply k.notes k.taken) q.protocol_is any in
    let settled = igmp_settled new k.more k.frames code group message k.responds q.is_message q.query in
    let is = (renewal k.source (repr.Ipv4 r) (raw.host_after_raw_delivery (repr.Ipv4 r) q.payload H)).is in
    let groups : mid.groups ≡ old.groups = ap (λ (K : Host). K.groups) is in
    let moment : mid.moment ≡ t = ap (λ (K : Host). K.moment) is in
    let p = pending_v4 mid code asks groups in (
      p.0,
      subst (λ z. Answers asks z p.0) (sym settled.0) p.1,
      subst (λ z. z ≤ℤ p.0) moment p.2,
      subst (λ z. p.0 ≤ℤ (z +ℤ pos (allowed code))) moment p.3,
      k.sends_them ∙ settled.1,
    ) where
      still : IsOfMany old (Ipv4 r.dst_addr) → IsOfMany (without_expired old t) (Ipv4 r.dst_addr)
      still (many.ToAll all) = many.ToAll all
      still (many.AllHosts e) = many.AllHosts e
      still (many.AllNodes e) = many.AllNodes e
      still (many.OfGroup group member) = many.OfGroup group member

-- MLD
to_many_v6 : {H : Host} {destination group : Ipv6Address} → AsksV6 H destination group → IsOfMany H (Ipv6 destination)
to_many_v6 (law.ForAllV6 g state nobody to_all listed) = many.AllNodes (ap (λ n. Ipv6 (record { bits = n })) to_all)
to_many_v6 {H} (law.ForOneV6 is_group to_it member) =
    many.OfGroup (ap (λ n. n / 2 ^ 120) to_it ∙ is_group)
    (subst (IsMember H.groups) (ap (λ n. Ipv6 (record { bits = n })) (sym to_it)) member)

pub pending_v6 : {H : Host} {destination group : Ipv6Address} (K : Host) (x : ℤ) (asks : AsksV6 H destination group) → K.groups ≡ H.groups →
    AnswersV6 asks (mld_rules.mld_report_for K destination x group) x
pending_v6 {H} {destination} {group} K x (law.ForAllV6 g state nobody to_all listed) groups =
    let some : nat_lt 0 (length (ipv6_groups K.groups)) ≡ true = ap (λ gs. nat_lt 0 (length (ipv6_groups gs))) groups ∙ some_v6 H.groups g state listed in
    rw (nobody, to_all, some) refl
pending_v6 {H} {destination} {group} K x (law.ForOneV6 is_group to_it member) groups =
    let not_all : (group.bits == 0) ≡ false =
    other.same_bits group.bits 0 (λ z. let bad : 0 ≡ 0xff = sym (ap (λ m. m / 2 ^ 120) z) ∙ is_group in absurd cc) in
    let heard : has_multicast_group K (Ipv6 group) ≡ true =
    group_heard K (Ipv6 group) (ap (λ gs. is_member gs (Ipv6 group)) groups ∙ member_of H.groups (Ipv6 group) member) in
    rw (to_it, not_all, heard, same.same_bits group.bits) (refl, refl)

mld_settled : {K taken : Host} {r : Ipv6Repr} {octets : List ℕ} {reply : Option Reply} {notes : List Note} (new : Host) (more : List Note)
    (frames : List (List ℕ)) (code : ℕ) (group : Ipv6Address) → ProcessesIcmpv6 r K octets reply notes taken → Responds reply taken frames more new →
    icmpv6.IsMessage K r octets → (icmpv6_in octets).0 ≡ v6.Mld (Query code group) →
    (new.mld_report ≡ (mld_rules.host_after_mld_query (icmpv6.host_after_delivery r octets K) r code group).mld_report) × (frames ≡ [])
mld_settled new more frames code group (icmpv6.Malformed m d) responds is values = absurd (m is)
mld_settled {K} {taken} {r} {octets} {reply} {notes} new more frames code group (icmpv6.Taken i t) responds is values =
    let done : (reply ≡ None) × (notes ≡ []) × (taken ≡ mld_rules.host_after_mld_query (icmpv6.host_after_delivery r octets K) r code group) =
    subst (λ m. ProcessesMessage r m (icmpv6_in octets).1 (icmpv6.host_after_delivery r octets K) reply notes taken) values t in
    let went : Responds None taken frames more new = subst (λ x. Responds x taken frames more new) done.0 responds in
    (ap (λ (X : Host). X.mld_report) (went.2 ∙ done.2), went.0)

heard_v6 : (t : ℤ) (old new : Host) (told : List Event) → HearsMldQueries t old told new
heard_v6 t old new told own frame r code group w q asks =
    let k = v6_of own w q.in_packet.packet.taken q.in_packet.packet.is_packet in
    let H : Host = without_expired old t in
    let heard = heard_of H (Ipv6 r.dst_addr) (still (to_many_v6 asks)) in
    let mid : Host = met k.source r q.payload H in
    let raws : Host = raw.host_after_raw_delivery (repr.Ipv6 r) q.payload H in
    let same : apart mid old.neighbors ≡ apart raws old.neighbors = met_apart k.source r q.payload H old.neighbors in
    let is_message : icmpv6.IsMessage mid r q.payload = subst (λ (K : Host). icmpv6.IsMessage K r q.payload) (sym same) q.is_message in
    let K : Host = icmpv6.host_after_delivery r q.payload mid in
    let settled = mld_settled new k.more k.frames code group (message_served k q.in_packet heard.for_host) k.responds is_message q.query in
    let groups : K.groups ≡ old.groups = ap (λ (X : Host). X.groups) same in
    let moment : K.moment ≡ t = ap (λ (X : Host). X.moment) same in
    let near : mld_rules.is_near r ≡ true = rw (q.hop_limit, q.source) refl in
    let n : ℕ = mld_rules.delay code K.random in
    let x : ℤ = K.moment +ℤ pos n in
    let report : new.mld_report ≡ mld_rules.mld_report_for K r.dst_addr x group =
    settled.0 ∙ ap (λ b. (if b then record K {
      mld_report = mld_rules.mld_report_for K r.dst_addr (K.moment +ℤ pos (mld_rules.delay code K.random)) group;
      random = mld_rules.random_after_draw code K.random;
    } else K).mld_report) near in (
      x,
      subst (λ z. AnswersV6 asks z x) (sym report) (pending_v6 K x asks groups),
      subst (λ z. z ≤ℤ x) moment (later_by K.moment n),
      subst (λ z. x ≤ℤ (z +ℤ pos (code * 1000))) moment (no_later K.moment n (code * 1000) (delay_fits code K.random)),
      k.sends_them ∙ settled.1,
    ) where
      still : IsOfMany old (Ipv6 r.dst_addr) → IsOfMany (without_expired old t) (Ipv6 r.dst_addr)
      still (many.ToAll all) = many.ToAll all
      still (many.AllHosts e) = many.AllHosts e
      still (many.AllNodes e) = many.AllNodes e
      still (many.OfGroup group member) = many.OfGroup group member

pub queries_heard : QueriesAreHeard
queries_heard t old new told = (heard_v4 t old new told, heard_v6 t old new told)
