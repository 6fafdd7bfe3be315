-- A report in answer to a query goes when its moment has come.
use Rattle.std.proofs.Common.{◌≡◌, ◌≤◌, ℕ, suc, Bool, true, false, List, [], ◌∷◌, ◌++◌, refl, sym, ◌∙◌, ap, subst, Option, Some, None}
use Rattle.std.specs.Prelude.{ℤ, ◌≤ℤ◌, slice_get}
use Rattle.std.specs.Option.{option_and_then, option_map}
use Rattle.net_base.specs.Checksum.{ip_mtu_of}
use Rattle.net_base.specs.Device.{Event, sent_frames}
use Rattle.ip_address.specs.declared.cidr.IpCidr.{IpCidr}
use Rattle.ip_address.specs.declared.ip.IpAddress.{IpAddress}
use Rattle.ip_address.specs.declared.ipv4.Ipv4Address.{Ipv4Address}
use Rattle.control_wire.specs.declared.igmp.IgmpRepr.TheVariants.{MembershipReport}
use Rattle.control_wire.specs.declared.igmp.IgmpVersion.{IgmpVersion}
use Rattle.control_wire.specs.declared.mld.MldRecordType.TheVariants.{ModeIsExclude}
use Rattle.iface_tables.specs.Groups.{first_in, ipv4_groups, ipv6_groups, is_same_state}
use Rattle.iface_tables.specs.declared.groups.Group.{Group}
use Rattle.iface_tables.specs.declared.groups.GroupState.{GroupState}
use Rattle.iface_tables.specs.declared.groups.GroupState.TheVariants.{Joining, Joined, Leaving}
use Rattle.iface_tables.specs.declared.report.IgmpReportState.{IgmpReportState}
use Rattle.iface_tables.specs.declared.report.IgmpReportState.TheVariants as igmp
use Rattle.iface_tables.specs.declared.report.MldReportState.{MldReportState}
use Rattle.iface_tables.specs.declared.report.MldReportState.TheVariants as mld
use Rattle.host_machine.specs.declared.results.PollResult.{PollResult}
use Rattle.host_machine.specs.Context.Note.{Note}
use Rattle.host_machine.specs.Context.Host.{Host, at, no_sockets}
use Rattle.host_machine.specs.Send.Dispatch.{Dispatches, destination_of}
use Rattle.host_machine.specs.Interface.Egress.{Egress}
use Rattle.host_machine.specs.Packet.Frame.{ip_frame}
use Rattle.host_machine.specs.Multicast.Igmp.{igmp_report, IgmpEgress, igmp_report_after, igmp_timeout_of, is_igmp_due, next_group, next_report}
use Rattle.host_machine.specs.Multicast.Mld.{mld_report, MldEgress, is_mld_due, mld_timeout_of, next_mld_report, reported_groups}
use Rattle.host_machine.specs.Packet.Packet.{Packet, total_len}
use Rattle.host_machine.specs.Packet.Packet as packet
use Rattle.host_machine.specs.Multicast.Timeout.{has_passed}
use Rattle.host_machine.specs.Multicast.Igmp as igmp_rules
use Rattle.host_machine.specs.Multicast.Joins as multicast
use Rattle.host_machine.specs.Multicast.Joins.{ReportsAll, ReportsEach}
use Rattle.host_machine.specs.Multicast.Mld as mld_rules
use Rattle.host_laws.specs.Laws.DueReports.{AllAreReported, DueReportsGo, SendsDueReport, SendsDueReportV6, SendsNextReport, SendsWholeReport}
use Rattle.host_laws.specs.Laws.DueReports.{WentToMany}
use Rattle.host_laws.specs.Laws.Many.{IsToMany}
use Rattle.host_laws.specs.Laws.Service.{all_granted}
use Rattle.host_laws.proofs.Receive.FrameReplies.{clash}
use Rattle.host_laws.proofs.Receive.Malformed.{sent_frames-sends}
use Rattle.host_laws.proofs.Runs.FramesOfCalls.{igmp_leaves, mld_leaves, piece_leaves, reports_leave, routers_leave, sockets_leave}
use Rattle.host_laws.proofs.Interface.DueWork.{has_come_by}
use Rattle.host_laws.proofs.Interface.GrantedEgress.{IsAfter, given_parts, groups_way, igmp_way, piece_way, routers_way, sans}
use Rattle.host_laws.proofs.Interface.GrantedEgress.{sent_frames-append, then_after, way_of}
use Rattle.host_laws.proofs.Sockets.ManyPackets.{Goes, address_as, goes_to_many, many_as, many_specified}

-- The part of a call that answers

-- the report from an address
abbrev report_from : IgmpVersion → Ipv4Address → Ipv4Address → Packet
report_from version group src =
    packet.Ipv4 (record { src_addr = src; dst_addr = group; hop_limit = 1; payload = packet.Igmp (MembershipReport group version) })

record WentAlone (H : Host) (p : Packet) (go : Goes p H) (told : List Event) : Type 0 where
  frames : sent_frames told ≡ ip_frame H go.h p ∷ []

-- a report that is due and can be sent goes
igmp_sends : {H new : Host} {told : List Event} {notes : List Note} (p : Packet) (go : Goes p H) → IgmpEgress H told notes new →
    all_granted told ≡ true → is_igmp_due H ≡ true → next_report H ≡ Some p →
    WentAlone H p go told × (new.igmp_report ≡ igmp_report_after H.igmp_report H.moment)
igmp_sends {H} p go (igmp_rules.NotDue d e m y) all due from = absurd (clash due d)
igmp_sends {H} p go (igmp_rules.NoFurtherGroup d g e m y) all due from =
    absurd (let bad : None ≡ Some p = sym (ap (option_and_then (λ n. igmp_report H.ip_addrs n.0 n.1)) g) ∙ from in cc)
igmp_sends {H} p go (igmp_rules.NoAddress next d g none e m y) all due from =
    absurd (let bad : None ≡ Some p = sym (ap (option_and_then (λ n. igmp_report H.ip_addrs n.0 n.1)) g
    ∙ ap (option_map (report_from next.0 next.1)) none) ∙ from in cc)
igmp_sends {H} p go (igmp_rules.NotGranted q d r e m y) all due from = absurd (clash all (ap all_granted e))
igmp_sends {H} {new} {told} {notes} p go (igmp_rules.Sent q o f mid d r s e y) all due from =
    let both : Some q ≡ Some p = sym r ∙ from in
    let same : q ≡ p = cc in
    let went = go.goes o f notes mid (subst (λ x. Dispatches x o H f notes mid) same s) in
    (record { frames = ap sent_frames e ∙ sent_frames-sends f ∙ went.frames_are }, ap (λ (K : Host). K.igmp_report) y)

mld_sends : {H new : Host} {told : List Event} {notes : List Note} (go : Goes (next_mld_report H) H) → MldEgress H told notes new →
    all_granted told ≡ true → is_mld_due H ≡ true → WentAlone H (next_mld_report H) go told × (new.mld_report ≡ mld.Inactive)
mld_sends go (mld_rules.NotYet d e m y) all due = absurd (clash due d)
mld_sends go (mld_rules.GivenUp d e m y) all due = absurd (clash all (ap all_granted e))
mld_sends {H} {new} {told} {notes} go (mld_rules.ReportGoes o f mid d s e y) all due =
    let went = go.goes o f notes mid s in
    (record { frames = ap sent_frames e ∙ sent_frames-sends f ∙ went.frames_are }, ap (λ (K : Host). K.mld_report) y)

-- Where all joins and leaves are reported, none is reported

joined_alone : (gs : List Group) (state : GroupState) → is_same_state Joined state ≡ false →
    ((i : ℕ) (g : Group) → slice_get gs i ≡ Some g → g.state ≡ Joined) → first_in state gs ≡ None
joined_alone [] state other all = refl
joined_alone (g ∷ gs) state other all =
    let no : is_same_state g.state state ≡ false = ap (λ s. is_same_state s state) (all 0 g refl) ∙ other in
    rw no (joined_alone gs state other (λ i h at. all (suc i) h at))

no_some : {a : IpAddress} (o : Option IpAddress) → o ≡ None → o ≡ Some a → ⊥
no_some o none some = cc

none_reported : {state : GroupState} {packet_for : List IpCidr → IpAddress → Option Packet} {after_report : List Group → IpAddress → List Group}
    {old new : Host} {granted : Bool} {told : List Event} {notes : List Note} →
    ReportsEach state packet_for after_report old granted told notes new → first_in state old.groups ≡ None → new ≡ old
none_reported multicast.Begins none = refl
none_reported {state = state} (multicast.Silently {mid = mid} a r first p) none =
    absurd (no_some _ (ap (λ (K : Host). first_in state K.groups) (none_reported r none) ∙ none) first)
none_reported {state = state} (multicast.Refused {mid = mid} a p r first q) none =
    absurd (no_some _ (ap (λ (K : Host). first_in state K.groups) (none_reported r none) ∙ none) first)
none_reported {state = state} (multicast.Reported {mid = mid} a p o f more new r first q s) none =
    absurd (no_some _ (ap (λ (K : Host). first_in state K.groups) (none_reported r none) ∙ none) first)

still_there : {state : GroupState} {packet_for : List IpCidr → IpAddress → Option Packet} {after_report : List Group → IpAddress → List Group}
    {old new : Host} {told : List Event} {notes : List Note} →
    ReportsAll state packet_for after_report old told notes new → first_in state old.groups ≡ None → new ≡ old
still_there (multicast.All r none_left) none = none_reported r none
still_there (multicast.UpToRefusal r) none = none_reported r none

-- A packet that goes from a host after other packets goes from it before them

-- with the same lists
goes_still : (old mid : Host) (p : Packet) → sans mid ≡ sans old → IsToMany old (destination_of p) → total_len p ≤ ip_mtu_of old.capabilities →
    Goes p mid
goes_still old mid p rest many short =
    goes_to_many p mid mid.hardware_addr refl (many_as old mid (destination_of p) rest many)
    (subst (λ c. total_len p ≤ ip_mtu_of c) (sym (ap (λ (x : Host). x.capabilities) rest)) short)
    (many_specified old (destination_of p) many)

went_behind : (old : Host) (t : ℤ) (mid : Host) (p : Packet) (go : Goes p mid) (told front told_it back : List Event) →
    sans mid ≡ sans (at old t) → told ≡ front ++ (told_it ++ back) → WentAlone mid p go told_it → WentToMany old p told
went_behind old t mid p go told front told_it back rest split w = record {
  hardware = go.h;
  many = address_as {H = old} {K = mid} (ap (λ (x : Host). x.hardware_addr) rest) (ap (λ (x : Host). x.ip_addrs) rest) go.many;
  front = sent_frames front;
  back = sent_frames back;
  frames = ap sent_frames split ∙ sent_frames-append front (told_it ++ back)
      ∙ ap (λ x. sent_frames front ++ x) (sent_frames-append told_it back ∙ ap (λ x. x ++ sent_frames back)
      (w.frames ∙ ap (λ f. f ∷ []) (ap (λ (x : Host). ip_frame x go.h p) rest)));
}

given_in : (told front told_it back : List Event) → told ≡ front ++ (told_it ++ back) → all_granted told ≡ true → all_granted told_it ≡ true
given_in told front told_it back split all =
    (given_parts told_it back (given_parts front (told_it ++ back) (sym (ap all_granted split) ∙ all)).1).0

-- A call

-- the part of a call that sends IGMP reports, and what is the same at its beginning and at the call's
record AtIgmp (t : ℤ) (old new : Host) (told : List Event) : Type 0 where
  H : Host
  after : Host
  front : List Event
  told_it : List Event
  back : List Event
  notes_it : List Note
  part : IgmpEgress H told_it notes_it after
  split : told ≡ front ++ (told_it ++ back)
  way : way_of H ≡ way_of (at old t)
  report : H.igmp_report ≡ old.igmp_report
  groups : AllAreReported old → H.groups ≡ old.groups
  last : new.igmp_report ≡ after.igmp_report

at_igmp : {t : ℤ} {answer : PollResult} {old new : Host} {told : List Event} {notes : List Note} → Egress t answer old told notes new →
    AtIgmp t old new told
at_igmp {t} {answer} {old} {new} {told} e =
    let a = e.round in
    let b = a.ends in
    let c = b.ends in
    let d = c.ends in
    let f = d.ends in
    let g = f.ends in
    let behind : IsAfter told d.told_two = then_after a.told_one a.told_two a.events (then_after b.told_one b.told_two b.events
    (then_after c.told_one c.told_two c.events (record { front = d.told_one; is = d.events }))) in
    record {
      H = d.mid;
      after = f.mid;
      front = behind.front;
      told_it = f.told_one;
      back = f.told_two;
      notes_it = f.notes_one;
      part = f.begins;
      split = behind.is ∙ ap (λ x. behind.front ++ x) f.events;
      way = groups_way _ _ _ d.begins ∙ groups_way _ _ _ c.begins ∙ routers_way b.begins ∙ piece_way a.begins;
      report = reports_leave (λ (K : Host). K.igmp_report) (λ H. refl) (λ H. refl) (λ H rest. refl) (λ H gs. refl) d.begins
          ∙ reports_leave (λ (K : Host). K.igmp_report) (λ H. refl) (λ H. refl) (λ H rest. refl) (λ H gs. refl) c.begins
          ∙ routers_leave (λ (K : Host). K.igmp_report) (λ H. refl) (λ H. refl) (λ H rest. refl) (λ H s. refl) b.begins
          ∙ piece_leaves (λ (K : Host). K.igmp_report) (λ H. refl) (λ H. refl) (λ H rest. refl) a.begins;
      groups = λ all.
          let at_b : b.mid.groups ≡ old.groups = routers_leave (λ (K : Host). K.groups) (λ H. refl) (λ H. refl) (λ H rest. refl) (λ H s. refl) b.begins
          ∙ piece_leaves (λ (K : Host). K.groups) (λ H. refl) (λ H. refl) (λ H rest. refl) a.begins in
          let at_c : c.mid ≡ b.mid = still_there c.begins (ap (first_in Joining) at_b ∙ joined_alone old.groups Joining refl all) in
          let groups_c : c.mid.groups ≡ old.groups = ap (λ (K : Host). K.groups) at_c ∙ at_b in
          let at_d : d.mid ≡ c.mid = still_there d.begins (ap (first_in Leaving) groups_c ∙ joined_alone old.groups Leaving refl all) in
          ap (λ (K : Host). K.groups) at_d ∙ groups_c;
      last = sockets_leave (λ (K : Host). K.igmp_report) (λ H. refl) (λ H. refl) (λ H rest. refl) (λ H i s w. refl) g.ends
          ∙ mld_leaves (λ (K : Host). K.igmp_report) (λ H. refl) (λ H. refl) (λ H rest. refl) (λ H r. refl) g.begins;
    }

-- whatever state the report is in
igmp_goes : {t : ℤ} {old new : Host} {told : List Event} (m : AtIgmp t old new told) (report : IgmpReportState) (moment : ℤ) (p : Packet) →
    all_granted told ≡ true → old.igmp_report ≡ report → igmp_timeout_of report ≡ Some moment → moment ≤ℤ t →
    next_report m.H ≡ Some p → IsToMany old (destination_of p) → total_len p ≤ ip_mtu_of old.capabilities →
    WentToMany old p told × (new.igmp_report ≡ igmp_report_after report t)
igmp_goes {t} {old} {new} {told} m report moment p all is timeout le from many short =
    let rest : sans m.H ≡ sans (at old t) = ap (λ (K : Host). record K { sockets = no_sockets }) m.way in
    let moment_is : m.H.moment ≡ t = ap (λ (K : Host). K.moment) m.way in
    let state : m.H.igmp_report ≡ report = m.report ∙ is in
    let go : Goes p m.H = goes_still (at old t) m.H p rest many short in
    let due : is_igmp_due m.H ≡ true = ap (λ o. has_passed o m.H.moment) (ap igmp_timeout_of state ∙ timeout)
    ∙ has_come_by moment m.H.moment (subst (λ x. moment ≤ℤ x) (sym moment_is) le) in
    let went = igmp_sends {H = m.H} p go m.part (given_in told m.front m.told_it m.back m.split all) due from in (
      went_behind old t m.H p go told m.front m.told_it m.back rest m.split went.0,
      m.last ∙ went.1 ∙ ap (λ r. igmp_report_after r m.H.moment) state ∙ ap (igmp_report_after report) moment_is,
    )

one_goes : {t : ℤ} {answer : PollResult} {old new : Host} {told : List Event} {notes : List Note} → Egress t answer old told notes new →
    SendsDueReport t old told new
one_goes {old = old} e version moment group p all is le from many short =
    let m = at_igmp e in
    let state : next_group m.H m.H.igmp_report ≡ Some (version, group) = ap (next_group m.H) (m.report ∙ is) in
    let named : next_report m.H ≡ Some p = ap (option_and_then (λ n. igmp_report m.H.ip_addrs n.0 n.1)) state
    ∙ ap (λ o. igmp_report o version group) (ap (λ (K : Host). K.ip_addrs) m.way) ∙ from in
    igmp_goes m (igmp.ToSpecificQuery version moment group) moment p all is refl le named many short

next_goes : {t : ℤ} {answer : PollResult} {old new : Host} {told : List Event} {notes : List Note} → Egress t answer old told notes new →
    SendsNextReport t old told new
next_goes {old = old} e version moment interval place group p all is le reported here from many short =
    let m = at_igmp e in
    let there : slice_get (ipv4_groups m.H.groups) place ≡ Some group = ap (λ gs. slice_get (ipv4_groups gs) place) (m.groups reported) ∙ here in
    let state : next_group m.H m.H.igmp_report ≡ Some (version, group) = ap (next_group m.H) (m.report ∙ is)
    ∙ ap (option_map (λ g. (version, g))) there in
    let named : next_report m.H ≡ Some p = ap (option_and_then (λ n. igmp_report m.H.ip_addrs n.0 n.1)) state
    ∙ ap (λ o. igmp_report o version group) (ap (λ (K : Host). K.ip_addrs) m.way) ∙ from in
    igmp_goes m (igmp.ToGeneralQuery version moment interval place) moment p all is refl le named many short

-- the part of a call that sends MLD reports
record AtMld (t : ℤ) (old new : Host) (told : List Event) : Type 0 where
  H : Host
  after : Host
  front : List Event
  told_it : List Event
  back : List Event
  notes_it : List Note
  part : MldEgress H told_it notes_it after
  split : told ≡ front ++ (told_it ++ back)
  way : way_of H ≡ way_of (at old t)
  report : H.mld_report ≡ old.mld_report
  groups : AllAreReported old → H.groups ≡ old.groups
  last : new.mld_report ≡ after.mld_report

at_mld : {t : ℤ} {answer : PollResult} {old new : Host} {told : List Event} {notes : List Note} → Egress t answer old told notes new →
    AtMld t old new told
unfolding at_igmp
at_mld {t} {answer} {old} {new} {told} e =
    let a = e.round in
    let b = a.ends in
    let c = b.ends in
    let d = c.ends in
    let f = d.ends in
    let g = f.ends in
    let behind : IsAfter told f.told_two = then_after a.told_one a.told_two a.events (then_after b.told_one b.told_two b.events
    (then_after c.told_one c.told_two c.events (then_after d.told_one d.told_two d.events (record { front = f.told_one; is = f.events })))) in
    record {
      H = f.mid;
      after = g.mid;
      front = behind.front;
      told_it = g.told_one;
      back = g.told_two;
      notes_it = g.notes_one;
      part = g.begins;
      split = behind.is ∙ ap (λ x. behind.front ++ x) g.events;
      way = igmp_way f.begins ∙ (at_igmp e).way;
      report = igmp_leaves (λ (K : Host). K.mld_report) (λ H. refl) (λ H. refl) (λ H rest. refl) (λ H r. refl) f.begins
          ∙ reports_leave (λ (K : Host). K.mld_report) (λ H. refl) (λ H. refl) (λ H rest. refl) (λ H gs. refl) d.begins
          ∙ reports_leave (λ (K : Host). K.mld_report) (λ H. refl) (λ H. refl) (λ H rest. refl) (λ H gs. refl) c.begins
          ∙ routers_leave (λ (K : Host). K.mld_report) (λ H. refl) (λ H. refl) (λ H rest. refl) (λ H s. refl) b.begins
          ∙ piece_leaves (λ (K : Host). K.mld_report) (λ H. refl) (λ H. refl) (λ H rest. refl) a.begins;
      groups = λ all. igmp_leaves (λ (K : Host). K.groups) (λ H. refl) (λ H. refl) (λ H rest. refl) (λ H r. refl) f.begins ∙ (at_igmp e).groups all;
      last = sockets_leave (λ (K : Host). K.mld_report) (λ H. refl) (λ H. refl) (λ H rest. refl) (λ H i s w. refl) g.ends;
    }

mld_goes : {t : ℤ} {old new : Host} {told : List Event} (m : AtMld t old new told) (report : MldReportState) (moment : ℤ) (p : Packet) →
    all_granted told ≡ true → old.mld_report ≡ report → mld_timeout_of report ≡ Some moment → moment ≤ℤ t →
    next_mld_report m.H ≡ p → IsToMany old (destination_of p) → total_len p ≤ ip_mtu_of old.capabilities →
    WentToMany old p told × (new.mld_report ≡ mld.Inactive)
mld_goes {t} {old} {new} {told} m report moment p all is timeout le named many short =
    let rest : sans m.H ≡ sans (at old t) = ap (λ (K : Host). record K { sockets = no_sockets }) m.way in
    let moment_is : m.H.moment ≡ t = ap (λ (K : Host). K.moment) m.way in
    let go : Goes (next_mld_report m.H) m.H = goes_still (at old t) m.H (next_mld_report m.H) rest
    (subst (λ q. IsToMany (at old t) (destination_of q)) (sym named) many)
    (subst (λ q. total_len q ≤ ip_mtu_of old.capabilities) (sym named) short) in
    let due : is_mld_due m.H ≡ true = ap (λ o. has_passed o m.H.moment) (ap mld_timeout_of (m.report ∙ is) ∙ timeout)
    ∙ has_come_by moment m.H.moment (subst (λ x. moment ≤ℤ x) (sym moment_is) le) in
    let went = mld_sends {H = m.H} go m.part (given_in told m.front m.told_it m.back m.split all) due in (
      subst (λ q. WentToMany old q told) named
          (went_behind old t m.H (next_mld_report m.H) go told m.front m.told_it m.back rest m.split went.0),
      m.last ∙ went.1,
    )

one_goes_v6 : {t : ℤ} {answer : PollResult} {old new : Host} {told : List Event} {notes : List Note} → Egress t answer old told notes new →
    SendsDueReportV6 t old told new
one_goes_v6 e moment group all is le many short =
    let m = at_mld e in
    let named = ap (λ r. mld_report m.H.ip_addrs ModeIsExclude (reported_groups m.H r)) (m.report ∙ is)
    ∙ ap (λ (K : Host). mld_report K.ip_addrs ModeIsExclude (group ∷ [])) m.way in
    mld_goes m (mld.ToSpecificQuery group moment) moment _ all is refl le named many short

whole_goes : {t : ℤ} {answer : PollResult} {old new : Host} {told : List Event} {notes : List Note} → Egress t answer old told notes new →
    SendsWholeReport t old told new
whole_goes {old = old} e moment all is le reported many short =
    let m = at_mld e in
    let named = ap (λ r. mld_report m.H.ip_addrs ModeIsExclude (reported_groups m.H r)) (m.report ∙ is)
    ∙ ap (λ gs. mld_report m.H.ip_addrs ModeIsExclude (ipv6_groups gs)) (m.groups reported)
    ∙ ap (λ (K : Host). mld_report K.ip_addrs ModeIsExclude (ipv6_groups old.groups)) m.way in
    mld_goes m (mld.ToGeneralQuery moment) moment _ all is refl le named many short

pub due_reports_go : DueReportsGo
due_reports_go t answer old new told notes e = record { one = one_goes e; one_v6 = one_goes_v6 e; next = next_goes e; whole_v6 = whole_goes e }
