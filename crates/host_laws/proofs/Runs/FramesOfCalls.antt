-- The frames of a call that sends, and of one that receives: why each is sent, and of which packet it is.
use Rattle.std.proofs.Common.{◌≡◌, ℕ, ◌+◌, ◌≤◌, ◌<◌, Bool, true, false, List, [], ◌∷◌, ◌++◌, length, length-append, refl, sym, ◌∙◌, ap, subst}
use Rattle.std.proofs.Common.{inl, Option, Some, None, arith, lit≤}
use Rattle.std.proofs.lemmas.Int.{by_lt_z, ints}
use Rattle.std.proofs.lemmas.Option.{slice_get_within}
use Rattle.std.specs.Prelude.{ℤ, pos, ◌+ℤ◌, ◌≤ℤ◌, slice_get}
use Rattle.std.specs.Cmp.{int_cmp_is}
use Rattle.std.specs.List.{AllByRecursion}
use Rattle.std.specs.Option.{option_and_then, option_map}
use Rattle.std.specs.declared.cmp.Ordering.TheVariants.{Less}
use Rattle.net_base.specs.Device.{Event, Reception, Received, Frame, Nothing, Withheld, handed_frames, sent_frames}
use Rattle.ip_address.specs.declared.cidr.IpCidr.{IpCidr}
use Rattle.ip_address.specs.declared.ethernet_address.EthernetAddress.{EthernetAddress}
use Rattle.ip_address.specs.declared.hardware.HardwareAddress.TheVariants as hardware
use Rattle.ip_address.specs.declared.ip.IpAddress.{IpAddress}
use Rattle.ip_address.specs.declared.ip.IpAddress.TheVariants.{Ipv4}
use Rattle.ip_address.specs.declared.ipv4.Ipv4Address.{Ipv4Address}
use Rattle.ip_wire.specs.declared.arp.ArpRepr.{ArpRepr}
use Rattle.control_wire.specs.declared.igmp.IgmpVersion.{IgmpVersion}
use Rattle.control_wire.specs.declared.mld.MldRecordType.TheVariants.{ModeIsExclude}
use Rattle.fragmentation.specs.Cuts.{Piece}
use Rattle.iface_tables.specs.Groups.{count_in, ipv4_groups}
use Rattle.iface_tables.specs.declared.groups.Group.{Group}
use Rattle.iface_tables.specs.declared.groups.GroupState.{GroupState}
use Rattle.iface_tables.specs.declared.groups.GroupState.TheVariants.{Joining, Leaving}
use Rattle.iface_tables.specs.declared.report.IgmpReportState.{IgmpReportState}
use Rattle.iface_tables.specs.declared.report.IgmpReportState.TheVariants as igmp
use Rattle.iface_tables.specs.declared.report.MldReportState.{MldReportState}
use Rattle.iface_tables.specs.declared.report.MldReportState.TheVariants as mld
use Rattle.iface_tables.specs.Slaac.{SlaacState}
use Rattle.socket_set.specs.SocketMeta.{Wait}
use Rattle.sockets.specs.Kinds.{offered_packet}
use Rattle.host_machine.specs.declared.results.PollIngressSingleResult.{PollIngressSingleResult}
use Rattle.host_machine.specs.declared.results.PollResult.{PollResult}
use Rattle.host_machine.specs.declared.results.Turn.{Turn}
use Rattle.host_machine.specs.Context.Note.{Note}
use Rattle.host_machine.specs.Context.Host.{Host, Socket, at, with_groups, with_left, with_neighbors, without_expired, with_next_id, with_slaac}
use Rattle.host_machine.specs.Context.Addresses.{source_for}
use Rattle.host_machine.specs.Receive.Reply.{Reply, Arp, Ip}
use Rattle.host_machine.specs.Receive.Response.{Responds}
use Rattle.host_machine.specs.Packet.Packet.{Packet}
use Rattle.host_machine.specs.Packet.Frame.{arp_frame, sends}
use Rattle.host_machine.specs.Send.Outcome.{Outcome}
use Rattle.host_machine.specs.Send.Dispatch.{Dispatches}
use Rattle.host_machine.specs.Send.Requests.{with_silence}
use Rattle.host_machine.specs.Sockets.Turns.{SocketTurn, Serves, Walks, SocketEgress, with_socket}
use Rattle.host_machine.specs.Send.Fragments.{Ipv4Egress}
use Rattle.host_machine.specs.Interface.Egress.{Egress}
use Rattle.host_machine.specs.Sockets.Offers.{packet_from, packet_of}
use Rattle.host_machine.specs.Sockets.Turns as turns_rules
use Rattle.host_machine.specs.Send.Fragments as fragments
use Rattle.host_machine.specs.Multicast.Joins.{ReportsEach, ReportsAll}
use Rattle.host_machine.specs.Multicast.Igmp.{igmp_report, IgmpEgress, igmp_report_after, igmp_timeout_of, next_group, next_report}
use Rattle.host_machine.specs.Multicast.Mld.{mld_report, MldEgress, mld_timeout_of, reported_groups}
use Rattle.host_machine.specs.Multicast.Joins as multicast
use Rattle.host_machine.specs.Multicast.Timeout.{has_passed, later_of}
use Rattle.host_machine.specs.Context.Host.{with_igmp_report, with_mld_report}
use Rattle.host_machine.specs.Multicast.Igmp as igmp_rules
use Rattle.host_machine.specs.Multicast.Mld as mld_rules
use Rattle.host_machine.specs.Discovery.RouterSolicitation.{NdiscRsEgress, due_solicitation}
use Rattle.host_machine.specs.Discovery.RouterSolicitation as slaac
use Rattle.host_machine.specs.Interface.Ingress.{Takes, Ingress}
use Rattle.host_laws.specs.Laws.Restraint.Queries.{HasGroup, IgmpGoesOn, IsMldPendingUntil, IsPendingUntil, KeepsGroups}
use Rattle.host_laws.specs.Laws.Restraint.Queries.{MldGoesOn}
use Rattle.host_laws.specs.Laws.Restraint.Queries as queries
use Rattle.host_laws.specs.Laws.Restraint.Readings.{Receives}
use Rattle.host_laws.specs.Laws.Restraint.SentFrames.{SendsAs, IsOfPacket, IsOfReply, SendsInOrder, replying}
use Rattle.host_laws.specs.Laws.Restraint.SentFrames.{IsListed, MayReport, MayReportV6}
use Rattle.host_laws.specs.Laws.Restraint.SentFrames.{IsIgmpAnswer, IsMldAnswer, IsNextPiece, IsOfSocket, IsReport, IsSolicitation}
use Rattle.host_laws.specs.Laws.Restraint.SentFrames as law
use Rattle.host_laws.proofs.Interface.OneFrameCalls.{dispatched}
use Rattle.host_laws.proofs.Receive.Malformed.{handed_frames-sends, sent_frames-sends}
use Rattle.host_laws.proofs.Receive.ReplyLaws.{arp_told, reply_origin}
use Rattle.host_laws.proofs.Receive.ReplyOrigins.{Origin, Silent, ByArp, ByAdvertisement, ByEcho, ByError}
use Rattle.host_laws.proofs.Receive.ReplyOrigins.{ByEchoV6, ByErrorV6, BySegment}
use Rattle.host_laws.proofs.Receive.SettingChanges.{Lists, reception_lists}
use Rattle.host_laws.proofs.Runs.FragmentArrivals.{all_push}
use Rattle.host_laws.proofs.Runs.FramesOfPackets.{Ways, as_after, as_itself, as_kept, all_by, of_packets, ways_same}
use Rattle.host_laws.proofs.Runs.Walk.{sent_frames-append, taken}
use Rattle.host_laws.proofs.Interface.DueWork.{le_not_lt}
use Rattle.host_laws.proofs.Interface.GrantedEgress.{untouched}
use Rattle.host_laws.proofs.Multicast.GroupReports.{Came, Was, came_by_join, came_by_leave, came_itself, came_v4, came_v6}
use Rattle.host_laws.proofs.Multicast.GroupReports.{fewer_after_join, fewer_after_leave, first_one, reports_carry}
use Rattle.host_laws.proofs.Multicast.GroupReports.{was_before_joins, was_before_leaves, was_itself}
use Rattle.host_laws.proofs.Multicast.KeptGroups.{Stay, stay_at_join, stay_at_leave, stay_then, stay_themselves}
use Rattle.host_laws.proofs.Multicast.ReportTimes.{joins_told_once, leaves_told_once}
use Rattle.host_laws.proofs.Interface.SettledFields.{Settings, dispatch_leaves, response_settled}

-- What a part leaves that it doesn't change

module _ {X : Type 0} (read : Host → X) (same_id : (H : Host) → read (with_next_id H) ≡ read H)
    (same_silence : (H : Host) → read (with_neighbors H (with_silence H.neighbors H)) ≡ read H)
    (same_left : (H : Host) (rest : List Piece) → read (with_left H rest) ≡ read H) where
  sent_leaves : {p : Packet} {outcome : Outcome} {H new : Host} {frames : List (List ℕ)} {notes : List Note} →
      Dispatches p outcome H frames notes new → read new ≡ read H
  sent_leaves d = dispatch_leaves read same_id same_silence same_left d

  pub piece_leaves : {H new : Host} {told : List Event} {notes : List Note} → Ipv4Egress H told notes new → read new ≡ read H
  piece_leaves (fragments.NoPiece l t n e) = ap read e
  piece_leaves (fragments.NotGranted piece rest l t n e) = ap read e
  piece_leaves {H = H} (fragments.PieceGoes piece rest l t n e) = ap read e ∙ same_left H rest

  module _ (same_slaac : (H : Host) (s : SlaacState) → read (with_slaac H s) ≡ read H) where
    pub routers_leave : {H new : Host} {told : List Event} {notes : List Note} → NdiscRsEgress H told notes new → read new ≡ read H
    routers_leave (slaac.NotDue d t n e) = ap read e
    routers_leave (slaac.NotGranted p d t n e) = ap read e
    routers_leave (slaac.Goes p outcome frames mid h d t e) = ap read e ∙ same_slaac mid _ ∙ sent_leaves d

  module _ (same_groups : (H : Host) (groups : List Group) → read (with_groups H groups) ≡ read H) {state : GroupState}
      {packet_for : List IpCidr → IpAddress → Option Packet} {after_report : List Group → IpAddress → List Group} where
    each_leaves : {old new : Host} {granted : Bool} {told : List Event} {notes : List Note} →
        ReportsEach state packet_for after_report old granted told notes new → read new ≡ read old
    each_leaves multicast.Begins = refl
    each_leaves (multicast.Silently {mid = mid} a w f p) = same_groups mid _ ∙ each_leaves w
    each_leaves (multicast.Refused a p w f q) = each_leaves w
    each_leaves (multicast.Reported a p outcome frames more new w f q d) = same_groups new _ ∙ sent_leaves d ∙ each_leaves w

    pub reports_leave : {old new : Host} {told : List Event} {notes : List Note} →
        ReportsAll state packet_for after_report old told notes new → read new ≡ read old
    reports_leave (multicast.All w n) = each_leaves w
    reports_leave (multicast.UpToRefusal w) = each_leaves w

  module _ (same_igmp : (H : Host) (r : IgmpReportState) → read (with_igmp_report H r) ≡ read H) where
    pub igmp_leaves : {H new : Host} {told : List Event} {notes : List Note} → IgmpEgress H told notes new → read new ≡ read H
    igmp_leaves (igmp_rules.NotDue h t n e) = ap read e
    igmp_leaves {H = H} (igmp_rules.NoFurtherGroup h g t n e) = ap read e ∙ same_igmp H _
    igmp_leaves (igmp_rules.NoAddress next h g a t n e) = ap read e
    igmp_leaves (igmp_rules.NotGranted p h r t n e) = ap read e
    igmp_leaves (igmp_rules.Sent p outcome frames mid h r d t e) = ap read e ∙ same_igmp mid _ ∙ sent_leaves d

  module _ (same_mld : (H : Host) (r : MldReportState) → read (with_mld_report H r) ≡ read H) where
    pub mld_leaves : {H new : Host} {told : List Event} {notes : List Note} → MldEgress H told notes new → read new ≡ read H
    mld_leaves (mld_rules.NotYet h t n e) = ap read e
    mld_leaves {H = H} (mld_rules.GivenUp h t n e) = ap read e ∙ same_mld H _
    mld_leaves (mld_rules.ReportGoes outcome frames mid h d t e) = ap read e ∙ same_mld mid _ ∙ sent_leaves d

  module _ (same_sockets : (H : Host) (i : ℕ) (s : Socket) (wait : Wait) → read (with_socket H i s wait) ≡ read H) where
    turn_leaves : {s s' : Socket} {turn : Turn} {H new : Host} {told : List Event} {notes : List Note} →
        SocketTurn s turn s' H told notes new → read new ≡ read H
    turn_leaves (turns_rules.Silent p t o n e r) = ap read e
    turn_leaves (turns_rules.Refused p q t o n e r) = ap read e
    turn_leaves (turns_rules.Sent p outcome frames q d t o r) = sent_leaves d

    served_leaves : {i : ℕ} {turn : Turn} {H new : Host} {told : List Event} {notes : List Note} → Serves i turn H told notes new →
        read new ≡ read H
    served_leaves (turns_rules.Free s t o n e) = ap read e
    served_leaves (turns_rules.Waits s known h k p t o n e) = ap read e
    served_leaves {i = i} (turns_rules.Served s s' known mid h k p t e) = ap read e ∙ same_sockets mid i s' _ ∙ turn_leaves t

    walk_leaves : {old new : Host} {n : ℕ} {granted changed : Bool} {told : List Event} {notes : List Note} →
        Walks old n granted changed told notes new → read new ≡ read old
    walk_leaves turns_rules.Begins = refl
    walk_leaves (turns_rules.Goes turn told notes _ w s t) = served_leaves s ∙ walk_leaves w
    walk_leaves (turns_rules.Stops turn told notes _ w s t) = served_leaves s ∙ walk_leaves w

    pub sockets_leave : {old new : Host} {changed : Bool} {told : List Event} {notes : List Note} →
        SocketEgress old changed told notes new → read new ≡ read old
    sockets_leave (turns_rules.Whole w) = walk_leaves w
    sockets_leave (turns_rules.Stopped n w) = walk_leaves w

-- Moments of answers

passed : (x now : ℤ) → has_passed (Some x) now ≡ true → x ≤ℤ now
passed x now e =
    by_lt_z now x (λ early. let off : has_passed (Some x) now ≡ false = rw (← int_cmp_is now x Less early) refl in absurd cc) (λ come. come)

record IsDue (Pending : ℤ → Type 0) (now : ℤ) : Type 0 where
  end : ℤ
  pending : Pending end
  come : end ≤ℤ now

igmp_due : (report : IgmpReportState) (now : ℤ) → has_passed (igmp_timeout_of report) now ≡ true → IsDue (IsPendingUntil report) now
igmp_due igmp.Inactive now e = absurd cc
igmp_due (igmp.ToGeneralQuery version timeout interval next_index) now e = record { end = timeout; pending = refl; come = passed timeout now e }
igmp_due (igmp.ToSpecificQuery version timeout group) now e = record { end = timeout; pending = refl; come = passed timeout now e }

mld_due : (report : MldReportState) (now : ℤ) → has_passed (mld_timeout_of report) now ≡ true → IsDue (IsMldPendingUntil report) now
mld_due mld.Inactive now e = absurd cc
mld_due (mld.ToGeneralQuery timeout) now e = record { end = timeout; pending = refl; come = passed timeout now e }
mld_due (mld.ToSpecificQuery group timeout) now e = record { end = timeout; pending = refl; come = passed timeout now e }

-- the later of two moments
later_fits : (a b : ℤ) → (a ≤ℤ later_of a b) × (b ≤ℤ later_of a b)
later_fits a b = by_lt_z a b
    (λ less. rw (← int_cmp_is a b Less less) (omega (arith, ints, less), omega (arith, ints)))
    (λ more. rw (le_not_lt b a more) (omega (arith, ints), more))

igmp_goes : {K L : Host} {told : List Event} {notes : List Note} → IgmpEgress K told notes L → IgmpGoesOn K.moment K.igmp_report L.igmp_report
igmp_goes (igmp_rules.NotDue h t n e) = queries.AsBefore (ap (λ (K : Host). K.igmp_report) e)
igmp_goes {K} (igmp_rules.NoFurtherGroup h g t n e) =
    let due = igmp_due K.igmp_report K.moment h in queries.Over due.end due.pending due.come (ap (λ (K : Host). K.igmp_report) e)
igmp_goes (igmp_rules.NoAddress next h g a t n e) = queries.AsBefore (ap (λ (K : Host). K.igmp_report) e)
igmp_goes (igmp_rules.NotGranted p h r t n e) = queries.AsBefore (ap (λ (K : Host). K.igmp_report) e)
igmp_goes {K} {L} (igmp_rules.Sent p outcome frames mid h r d t e) = by K.igmp_report h (ap (λ (K : Host). K.igmp_report) e) where
  by : (report : IgmpReportState) → has_passed (igmp_timeout_of report) K.moment ≡ true → L.igmp_report ≡ igmp_report_after report K.moment →
      IgmpGoesOn K.moment report L.igmp_report
  by igmp.Inactive off is = absurd cc
  by (igmp.ToGeneralQuery version timeout interval next_index) off is =
      let fits = later_fits (timeout +ℤ pos interval) K.moment in
      queries.NextGroup version timeout (later_of (timeout +ℤ pos interval) K.moment) interval next_index refl (passed timeout K.moment off)
      fits.0 fits.1 is
  by (igmp.ToSpecificQuery version timeout group) off is = queries.Over timeout refl (passed timeout K.moment off) is

mld_goes : {K L : Host} {told : List Event} {notes : List Note} → MldEgress K told notes L → MldGoesOn K.moment K.mld_report L.mld_report
mld_goes (mld_rules.NotYet h t n e) = queries.AsBefore (ap (λ (K : Host). K.mld_report) e)
mld_goes {K} (mld_rules.GivenUp h t n e) =
    let due = mld_due K.mld_report K.moment h in queries.Over due.end due.pending due.come (ap (λ (K : Host). K.mld_report) e)
mld_goes {K} (mld_rules.ReportGoes outcome frames mid h d t e) =
    let due = mld_due K.mld_report K.moment h in queries.Over due.end due.pending due.come (ap (λ (K : Host). K.mld_report) e)

-- The parts of a call that sends

-- what a part sends, and that its host still sends as this one
record Sends (H : Host) (Why : List ℕ → Type 0) (told : List Event) (most : ℕ) (new : Host) : Type 0 where
  still : SendsAs H new
  why : AllByRecursion Why (sent_frames told)
  few : length (sent_frames told) ≤ most

-- reports of groups
record Told (H : Host) (state : GroupState) (packet_for : List IpCidr → IpAddress → Option Packet) (told : List Event) (new : Host) : Type 0 where
  still : SendsAs H new
  were : AllByRecursion (Was H.groups state) new.groups
  why : AllByRecursion (IsReport state packet_for H) (sent_frames told)

none_sent : {H old new : Host} {Why : List ℕ → Type 0} {told : List Event} (most : ℕ) → SendsAs H old → new ≡ old → sent_frames told ≡ [] →
    Sends H Why told most new
none_sent most a e s = record { still = rw e a; why = rw s tt; few = rw s (omega arith) }

module _ (H : Host) where
  piece_sent : {new : Host} {told : List Event} {notes : List Note} → Ipv4Egress H told notes new → Sends H (IsNextPiece H) told 1 new
  piece_sent (fragments.NoPiece l t n e) = none_sent 1 (as_itself H) e (ap sent_frames t)
  piece_sent (fragments.NotGranted piece rest l t n e) = none_sent 1 (as_itself H) e (ap sent_frames t)
  piece_sent (fragments.PieceGoes piece rest l t n e) = record {
    still = rw e (as_kept refl refl (as_itself H));
    why = rw t (record { piece = piece; rest = rest; next = l; is = refl }, tt);
    few = rw t (lit≤ tt);
  }

  -- a packet of this host's
  packet_sent : {old mid new : Host} {p : Packet} {outcome : Outcome} {frames : List (List ℕ)} {notes : List Note} {told : List Event}
      {Why : List ℕ → Type 0} → SendsAs H old → Dispatches p outcome old frames notes mid → sent_frames told ≡ frames →
      (SendsAs H mid → SendsAs H new) → ((frame : List ℕ) → IsOfPacket H p frame → Why frame) → Sends H Why told 1 new
  packet_sent {frames = frames} a d t on why = record {
    still = on (as_after a d);
    why = rw t (all_by frames why (of_packets frames a d));
    few = rw t (dispatched d);
  }

  routers_solicited : {old new : Host} {told : List Event} {notes : List Note} → SendsAs H old → old.slaac ≡ H.slaac →
      old.slaac_enabled ≡ H.slaac_enabled → NdiscRsEgress old told notes new → Sends H (IsSolicitation H) told 1 new
  routers_solicited a s on (slaac.NotDue d t n e) = none_sent 1 a e (ap sent_frames t)
  routers_solicited a s on (slaac.NotGranted p d t n e) = none_sent 1 a e (ap sent_frames t)
  routers_solicited {old} {new} a s on (slaac.Goes p outcome frames mid h d t e) =
      let due : due_solicitation H ≡ Some p = rw (s, on, a.moment, a.hardware_address, a.addresses) at h in
      packet_sent a d (ap sent_frames t ∙ sent_frames-sends frames) (λ b. rw e (as_kept refl refl b))
      (λ frame f. record { packet = p; due = due; sent = f })

  -- reports of groups
  module _ {state : GroupState} {packet_for : List IpCidr → IpAddress → Option Packet} {after_report : List Group → IpAddress → List Group}
      (was_before : (gs : List Group) (a : IpAddress) → AllByRecursion (Was H.groups state) gs →
      AllByRecursion (Was H.groups state) (after_report gs a)) where
    each_told : {old new : Host} {granted : Bool} {told : List Event} {notes : List Note} → SendsAs H old →
        AllByRecursion (Was H.groups state) old.groups → ReportsEach state packet_for after_report old granted told notes new → Told H state packet_for told new
    each_told a were multicast.Begins = record { still = a; were = were; why = tt }
    each_told a were (multicast.Silently {mid = mid} g w f p) =
        let x = each_told a were w in
        record { still = as_kept refl refl x.still; were = was_before mid.groups g x.were; why = x.why }
    each_told a were (multicast.Refused {told = told} g p w f q) =
        let x = each_told a were w in
        record {
          still = x.still;
          were = x.were;
          why = rw sent_frames-append (all_push (IsReport state packet_for H) (sent_frames told) [] x.why tt);
        }
    each_told a were (multicast.Reported {told = told} {mid = mid} g p outcome frames more new w f q d) =
        let x = each_told a were w in
        let one = first_one (Was H.groups state) state mid.groups g x.were f in
        let pending : HasGroup H.groups g state = subst (λ b. HasGroup H.groups b state) one.addr (one.holds one.state_is) in
        let report : packet_for H.ip_addrs g ≡ Some p = subst (λ own. packet_for own g ≡ Some p) x.still.addresses q in
        let kept : new.groups ≡ mid.groups = dispatch_leaves (λ (K : Host). K.groups) (λ H. refl) (λ H. refl) (λ H rest. refl) d in
        let here = all_by frames (λ frame s. record { group = g; pending = pending; packet = p; report = report; sent = s })
        (of_packets frames x.still d) in
        record {
          still = as_kept refl refl (as_after x.still d);
          were = was_before new.groups g (rw kept x.were);
          why = rw (sent_frames-append, sent_frames-sends frames)
              (all_push (IsReport state packet_for H) (sent_frames told) frames x.why here);
        }

    all_told : {old new : Host} {told : List Event} {notes : List Note} → SendsAs H old →
        AllByRecursion (Was H.groups state) old.groups → ReportsAll state packet_for after_report old told notes new → Told H state packet_for told new
    all_told a were (multicast.All w n) = each_told a were w
    all_told a were (multicast.UpToRefusal w) = each_told a were w

  -- answers to queries
  reported_next : (K : Host) (p : Packet) → next_report K ≡ Some p →
      (n : IgmpVersion × Ipv4Address) × (next_group K K.igmp_report ≡ Some n) × (igmp_report K.ip_addrs n.0 n.1 ≡ Some p)
  reported_next K p e = by (next_group K K.igmp_report) refl e where
    by : (o : Option (IgmpVersion × Ipv4Address)) → next_group K K.igmp_report ≡ o → option_and_then (λ n. igmp_report K.ip_addrs n.0 n.1) o ≡ Some p →
        (n : IgmpVersion × Ipv4Address) × (next_group K K.igmp_report ≡ Some n) × (igmp_report K.ip_addrs n.0 n.1 ≡ Some p)
    by None is f = absurd cc
    by (Some n) is f = (n, is, f)

  may_report : (K : Host) (report : IgmpReportState) (n : IgmpVersion × Ipv4Address) → AllByRecursion (Came H.groups) K.groups →
      next_group K report ≡ Some n → MayReport H.groups report n.0 n.1
  may_report K igmp.Inactive n came e = absurd cc
  may_report K (igmp.ToGeneralQuery version timeout interval next_index) n came e = by (slice_get (ipv4_groups K.groups) next_index) refl e where
    by : (o : Option Ipv4Address) → slice_get (ipv4_groups K.groups) next_index ≡ o → option_map (λ g. (version, g)) o ≡ Some n →
        (n.0 ≡ version) × IsListed H.groups (Ipv4 n.1)
    by None is f = absurd cc
    by (Some g) is f =
        let same : (version, g) ≡ n = cc in
        (sym (ap (λ x. x.0) same), subst (λ x. IsListed H.groups (Ipv4 x)) (ap (λ x. x.1) same) (came_v4 H.groups K.groups next_index g came is))
  may_report K (igmp.ToSpecificQuery version timeout group) n came e =
      let same : (version, group) ≡ n = cc in (sym (ap (λ x. x.0) same), sym (ap (λ x. x.1) same))

  may_report_v6 : (K : Host) (report : MldReportState) → AllByRecursion (Came H.groups) K.groups →
      has_passed (mld_timeout_of report) K.moment ≡ true → MayReportV6 H.groups report (reported_groups K report)
  may_report_v6 K mld.Inactive came off = absurd cc
  may_report_v6 K (mld.ToGeneralQuery timeout) came off = came_v6 H.groups K.groups came
  may_report_v6 K (mld.ToSpecificQuery group timeout) came off = refl

  igmp_sent : {old new : Host} {told : List Event} {notes : List Note} → SendsAs H old → old.igmp_report ≡ H.igmp_report →
      AllByRecursion (Came H.groups) old.groups → IgmpEgress old told notes new → Sends H (IsIgmpAnswer H) told 1 new
  igmp_sent a s came (igmp_rules.NotDue h t n e) = none_sent 1 a e (ap sent_frames t)
  igmp_sent a s came (igmp_rules.NoFurtherGroup h g t n e) =
      record { still = rw e (as_kept refl refl a); why = rw t tt; few = rw t (lit≤ tt) }
  igmp_sent a s came (igmp_rules.NoAddress next h g none t n e) = none_sent 1 a e (ap sent_frames t)
  igmp_sent a s came (igmp_rules.NotGranted p h r t n e) = none_sent 1 a e (ap sent_frames t)
  igmp_sent {old} a s came (igmp_rules.Sent p outcome frames mid h r d t e) =
      let due = igmp_due old.igmp_report old.moment h in
      let next = reported_next old p r in
      let pending : IsPendingUntil H.igmp_report due.end = subst (λ x. IsPendingUntil x due.end) s due.pending in
      let come : due.end ≤ℤ H.moment = subst (λ x. due.end ≤ℤ x) a.moment due.come in
      let report : igmp_report H.ip_addrs next.0.0 next.0.1 ≡ Some p = subst (λ own. igmp_report own next.0.0 next.0.1 ≡ Some p) a.addresses next.2 in
      let asked : MayReport H.groups H.igmp_report next.0.0 next.0.1 =
      subst (λ x. MayReport H.groups x next.0.0 next.0.1) s (may_report old old.igmp_report next.0 came next.1) in
      packet_sent a d (ap sent_frames t ∙ sent_frames-sends frames) (λ b. rw e (as_kept refl refl b)) (λ frame f. record {
        timeout = due.end;
        pending = pending;
        passed = come;
        version = next.0.0;
        group = next.0.1;
        asked_for = asked;
        packet = p;
        report = report;
        sent = f;
      })

  mld_sent : {old new : Host} {told : List Event} {notes : List Note} → SendsAs H old → old.mld_report ≡ H.mld_report →
      AllByRecursion (Came H.groups) old.groups → MldEgress old told notes new → Sends H (IsMldAnswer H) told 1 new
  mld_sent a s came (mld_rules.NotYet h t n e) = none_sent 1 a e (ap sent_frames t)
  mld_sent a s came (mld_rules.GivenUp h t n e) = record { still = rw e (as_kept refl refl a); why = rw t tt; few = rw t (lit≤ tt) }
  mld_sent {old} a s came (mld_rules.ReportGoes outcome frames mid h d t e) =
      let due = mld_due old.mld_report old.moment h in
      let pending : IsMldPendingUntil H.mld_report due.end = subst (λ x. IsMldPendingUntil x due.end) s due.pending in
      let asked : MayReportV6 H.groups H.mld_report (reported_groups old old.mld_report) =
      subst (λ x. MayReportV6 H.groups x (reported_groups old old.mld_report)) s (may_report_v6 old old.mld_report came h) in
      let come : due.end ≤ℤ H.moment = subst (λ x. due.end ≤ℤ x) a.moment due.come in
      packet_sent a d (ap sent_frames t ∙ sent_frames-sends frames) (λ b. rw e (as_kept refl refl b)) (λ frame f. record {
        timeout = due.end;
        pending = pending;
        passed = come;
        groups = reported_groups old old.mld_report;
        asked_for = asked;
        sent = subst (λ own. IsOfPacket H (mld_report own ModeIsExclude (reported_groups old old.mld_report)) frame) a.addresses f;
      })

  -- turns of sockets
  offered_as : {K : Host} (s : Socket) (p : Packet) → SendsAs H K → packet_from K s ≡ Some p → packet_from H s ≡ Some p
  offered_as s p a e =
      subst (λ (w : Ways). option_and_then packet_of (offered_packet w.moment (source_for w.ip_addrs) s) ≡ Some p) (ways_same a) e

  served : {i : ℕ} {turn : Turn} {old new : Host} {told : List Event} {notes : List Note} → SendsAs H old →
      slice_get old.sockets.places i ≡ slice_get H.sockets.places i → Serves i turn old told notes new → Sends H (IsOfSocket H) told 1 new
  served a same (turns_rules.Free s t o n e) = none_sent 1 a e (ap sent_frames o)
  served a same (turns_rules.Waits s known h k p t o n e) = none_sent 1 a e (ap sent_frames o)
  served {i} {turn} {old} {new} {told} a same (turns_rules.Served s s' known mid h k p t e) = by t (λ b. rw e (as_kept refl refl b)) where
    by : {notes : List Note} → SocketTurn s turn s' old told notes mid → (SendsAs H mid → SendsAs H new) → Sends H (IsOfSocket H) told 1 new
    by (turns_rules.Silent q u o n f r) on = record { still = on (rw f a); why = rw o tt; few = rw o (lit≤ tt) }
    by (turns_rules.Refused q x u o n f r) on = record { still = on (rw f a); why = rw o tt; few = rw o (lit≤ tt) }
    by (turns_rules.Sent q outcome frames x d u o r) on =
        let here : slice_get H.sockets.places i ≡ Some (Some s) = sym same ∙ h in
        let offered = offered_as s q a x in
        packet_sent a d (ap sent_frames o ∙ sent_frames-sends frames) on
        (λ frame f. record { place = i; socket = s; here = here; packet = q; offered = offered; sent = f })

  sends_on : {mid new : Host} {Why : List ℕ → Type 0} {one two : List Event} {n m : ℕ} → Sends H Why one n mid → Sends H Why two m new →
      Sends H Why (one ++ two) (n + m) new
  sends_on {Why = Why} {one = one} {two = two} x y =
      let all = length-append (sent_frames one) (sent_frames two) in
      let few = x.few in
      let more = y.few in
      record {
        still = y.still;
        why = rw sent_frames-append (all_push Why (sent_frames one) (sent_frames two) x.why y.why);
        few = rw sent_frames-append (omega (arith, all, few, more));
      }

  walked : {old new : Host} {n : ℕ} {granted changed : Bool} {told : List Event} {notes : List Note} → SendsAs H old →
      old.sockets ≡ H.sockets → Walks old n granted changed told notes new → Sends H (IsOfSocket H) told n new
  walked a same turns_rules.Begins = none_sent 0 a refl refl
  walked a same (turns_rules.Goes {n = n} turn told notes _ w s t) =
      let x = walked a same w in
      sends_on x (served x.still (((untouched w).later n (omega arith)).place ∙ ap (λ s. slice_get s.places n) same) s)
  walked a same (turns_rules.Stops {n = n} turn told notes _ w s t) =
      let x = walked a same w in
      sends_on x (served x.still (((untouched w).later n (omega arith)).place ∙ ap (λ s. slice_get s.places n) same) s)

  -- a turn is that of an index
  turn_within : {i : ℕ} {turn : Turn} {old new : Host} {told : List Event} {notes : List Note} → Serves i turn old told notes new →
      i < length old.sockets.places
  turn_within {i} {old = old} (turns_rules.Free s t o n e) = slice_get_within old.sockets.places i None s
  turn_within {i} {old = old} (turns_rules.Waits s known h k p t o n e) = slice_get_within old.sockets.places i (Some s) h
  turn_within {i} {old = old} (turns_rules.Served s s' known mid h k p t e) = slice_get_within old.sockets.places i (Some s) h

  walk_within : {old new : Host} {n : ℕ} {granted changed : Bool} {told : List Event} {notes : List Note} →
      Walks old n granted changed told notes new → n ≤ length old.sockets.places
  walk_within turns_rules.Begins = omega arith
  walk_within (turns_rules.Goes {n = n} turn told notes _ w s t) =
      let less = turn_within s in let same = (untouched w).places in omega (arith, less, same)
  walk_within (turns_rules.Stops {n = n} turn told notes _ w s t) =
      let less = turn_within s in let same = (untouched w).places in omega (arith, less, same)

  at_most : {new : Host} {Why : List ℕ → Type 0} {told : List Event} {n m : ℕ} → n ≤ m → Sends H Why told n new → Sends H Why told m new
  at_most le x = let few = x.few in record { still = x.still; why = x.why; few = omega (arith, le, few) }

  sockets_sent : {old new : Host} {changed : Bool} {told : List Event} {notes : List Note} → SendsAs H old → old.sockets ≡ H.sockets →
      SocketEgress old changed told notes new → Sends H (IsOfSocket H) told (length H.sockets.places) new
  sockets_sent a same (turns_rules.Whole w) =
      let less = walk_within w in let e = ap (λ s. length s.places) same in at_most (omega (arith, less, e)) (walked a same w)
  sockets_sent a same (turns_rules.Stopped n w) =
      let less = walk_within w in let e = ap (λ s. length s.places) same in at_most (omega (arith, less, e)) (walked a same w)

-- a call that sends, by its parts
split : {told : List Event} {frames : List (List ℕ)} (one two : List Event) → told ≡ one ++ two → sent_frames two ≡ frames →
    sent_frames told ≡ sent_frames one ++ frames
split one two e f = ap sent_frames e ∙ sent_frames-append one two ∙ ap (λ fs. sent_frames one ++ fs) f

-- what holds of a whole call
pub record IsSending (t : ℤ) (old : Host) (told : List Event) (new : Host) : Type 0 where
  pub frames : SendsInOrder (at old t) (sent_frames told) new
  pub igmp_answer : IgmpGoesOn t old.igmp_report new.igmp_report
  pub mld_answer : MldGoesOn t old.mld_report new.mld_report
  pub groups : KeepsGroups old new

pub sends_in_order : (t : ℤ) (answer : PollResult) (old new : Host) (told : List Event) (notes : List Note) → Egress t answer old told notes new →
    IsSending t old told new
sends_in_order t answer old new told notes e =
    let H = at old t in
    let r1 = e.round in
    let r2 = r1.ends in
    let r3 = r2.ends in
    let r4 = r3.ends in
    let r5 = r4.ends in
    let r6 = r5.ends in
    let K1 = r1.mid in
    let K2 = r2.mid in
    let K3 = r3.mid in
    let K4 = r4.mid in
    let K5 = r5.mid in
    let K6 = r6.mid in
    let groups2 : K2.groups ≡ old.groups =
    routers_leave (λ (K : Host). K.groups) (λ H. refl) (λ H. refl) (λ H rest. refl) (λ H s. refl) r2.begins
    ∙ piece_leaves (λ (K : Host). K.groups) (λ H. refl) (λ H. refl) (λ H rest. refl) r1.begins in
    let groups7 : new.groups ≡ K4.groups =
    sockets_leave (λ (K : Host). K.groups) (λ H. refl) (λ H. refl) (λ H rest. refl) (λ H i s w. refl) r6.ends
    ∙ mld_leaves (λ (K : Host). K.groups) (λ H. refl) (λ H. refl) (λ H rest. refl) (λ H r. refl) r6.begins
    ∙ igmp_leaves (λ (K : Host). K.groups) (λ H. refl) (λ H. refl) (λ H rest. refl) (λ H r. refl) r5.begins in
    let igmp4 : K4.igmp_report ≡ old.igmp_report =
    reports_leave (λ (K : Host). K.igmp_report) (λ H. refl) (λ H. refl) (λ H rest. refl) (λ H gs. refl) r4.begins
    ∙ reports_leave (λ (K : Host). K.igmp_report) (λ H. refl) (λ H. refl) (λ H rest. refl) (λ H gs. refl) r3.begins
    ∙ routers_leave (λ (K : Host). K.igmp_report) (λ H. refl) (λ H. refl) (λ H rest. refl) (λ H s. refl) r2.begins
    ∙ piece_leaves (λ (K : Host). K.igmp_report) (λ H. refl) (λ H. refl) (λ H rest. refl) r1.begins in
    let igmp7 : new.igmp_report ≡ K5.igmp_report =
    sockets_leave (λ (K : Host). K.igmp_report) (λ H. refl) (λ H. refl) (λ H rest. refl) (λ H i s w. refl) r6.ends
    ∙ mld_leaves (λ (K : Host). K.igmp_report) (λ H. refl) (λ H. refl) (λ H rest. refl) (λ H r. refl) r6.begins in
    let mld5 : K5.mld_report ≡ old.mld_report =
    igmp_leaves (λ (K : Host). K.mld_report) (λ H. refl) (λ H. refl) (λ H rest. refl) (λ H r. refl) r5.begins
    ∙ reports_leave (λ (K : Host). K.mld_report) (λ H. refl) (λ H. refl) (λ H rest. refl) (λ H gs. refl) r4.begins
    ∙ reports_leave (λ (K : Host). K.mld_report) (λ H. refl) (λ H. refl) (λ H rest. refl) (λ H gs. refl) r3.begins
    ∙ routers_leave (λ (K : Host). K.mld_report) (λ H. refl) (λ H. refl) (λ H rest. refl) (λ H s. refl) r2.begins
    ∙ piece_leaves (λ (K : Host). K.mld_report) (λ H. refl) (λ H. refl) (λ H rest. refl) r1.begins in
    let mld7 : new.mld_report ≡ K6.mld_report =
    sockets_leave (λ (K : Host). K.mld_report) (λ H. refl) (λ H. refl) (λ H rest. refl) (λ H i s w. refl) r6.ends in
    let sockets6 : K6.sockets ≡ old.sockets =
    mld_leaves (λ (K : Host). K.sockets) (λ H. refl) (λ H. refl) (λ H rest. refl) (λ H r. refl) r6.begins
    ∙ igmp_leaves (λ (K : Host). K.sockets) (λ H. refl) (λ H. refl) (λ H rest. refl) (λ H r. refl) r5.begins
    ∙ reports_leave (λ (K : Host). K.sockets) (λ H. refl) (λ H. refl) (λ H rest. refl) (λ H gs. refl) r4.begins
    ∙ reports_leave (λ (K : Host). K.sockets) (λ H. refl) (λ H. refl) (λ H rest. refl) (λ H gs. refl) r3.begins
    ∙ routers_leave (λ (K : Host). K.sockets) (λ H. refl) (λ H. refl) (λ H rest. refl) (λ H s. refl) r2.begins
    ∙ piece_leaves (λ (K : Host). K.sockets) (λ H. refl) (λ H. refl) (λ H rest. refl) r1.begins in
    let s1 = piece_sent H r1.begins in
    let s2 = routers_solicited H s1.still (piece_leaves (λ (K : Host). K.slaac) (λ H. refl) (λ H. refl) (λ H rest. refl) r1.begins)
    (piece_leaves (λ (K : Host). K.slaac_enabled) (λ H. refl) (λ H. refl) (λ H rest. refl) r1.begins) r2.begins in
    let s3 = all_told H (was_before_joins old.groups Joining (λ x. absurd cc)) s2.still (rw groups2 (was_itself old.groups Joining)) r3.begins in
    let leaving : AllByRecursion (Was old.groups Leaving) K3.groups =
    reports_carry (λ gs hs. AllByRecursion (Was old.groups Leaving) gs → AllByRecursion (Was old.groups Leaving) hs) (λ gs all. all)
    (λ gs hs a f all. was_before_joins old.groups Leaving (λ x. absurd cc) hs a (f all)) r3.begins (rw groups2 (was_itself old.groups Leaving)) in
    let s4 = all_told H (was_before_leaves old.groups Leaving) s3.still leaving r4.begins in
    let stay4 : Stay old.groups K4.groups =
    stay_then (subst (λ gs. Stay gs K3.groups) groups2 (reports_carry Stay stay_themselves (λ gs hs a x. stay_then x (stay_at_join hs a)) r3.begins))
    (reports_carry Stay stay_themselves (λ gs hs a x. stay_then x (stay_at_leave hs a)) r4.begins) in
    let stay : Stay old.groups new.groups = subst (Stay old.groups) (sym groups7) stay4 in
    let came4 : AllByRecursion (Came old.groups) K4.groups =
    reports_carry (λ gs hs. AllByRecursion (Came old.groups) gs → AllByRecursion (Came old.groups) hs) (λ gs all. all)
    (λ gs hs a f all. came_by_leave old.groups hs a (f all)) r4.begins
    (reports_carry (λ gs hs. AllByRecursion (Came old.groups) gs → AllByRecursion (Came old.groups) hs) (λ gs all. all)
    (λ gs hs a f all. came_by_join old.groups hs a (f all)) r3.begins (rw groups2 (came_itself old.groups))) in
    let groups5 : K5.groups ≡ K4.groups =
    igmp_leaves (λ (K : Host). K.groups) (λ H. refl) (λ H. refl) (λ H rest. refl) (λ H r. refl) r5.begins in
    let s5 = igmp_sent H s4.still igmp4 came4 r5.begins in
    let s6 = mld_sent H s5.still mld5 (rw groups5 came4) r6.begins in
    let s7 = sockets_sent H s6.still sockets6 r6.ends in
    let fewer_joins : count_in Joining K4.groups ≤ count_in Joining K3.groups =
    reports_carry (λ gs hs. count_in Joining hs ≤ count_in Joining gs) (λ gs. omega arith)
    (λ gs hs a le. let less = fewer_after_leave Joining hs a in omega (arith, le, less)) r4.begins in
    let fewer_leaves : count_in Leaving K3.groups ≤ count_in Leaving K2.groups =
    reports_carry (λ gs hs. count_in Leaving hs ≤ count_in Leaving gs) (λ gs. omega arith)
    (λ gs hs a le. let less = fewer_after_join Leaving refl hs a in omega (arith, le, less)) r3.begins in
    record {
      frames = record {
        fragment = sent_frames r1.told_one;
        solicitation = sent_frames r2.told_one;
        joins = sent_frames r3.told_one;
        leaves = sent_frames r4.told_one;
        answer = sent_frames r5.told_one;
        answer_v6 = sent_frames r6.told_one;
        packets = sent_frames r6.told_two;
        all = split r1.told_one r1.told_two r1.events (split r2.told_one r2.told_two r2.events (split r3.told_one r3.told_two r3.events
            (split r4.told_one r4.told_two r4.events (split r5.told_one r5.told_two r5.events (split r6.told_one r6.told_two r6.events refl)))));
        fragment_is = s1.why;
        solicitation_is = s2.why;
        joins_are = s3.why;
        leaves_are = s4.why;
        answer_is = s5.why;
        answer_v6_is = s6.why;
        packets_are = s7.why;
        one_fragment = s1.few;
        one_solicitation = s2.few;
        joins_once = λ distinct.
            let once = (joins_told_once (rw groups2 distinct) r3.begins).few in
            let a = ap (count_in Joining) groups2 in
            let b = ap (count_in Joining) groups7 in
            omega (arith, once, fewer_joins, a, b);
        leaves_once = λ distinct.
            let once = (leaves_told_once (joins_told_once (rw groups2 distinct) r3.begins).distinct r4.begins).few in
            let a = ap (count_in Leaving) groups2 in
            let b = ap (count_in Leaving) groups7 in
            omega (arith, once, fewer_leaves, a, b);
        one_answer = s5.few;
        one_answer_v6 = s6.few;
        one_each = s7.few;
      };
      igmp_answer = rw (igmp7, ← igmp4, ← s4.still.moment) (igmp_goes r5.begins);
      mld_answer = rw (mld7, ← mld5, ← s5.still.moment) (mld_goes r6.begins);
      groups = record { joined = stay.joined; joining = stay.joining; no_other = stay.no_other; joins = stay.joins; leaves = stay.leaves };
    }

-- receiving begins no silence
silence_kept : (H : Host) (r : Reception) (reply : Option Reply) (notes : List Note) (new : Host) → Takes H r reply notes new →
    new.neighbors.silent_until ≡ H.neighbors.silent_until
silence_kept H r reply notes new t =
    taken (λ old fs ns after. after.neighbors.silent_until ≡ old.neighbors.silent_until) (λ old after k. ap (λ (K : Host). K.neighbors.silent_until)
    k.same)
    (λ a b c fs gs xs ys one two. two ∙ one) (λ L key f result ns after x. ap (λ (K : Host). K.neighbors.silent_until) x.changed) H r reply notes new t

-- the host that replies
as_replying : {t : ℤ} {answer : PollIngressSingleResult} {old new : Host} {told : List Event} {notes : List Note}
    (i : Ingress t answer old told notes new) → SendsAs (replying t old new) i.response.taken
as_replying {t} {answer} {old} {new} i =
    let c = i.response in
    let l = reception_lists (without_expired old t) i.reception c.reply c.notes_taking c.taken c.takes in
    let r = response_settled c.reply c.taken i.frames c.notes_responding new c.responds in
    record {
      capabilities = ap (λ (x : Lists). x.capabilities) l;
      hardware_address = ap (λ (x : Lists). x.hardware_addr) l;
      moment = ap (λ (x : Lists). x.moment) l;
      addresses = ap (λ (x : Lists). x.ip_addrs) l;
      routes = ap (λ (x : Lists). x.routes) l;
      neighbors = sym (ap (λ (s : Settings). s.known) r);
      silence = inl (silence_kept (without_expired old t) i.reception c.reply c.notes_taking c.taken c.takes);
    }

-- an ARP packet in reply
arp_own : {H : Host} {frame : List ℕ} {reply : Option Reply} {r : ArpRepr} → Origin H frame reply → reply ≡ Some (Arp r) →
    (own : EthernetAddress) × (H.hardware_addr ≡ hardware.Ethernet own)
arp_own (Silent e) is = absurd cc
arp_own (ByArp own s on e a) is = (own, on)
arp_own (ByAdvertisement own q message on e p a) is = absurd cc
arp_own (ByEcho q ident seq_no octets e p s answers) is = absurd cc
arp_own (ByError q message octets e p c) is = absurd cc
arp_own (ByEchoV6 q ident seq_no octets e p s answers) is = absurd cc
arp_own (ByErrorV6 q message octets e p few c s) is = absurd cc
arp_own (BySegment q header e p c) is = absurd cc

arp_sent : {t : ℤ} {answer : PollIngressSingleResult} {old new : Host} {told : List Event} {notes : List Note}
    (i : Ingress t answer old told notes new) (r : ArpRepr) → i.response.reply ≡ Some (Arp r) → IsOfReply t i.response.reply old told new (arp_frame r)
arp_sent {t} {answer} {old} {new} {told} {notes} i r is = by i.reception refl i.response.takes where
  by : (x : Reception) → i.reception ≡ x → Takes (without_expired old t) x i.response.reply i.response.notes_taking i.response.taken →
      IsOfReply t i.response.reply old told new (arp_frame r)
  by Nothing e d = let bad : None ≡ Some (Arp r) = sym d.silent ∙ is in absurd cc
  by Withheld e d = let bad : None ≡ Some (Arp r) = sym d.silent ∙ is in absurd cc
  by (Frame []) e d = let bad : None ≡ Some (Arp r) = sym d.silent ∙ is in absurd cc
  by (Frame (octet ∷ octets)) e p =
      let took : handed_frames told ≡ (octet ∷ octets) ∷ [] =
      ap handed_frames i.events ∙ ap (λ x. handed_frames (Received t x ∷ sends i.frames)) e
      ∙ ap (λ fs. (octet ∷ octets) ∷ fs) (handed_frames-sends i.frames) in
      let w : Receives t (octet ∷ octets) old told notes new = record { answer = answer; call = i; took = took } in
      let mine = arp_own (reply_origin w) is in
      law.OfArp mine.0 (octet ∷ octets) r mine.1 took is (arp_told t (octet ∷ octets) old new told notes w mine.0 r mine.1 is) refl

-- each frame of a call that receives
pub ingress_frames : (t : ℤ) (answer : PollIngressSingleResult) (old new : Host) (told : List Event) (notes : List Note) →
    (i : Ingress t answer old told notes new) → AllByRecursion (IsOfReply t i.response.reply old told new) (sent_frames told)
ingress_frames t answer old new told notes i =
    subst (AllByRecursion (IsOfReply t i.response.reply old told new)) (sym (ap sent_frames i.events ∙ sent_frames-sends i.frames))
    (by i.response.reply refl i.response.responds) where
      by : (reply : Option Reply) → i.response.reply ≡ reply → Responds reply i.response.taken i.frames i.response.notes_responding new →
          AllByRecursion (IsOfReply t i.response.reply old told new) i.frames
      by None e r = rw r.0 tt
      by (Some (Arp packet)) e r = rw r.0 (arp_sent i packet e, tt)
      by (Some (Ip packet)) e r = all_by i.frames (λ frame f. law.OfIp packet e f) (of_packets i.frames (as_replying i) r.1)
