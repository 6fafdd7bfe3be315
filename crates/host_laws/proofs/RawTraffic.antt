-- What raw sockets get at one step, and what it sends besides.
use Rattle.std.proofs.Common.{inl, inr, ◌≡◌, ℕ, Bool, true, false, List, [], ◌∷◌, ◌++◌, refl, sym, ◌∙◌, ap, subst}
use Rattle.std.proofs.Common.{Option, Some, None, option_map, option_and_then, if◌then◌else◌}
use Rattle.std.specs.Prelude.{ℤ, ◌⊎◌}
use Rattle.std.specs.List.{AllByRecursion}
use Rattle.std.proofs.lemmas.List.{append-nil}
use Rattle.net_base.specs.Checksum.{is_tx}
use Rattle.net_base.specs.Device.{Event, Received, handed_frames, sent_frames}
use Rattle.net_base.specs.declared.phy.DeviceCapabilities.{DeviceCapabilities}
use Rattle.ip_address.specs.declared.protocol.IpVersion.{IpVersion}
use Rattle.ip_address.specs.declared.protocol.IpVersion.TheVariants as version
use Rattle.ip_address.specs.Protocol.{number_of}
use Rattle.ip_wire.specs.declared.ip_packet.IpRepr.{IpRepr}
use Rattle.ip_wire.specs.IpPacket.{next_header, version_of}
use Rattle.sockets.specs.Queue.{Queued}
use Rattle.sockets.specs.Raw.{RawSocket, accepts, socket_after_delivery}
use Rattle.iface_tables.specs.Slaac.{sync_required}
use Rattle.sockets.specs.Kinds.{down_tcp}
use Rattle.sockets.specs.declared.socket.SocketOf.TheVariants.{Raw, Icmp, Udp, Tcp}
use Rattle.host_machine.specs.declared.command.Command.{Command}
use Rattle.host_machine.specs.declared.command.Answer.{Answer}
use Rattle.host_machine.specs.declared.results.PollIngressSingleResult.{PollIngressSingleResult}
use Rattle.host_machine.specs.declared.results.PollResult.{PollResult}
use Rattle.host_machine.specs.Context.Note.{Note, slot_notes}
use Rattle.host_machine.specs.Context.Host.{Host, Socket, SocketSet, at, without_expired}
use Rattle.host_machine.specs.Receive.Reply.{Reply, Arp, Ip}
use Rattle.host_machine.specs.Receive.Response.{Responds}
use Rattle.host_machine.specs.Packet.Frame.{arp_frame, sends}
use Rattle.host_machine.specs.Packet.Packet.{payload_of}
use Rattle.host_machine.specs.Interface.Parts.{Part}
use Rattle.host_machine.specs.Context.Autoconfiguration.{with_slaac_applied}
use Rattle.host_machine.specs.Interface.Egress.{Egress}
use Rattle.host_machine.specs.Multicast.Joins.{JoinsGroup, LeavesGroup, NoGroup, NoPlace, JoinTaken, NoGroupEither, LeaveTaken}
use Rattle.host_machine.specs.Interface.Ingress.{Ingress}
use Rattle.host_machine.specs.Interface.Polling.{Polls, after_maintenance}
use Rattle.host_machine.specs.Interface.Step.{Act, Step, Accepted, Refused, Taken, NotTaken, WithinDay, OverDay}
use Rattle.host_machine.specs.Interface.Step as step
use Rattle.host_machine.specs.Context.Real.{IsReal, IsRegular}
use Rattle.host_laws.proofs.Context.NotesBySubject.{slot_notes-append}
use Rattle.host_laws.proofs.Interface.PollCalls.{until}
use Rattle.host_laws.proofs.Receive.Malformed.{handed_frames-received, handed_frames-sends, sent_frames-sends}
use Rattle.host_laws.proofs.Receive.SlotEffects.{egress_hands_none, egress_still, handed_frames-append}
use Rattle.host_laws.proofs.Runs.SentPieces.{GoodReply, takes_good, takes_real}
use Rattle.host_laws.proofs.Runs.Walk.{sent_frames-append}
use Rattle.host_laws.specs.Datagrams.{host_at_command}
use Rattle.host_laws.specs.RawArrivals.{RawArrival, Arrive, NoFrame, raw_at, receiver_at, socket_after_arrival, with_arrivals}
use Rattle.host_laws.specs.RawPackets.{HasRaw, HasNoSegmentAfterOptions, LeavesSegments, LosesFront, TakesSegments, tcp_at}
use Rattle.host_laws.proofs.Accounts.{Follows, follows, taken_left}
use Rattle.host_laws.proofs.DatagramOrigin.{all_parted}
use Rattle.host_laws.proofs.IngressDeliveries.{responded}
use Rattle.host_laws.proofs.FramesWithoutUdp.{arp_at_most}
use Rattle.host_laws.proofs.Unspoken.{Unspoken}
use Rattle.host_laws.proofs.RawHandover.{Speaker, ByRaw, ByTcp, changed, no_tcp, raw_is, raw_of, same, speaker, speaker_at}
use Rattle.host_laws.proofs.RawReception.{Receives, after_arrivals, ingress_received, received_none, received_on, took_received}
use Rattle.host_laws.proofs.RawReplies.{IsNoSegment, no_tcp_after, takes_no_segment}
use Rattle.host_laws.proofs.RawSending.{Moves, Sends, Speaks, all_before, moves_none, moves_on, other_sends, own_other}
use Rattle.host_laws.proofs.RawTurns.{Sending, SendsPart, begins, egress_sends, receivers, sending_on, sends_on}
use Rattle.host_laws.proofs.RegularHosts.{step_follows}
use Rattle.host_laws.proofs.StepTraffic.{HandsNone, hands_on, join_same, leave_same, maintained_at, maintained_follows, maintained_sockets}

-- what is kept of a host that leaves segments to raw sockets
none_tcp : (o : Option Socket) → (option_and_then speaker o ≡ Some ByTcp → ⊥) → option_and_then down_tcp o ≡ None
none_tcp None u = refl
none_tcp (Some (Raw s)) u = refl
none_tcp (Some (Icmp s)) u = refl
none_tcp (Some (Udp s)) u = refl
none_tcp (Some (Tcp s)) u = absurd (u refl)

socket_on : (o : Option Speaker) (f : RawSocket → RawSocket) (s : RawSocket) → option_and_then raw_of o ≡ Some s →
    option_and_then raw_of (option_map (changed f) o) ≡ Some (f s)
socket_on None f s e = absurd cc
socket_on (Some (ByRaw t)) f s e = let is : t ≡ s = cc in ap (λ x. Some (f x)) is
socket_on (Some ByTcp) f s e = absurd cc

has_raw_on : {v : IpVersion} {n : ℕ} (old new : SocketSet) → Moves old new → HasRaw v n old → HasRaw v n new
has_raw_on old new m h = record {
  index = h.index;
  socket = m.change h.index h.socket;
  there = raw_is new h.index ∙ ap (option_and_then raw_of) (m.speakers h.index)
      ∙ socket_on (speaker_at old h.index) (m.change h.index) h.socket (sym (raw_is old h.index) ∙ h.there);
  version_is = m.version h.index h.socket ∙ h.version_is;
  protocol_is = ap number_of (m.protocol h.index h.socket) ∙ h.protocol_is;
}

none_before : {X : Type 0} (xs ys : List X) → xs ++ ys ≡ [] → (xs ≡ []) × (ys ≡ [])
none_before [] ys e = (refl, e)
none_before (x ∷ xs) ys e = absurd cc

takes_on : {old new : Host} (fs gs : List (List ℕ)) → Moves old.sockets new.sockets → new.hardware_addr ≡ old.hardware_addr →
    TakesSegments old (fs ++ gs) → TakesSegments old fs × TakesSegments new gs
takes_on {old} {new} fs gs m h t = (
  record { over_ipv4 = t.over_ipv4; over_ipv6 = t.over_ipv6; after_options = first t.after_options },
  record {
    over_ipv4 = has_raw_on old.sockets new.sockets m t.over_ipv4;
    over_ipv6 = has_raw_on old.sockets new.sockets m t.over_ipv6;
    after_options = second t.after_options;
  },
) where
  first : HasRaw version.Ipv6 0 old.sockets ⊎ AllByRecursion (HasNoSegmentAfterOptions old.hardware_addr) (fs ++ gs) →
      HasRaw version.Ipv6 0 old.sockets ⊎ AllByRecursion (HasNoSegmentAfterOptions old.hardware_addr) fs
  first (inl raw) = inl raw
  first (inr all) = inr (all_parted (HasNoSegmentAfterOptions old.hardware_addr) fs gs all).0

  second : HasRaw version.Ipv6 0 old.sockets ⊎ AllByRecursion (HasNoSegmentAfterOptions old.hardware_addr) (fs ++ gs) →
      HasRaw version.Ipv6 0 new.sockets ⊎ AllByRecursion (HasNoSegmentAfterOptions new.hardware_addr) gs
  second (inl raw) = inl (has_raw_on old.sockets new.sockets m raw)
  second (inr all) = inr (subst (λ a. AllByRecursion (HasNoSegmentAfterOptions a) gs) (sym h)
      (all_parted (HasNoSegmentAfterOptions old.hardware_addr) fs gs all).1)

leaves_on : {old new : Host} (fs gs : List (List ℕ)) → Moves old.sockets new.sockets → new.hardware_addr ≡ old.hardware_addr →
    LeavesSegments old (fs ++ gs) → LeavesSegments old fs × LeavesSegments new gs
leaves_on {old} {new} fs gs m h l = by l.taken where
  still_none : (i : ℕ) → tcp_at new.sockets i ≡ None
  still_none i = none_tcp _ (no_tcp_after old.sockets new.sockets m.change m.speakers (λ j. no_tcp old.sockets j (l.no_socket j)) i)

  by : (fs ++ gs ≡ []) ⊎ TakesSegments old (fs ++ gs) → LeavesSegments old fs × LeavesSegments new gs
  by (inl none) = let e = none_before fs gs none in
      (record { no_socket = l.no_socket; taken = inl e.0 }, record { no_socket = still_none; taken = inl e.1 })
  by (inr t) = let x = takes_on fs gs m h t in
      (record { no_socket = l.no_socket; taken = inr x.0 }, record { no_socket = still_none; taken = inr x.1 })

-- what part of a call, whatever it takes, sends
pub record Traffic (u : Unspoken) (old : Host) (told : List Event) (new : Host) : Type 0 where
  pub moves : Moves old.sockets new.sockets
  pub hardware : new.hardware_addr ≡ old.hardware_addr
  pub sends_so : IsRegular old → AllByRecursion u.Part old.left → (u.Segments → LeavesSegments old (handed_frames told)) →
      Sends u old (sent_frames told) new

abbrev TrafficPart : Unspoken → Part
TrafficPart u old told notes new = Traffic u old told new

traffic_on : (u : Unspoken) (a b c : Host) (ts us : List Event) (xs ys : List Note) →
    TrafficPart u a ts xs b → TrafficPart u b us ys c → TrafficPart u a (ts ++ us) (xs ++ ys) c
traffic_on u a b c ts us xs ys x y = record {
  moves = moves_on x.moves y.moves;
  hardware = y.hardware ∙ x.hardware;
  sends_so = λ r all leaves.
      let parted : u.Segments → LeavesSegments a (handed_frames ts) × LeavesSegments b (handed_frames us) =
      λ six. leaves_on (handed_frames ts) (handed_frames us) x.moves x.hardware
      (subst (LeavesSegments a) (handed_frames-append ts us) (leaves six)) in
      let one = x.sends_so r all (λ six. (parted six).0) in
      rw sent_frames-append (sends_on x.moves y.moves one (y.sends_so one.regular one.pending (λ six. (parted six).1)));
}

-- a call that sends
sending_traffic : (u : Unspoken) (old : Host) (told : List Event) (new : Host) → Sending u old told new → Traffic u old told new
sending_traffic u old told new s = record {
  moves = s.moves;
  hardware = s.hardware;
  sends_so = λ r all leaves. s.sends_so (record {
    regular = r;
    pending = all;
    no_tcp = λ six i. no_tcp old.sockets i ((leaves six).no_socket i);
  });
}

-- packets that arrive leave what there is to send, the version and the protocol
module _ {A : Type 0} (f : RawSocket → A) (summed : Bool)
    (same : (header : IpRepr) (payload : List ℕ) (s : RawSocket) → f (socket_after_delivery summed header payload s) ≡ f s) where
  arrival_leaves : (a : RawArrival) (s : RawSocket) → f (socket_after_arrival summed a s) ≡ f s
  arrival_leaves a s = by (accepts s (version_of a.header) (next_header a.header)) where
    by : (b : Bool) → f (if b then socket_after_delivery summed a.header a.payload s else s) ≡ f s
    by true = same a.header a.payload s
    by false = refl

  arrivals_leave : (cs : List RawArrival) (s : RawSocket) → f (with_arrivals summed cs s) ≡ f s
  arrivals_leave [] s = refl
  arrivals_leave (c ∷ cs) s = arrivals_leave cs (socket_after_arrival summed c s) ∙ arrival_leaves c s

arrivals_move : (summed : Bool) (cs : List RawArrival) (old new : SocketSet) →
    ((i : ℕ) → speaker_at new i ≡ option_map (changed (with_arrivals summed cs)) (speaker_at old i)) → Moves old new
arrivals_move summed cs old new e = record {
  change = λ i. with_arrivals summed cs;
  speakers = e;
  version = λ i s. arrivals_leave (λ (x : RawSocket). x.version) summed (λ header payload s. refl) cs s;
  protocol = λ i s. arrivals_leave (λ (x : RawSocket). x.protocol) summed (λ header payload s. refl) cs s;
  queue = λ i s. ([], ap (λ (q : Queued (Unit {0})). q.packets) (arrivals_leave (λ (x : RawSocket). x.tx) summed (λ header payload s. refl) cs s));
}

-- a reply
reply_sends : (u : Unspoken) → (reply : Option Reply) (H : Host) (frames : List (List ℕ)) (notes : List Note) (new : Host) →
    GoodReply H.capabilities.medium reply → (u.Segments → IsNoSegment reply) → Responds reply H frames notes new →
    IsRegular H → AllByRecursion u.Part H.left → Sends u H frames new
reply_sends u None H frames notes new good none r regular all = rw (r.0, r.2) (record { all = tt; same = refl; regular = regular; pending = all })
reply_sends u (Some (Arp packet)) H frames notes new good none r regular all = rw (r.0, r.2) (record {
  all = (inl (u.at_most_holds H.capabilities.medium (arp_frame packet) (arp_at_most H.capabilities.medium packet good.0 good.1)), tt);
  same = refl;
  regular = regular;
  pending = all;
})
reply_sends u (Some (Ip packet)) H frames notes new good none r regular all =
    other_sends u (own_other (payload_of packet) good none) r.1 regular all

-- a call that takes a frame
leaves_at : {old : Host} {frames : List (List ℕ)} (t : ℤ) → LeavesSegments old frames → LeavesSegments (without_expired old t) frames
leaves_at {old} {frames} t l = record { no_socket = l.no_socket; taken = by l.taken } where
  by : (frames ≡ []) ⊎ TakesSegments old frames → (frames ≡ []) ⊎ TakesSegments (without_expired old t) frames
  by (inl none) = inl none
  by (inr x) = inr (record { over_ipv4 = x.over_ipv4; over_ipv6 = x.over_ipv6; after_options = x.after_options })

ingress_traffic : (u : Unspoken) → (t : ℤ) (answer : PollIngressSingleResult) (old new : Host) (told : List Event) (notes : List Note) →
    Ingress t answer old told notes new → TrafficPart u old told notes new
ingress_traffic u t answer old new told notes i =
    let r = i.response in
    let H : Host = without_expired old t in
    let x = took_received H H i.reception r.reply r.notes_taking r.taken t r.takes refl in
    let moves : Moves old.sockets r.taken.sockets = arrivals_move _ x.arrivals old.sockets r.taken.sockets x.speakers in
    let v = responded r.reply r.taken i.frames r.notes_responding new r.responds in
    let frames : sent_frames told ≡ i.frames = ap sent_frames i.events ∙ sent_frames-sends i.frames in
    let handed : handed_frames told ≡ handed_frames (Received t i.reception ∷ []) =
    ap handed_frames i.events ∙ handed_frames-received t i.reception (sends i.frames) (handed_frames-sends i.frames) in
    record {
      moves = moves_on moves (moves_none (λ j. ap (λ s. speaker_at s j) v.sockets_are));
      hardware = ap (λ (K : Host). K.hardware_addr) v.seen_is ∙ ap (λ (K : Host). K.hardware_addr) x.seen_is;
      sends_so = λ regular all leaves.
          let began : IsReal H = record { own = regular.real.own; neighbors = regular.real.neighbors } in
          let shown = takes_real H i.reception r.reply r.notes_taking r.taken r.takes began in
          let good = takes_good H i.reception r.reply r.notes_taking r.taken began r.takes in
          let same : r.taken.capabilities ≡ old.capabilities = shown.same in
          let rest : r.taken.left ≡ old.left = taken_left H i.reception r.reply r.notes_taking r.taken r.takes in
          let f = follows old r.taken same rest shown.real regular in
          let y = reply_sends u r.reply r.taken i.frames r.notes_responding new
          (subst (λ (d : DeviceCapabilities). GoodReply d.medium r.reply) (sym same) good)
          (λ six. takes_no_segment H i.reception r.reply r.notes_taking r.taken t
          (leaves_at t (subst (LeavesSegments old) handed (leaves six))) r.takes) r.responds f.regular (rw rest all) in
          rw frames (record {
            all = all_before u old.capabilities.medium old.sockets r.taken.sockets new.sockets i.frames moves
                (subst (λ (d : DeviceCapabilities). AllByRecursion (Speaks u d.medium r.taken.sockets new.sockets) i.frames) same y.all);
            same = y.same ∙ same;
            regular = y.regular;
            pending = y.pending;
          });
    }

-- a maintained host
record Maintained (H K : Host) : Type 0 where
  sockets : K.sockets ≡ H.sockets
  capabilities : K.capabilities ≡ H.capabilities
  hardware : K.hardware_addr ≡ H.hardware_addr
  left : K.left ≡ H.left

maintained : (H : Host) (t : ℤ) → Maintained H (after_maintenance (at H t))
maintained H t = by (sync_required H.slaac t) where
  by : (b : Bool) → Maintained H (if b then with_slaac_applied (without_expired H t) else without_expired H t)
  by true = record { sockets = refl; capabilities = refl; hardware = refl; left = refl }
  by false = record { sockets = refl; capabilities = refl; hardware = refl; left = refl }

nothing_moves : (u : Unspoken) (H : Host) → TrafficPart u H [] [] H
nothing_moves u H = record {
  moves = moves_none (λ j. refl);
  hardware = refl;
  sends_so = λ r all leaves. record { all = tt; same = refl; regular = r; pending = all };
}

-- a poll
poll_sends : (u : Unspoken) → (t : ℤ) (budget : ℕ) (answer : PollResult) (old new : Host) (told : List Event) (notes : List Note) →
    Polls t budget answer old told notes new → IsRegular old → AllByRecursion u.Part old.left →
    (u.Segments → LeavesSegments old (handed_frames told)) → Sends u old (sent_frames told) new
poll_sends u t budget answer old new told notes p regular all leaves =
    let B : Host = after_maintenance (at old t) in
    let m = maintained old t in
    let f = maintained_follows old t regular in
    let received = until (TrafficPart u) (nothing_moves u) (traffic_on u)
    (λ answer old new told notes i. ingress_traffic u t answer old new told notes i) p.receives in
    let sent = until (TrafficPart u) (nothing_moves u) (traffic_on u)
    (λ answer old new told notes e. sending_traffic u old told new (egress_sends u t answer old new told notes e)) p.sends in
    let whole : Traffic u B told new = rw p.events
    (traffic_on u B p.mid new p.told_receiving p.told_sending p.notes_receiving p.notes_sending received sent) in
    let began : Moves old.sockets B.sockets = moves_none (λ j. ap (λ s. speaker_at s j) m.sockets) in
    let x = whole.sends_so f.regular (rw m.left all) (λ six. (leaves_on {old = old} {new = B} [] (handed_frames told) began m.hardware (leaves six)).1) in
    record {
      all = all_before u old.capabilities.medium old.sockets B.sockets new.sockets (sent_frames told) began
          (subst (λ (d : DeviceCapabilities). AllByRecursion (Speaks u d.medium B.sockets new.sockets) (sent_frames told)) m.capabilities x.all);
      same = x.same ∙ m.capabilities;
      regular = x.regular;
      pending = x.pending;
    }

-- every step
quiet_step : (u : Unspoken) (old new : Host) → new.left ≡ old.left → Follows old new → AllByRecursion u.Part old.left → Sends u old [] new
quiet_step u old new e f all = record { all = tt; same = f.same; regular = f.regular; pending = rw e all }

join_left : {group : _} {answer : _} {old new : Host} → JoinsGroup group answer old new → new.left ≡ old.left
join_left (NoGroup m r e) = ap (λ (K : Host). K.left) e
join_left (NoPlace m f r e) = ap (λ (K : Host). K.left) e
join_left (JoinTaken m f r e) = ap (λ (K : Host). K.left) e

leave_left : {group : _} {answer : _} {old new : Host} → LeavesGroup group answer old new → new.left ≡ old.left
leave_left (NoGroupEither m r e) = ap (λ (K : Host). K.left) e
leave_left (LeaveTaken m r e) = ap (λ (K : Host). K.left) e

pub step_sends : (u : Unspoken) → {c : Command} {answer : Answer} {old new : Host} {told : List Event} {acts : List Act} {notes : List Note} →
    Step c answer old told acts notes new → IsRegular old → AllByRecursion u.Part old.left →
    (u.Segments → LeavesSegments old (handed_frames told)) → Sends u old (sent_frames told) new
step_sends u {old = old} {new = new} (step.UpdatedIpAddrs {list = list} (Accepted a o e)) r all leaves =
    quiet_step u old new (ap (λ (K : Host). K.left) e) (step_follows (step.UpdatedIpAddrs {list = list} (Accepted a o e)) r) all
step_sends u {old = old} {new = new} (step.UpdatedIpAddrs {list = list} (Refused a o e)) r all leaves =
    quiet_step u old new (ap (λ (K : Host). K.left) e) (step_follows (step.UpdatedIpAddrs {list = list} (Refused a o e)) r) all
step_sends u (step.PolledIngressSingle i) r all leaves = (ingress_traffic u _ _ _ _ _ _ i).sends_so r all leaves
step_sends u {old = old} {new = new} {told = told} (step.PolledEgress e) r all leaves =
    (sending_traffic u old told new (egress_sends u _ _ old new told _ e)).sends_so r all leaves
step_sends u (step.Polled p) r all leaves = poll_sends u _ _ _ _ _ _ _ p r all leaves
step_sends u {new = new} (step.PolledMaintenance {t} {old}) r all leaves =
    quiet_step u old (after_maintenance (at old t)) (maintained old t).left (maintained_follows old t r) all
step_sends u {old = old} {new = new} (step.JoinedGroup j) r all leaves = quiet_step u old new (join_left j) (step_follows (step.JoinedGroup j) r) all
step_sends u {old = old} {new = new} (step.LeftGroup j) r all leaves = quiet_step u old new (leave_left j) (step_follows (step.LeftGroup j) r) all
step_sends u {old = old} {new = new} (step.TookHardwareAddr (Taken a of o e)) r all leaves =
    quiet_step u old new (ap (λ (K : Host). K.left) e) (step_follows (step.TookHardwareAddr (Taken a of o e)) r) all
step_sends u {old = old} {new = new} (step.TookHardwareAddr (NotTaken error a o e)) r all leaves =
    quiet_step u old new (ap (λ (K : Host). K.left) e) (step_follows (step.TookHardwareAddr (NotTaken error a o e)) r) all
step_sends u {old = old} {new = new} (step.TookReassemblyTimeout (WithinDay l o e)) r all leaves =
    quiet_step u old new (ap (λ (K : Host). K.left) e) (step_follows (step.TookReassemblyTimeout (WithinDay l o e)) r) all
step_sends u {old = old} {new = new} (step.TookReassemblyTimeout (OverDay l o e)) r all leaves =
    quiet_step u old new (ap (λ (K : Host). K.left) e) (step_follows (step.TookReassemblyTimeout (OverDay l o e)) r) all
step_sends u {old = old} {new = new} other r all leaves = quiet_step u old new refl (step_follows other r) all

-- What raw sockets get

mapped_none : (summed : Bool) (o : Option RawSocket) → o ≡ option_map (with_arrivals summed []) o
mapped_none summed None = refl
mapped_none summed (Some s) = refl

pub record Gets (B old : Host) (told : List Event) (acts : List Act) (notes : List Note) (new : Host) : Type 0 where
  pub moves : acts ≡ [] → Moves old.sockets new.sockets
  pub arrivals : List RawArrival
  pub came : Arrive B (handed_frames told) (slot_notes notes) arrivals
  pub queues : acts ≡ [] → (i : ℕ) → receiver_at new.sockets i
      ≡ option_map (with_arrivals (is_tx old.capabilities.checksum.ipv4) arrivals) (receiver_at old.sockets i)

nothing_gets : (B old new : Host) (acts : List Act) → (acts ≡ [] → new.sockets ≡ old.sockets) → Gets B old [] acts [] new
nothing_gets B old new acts e = record {
  moves = λ none. moves_none (λ i. ap (λ s. speaker_at s i) (e none));
  arrivals = [];
  came = NoFrame;
  queues = λ none i. ap (λ s. receiver_at s i) (e none) ∙ mapped_none (is_tx old.capabilities.checksum.ipv4) (receiver_at old.sockets i);
}

received_queues : (summed : Bool) (cs : List RawArrival) (old new : SocketSet) →
    ((i : ℕ) → speaker_at new i ≡ option_map (changed (with_arrivals summed cs)) (speaker_at old i)) → (i : ℕ) →
    receiver_at new i ≡ option_map (with_arrivals summed cs) (receiver_at old i)
received_queues summed cs old new e i = receivers old new i (with_arrivals summed cs) (with_arrivals summed cs) (e i) (after_arrivals summed cs)

ingress_gets : (t : ℤ) (answer : PollIngressSingleResult) (old new : Host) (told : List Event) (notes : List Note) →
    Ingress t answer old told notes new → Gets (without_expired old t) old told [] notes new
ingress_gets t answer old new told notes i =
    let g = ingress_received (without_expired old t) t answer old new told notes i refl in record {
      moves = λ none. arrivals_move _ g.arrivals old.sockets new.sockets g.speakers;
      arrivals = g.arrivals;
      came = g.came;
      queues = λ none j. received_queues _ g.arrivals old.sockets new.sockets g.speakers j;
    }

egress_gets : (u : Unspoken) → (t : ℤ) (answer : PollResult) (old new : Host) (told : List Event) (notes : List Note) →
    Egress t answer old told notes new → Gets (at old t) old told [] notes new
egress_gets u t answer old new told notes e =
    let x = egress_sends u t answer old new told notes e in
    record {
      moves = λ none. x.moves;
      arrivals = [];
      came = rw (egress_hands_none e, (egress_still e).silent) NoFrame;
      queues = λ none j. x.receivers_are j ∙ mapped_none (is_tx old.capabilities.checksum.ipv4) (receiver_at old.sockets j);
    }

poll_gets : (u : Unspoken) → (t : ℤ) (budget : ℕ) (answer : PollResult) (old new : Host) (told : List Event) (notes : List Note) →
    Polls t budget answer old told notes new → Gets (after_maintenance (at old t)) old told [] notes new
poll_gets u t budget answer old new told notes p =
    let B : Host = after_maintenance (at old t) in
    let m = maintained old t in
    let g = until (Receives B) (λ H. received_none B H [] [] H refl refl (same refl)) (received_on B) (λ answer old' new told notes i like.
    ingress_received B t answer old' new told notes i (ap (λ (K : Host). at K t) like ∙ maintained_at old t)) p.receives refl in
    let s = until (SendsPart u) (λ H. begins u H) (sending_on u)
    (λ answer old new told notes e. egress_sends u t answer old new told notes e) p.sends in
    let h = until HandsNone (λ H. record { none = refl; unnoted = refl }) hands_on
    (λ answer old new told notes e. record { none = egress_hands_none e; unnoted = (egress_still e).silent }) p.sends in
    let began : Moves old.sockets B.sockets = moves_none (λ j. ap (λ x. speaker_at x j) m.sockets) in record {
      moves = λ none. moves_on began (moves_on (arrivals_move _ g.arrivals B.sockets p.mid.sockets g.speakers) s.moves);
      arrivals = g.arrivals;
      came = rw (
        p.events,
        p.all_notes,
        handed_frames-append,
        slot_notes-append,
        h.none,
        h.unnoted,
        append-nil (handed_frames p.told_receiving),
        append-nil (slot_notes p.notes_receiving),
      ) g.came;
      queues = λ none i. s.receivers_are i ∙ received_queues _ g.arrivals B.sockets p.mid.sockets g.speakers i
          ∙ ap (λ x. option_map (with_arrivals (is_tx B.capabilities.checksum.ipv4) g.arrivals) (receiver_at x i)) m.sockets
          ∙ ap (λ (c : DeviceCapabilities). option_map (with_arrivals (is_tx c.checksum.ipv4) g.arrivals) (receiver_at old.sockets i)) m.capabilities;
    }

pub loses_front : (old new : SocketSet) → Moves old new → (i : ℕ) (s : RawSocket) → raw_at old i ≡ Some s → LosesFront new i s
loses_front old new m i s there =
    let rest = m.queue i s in
    record {
      socket = m.change i s;
      there = raw_is new i ∙ ap (option_and_then raw_of) (m.speakers i) ∙ socket_on (speaker_at old i) (m.change i) s (sym (raw_is old i) ∙ there);
      left = rest.0;
      front = rest.1;
    }

pub step_gets : (u : Unspoken) → {c : Command} {answer : Answer} {old new : Host} {told : List Event} {acts : List Act} {notes : List Note} →
    Step c answer old told acts notes new → Gets (host_at_command c old) old told acts notes new
step_gets u {old = old} {new = new} (step.UpdatedIpAddrs (Accepted a r e)) = nothing_gets _ old new [] (λ none. ap (λ (K : Host). K.sockets) e)
step_gets u {old = old} {new = new} (step.UpdatedIpAddrs (Refused a r e)) = nothing_gets _ old new [] (λ none. ap (λ (K : Host). K.sockets) e)
step_gets u (step.PolledIngressSingle i) = ingress_gets _ _ _ _ _ _ i
step_gets u (step.PolledEgress e) = egress_gets u _ _ _ _ _ _ e
step_gets u (step.Polled p) = poll_gets u _ _ _ _ _ _ _ p
step_gets u {new = new} (step.PolledMaintenance {t} {old}) = nothing_gets _ old (after_maintenance (at old t)) [] (λ none. maintained_sockets old t)
step_gets u {old = old} {new = new} (step.JoinedGroup j) = nothing_gets _ old new [] (λ none. join_same j)
step_gets u {old = old} {new = new} (step.LeftGroup j) = nothing_gets _ old new [] (λ none. leave_same j)
step_gets u {old = old} {new = new} (step.TookHardwareAddr (Taken a of r e)) = nothing_gets _ old new [] (λ none. ap (λ (K : Host). K.sockets) e)
step_gets u {old = old} {new = new} (step.TookHardwareAddr (NotTaken error a r e)) = nothing_gets _ old new [] (λ none. ap (λ (K : Host). K.sockets) e)
step_gets u {old = old} {new = new} (step.TookReassemblyTimeout (WithinDay l r e)) = nothing_gets _ old new [] (λ none. ap (λ (K : Host). K.sockets) e)
step_gets u {old = old} {new = new} (step.TookReassemblyTimeout (OverDay l r e)) = nothing_gets _ old new [] (λ none. ap (λ (K : Host). K.sockets) e)
step_gets u {old = old} {new = new} {acts = acts} (step.OwnerActed sockets) = nothing_gets _ old new acts (λ none. absurd cc)
step_gets u {old = old} {new = new} other = nothing_gets _ old new [] (λ none. refl)
