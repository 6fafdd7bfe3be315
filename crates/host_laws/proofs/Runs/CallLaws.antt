-- Each single call of a run serves others and is restrained.
use Rattle.std.proofs.Common.{List}
use Rattle.std.specs.Prelude.{ℤ, ℕ}
use Rattle.std.specs.List.{AllByRecursion}
use Rattle.net_base.specs.Device.{Event}
use Rattle.host_machine.specs.declared.command.Command.{Command}
use Rattle.host_machine.specs.declared.command.Answer.{Answer}
use Rattle.host_machine.specs.declared.results.PollIngressSingleResult.{PollIngressSingleResult}
use Rattle.host_machine.specs.declared.results.PollResult.{PollResult}
use Rattle.host_machine.specs.Context.Note.{Note}
use Rattle.host_machine.specs.Context.Host.{Host}
use Rattle.host_machine.specs.Interface.Egress.{Egress}
use Rattle.host_machine.specs.Interface.Ingress.{Ingress}
use Rattle.host_machine.specs.Interface.Step.{Act, Step}
use Rattle.host_machine.specs.Interface.Step as step
use Rattle.host_machine.specs.Interface.Run.{Transition, Run, Ends, Then}
use Rattle.host_laws.specs.Laws.Calls.{IsCallOf, IsEgress, IsIngress, IsMadeOfCalls, KeepsCallLaws}
use Rattle.host_laws.specs.Laws.Restraint.Readings.{Receives}
use Rattle.host_laws.specs.Laws.Calls.{IsRestrained}
use Rattle.host_laws.proofs.Sockets.ClosedTcpPorts.{ports_reset}
use Rattle.host_laws.proofs.Sockets.DatagramDelivery.{datagrams_queued, ports_told}
use Rattle.host_laws.proofs.Sockets.DatagramDeliveryV6.{datagrams_v6_queued, ports_v6_told}
use Rattle.host_laws.proofs.Icmp.EchoReplies.{replies_queued, replies_v6_queued}
use Rattle.host_laws.proofs.Receive.ForeignFrames.{foreign_dropped, foreign_v6_dropped, frames_for_others_dropped}
use Rattle.host_laws.proofs.Receive.ForeignFrames.{unheard, unheard_v6}
use Rattle.host_laws.proofs.Receive.FrameReplies.{arp_served, arp_teaches, pings_served}
use Rattle.host_laws.proofs.Receive.FrameRepliesV6.{advertisers_learnt, pings_v6_served, solicitations_served}
use Rattle.host_laws.proofs.Discovery.LearntNeighbors.{neighbors_came}
use Rattle.host_laws.proofs.Sockets.ManyDelivery.{many_queued}
use Rattle.host_laws.proofs.Sockets.RebuiltDelivery.{rebuilt_queued}
use Rattle.host_laws.proofs.Icmp.RebuiltPings.{long_pings_served, rebuilt_pings_served}
use Rattle.host_laws.proofs.Discovery.Advertisements.{advertisements_learnt}
use Rattle.host_laws.proofs.Multicast.HeardQueries.{queries_heard}
use Rattle.host_laws.proofs.Receive.UnknownProtocols.{options_told, unknown_told}
use Rattle.host_laws.proofs.Receive.ReplyLaws.{advert_told, arp_told, echoes_caused, echoes_v6_caused, errors_caused, errors_v6_caused}
use Rattle.host_laws.proofs.Receive.ReplyLaws.{kinds_of_replies, resets_caused}
use Rattle.host_laws.proofs.Receive.ReplyOctets.{arp_by_octets, pings_by_octets}
use Rattle.host_laws.proofs.Receive.SettingChanges.{frames_keep, reports_asked}
use Rattle.host_laws.proofs.Sockets.SocketDelivery.{raw_packets_queued, segments_queued}
use Rattle.host_laws.proofs.Receive.WrongRebuilt.{rebuilt_dropped}
use Rattle.host_laws.proofs.Receive.WrongSums.{headers_dropped, payloads_dropped, payloads_v6_dropped}
use Rattle.host_laws.proofs.Runs.DueReports.{due_reports_go}
use Rattle.host_laws.proofs.Runs.OwnSources.{sources_own}
use Rattle.host_laws.proofs.Runs.ReplyLengths.{replies_short}
use Rattle.host_laws.proofs.Runs.FramesOfCalls.{ingress_frames, sends_in_order}
use Rattle.host_laws.proofs.Runs.RequestsWhileWaiting.{requests_go}
use Rattle.host_laws.proofs.Interface.DueWork.{due_done, pieces_go}
use Rattle.host_laws.proofs.Sockets.FirstPackets.{first_echoes_go, first_packets_go}
use Rattle.host_laws.proofs.Interface.GrantedEgress.{firsts_go}
use Rattle.host_laws.proofs.Sockets.ManyPackets.{many_go}
use Rattle.host_laws.proofs.Interface.OtherSteps.{keep_settings, learn_nobody}
use Rattle.host_laws.proofs.Interface.SettledFields.{sending_settled}
use Rattle.host_laws.proofs.Interface.OneFrameCalls.{single}
use Rattle.host_laws.proofs.Interface.SingleCalls.{run_unfolds}

restrained : (t : ℤ) (frame : List ℕ) (old new : Host) (told : List Event) (notes : List Note) (w : Receives t frame old told notes new) →
    IsRestrained t frame w.call.response.reply old told notes new
restrained t frame old new told notes w = record {
  frames_for_others = frames_for_others_dropped t frame old new told notes w;
  foreign_packets = foreign_dropped t frame old new told notes w;
  foreign_packets_v6 = foreign_v6_dropped t frame old new told notes w;
  packets_from_no_host = unheard t frame old new told notes w;
  packets_from_no_host_v6 = unheard_v6 t frame old new told notes w;
  wrong_headers = headers_dropped t frame old new told notes w;
  wrong_payloads = payloads_dropped t frame old new told notes w;
  wrong_payloads_v6 = payloads_v6_dropped t frame old new told notes w;
  wrong_rebuilt_payloads = rebuilt_dropped t frame old new told notes w;
  neighbors = neighbors_came t frame old new told notes w;
  settings = frames_keep t frame old new told notes w;
  arp_replies = arp_told t frame old new told notes w;
  advertisements = advert_told t frame old new told notes w;
  kinds = kinds_of_replies t frame old new told notes w;
  echoes = echoes_caused t frame old new told notes w;
  echoes_v6 = echoes_v6_caused t frame old new told notes w;
  errors = errors_caused t frame old new told notes w;
  errors_v6 = errors_v6_caused t frame old new told notes w;
  resets = resets_caused t frame old new told notes w;
  lengths = replies_short t frame old new told notes w;
  sources = sources_own.replied t frame old new told notes w;
  igmp_answers = (reports_asked t frame old new told notes w).0;
  mld_answers = (reports_asked t frame old new told notes w).1;
}

received : (t : ℤ) (answer : PollIngressSingleResult) (p : Transition) → Ingress t answer p.before p.told p.notes p.after → IsIngress t p
received t answer p i = record {
  answer = answer;
  call = i;
  single = single t answer p.before p.after p.told p.notes i;
  frames = ingress_frames t answer p.before p.after p.told p.notes i;
  serves = record {
    arp_requests = arp_served t p.before p.after p.told;
    arp_requests_by_octets = arp_by_octets t p.before p.after p.told;
    arp_senders = arp_teaches t p.before p.after p.told;
    solicitations = solicitations_served t p.before p.after p.told;
    advertisers = advertisers_learnt t p.before p.after p.told;
    pings = pings_served t p.before p.after p.told;
    pings_by_octets = pings_by_octets t p.before p.after p.told;
    rebuilt_pings = rebuilt_pings_served t p.before p.after p.told;
    long_pings = long_pings_served t p.before p.after p.told;
    pings_v6 = pings_v6_served t p.before p.after p.told;
    datagrams = datagrams_queued t p.before p.after p.told;
    datagrams_v6 = datagrams_v6_queued t p.before p.after p.told;
    closed_ports = ports_told t p.before p.after p.told;
    closed_ports_v6 = ports_v6_told t p.before p.after p.told;
    rebuilt_datagrams = rebuilt_queued t p.before p.after p.told;
    echo_replies = replies_queued t p.before p.after p.told;
    echo_replies_v6 = replies_v6_queued t p.before p.after p.told;
    raw_packets = (raw_packets_queued t p.before p.after p.told).0;
    raw_packets_v6 = (raw_packets_queued t p.before p.after p.told).1;
    segments = (segments_queued t p.before p.after p.told).0;
    segments_v6 = (segments_queued t p.before p.after p.told).1;
    prefixes = (advertisements_learnt t p.before p.after p.told).0;
    routers = (advertisements_learnt t p.before p.after p.told).1;
    igmp_queries = (queries_heard t p.before p.after p.told).0;
    mld_queries = (queries_heard t p.before p.after p.told).1;
    unknown_protocols = (unknown_told t p.before p.after p.told).0;
    unknown_protocols_v6 = (unknown_told t p.before p.after p.told).1;
    unknown_options = options_told t p.before p.after p.told;
    closed_tcp_ports = (ports_reset t p.before p.after p.told).0;
    closed_tcp_ports_v6 = (ports_reset t p.before p.after p.told).1;
    datagrams_to_many = (many_queued t p.before p.after p.told).0;
    datagrams_to_many_v6 = (many_queued t p.before p.after p.told).1;
  };
  restrained = λ frame w. restrained t frame p.before p.after p.told p.notes w;
}

sent : (t : ℤ) (answer : PollResult) (p : Transition) → Egress t answer p.before p.told p.notes p.after → IsEgress t p
sent t answer p e = let s = sends_in_order t answer p.before p.after p.told p.notes e in record {
  answer = answer;
  call = e;
  frames = s.frames;
  sources = sources_own.sent t answer p.before p.after p.told p.notes e;
  igmp_answer = s.igmp_answer;
  mld_answer = s.mld_answer;
  groups = s.groups;
  first_datagrams = firsts_go t answer p.before p.after p.told p.notes e;
  to_many = many_go t answer p.before p.after p.told p.notes e;
  due_reports = due_reports_go t answer p.before p.after p.told p.notes e;
  first_packets = first_packets_go t answer p.before p.after p.told p.notes e;
  first_echoes = first_echoes_go t answer p.before p.after p.told p.notes e;
  pieces = pieces_go t answer p.before p.after p.told p.notes e;
  requests = requests_go t answer p.before p.after p.told p.notes e;
  due = due_done t answer p.before p.after p.told p.notes e;
  settings = sending_settled t answer p.before p.after p.told p.notes e;
}

called : {command : Command} {answer : Answer} {old new : Host} {told : List Event} {acts : List Act} {notes : List Note} →
    Step command answer old told acts notes new →
    IsCallOf command (record { command = command; answer = answer; told = told; acts = acts; notes = notes; before = old; after = new })
called (step.PolledIngressSingle {t} {result} i) = received t result _ i
called (step.PolledEgress {t} {result} e) = sent t result _ e
called others = tt

pub all_keep : {first last : Host} {transitions : List Transition} → Run first transitions last → AllByRecursion KeepsCallLaws transitions
all_keep Ends = tt
all_keep (Then {old} {mid} {last} {command} {answer} {told} {acts} {notes} {transitions} s r) = (
  record {
    call = called s;
    neighbors = learn_nobody command answer old mid told acts notes s;
    settings = keep_settings command answer old mid told acts notes s;
  },
  all_keep r,
)

pub run_calls : {first last : Host} {transitions : List Transition} → Run first transitions last → IsMadeOfCalls first transitions
run_calls {first} {last} {transitions} r = let u = run_unfolds r in record { last = last; calls = u; keep = all_keep u.run }
