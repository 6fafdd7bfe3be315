-- The single calls that a run is made of, and what holds of each: what it must do, and what it must not do.
use Rattle.std.specs.Prelude.{ℤ, ℕ, ◌≤◌, List, Option, length}
use Rattle.std.specs.List.{AllByRecursion}
use Rattle.net_base.specs.Device.{Event, handed_frames, sent_frames}
use Rattle.host_machine.specs.declared.command.Command.{Command}
use Rattle.host_machine.specs.declared.command.Command.TheVariants.{PollIngressSingle, PollEgress}
use Rattle.host_machine.specs.declared.results.PollIngressSingleResult.{PollIngressSingleResult}
use Rattle.host_machine.specs.declared.results.PollResult.{PollResult}
use Rattle.host_machine.specs.Context.Note.{Note}
use Rattle.host_machine.specs.Context.Host.{Host, at}
use Rattle.host_machine.specs.Receive.Reply.{Reply}
use Rattle.host_machine.specs.Interface.Egress.{Egress}
use Rattle.host_machine.specs.Interface.Ingress.{Ingress}
use Rattle.host_machine.specs.Interface.Run.{Transition}
use Rattle.host_laws.specs.Laws.Service.{AnswersArpRequests, AnswersClosedPorts, AnswersClosedPortsV6}
use Rattle.host_laws.specs.Laws.Service.{LearnsAdvertisers, LearnsArpSenders}
use Rattle.host_laws.specs.Laws.Service.{AnswersPings, AnswersPingsV6}
use Rattle.host_laws.specs.Laws.Service.{AnswersSolicitations, DoesWhatIsDue, QueuesDatagrams, QueuesDatagramsV6}
use Rattle.host_laws.specs.Laws.Service.{QueuesEchoReplies, SendsFirstDatagrams, SendsFirstEchoes, SendsFirstPackets}
use Rattle.host_laws.specs.Laws.Service.{SendsPieces, SendsRequests}
use Rattle.host_laws.specs.Laws.ReplyOctets.{AnswersArpByOctets, AnswersPingsByOctets}
use Rattle.host_laws.specs.Laws.Received.{QueuesEchoRepliesV6, QueuesRawPackets, QueuesRawPacketsV6}
use Rattle.host_laws.specs.Laws.Received.{QueuesSegments, QueuesSegmentsV6}
use Rattle.host_laws.specs.Laws.DueReports.{AnswersQueries}
use Rattle.host_laws.specs.Laws.Autoconfiguration.{LearnsPrefixes, LearnsRouters}
use Rattle.host_laws.specs.Laws.HeardQueries.{HearsIgmpQueries, HearsMldQueries}
use Rattle.host_laws.specs.Laws.Many.{QueuesToMany, QueuesToManyV6, SendsToMany}
use Rattle.host_laws.specs.Laws.Resets.{ResetsClosedPorts, ResetsClosedPortsV6}
use Rattle.host_laws.specs.Laws.Protocols.{AnswersUnknownOptions, AnswersUnknownProtocols, AnswersUnknownProtocolsV6}
use Rattle.host_laws.specs.Laws.Reassembled.{AnswersRebuiltPings, BeginsLongReplies, QueuesRebuiltDatagrams}
use Rattle.host_laws.specs.Laws.Unfolded.{Unfolds}
use Rattle.host_laws.specs.Laws.Restraint.Checksums.{DropsWrongHeaders, DropsWrongPayloads, DropsWrongPayloadsV6}
use Rattle.host_laws.specs.Laws.Restraint.Foreign.{DropsForeignPackets, DropsForeignPacketsV6, DropsFramesForOthers}
use Rattle.host_laws.specs.Laws.Restraint.Foreign.{DropsPacketsFromNoHost, DropsPacketsFromNoHostV6}
use Rattle.host_laws.specs.Laws.Restraint.Neighbors.{LearnsFromFrames, MayReceive, LearnsNobody}
use Rattle.host_laws.specs.Laws.Restraint.Queries.{IgmpGoesOn, IgmpIsAsked, KeepsGroups, MldGoesOn}
use Rattle.host_laws.specs.Laws.Restraint.Queries.{MldIsAsked}
use Rattle.host_laws.specs.Laws.Restraint.Readings.{Receives}
use Rattle.host_laws.specs.Laws.Restraint.Rebuilt.{DropsWrongRebuiltPayloads}
use Rattle.host_laws.specs.Laws.Restraint.Replies.{AdvertisesOnlyItself, SendsEchoesV6WithCause, SendsEchoesWithCause}
use Rattle.host_laws.specs.Laws.Restraint.Replies.{SendsErrorsV6WithCause, SendsErrorsWithCause, SendsReplyKinds}
use Rattle.host_laws.specs.Laws.Restraint.Replies.{SendsResetsWithCause, TellsItselfByArp}
use Rattle.host_laws.specs.Laws.Restraint.ReplyLengths.{RepliesShortly}
use Rattle.host_laws.specs.Laws.Restraint.SentFrames.{IsOfReply, SendsInOrder}
use Rattle.host_laws.specs.Laws.Restraint.Sources.{RepliesFromOwn, SendsFromOwn}
use Rattle.host_laws.specs.Laws.Restraint.Settings.{KeepsAddressesAndRoutes, KeepsAtFrame, KeepsSettings, MaySet}

-- what a call at t that receives does for others
pub record ServesOthers (t : ℤ) (old : Host) (told : List Event) (new : Host) : Type 0 where
  pub arp_requests : AnswersArpRequests t old told new
  pub arp_requests_by_octets : AnswersArpByOctets t old told new
  pub arp_senders : LearnsArpSenders t old told new
  pub solicitations : AnswersSolicitations t old told new
  pub advertisers : LearnsAdvertisers t old told new
  pub pings : AnswersPings t old told new
  pub pings_by_octets : AnswersPingsByOctets t old told new
  pub rebuilt_pings : AnswersRebuiltPings t old told new
  pub long_pings : BeginsLongReplies t old told new
  pub pings_v6 : AnswersPingsV6 t old told new
  pub datagrams : QueuesDatagrams t old told new
  pub datagrams_v6 : QueuesDatagramsV6 t old told new
  pub rebuilt_datagrams : QueuesRebuiltDatagrams t old told new
  pub closed_ports : AnswersClosedPorts t old told new
  pub closed_ports_v6 : AnswersClosedPortsV6 t old told new
  pub echo_replies : QueuesEchoReplies t old told new
  pub echo_replies_v6 : QueuesEchoRepliesV6 t old told new
  pub raw_packets : QueuesRawPackets t old told new
  pub raw_packets_v6 : QueuesRawPacketsV6 t old told new
  pub segments : QueuesSegments t old told new
  pub segments_v6 : QueuesSegmentsV6 t old told new
  pub unknown_protocols : AnswersUnknownProtocols t old told new
  pub unknown_protocols_v6 : AnswersUnknownProtocolsV6 t old told new
  pub unknown_options : AnswersUnknownOptions t old told new
  pub closed_tcp_ports : ResetsClosedPorts t old told new
  pub closed_tcp_ports_v6 : ResetsClosedPortsV6 t old told new
  pub prefixes : LearnsPrefixes t old told new
  pub routers : LearnsRouters t old told new
  pub igmp_queries : HearsIgmpQueries t old told new
  pub mld_queries : HearsMldQueries t old told new
  pub datagrams_to_many : QueuesToMany t old told new
  pub datagrams_to_many_v6 : QueuesToManyV6 t old told new

-- what a call at t that received this frame, and answered it by this reply if any, leaves alone
pub record IsRestrained (t : ℤ) (frame : List ℕ) (reply : Option Reply) (old : Host) (told : List Event)
    (notes : List Note) (new : Host) : Type 0 where
  pub frames_for_others : DropsFramesForOthers t frame old told notes new
  pub foreign_packets : DropsForeignPackets t frame old told new
  pub foreign_packets_v6 : DropsForeignPacketsV6 t frame old told notes new
  pub packets_from_no_host : DropsPacketsFromNoHost t frame old told notes new
  pub packets_from_no_host_v6 : DropsPacketsFromNoHostV6 t frame old told notes new
  pub wrong_headers : DropsWrongHeaders t frame old told notes new
  pub wrong_payloads : DropsWrongPayloads t frame old told notes new
  pub wrong_payloads_v6 : DropsWrongPayloadsV6 t frame old told notes new
  pub wrong_rebuilt_payloads : DropsWrongRebuiltPayloads t frame old told notes new
  pub neighbors : LearnsFromFrames t frame old new
  pub settings : KeepsAtFrame frame old new
  pub arp_replies : TellsItselfByArp frame old reply
  pub advertisements : AdvertisesOnlyItself frame old reply
  pub kinds : SendsReplyKinds reply
  pub echoes : SendsEchoesWithCause frame old reply
  pub echoes_v6 : SendsEchoesV6WithCause frame old reply
  pub errors : SendsErrorsWithCause frame old reply
  pub errors_v6 : SendsErrorsV6WithCause frame old reply
  pub resets : SendsResetsWithCause frame old reply
  pub lengths : RepliesShortly frame old told
  pub sources : RepliesFromOwn frame old reply
  pub igmp_answers : IgmpIsAsked t frame old new
  pub mld_answers : MldIsAsked t frame old new

-- a call that receives, by the rules: it receives one frame at most, and sends one at most, which has its reply; it
-- serves others, and is restrained
pub record IsIngress (t : ℤ) (p : Transition) : Type 0 where
  pub answer : PollIngressSingleResult
  pub call : Ingress t answer p.before p.told p.notes p.after
  pub single : (length (handed_frames p.told) ≤ 1) × (length (sent_frames p.told) ≤ 1)
  pub frames : AllByRecursion (IsOfReply t call.response.reply p.before p.told p.after) (sent_frames p.told)
  pub serves : ServesOthers t p.before p.told p.after
  pub restrained : (frame : List ℕ) (w : Receives t frame p.before p.told p.notes p.after) →
      IsRestrained t frame w.call.response.reply p.before p.told p.notes p.after

-- a call that sends, by the rules: each frame has its reason, and each report waits for its moment and is sent once; it
-- sends what it may, and keeps the settings
pub record IsEgress (t : ℤ) (p : Transition) : Type 0 where
  pub answer : PollResult
  pub call : Egress t answer p.before p.told p.notes p.after
  pub frames : SendsInOrder (at p.before t) (sent_frames p.told) p.after
  pub sources : SendsFromOwn t p.before p.told
  pub igmp_answer : IgmpGoesOn t p.before.igmp_report p.after.igmp_report
  pub mld_answer : MldGoesOn t p.before.mld_report p.after.mld_report
  pub groups : KeepsGroups p.before p.after
  pub first_datagrams : SendsFirstDatagrams t p.before p.told p.after
  pub to_many : SendsToMany t p.before p.told p.after
  pub due_reports : AnswersQueries t p.before p.told p.after
  pub first_packets : SendsFirstPackets t p.before p.told p.after
  pub first_echoes : SendsFirstEchoes t p.before p.told p.after
  pub pieces : SendsPieces p.before p.told
  pub requests : SendsRequests t p.before p.told p.notes p.after
  pub due : DoesWhatIsDue t p.before p.told p.after
  pub settings : KeepsSettings p.before p.after

-- by its command a single call receives, or sends, or does neither
abbrev pub IsCallOf : Command → Transition → Type 0
IsCallOf (PollIngressSingle t) p = IsIngress t p
IsCallOf (PollEgress t) p = IsEgress t p
IsCallOf other p = Unit {0}

-- what holds of a single call
pub record KeepsCallLaws (p : Transition) : Type 0 where
  pub call : IsCallOf p.command p
  pub neighbors : (MayReceive p.command → ⊥) → LearnsNobody p.before p.after
  pub settings : (MaySet p.command → ⊥) → KeepsAddressesAndRoutes p.before p.after

-- a run made of single calls: a poll is maintenance, then calls that receive, then calls that send
pub record IsMadeOfCalls (first : Host) (transitions : List Transition) : Type 0 where
  pub last : Host
  pub calls : Unfolds first transitions last
  pub keep : AllByRecursion KeepsCallLaws calls.singles
