-- From what a traced device tells of a run to the laws of the frames in its list.
use Rattle.std.proofs.Common.{◌≡◌, ℕ, Bool, true, List, [], ◌∷◌, ◌++◌, refl, sym, ap, ◌∙◌, subst}
use Rattle.std.specs.Prelude.{pos}
use Rattle.net_base.specs.Device.{Event, sent_frames}
use Rattle.net_base.specs.Details.TracedEvents.{Traces}
use Rattle.host_machine.specs.declared.command.Command.{Command}
use Rattle.host_machine.specs.declared.command.Answer.{Answer}
use Rattle.host_machine.specs.Context.Host.{Host, SocketSet}
use Rattle.host_laws.specs.Laws.Order.{IsAmong, NoneOfNone, OneOf, NotThis}
use Rattle.host_laws.specs.Laws.Requests.{requests_at, sent_at}
use Rattle.host_laws.specs.Laws.Steps.{RunsKeepLaws}
use Rattle.host_machine.specs.Interface.Run.{Transition, Ran, AreSpaced, acts_in, events_in}
use Rattle.host_laws.proofs.Runs.Walk.{sent_frames-append}
use Rattle.host_laws.specs.Deliveries.{Delivery}
use Rattle.host_laws.specs.Departures.{Departure, Way, Dropped, InOneFrame, InPieces, frames_by, frames_of}
use Rattle.host_laws.specs.Datagrams.{KeepsQueues, Move, RunsKeepQueues, Still, OneTransition}
use Rattle.host.specs.Driven.{Driven}
use Rattle.interface_client.specs.Logged.{LogsDatagrams, LogsRun}

-- what departs in two parts is sent in the frames of both
by_way : (way : Way) (xs ys : List (List ℕ)) → frames_by way (xs ++ ys) ≡ frames_by way xs ++ ys
by_way Dropped xs ys = refl
by_way (InOneFrame to frame) xs ys = refl
by_way (InPieces cut first) xs ys = refl

frames_of-append : (ds es : List Departure) → frames_of (ds ++ es) ≡ frames_of ds ++ frames_of es
frames_of-append [] es = refl
frames_of-append (d ∷ ds) es = ap (frames_by d.way) (frames_of-append ds es) ∙ by_way d.way (frames_of ds) (frames_of es)

among-append : {X : Type 0} {xs xs' ys ys' : List X} → IsAmong xs xs' → IsAmong ys ys' → IsAmong (xs ++ ys) (xs' ++ ys')
among-append NoneOfNone b = b
among-append (OneOf x a) b = OneOf x (among-append a b)
among-append (NotThis y a) b = NotThis y (among-append a b)

-- what was sent in each transition was sent in the run
sent_in : {transitions : List Transition} {deliveries : List Delivery} {departures : List Departure} →
    Move transitions deliveries departures → IsAmong (frames_of departures) (sent_frames (events_in transitions))
sent_in Still = NoneOfNone
sent_in (OneTransition {transitions = rest} {more_departures = more} p deliveries departures moved others) =
    rw (frames_of-append departures more, sent_frames-append p.told (events_in rest))
    (among-append moved.went (sent_in others))

module _ {D O : Type 0} (tells : D → List Event → D → Type 0) (did : O → ℕ → SocketSet → SocketSet → O → Type 0) where
  -- a run over a device that tells its list of events
  pub logs_run : (listed : D → List Event) (is_complete : D → Bool)
      (told : (old new : D) (events : List Event) → tells old events new →
      Traces (is_complete old) (listed old) events (is_complete new) (listed new))
      (d e : D) (o p : O) (commands : List Command) (answers : List Answer) (H : Host) (after : Host → Type 0) →
      RunsKeepLaws → RunsKeepQueues → listed d ≡ [] → is_complete e ≡ true →
      Driven tells did d e o p commands answers H after → LogsRun H after (listed e)
  logs_run listed is_complete told d e o p commands answers H after laws keep empty complete driven = record {
    transitions = ran.transitions;
    last = ran.last;
    run = ran.run;
    stands = ran.stands;
    logged = logged;
    spaced = λ quiet. subst (λ events. AreSpaced H.neighbors.silent_until
        (requests_at H.capabilities.medium (sent_at (pos 0) events))) (sym logged)
        ((laws H ran.last ran.transitions ran.run).requests_spaced driven.regular quiet);
    datagrams = λ still. datagrams (queues_kept still);
  } where
    ran : Ran tells did d e o p commands answers H after
    ran = driven.ran

    logged : listed e ≡ events_in ran.transitions
    logged = (told d e (events_in ran.transitions) ran.tells_it complete).1 ∙ ap (λ es. es ++ events_in ran.transitions) empty

    queues_kept : acts_in ran.transitions ≡ [] → KeepsQueues H ran.last ran.transitions
    queues_kept still = keep H ran.last ran.transitions ran.run still

    datagrams : KeepsQueues H ran.last ran.transitions → LogsDatagrams H ran.last ran.transitions (listed e)
    datagrams kept = record {
      deliveries = kept.deliveries;
      departures = kept.departures;
      moves = kept.moves;
      queues = kept.queues;
      sent = subst (λ events. IsAmong (frames_of kept.departures) (sent_frames events)) (sym logged) (sent_in kept.moves);
    }
