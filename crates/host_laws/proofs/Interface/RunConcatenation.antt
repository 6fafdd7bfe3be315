-- Runs one after the other.
use Rattle.std.proofs.Common.{ℕ, List, [], ◌++◌, refl}
use Rattle.std.proofs.lemmas.List.{map-append}
use Rattle.net_base.specs.Device.{Event}
use Rattle.host_machine.specs.declared.command.Command.{Command}
use Rattle.host_machine.specs.declared.command.Answer.{Answer}
use Rattle.host_machine.specs.Context.Host.{Host, SocketSet}
use Rattle.host_machine.specs.Interface.Step.{Act}
use Rattle.host_machine.specs.Interface.Run.{Transition, Run, Ran, Ends, Did, NoAct, ThenAct, events_in, notes_in}
use Rattle.host_laws.specs.Laws.Ran.{Laws}
use Rattle.host_laws.proofs.Runs.FrameSizes.{run_frames_fit}
use Rattle.host_laws.proofs.Runs.FragmentArrivals.{run_arrivals}
use Rattle.host_machine.specs.Context.Note.{cut_notes}
use Rattle.host_laws.proofs.Runs.CutIdentifications.{run_carried, distinct_among, keys_own}
use Rattle.host_laws.proofs.Runs.RunRequests.{run_asks}
use Rattle.host_laws.proofs.Runs.RouterSolicitations.{run_solicits}
use Rattle.host_laws.proofs.Runs.SentPieces.{run_shows}
use Rattle.host_laws.proofs.Runs.DiscoverySpacing.{run_spaced}
use Rattle.host_laws.proofs.Runs.ReassemblyOrigin.{run_rebuilt}
use Rattle.host_laws.proofs.Runs.PieceOrder.{run_ordered, run_first}
use Rattle.host_laws.proofs.Runs.IdentificationOrder.{run_counted, distinct}
use Rattle.host_laws.proofs.Runs.Quiet.{run_quiet}
use Rattle.host_laws.proofs.Runs.CallLaws.{run_calls}
use Rattle.host_laws.proofs.Interface.SingleCalls.{run_on, events_in-append, acts_in-append}

pub run_laws : {first last : Host} {transitions : List Transition} → Run first transitions last → Laws first transitions
run_laws {first} {last} {transitions} r = record {
  requests_spaced = λ regular all. rw (run_asks first last transitions r regular all) (run_spaced r);
  asks_spaced = run_spaced r;
  solicitations_few = run_solicits first last transitions r;
  arrivals_match_frames = run_arrivals r;
  fragments_sent_are_pieces = λ real. run_shows first last transitions r real;
  cuts_take_identifications = run_carried r;
  own_keys = λ few. keys_own (cut_notes (notes_in transitions)) (distinct_among (run_carried r) (distinct _ _ (run_counted r) few));
  rebuilt = run_rebuilt r;
  ordered = run_ordered r;
  pieces_follow_first = run_first r;
  identifications_follow = run_counted r;
  identifications_distinct = distinct _ _ (run_counted r);
  quiet = run_quiet r;
  frames_fit = λ regular fit. (run_frames_fit first last transitions r regular fit).0;
  calls = run_calls r;
}

did_on : {O : Type 0} {did : O → ℕ → SocketSet → SocketSet → O → Type 0} {o m p : O} {xs ys : List Act} →
    Did did o xs m → Did did m ys p → Did did o (xs ++ ys) p
did_on NoAct more = more
did_on (ThenAct a d) more = ThenAct a (did_on d more)

module _ {D O : Type 0} (tells : D → List Event → D → Type 0) (did : O → ℕ → SocketSet → SocketSet → O → Type 0)
    (tells_on : (a b c : D) (xs ys : List Event) → tells a xs b → tells b ys c → tells a (xs ++ ys) c) where
  pub no_commands : (d : D) (o : O) (H : Host) (after : Host → Type 0) → tells d [] d → after H → Ran tells did d d o o [] [] H after
  no_commands d o H after quiet stands = record {
    transitions = [];
    last = H;
    run = Ends;
    commanded = refl;
    answered = refl;
    tells_it = quiet;
    owner_did = NoAct;
    stands = stands;
  }

  pub ran_on : (d m e : D) (o p q : O) (commands more_commands : List Command) (answers more_answers : List Answer)
      (H : Host) (mid after : Host → Type 0) →
      Ran tells did d m o p commands answers H mid → ((K : Host) → mid K → Ran tells did m e p q more_commands more_answers K after) →
      Ran tells did d e o q (commands ++ more_commands) (answers ++ more_answers) H after
  ran_on d m e o p q commands more_commands answers more_answers H mid after ran goes =
      let more = goes ran.last ran.stands in
      let whole : Run H (ran.transitions ++ more.transitions) more.last = run_on ran.run more.run in record {
        transitions = ran.transitions ++ more.transitions;
        last = more.last;
        run = whole;
        commanded = rw (map-append (λ q. q.command) ran.transitions more.transitions, ← ran.commanded, ← more.commanded) refl;
        answered = rw (map-append (λ q. q.answer) ran.transitions more.transitions, ← ran.answered, ← more.answered) refl;
        tells_it = rw events_in-append (tells_on d m e (events_in ran.transitions) (events_in more.transitions) ran.tells_it more.tells_it);
        owner_did = rw acts_in-append (did_on ran.owner_did more.owner_did);
        stands = more.stands;
      }
