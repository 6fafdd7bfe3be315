-- Commands one after the other, over plain variables.
use Rattle.std.proofs.Common.{◌≡◌, ℕ, List, [], ◌∷◌, ◌++◌, refl, ap, append-nil}
use Rattle.std.specs.Borrow.{Bor}
use Rattle.std.specs.Prelude.{ℤ}
use Rattle.net_base.specs.Device.{Event}
use Rattle.socket_set.specs.SocketSet.{Sockets}
use Rattle.host_machine.specs.declared.command.Command.{Command}
use Rattle.host_machine.specs.declared.command.Command.TheVariants as command
use Rattle.host_machine.specs.declared.command.Answer.{Answer}
use Rattle.host_machine.specs.declared.command.Answer.TheVariants as answer
use Rattle.host_machine.specs.declared.results.PollIngressSingleResult.{PollIngressSingleResult}
use Rattle.host_machine.specs.Context.Host.{Host, SocketSet}
use Rattle.host_machine.specs.declared.results.PollResult.{PollResult}
use Rattle.host_machine.specs.Interface.Ingress.{Ingress}
use Rattle.host_machine.specs.Interface.Egress.{Egress}
use Rattle.host_machine.specs.Interface.Polling.{Polls}
use Rattle.host_machine.specs.Interface.Step.{Step, PolledIngressSingle, PolledEgress, Polled, OwnerActed}
use Rattle.host_machine.specs.Interface.Run.{Ran, Ends, Then, NoAct, ThenAct}
use Rattle.host_laws.proofs.Interface.RunConcatenation.{ran_on}
use Rattle.interface.specs.declared.interface.Interface.{Interface}
use Rattle.interface.specs.Stands.{StandsFor, Refinement}
use Rattle.interface.specs.Details.Refines.{RefinementTelling}
use Rattle.host.specs.Commands.{RefinementOfCommand, HostRefinesCommand}

module _ {D O : Type 0} (tells : D → List Event → D → Type 0) (did : O → ℕ → SocketSet → SocketSet → O → Type 0) where
  -- one command is a run of one place
  pub ran_one : (d e : D) (o p : O) (c : Command) (a : Answer) (H : Host) (after : Host → Type 0) →
      RefinementOfCommand tells did d e o p c a H after → Ran tells did d e o p (c ∷ []) (a ∷ []) H after
  ran_one d e o p c a H after went = record {
    transitions = record { command = c; answer = a; told = went.told; acts = went.acts; notes = went.notes; before = H; after = went.host } ∷ [];
    last = went.host;
    run = Then went.steps Ends;
    commanded = refl;
    answered = refl;
    tells_it = rw append-nil went.tells_it;
    owner_did = rw append-nil went.owner_did;
    stands = went.stands;
  }

  -- a run goes on by one command
  pub ran_more : ((a b c : D) (xs ys : List Event) → tells a xs b → tells b ys c → tells a (xs ++ ys) c) →
      (d m e : D) (o p q : O) (commands all_commands : List Command) (c : Command) (answers all_answers : List Answer)
      (a : Answer) (H : Host) (mid after : Host → Type 0) →
      all_commands ≡ commands ++ c ∷ [] → all_answers ≡ answers ++ a ∷ [] →
      Ran tells did d m o p commands answers H mid → HostRefinesCommand tells did m e p q c a mid after →
      Ran tells did d e o q all_commands all_answers H after
  ran_more tells_on d m e o p q commands all_commands c answers all_answers a H mid after is_commands is_answers ran goes =
      rw (is_commands, is_answers) (ran_on tells did tells_on d m e o p q commands (c ∷ []) answers (a ∷ []) H mid after ran
      (λ K stands. ran_one m e p q c a K after (goes K stands)))

  -- a call that sets something by a rule, or refuses
  pub was_led : {Rule : Host → Host → Type 0} (d : D) (o : O) (c : Command) (a : Answer) (H : Host) (after : Host → Type 0) →
      tells d [] d → Refinement Rule H after →
      ((K : Host) → Rule H K → Step c a H [] [] [] K) → RefinementOfCommand tells did d d o o c a H after
  was_led d o c a H after quiet led steps = record {
    told = [];
    acts = [];
    notes = [];
    host = led.host;
    tells_it = quiet;
    owner_did = NoAct;
    steps = steps led.host led.follows;
    stands = led.stands;
  }

  -- a frame was taken, or none came
  pub polled : (d e : D) (o : O) (t : ℤ) (answered : PollIngressSingleResult) (H : Host) (after : Host → Type 0) →
      RefinementTelling tells d e (Ingress t answered H) after →
      RefinementOfCommand tells did d e o o (command.PollIngressSingle t) (answer.PollIngressSingle answered) H after
  polled d e o t answered H after went = record {
    told = went.told;
    acts = [];
    notes = went.notes;
    host = went.host;
    tells_it = went.tells_it;
    owner_did = NoAct;
    steps = PolledIngressSingle went.steps;
    stands = went.stands;
  }

  -- the owner acted
  pub acted : (d : D) (o p : O) (number : ℕ) (i : Interface) (s t : Sockets (Bor (Unit {0}))) → did o number s t p → tells d [] d →
      HostRefinesCommand tells did d d o p (command.Owner number) answer.Owner (StandsFor i s) (StandsFor i t)
  acted d o p number i s t does quiet = λ H h. record {
    told = [];
    acts = record { number = number; before = H.sockets; after = t } ∷ [];
    notes = [];
    host = record H { sockets = t };
    tells_it = quiet;
    owner_did = ThenAct (rw (ap (λ (K : Host). K.sockets) h.same) does) NoAct;
    steps = OwnerActed t;
    stands = record { slots = h.slots; stand = h.stand; same = ap (λ (K : Host). record K { sockets = t }) h.same };
  }

  -- the sockets have sent what they could
  pub polled_egress : (d e : D) (o : O) (t : ℤ) (answered : PollResult) (H : Host) (after : Host → Type 0) →
      RefinementTelling tells d e (Egress t answered H) after →
      RefinementOfCommand tells did d e o o (command.PollEgress t) (answer.PollEgress answered) H after
  polled_egress d e o t answered H after went = record {
    told = went.told;
    acts = [];
    notes = went.notes;
    host = went.host;
    tells_it = went.tells_it;
    owner_did = NoAct;
    steps = PolledEgress went.steps;
    stands = went.stands;
  }

  -- a poll
  pub polled_all : (d e : D) (o : O) (t : ℤ) (budget : ℕ) (answered : PollResult) (H : Host) (after : Host → Type 0) →
      RefinementTelling tells d e (Polls t budget answered H) after →
      RefinementOfCommand tells did d e o o (command.Poll t budget) (answer.Poll answered) H after
  polled_all d e o t budget answered H after went = record {
    told = went.told;
    acts = [];
    notes = went.notes;
    host = went.host;
    tells_it = went.tells_it;
    owner_did = NoAct;
    steps = Polled went.steps;
    stands = went.stands;
  }

  -- a step of which nothing is told
  pub untold : (d : D) (o : O) (c : Command) (a : Answer) (H K : Host) (after : Host → Type 0) →
      tells d [] d → Step c a H [] [] [] K → after K → RefinementOfCommand tells did d d o o c a H after
  untold d o c a H K after quiet steps stands =
      record { told = []; acts = []; notes = []; host = K; tells_it = quiet; owner_did = NoAct; steps = steps; stands = stands }
