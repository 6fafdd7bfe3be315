-- Every run is one of single calls.
use Rattle.std.proofs.Common.{◌≡◌, ℕ, List, [], ◌∷◌, ◌++◌, refl, sym, ◌∙◌, ap, append_assoc}
use Rattle.std.proofs.lemmas.List.{append-nil}
use Rattle.std.specs.Prelude.{ℤ}
use Rattle.std.specs.List.{AllByRecursion}
use Rattle.net_base.specs.Device.{Event}
use Rattle.host_machine.specs.declared.command.Command.{Command}
use Rattle.host_machine.specs.declared.command.Command.TheVariants as command
use Rattle.host_machine.specs.declared.command.Answer.{Answer}
use Rattle.host_machine.specs.Context.Note.{Note}
use Rattle.host_machine.specs.Context.Host.{Host}
use Rattle.host_machine.specs.Interface.Step.{Act, Step}
use Rattle.host_machine.specs.Interface.Step as step
use Rattle.host_machine.specs.Interface.Run.{Transition, Run, Ends, Then, events_in, acts_in, notes_in}
use Rattle.host_laws.specs.Laws.Unfolded.{IsSingle, Unfolds}
use Rattle.host_laws.proofs.Interface.PollCalls.{polled}

pub run_on : {first mid last : Host} {ps qs : List Transition} → Run first ps mid → Run mid qs last → Run first (ps ++ qs) last
run_on Ends more = more
run_on (Then s r) more = Then s (run_on r more)

pub events_in-append : (ps qs : List Transition) → events_in (ps ++ qs) ≡ events_in ps ++ events_in qs
events_in-append [] qs = refl
events_in-append (p ∷ ps) qs = ap (λ t. p.told ++ t) (events_in-append ps qs) ∙ sym (append_assoc p.told (events_in ps) (events_in qs))

pub acts_in-append : (ps qs : List Transition) → acts_in (ps ++ qs) ≡ acts_in ps ++ acts_in qs
acts_in-append [] qs = refl
acts_in-append (p ∷ ps) qs = ap (λ t. p.acts ++ t) (acts_in-append ps qs) ∙ sym (append_assoc p.acts (acts_in ps) (acts_in qs))

pub notes_in-append : (ps qs : List Transition) → notes_in (ps ++ qs) ≡ notes_in ps ++ notes_in qs
notes_in-append [] qs = refl
notes_in-append (p ∷ ps) qs = ap (λ t. p.notes ++ t) (notes_in-append ps qs) ∙ sym (append_assoc p.notes (notes_in ps) (notes_in qs))

all_on : (R : Command → Type 0) (ps qs : List Transition) → AllByRecursion (λ p. R p.command) ps → AllByRecursion (λ p. R p.command) qs →
    AllByRecursion (λ p. R p.command) (ps ++ qs)
all_on R [] qs a b = b
all_on R (p ∷ ps) qs a b = (a.0, all_on R ps qs a.1 b)

-- what is so of the commands of a run is so of the single calls, if it is of those of a poll
module _ (Q R : Command → Type 0) (single : (c : Command) → IsSingle c → Q c → R c)
    (polls : (t : ℤ) (budget : ℕ) →
    Q (command.Poll t budget) → R (command.PollMaintenance t) × R (command.PollIngressSingle t) × R (command.PollEgress t)) where
  -- single calls from a host to a host, by which this is told, done and noted
  pub record Singles (old : Host) (told : List Event) (acts : List Act) (notes : List Note) (new : Host) : Type 0 where
    pub transitions : List Transition
    pub run : Run old transitions new
    pub are : AllByRecursion (λ p. R p.command) transitions
    pub all_told : events_in transitions ≡ told
    pub all_acts : acts_in transitions ≡ acts
    pub all_notes : notes_in transitions ≡ notes

  no_call : (H : Host) → Singles H [] [] [] H
  no_call H = record { transitions = []; run = Ends; are = tt; all_told = refl; all_acts = refl; all_notes = refl }

  one_call : {c : Command} {a : Answer} {old new : Host} {told : List Event} {acts : List Act} {notes : List Note} →
      R c → Step c a old told acts notes new → Singles old told acts notes new
  one_call {c} {a} {old} {new} {told} {acts} {notes} is s = record {
    transitions = record { command = c; answer = a; told = told; acts = acts; notes = notes; before = old; after = new } ∷ [];
    run = Then s Ends;
    are = (is, tt);
    all_told = append-nil told;
    all_acts = append-nil acts;
    all_notes = append-nil notes;
  }

  calls_on : (a b c : Host) (ts us : List Event) (ds es : List Act) (xs ys : List Note) →
      Singles a ts ds xs b → Singles b us es ys c → Singles a (ts ++ us) (ds ++ es) (xs ++ ys) c
  calls_on a b c ts us ds es xs ys one two = record {
    transitions = one.transitions ++ two.transitions;
    run = run_on one.run two.run;
    are = all_on R one.transitions two.transitions one.are two.are;
    all_told = events_in-append one.transitions two.transitions ∙ rw (one.all_told, two.all_told) refl;
    all_acts = acts_in-append one.transitions two.transitions ∙ rw (one.all_acts, two.all_acts) refl;
    all_notes = notes_in-append one.transitions two.transitions ∙ rw (one.all_notes, two.all_notes) refl;
  }

  singles : {c : Command} {a : Answer} {old new : Host} {told : List Event} {acts : List Act} {notes : List Note} →
      Q c → Step c a old told acts notes new → Singles old told acts notes new
  singles q (step.Polled {t} {budget} {result} {old} {new} {told} {notes} p) =
      polled (λ old told notes new. Singles old told [] notes new) no_call (λ a b c ts us xs ys one two. calls_on a b c ts us [] [] xs ys one two)
      t (λ H. one_call {c = command.PollMaintenance t} (polls t budget q).0 step.PolledMaintenance)
      (λ answer old new told notes i. one_call {c = command.PollIngressSingle t} (polls t budget q).1 (step.PolledIngressSingle i))
      (λ answer old new told notes e. one_call {c = command.PollEgress t} (polls t budget q).2 (step.PolledEgress e))
      p
  singles q other = one_call (single _ tt q) other

  pub all_singles : {first last : Host} {transitions : List Transition} → AllByRecursion (λ p. Q p.command) transitions → Run first transitions last →
      Singles first (events_in transitions) (acts_in transitions) (notes_in transitions) last
  all_singles {first} q Ends = no_call first
  all_singles q (Then {told = told} {acts = acts} {notes = notes} {transitions = ps} s r) =
      calls_on _ _ _ told (events_in ps) acts (acts_in ps) notes (notes_in ps) (singles q.0 s) (all_singles q.1 r)

any_command : (ps : List Transition) → AllByRecursion (λ p. Unit {0}) ps
any_command [] = tt
any_command (p ∷ ps) = (tt, any_command ps)

pub run_unfolds : {first last : Host} {transitions : List Transition} → Run first transitions last → Unfolds first transitions last
run_unfolds {first} {last} {transitions} r =
    let s = all_singles (λ c. Unit {0}) IsSingle (λ c is q. is) (λ t budget q. (tt, tt, tt)) (any_command transitions) r in
    record { singles = s.transitions; run = s.run; are_single = s.are; same_told = s.all_told; same_acts = s.all_acts; same_notes = s.all_notes }
