-- Calls one after the other, and a poll, over plain variables.
use Rattle.std.proofs.Common.{◌≡◌, ◌≢◌, ℕ, ◌+◌, ◌<◌, List, [], ◌++◌, refl, arith}
use Rattle.std.specs.Prelude.{ℤ, ◌≤ℤ◌, ◌<ℤ◌, Bool, ◌||◌, true, false}
use Rattle.std.specs.Cmp.{int_ranks}
use Rattle.std.proofs.lemmas.Int.{ints}
use Rattle.std.specs.declared.cmp.Ordering.{Ordering}
use Rattle.std.specs.declared.cmp.Ordering.TheVariants.{Less, Equal, Greater}
use Rattle.std.specs.Ordering.{int_cmp, is_le, MatchOrdering}
use Rattle.net_base.specs.Device.{Event}
use Rattle.host_machine.specs.declared.results.PollResult.{PollResult}
use Rattle.host_machine.specs.Context.Host.{Host, at}
use Rattle.host_machine.specs.Context.Note.{Note}
use Rattle.host_machine.specs.Interface.Egress.{answer_of}
use Rattle.host_machine.specs.Interface.Polling.{Repeats, Begins, Again, Until, Spent, Done, Receives, Sends, Polls, after_maintenance}
use Rattle.interface.specs.Details.Refines.{RefinementTelling, HostRefinesTelling}

le_ranked : (x t : ℤ) (o : Ordering) → MatchOrdering o (x <ℤ t) (x ≡ t) (t <ℤ x) → is_le o ≡ true → x ≤ℤ t
le_ranked x t Less m e = omega (arith, ints)
le_ranked x t Equal m e = rw m (omega (arith, ints))
le_ranked x t Greater m e = absurd cc

pub le_by : (x t : ℤ) → is_le (int_cmp x t) ≡ true → x ≤ℤ t
le_by x t e = le_ranked x t (int_cmp x t) (int_ranks x t) e

-- a socket that changed has changed, and one that didn't makes no difference
pub or_true : (b : Bool) → true ≡ (b || true)
or_true true = refl
or_true false = refl

pub or_false : (b : Bool) → b ≡ (b || false)
or_false true = refl
or_false false = refl

module _ {D : Type 0} (tells : D → List Event → D → Type 0)
    (tells_on : (a b c : D) (xs ys : List Event) → tells a xs b → tells b ys c → tells a (xs ++ ys) c)
    {A : Type 0} (call : A → Host → List Event → List Note → Host → Type 0) (nothing : A) (changes : A → Bool) where
  abbrev pub Repeated : D → D → Host → ℕ → Bool → (Host → Type 0) → Type 0
  Repeated d m H n changed stands = RefinementTelling tells d m (λ told notes K. Repeats call nothing changes H n told notes K changed) stands

  pub begins : (d : D) (H : Host) (stands : Host → Type 0) → tells d [] d → stands H → Repeated d d H 0 false stands
  begins d H stands quiet h = record { told = []; notes = []; host = H; tells_it = quiet; steps = Begins; stands = h }

  pub again : (d m e : D) (H : Host) (n : ℕ) (changed changed' : Bool) (mid after : Host → Type 0) (answer : A) →
      Repeated d m H n changed mid → answer ≢ nothing → HostRefinesTelling tells m e (call answer) mid after →
      changed' ≡ (changed || changes answer) → Repeated d e H (n + 1) changed' after
  again d m e H n changed changed' mid after answer so_far some goes same =
      let next = goes so_far.host so_far.stands in rw same (record {
        told = so_far.told ++ next.told;
        notes = so_far.notes ++ next.notes;
        host = next.host;
        tells_it = tells_on d m e so_far.told next.told so_far.tells_it next.tells_it;
        steps = Again answer next.told next.notes next.host so_far.steps next.steps some;
        stands = next.stands;
      })

  pub spent : (d m : D) (H : Host) (n : ℕ) (changed : Bool) (stands : Host → Type 0) →
      Repeated d m H n changed stands → RefinementTelling tells d m (Until call nothing changes n changed H) stands
  spent d m H n changed stands so_far = record {
    told = so_far.told;
    notes = so_far.notes;
    host = so_far.host;
    tells_it = so_far.tells_it;
    steps = Spent so_far.steps;
    stands = so_far.stands;
  }

  pub done : (d m e : D) (H : Host) (n budget : ℕ) (changed : Bool) (mid after : Host → Type 0) →
      Repeated d m H n changed mid → n < budget → HostRefinesTelling tells m e (call nothing) mid after →
      RefinementTelling tells d e (Until call nothing changes budget changed H) after
  done d m e H n budget changed mid after so_far below goes =
      let next = goes so_far.host so_far.stands in record {
        told = so_far.told ++ next.told;
        notes = so_far.notes ++ next.notes;
        host = next.host;
        tells_it = tells_on d m e so_far.told next.told so_far.tells_it next.tells_it;
        steps = Done n so_far.told next.told so_far.notes next.notes so_far.host below so_far.steps next.steps refl refl;
        stands = next.stands;
      }

pub polled_whole : {D : Type 0} (tells : D → List Event → D → Type 0)
    (tells_on : (a b c : D) (xs ys : List Event) → tells a xs b → tells b ys c → tells a (xs ++ ys) c) →
    (d m e : D) (t : ℤ) (budget : ℕ) (received went : Bool) (answer : PollResult) (mid after : Host → Type 0) (H : Host) →
    RefinementTelling tells d m (Receives t budget received (after_maintenance (at H t))) mid →
    HostRefinesTelling tells m e (Sends t budget went) mid after → answer ≡ answer_of (received || went) →
    RefinementTelling tells d e (Polls t budget answer H) after
polled_whole tells tells_on d m e t budget received went answer mid after H first goes answers =
    let second = goes first.host first.stands in record {
      told = first.told ++ second.told;
      notes = first.notes ++ second.notes;
      host = second.host;
      tells_it = tells_on d m e first.told second.told first.tells_it second.tells_it;
      steps = record {
        mid = first.host;
        received = received;
        went = went;
        told_receiving = first.told;
        told_sending = second.told;
        notes_receiving = first.notes;
        notes_sending = second.notes;
        receives = first.steps;
        sends = second.steps;
        events = refl;
        all_notes = refl;
        answers = answers;
      };
      stands = second.stands;
    }
