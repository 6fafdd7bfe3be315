-- A law of single calls, over the calls of a poll.
use Rattle.std.proofs.Common.{ℕ, List, [], ◌++◌}
use Rattle.std.specs.Prelude.{ℤ, Bool}
use Rattle.net_base.specs.Device.{Event}
use Rattle.host_machine.specs.declared.results.PollIngressSingleResult.{PollIngressSingleResult}
use Rattle.host_machine.specs.declared.results.PollResult.{PollResult}
use Rattle.host_machine.specs.Context.Note.{Note}
use Rattle.host_machine.specs.Context.Host.{Host, at}
use Rattle.host_machine.specs.Interface.Ingress.{Ingress}
use Rattle.host_machine.specs.Interface.Egress.{Egress}
use Rattle.host_machine.specs.Interface.Parts.{Part, Both}
use Rattle.host_machine.specs.Interface.Polling.{Repeats, Begins, Again, Until, Spent, Done, Polls, after_maintenance}

module _ (Law : Part) (nothing : (H : Host) → Law H [] [] H)
    (on : (a b c : Host) (ts us : List Event) (xs ys : List Note) → Law a ts xs b → Law b us ys c → Law a (ts ++ us) (xs ++ ys) c) where
  -- one part after another
  pub both : {one two : Part} → ((old new : Host) (told : List Event) (notes : List Note) → one old told notes new → Law old told notes new) →
      ((old new : Host) (told : List Event) (notes : List Note) → two old told notes new → Law old told notes new) →
      (old new : Host) (told : List Event) (notes : List Note) → Both one two old told notes new → Law old told notes new
  both first second old new told notes b =
      rw (b.events, b.all_notes) (on old b.mid new b.told_one b.told_two b.notes_one b.notes_two (first old b.mid b.told_one b.notes_one b.begins)
      (second b.mid new b.told_two b.notes_two b.ends))

  -- calls of one kind, one after the other
  module _ {A : Type 0} {call : A → Host → List Event → List Note → Host → Type 0} {none : A} {changes : A → Bool}
      (called : (answer : A) (old new : Host) (told : List Event) (notes : List Note) → call answer old told notes new → Law old told notes new) where
    repeated : {old new : Host} {n : ℕ} {told : List Event} {notes : List Note} {changed : Bool} →
        Repeats call none changes old n told notes new changed → Law old told notes new
    repeated {old} Begins = nothing old
    repeated {old} {new} (Again {told_so = ts} {notes_so = so} {mid = mid} answer told notes _ r c some) =
        on old mid new ts told so notes (repeated r) (called answer mid new told notes c)

    pub until : {budget : ℕ} {changed : Bool} {old new : Host} {told : List Event} {notes : List Note} →
        Until call none changes budget changed old told notes new → Law old told notes new
    until (Spent r) = repeated r
    until {old = old} {new = new} (Done n told_so told_last notes_so notes_last mid l r c t e) =
        rw (t, e) (on old mid new told_so told_last notes_so notes_last (repeated r) (called none mid new told_last notes_last c))

  -- of a poll, behind its maintenance
  pub worked : (t : ℤ) →
      ((answer : PollIngressSingleResult) (old new : Host) (told : List Event) (notes : List Note) →
      Ingress t answer old told notes new → Law old told notes new) →
      ((answer : PollResult) (old new : Host) (told : List Event) (notes : List Note) → Egress t answer old told notes new → Law old told notes new) →
      {budget : ℕ} {answer : PollResult} {old new : Host} {told : List Event} {notes : List Note} →
      Polls t budget answer old told notes new → Law (after_maintenance (at old t)) told notes new
  worked t ingress egress {old = old} {new = new} p =
      rw (p.events, p.all_notes) (on (after_maintenance (at old t)) p.mid new p.told_receiving p.told_sending p.notes_receiving p.notes_sending
      (until ingress p.receives) (until egress p.sends))

  -- and of the whole of it
  pub polled : (t : ℤ) → ((H : Host) → Law H [] [] (after_maintenance (at H t))) →
      ((answer : PollIngressSingleResult) (old new : Host) (told : List Event) (notes : List Note) →
      Ingress t answer old told notes new → Law old told notes new) →
      ((answer : PollResult) (old new : Host) (told : List Event) (notes : List Note) → Egress t answer old told notes new → Law old told notes new) →
      {budget : ℕ} {answer : PollResult} {old new : Host} {told : List Event} {notes : List Note} →
      Polls t budget answer old told notes new → Law old told notes new
  polled t maintains ingress egress {old = old} {new = new} {told = told} {notes = notes} p =
      on old (after_maintenance (at old t)) new [] told [] notes (maintains old) (worked t ingress egress p)
