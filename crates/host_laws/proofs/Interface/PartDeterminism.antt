-- Parts of a call that are determined by what the device answers, one after the other.
use Rattle.std.proofs.Common.{◌≡◌, List, ◌++◌, sym, ◌∙◌, ap, append_assoc}
use Rattle.std.proofs.lemmas.List.{append_cancel_left}
use Rattle.net_base.specs.Device.{Event}
use Rattle.host_machine.specs.Context.Note.{Note}
use Rattle.host_machine.specs.Context.Host.{Host}
use Rattle.host_machine.specs.Interface.Parts.{Part, Both}
use Rattle.host_laws.specs.Laws.Determined.{IsOneCall}

-- a list is one and then another
pub record Splits {X : Type 0} (t x y : List X) : Type 0 where
  pub is : t ≡ x ++ y

pub split : {X : Type 0} {t : List X} (x y : List X) → t ≡ x ++ y → Splits t x y
split x y e = record { is = e }

pub joined : {X : Type 0} {t t' x x' y y' : List X} → Splits t x y → Splits t' x' y' → x ≡ x' → y ≡ y' → t ≡ t'
joined {x' = x'} {y = y} e e' one two = e.is ∙ ap (λ z. z ++ y) one ∙ ap (λ z. x' ++ z) two ∙ sym e'.is

-- by what is seen of events
module _ {B : Type 0} (seen : List Event → List B) (seen-append : (xs ys : List Event) → seen (xs ++ ys) ≡ seen xs ++ seen ys) where
  -- what is seen of two parts, before something else
  pub spread : {t x y : List Event} (rest : List B) → Splits t x y → seen t ++ rest ≡ seen x ++ (seen y ++ rest)
  spread {t} {x} {y} rest e = ap (λ z. seen z ++ rest) e.is ∙ ap (λ z. z ++ rest) (seen-append x y) ∙ append_assoc (seen x) (seen y) rest

  pub before : {t t' x x' y y' : List Event} (rest rest' : List B) →
      Splits t x y → Splits t' x' y' → seen t ++ rest ≡ seen t' ++ rest' → seen x ++ (seen y ++ rest) ≡ seen x' ++ (seen y' ++ rest')
  before rest rest' e e' same = sym (spread rest e) ∙ same ∙ spread rest' e'

  -- and behind the same
  pub behind : {t t' x x' y y' : List Event} (rest rest' : List B) →
      Splits t x y → Splits t' x' y' → x ≡ x' → seen t ++ rest ≡ seen t' ++ rest' → seen y ++ rest ≡ seen y' ++ rest'
  behind {x = x} {y = y} {y' = y'} rest rest' e e' one same =
      append_cancel_left (seen x) (seen y ++ rest) (seen y' ++ rest') (before rest rest' e e' same ∙ ap (λ z. seen z ++ (seen y' ++ rest')) (sym one))

  -- two passes of a part from one host, of which the same is seen, as far as they go, do the same
  abbrev pub IsOnce : {A : Type 0} → (A → Part) → Type 0
  IsOnce {A} part =
      (a b : A) (H : Host) (told told' : List Event) (notes notes' : List Note) (new new' : Host) (rest rest' : List B) →
      part a H told notes new → part b H told' notes' new' → seen told ++ rest ≡ seen told' ++ rest' → IsOneCall a b told told' notes notes' new new'

  -- of a part without an answer
  abbrev pub IsOncePart : Part → Type 0
  IsOncePart part = IsOnce {A = Unit {0}} (λ u. part)

  -- and of one part after another
  pub both_once : {A : Type 0} (one : Part) (two : A → Part) → IsOncePart one → IsOnce two → IsOnce (λ a. Both one (two a))
  both_once one two first second a b H told told' notes notes' new new' rest rest' p q same =
      let e = split p.told_one p.told_two p.events in
      let e' = split q.told_one q.told_two q.events in
      let begun = first tt tt H p.told_one q.told_one p.notes_one q.notes_one p.mid q.mid (seen p.told_two ++ rest)
      (seen q.told_two ++ rest') p.begins q.begins (before rest rest' e e' same) in
      let ended = second a b p.mid p.told_two q.told_two p.notes_two q.notes_two new new' rest rest' p.ends (rw begun.host_is q.ends)
      (behind rest rest' e e' begun.told_is same) in
      record {
        answer_is = ended.answer_is;
        told_is = joined e e' begun.told_is ended.told_is;
        notes_are = joined (split p.notes_one p.notes_two p.all_notes) (split q.notes_one q.notes_two q.all_notes) begun.notes_are ended.notes_are;
        host_is = ended.host_is;
      }
