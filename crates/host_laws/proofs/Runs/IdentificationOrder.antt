-- The identifications that a run's dispatches take.
use Rattle.std.proofs.Common.{◌≡◌, ◌≢◌, ℕ, ◌+◌, ◌%◌, ◌^◌, ◌<◌, ◌≤◌, suc, List, [], ◌∷◌, ◌++◌, length, refl, ap, arith}
use Rattle.std.specs.Prelude.{Option}
use Rattle.fragmentation.specs.Fragments.{Fragment}
use Rattle.fragmentation.specs.declared.key.FragKey.{FragKey}
use Rattle.host_machine.specs.Context.Note.{Note, identifications}
use Rattle.host_machine.specs.Context.Host.{Host}
use Rattle.host_machine.specs.Receive.Reassembly.{TakesFragment}
use Rattle.host_laws.specs.Laws.Order.{AreCounted, HasNone, AreDistinct}
use Rattle.host_machine.specs.Interface.Run.{Transition, Run, notes_in}
use Rattle.host_laws.proofs.Context.NotesBySubject.{identifications-append, identifications-slots}
use Rattle.host_laws.proofs.Runs.Walk.{walk}

-- the identification behind these
abbrev next_after : ℕ → List ℕ → ℕ
next_after n [] = n
next_after n (i ∷ ids) = next_after ((n + 1) % 2 ^ 16) ids

record Counts (n : ℕ) (ids : List ℕ) (m : ℕ) : Type 0 where
  counted : AreCounted n ids
  is_after : m ≡ next_after n ids

abbrev CountedOver : Host → List (List ℕ) → List Note → Host → Type 0
CountedOver old frames notes new = Counts old.ipv4_id (identifications notes) new.ipv4_id

counts_on : (n m k : ℕ) (xs ys : List ℕ) → Counts n xs m → Counts m ys k → Counts n (xs ++ ys) k
counts_on n m k [] ys a b = rw (← a.is_after) b
counts_on n m k (x ∷ xs) ys a b =
    let rest = counts_on ((n + 1) % 2 ^ 16) m k xs ys (record { counted = a.counted.1; is_after = a.is_after }) b in
    record { counted = (a.counted.0, rest.counted); is_after = rest.is_after }

on : (a b c : Host) (fs gs : List (List ℕ)) (xs ys : List Note) →
    CountedOver a fs xs b → CountedOver b gs ys c → CountedOver a (fs ++ gs) (xs ++ ys) c
on a b c fs gs xs ys one two = rw identifications-append (counts_on a.ipv4_id b.ipv4_id c.ipv4_id (identifications xs) (identifications ys) one two)

fragments : (H : Host) (key : FragKey) (f : Fragment) (result : Option (List ℕ)) (notes : List Note) (new : Host) →
    TakesFragment key f result H notes new → CountedOver H [] notes new
fragments H key f result notes new t = rw (t.noted, t.changed, identifications-slots t.slot_notes) (record { counted = tt; is_after = refl })

-- over a whole run
pub run_counted : {first last : Host} {transitions : List Transition} →
    Run first transitions last → AreCounted first.ipv4_id (identifications (notes_in transitions))
run_counted r =
    (walk CountedOver (λ old new k. record { counted = tt; is_after = ap (λ (K : Host). K.ipv4_id) k.same }) on
    (λ H own source target mine. record { counted = tt; is_after = refl })
    (λ H hop unknown. record { counted = tt; is_after = refl })
    (λ H. record { counted = (refl, tt); is_after = refl })
    (λ H h p reached. record { counted = tt; is_after = refl })
    (λ H h id p first rest e form reached. record { counted = tt; is_after = refl })
    (λ H t. record { counted = tt; is_after = refl })
    fragments
    (λ H p rest e. record { counted = tt; is_after = refl })
    (λ H r'. record { counted = tt; is_after = refl })
    (λ H h. record { counted = tt; is_after = refl })
    (λ H list. record { counted = tt; is_after = refl })
    (λ H timeout. record { counted = tt; is_after = refl })
    r).counted

-- a number that was counted d before isn't met again, as long as fewer than 2 ^ 16 were counted
apart : (x d n : ℕ) → n ≡ (x + d) % 2 ^ 16 → 1 ≤ d → d < 2 ^ 16 → x ≢ n
apart x d n e one few = λ same. absurd (omega arith)

later : (x d n : ℕ) → n ≡ (x + d) % 2 ^ 16 → (n + 1) % 2 ^ 16 ≡ (x + suc d) % 2 ^ 16
later x d n e = omega arith

has_none : (x d n : ℕ) (ids : List ℕ) → n ≡ (x + d) % 2 ^ 16 → 1 ≤ d → d + length ids ≤ 2 ^ 16 → AreCounted n ids → HasNone x ids
has_none x d n [] e one few c = tt
has_none x d n (i ∷ ids) e one few c =
    (rw c.0 (apart x d n e one (omega arith)), has_none x (suc d) ((n + 1) % 2 ^ 16) ids (later x d n e) (omega arith) (omega arith) c.1)

pub distinct : (n : ℕ) (ids : List ℕ) → AreCounted n ids → length ids < 2 ^ 16 → AreDistinct ids
distinct n [] c few = tt
distinct n (i ∷ ids) c few =
    (rw c.0 (has_none n 1 ((n + 1) % 2 ^ 16) ids refl (omega arith) (omega arith) c.1), distinct ((n + 1) % 2 ^ 16) ids c.1 (omega arith))
