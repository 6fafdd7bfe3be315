-- The discovery requests of a run are at least a second apart.
use Rattle.std.proofs.Common.{◌≡◌, ℕ, List, [], ◌∷◌, ◌++◌, refl, ap}
use Rattle.std.specs.Prelude.{ℤ, pos, ◌+ℤ◌, ◌≤ℤ◌, Option, Some, None, if◌then◌else◌}
use Rattle.std.specs.FinMap as map
use Rattle.std.specs.Cmp.{int_cmp_is}
use Rattle.std.proofs.lemmas.Int.{by_lt_z}
use Rattle.std.specs.declared.cmp.Ordering.{Ordering}
use Rattle.std.specs.declared.cmp.Ordering.TheVariants.{Less, Equal, Greater}
use Rattle.std.specs.Ordering.{int_cmp, is_lt}
use Rattle.ip_address.specs.declared.ip.IpAddress.{IpAddress}
use Rattle.iface_tables.specs.declared.neighbor.Neighbor.{Neighbor}
use Rattle.iface_tables.specs.declared.neighbor.Answer.TheVariants.{Found, NotFound, RateLimited}
use Rattle.iface_tables.specs.Neighbor.{answer_of, answer_from, answer_without_entry}
use Rattle.host_machine.specs.Send.Requests.{with_silence}
use Rattle.host_machine.specs.Context.Host.{Host, with_neighbors}
use Rattle.fragmentation.specs.Fragments.{Fragment}
use Rattle.fragmentation.specs.declared.key.FragKey.{FragKey}
use Rattle.host_machine.specs.Receive.Reassembly.{TakesFragment}
use Rattle.host_machine.specs.Context.Note.{Note, OfDiscovery, Ask, asks}
use Rattle.host_machine.specs.Interface.Run.{AreSpaced, Transition, Run, notes_in}
use Rattle.host_laws.proofs.Context.NotesBySubject.{asks-append, asks-slots}
use Rattle.host_laws.proofs.Context.UnchangedFields.{Keeps}
use Rattle.host_laws.proofs.Runs.Walk.{walk}

-- the silence after requests at these moments
abbrev silence_after : ℤ → List ℤ → ℤ
silence_after s [] = s
silence_after s (t ∷ ts) = silence_after (t +ℤ pos 1000000) ts

record Spaces (s : ℤ) (times : List ℤ) (s' : ℤ) : Type 0 where
  spaced : AreSpaced s times
  is_after : s' ≡ silence_after s times

abbrev SpacedOver : Host → List (List ℕ) → List Note → Host → Type 0
SpacedOver old frames notes new = Spaces old.neighbors.silent_until (asks notes) new.neighbors.silent_until

times_on : (s m s' : ℤ) (xs ys : List ℤ) → Spaces s xs m → Spaces m ys s' → Spaces s (xs ++ ys) s'
times_on s m s' [] ys a b = rw (← a.is_after) b
times_on s m s' (x ∷ xs) ys a b =
    let rest = times_on (x +ℤ pos 1000000) m s' xs ys (record { spaced = a.spaced.1; is_after = a.is_after }) b in
    record { spaced = (a.spaced.0, rest.spaced); is_after = rest.is_after }

keeps : (old new : Host) → Keeps old new → SpacedOver old [] [] new
keeps old new k = record { spaced = tt; is_after = ap (λ (K : Host). K.neighbors.silent_until) k.same }

-- who is asked for was looked up, and no silence stood
limited : RateLimited ≡ NotFound → ⊥
limited e = absurd cc

missing_passed : (silent t : ℤ) → answer_without_entry silent t ≡ NotFound → silent ≤ℤ t
missing_passed silent t unknown =
    by_lt_z t silent
    (λ before. absurd (limited (rw (← int_cmp_is t silent Less before) at unknown)))
    (λ passed. passed)

found_or_passed : (o : Ordering) (n : Neighbor) (silent t : ℤ) →
    (if is_lt o then Found n.hardware_addr else answer_without_entry silent t) ≡ NotFound → silent ≤ℤ t
found_or_passed Less n silent t unknown = absurd cc
found_or_passed Equal n silent t unknown = missing_passed silent t unknown
found_or_passed Greater n silent t unknown = missing_passed silent t unknown

pub silence_passed : (e : Option Neighbor) (silent t : ℤ) → answer_from e silent t ≡ NotFound → silent ≤ℤ t
silence_passed None silent t unknown = missing_passed silent t unknown
silence_passed (Some n) silent t unknown = found_or_passed (int_cmp t n.expires_at) n silent t unknown

asked : (H : Host) (hop : IpAddress) → answer_of H.neighbors hop H.moment ≡ NotFound →
    SpacedOver H [] (OfDiscovery (Ask H.moment) ∷ []) (with_neighbors H (with_silence H.neighbors H))
asked H hop unknown =
    record { spaced = (silence_passed (map.get H.neighbors.known hop) H.neighbors.silent_until H.moment unknown, tt); is_after = refl }

on : (a b c : Host) (fs gs : List (List ℕ)) (xs ys : List Note) → SpacedOver a fs xs b → SpacedOver b gs ys c → SpacedOver a (fs ++ gs) (xs ++ ys) c
on a b c fs gs xs ys one two =
    rw asks-append (times_on a.neighbors.silent_until b.neighbors.silent_until c.neighbors.silent_until (asks xs) (asks ys) one two)

fragments : (H : Host) (key : FragKey) (f : Fragment) (result : Option (List ℕ)) (notes : List Note) (new : Host) →
    TakesFragment key f result H notes new → SpacedOver H [] notes new
fragments H key f result notes new t = rw (t.noted, t.changed, asks-slots t.slot_notes) (record { spaced = tt; is_after = refl })

-- over a whole run
pub run_spaced : {first last : Host} {transitions : List Transition} →
    Run first transitions last → AreSpaced first.neighbors.silent_until (asks (notes_in transitions))
run_spaced r =
    (walk SpacedOver keeps on
    (λ H own source target mine. record { spaced = tt; is_after = refl })
    asked
    (λ H. record { spaced = tt; is_after = refl })
    (λ H h p reached. record { spaced = tt; is_after = refl })
    (λ H h id p first rest e form reached. record { spaced = tt; is_after = refl })
    (λ H t. record { spaced = tt; is_after = refl })
    fragments
    (λ H p rest e. record { spaced = tt; is_after = refl })
    (λ H r'. record { spaced = tt; is_after = refl })
    (λ H h. record { spaced = tt; is_after = refl })
    (λ H list. record { spaced = tt; is_after = refl })
    (λ H timeout. record { spaced = tt; is_after = refl })
    r).spaced
