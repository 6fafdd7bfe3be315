-- The hosts of a network make runs, and what each received was sent by one of them.
use Rattle.std.proofs.Common.{inl, inr, ◌≡◌, ℕ, zero, suc, Bool, true, false, List, [], ◌∷◌, ◌++◌, refl, sym, ◌∙◌, ap, subst, Some, None}
use Rattle.std.specs.Prelude.{◌==◌, if◌then◌else◌, map, set, drop, Option}
use Rattle.std.specs.List.{AllByRecursion, slice_get}
use Rattle.net_base.specs.Device.{handed_frames, sent_frames}
use Rattle.net_base.proofs.KeptFrames.{frames_are_kept}
use Rattle.host_machine.specs.Context.Real.{IsRegular}
use Rattle.host_machine.specs.Context.Host.{Host}
use Rattle.host_machine.specs.Interface.Step.{Step}
use Rattle.host_machine.specs.Interface.Run.{Transition, Run, Ends, Then, events_in}
use Rattle.host_laws.proofs.Runs.Walk.{sent_frames-append}
use Rattle.host_laws.proofs.Receive.SlotEffects.{handed_frames-append}
use Rattle.host_machine.proofs.Receive.Pieces.{IsIn, contains_in, in_left, in_right}
use Rattle.host_laws.proofs.Interface.RunConcatenation.{run_laws}
use Rattle.host_laws.specs.Network.{IsHost, SendsBySockets, SentBySome, WereSentBySome}
use Rattle.interface.specs.Stands.{StandsFor}
use Rattle.host.specs.declared.link.Host.{Host as Linked}
use Rattle.host_laws.proofs.LessWork.{runs_rest}
use Rattle.host_laws.proofs.PingsBack.{runs_return}
use Rattle.host_laws.proofs.RunTraffic.{runs_keep_datagrams}
use Rattle.host_laws.proofs.DatagramOrigin.{all_parted, runs_get_what_was_sent}
use Rattle.host_laws.proofs.NetworkOrigin.{runs_get_what_some_sent}
use Rattle.host.specs.Link.{End, Owns, Acts, end_with_frame}
use Rattle.std.proofs.lemmas.Bool.{eq-eqb, eqb-false, eqb-true}
use Rattle.network.specs.Kept.{Sent, frame_of, wire_with}
use Rattle.network.specs.Network.{AreClosed, Call, FrameCame, OutsideCame, Forgot, Goes, HostRan, Move, Network, Stops, after_acting, end_taken}
use Rattle.network.specs.Network.{Stand, transitions_of}
use Rattle.network.specs.Laws.{HostGoes, MaySend, NetworksKeepLaws, hosts_of}

-- an element that was replaced, and the others
set_same : {X : Type 0} (xs : List X) (i : ℕ) (x y : X) → slice_get xs i ≡ Some x → slice_get (set xs i y) i ≡ Some y
set_same [] i x y e = absurd cc
set_same (z ∷ xs) zero x y e = refl
set_same (z ∷ xs) (suc i) x y e = set_same xs i x y e

set_other : {X : Type 0} (xs : List X) (i j : ℕ) (y : X) → (i ≡ j → ⊥) → slice_get (set xs i y) j ≡ slice_get xs j
set_other [] i j y other = refl
set_other (z ∷ xs) zero zero y other = absurd (other refl)
set_other (z ∷ xs) zero (suc j) y other = refl
set_other (z ∷ xs) (suc i) zero y other = refl
set_other (z ∷ xs) (suc i) (suc j) y other = set_other xs i j y (λ e. other (ap suc e))

-- a run of one host
run_cons : (p : Transition) (H K last : Host) (ps : List Transition) →
    Step p.command p.answer H p.told p.acts p.notes K → p.before ≡ H → p.after ≡ K → Run K ps last → Run H (p ∷ ps) last
run_cons p H K last ps s b a r =
    let s' : Step p.command p.answer p.before p.told p.acts p.notes p.after = rw (b, a) s in
    let r' : Run p.after ps last = rw a r in
    subst (λ X. Run X (p ∷ ps) last) b (Then s' r')

record RunAt {O : Type 0} (last : Network (End O)) (moves : List Move) (i : ℕ) (H : Host) : Type 0 where
  end : End O
  there : slice_get last.hosts i ≡ Some end
  run : Run H (transitions_of moves i) end.host

-- a move of host k, seen by host i
moved : {O : Type 0} (a last : Network (End O)) (k i : ℕ) (p : Transition) (moves : List Move) (before old new e : End O) →
    slice_get a.hosts k ≡ Some before → old.host ≡ before.host → Step p.command p.answer old.host p.told p.acts p.notes new.host →
    p.before ≡ old.host → p.after ≡ new.host → slice_get a.hosts i ≡ Some e →
    ((e' : End O) → slice_get (after_acting a k new).hosts i ≡ Some e' → RunAt last moves i e'.host) →
    RunAt last (record { host = k; transition = p } ∷ moves) i e.host
moved {O} a last k i p moves before old new e at same step b f there rest = by (k == i) refl where
  by : (t : Bool) → (k == i) ≡ t → RunAt last (record { host = k; transition = p } ∷ moves) i e.host
  by true is =
      let k_is : k ≡ i = eqb-true k i is in
      let e_is : before ≡ e = let both : Some before ≡ Some e = sym at ∙ rw k_is there in cc in
      let r = rest (end_taken new) (rw (← k_is) (set_same a.hosts k before (end_taken new) at)) in
      let first : old.host ≡ e.host = same ∙ ap (λ (x : End O). x.host) e_is in record {
        end = r.end;
        there = r.there;
        run = rw is (subst (λ X. Run X (p ∷ transitions_of moves i) r.end.host) first
            (run_cons p old.host new.host r.end.host (transitions_of moves i) step b f r.run));
      }
  by false is = let r = rest e (set_other a.hosts k i (end_taken new) (eqb-false k i is) ∙ there) in record { end = r.end; there = r.there; run = rw is r.run }

run_at : {O : Type 0} {did : Owns O} {a last : Network (End O)} {calls : List Call} {moves : List Move} →
    Goes did a calls moves last → (i : ℕ) (e : End O) → slice_get a.hosts i ≡ Some e → RunAt last moves i e.host
run_at Stops i e there = record { end = e; there = there; run = Ends }
run_at {a = a} {last = last} (HostRan {old = old} {new = new} {p = p} {moves = moves} k at x g) i e there =
    moved a last k i p moves old old new e at refl x.step x.before x.after there (λ e' there'. run_at g i e' there')
run_at {a = a} {last = last} (FrameCame {old = old} {new = new} {p = p} {moves = moves} number n k t frame at found is x g) i e there =
    moved a last k i p moves old (end_with_frame old frame) new e at refl x.step x.before x.after there (λ e' there'. run_at g i e' there')
run_at {a = a} {last = last} (OutsideCame {old = old} {new = new} {p = p} {moves = moves} k t frame at is x g) i e there =
    moved a last k i p moves old (end_with_frame old frame) new e at refl x.step x.before x.after there (λ e' there'. run_at g i e' there')
run_at (Forgot count g) i e there = run_at g i e there

-- a frame that a host sent in one of these moves
abbrev SentIn : List Move → ℕ → List ℕ → Type 0
SentIn moves j frame = IsIn frame (sent_frames (events_in (transitions_of moves j)))

sent_first : (m : Move) (moves : List Move) (frame : List ℕ) → IsIn frame (sent_frames m.transition.told) → SentIn (m ∷ moves) m.host frame
sent_first m moves frame i = by (m.host == m.host) (eq-eqb m.host m.host refl) where
  by : (b : Bool) → b ≡ true →
      IsIn frame (sent_frames (events_in (if b then m.transition ∷ transitions_of moves m.host else transitions_of moves m.host)))
  by true is = subst (IsIn frame) (sym (sent_frames-append m.transition.told (events_in (transitions_of moves m.host))))
      (in_left (sent_frames m.transition.told) (sent_frames (events_in (transitions_of moves m.host))) frame i)
  by false is = absurd cc

sent_later : (m : Move) (moves : List Move) (j : ℕ) (frame : List ℕ) → SentIn moves j frame → SentIn (m ∷ moves) j frame
sent_later m moves j frame i = by (m.host == j) where
  by : (b : Bool) → IsIn frame (sent_frames (events_in (if b then m.transition ∷ transitions_of moves j else transitions_of moves j)))
  by true = subst (IsIn frame) (sym (sent_frames-append m.transition.told (events_in (transitions_of moves j))))
      (in_right (sent_frames m.transition.told) (sent_frames (events_in (transitions_of moves j))) frame i)
  by false = i

-- what holds of each element
all_get : {X : Type 0} (P : X → Type 0) (xs : List X) (i : ℕ) (x : X) → AllByRecursion P xs → slice_get xs i ≡ Some x → P x
all_get P [] i x all e = absurd cc
all_get P (y ∷ xs) zero x all e = let same : y ≡ x = cc in subst P same all.0
all_get P (y ∷ xs) (suc i) x all e = all_get P xs i x all.1 e

all_set : {X : Type 0} (P : X → Type 0) (xs : List X) (i : ℕ) (y : X) → AllByRecursion P xs → P y → AllByRecursion P (set xs i y)
all_set P [] i y all p = tt
all_set P (x ∷ xs) zero y all p = (p, all.1)
all_set P (x ∷ xs) (suc i) y all p = (all.0, all_set P xs i y all.1 p)

all_on : {X : Type 0} (P : X → Type 0) (xs ys : List X) → AllByRecursion P xs → AllByRecursion P ys → AllByRecursion P (xs ++ ys)
all_on P [] ys one two = two
all_on P (x ∷ xs) ys one two = (one.0, all_on P xs ys one.1 two)

all_drop : {X : Type 0} (P : X → Type 0) (n : ℕ) (xs : List X) → AllByRecursion P xs → AllByRecursion P (drop n xs)
all_drop P zero xs all = all
all_drop P (suc n) [] all = tt
all_drop P (suc n) (x ∷ xs) all = all_drop P n xs all.1

each_in : {X : Type 0} (P : X → Type 0) (xs : List X) → ((x : X) → IsIn x xs → P x) → AllByRecursion P xs
each_in P [] f = tt
each_in P (x ∷ xs) f = (f x (inl refl), each_in P xs (λ y i. f y (inr i)))

set_there : {X : Type 0} (xs : List X) (i j : ℕ) (y z : X) → slice_get (set xs i y) j ≡ Some z → (x : X) × (slice_get xs j ≡ Some x)
set_there [] i j y z e = absurd cc
set_there (x ∷ xs) zero zero y z e = (x, refl)
set_there (x ∷ xs) zero (suc j) y z e = (z, e)
set_there (x ∷ xs) (suc i) zero y z e = (x, refl)
set_there (x ∷ xs) (suc i) (suc j) y z e = set_there xs i j y z e

-- whatever holds of each frame that is sent, holds of each that is received
module _ {O : Type 0} (did : Owns O) (Q : List ℕ → Type 0) where
  abbrev AllOf : List (List ℕ) → Type 0
  AllOf frames = AllByRecursion Q frames

  record Fine (a : Network (End O)) : Type 0 where
    wire : AllByRecursion (λ (s : Sent). AllOf s.frames) a.wire
    queued : AllByRecursion (λ (e : End O). AllOf e.device.queued) a.hosts
    sent : AllByRecursion (λ (e : End O). e.device.sent ≡ []) a.hosts

  wire_on : (i : ℕ) (frames : List (List ℕ)) (wire : List Sent) → AllOf frames → AllByRecursion (λ (s : Sent). AllOf s.frames) wire →
      AllByRecursion (λ (s : Sent). AllOf s.frames) (wire_with i frames wire)
  wire_on i [] wire all before = before
  wire_on i (f ∷ frames) wire all before = all_on (λ (s : Sent). AllOf s.frames) wire _ before (all, tt)

  found_in : (forgotten : Bool) (wire : List Sent) (i k : ℕ) (frame : List ℕ) → AllByRecursion (λ (s : Sent). AllOf s.frames) wire →
      frame_of (if forgotten then None else slice_get wire i) k ≡ Some frame → Q frame
  found_in true wire i k frame all e = absurd cc
  found_in false wire i k frame all e = by (slice_get wire i) refl e where
    by : (s : Option Sent) → slice_get wire i ≡ s → frame_of s k ≡ Some frame → Q frame
    by None at e = absurd cc
    by (Some s) at e = all_get Q s.frames k frame (all_get (λ (s : Sent). AllOf s.frames) wire i s all at) e

  record Acts-on (a : Network (End O)) (i : ℕ) (p : Transition) (new : End O) : Type 0 where
    handed : AllOf (handed_frames p.told)
    fine : Fine (after_acting a i new)

  act : (a : Network (End O)) (i : ℕ) (p : Transition) (old new : End O) → Fine a → Acts did p old new →
      AllOf old.device.queued → old.device.sent ≡ [] → AllOf (sent_frames p.told) → Acts-on a i p new
  act a i p old new f x queued sent sends =
      let k = frames_are_kept old.device new.device p.told x.tells in
      let halves = all_parted Q (handed_frames p.told) new.device.queued (subst AllOf k.queue queued) in
      let sent_is : new.device.sent ≡ sent_frames p.told = k.sent ∙ ap (λ s. s ++ sent_frames p.told) sent in record {
        handed = halves.0;
        fine = record {
          wire = wire_on i new.device.sent a.wire (rw sent_is sends) f.wire;
          queued = all_set (λ (e : End O). AllOf e.device.queued) a.hosts i (end_taken new) f.queued halves.1;
          sent = all_set (λ (e : End O). e.device.sent ≡ []) a.hosts i (end_taken new) f.sent refl;
        };
      }

  abbrev AllSent : List Move → Type 0
  AllSent moves = AllByRecursion (λ m. AllOf (sent_frames m.transition.told)) moves

  abbrev AllHanded : List Move → Type 0
  AllHanded moves = AllByRecursion (λ m. AllOf (handed_frames m.transition.told)) moves

  all_handed : {a last : Network (End O)} {calls : List Call} {moves : List Move} →
      Goes did a calls moves last → AreClosed calls → Fine a → AllSent moves → AllHanded moves
  all_handed Stops closed f sends = tt
  all_handed {a = a} (HostRan {old = old} {new = new} {p = p} i at x g) closed f sends =
      let y = act a i p old new f x (all_get (λ (e : End O). AllOf e.device.queued) a.hosts i old f.queued at)
      (all_get (λ (e : End O). e.device.sent ≡ []) a.hosts i old f.sent at) sends.0 in (y.handed, all_handed g closed y.fine sends.1)
  all_handed {a = a} (FrameCame {old = old} {new = new} {p = p} number k i t frame at found is x g) closed f sends =
      let q : Q frame = found_in _ a.wire _ k frame f.wire found in
      let queued : AllOf (old.device.queued ++ frame ∷ []) = all_on Q old.device.queued (frame ∷ [])
      (all_get (λ (e : End O). AllOf e.device.queued) a.hosts i old f.queued at) (q, tt) in
      let y = act a i p (end_with_frame old frame) new f x queued
      (all_get (λ (e : End O). e.device.sent ≡ []) a.hosts i old f.sent at) sends.0 in (y.handed, all_handed g closed y.fine sends.1)
  all_handed (OutsideCame i t frame at is x g) closed f sends = absurd closed
  all_handed {a = a} (Forgot count g) closed f sends = all_handed g closed
      (record { wire = all_drop (λ (s : Sent). AllOf s.frames) count a.wire f.wire; queued = f.queued; sent = f.sent }) sends

  -- of one host
  handed_of : (moves : List Move) (i : ℕ) → AllHanded moves → AllOf (handed_frames (events_in (transitions_of moves i)))
  handed_of [] i all = tt
  handed_of (m ∷ moves) i all = by (handed_of moves i all.1) (m.host == i) where
    by : AllOf (handed_frames (events_in (transitions_of moves i))) → (b : Bool) →
        AllOf (handed_frames (events_in (if b then m.transition ∷ transitions_of moves i else transitions_of moves i)))
    by rest true = subst AllOf (sym (handed_frames-append m.transition.told (events_in (transitions_of moves i))))
        (all_on Q (handed_frames m.transition.told) (handed_frames (events_in (transitions_of moves i))) all.0 rest)
    by rest false = rest

-- each frame that is sent is one that a host of the network sent
module _ {O : Type 0} (did : Owns O) (hosts : List Host) (all : List Move) where
  one : (p : Transition) (i : ℕ) (moves : List Move) → IsHost hosts i →
      ((j : ℕ) (frame : List ℕ) → SentIn (record { host = i; transition = p } ∷ moves) j frame → SentIn all j frame) →
      AllByRecursion (SentBySome hosts (transitions_of all)) (sent_frames p.told)
  one p i moves is later = each_in (SentBySome hosts (transitions_of all)) (sent_frames p.told) (λ frame there. record {
    sender = i;
    is_host = is;
    sent = contains_in (sent_frames (events_in (transitions_of all i))) frame
        (later i frame (sent_first (record { host = i; transition = p }) moves frame there));
  })

  stays : (a : Network (End O)) (i : ℕ) (new : End O) → ((j : ℕ) (e : End O) → slice_get a.hosts j ≡ Some e → IsHost hosts j) →
      (j : ℕ) (e : End O) → slice_get (after_acting a i new).hosts j ≡ Some e → IsHost hosts j
  stays a i new there j e at = let x = set_there a.hosts i j (end_taken new) e at in there j x.0 x.1

  sends : {a last : Network (End O)} {calls : List Call} {moves : List Move} → Goes did a calls moves last →
      ((j : ℕ) (e : End O) → slice_get a.hosts j ≡ Some e → IsHost hosts j) →
      ((j : ℕ) (frame : List ℕ) → SentIn moves j frame → SentIn all j frame) →
      AllSent did (SentBySome hosts (transitions_of all)) moves
  sends Stops there later = tt
  sends {a = a} (HostRan {old = old} {new = new} {p = p} {moves = moves} i at x g) there later =
      (one p i moves (there i old at) later, sends g (stays a i new there) (λ j frame s. later j frame (sent_later _ moves j frame s)))
  sends {a = a} (FrameCame {old = old} {new = new} {p = p} {moves = moves} number k i t frame at found is x g) there later =
      (one p i moves (there i old at) later, sends g (stays a i new there) (λ j frame s. later j frame (sent_later _ moves j frame s)))
  sends {a = a} (OutsideCame {old = old} {new = new} {p = p} {moves = moves} i t frame at is x g) there later =
      (one p i moves (there i old at) later, sends g (stays a i new there) (λ j frame s. later j frame (sent_later _ moves j frame s)))
  sends (Forgot count g) there later = sends g there later

-- hosts of ends
host_at : {O : Type 0} (ends : List (End O)) (i : ℕ) (e : End O) → slice_get ends i ≡ Some e → slice_get (map (λ (x : End O). x.host) ends) i ≡ Some e.host
host_at [] i e at = absurd cc
host_at {O} (x ∷ ends) zero e at = let same : x ≡ e = cc in ap (λ (y : End O). Some y.host) same
host_at (x ∷ ends) (suc i) e at = host_at ends i e at

record EndOf {O : Type 0} (ends : List (End O)) (i : ℕ) (b : Host) : Type 0 where
  end : End O
  there : slice_get ends i ≡ Some end
  same : end.host ≡ b

end_of_host : {O : Type 0} (ends : List (End O)) (i : ℕ) (b : Host) → slice_get (map (λ (x : End O). x.host) ends) i ≡ Some b → EndOf ends i b
end_of_host [] i b at = absurd cc
end_of_host (x ∷ ends) zero b at = record { end = x; there = refl; same = cc }
end_of_host (x ∷ ends) (suc i) b at = let r = end_of_host ends i b at in record { end = r.end; there = r.there; same = r.same }

-- the run of a host
record RunOf {O : Type 0} (last : Network (End O)) (moves : List Move) (i : ℕ) (b : Host) : Type 0 where
  last_host : Host
  there : slice_get (hosts_of last) i ≡ Some last_host
  run : Run b (transitions_of moves i) last_host

run_of : {O : Type 0} {did : Owns O} {first last : Network (End O)} {calls : List Call} {moves : List Move} →
    Goes did first calls moves last → (i : ℕ) (b : Host) → slice_get (hosts_of first) i ≡ Some b → RunOf last moves i b
run_of {first = first} {last = last} {moves = moves} g i b at =
    let e = end_of_host first.hosts i b at in
    let r = run_at g i e.end e.there in record {
      last_host = r.end.host;
      there = host_at last.hosts i r.end r.there;
      run = subst (λ X. Run X (transitions_of moves i) r.end.host) e.same r.run;
    }

-- what holds of the hosts holds of the ends that they stand for
none_queued : {O : Type 0} (Q : List ℕ → Type 0) (hs : List (Linked O)) (es : List (End O)) → Stand hs es →
    AllByRecursion (λ (h : Linked O). h.device.queued ≡ []) hs → AllByRecursion (λ (e : End O). AllByRecursion Q e.device.queued) es
none_queued Q [] [] s none = tt
none_queued Q [] (e ∷ es) s none = absurd s
none_queued Q (h ∷ hs) [] s none = absurd s
none_queued {O} Q (h ∷ hs) (e ∷ es) s none =
    let first : e.device.queued ≡ [] = ap (λ (x : End O). x.device.queued) s.0.same ∙ none.0 in (rw first tt, none_queued Q hs es s.1 none.1)

none_sent : {O : Type 0} (hs : List (Linked O)) (es : List (End O)) → Stand hs es →
    AllByRecursion (λ (h : Linked O). h.device.sent ≡ []) hs → AllByRecursion (λ (e : End O). e.device.sent ≡ []) es
none_sent [] [] s none = tt
none_sent [] (e ∷ es) s none = absurd s
none_sent (h ∷ hs) [] s none = absurd s
none_sent {O} (h ∷ hs) (e ∷ es) s none = (ap (λ (x : End O). x.device.sent) s.0.same ∙ none.0, none_sent hs es s.1 none.1)

regular_ends : {O : Type 0} (hs : List (Linked O)) (es : List (End O)) → Stand hs es →
    ((i : ℕ) (h : Linked O) (H : Host) → slice_get hs i ≡ Some h → StandsFor h.interface h.sockets H → IsRegular H) →
    AllByRecursion (λ H. IsRegular H) (map (λ (e : End O). e.host) es)
regular_ends [] [] s all = tt
regular_ends [] (e ∷ es) s all = absurd s
regular_ends (h ∷ hs) [] s all = absurd s
regular_ends (h ∷ hs) (e ∷ es) s all = (all 0 h e.host refl s.0.stands, regular_ends hs es s.1 (λ i g H at stands. all (suc i) g H at stands))

-- of each host
module _ {O : Type 0} (did : Owns O) (first last : Network (End O)) (calls : List Call) (moves : List Move) (g : Goes did first calls moves last)
    (regulars : AllByRecursion (λ H. IsRegular H) (hosts_of first)) (wire : first.wire ≡ [])
    (queued : (Q : List ℕ → Type 0) → AllByRecursion (λ (e : End O). AllByRecursion Q e.device.queued) first.hosts)
    (sent : AllByRecursion (λ (e : End O). e.device.sent ≡ []) first.hosts) where
  may_send : (i : ℕ) (b : Host) → ((j : ℕ) (a : Host) → slice_get (hosts_of first) j ≡ Some a → MaySend moves b a j) →
      (j : ℕ) (a : Host) → slice_get (hosts_of first) j ≡ Some a → SendsBySockets b.capabilities.medium a (transitions_of moves j)
  may_send i b may j a there = let r = run_of g j a there in record {
    last = r.last_host;
    run = r.run;
    regular = all_get (λ H. IsRegular H) (hosts_of first) j a regulars there;
    one_medium = (may j a there).one_medium;
    nobody = (may j a there).nobody;
  }

  host_goes : (i : ℕ) (b : Host) → slice_get (hosts_of first) i ≡ Some b → HostGoes first last calls moves i b
  host_goes i b at =
      let Q = SentBySome (hosts_of first) (transitions_of moves) in
      let r = run_of g i b at in
      let fine : Fine did Q first = record { wire = rw wire tt; queued = queued Q; sent = sent } in
      let received : AreClosed calls → WereSentBySome (hosts_of first) (transitions_of moves) (transitions_of moves i) =
      λ closed. handed_of did Q moves i (all_handed did Q g closed fine
      (sends did (hosts_of first) moves g (λ j e there. (e.host, host_at first.hosts j e there)) (λ j frame s. s))) in
      let regular : IsRegular b = all_get (λ H. IsRegular H) (hosts_of first) i b regulars at in record {
        last_host = r.last_host;
        there = r.there;
        run = r.run;
        laws = run_laws r.run;
        datagrams = runs_keep_datagrams b r.last_host (transitions_of moves i) r.run;
        rest = runs_rest b r.last_host (transitions_of moves i) r.run;
        received = received;
        gets = λ closed may. runs_get_what_some_sent (hosts_of first) (transitions_of moves) b r.last_host (transitions_of moves i) r.run regular.real
            (may_send i b may) (received closed);
        gets_of_one = λ j a there may were. runs_get_what_was_sent a (run_of g j a there).last_host b r.last_host (transitions_of moves j)
            (transitions_of moves i) (run_of g j a there).run r.run
            (all_get (λ H. IsRegular H) (hosts_of first) j a regulars there) regular.real (sym may.one_medium) may.nobody were;
      }

pub networks_keep_laws : {O : Type 0} (did : Owns O) → NetworksKeepLaws did
networks_keep_laws did old new calls answers goes is_new regular a s =
    let went = goes a s in
    let hosts =
    host_goes did a went.last calls went.moves went.goes (regular_ends old.hosts a.hosts s.hosts regular) (s.wire ∙ is_new.wire)
    (λ Q. none_queued Q old.hosts a.hosts s.hosts is_new.queued) (none_sent old.hosts a.hosts s.hosts is_new.sent) in
    record {
      went = went;
      hosts = hosts;
      pings = λ i j b c at_i at_j.
          runs_return b c (transitions_of went.moves i) (transitions_of went.moves j) (hosts i b at_i).laws (hosts j c at_j).laws;
    }
