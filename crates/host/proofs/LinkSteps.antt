-- Steps on a link one after the other, and that both ends go along runs.
use Rattle.std.proofs.Common.{◌≡◌, ℕ, zero, suc, List, [], ◌∷◌, ◌++◌, length, refl, sym}
use Rattle.std.proofs.Common.{◌∙◌, ap, subst, append_assoc, append-nil, Some, None, inl, inr}
use Rattle.std.specs.Prelude.{ℤ, drop, slice_get, true, false, Result, Ok, Err, OnOk, OnErr, ◌⊎◌}
use Rattle.std.specs.Result.{is_err}
use Rattle.std.specs.List.{AllByRecursion, Contains}
use Rattle.std.proofs.Math.Seq.{drop-append_seam}
use Rattle.std.specs.Borrow.{Bor}
use Rattle.net_base.specs.Device.{handed_frames, sent_frames}
use Rattle.net_base.specs.MemoryDevice.{Tells}
use Rattle.net_base.proofs.KeptFrames.{frames_are_kept}
use Rattle.socket_set.specs.SocketSet.{Sockets}
use Rattle.host_machine.specs.declared.command.Command.{Command}
use Rattle.host_machine.specs.declared.command.Command.TheVariants.{PollIngressSingle}
use Rattle.host_machine.specs.declared.command.Answer.{Answer}
use Rattle.host_machine.specs.Context.Host.{Host}
use Rattle.host_machine.specs.Interface.Step.{Step}
use Rattle.host_machine.specs.Interface.Run.{Transition, Run, Ends, Then, events_in}
use Rattle.host_laws.proofs.Runs.Walk.{sent_frames-append}
use Rattle.host_laws.proofs.Receive.SlotEffects.{handed_frames-append}
use Rattle.host_machine.proofs.Receive.Pieces.{IsIn, contains_in, in_left, in_right, in_either}
use Rattle.host_laws.proofs.Interface.RunConcatenation.{run_laws}
use Rattle.host_laws.proofs.Runs.TwoHosts.{run_rebuilds}
use Rattle.host_laws.proofs.LessWork.{runs_rest}
use Rattle.host_laws.proofs.PingsBack.{runs_return}
use Rattle.host_laws.proofs.RunTraffic.{runs_keep_datagrams}
use Rattle.host_laws.proofs.DatagramOrigin.{runs_get_what_was_sent}
use Rattle.interface.specs.Stands.{StandsFor}
use Rattle.host.specs.declared.link.Host.{Host as Linked}
use Rattle.host.specs.declared.link.LinkStep.{LinkStep}
use Rattle.host.specs.declared.link.LinkStep.TheVariants as step
use Rattle.host.specs.declared.link.LinkError.{LinkError}
use Rattle.host.specs.Commands.{HostRefinesCommand}
use Rattle.host_machine.specs.Context.Real.{IsRegular}
use Rattle.host_laws.specs.Laws.TwoHosts.{WereSent}
use Rattle.host.specs.Link.{End, Owns, Acts, sent_since, Links, Stops, OnA, OnB, ToA, ToB, NoneToA, NoneToB, IsDone, end_of}
use Rattle.host.specs.Link.{HandsOver, NoFrame, OneFrame, RebuildsCuts, RebuildsFew, GetsDatagrams, Brings, Went, Goes, LinkGoes}

-- the ends named the other way round
abbrev turn : List LinkStep → List LinkStep
turn [] = []
turn (step.A command ∷ steps) = step.B command ∷ turn steps
turn (step.B command ∷ steps) = step.A command ∷ turn steps
turn (step.ToA k t ∷ steps) = step.ToB k t ∷ turn steps
turn (step.ToB k t ∷ steps) = step.ToA k t ∷ turn steps

turned : {O P : Type 0} {did_a : Owns O} {did_b : Owns P} {m n : ℕ} {steps : List LinkStep} {a a' : End O} {b b' : End P} {ps qs : List Transition} →
    Links did_a did_b m n steps a b ps qs a' b' → Links did_b did_a n m (turn steps) b a qs ps b' a'
turned Stops = Stops
turned (OnA x l) = OnB x (turned l)
turned (OnB x l) = OnA x (turned l)
turned (ToA k t frame at is x l) = ToB k t frame at is x (turned l)
turned (ToB k t frame at is x l) = ToA k t frame at is x (turned l)
turned (NoneToA k t none l) = NoneToB k t none (turned l)
turned (NoneToB k t none l) = NoneToA k t none (turned l)

links_on : {O P : Type 0} {did_a : Owns O} {did_b : Owns P} {m n : ℕ} {xs ys : List LinkStep} {a c e : End O}
    {b d f : End P} {ps qs ps' qs' : List Transition} →
    Links did_a did_b m n xs a b ps qs c d → Links did_a did_b m n ys c d ps' qs' e f →
    Links did_a did_b m n (xs ++ ys) a b (ps ++ ps') (qs ++ qs') e f
links_on Stops more = more
links_on (OnA x l) more = OnA x (links_on l more)
links_on (OnB x l) more = OnB x (links_on l more)
links_on (ToA k t frame at is x l) more = ToA k t frame at is x (links_on l more)
links_on (ToB k t frame at is x l) more = ToB k t frame at is x (links_on l more)
links_on (NoneToA k t none l) more = NoneToA k t none (links_on l more)
links_on (NoneToB k t none l) more = NoneToB k t none (links_on l more)

-- both ends have a run
run_cons : (p : Transition) (H K last : Host) (ps : List Transition) →
    Step p.command p.answer H p.told p.acts p.notes K → p.before ≡ H → p.after ≡ K → Run K ps last → Run H (p ∷ ps) last
run_cons p H K last ps s b a r =
    let s' : Step p.command p.answer p.before p.told p.acts p.notes p.after = rw (b, a) s in
    let r' : Run p.after ps last = rw a r in
    subst (λ X. Run X (p ∷ ps) last) b (Then s' r')

run_a : {O P : Type 0} {did_a : Owns O} {did_b : Owns P} {m n : ℕ} {steps : List LinkStep} {a a' : End O} {b b' : End P} {ps qs : List Transition} →
    Links did_a did_b m n steps a b ps qs a' b' → Run a.host ps a'.host
run_a Stops = Ends
run_a (OnA x l) = run_cons _ _ _ _ _ x.step x.before x.after (run_a l)
run_a (OnB x l) = run_a l
run_a (ToA k t frame at is x l) = run_cons _ _ _ _ _ x.step x.before x.after (run_a l)
run_a (ToB k t frame at is x l) = run_a l
run_a (NoneToA k t none l) = run_a l
run_a (NoneToB k t none l) = run_a l

-- what is sent is what was sent before and what the places tell
sent_more : (before mid last : List (List ℕ)) (p : Transition) (ps : List Transition) →
    mid ≡ before ++ sent_frames p.told → last ≡ mid ++ sent_frames (events_in ps) → last ≡ before ++ sent_frames (events_in (p ∷ ps))
sent_more before mid last p ps first rest = rest ∙ ap (λ (s : List (List ℕ)). s ++ sent_frames (events_in ps)) first
    ∙ append_assoc before (sent_frames p.told) (sent_frames (events_in ps))
    ∙ ap (λ (s : List (List ℕ)). before ++ s) (sym (sent_frames-append p.told (events_in ps)))

acted_sent : {O : Type 0} {did : Owns O} {p : Transition} {a c : End O} → Acts did p a c → c.device.sent ≡ a.device.sent ++ sent_frames p.told
acted_sent {p = p} {a = a} {c = c} x = (frames_are_kept a.device c.device p.told x.tells).sent

all_sent : {O P : Type 0} {did_a : Owns O} {did_b : Owns P} {m n : ℕ} {steps : List LinkStep}
    {a a' : End O} {b b' : End P} {ps qs : List Transition} →
    Links did_a did_b m n steps a b ps qs a' b' → a'.device.sent ≡ a.device.sent ++ sent_frames (events_in ps)
all_sent {a = a} Stops = sym (append-nil a.device.sent)
all_sent {a = a} {a' = a'} (OnA {c = c} {p = p} {ps = ps} x l) = sent_more a.device.sent c.device.sent a'.device.sent p ps (acted_sent x) (all_sent l)
all_sent (OnB x l) = all_sent l
all_sent {a = a} {a' = a'} (ToA {c = c} {p = p} {ps = ps} k t frame at is x l) =
    sent_more a.device.sent c.device.sent a'.device.sent p ps (acted_sent x) (all_sent l)
all_sent (ToB k t frame at is x l) = all_sent l
all_sent (NoneToA k t none l) = all_sent l
all_sent (NoneToB k t none l) = all_sent l

got_in : (xs : List (List ℕ)) (k : ℕ) (x : List ℕ) → slice_get xs k ≡ Some x → IsIn x xs
got_in [] k x e = absurd cc
got_in (y ∷ xs) zero x e = inl (let same : y ≡ x = cc in sym same)
got_in (y ∷ xs) (suc k) x e = inr (got_in xs k x e)

in_drop : (m : ℕ) (xs ys : List (List ℕ)) (x : List ℕ) → IsIn x (drop m xs) → IsIn x (drop m (xs ++ ys))
in_drop zero xs ys x i = in_left xs ys x i
in_drop (suc m) [] ys x i = absurd i
in_drop (suc m) (z ∷ xs) ys x i = in_drop m xs ys x i

abbrev AllIn : List (List ℕ) → List (List ℕ) → Type 0
AllIn xs all = (g : List ℕ) → IsIn g xs → IsIn g all

-- what one place hands over, and what waits behind it, waited before
acted_hands : {O : Type 0} {did : Owns O} {q : Transition} {b c : End O} (all : List (List ℕ)) →
    Acts did q b c → AllIn b.device.queued all → AllIn (handed_frames q.told) all × AllIn c.device.queued all
acted_hands {q = q} {b = b} {c = c} all x queued =
    let k : b.device.queued ≡ handed_frames q.told ++ c.device.queued = (frames_are_kept b.device c.device q.told x.tells).queue in (
      λ g i. queued g (subst (λ (s : List (List ℕ)). IsIn g s) (sym k) (in_left (handed_frames q.told) c.device.queued g i)),
      λ g i. queued g (subst (λ (s : List (List ℕ)). IsIn g s) (sym k) (in_right (handed_frames q.told) c.device.queued g i)),
    )

more_in : (all : List (List ℕ)) (q : Transition) (qs : List Transition) →
    AllIn (handed_frames q.told) all → AllIn (handed_frames (events_in qs)) all → AllIn (handed_frames (events_in (q ∷ qs))) all
more_in all q qs first rest = λ g i. by g (in_either (handed_frames q.told)
    (handed_frames (events_in qs)) g (subst (λ (s : List (List ℕ)). IsIn g s) (handed_frames-append q.told (events_in qs)) i)) where
      by : (g : List ℕ) → IsIn g (handed_frames q.told) ⊎ IsIn g (handed_frames (events_in qs)) → IsIn g all
      by g (inl i) = first g i
      by g (inr i) = rest g i

one_more : (all queued : List (List ℕ)) (frame : List ℕ) → IsIn frame all → AllIn queued all → AllIn (queued ++ frame ∷ []) all
one_more all queued frame there before = λ g i. by g (in_either queued (frame ∷ []) g i) where
  by : (g : List ℕ) → IsIn g queued ⊎ IsIn g (frame ∷ []) → IsIn g all
  by g (inl i) = before g i
  by g (inr (inl e)) = rw e there
  by g (inr (inr i)) = absurd i

-- a frame that was there is there in the end
still_there : (m k : ℕ) (before last more : List (List ℕ)) (frame : List ℕ) →
    slice_get (drop m before) k ≡ Some frame → last ≡ before ++ more → IsIn frame (drop m last)
still_there m k before last more frame at is = rw is (in_drop m before more frame (got_in (drop m before) k frame at))

all_handed : {O P : Type 0} {did_a : Owns O} {did_b : Owns P} {m n : ℕ} {steps : List LinkStep}
    {a a' : End O} {b b' : End P} {ps qs : List Transition} →
    Links did_a did_b m n steps a b ps qs a' b' → AllIn b.device.queued (drop m a'.device.sent) →
    AllIn (handed_frames (events_in qs)) (drop m a'.device.sent)
all_handed Stops queued = λ g i. absurd i
all_handed (OnA x l) queued = all_handed l queued
all_handed {m = m} {a' = a'} (OnB {q = q} {qs = qs} x l) queued =
    let r = acted_hands (drop m a'.device.sent) x queued in more_in (drop m a'.device.sent) q qs r.0 (all_handed l r.1)
all_handed (ToA k t frame at is x l) queued = all_handed l queued
all_handed {m = m} {a = a} {a' = a'} {b = b} (ToB {q = q} {ps = ps} {qs = qs} k t frame at is x l) queued =
    let there : IsIn frame (drop m a'.device.sent) =
    still_there m k a.device.sent a'.device.sent (sent_frames (events_in ps)) frame at (all_sent l) in
    let r = acted_hands (drop m a'.device.sent) x (one_more (drop m a'.device.sent) b.device.queued frame there queued) in
    more_in (drop m a'.device.sent) q qs r.0 (all_handed l r.1)
all_handed (NoneToA k t none l) queued = all_handed l queued
all_handed (NoneToB k t none l) queued = all_handed l queued

each : {X : Type 0} (P : X → Type 0) (xs : List X) → ((x : X) → IsIn x xs → P x) → AllByRecursion P xs
each P [] f = tt
each P (x ∷ xs) f = (f x (inl refl), each P xs (λ y i. f y (inr i)))

none_in : (queued all : List (List ℕ)) → queued ≡ [] → AllIn queued all
none_in queued all e = λ g i. absurd (rw e at i)

were_sent : {O P : Type 0} {did_a : Owns O} {did_b : Owns P} {m n : ℕ} {steps : List LinkStep}
    {a a' : End O} {b b' : End P} {ps qs : List Transition} →
    Links did_a did_b m n steps a b ps qs a' b' → m ≡ length a.device.sent → b.device.queued ≡ [] → WereSent ps qs
were_sent {m = m} {a = a} {a' = a'} {b = b} {ps = ps} {qs = qs} l is none =
    let since : drop m a'.device.sent ≡ sent_frames (events_in ps) =
    rw (is, all_sent l) (drop-append_seam a.device.sent (sent_frames (events_in ps))) in
    each (Contains (sent_frames (events_in ps))) (handed_frames (events_in qs)) (λ g i.
    contains_in (sent_frames (events_in ps)) g
    (subst (λ (s : List (List ℕ)). IsIn g s) since (all_handed l (none_in b.device.queued (drop m a'.device.sent) none) g i)))

-- where a step may fail, what is done if it doesn't
pub if_done : {X E : Type 0} (r : Result X E) (P Q : Type 0) → (P → Q) → OnOk r P → OnOk r Q
if_done (Ok x) P Q f p = f p
if_done (Err e) P Q f p = tt

-- where a step didn't fail, and where it did
pub no_error : {X E : Type 0} (r : Result X E) (P : Type 0) → false ≡ is_err r → OnOk r P → P
no_error (Ok x) P e p = p
no_error (Err x) P e p = absurd cc

pub an_error : {X E : Type 0} (r : Result X E) (P : Type 0) → true ≡ is_err r → OnErr r P → P
an_error (Ok x) P e p = absurd cc
an_error (Err x) P e p = p

module _ {O P : Type 0} (did_a : Owns O) (did_b : Owns P) (m n : ℕ) where
  pub goes_none : (a : Linked O) (b : Linked P) → Goes did_a did_b m n [] a a b b
  goes_none a b = λ H K h k. record { ps = []; qs = []; last_a = H; last_b = K; links = Stops; stands_a = h; stands_b = k }

  pub goes_on : (xs ys zs : List LinkStep) (a c e : Linked O) (b d f : Linked P) →
      zs ≡ xs ++ ys → Goes did_a did_b m n xs a c b d → Goes did_a did_b m n ys c e d f → Goes did_a did_b m n zs a e b f
  goes_on xs ys zs a c e b d f is first second = rw is (λ H K h k.
      let x = first H K h k in
      let y = second x.last_a x.last_b x.stands_a x.stands_b in
      record {
        ps = x.ps ++ y.ps;
        qs = x.qs ++ y.qs;
        last_a = y.last_a;
        last_b = y.last_b;
        links = links_on x.links y.links;
        stands_a = y.stands_a;
        stands_b = y.stands_b;
      })

  pub on_a : (a a' : Linked O) (b : Linked P) (s : LinkStep) (c : Command) (answer : Answer) → s ≡ step.A c →
      HostRefinesCommand Tells did_a a.device a'.device a.owner a'.owner c answer (StandsFor a.interface a.sockets)
      (StandsFor a'.interface a'.sockets) → Goes did_a did_b m n (s ∷ []) a a' b b
  on_a a a' b s c answer is goes = rw is (λ H K h k.
      let went = goes H h in
      let transition : Transition =
      record { command = c; answer = answer; told = went.told; acts = went.acts; notes = went.notes; before = H; after = went.host } in
      record {
        ps = transition ∷ [];
        qs = [];
        last_a = went.host;
        last_b = K;
        stands_a = went.stands;
        stands_b = k;
        links =
            OnA {p = transition} (record { step = went.steps; before = refl; after = refl; tells = went.tells_it; owner_did = went.owner_did }) Stops;
      })

  pub on_b : (a : Linked O) (b b' : Linked P) (s : LinkStep) (c : Command) (answer : Answer) → s ≡ step.B c →
      HostRefinesCommand Tells did_b b.device b'.device b.owner b'.owner c answer (StandsFor b.interface b.sockets)
      (StandsFor b'.interface b'.sockets) → Goes did_a did_b m n (s ∷ []) a a b b'
  on_b a b b' s c answer is goes = rw is (λ H K h k.
      let went = goes K k in
      let transition : Transition =
      record { command = c; answer = answer; told = went.told; acts = went.acts; notes = went.notes; before = K; after = went.host } in
      record {
        ps = [];
        qs = transition ∷ [];
        last_a = H;
        last_b = went.host;
        stands_a = h;
        stands_b = went.stands;
        links =
            OnB {q = transition} (record { step = went.steps; before = refl; after = refl; tells = went.tells_it; owner_did = went.owner_did }) Stops;
      })

  none_to_a : (a : Linked O) (b : Linked P) (k : ℕ) (t : ℤ) → sent_since n b.device k ≡ None → Goes did_a did_b m n (step.ToA k t ∷ []) a a b b
  none_to_a a b k t none = λ H K h i. record { ps = []; qs = []; last_a = H; last_b = K; links = NoneToA k t none Stops; stands_a = h; stands_b = i }

  none_to_b : (a : Linked O) (b : Linked P) (k : ℕ) (t : ℤ) → sent_since m a.device k ≡ None → Goes did_a did_b m n (step.ToB k t ∷ []) a a b b
  none_to_b a b k t none = λ H K h i. record { ps = []; qs = []; last_a = H; last_b = K; links = NoneToB k t none Stops; stands_a = h; stands_b = i }

  pub to_a : (a a' : Linked O) (b : Linked P) (s : LinkStep) (k : ℕ) (t : ℤ) →
      s ≡ step.ToA k t → HandsOver did_a n b.device k t a a' → Goes did_a did_b m n (s ∷ []) a a' b b
  to_a a a' b s k t is (NoFrame none same) = rw (is, same) (none_to_a a b k t none)
  to_a a a' b s k t is (OneFrame frame answer at goes) = rw is (λ H K h i.
      let went = goes H h in
      let transition : Transition = record {
        command = PollIngressSingle t;
        answer = answer;
        told = went.told;
        acts = went.acts;
        notes = went.notes;
        before = H;
        after = went.host;
      } in
      record {
        ps = transition ∷ [];
        qs = [];
        last_a = went.host;
        last_b = K;
        stands_a = went.stands;
        stands_b = i;
        links = ToA {p = transition} k t frame at refl
            (record { step = went.steps; before = refl; after = refl; tells = went.tells_it; owner_did = went.owner_did }) Stops;
      })

  pub to_b : (a : Linked O) (b b' : Linked P) (s : LinkStep) (k : ℕ) (t : ℤ) →
      s ≡ step.ToB k t → HandsOver did_b m a.device k t b b' → Goes did_a did_b m n (s ∷ []) a a b b'
  to_b a b b' s k t is (NoFrame none same) = rw (is, same) (none_to_b a b k t none)
  to_b a b b' s k t is (OneFrame frame answer at goes) = rw is (λ H K h i.
      let went = goes K i in
      let transition : Transition = record {
        command = PollIngressSingle t;
        answer = answer;
        told = went.told;
        acts = went.acts;
        notes = went.notes;
        before = K;
        after = went.host;
      } in
      record {
        ps = [];
        qs = transition ∷ [];
        last_a = H;
        last_b = went.host;
        stands_a = h;
        stands_b = went.stands;
        links = ToB {q = transition} k t frame at refl
            (record { step = went.steps; before = refl; after = refl; tells = went.tells_it; owner_did = went.owner_did }) Stops;
      })

-- an interface stands for regular hosts
abbrev pub IsFit : {O : Type 0} → Linked O → Type 0
IsFit a = (s : Sockets (Bor (Unit {0}))) (H : Host) → StandsFor a.interface s H → IsRegular H

-- what the one end rebuilds is what the other cut
rebuilds : (H last_a K last_b : Host) (ps qs : List Transition) →
    IsRegular H → IsRegular K → Run H ps last_a → Run K qs last_b → WereSent ps qs → RebuildsCuts H K ps qs
rebuilds H last_a K last_b ps qs regular_h regular_k ra rb were = λ medium left own free.
    run_rebuilds H last_a K last_b ps qs ra rb
    (record { one_medium = medium; a_real = regular_h.real; b_real = regular_k.real; mtu = regular_h.mtu; left = left }) were own free

-- what UDP sockets of the one get those of the other sent
gets : (H last_a K last_b : Host) (ps qs : List Transition) →
    IsRegular H → IsRegular K → Run H ps last_a → Run K qs last_b → WereSent ps qs → GetsDatagrams H K ps qs
gets H last_a K last_b ps qs regular_h regular_k ra rb were = λ medium nobody.
    runs_get_what_was_sent H last_a K last_b ps qs ra rb regular_h regular_k.real medium nobody were

-- and without the premise on keys, where the other dispatched few packets
rebuilds_few : {last_a : Host} (H K : Host) (ps qs : List Transition) → Run H ps last_a → RebuildsCuts H K ps qs → RebuildsFew H K ps qs
rebuilds_few H K ps qs ra cuts = λ medium left few free. cuts medium left ((run_laws ra).own_keys few) free

-- what came from one end to the other
brings : (H last_a K last_b : Host) (ps qs : List Transition) → IsRegular H → IsRegular K → Run H ps last_a → Run K qs last_b → WereSent ps qs →
    Brings H K ps qs
brings H last_a K last_b ps qs regular_h regular_k ra rb were =
    let cuts = rebuilds H last_a K last_b ps qs regular_h regular_k ra rb were in
    record {
      received = were;
      rebuilds = cuts;
      few = rebuilds_few H K ps qs ra cuts;
      gets = gets H last_a K last_b ps qs regular_h regular_k ra rb were;
    }

pub link_went : {O P : Type 0} (did_a : Owns O) (did_b : Owns P) (m n : ℕ) (steps done : List LinkStep)
    (answer : Result (Unit {0}) LinkError) (a a' : Linked O) (b b' : Linked P) →
    m ≡ length a.device.sent → n ≡ length b.device.sent → a.device.queued ≡ [] → b.device.queued ≡ [] → IsFit a → IsFit b →
    IsDone steps m n a'.device b'.device answer done → Goes did_a did_b m n done a a' b b' → LinkGoes did_a did_b steps answer a a' b b'
link_went did_a did_b m n steps done answer a a' b b' is_m is_n none_a none_b fit_a fit_b is_done goes = λ H K h k.
    let is_done' : IsDone steps (length a.device.sent) (length b.device.sent) a'.device b'.device answer done = rw (is_m, is_n) at is_done in
    let went : Went did_a did_b (length a.device.sent) (length b.device.sent) done a a' b b' H K = rw (is_m, is_n) at (goes H K h k) in
    let over : Links did_b did_a (length b.device.sent) (length a.device.sent) (turn done) (end_of b K) (end_of a H) went.qs went.ps
    (end_of b' went.last_b) (end_of a' went.last_a) = turned went.links in
    let regular_a = fit_a a.sockets H h in
    let regular_b = fit_b b.sockets K k in
    let laws_a = run_laws (run_a went.links) in
    let laws_b = run_laws (run_a over) in record {
      done = done;
      is_done = is_done';
      went = went;
      a = record {
        run = run_a went.links;
        regular = regular_a;
        laws = laws_a;
        datagrams = runs_keep_datagrams H went.last_a went.ps (run_a went.links);
        rest = runs_rest H went.last_a went.ps (run_a went.links);
      };
      b = record {
        run = run_a over;
        regular = regular_b;
        laws = laws_b;
        datagrams = runs_keep_datagrams K went.last_b went.qs (run_a over);
        rest = runs_rest K went.last_b went.qs (run_a over);
      };
      to_b = brings H went.last_a K went.last_b went.ps went.qs regular_a regular_b (run_a went.links) (run_a over) (were_sent went.links refl none_b);
      to_a = brings K went.last_b H went.last_a went.qs went.ps regular_b regular_a (run_a over) (run_a went.links) (were_sent over refl none_a);
      pings_a = runs_return H K went.ps went.qs laws_a laws_b;
      pings_b = runs_return K H went.qs went.ps laws_b laws_a;
    }
