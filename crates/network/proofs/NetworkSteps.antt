-- Calls of a network one after another, over plain variables.
use Rattle.std.proofs.Common.{◌≡◌, ℕ, zero, suc, List, [], ◌∷◌, ◌++◌, refl, sym, ◌∙◌, ap, subst, Some}
use Rattle.std.specs.Prelude.{ℤ, ◌+◌, ◌<◌, ◌==◌, Bool, true, false, drop, set}
use Rattle.std.proofs.lemmas.Bool.{eqb-false, eqb-true}
use native.Mathlib.Omega.{arith}
use Rattle.host_machine.specs.Context.Real.{IsRegular}
use Rattle.std.specs.List.{slice_get}
use Rattle.std.proofs.lemmas.List.{map-append}
use Rattle.net_base.specs.MemoryDevice.{Tells}
use Rattle.host_machine.specs.declared.command.Command.{Command}
use Rattle.host_machine.specs.declared.command.Command.TheVariants.{PollIngressSingle}
use Rattle.host_machine.specs.declared.command.Answer.{Answer}
use Rattle.host_machine.specs.Context.Host.{Host}
use Rattle.host_machine.specs.Interface.Run.{Transition}
use Rattle.interface.specs.Stands.{StandsFor}
use Rattle.host.specs.Commands.{HostRefinesCommand}
use Rattle.host.specs.declared.link.Host.{Host as Linked}
use Rattle.host.specs.Link.{End, Owns, Acts, end_of, end_with_frame}
use Rattle.network.specs.Network.{Acted, Call, FrameCame, Forgot, Goes, HostRan, IsEndOf, Move, Network, NetworkGoes, OutsideCame}
use Rattle.network.specs.Network.{Runs, HandsOver, TakesIn, Forgets}
use Rattle.network.specs.Network.{Stand, Stands, Stops, after_acting, answer_of, end_taken, host_taken, host_with_frame, without_first}
use Rattle.network.specs.Network.{frame_at}
use Rattle.network.specs.Kept.{wire_with}

-- the end that a host stands for
record EndAt {O : Type 0} (es : List (End O)) (i : ℕ) (h : Linked O) : Type 0 where
  end : End O
  there : slice_get es i ≡ Some end
  is_end : IsEndOf h end

end_at : {O : Type 0} (hs : List (Linked O)) (es : List (End O)) (i : ℕ) (h : Linked O) → Stand hs es → slice_get hs i ≡ Some h → EndAt es i h
end_at [] es i h s e = absurd cc
end_at (g ∷ hs) [] i h s e = absurd s
end_at (g ∷ hs) (x ∷ es) zero h s e =
    let same : g ≡ h = cc in record { end = x; there = refl; is_end = subst (λ y. IsEndOf y x) same s.0 }
end_at (g ∷ hs) (x ∷ es) (suc i) h s e = let r = end_at hs es i h s.1 e in record { end = r.end; there = r.there; is_end = r.is_end }

-- one host and its end are replaced
stand_set : {O : Type 0} (hs : List (Linked O)) (es : List (End O)) (i : ℕ) (h : Linked O) (x : End O) →
    Stand hs es → IsEndOf h x → Stand (set hs i h) (set es i x)
stand_set [] [] i h x s is = tt
stand_set [] (y ∷ es) i h x s is = absurd s
stand_set (g ∷ hs) [] i h x s is = absurd s
stand_set (g ∷ hs) (y ∷ es) zero h x s is = (is, s.1)
stand_set (g ∷ hs) (y ∷ es) (suc i) h x s is = (s.0, stand_set hs es i h x s.1 is)

-- one list of calls behind another
pub goes_on : {O : Type 0} {did : Owns O} {a b c : Network (End O)} {calls more : List Call} {moves more_moves : List Move} →
    Goes did a calls moves b → Goes did b more more_moves c → Goes did a (calls ++ more) (moves ++ more_moves) c
goes_on Stops second = second
goes_on (HostRan i at acts first) second = HostRan i at acts (goes_on first second)
goes_on (FrameCame n k i t frame at there is acts first) second = FrameCame n k i t frame at there is acts (goes_on first second)
goes_on (OutsideCame i t frame there is acts first) second = OutsideCame i t frame there is acts (goes_on first second)
goes_on (Forgot count first) second = Forgot count (goes_on first second)

module _ {O : Type 0} (did : Owns O) where
  pub joined : (a b c : Network (Linked O)) (calls more : List Call) (answers more_answers : List Answer) →
      NetworkGoes did calls answers a b → NetworkGoes did more more_answers b c → NetworkGoes did (calls ++ more) (answers ++ more_answers) a c
  joined a b c calls more answers more_answers first second = λ s stands.
      let x = first s stands in
      let y = second x.last x.stands in record {
        moves = x.moves ++ y.moves;
        last = y.last;
        goes = goes_on x.goes y.goes;
        answered = rw (x.answered, y.answered) (sym (map-append answer_of x.moves y.moves));
        stands = y.stands;
      }

  -- what a host's step is, from the end that it stands for
  record Stepped (command : Command) (answer : Answer) (old : End O) (mid : Linked O) : Type 0 where
    transition : Transition
    commanded : transition.command ≡ command
    answered : transition.answer ≡ answer
    new : End O
    acts : Acts did transition old new
    is_end : IsEndOf mid new

  stepped : (command : Command) (answer : Answer) (h mid : Linked O) (H : Host) → StandsFor h.interface h.sockets H →
      HostRefinesCommand Tells did h.device mid.device h.owner mid.owner command answer
      (StandsFor h.interface h.sockets) (StandsFor mid.interface mid.sockets) → Stepped command answer (end_of h H) mid
  stepped command answer h mid H stands goes = let went = goes H stands in record {
    transition = record {
      command = command;
      answer = answer;
      told = went.told;
      acts = went.acts;
      notes = went.notes;
      before = H;
      after = went.host;
    };
    commanded = refl;
    answered = refl;
    new = end_of mid went.host;
    acts = record { step = went.steps; before = refl; after = refl; tells = went.tells_it; owner_did = went.owner_did };
    is_end = record { stands = went.stands; same = refl };
  }

  -- what a host sent is taken
  taken_is_end : (mid : Linked O) (e : End O) → IsEndOf mid e → IsEndOf (host_taken mid) (end_taken e)
  taken_is_end mid e is = record { stands = is.stands; same = ap end_taken is.same }

  stands_after : (n new : Network (Linked O)) (a : Network (End O)) (i : ℕ) (mid : Linked O) (e : End O) →
      Stands n a → IsEndOf mid e → new.hosts ≡ set n.hosts i (host_taken mid) → new.forgotten ≡ n.forgotten →
      new.wire ≡ wire_with i mid.device.sent n.wire → Stands new (after_acting a i e)
  stands_after n new a i mid e s is hosts forgotten wire = record {
    hosts = rw hosts (stand_set n.hosts a.hosts i (host_taken mid) (end_taken e) s.hosts (taken_is_end mid e is));
    forgotten = s.forgotten ∙ sym forgotten;
    wire = ap (λ (x : End O). wire_with i x.device.sent a.wire) is.same ∙ ap (λ w. wire_with i mid.device.sent w) s.wire ∙ sym wire;
  }

  -- a host ran a command
  pub host_ran : (n new : Network (Linked O)) (i : ℕ) (command : Command) (answer : Answer) (h h' : Linked O) →
      slice_get n.hosts i ≡ Some h → Acted did i command answer h h' n.wire new.wire →
      new.hosts ≡ set n.hosts i h' → new.forgotten ≡ n.forgotten → NetworkGoes did (Runs i command ∷ []) (answer ∷ []) n new
  host_ran n new i command answer h h' at acted hosts forgotten = λ a s.
      let x = end_at n.hosts a.hosts i h s.hosts at in
      let went = stepped command answer h acted.mid x.end.host x.is_end.stands acted.refines in
      let acts : Acts did went.transition x.end went.new = subst (λ (y : End O). Acts did went.transition y went.new) (sym x.is_end.same) went.acts in
      record {
        moves = record { host = i; transition = went.transition } ∷ [];
        last = after_acting a i went.new;
        goes = subst (λ c. Goes did a (Runs i c ∷ []) (record { host = i; transition = went.transition } ∷ []) (after_acting a i went.new))
            went.commanded (HostRan {p = went.transition} i x.there acts Stops);
        answered = ap (λ y. y ∷ []) (sym went.answered);
        stands = stands_after n new a i acted.mid went.new s went.is_end (hosts ∙ ap (λ y. set n.hosts i y) acted.taken_is) forgotten acted.kept;
      }

  -- a frame came to a host
  pub frame_came : (n new : Network (Linked O)) (number k i : ℕ) (t : ℤ) (frame : List ℕ) (answer : Answer) (h h' : Linked O) →
      slice_get n.hosts i ≡ Some h → frame_at n number k ≡ Some frame →
      Acted did i (PollIngressSingle t) answer (host_with_frame h frame) h' n.wire new.wire →
      new.hosts ≡ set n.hosts i h' → new.forgotten ≡ n.forgotten → NetworkGoes did (HandsOver number k i t ∷ []) (answer ∷ []) n new
  frame_came n new number k i t frame answer h h' at there acted hosts forgotten = λ a s.
      let x = end_at n.hosts a.hosts i h s.hosts at in
      let went = stepped (PollIngressSingle t) answer (host_with_frame h frame) acted.mid x.end.host x.is_end.stands acted.refines in
      let acts : Acts did went.transition (end_with_frame x.end frame) went.new =
      subst (λ (y : End O). Acts did went.transition (end_with_frame y frame) went.new) (sym x.is_end.same) went.acts in
      let found : frame_at a number k ≡ Some frame = rw (s.forgotten, s.wire) there in record {
        moves = record { host = i; transition = went.transition } ∷ [];
        last = after_acting a i went.new;
        goes = FrameCame {p = went.transition} number k i t frame x.there found went.commanded acts Stops;
        answered = ap (λ y. y ∷ []) (sym went.answered);
        stands = stands_after n new a i acted.mid went.new s went.is_end (hosts ∙ ap (λ y. set n.hosts i y) acted.taken_is) forgotten acted.kept;
      }

  -- a frame came from outside
  pub outside_came : (n new : Network (Linked O)) (i : ℕ) (t : ℤ) (frame : List ℕ) (answer : Answer) (h h' : Linked O) →
      slice_get n.hosts i ≡ Some h → Acted did i (PollIngressSingle t) answer (host_with_frame h frame) h' n.wire new.wire →
      new.hosts ≡ set n.hosts i h' → new.forgotten ≡ n.forgotten → NetworkGoes did (TakesIn frame i t ∷ []) (answer ∷ []) n new
  outside_came n new i t frame answer h h' at acted hosts forgotten = λ a s.
      let x = end_at n.hosts a.hosts i h s.hosts at in
      let went = stepped (PollIngressSingle t) answer (host_with_frame h frame) acted.mid x.end.host x.is_end.stands acted.refines in
      let acts : Acts did went.transition (end_with_frame x.end frame) went.new =
      subst (λ (y : End O). Acts did went.transition (end_with_frame y frame) went.new) (sym x.is_end.same) went.acts in record {
        moves = record { host = i; transition = went.transition } ∷ [];
        last = after_acting a i went.new;
        goes = OutsideCame {p = went.transition} i t frame x.there went.commanded acts Stops;
        answered = ap (λ y. y ∷ []) (sym went.answered);
        stands = stands_after n new a i acted.mid went.new s went.is_end (hosts ∙ ap (λ y. set n.hosts i y) acted.taken_is) forgotten acted.kept;
      }

  -- transmissions were forgotten
  pub forgot : (n new : Network (Linked O)) (count : ℕ) → new.hosts ≡ n.hosts → new.forgotten ≡ n.forgotten + count →
      new.wire ≡ drop count n.wire → NetworkGoes did (Forgets count ∷ []) [] n new
  forgot n new count hosts forgotten wire = λ a s. record {
    moves = [];
    last = without_first a count;
    goes = Forgot count Stops;
    answered = refl;
    stands = record {
      hosts = rw hosts s.hosts;
      forgotten = ap (λ x. x + count) s.forgotten ∙ sym forgotten;
      wire = ap (λ w. drop count w) s.wire ∙ sym wire;
    };
  }

-- hosts up to a number are regular, and so is the next one
pub one_more : {O : Type 0} (hosts : List (Linked O)) (n : ℕ) (x : Linked O) → slice_get hosts n ≡ Some x →
    ((H : Host) → StandsFor x.interface x.sockets H → IsRegular H) →
    ((i : ℕ) (h : Linked O) (H : Host) → i < n → slice_get hosts i ≡ Some h → StandsFor h.interface h.sockets H → IsRegular H) →
    (i : ℕ) (h : Linked O) (H : Host) → i < n + 1 → slice_get hosts i ≡ Some h → StandsFor h.interface h.sockets H → IsRegular H
one_more hosts n x at here before i h H less there stands = by (i == n) refl where
  by : (b : Bool) → (i == n) ≡ b → IsRegular H
  by true is =
      let i_is : i ≡ n = eqb-true i n is in
      let both : Some x ≡ Some h = sym at ∙ rw (← i_is) there in
      let x_is : h ≡ x = cc in here H (subst (λ (y : Linked _). StandsFor y.interface y.sockets H) x_is stands)
  by false is = let other : i ≡ n → ⊥ = eqb-false i n is in before i h H (grind (arith, other)) there stands
