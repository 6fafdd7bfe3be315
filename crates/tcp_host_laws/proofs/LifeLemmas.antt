-- How lives go on.
use Rattle.std.proofs.Common.{◌≡◌, ◌∙◌, ℕ, ◌<◌, Bool, true, false, List, [], ◌∷◌, ◌++◌, length, Option, Some, None, inl, inr}
use Rattle.std.proofs.Common.{refl, sym, ap, subst, arith}
use Rattle.std.specs.Prelude.{◌==◌, ◌⊎◌, if◌then◌else◌}
use Rattle.std.specs.Option.{option_map}
use Rattle.std.proofs.lemmas.Bool.{cases_eq}
use Rattle.std.proofs.lemmas.Bool.Decides.{nat_tests}
use Rattle.tcp_machine.specs.Connection.{Connection}
use Rattle.tcp_machine.specs.Outgoing.{Action, action}
use Rattle.tcp_host.specs.declared.iss.Endpoints.{Endpoints}
use Rattle.tcp_host.specs.Table.{ends_at}
use Rattle.tcp_host.specs.Host.{Host, no_settings, connection_at}
use Rattle.tcp_laws.specs.Machines.{Side, unopened, Act, Opens, Accepts, Writes, Reads, Closes, Aborts, Chooses, Fits, Fails, Gets, Expires, Sends}
use Rattle.tcp_laws.specs.Machines.{after_sending, after_act}
use Rattle.tcp_host_laws.specs.Lives.{Life, after_acts, side_of, newest, with_act, continued, begun, IsLifeOf, Tells}

-- what becomes of a connection by an act
abbrev pub side_with : Connection → Side
side_with c = record { connection = c; is_begun = true; sent = []; written = []; read = [] }

abbrev pub after_of : ℕ → Act → Connection → Connection
after_of number act c = (after_act number act (side_with c)).connection

sends_same : (now : ℕ) (o : Option Action) (x : Side) →
    (after_sending now o x).connection ≡ (after_sending now o (side_with x.connection)).connection
sends_same now None x = refl
sends_same now (Some m) x = refl

pub same_after : (number : ℕ) (act : Act) (x : Side) → (after_act number act x).connection ≡ after_of number act x.connection
same_after number (Opens now mss settings) x = refl
same_after number (Accepts now default link settings k options) x = refl
same_after number (Writes octets) x = refl
same_after number (Reads count) x = refl
same_after number Closes x = refl
same_after number Aborts x = refl
same_after number (Chooses settings) x = refl
same_after number (Fits size) x = refl
same_after number Fails x = refl
same_after number (Gets default link now keeps k options) x = refl
same_after number (Expires now) x = refl
same_after number (Sends now) x = sends_same now (action now x.connection) x

-- one act more
pub one_more : (number : ℕ) (acts : List Act) (act : Act) (x : Side) →
    after_acts number (acts ++ act ∷ []) x ≡ after_act number act (after_acts number acts x)
one_more number [] act x = refl
one_more number (a ∷ acts) act x = one_more number acts act (after_act number a x)

-- an act that doesn't depend on the own initial number: it begins nothing
abbrev pub IsLater : Act → Type 0
IsLater act = (number : ℕ) (c : Connection) → after_of number act c ≡ after_of 0 act c

pub after_one : (l : Life) (act : Act) → IsLater act → (side_of (with_act act l)).connection ≡ after_of 0 act (side_of l).connection
after_one l act later =
    ap (λ (x : Side). x.connection) (one_more l.number l.acts act (unopened l.room l.size no_settings))
    ∙ same_after l.number act (side_of l)
    ∙ later l.number (side_of l).connection

-- the newest life of a place
eq_false : (a b : ℕ) → (a ≡ b → ⊥) → (a == b) ≡ false
eq_false a b ne = grind (arith, nat_tests)

eq_true : (a b : ℕ) → a ≡ b → (a == b) ≡ true
eq_true a b e = grind (arith, nat_tests)

is_eq : (a b : ℕ) → (a == b) ≡ true → a ≡ b
is_eq a b e = grind (arith, nat_tests)

module _ (place : ℕ) (act : Act) where
  abbrev goes_at : Life → List Life → Bool → List Life
  goes_at l ls b = if b then with_act act l ∷ ls else l ∷ continued place act ls

  abbrev found_at : Life → List Life → Bool → Option Life
  found_at l ls b = if b then Some l else newest place ls

  there_by : (l : Life) (ls : List Life) (b : Bool) → (l.place == place) ≡ b →
      newest place (continued place act ls) ≡ option_map (with_act act) (newest place ls) →
      newest place (goes_at l ls b) ≡ option_map (with_act act) (found_at l ls b)
  there_by l ls true e rest = ap (λ (b : Bool). if b then Some (with_act act l) else newest place ls) e
  there_by l ls false e rest = ap (λ (b : Bool). if b then Some l else newest place (continued place act ls)) e ∙ rest

  pub newest_there : (ls : List Life) → newest place (continued place act ls) ≡ option_map (with_act act) (newest place ls)
  newest_there [] = refl
  newest_there (l ∷ ls) = there_by l ls (l.place == place) refl (newest_there ls)

  module _ (q : ℕ) (ne : q ≡ place → ⊥) where
    other_by : (l : Life) (ls : List Life) (b : Bool) → (l.place == place) ≡ b → newest q (continued place act ls) ≡ newest q ls →
        newest q (goes_at l ls b) ≡ newest q (l ∷ ls)
    other_by l ls true e rest =
        let f : (l.place == q) ≡ false = eq_false l.place q (λ (x : l.place ≡ q). ne (sym x ∙ is_eq l.place place e)) in
        ap (λ (b : Bool). if b then Some (with_act act l) else newest q ls) f ∙ sym (ap (λ (b : Bool). if b then Some l else newest q ls) f)
    other_by l ls false e rest = ap (λ (o : Option Life). if l.place == q then Some l else o) rest

    pub newest_other : (ls : List Life) → newest q (continued place act ls) ≡ newest q ls
    newest_other [] = refl
    newest_other (l ∷ ls) = other_by l ls (l.place == place) refl (newest_other ls)

-- nothing happens to connections
pub record Rests (old new : Host) : Type 0 where
  pub slots : length new.slots ≡ length old.slots
  pub connections : (q : ℕ) → connection_at q new ≡ connection_at q old
  pub ends : (q : ℕ) (e : Endpoints) → ends_at new.ends q ≡ Some e → ends_at old.ends q ≡ Some e

-- the connection at a place becomes another one
pub record Steps (place : ℕ) (c : Connection) (old new : Host) : Type 0 where
  pub slots : length new.slots ≡ length old.slots
  pub here : place < length old.slots → connection_at place new ≡ c
  pub others : (q : ℕ) → (q ≡ place → ⊥) → connection_at q new ≡ connection_at q old
  pub ends : (q : ℕ) (e : Endpoints) → ends_at new.ends q ≡ Some e → ends_at old.ends q ≡ Some e

-- one begins there
pub record Starts (place : ℕ) (e : Endpoints) (c : Connection) (old new : Host) : Type 0 where
  pub slots : length new.slots ≡ length old.slots
  pub here : place < length old.slots → connection_at place new ≡ c
  pub others : (q : ℕ) → (q ≡ place → ⊥) → connection_at q new ≡ connection_at q old
  pub own_ends : (d : Endpoints) → ends_at new.ends place ≡ Some d → e ≡ d
  pub ends : (q : ℕ) (d : Endpoints) → (q ≡ place → ⊥) → ends_at new.ends q ≡ Some d → ends_at old.ends q ≡ Some d

-- one after another
pub rests_then : (old mid new : Host) → Rests old mid → Rests mid new → Rests old new
rests_then old mid new a b = record {
  slots = b.slots ∙ a.slots;
  connections = λ q. b.connections q ∙ a.connections q;
  ends = λ q e is. a.ends q e (b.ends q e is);
}

pub rests_steps : (place : ℕ) (c : Connection) (old mid new : Host) → Rests old mid → Steps place c mid new → Steps place c old new
rests_steps place c old mid new a b = record {
  slots = b.slots ∙ a.slots;
  here = λ lt. b.here (subst (λ (n : ℕ). place < n) (sym a.slots) lt);
  others = λ q ne. b.others q ne ∙ a.connections q;
  ends = λ q e is. a.ends q e (b.ends q e is);
}

pub steps_rests : (place : ℕ) (c : Connection) (old mid new : Host) → Steps place c old mid → Rests mid new → Steps place c old new
steps_rests place c old mid new a b = record {
  slots = b.slots ∙ a.slots;
  here = λ lt. b.connections place ∙ a.here lt;
  others = λ q ne. b.connections q ∙ a.others q ne;
  ends = λ q e is. a.ends q e (b.ends q e is);
}

pub rests_starts : (place : ℕ) (e : Endpoints) (c : Connection) (old mid new : Host) → Rests old mid → Starts place e c mid new →
    Starts place e c old new
rests_starts place e c old mid new a b = record {
  slots = b.slots ∙ a.slots;
  here = λ lt. b.here (subst (λ (n : ℕ). place < n) (sym a.slots) lt);
  others = λ q ne. b.others q ne ∙ a.connections q;
  own_ends = b.own_ends;
  ends = λ q d ne is. a.ends q d (b.ends q d ne is);
}

-- and the lives tell of what is then
within : (place : ℕ) (old new : Host) → length new.slots ≡ length old.slots → place < length new.slots → place < length old.slots
within place old new same lt = subst (λ (n : ℕ). place < n) same lt

pub tells_rest : (ls : List Life) (old new : Host) → Tells ls old → Rests old new → Tells ls new
tells_rest ls old new t r = record {
  connection = λ q l lt is. t.connection q l (within q old new r.slots lt) is ∙ sym (r.connections q);
  ends = λ q e is. t.ends q e (r.ends q e is);
}

module _ (place : ℕ) (act : Act) (ls : List Life) (old new : Host) (later : IsLater act) (t : Tells ls old)
    (s : Steps place (after_of 0 act (connection_at place old)) old new) where
  here_by : (o : Option Life) → newest place ls ≡ o → (l : Life) → place < length new.slots → option_map (with_act act) o ≡ Some l →
      (side_of l).connection ≡ connection_at place new
  here_by None e l lt is = absurd cc
  here_by (Some k) e l lt is =
      let old_lt = within place old new s.slots lt in
      let is_l : with_act act k ≡ l = cc in
      sym (ap (λ (x : Life). (side_of x).connection) is_l) ∙ after_one k act later
      ∙ ap (λ (c : Connection). after_of 0 act c) (t.connection place k old_lt e) ∙ sym (s.here old_lt)

  connection_by : (q : ℕ) → ((q ≡ place) ⊎ (q ≡ place → ⊥)) → (l : Life) → q < length new.slots →
      newest q (continued place act ls) ≡ Some l → (side_of l).connection ≡ connection_at q new
  connection_by q (inl e) l lt is =
      let here = here_by (newest place ls) refl l (subst (λ (n : ℕ). n < length new.slots) e lt)
      (sym (newest_there place act ls) ∙ ap (λ (n : ℕ). newest n (continued place act ls)) (sym e) ∙ is) in
      here ∙ ap (λ (n : ℕ). connection_at n new) (sym e)
  connection_by q (inr ne) l lt is =
      t.connection q l (within q old new s.slots lt) (sym (newest_other place act q ne ls) ∙ is) ∙ sym (s.others q ne)

  ends_by : (q : ℕ) → ((q ≡ place) ⊎ (q ≡ place → ⊥)) → (e : Endpoints) → (l : Life) × IsLifeOf q e ls l →
      (l : Life) × IsLifeOf q e (continued place act ls) l
  ends_by q (inl same) e (l, is) = (
    with_act act l,
    record {
      is = ap (λ (n : ℕ). newest n (continued place act ls)) same ∙ newest_there place act ls
          ∙ ap (λ (n : ℕ). option_map (with_act act) (newest n ls)) (sym same) ∙ ap (λ (o : Option Life). option_map (with_act act) o) is.is;
      ends = is.ends;
    },
  )
  ends_by q (inr ne) e (l, is) = (l, record { is = newest_other place act q ne ls ∙ is.is; ends = is.ends })

  pub tells_step : Tells (continued place act ls) new
  tells_step = record {
    connection = λ q l lt is. connection_by q (cases_eq q place) l lt is;
    ends = λ q e is. ends_by q (cases_eq q place) e (t.ends q e (s.ends q e is));
  }

module _ (place : ℕ) (e : Endpoints) (number room size : ℕ) (act : Act) (ls : List Life) (old new : Host) (t : Tells ls old)
    (s : Starts place e (side_of (begun place e number room size act)).connection old new) where
  abbrev first : Life
  first = begun place e number room size act

  newest_first : (q : ℕ) → q ≡ place → newest q (first ∷ ls) ≡ Some first
  newest_first q same = ap (λ (b : Bool). if b then Some first else newest q ls) (eq_true place q (sym same))

  newest_later : (q : ℕ) → (q ≡ place → ⊥) → newest q (first ∷ ls) ≡ newest q ls
  newest_later q ne = ap (λ (b : Bool). if b then Some first else newest q ls) (eq_false place q (λ (x : place ≡ q). ne (sym x)))

  start_by : (q : ℕ) → ((q ≡ place) ⊎ (q ≡ place → ⊥)) → (l : Life) → q < length new.slots →
      newest q (first ∷ ls) ≡ Some l → (side_of l).connection ≡ connection_at q new
  start_by q (inl same) l lt is =
      let is_l : Some first ≡ Some l = sym (newest_first q same) ∙ is in
      let is_first : first ≡ l = cc in
      sym (ap (λ (x : Life). (side_of x).connection) is_first)
      ∙ sym (s.here (within place old new s.slots (subst (λ (n : ℕ). n < length new.slots) same lt)))
      ∙ ap (λ (n : ℕ). connection_at n new) (sym same)
  start_by q (inr ne) l lt is =
      t.connection q l (within q old new s.slots lt) (sym (newest_later q ne) ∙ is) ∙ sym (s.others q ne)

  start_ends : (q : ℕ) → ((q ≡ place) ⊎ (q ≡ place → ⊥)) → (d : Endpoints) → ends_at new.ends q ≡ Some d →
      (l : Life) × IsLifeOf q d (first ∷ ls) l
  start_ends q (inl same) d is = (
    first,
    record { is = newest_first q same; ends = s.own_ends d (ap (λ (n : ℕ). ends_at new.ends n) (sym same) ∙ is) },
  )
  start_ends q (inr ne) d is = let known = t.ends q d (s.ends q d ne is) in
      (known.0, record { is = newest_later q ne ∙ known.1.is; ends = known.1.ends })

  pub tells_start : Tells (first ∷ ls) new
  tells_start = record {
    connection = λ q l lt is. start_by q (cases_eq q place) l lt is;
    ends = λ q d is. start_ends q (cases_eq q place) d is;
  }
