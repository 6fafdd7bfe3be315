-- What was sent stays sent, and one turn follows another.
use Rattle.std.proofs.Common.{◌≡◌, ◌∙◌, ℕ, Bool, true, false, List, [], ◌∷◌, ◌++◌, Option, Some, None, inl, inr}
use Rattle.std.proofs.Common.{refl, sym, ap, subst, arith}
use Rattle.std.specs.Prelude.{◌==◌, ◌⊎◌, if◌then◌else◌}
use Rattle.std.specs.List.{AllByRecursion, Contains}
use Rattle.std.proofs.lemmas.List.{append_assoc}
use Rattle.std.proofs.lemmas.List.Elements.{Contains-append_left, Contains-append_right, Contains-append_cases, Contains-push, Contains-push_cases}
use Rattle.net_base.specs.Checksum.{is_rx, is_tx}
use Rattle.ip_address.specs.declared.cidr.IpCidr.{IpCidr}
use Rattle.ip_address.specs.declared.protocol.IpVersion.{IpVersion}
use Rattle.sockets.specs.Raw.{RawSocket, packet_in}
use Rattle.socket_set.specs.SocketSet.{Sockets}
use Rattle.tcp_machine.specs.Outgoing.{Action, action}
use Rattle.tcp_machine.specs.Segments as machine
use Rattle.tcp_host.specs.declared.iss.Endpoints.{Endpoints}
use Rattle.tcp_host.specs.Host.{no_settings}
use Rattle.tcp_sockets.specs.Polls.{State, raw_at}
use Rattle.tcp_laws.specs.Machines.{Sent, Side, unopened, arrived, Act, Opens, Accepts, Writes, Reads, Closes, Aborts, Chooses, Fits, Fails, Gets, Expires, Sends}
use Rattle.tcp_laws.specs.Machines.{after_sending, after_act, sent_as}
use Rattle.tcp_host_laws.specs.Lives.{Life, side_of, Event, Does, Begins, with_act, continued, after_event, after_events, Tells}
use Rattle.tcp_host_laws.specs.Turns.{Came, IsTold, MayAccept, BySyn, ByCookie, MayDo, MayBegin, MayHappen, MayFollow, WasSent, InLife, InNone, Moves, MovesIf, LivesOn}
use Rattle.tcp_host_laws.proofs.LifeLemmas.{one_more}

-- the first of a list, and the others
module _ {X : Type 0} where
  pub at_head : (x : X) (xs : List X) → Contains (x ∷ xs) x
  at_head x xs = Contains-append_left (x ∷ []) xs x (Contains-push [] x)

  pub in_tail : (x y : X) (xs : List X) → Contains xs y → Contains (x ∷ xs) y
  in_tail x y xs c = Contains-append_right (x ∷ []) xs y c

  is_one : (x y : X) → Contains (x ∷ []) y → x ≡ y
  is_one x y c = by (Contains-push_cases [] x y c) where
    by : Contains [] y ⊎ (x ≡ y) → x ≡ y
    by (inl none) = absurd (omega (arith, none.1))
    by (inr e) = e

  pub head_or_tail : (x y : X) (xs : List X) → Contains (x ∷ xs) y → (x ≡ y) ⊎ Contains xs y
  head_or_tail x y xs c = by (Contains-append_cases (x ∷ []) xs y c) where
    by : Contains (x ∷ []) y ⊎ Contains xs y → (x ≡ y) ⊎ Contains xs y
    by (inl one) = inl (is_one x y one)
    by (inr rest) = inr rest

-- what a side sent stays sent
sends_kept : (now : ℕ) (o : Option Action) (x : Side) (k : Sent) → Contains x.sent k → Contains (after_sending now o x).sent k
sends_kept now None x k c = c
sends_kept now (Some m) x k c = Contains-append_left x.sent (sent_as m x.connection ∷ []) k c

pub sent_kept : (number : ℕ) (act : Act) (x : Side) (k : Sent) → Contains x.sent k → Contains (after_act number act x).sent k
sent_kept number (Opens now mss settings) x k c = c
sent_kept number (Accepts now default link settings j options) x k c = c
sent_kept number (Writes octets) x k c = c
sent_kept number (Reads count) x k c = c
sent_kept number Closes x k c = c
sent_kept number Aborts x k c = c
sent_kept number (Chooses settings) x k c = c
sent_kept number (Fits size) x k c = c
sent_kept number Fails x k c = c
sent_kept number (Gets default link now keeps j options) x k c = c
sent_kept number (Expires now) x k c = c
sent_kept number (Sends now) x k c = sends_kept now (action now x.connection) x k c

-- a life that goes on
pub record GoesOn (ls : List Life) (l : Life) : Type 0 where
  pub life : Life
  pub there : Contains ls life
  pub ends : life.ends ≡ l.ends
  pub sent : (k : Sent) → Contains (side_of l).sent k → Contains (side_of life).sent k

more_sent : (act : Act) (l : Life) (k : Sent) → Contains (side_of l).sent k → Contains (side_of (with_act act l)).sent k
more_sent act l k c =
    subst (λ (x : Side). Contains x.sent k) (sym (one_more l.number l.acts act (unopened l.room l.size no_settings)))
    (sent_kept l.number act (side_of l) k c)

goes_further : (x : Life) (ls : List Life) (l : Life) → GoesOn ls l → GoesOn (x ∷ ls) l
goes_further x ls l g = record { life = g.life; there = in_tail x g.life ls g.there; ends = g.ends; sent = g.sent }

module _ (place : ℕ) (act : Act) where
  as_head : (x : Life) (ls : List Life) (l : Life) → x ≡ l → (b : Bool) →
      GoesOn (if b then with_act act x ∷ ls else x ∷ continued place act ls) l
  as_head x ls l e true = record {
    life = with_act act x;
    there = at_head (with_act act x) ls;
    ends = ap (λ (y : Life). y.ends) e;
    sent = λ k c. more_sent act x k (subst (λ (y : Life). Contains (side_of y).sent k) (sym e) c);
  }
  as_head x ls l e false = record {
    life = x;
    there = at_head x (continued place act ls);
    ends = ap (λ (y : Life). y.ends) e;
    sent = λ k c. subst (λ (y : Life). Contains (side_of y).sent k) (sym e) c;
  }

  as_rest : (x : Life) (ls : List Life) (l : Life) → Contains ls l → GoesOn (continued place act ls) l → (b : Bool) →
      GoesOn (if b then with_act act x ∷ ls else x ∷ continued place act ls) l
  as_rest x ls l c g true = record { life = l; there = in_tail (with_act act x) l ls c; ends = refl; sent = λ k s. s }
  as_rest x ls l c g false = goes_further x (continued place act ls) l g

  either_on : (x : Life) (ls : List Life) (l : Life) → (Contains ls l → GoesOn (continued place act ls) l) → (x ≡ l) ⊎ Contains ls l →
      GoesOn (continued place act (x ∷ ls)) l
  either_on x ls l rest (inl e) = as_head x ls l e (x.place == place)
  either_on x ls l rest (inr c) = as_rest x ls l c (rest c) (x.place == place)

  pub continued_on : (ls : List Life) (l : Life) → Contains ls l → GoesOn (continued place act ls) l
  continued_on [] l c = absurd (omega (arith, c.1))
  continued_on (x ∷ ls) l c = either_on x ls l (continued_on ls l) (head_or_tail x l ls c)

pub event_on : (e : Event) (ls : List Life) (l : Life) → Contains ls l → GoesOn (after_event e ls) l
event_on (Does place act) ls l c = continued_on place act ls l c
event_on (Begins place e number room size act) ls l c =
    record { life = l; there = in_tail _ l ls c; ends = refl; sent = λ k s. s }

-- and so is what stands in a packet
pub sent_by_then : (summed : Bool) (e : Event) (ls : List Life) (octets : List ℕ) → WasSent summed ls octets →
    WasSent summed (after_event e ls) octets
sent_by_then summed e ls octets (InLife l k s there sent is fits text) =
    let g = event_on e ls l there in
    InLife g.life k s g.there (g.sent k sent) (record { ends = is.ends ∙ sym g.ends; header = is.header; octets = is.octets }) fits text
sent_by_then summed e ls octets (InNone d r fits text) = InNone d r fits text

pub sent_after : (summed : Bool) (es : List Event) (ls : List Life) (octets : List ℕ) → WasSent summed ls octets →
    WasSent summed (after_events es ls) octets
sent_after summed [] ls octets w = w
sent_after summed (e ∷ es) ls octets w = sent_after summed es (after_event e ls) octets (sent_by_then summed e ls octets w)

pub all_sent_after : (summed : Bool) (es : List Event) (ls : List Life) (queued : List (Unit {0} × List ℕ)) →
    AllByRecursion (λ p. WasSent summed ls p.1) queued → AllByRecursion (λ p. WasSent summed (after_events es ls) p.1) queued
all_sent_after summed es ls [] w = tt
all_sent_after summed es ls (p ∷ ps) w = (sent_after summed es ls p.1 w.0, all_sent_after summed es ls ps w.1)

-- events one after another
pub after_both : (es fs : List Event) (ls : List Life) → after_events (es ++ fs) ls ≡ after_events fs (after_events es ls)
after_both [] fs ls = refl
after_both (e ∷ es) fs ls = after_both es fs (after_event e ls)

all_append : {X : Type 0} (P : X → Type 0) (xs ys : List X) → AllByRecursion P xs → AllByRecursion P ys → AllByRecursion P (xs ++ ys)
all_append P [] ys a b = b
all_append P (x ∷ xs) ys a b = (a.0, all_append P xs ys a.1 b)

-- sockets one after another
moves_then : (summed : Bool) (es fs : List Event) (ls : List Life) (old mid new : RawSocket) →
    Moves summed (after_events es ls) old mid → Moves summed (after_events fs (after_events es ls)) mid new →
    Moves summed (after_events fs (after_events es ls)) old new
moves_then summed es fs ls old mid new a b = record {
  version = b.version ∙ a.version;
  protocol = b.protocol ∙ a.protocol;
  taken = a.taken ++ b.taken;
  front = append_assoc a.taken b.taken new.rx.packets ∙ ap (λ (xs : List (Unit {0} × List ℕ)). a.taken ++ xs) b.front ∙ a.front;
  queued = a.queued ++ b.queued;
  back = sym (append_assoc old.tx.packets a.queued b.queued) ∙ ap (λ (xs : List (Unit {0} × List ℕ)). xs ++ b.queued) a.back ∙ b.back;
  sent = all_append (λ p. WasSent summed (after_events fs (after_events es ls)) p.1) a.queued b.queued
      (all_sent_after summed fs (after_events es ls) a.queued a.sent) b.sent;
}

moves_if : (summed : Bool) (es fs : List Event) (ls : List Life) (old mid new : Option RawSocket) →
    MovesIf summed (after_events es ls) old mid → MovesIf summed (after_events fs (after_events es ls)) mid new →
    MovesIf summed (after_events fs (after_events es ls)) old new
moves_if summed es fs ls None mid new a b =
    subst (λ (o : Option RawSocket). MovesIf summed (after_events fs (after_events es ls)) o new) a b
moves_if summed es fs ls (Some s) mid new a b =
    let c : MovesIf summed (after_events fs (after_events es ls)) (Some a.0) new =
    subst (λ (o : Option RawSocket). MovesIf summed (after_events fs (after_events es ls)) o new) a.1 b in
    (c.0, c.1, moves_then summed es fs ls s a.0 c.0 a.2 c.2)

-- what comes later had come
module _ {L : Type 0} (checked summed : Bool) (own : List IpCidr) (es : List Event) (ls : List Life) (old mid : Sockets L)
    (moved : (i : ℕ) → MovesIf summed (after_events es ls) (raw_at i old) (raw_at i mid)) where
  came_by : (e : Endpoints) (s : machine.Segment) (c : Came checked own mid e s) → (o : Option RawSocket) → raw_at c.index old ≡ o →
      MovesIf summed (after_events es ls) o (raw_at c.index mid) → Came checked own old e s
  came_by e s c None is m = let there = c.there in absurd cc
  came_by e s c (Some t) is m =
      let there = c.there in
      let at = m.1 in
      let same : m.0 ≡ c.socket = cc in
      let waits : Contains m.0.rx.packets (tt, c.octets) = subst (λ (x : RawSocket). Contains x.rx.packets (tt, c.octets)) (sym same) c.waits in
      record {
        index = c.index;
        socket = t;
        there = is;
        octets = c.octets;
        waits = subst (λ (xs : List (Unit {0} × List ℕ)). Contains xs (tt, c.octets)) m.2.front
            (Contains-append_right m.2.taken m.0.rx.packets (tt, c.octets) waits);
        packet = c.packet;
        is_read = ap (λ (v : IpVersion). packet_in v c.octets) (sym m.2.version ∙ ap (λ (x : RawSocket). x.version) same) ∙ c.is_read;
        has_segment = c.has_segment;
        ends = c.ends;
        is = c.is;
      }

  pub came : (e : Endpoints) (s : machine.Segment) → Came checked own mid e s → Came checked own old e s
  came e s c = came_by e s c (raw_at c.index old) refl (moved c.index)

  may_do : (e : Endpoints) (act : Act) → MayDo checked own mid e act → MayDo checked own old e act
  may_do e (Opens now mss settings) m = m
  may_do e (Accepts now default link settings k options) m = m
  may_do e (Writes octets) m = m
  may_do e (Reads count) m = m
  may_do e Closes m = m
  may_do e Aborts m = m
  may_do e (Chooses settings) m = m
  may_do e (Fits size) m = m
  may_do e Fails m = m
  may_do e (Gets default link now keeps k options) m = came e (arrived k.segment options) m
  may_do e (Expires now) m = m
  may_do e (Sends now) m = m

  may_accept : (e : Endpoints) (s : machine.Segment) → MayAccept checked own mid e s → MayAccept checked own old e s
  may_accept e s (BySyn c begins) = BySyn (came e s c) begins
  may_accept e s (ByCookie told) = ByCookie (record {
    answer = told.answer;
    came = came e told.answer told.came;
    number = told.number;
    ack = told.ack;
    acknowledges = told.acknowledges;
  })

  may_begin : (e : Endpoints) (act : Act) → MayBegin checked own mid e act → MayBegin checked own old e act
  may_begin e (Opens now mss settings) m = m
  may_begin e (Accepts now default link settings k options) m = may_accept e (arrived k.segment options) m
  may_begin e (Writes octets) m = m
  may_begin e (Reads count) m = m
  may_begin e Closes m = m
  may_begin e Aborts m = m
  may_begin e (Chooses settings) m = m
  may_begin e (Fits size) m = m
  may_begin e Fails m = m
  may_begin e (Gets default link now keeps k options) m = m
  may_begin e (Expires now) m = m
  may_begin e (Sends now) m = m

  may_happen : (ks : List Life) (e : Event) → MayHappen checked own mid ks e → MayHappen checked own old ks e
  may_happen ks (Does place act) m = λ l is. may_do l.ends act (m l is)
  may_happen ks (Begins place e number room size act) m = may_begin e act m

  pub may_follow : (ks : List Life) (fs : List Event) → MayFollow checked own mid ks fs → MayFollow checked own old ks fs
  may_follow ks [] m = tt
  may_follow ks (f ∷ fs) m = (may_happen ks f m.0, may_follow (after_event f ks) fs m.1)

pub follow_both : {L : Type 0} (checked : Bool) (own : List IpCidr) (sockets : Sockets L) (ls : List Life) (es fs : List Event) →
    MayFollow checked own sockets ls es → MayFollow checked own sockets (after_events es ls) fs → MayFollow checked own sockets ls (es ++ fs)
follow_both checked own sockets ls [] fs a b = b
follow_both checked own sockets ls (e ∷ es) fs a b = (a.0, follow_both checked own sockets (after_event e ls) es fs a.1 b)

-- one turn after another
pub lives_then : {L : Type 0} (own : List IpCidr) (ls : List Life) (old mid new : State L) (a : LivesOn own ls old mid) →
    LivesOn own (after_events a.events ls) mid new → LivesOn own ls old new
lives_then own ls old mid new a b =
    let es = a.events in
    let fs = b.events in
    let rx : is_rx mid.carrier.checksum ≡ is_rx old.carrier.checksum = ap is_rx a.checksum in
    let tx : is_tx mid.carrier.checksum ≡ is_tx old.carrier.checksum = ap is_tx a.checksum in
    let both = sym (after_both es fs ls) in
    let follow : MayFollow (is_rx old.carrier.checksum) own mid.sockets (after_events es ls) fs =
    subst (λ (c : Bool). MayFollow c own mid.sockets (after_events es ls) fs) rx b.follow in
    record {
      events = es ++ fs;
      follow = follow_both (is_rx old.carrier.checksum) own old.sockets ls es fs a.follow
          (may_follow (is_rx old.carrier.checksum) (is_tx old.carrier.checksum) own es ls old.sockets mid.sockets a.sockets (after_events es ls) fs follow);
      tells = subst (λ (ks : List Life). Tells ks new.host) both b.tells;
      checksum = b.checksum ∙ a.checksum;
      sockets = λ i. subst (λ (ks : List Life). MovesIf (is_tx old.carrier.checksum) ks (raw_at i old.sockets) (raw_at i new.sockets)) both
          (moves_if (is_tx old.carrier.checksum) es fs ls (raw_at i old.sockets) (raw_at i mid.sockets) (raw_at i new.sockets) (a.sockets i)
          (subst (λ (c : Bool). MovesIf c (after_events fs (after_events es ls)) (raw_at i mid.sockets) (raw_at i new.sockets)) tx (b.sockets i)));
    }
