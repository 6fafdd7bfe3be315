-- Lives go on in polls.
use Rattle.std.proofs.Common.{◌≡◌, ◌∙◌, ℕ, ◌<◌, Bool, true, false, List, [], ◌∷◌, ◌++◌, length, Option, Some, None, inl, inr}
use Rattle.std.proofs.Common.{refl, sym, ap, subst, arith, option_map}
use Rattle.std.specs.Prelude.{nat_lt, ◌==◌, ◌&&◌, ◌⊎◌, if◌then◌else◌}
use Rattle.std.specs.List.{Contains}
use Rattle.std.proofs.lemmas.Bool.{false≢true}
use Rattle.std.proofs.lemmas.Bool.Decides.{nat_tests}
use Rattle.std.proofs.lemmas.List.Elements.{Contains-push}
use Rattle.net_base.specs.Checksum.{is_rx, is_tx}
use Rattle.ip_address.specs.declared.cidr.IpCidr.{IpCidr}
use Rattle.ip_address.specs.declared.ip.IpAddress.{IpAddress}
use Rattle.ip_address.specs.declared.protocol.IpVersion.{IpVersion}
use Rattle.ip_address.specs.declared.protocol.IpVersion.TheVariants.{Ipv4, Ipv6}
use Rattle.sockets.specs.Raw.{RawSocket, Sent as Packet, packet_in, socket_after_done}
use Rattle.sockets.specs.Queue.{first_of}
use Rattle.socket_set.specs.SocketSet.{Sockets}
use Rattle.tcp_machine.specs.Connection.{Connection}
use Rattle.tcp_machine.specs.Outgoing as machine
use Rattle.tcp_connection.specs.Actions.{header_of}
use Rattle.tcp_connection.specs.declared.outgoing.Action.{Action}
use Rattle.tcp_host.specs.declared.iss.Endpoints.{Endpoints}
use Rattle.tcp_host.specs.Table.{ends_at}
use Rattle.tcp_host.specs.declared.turns.Turn.{Turn}
use Rattle.tcp_host.specs.declared.turns.Turn.TheVariants.{Idle, Quiet, Sends as SendsTurn}
use Rattle.tcp_host.specs.Host.{Host, no_settings, connection_at}
use Rattle.tcp_host.specs.Turns.{TakesTurn, sent_at, sent_if, postponed, aborted_if}
use Rattle.tcp_host.specs.declared.resets.Reply.{Reply}
use Rattle.tcp_sockets.specs.declared.receiving.Answer.{Answer}
use Rattle.tcp_sockets.specs.Arrivals.{HasSegment, arrived_in}
use Rattle.tcp_sockets.specs.Packets.{Segment, packet_text, reply_between}
use Rattle.tcp_sockets.specs.Receiving.{answer_to, ReceivesFirst, ReceivesSent, ReceivesPacket}
use Rattle.tcp_sockets.specs.Sending.{version_between}
use Rattle.tcp_sockets.specs.declared.tcp_sockets.SocketPair.{SocketPair}
use Rattle.tcp_sockets.specs.Polls.{Carrier, State, state, pair_of, far_of, with_far, with_waiting, later_by_pause, resumed_in, resumed, segment_at}
use Rattle.tcp_sockets.specs.Polls.{raw_at, with_raw, after_near, after_far, waiting_after_far, is_near_queued, near_queued, far_queued, replied_by, is_half_free, answered}
use Rattle.tcp_sockets.specs.Polls.{HearsFirst, HearsAt, HearsEach, Begins, Goes, HearsBy, HearsAll, arrived, fate_if, fate_by, fate_in, fate_of}
use Rattle.tcp_sockets.specs.Polls.{after_by, after_in, after_queueing, after_fate, after_sending, Follows as FollowsTurn, GivesTurn}
use Rattle.tcp_sockets.specs.Polls.{Turns, First, Next, GivesTurns, AllGiven, ManyGiven}
use Rattle.tcp_laws.specs.Machines.{Sent, Side, unopened, sent_as, Act}
use Rattle.tcp_laws.specs.Machines as machines
use Rattle.tcp_host_laws.specs.Lives.{Life, side_of, Does, newest, with_act, continued, after_events, IsLifeOf, Tells}
use Rattle.tcp_host_laws.specs.Turns.{Came, InLife, LivesOn}
use Rattle.tcp_host_laws.specs.Laws.{Whatever, PollsLiveOn}
use Rattle.tcp_host_laws.proofs.LifeLemmas.{after_of, Rests, Steps, rests_then, tells_step, one_more, newest_there}
use Rattle.tcp_host_laws.proofs.HostSteps.{same}
use Rattle.tcp_host_laws.proofs.Growing.{at_head, lives_then, sent_after}
use Rattle.tcp_host_laws.proofs.Receiving.{Follows, rests, stays, has_segment}
use Rattle.tcp_host_laws.proofs.Arriving.{found, Answers, receives}
use Rattle.tcp_host_laws.proofs.HostTurns.{follows_then, aborts, sends, sends_later, sent_steps, may_send, postpones, takes, turn_within}
use Rattle.tcp_host_laws.proofs.Queues.{AllMove, SentIf, still, one_moves, done_moves, near_moves, far_moves}

module _ {L : Type 0} (own : List IpCidr) (ls : List Life) (old : State L) (t : Tells ls old.host) where
  abbrev checked : Bool
  checked = is_rx old.carrier.checksum

  abbrev summed : Bool
  summed = is_tx old.carrier.checksum

  pub lives_by : (c : Carrier) (h : Host) (set : Sockets L) (f : Follows checked own old.sockets ls old.host h) →
      c.checksum ≡ old.carrier.checksum → AllMove summed (after_events f.events ls) old.sockets set → LivesOn own ls old (state c h set)
  lives_by c h set f e m = record { events = f.events; follow = f.follow; tells = f.tells; checksum = e; sockets = m }

  pub host_lives : (h : Host) → Follows checked own old.sockets ls old.host h → LivesOn own ls old (record old { host = h })
  host_lives h f = lives_by old.carrier h old.sockets f refl (still summed (after_events f.events ls) old.sockets)

  pub nothing : LivesOn own ls old old
  nothing = host_lives old.host (rests checked own old.sockets ls old.host t old.host (same old.host))

  far_checksum : (v : IpVersion) (waiting : List IpAddress) (c : Carrier) → (with_far v waiting c).checksum ≡ c.checksum
  far_checksum Ipv4 waiting c = refl
  far_checksum Ipv6 waiting c = refl

  -- what answers is queued, by either socket
  replied_lives : (by_near : Bool) (v : IpVersion) (x : Segment) → SentIf summed ls x → LivesOn own ls old (replied_by by_near v x old)
  replied_lives true v x sent =
      let pair = pair_of v old.carrier in
      let f = rests checked own old.sockets ls old.host t old.host (same old.host) in
      lives_by old.carrier old.host (after_near summed x pair old.sockets) f refl
      (near_moves summed (after_events f.events ls) old.sockets x pair
      (λ room fits. sent_after summed f.events ls (packet_text summed x) (sent fits)))
  replied_lives false v x sent =
      let waiting = far_of v old.carrier in
      let pair = pair_of v old.carrier in
      let f = rests checked own old.sockets ls old.host t old.host (same old.host) in
      lives_by (with_far v (waiting_after_far summed x waiting pair old.sockets) old.carrier) old.host (after_far summed x waiting pair old.sockets) f
      (far_checksum v (waiting_after_far summed x waiting pair old.sockets) old.carrier)
      (far_moves summed (after_events f.events ls) old.sockets x waiting pair
      (λ fits. sent_after summed f.events ls (packet_text summed x) (sent fits)))

  pub answered_lives : (known : Bool) (v : IpVersion) (answer : Option Answer) →
      ((a : Answer) → answer ≡ Some a → SentIf summed ls (reply_between a.endpoints a.reply)) → LivesOn own ls old (answered known v answer old)
  answered_lives known v None sent = nothing
  answered_lives known v (Some a) sent =
      replied_lives (known && is_half_free (pair_of v old.carrier) old.sockets) v (reply_between a.endpoints a.reply) (sent a refl)

  -- the first packet of a socket is received
  in_front : (xs : List (Unit {0} × List ℕ)) (q : Unit {0} × List ℕ) → first_of xs ≡ Some q → Contains xs q
  in_front [] q e = absurd cc
  in_front (x ∷ xs) q e = let is : x ≡ q = cc in subst (λ (y : Unit {0} × List ℕ). Contains (x ∷ xs) y) is (at_head x xs)

  -- what the connections do, and what answers
  record AnswersAs (answer : Option Answer) (host : Host) : Type 0 where
    follows : Follows checked own old.sockets ls old.host host
    sent : (a : Answer) → answer ≡ Some a → SentIf summed (after_events follows.events ls) (reply_between a.endpoints a.reply)

  unanswered : (answer : Option Answer) (host : Host) → answer ≡ None → host ≡ old.host → AnswersAs answer host
  unanswered answer host none is = record { follows = stays checked own old.sockets ls old.host t host is; sent = λ a one. absurd cc }

  reply_by : (e : Endpoints) (o : Option Reply) (a : Answer) → answer_to e o ≡ Some a → (o ≡ Some a.reply) × (e ≡ a.endpoints)
  reply_by e None a is = absurd cc
  reply_by e (Some r) a is = (cc, cc)

  of_reply : (e : Endpoints) (o : Option Reply) (host : Host) → Answers checked own old.sockets ls e old.host o host → (answer : Option Answer) →
      answer ≡ answer_to e o → AnswersAs answer host
  of_reply e o host x answer is = record {
    follows = x.follows;
    sent = λ a one.
        let by = reply_by e o a (sym is ∙ one) in
        subst (λ (d : Endpoints). SentIf summed (after_events x.follows.events ls) (reply_between d a.reply)) by.1 (x.sent summed a.reply by.0);
  }

  module _ (near now : ℕ) (socket : RawSocket) (there : raw_at near old.sockets ≡ Some socket) (answer : Option Answer) (host : Host) where
    packet_follows : (q : Unit {0} × List ℕ) → first_of socket.rx.packets ≡ Some q → (p : Packet) → packet_in socket.version q.1 ≡ Some p →
        (HasSegment checked own p ⊎ (HasSegment checked own p → ⊥)) → ReceivesPacket now checked own p old.host answer host → AnswersAs answer host
    packet_follows q at p is (inl has) r =
        let a = arrived_in p in
        let came : Came checked own old.sockets a.endpoints _ = record {
          index = near;
          socket = socket;
          there = there;
          octets = q.1;
          waits = in_front socket.rx.packets q at;
          packet = p;
          is_read = is;
          has_segment = has;
          ends = refl;
          is = refl;
        } in
        let w = r.received has in
        of_reply a.endpoints w.reply host
        (receives checked own old.sockets ls old.host t now a.endpoints a.segment a.octets came w.reply host w.received) answer w.is
    packet_follows q at p is (inr never_so) r =
        let i = r.ignored never_so in unanswered answer host i.unanswered i.unchanged

    sent_follows : (q : Unit {0} × List ℕ) → first_of socket.rx.packets ≡ Some q → (o : Option Packet) → packet_in socket.version q.1 ≡ o →
        ReceivesSent now checked own o old.host answer host → AnswersAs answer host
    sent_follows q at None is r = unanswered answer host r.unanswered r.unchanged
    sent_follows q at (Some p) is r = packet_follows q at p is (has_segment checked own p) r

    first_follows : (o : Option (Unit {0} × List ℕ)) → first_of socket.rx.packets ≡ o →
        ReceivesFirst now checked own socket.version o old.host answer host → AnswersAs answer host
    first_follows None at r = unanswered answer host r.unanswered r.unchanged
    first_follows (Some q) at r = sent_follows q at (packet_in socket.version q.1) refl r

pub hears_first : {L : Type 0} (own : List IpCidr) (ls : List Life) (old new : State L) → Tells ls old.host → (v : IpVersion) (near now : ℕ)
    (socket : RawSocket) → raw_at near old.sockets ≡ Some socket → HearsFirst Whatever v near now own socket old new → LivesOn own ls old new
hears_first own ls old new t v near now socket there h =
    let x = first_follows own ls old t near now socket there h.answer h.host (first_of socket.rx.packets) refl h.received in
    let f = x.follows in
    let mid = state old.carrier h.host (with_raw near (socket_after_done socket) old.sockets) in
    let one : LivesOn own ls old mid = record {
      events = f.events;
      follow = f.follow;
      tells = f.tells;
      checksum = refl;
      sockets = one_moves (is_tx old.carrier.checksum) (after_events f.events ls) old.sockets near socket (socket_after_done socket) there
          (done_moves (is_tx old.carrier.checksum) (after_events f.events ls) socket);
    } in
    subst (λ (st : State _). LivesOn own ls old st) (sym h.after)
    (lives_then own ls old mid (answered h.known v h.answer mid) one
    (answered_lives own (after_events f.events ls) mid f.tells h.known v h.answer x.sent))

module _ {L : Type 0} (own : List IpCidr) (v : IpVersion) (now : ℕ) where
  same_lives : (ls : List Life) (old new : State L) → Tells ls old.host → new ≡ old → LivesOn own ls old new
  same_lives ls old new t e = subst (λ (st : State L). LivesOn own ls old st) (sym e) (nothing own ls old t)

  hears_at : (near : ℕ) (ls : List Life) (old new : State L) → Tells ls old.host → (o : Option RawSocket) → raw_at near old.sockets ≡ o →
      HearsAt Whatever v near now own o old new → LivesOn own ls old new
  hears_at near ls old new t None e h = same_lives ls old new t h
  hears_at near ls old new t (Some socket) e h = hears_first own ls old new t v near now socket e h

  hears_each : (near : ℕ) (ls : List Life) (old : State L) → Tells ls old.host → (n : ℕ) (new : State L) →
      HearsEach Whatever v near now own old n new → LivesOn own ls old new
  hears_each near ls old t _ _ Begins = nothing own ls old t
  hears_each near ls old t _ _ (Goes n mid new each h) =
      let one = hears_each near ls old t n mid each in
      lives_then own ls old mid new one (hears_at near (after_events one.events ls) mid new one.tells (raw_at near mid.sockets) refl h)

  hears_by : (ls : List Life) (old new : State L) → Tells ls old.host → (o : Option SocketPair) → HearsBy Whatever v now own o old new → LivesOn own ls old new
  hears_by ls old new t None h = same_lives ls old new t h
  hears_by ls old new t (Some pair) h = hears_each pair.near ls old t (arrived (raw_at pair.near old.sockets)) new h

  pub hears_all : (ls : List Life) (old new : State L) → Tells ls old.host → HearsAll Whatever v now own old new → LivesOn own ls old new
  hears_all ls old new t h = hears_by ls old new t (pair_of v old.carrier) h

-- connections that found no room are due again
resumed_rests : (now : ℕ) (places : List ℕ) (h : Host) → Rests h (resumed_in now places h)
resumed_rests now [] h = same h
resumed_rests now (place ∷ places) h =
    let mid = postponed place now h in
    rests_then h mid (resumed_in now places mid) (postpones place now h) (resumed_rests now places mid)

pub resumed_lives : {L : Type 0} (own : List IpCidr) (ls : List Life) (old : State L) (now : ℕ) → Tells ls old.host → LivesOn own ls old (resumed now old)
resumed_lives own ls old now t =
    let f = rests (is_rx old.carrier.checksum) own old.sockets ls old.host t (resumed_in now old.carrier.waiting old.host)
    (resumed_rests now old.carrier.waiting old.host) in
    lives_by own ls old t (record old.carrier { waiting = [] }) (resumed_in now old.carrier.waiting old.host) old.sockets f refl
    (still (is_tx old.carrier.checksum) (after_events f.events ls) old.sockets)

is_less : (a b : ℕ) → a < b → nat_lt a b ≡ true
is_less a b lt = grind (arith, nat_tests)

-- what the connection at a place sends, it sent
module _ {L : Type 0} (own : List IpCidr) (ls : List Life) (old : State L) (t : Tells ls old.host) (place now : ℕ)
    (within : place < length old.host.slots) (m : machine.Action) (due : machine.action now (connection_at place old.host) ≡ Some m) where
  abbrev h : Host
  h = old.host

  abbrev act : Act
  act = machines.Sends now

  abbrev checked_here : Bool
  checked_here = is_rx old.carrier.checksum

  abbrev summed_here : Bool
  summed_here = is_tx old.carrier.checksum

  sent_there : sent_if place now h ≡ sent_at place now h
  sent_there = ap (λ (b : Bool). if b then sent_at place now h else h) (is_less place (length h.slots) within)

  now_steps : Steps place (after_of 0 act (connection_at place h)) h (sent_if place now h)
  now_steps = subst (λ (x : Host). Steps place (after_of 0 act (connection_at place h)) h x) (sym sent_there)
      (sent_steps checked_here own old.sockets place now h)

  abbrev now_sent : Follows checked_here own old.sockets ls h (sent_if place now h)
  now_sent = record {
    events = Does place act ∷ [];
    follow = may_send checked_here own old.sockets ls place now;
    tells = tells_step place act ls h (sent_if place now h) (sends_later now) t now_steps;
    slots = now_steps.slots;
  }

  sent_last : (x : Side) (o : Option machine.Action) → o ≡ Some m → Contains (machines.after_sending now o x).sent (sent_as m x.connection)
  sent_last x None e = absurd cc
  sent_last x (Some n) e =
      let is : n ≡ m = cc in
      subst (λ (k : machine.Action). Contains (x.sent ++ sent_as k x.connection ∷ []) (sent_as m x.connection)) (sym is)
      (Contains-push x.sent (sent_as m x.connection))

  was_sent_by : (e : Endpoints) → (k : Life) × IsLifeOf place e ls k →
      SentIf summed_here (continued place act ls) (segment_at e place m h)
  was_sent_by e k fits =
      let l = k.0 in
      let c = (side_of l).connection in
      let is : c ≡ connection_at place h = t.connection place l within k.1.is in
      let there = newest_there place act ls ∙ ap (λ (o : Option Life). option_map (with_act act) o) k.1.is in
      let last : Contains (machines.after_act l.number act (side_of l)).sent (sent_as m c) =
      sent_last (side_of l) (machine.action now c) (ap (λ (x : Connection). machine.action now x) is ∙ due) in
      InLife (with_act act l) (sent_as m c) (segment_at e place m h) (found place (continued place act ls) (with_act act l) there)
      (subst (λ (x : Side). Contains x.sent (sent_as m c)) (sym (one_more l.number l.acts act (unopened l.room l.size no_settings))) last)
      (record {
        ends = sym k.1.ends;
        header = sym (ap (λ (x : Connection). header_of (machine.segment_for m x)) is);
        octets = sym (ap (λ (x : Connection). (machine.segment_for m x).octets) is);
      }) fits refl

  was_sent : (e : Endpoints) → ends_at h.ends place ≡ Some e →
      SentIf summed_here (continued place act ls) (segment_at e place m h)
  was_sent e at = was_sent_by e (t.ends place e at)

  -- or nothing is sent
  stranded : LivesOn own ls old (record old { host = sent_if place now (aborted_if place h) })
  stranded =
      let a = aborts checked_here own old.sockets place ls h t in
      let mid = aborted_if place h in
      host_lives own ls old t (sent_if place now mid)
      (follows_then checked_here own old.sockets ls h mid (sent_if place now mid) a
      (sends checked_here own old.sockets place now (after_events a.events ls) mid a.tells))

  waiting_checksum : (b : Bool) (c : Carrier) → (if b then record c { waiting = c.waiting ++ place ∷ [] } else c).checksum ≡ c.checksum
  waiting_checksum true c = refl
  waiting_checksum false c = refl

  module _ (e : Endpoints) (at : ends_at h.ends place ≡ Some e) (v : IpVersion) where
    abbrev x : Segment
    x = segment_at e place m h

    near_lives : (b : Bool) → is_near_queued v x old ≡ b → LivesOn own ls old (after_fate (fate_if b) place now (near_queued v x old))
    near_lives true is =
        lives_by own ls old t old.carrier (sent_if place now h) (after_near summed_here x (pair_of v old.carrier) old.sockets) now_sent refl
        (near_moves summed_here (continued place act ls) old.sockets x (pair_of v old.carrier) (λ f. was_sent e at))
    near_lives false is =
        let f = rests checked_here own old.sockets ls h t (postponed place (later_by_pause now) h)
        (postpones place (later_by_pause now) h) in
        lives_by own ls old t (with_waiting place old.carrier) (postponed place (later_by_pause now) h)
        (after_near summed_here x (pair_of v old.carrier) old.sockets) f (waiting_checksum (nat_lt (length old.carrier.waiting) 64) old.carrier)
        (near_moves summed_here (after_events f.events ls) old.sockets x (pair_of v old.carrier) (λ room. absurd (false≢true (sym is ∙ room))))

    far_lives : LivesOn own ls old (record (far_queued v x old) { host = sent_if place now h })
    far_lives =
        let waiting = far_of v old.carrier in
        let pair = pair_of v old.carrier in
        lives_by own ls old t (with_far v (waiting_after_far summed_here x waiting pair old.sockets) old.carrier) (sent_if place now h)
        (after_far summed_here x waiting pair old.sockets) now_sent
        (far_checksum own ls old t v (waiting_after_far summed_here x waiting pair old.sockets) old.carrier)
        (far_moves summed_here (continued place act ls) old.sockets x waiting pair (was_sent e at))

    by_lives : (near : Bool) → LivesOn own ls old (after_fate (fate_by near v x old) place now (after_by near v x old))
    by_lives true = near_lives (is_near_queued v x old) refl
    by_lives false = far_lives

  in_lives : (near : Bool) (e : Endpoints) → ends_at h.ends place ≡ Some e → (o : Option IpVersion) →
      LivesOn own ls old (after_fate (fate_in o near (segment_at e place m h) old) place now (after_in o near (segment_at e place m h) old))
  in_lives near e at None = stranded
  in_lives near e at (Some v) = by_lives e at v near

  of_lives : (near : Bool) (o : Option Endpoints) → ends_at h.ends place ≡ o →
      LivesOn own ls old (after_fate (fate_of o near place own m old) place now (after_queueing o near place own m old))
  of_lives near None at = stranded
  of_lives near (Some e) at = in_lives near e at (version_between e own)

  pub sending_lives : (near : Bool) → LivesOn own ls old (after_sending near place now own m old)
  sending_lives near = of_lives near (ends_at h.ends place) refl

-- turn after turn
module _ {L : Type 0} (own : List IpCidr) (now : ℕ) where
  turn_follows : (ls : List Life) (mid new : State L) (goes_on : Bool) → Tells ls mid.host → (turn : Turn) →
      ((place : ℕ) (a : Action) → turn ≡ SendsTurn place a → place < length mid.host.slots) →
      FollowsTurn Whatever turn now own mid goes_on new → LivesOn own ls mid new
  turn_follows ls mid new goes_on t Idle within f = same_lives own Ipv4 now ls mid new t f.1
  turn_follows ls mid new goes_on t Quiet within f = same_lives own Ipv4 now ls mid new t f.1
  turn_follows ls mid new goes_on t (SendsTurn place a) within f =
      subst (λ (st : State L). LivesOn own ls mid st) (sym f.1.sends.after)
      (sending_lives own ls mid t place now (within place a refl) f.1.due f.1.is_due f.1.sends.near)

  given : (ls : List Life) (old new : State L) (goes_on : Bool) → Tells ls old.host → GivesTurn Whatever now own old goes_on new → LivesOn own ls old new
  given ls old new goes_on t g =
      let f = takes (is_rx old.carrier.checksum) own old.sockets now ls old.host g.turn g.host t g.takes in
      let one = host_lives own ls old t g.host f in
      lives_then own ls old (record old { host = g.host }) new one
      (turn_follows (after_events one.events ls) (record old { host = g.host }) new goes_on one.tells g.turn
      (λ place a is. subst (λ (n : ℕ). place < n) (sym f.slots)
      (turn_within now old.host g.host place a (subst (λ (x : Turn). TakesTurn now old.host x g.host) is g.takes)))
      g.follows)

  turns : (ls : List Life) (old : State L) → Tells ls old.host → (n : ℕ) (new : State L) → Turns Whatever now own old n new → LivesOn own ls old new
  turns ls old t _ _ First = nothing own ls old t
  turns ls old t _ _ (Next n mid new before g) =
      let one = turns ls old t n mid before in
      lives_then own ls old mid new one (given (after_events one.events ls) mid new true one.tells g)

  pub all_turns : (ls : List Life) (old new : State L) → Tells ls old.host → GivesTurns Whatever now own old new → LivesOn own ls old new
  all_turns ls old new t (AllGiven n last before g) =
      let one = turns ls old t n last before in
      lives_then own ls old last new one (given (after_events one.events ls) last new false one.tells g)
  all_turns ls old new t (ManyGiven before) = turns ls old t 65536 new before

pub polls_live_on : {L : Type 0} → PollsLiveOn L
polls_live_on now own ls old new t p =
    let one = hears_all own Ipv4 now ls old p.after_v4 t p.hears_v4 in
    let ls_one = after_events one.events ls in
    let two = hears_all own Ipv6 now ls_one p.after_v4 p.after_v6 one.tells p.hears_v6 in
    let ls_two = after_events two.events ls_one in
    let three = resumed_lives own ls_two p.after_v6 now two.tells in
    let four = all_turns own now (after_events three.events ls_two) (resumed now p.after_v6) new three.tells p.sends in
    lives_then own ls old p.after_v4 new one
    (lives_then own ls_one p.after_v4 p.after_v6 new two
    (lives_then own ls_two p.after_v6 (resumed now p.after_v6) new three four))
