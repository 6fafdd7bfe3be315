-- The steps of a poll, over plain variables.
use Rattle.std.proofs.Common.{◌≡◌, ◌∙◌, ℕ, Bool, true, false, List, [], Option, Some, None, ap, subst}
use Rattle.net_base.specs.Checksum.{is_rx}
use Rattle.ip_address.specs.declared.ip.IpAddress.{IpAddress}
use Rattle.ip_address.specs.declared.cidr.IpCidr.{IpCidr}
use Rattle.ip_address.specs.declared.protocol.IpVersion.{IpVersion}
use Rattle.ip_address.specs.declared.protocol.IpVersion.TheVariants.{Ipv4, Ipv6}
use Rattle.sockets.specs.Queue.{first_of}
use Rattle.sockets.specs.Raw.{RawSocket, socket_after_done}
use Rattle.tcp_host.specs.declared.iss.Endpoints.{Endpoints}
use Rattle.tcp_host.specs.Table.{ends_at}
use Rattle.tcp_connection.specs.declared.outgoing.Action.{Action}
use Rattle.tcp_host.specs.Host.{Host}
use Rattle.tcp_host.specs.Turns.{is_heard}
use Rattle.tcp_host.specs.declared.turns.Turn.{Turn}
use Rattle.tcp_host.specs.declared.turns.Turn.TheVariants.{Idle, Quiet, Sends}
use Rattle.tcp_sockets.specs.declared.receiving.Answer.{Answer}
use Rattle.tcp_sockets.specs.Receiving.{ReceivesFirst}
use Rattle.tcp_sockets.specs.declared.tcp_sockets.SocketPair.{SocketPair}
use Rattle.tcp_sockets.specs.Polls.{Carrier, State, state, raw_at, with_raw, answered, Answers, IsKnown, pair_of, HearsAt, Hears, HearsEach, Begins as Begun, Goes, HearsBy, arrived, resumed_in, resumed, IsNearBy, IsNear, SendsAs, SendsFrom, Follows, GivesTurn, Turns, First, Next, GivesTurns, AllGiven, ManyGiven, Polls}

module _ {L : Type 0} where
  -- the first packet of a socket that is there is received
  pub hears_first : (told : IpAddress → Bool → Type 0) (v : IpVersion) (near now : ℕ) (own : List IpCidr) (checked : Bool)
      (socket after_socket : RawSocket) (answer : Option Answer) (host : Host) (old new : State L) →
      Some socket ≡ raw_at near old.sockets → checked ≡ is_rx old.carrier.checksum →
      ReceivesFirst now checked own socket.version (first_of socket.rx.packets) old.host answer host →
      after_socket ≡ socket_after_done socket →
      Answers told v answer old.carrier new.carrier (with_raw near after_socket old.sockets) new.sockets → new.host ≡ host →
      Hears told v near now own old new
  hears_first told v near now own checked socket after_socket answer host old new at is_checked received done answers is_host =
      subst (λ (o : Option RawSocket). HearsAt told v near now own o old new) at (record {
        answer = answer;
        host = host;
        known = answers.known;
        received = subst (λ (b : Bool). ReceivesFirst now b own socket.version (first_of socket.rx.packets) old.host answer host) is_checked received;
        is_known = answers.is_known;
        after = ap (λ (h : Host). state new.carrier h new.sockets) is_host ∙ (answers.after host
            ∙ ap (λ (s : RawSocket). answered answers.known v answer (record { carrier = old.carrier; host = host; sockets = with_raw near s old.sockets })) done);
      })

  -- all that arrived was received
  pub hears_by : (told : IpAddress → Bool → Type 0) (v : IpVersion) (now : ℕ) (own : List IpCidr) (pair : SocketPair) (o : Option SocketPair)
      (count : ℕ) (old new : State L) →
      Some pair ≡ o → count ≡ arrived (raw_at pair.near old.sockets) → HearsEach told v pair.near now own old count new →
      HearsBy told v now own o old new
  hears_by told v now own pair o count old new is all each =
      subst (λ (x : Option SocketPair). HearsBy told v now own x old new) is
      (subst (λ (n : ℕ). HearsEach told v pair.near now own old n new) all each)

  -- connections that found no room are due again, and turns follow
  pub after_resuming : (told : IpAddress → Bool → Type 0) (now : ℕ) (own : List IpCidr) (carrier : Carrier) (host : Host) (st new : State L) →
      carrier ≡ record st.carrier { waiting = [] } → host ≡ resumed_in now st.carrier.waiting st.host →
      GivesTurns told now own (state carrier host st.sockets) new → GivesTurns told now own (resumed now st) new
  after_resuming told now own carrier host st new is_carrier is_host gives =
      subst (λ (h : Host). GivesTurns told now own (state (record st.carrier { waiting = [] }) h st.sockets) new) is_host
      (subst (λ (c : Carrier). GivesTurns told now own (state c host st.sockets) new) is_carrier gives)

-- what holds of one teller holds of another one that allows each of its answers
module _ (told other : IpAddress → Bool → Type 0) (allows : (a : IpAddress) (known : Bool) → told a known → other a known) where
  near_by : (a : IpAddress) (heard near : Bool) → IsNearBy told a heard near → IsNearBy other a heard near
  near_by a true near is = is
  near_by a false near is = allows a near is

  near : (o : Option Endpoints) (heard b : Bool) → IsNear told o heard b → IsNear other o heard b
  near None heard b is = tt
  near (Some e) heard b is = near_by e.remote_addr heard b is

  known : (answer : Option Answer) (b : Bool) → IsKnown told answer b → IsKnown other answer b
  known None b is = tt
  known (Some a) b is = allows a.endpoints.remote_addr b is

module _ {L : Type 0} (told other : IpAddress → Bool → Type 0) (allows : (a : IpAddress) (known : Bool) → told a known → other a known)
    (now : ℕ) (own : List IpCidr) where
  sends_from : (place : ℕ) (a : Action) (old new : State L) → SendsFrom told place a now own old new → SendsFrom other place a now own old new
  sends_from place a old new f = record {
    due = f.due;
    is_due = f.is_due;
    is_asked = f.is_asked;
    sends = record {
      near = f.sends.near;
      is_near = near told other allows (ends_at old.host.ends place) (is_heard place now old.host) f.sends.near f.sends.is_near;
      after = f.sends.after;
    };
  }

  follows : (t : Turn) (old : State L) (goes_on : Bool) (new : State L) → Follows told t now own old goes_on new → Follows other t now own old goes_on new
  follows Idle old goes_on new f = f
  follows Quiet old goes_on new f = f
  follows (Sends place a) old goes_on new f = (f.0, sends_from place a old new f.1)

  gives_turn : (old : State L) (goes_on : Bool) (new : State L) → GivesTurn told now own old goes_on new → GivesTurn other now own old goes_on new
  gives_turn old goes_on new g = record {
    turn = g.turn;
    host = g.host;
    takes = g.takes;
    follows = follows g.turn (record old { host = g.host }) goes_on new g.follows;
  }

  turns : (old : State L) (n : ℕ) (new : State L) → Turns told now own old n new → Turns other now own old n new
  turns old _ _ First = First
  turns old _ _ (Next k mid new t g) = Next k mid new (turns old k mid t) (gives_turn mid true new g)

  gives_turns : (old new : State L) → GivesTurns told now own old new → GivesTurns other now own old new
  gives_turns old new (AllGiven n last t g) = AllGiven n last (turns old n last t) (gives_turn last false new g)
  gives_turns old new (ManyGiven t) = ManyGiven (turns old 65536 new t)

  hears_at : (v : IpVersion) (at : ℕ) (o : Option RawSocket) (old new : State L) → HearsAt told v at now own o old new → HearsAt other v at now own o old new
  hears_at v at None old new h = h
  hears_at v at (Some socket) old new h = record {
    answer = h.answer;
    host = h.host;
    known = h.known;
    received = h.received;
    is_known = known told other allows h.answer h.known h.is_known;
    after = h.after;
  }

  hears_each : (v : IpVersion) (at : ℕ) (old : State L) (n : ℕ) (new : State L) → HearsEach told v at now own old n new → HearsEach other v at now own old n new
  hears_each v at old _ _ Begun = Begun
  hears_each v at old _ _ (Goes n mid new each h) = Goes n mid new (hears_each v at old n mid each) (hears_at v at (raw_at at mid.sockets) mid new h)

  hears_by_as : (v : IpVersion) (o : Option SocketPair) (old new : State L) → HearsBy told v now own o old new → HearsBy other v now own o old new
  hears_by_as v None old new h = h
  hears_by_as v (Some pair) old new h = hears_each v pair.near old (arrived (raw_at pair.near old.sockets)) new h

  pub polls : (old new : State L) → Polls told now own old new → Polls other now own old new
  polls old new p = record {
    after_v4 = p.after_v4;
    after_v6 = p.after_v6;
    hears_v4 = hears_by_as Ipv4 (pair_of Ipv4 old.carrier) old p.after_v4 p.hears_v4;
    hears_v6 = hears_by_as Ipv6 (pair_of Ipv6 p.after_v4.carrier) p.after_v4 p.after_v6 p.hears_v6;
    sends = gives_turns (resumed now p.after_v6) new p.sends;
  }

-- the same, with the poll first
pub polls_as : {L : Type 0} (told other : IpAddress → Bool → Type 0) (now : ℕ) (own : List IpCidr) (old new : State L) →
    Polls told now own old new → ((a : IpAddress) (known : Bool) → told a known → other a known) → Polls other now own old new
polls_as told other now own old new p allows = polls told other allows now own old new p
