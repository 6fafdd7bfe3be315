-- What a host receives, its connections get, and what answers it was sent in a life, or is a reset.
use Rattle.std.proofs.Common.{◌≡◌, ◌∙◌, ℕ, ◌<◌, ◌≤◌, ◌+◌, Bool, true, false, List, [], ◌∷◌, ◌++◌, length, Option, Some, None, is_some, get_or}
use Rattle.std.proofs.Common.{refl, sym, ap, subst, arith, option_map, is_none}
use Rattle.std.specs.Prelude.{◌==◌, if◌then◌else◌}
use Rattle.std.specs.List.{Contains}
use Rattle.std.proofs.lemmas.Bool.Decides.{Decides-eqb}
use Rattle.std.proofs.lemmas.List.{get_or_past, length-replicate}
use Rattle.std.proofs.lemmas.List.Elements.{Contains-push}
use Rattle.net_base.specs.Bucket.{has_token}
use Rattle.ip_address.specs.declared.cidr.IpCidr.{IpCidr}
use Rattle.socket_set.specs.SocketSet.{Sockets}
use Rattle.tcp_machine.specs.Connection.{Connection}
use Rattle.tcp_machine.specs.Opening.{accepted}
use Rattle.tcp_machine.specs.Outgoing.{SendSyn, syn_segment}
use Rattle.tcp_machine.specs.Receiving.{open_receiver}
use Rattle.tcp_machine.specs.Segments as machine
use Rattle.tcp_connection.specs.Actions.{header_of, after_sending}
use Rattle.tcp_connection.specs.declared.outgoing.Header.{Header}
use Rattle.tcp_connection.specs.declared.segment.Segment.{Segment}
use Rattle.tcp_connection.specs.Segments.{segment_of}
use Rattle.tcp_host.specs.Arrivals.{Delivers, Receives, Known, Reopened, Improper, Begun, Resumed, Unheeded, Answered, Nobody}
use Rattle.tcp_host.specs.Arrivals.{Begins, TooMany, NoPlace, Unkept, InPlace, Resumes, NotTaken, Unplaced, AtPlace}
use Rattle.tcp_host.specs.Arrivals.{accepted_with, answered_at, before, cookie_for, counted, refused, syn_ack, told_syn, unkept}
use Rattle.tcp_host.specs.Host.{Host, connection_at, default_mss, link_mss, accepted_settings_for, with_connection}
use Rattle.tcp_host.specs.Resets.{reset_for, begins}
use Rattle.tcp_host.specs.Table.{ends_at}
use Rattle.tcp_host.specs.declared.iss.Endpoints.{Endpoints}
use Rattle.tcp_host.specs.declared.resets.Reply.{Reply}
use Rattle.tcp_host.specs.declared.resets.Reply.TheVariants as reply
use Rattle.tcp_host.specs.declared.resets.Reset.{Reset}
use Rattle.tcp_sockets.specs.Packets.{packet_text, reply_between, syn_ack_between}
use Rattle.tcp_sockets.specs.Sending.{is_packet}
use Rattle.tcp_laws.specs.Machines.{Sent, sent_as, Act, Accepts, Sends, arrived}
use Rattle.tcp_host_laws.specs.Lives.{Life, side_of, Event, Does, newest, with_act, continued, begun, after_events, IsLifeOf, Tells}
use Rattle.tcp_host_laws.specs.Lives as lives
use Rattle.tcp_host_laws.specs.Turns.{Came, BySyn, ByCookie, WasSent, InLife, InNone}
use Rattle.tcp_host_laws.proofs.Growing.{at_head, in_tail}
use Rattle.tcp_host_laws.proofs.HostSteps.{found_rests, connection_steps}
use Rattle.tcp_host_laws.proofs.HostTurns.{sends_of, sends_later}
use Rattle.tcp_host_laws.proofs.LifeLemmas.{after_of, Rests, Steps, Starts, rests_then, tells_step, tells_start, newest_there}
use Rattle.tcp_host_laws.proofs.Receiving.{Follows, got, all_of, no_ack, counted_rests, act_at, connection_with, life_at, starts_at}
use Rattle.tcp_host_laws.proofs.Receiving.{stays, delivered, in_place, reopened, refuse}

-- a life that is the newest one is one
found_by : (place : ℕ) (x : Life) (ls : List Life) (l : Life) (b : Bool) → (newest place ls ≡ Some l → Contains ls l) →
    (if b then Some x else newest place ls) ≡ Some l → Contains (x ∷ ls) l
found_by place x ls l true rest e = let is : x ≡ l = cc in subst (λ (y : Life). Contains (x ∷ ls) y) is (at_head x ls)
found_by place x ls l false rest e = in_tail x l ls (rest e)

pub found : (place : ℕ) (ls : List Life) (l : Life) → newest place ls ≡ Some l → Contains ls l
found place [] l e = absurd cc
found place (x ∷ ls) l e = found_by place x ls l (x.place == place) (found place ls l) e

-- what answers between these ends
pub record Answers {L : Type 0} (checked : Bool) (own : List IpCidr) (sockets : Sockets L) (ls : List Life) (e : Endpoints) (old : Host)
    (answer : Option Reply) (new : Host) : Type 0 where
  pub follows : Follows checked own sockets ls old new
  pub sent : (summed : Bool) (r : Reply) → answer ≡ Some r → is_packet (reply_between e r) ≡ true →
      WasSent summed (after_events follows.events ls) (packet_text summed (reply_between e r))

module _ {L : Type 0} (checked : Bool) (own : List IpCidr) (sockets : Sockets L) (ls : List Life) (old : Host) (t : Tells ls old)
    (now : ℕ) (e : Endpoints) (s : Segment) (octets : List ℕ) (came : Came checked own sockets e (segment_of s octets)) where
  abbrev Is : Option Reply → Host → Type 0
  Is answer new = Answers checked own sockets ls e old answer new

  -- nothing answers
  silent : (answer : Option Reply) (new : Host) → answer ≡ None → Follows checked own sockets ls old new → Is answer new
  silent answer new none f = record { follows = f; sent = λ summed r is fits. absurd cc }

  -- a reset does, or nothing
  reset_by : (b : Bool) (x : Reset) (r : Reply) → (if b then Some (reply.Reset x) else None) ≡ Some r → reply.Reset x ≡ r
  reset_by true x r is = cc
  reset_by false x r is = absurd cc

  no_other : (o : Option Reset) (summed : Bool) (ks : List Life) (r : Reply) → (refused now o old).0 ≡ Some r →
      is_packet (reply_between e r) ≡ true → WasSent summed ks (packet_text summed (reply_between e r))
  no_other None summed ks r is = absurd cc
  no_other (Some x) summed ks r is =
      subst (λ (y : Reply). is_packet (reply_between e y) ≡ true → WasSent summed ks (packet_text summed (reply_between e y)))
      (reset_by (has_token now old.resets) x r is) (λ fits. InNone e x fits refl)

  refuses : (answer : Option Reply) (new : Host) → (answer, new) ≡ refused now (reset_for s (length octets)) old → Is answer new
  refuses answer new is =
      let f = refuse checked own sockets ls old t now e s octets came answer new is in record {
        follows = f;
        sent = λ summed r one. no_other (reset_for s (length octets)) summed (after_events f.events ls) r
            (sym (ap (λ (x : Option Reply × Host). x.0) is) ∙ one);
      }

  -- A SYN is answered, and nothing is kept of it: a life of no place accepts it, and sends its SYN-ACK
  abbrev nowhere : ℕ
  nowhere = length old.slots + length old.ends

  abbrev asked : Act
  asked = act_at old now e old (got (segment_of s octets)) (segment_of s octets).options

  abbrev cookie : ℕ
  cookie = cookie_for now e s old

  abbrev first : Life
  first = begun nowhere e cookie old.config.send_room old.config.receive_room asked

  abbrev kept : List Life
  kept = continued nowhere (Sends now) (first ∷ ls)

  no_place : {A : Type 0} → nowhere < length old.slots → A
  no_place lt = absurd (omega (arith, lt))

  no_ends : (d : Endpoints) → ends_at old.ends nowhere ≡ Some d → e ≡ d
  no_ends d is = let gone = get_or_past old.ends nowhere None (omega arith) in absurd cc

  tells_first : Tells (first ∷ ls) old
  tells_first =
      tells_start nowhere e cookie old.config.send_room old.config.receive_room asked ls old old t
      (record { slots = refl; here = λ lt. no_place lt; others = λ q ne. refl; own_ends = no_ends; ends = λ q d ne is. is })

  tells_kept : Tells kept old
  tells_kept =
      tells_step nowhere (Sends now) (first ∷ ls) old old (sends_later now) tells_first
      (record { slots = refl; here = λ lt. no_place lt; others = λ q ne. refl; ends = λ q d is. is })

  there : newest nowhere kept ≡ Some (with_act (Sends now) first)
  there =
      newest_there nowhere (Sends now) (first ∷ ls)
      ∙ ap (λ (b : Bool). option_map (with_act (Sends now)) (if b then Some first else newest nowhere ls)) ((Decides-eqb nowhere nowhere).1 refl)

  abbrev with_room : ℕ → Connection
  with_room n =
      accepted now cookie old.config.send_room n (default_mss e.remote_addr) (link_mss old.config e.remote_addr)
      (accepted_settings_for old.config e.remote_addr) (segment_of s [])

  same_header : (syn_ack now e s old).header ≡ header_of (syn_segment (side_of first).connection)
  same_header =
      ap (λ (n : ℕ). header_of (syn_segment (with_room n))) (sym (length-replicate {A = Option ℕ} old.config.receive_room None))

  syn_ack_sent : (summed : Bool) → is_packet (syn_ack_between e (syn_ack now e s old)) ≡ true →
      WasSent summed kept (packet_text summed (syn_ack_between e (syn_ack now e s old)))
  syn_ack_sent summed fits =
      InLife (with_act (Sends now) first) (sent_as SendSyn (side_of first).connection) (syn_ack_between e (syn_ack now e s old))
      (found nowhere kept (with_act (Sends now) first) there)
      (Contains-push [] (sent_as SendSyn (side_of first).connection))
      (record { ends = refl; header = same_header; octets = refl }) fits refl

  unkept_answers : (answer : Option Reply) (new : Host) → begins s ≡ true → answer ≡ Some (reply.Cookie (syn_ack now e s old)) → new ≡ old →
      Is answer new
  unkept_answers answer new begin is stays =
      let b = all_of s.syn s.rst (is_none s.ack) begin in
      subst (λ (h : Host). Is answer h) (sym stays)
      (record {
        follows = record {
          events = lives.Begins nowhere e cookie old.config.send_room old.config.receive_room asked ∷ Does nowhere (Sends now) ∷ [];
          follow = (BySyn came (record { syn = b.0; no_reset = b.1; no_ack = no_ack s.ack b.2 }), ((λ l at. tt), tt));
          tells = tells_kept;
          slots = refl;
        };
        sent = λ summed r one.
            subst (λ (y : Reply). is_packet (reply_between e y) ≡ true → WasSent summed kept (packet_text summed (reply_between e y)))
            (let same : reply.Cookie (syn_ack now e s old) ≡ r = cc in same) (syn_ack_sent summed);
      })

  begun_answers : (index : ℕ) (answer : Option Reply) (new : Host) → begins s ≡ true → Begins index now e s old answer new → Is answer new
  begun_answers index answer new begin (TooMany full none is) = silent answer new none (stays checked own sockets ls old t new is)
  begun_answers index answer new begin (NoPlace room never_so none is) = silent answer new none (stays checked own sockets ls old t new is)
  begun_answers index answer new begin (Unkept room crowded may one is) = unkept_answers answer new begin one is
  begun_answers index answer new begin (InPlace place room few next none is) =
      silent answer new none (in_place checked own sockets ls old t now e s octets came place index new begin is)

  -- an acknowledgement of a cookie begins a life, whose SYN-ACK was sent, and which gets it
  module _ (n mss index place : ℕ) (ready : Host) (r : Rests old (counted place index ready)) where
    abbrev syn : Segment
    syn = told_syn s mss

    abbrev told : Sent
    told = record (got (segment_of syn [])) { segment = record (got (segment_of syn [])).segment { ack = Some n } }

    abbrev mid : Host
    mid = counted place index ready

    abbrev one : Host
    one = accepted_with (before n) place index now e syn mid

    abbrev life : Life
    life = life_at old now e (before n) place mid told (segment_of syn []).options

    starts_told : Starts place e (side_of life).connection old one
    starts_told = starts_at old now e (before n) place index syn told (segment_of syn []).options mid r (λ size. refl)

    tells_one : Tells (life ∷ ls) one
    tells_one =
        tells_start place e (before n) life.room life.size (act_at old now e mid told (segment_of syn []).options) ls old one t starts_told

    abbrev two : Host
    two = answered_at place now one

    answers_steps : Steps place (after_of 0 (Sends now) (connection_at place one)) one two
    answers_steps =
        subst (λ (c : Connection). Steps place c one two) (sends_of now (connection_at place one))
        (connection_steps place (after_sending now (connection_at place one)) one)

    abbrev lives_two : List Life
    lives_two = continued place (Sends now) (life ∷ ls)

    tells_two : Tells lives_two two
    tells_two = tells_step place (Sends now) (life ∷ ls) one two (sends_later now) tells_one answers_steps

    newest_two : newest place lives_two ≡ Some (with_act (Sends now) life)
    newest_two =
        newest_there place (Sends now) (life ∷ ls)
        ∙ ap (λ (b : Bool). option_map (with_act (Sends now)) (if b then Some life else newest place ls)) ((Decides-eqb place place).1 refl)

    resumed : (new : Host) → s.ack ≡ Some n → Delivers place now e s octets two new → Follows checked own sockets ls old new
    resumed new ack d =
        let f = delivered checked own sockets lives_two two tells_two now e s octets came place new
        (with_act (Sends now) life, record { is = newest_two; ends = refl }) d in record {
          events = lives.Begins place e (before n) life.room life.size (act_at old now e mid told (segment_of syn []).options)
              ∷ Does place (Sends now) ∷ f.events;
          follow = (
            ByCookie (record { answer = segment_of s octets; came = came; number = refl; ack = sym ack; acknowledges = refl }),
            ((λ l at. tt), f.follow),
          );
          tells = f.tells;
          slots = f.slots ∙ answers_steps.slots ∙ starts_told.slots;
        }

  resumes : (n mss index : ℕ) (new : Host) → s.ack ≡ Some n → Resumes (before n) mss index now e s octets old new →
      Follows checked own sockets ls old new
  resumes n mss index new ack (NotTaken full is) = stays checked own sockets ls old t new is
  resumes n mss index new ack (Unplaced room none is) = stays checked own sockets ls old t new is
  resumes n mss index new ack (AtPlace place ready room at d) =
      resumed n mss index place ready
      (rests_then old ready (counted place index ready) (found_rests old place ready at) (counted_rests place index ready)) new ack d

  pub receives : (answer : Option Reply) (new : Host) → Receives now e s octets old answer new → Is answer new
  receives answer new (Known place at kept none d) =
      silent answer new none (delivered checked own sockets ls old t now e s octets came place new (t.ends place e at.has) d)
  receives answer new (Reopened place at index reopens none is) =
      silent answer new none (reopened checked own sockets ls old t now e s octets came place index new reopens is)
  receives answer new (Improper nowhere never_so none is) = silent answer new none (stays checked own sockets ls old t new is)
  receives answer new (Begun nowhere proper index listens begin b) = begun_answers index answer new begin b
  receives answer new (Resumed nowhere proper index listens n mss ack known none r) = silent answer new none (resumes n mss index new ack r)
  receives answer new (Unheeded nowhere proper index listens begin ack none is) = silent answer new none (stays checked own sockets ls old t new is)
  receives answer new (Answered nowhere proper index listens ack unknown is) = refuses answer new is
  receives answer new (Nobody nowhere proper none is) = refuses answer new is
