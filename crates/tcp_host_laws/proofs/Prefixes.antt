-- What waits before a move of a network was sent in a move before it.
use Rattle.std.proofs.Common.{◌≡◌, ◌∙◌, ℕ, Bool, true, false, List, [], ◌∷◌, ◌++◌, Some, refl, sym, ap, subst}
use Rattle.std.specs.Prelude.{◌==◌, if◌then◌else◌}
use Rattle.std.specs.List.{AllByRecursion, Contains, slice_get}
use Rattle.std.proofs.lemmas.Bool.Decides.{Decides-eqb}
use Rattle.std.proofs.lemmas.List.{append_assoc, append-nil}
use Rattle.std.proofs.lemmas.List.Elements.{Contains-append_left}
use Rattle.net_base.specs.Checksum.{is_tx}
use Rattle.net_base.specs.Device.{Event, handed_frames, sent_frames}
use Rattle.net_base.specs.declared.phy.Medium.{Medium}
use Rattle.ip_address.specs.Protocol.{number_of}
use Rattle.ip_wire.specs.IpPacket.{next_header}
use Rattle.sockets.specs.Raw.{Sent as Packet, packet_in}
use Rattle.host_machine.specs.Context.Host.{Host, SocketSet}
use Rattle.host_machine.specs.Interface.Run.{Transition, Run, Ends, Then, events_in}
use Rattle.host_laws.proofs.Interface.SingleCalls.{events_in-append}
use Rattle.host_laws.proofs.Receive.SlotEffects.{handed_frames-append}
use Rattle.host_laws.specs.Network.{SentBySome, WereSentBySome}
use Rattle.host_laws.specs.RawPackets.{SendsByRaw}
use Rattle.host_laws.specs.RawTcp.{SendsTcpByRaw, SpeaksTcpByRaw}
use Rattle.host_laws.proofs.DatagramOrigin.{all_parted}
use Rattle.host_laws.proofs.RawTcp.{networks_speak_tcp_by_raw}
use Rattle.host_laws.proofs.Interface.GrantedEgress.{sent_frames-append}
use Rattle.tcp_sockets.specs.Reading.{AreEnds}
use Rattle.tcp_host_laws.specs.Lives.{Life, Event as Happens, after_event, after_events}
use Rattle.tcp_host_laws.specs.Turns.{WasSent}
use Rattle.tcp_host_laws.proofs.Growing.{GoesOn, event_on}
use Rattle.tcp_host_laws.specs.TcpNetworks.Stations.{Station, Turn, Polled, Called, Goes, Stops, Works, Acts}
use Rattle.tcp_host_laws.specs.TcpNetworks.Queues.{WaitAsSent}
use Rattle.tcp_host_laws.specs.TcpNetworks.Arrivals.{Drives}
use Rattle.tcp_host_laws.specs.TcpNetworks.Receptions.{IsBrought, WaitAsBrought, GetsNoFragment, IsNamed}
use Rattle.tcp_host_laws.specs.TcpNetworks.Networks.{Move, transitions_of, IsNetwork, AreBetween, NetworksBring}
use Rattle.tcp_host_laws.proofs.ReceptionRuns.{queues_hold_what_is_brought}

-- the moves of a host, of two parts one after the other
one_append : (b : Bool) (t : Transition) (xs ys : List Transition) →
    (if b then t ∷ (xs ++ ys) else (xs ++ ys)) ≡ (if b then t ∷ xs else xs) ++ ys
one_append true t xs ys = refl
one_append false t xs ys = refl

pub transitions-append : (xs ys : List Move) (j : ℕ) → transitions_of (xs ++ ys) j ≡ transitions_of xs j ++ transitions_of ys j
transitions-append [] ys j = refl
transitions-append (m ∷ xs) ys j =
    ap (λ (ts : List Transition). if m.host == j then m.transition ∷ ts else ts) (transitions-append xs ys j)
    ∙ one_append (m.host == j) m.transition (transitions_of xs j) (transitions_of ys j)

own_move : (m : Move) → transitions_of (m ∷ []) m.host ≡ m.transition ∷ []
own_move m = ap (λ (b : Bool). if b then m.transition ∷ [] else []) ((Decides-eqb m.host m.host).1 refl)

-- runs part
record Parts (a b : Host) (ps qs : List Transition) : Type 0 where
  mid : Host
  begins : Run a ps mid
  ends : Run mid qs b

run_parts : (a b : Host) (ps qs : List Transition) → Run a (ps ++ qs) b → Parts a b ps qs
run_parts a b [] qs r = record { mid = a; begins = Ends; ends = r }
run_parts a b (p ∷ ps) qs (Then {mid = mid} step r) =
    let rest = run_parts mid b ps qs r in record { mid = rest.mid; begins = Then step rest.begins; ends = rest.ends }

pub record GoesParts (s t : Station) (ps qs : List Transition) : Type 0 where
  pub mid : Station
  pub begins : Goes s ps mid
  pub ends : Goes mid qs t

pub goes_parts : (s t : Station) (ps qs : List Transition) → Goes s (ps ++ qs) t → GoesParts s t ps qs
goes_parts s t [] qs g = record { mid = s; begins = Stops; ends = g }
goes_parts s t (p ∷ ps) qs (Works none g) =
    let rest = goes_parts s t ps qs g in record { mid = rest.mid; begins = Works none rest.begins; ends = rest.ends }
goes_parts s t (p ∷ ps) qs (Acts {mid = mid} act one turn g) =
    let rest = goes_parts mid t ps qs g in record { mid = rest.mid; begins = Acts act one turn rest.begins; ends = rest.ends }

-- lives go on
after_on : (es : List Happens) (ls : List Life) (l : Life) → Contains ls l → GoesOn (after_events es ls) l
after_on [] ls l c = record { life = l; there = c; ends = refl; sent = λ k s. s }
after_on (e ∷ es) ls l c =
    let one = event_on e ls l c in
    let rest = after_on es (after_event e ls) one.life one.there in
    record { life = rest.life; there = rest.there; ends = rest.ends ∙ one.ends; sent = λ k s. rest.sent k (one.sent k s) }

turn_on : (old new : Station) (before after : SocketSet) → Turn old new before after → (l : Life) → Contains old.lives l → GoesOn new.lives l
turn_on old new before after (Polled own lived is) l c =
    subst (λ (ls : List Life). GoesOn ls l) (sym is) (after_on lived.events old.lives l c)
turn_on old new before after (Called events call same is stays) l c =
    subst (λ (ls : List Life). GoesOn ls l) (sym is) (after_on events old.lives l c)

goes_on : (s t : Station) (ps : List Transition) → Goes s ps t → (l : Life) → Contains s.lives l → GoesOn t.lives l
goes_on s t [] Stops l c = record { life = l; there = c; ends = refl; sent = λ k d. d }
goes_on s t (p ∷ ps) (Works none g) l c = goes_on s t ps g l c
goes_on s t (p ∷ ps) (Acts {mid = mid} act one turn g) l c =
    let first = turn_on s mid p.before.sockets p.after.sockets turn l c in
    let rest = goes_on mid t ps g first.life first.there in
    record { life = rest.life; there = rest.there; ends = rest.ends ∙ first.ends; sent = λ k d. rest.sent k (first.sent k d) }

-- all of two lists
all_both : {X : Type 0} (P : X → Type 0) (xs ys : List X) → AllByRecursion P xs → AllByRecursion P ys → AllByRecursion P (xs ++ ys)
all_both P [] ys a b = b
all_both P (x ∷ xs) ys a b = (a.0, all_both P xs ys a.1 b)

all_then : {X : Type 0} (P Q : X → Type 0) → ((x : X) → P x → Q x) → (xs : List X) → AllByRecursion P xs → AllByRecursion Q xs
all_then P Q f [] a = tt
all_then P Q f (x ∷ xs) a = (f x a.0, all_then P Q f xs a.1)

-- what was sent in some moves was sent in them and others
sent_more : (hosts : List Host) (xs ys : List Move) (frame : List ℕ) → SentBySome hosts (transitions_of xs) frame →
    SentBySome hosts (transitions_of (xs ++ ys)) frame
sent_more hosts xs ys frame s =
    let ps = transitions_of xs s.sender in
    let qs = transitions_of ys s.sender in
    let all : events_in (transitions_of (xs ++ ys) s.sender) ≡ events_in ps ++ events_in qs =
    ap (λ (ts : List Transition). events_in ts) (transitions-append xs ys s.sender) ∙ events_in-append ps qs in
    let frames : sent_frames (events_in (transitions_of (xs ++ ys) s.sender)) ≡ sent_frames (events_in ps) ++ sent_frames (events_in qs) =
    ap (λ (es : List Event). sent_frames es) all ∙ sent_frames-append (events_in ps) (events_in qs) in
    record {
      sender = s.sender;
      is_host = s.is_host;
      sent = subst (λ (fs : List (List ℕ)). Contains fs frame) (sym frames)
          (Contains-append_left (sent_frames (events_in ps)) (sent_frames (events_in qs)) frame s.sent);
    }

module _ (m : Medium) (hosts : List Host) (first last : ℕ → Station) (moves : List Move) (n : IsNetwork m hosts first last moves) where
  -- frames that are received in a part of the moves were sent before
  one_received : (b : Bool) (t : Transition) (ts : List Transition) (P : List ℕ → Type 0) → AllByRecursion P (handed_frames t.told) →
      AllByRecursion P (handed_frames (events_in ts)) → AllByRecursion P (handed_frames (events_in (if b then t ∷ ts else ts)))
  one_received true t ts P one rest =
      subst (AllByRecursion P) (sym (handed_frames-append t.told (events_in ts)))
      (all_both P (handed_frames t.told) (handed_frames (events_in ts)) one rest)
  one_received false t ts P one rest = rest

  received : (j : ℕ) (xs ys after : List Move) → (xs ++ ys) ++ after ≡ moves →
      WereSentBySome hosts (transitions_of (xs ++ ys)) (transitions_of ys j)
  received j xs [] after e = tt
  received j xs (x ∷ ys) after e =
      let grouped : (xs ++ x ∷ []) ++ ys ≡ xs ++ x ∷ ys = append_assoc xs (x ∷ []) ys in
      let whole : xs ++ x ∷ (ys ++ after) ≡ moves = sym (append_assoc xs (x ∷ ys) after) ∙ e in
      let P = SentBySome hosts (transitions_of (xs ++ x ∷ ys)) in
      let one : AllByRecursion P (handed_frames x.transition.told) =
      all_then (SentBySome hosts (transitions_of xs)) P (λ f s. sent_more hosts xs (x ∷ ys) f s) (handed_frames x.transition.told)
      (n.order xs (ys ++ after) x whole) in
      let rest = received j (xs ++ x ∷ []) ys after (ap (λ (ms : List Move). ms ++ after) grouped ∙ e) in
      one_received (x.host == j) x.transition (transitions_of ys j) P one
      (subst (λ (ms : List Move). WereSentBySome hosts (transitions_of ms) (transitions_of ys j)) grouped rest)

  -- no fragment is received in a part of the moves
  one_whole : (b : Bool) (t : Transition) (ts : List Transition) → GetsNoFragment t → AllByRecursion GetsNoFragment ts →
      AllByRecursion GetsNoFragment (if b then t ∷ ts else ts)
  one_whole true t ts one rest = (one, rest)
  one_whole false t ts one rest = rest

  whole_of : (j : ℕ) (ms : List Move) → AllByRecursion (λ p. GetsNoFragment p.transition) ms → AllByRecursion GetsNoFragment (transitions_of ms j)
  whole_of j [] all = tt
  whole_of j (x ∷ ms) all = one_whole (x.host == j) x.transition (transitions_of ms j) all.0 (whole_of j ms all.1)

  -- nothing waits at first
  new_sent : (j : ℕ) (a : Host) → slice_get hosts j ≡ Some a → WaitAsSent (is_tx (first j).carrier.checksum) (first j).lives a.sockets
  new_sent j a there i r at six =
      subst (λ (xs : List (Unit {0} × List ℕ)). AllByRecursion (λ p. WasSent (is_tx (first j).carrier.checksum) (first j).lives p.1) xs)
      (sym ((n.new j a there).to_send i r at six)) tt

  new_brought : (mid : ℕ → Station) (j : ℕ) (a : Host) → slice_get hosts j ≡ Some a → WaitAsBrought hosts mid a.sockets
  new_brought mid j a there i r at =
      all_then (λ (p : Unit {0} × List ℕ). (q : Packet) → packet_in r.version p.1 ≡ Some q → number_of (next_header q.header) ≡ 6 → ⊥)
      (λ (p : Unit {0} × List ℕ). IsBrought hosts mid r.version p.1) (λ p never q is six. absurd (never q is six)) r.rx.packets
      ((n.new j a there).received i r at)

  module _ (before after : List Move) (e : before ++ after ≡ moves) where
    of_all : (j : ℕ) → transitions_of moves j ≡ transitions_of before j ++ transitions_of after j
    of_all j = ap (λ (ms : List Move). transitions_of ms j) (sym e) ∙ transitions-append before after j

    parts : (j : ℕ) (a : Host) (there : slice_get hosts j ≡ Some a) →
        Parts a (n.speaks j a there).last (transitions_of before j) (transitions_of after j)
    parts j a there =
        let x = n.speaks j a there in
        run_parts a x.last (transitions_of before j) (transitions_of after j)
        (subst (λ (ts : List Transition). Run a ts x.last) (of_all j) x.run)

    speaks : (j : ℕ) (a : Host) → slice_get hosts j ≡ Some a → SendsTcpByRaw hosts (transitions_of before) m a (transitions_of before j)
    speaks j a there =
        let x = n.speaks j a there in
        let p = parts j a there in record {
          last = p.mid;
          run = p.begins;
          regular = x.regular;
          one_medium = x.one_medium;
          pending = x.pending;
          only = (all_parted SpeaksTcpByRaw (transitions_of before j) (transitions_of after j)
              (subst (AllByRecursion SpeaksTcpByRaw) (of_all j) x.only)).0;
          received = received j [] before after e;
        }

    sends : (j : ℕ) (a : Host) → slice_get hosts j ≡ Some a → SendsByRaw 6 m a (transitions_of before j)
    sends = networks_speak_tcp_by_raw hosts (transitions_of before) m speaks

    module _ (mid : ℕ → Station) (w : AreBetween hosts first last before after mid) where
      drives : (j : ℕ) (a : Host) → slice_get hosts j ≡ Some a →
          Drives hosts (transitions_of before) a (transitions_of before j) (first j) (mid j)
      drives j a there = record { goes = w.been j a there; received = received j [] before after e; waits = new_sent j a there }

      named : (j : ℕ) (a : Host) → slice_get hosts j ≡ Some a → IsNamed (first j) (mid j)
      named j a there = record {
        ends = λ l c.
            let g = goes_on (mid j) (last j) (transitions_of after j) (w.to_go j a there) l c in
            subst AreEnds g.ends (n.ends j a g.life there g.there);
        summed = (n.new j a there).summed;
      }

  module _ (before after : List Move) (x : Move) (e : before ++ x ∷ after ≡ moves) (mid : ℕ → Station)
      (w : AreBetween hosts first last before (x ∷ after) mid) (a : Host) (there : slice_get hosts x.host ≡ Some a) where
    abbrev up_to : List Move
    up_to = before ++ x ∷ []

    grouped : up_to ++ after ≡ moves
    grouped = append_assoc before (x ∷ []) after ∙ e

    own : transitions_of up_to x.host ≡ transitions_of before x.host ++ x.transition ∷ []
    own = transitions-append before (x ∷ []) x.host
        ∙ ap (λ (ts : List Transition). transitions_of before x.host ++ ts) (own_move x)

    -- also those that are received in the move
    all_received : WereSentBySome hosts (transitions_of before) (transitions_of before x.host ++ x.transition ∷ [])
    all_received =
        let P = SentBySome hosts (transitions_of before) in
        let ps = transitions_of before x.host in
        let told : events_in (ps ++ x.transition ∷ []) ≡ events_in ps ++ x.transition.told =
        events_in-append ps (x.transition ∷ []) ∙ ap (λ (es : List Event). events_in ps ++ es) (append-nil x.transition.told) in
        subst (AllByRecursion P)
        (sym (ap (λ (es : List Event). handed_frames es) told ∙ handed_frames-append (events_in ps) x.transition.told))
        (all_both P (handed_frames (events_in ps)) (handed_frames x.transition.told)
        (received x.host [] before (x ∷ after) e) (n.order before after x e))

    pub brings : WaitAsBrought hosts mid x.transition.before.sockets
    brings =
        let k = n.speaks x.host a there in
        let qs = transitions_of before x.host ++ x.transition ∷ [] in
        let p = parts up_to after grouped x.host a there in
        let all = of_all up_to after grouped x.host in
        let g = goes_parts (first x.host) (last x.host) (transitions_of up_to x.host) (transitions_of after x.host)
        (subst (λ (ts : List Transition). Goes (first x.host) ts (last x.host)) all (n.goes x.host a there)) in
        let whole = (all_parted (λ q. GetsNoFragment q) (transitions_of up_to x.host) (transitions_of after x.host)
        (subst (AllByRecursion GetsNoFragment) all (whole_of x.host moves n.whole))).0 in
        let run : Run a qs p.mid = subst (λ (ts : List Transition). Run a ts p.mid) own p.begins in
        let goes : Goes (first x.host) qs g.mid = subst (λ (ts : List Transition). Goes (first x.host) ts g.mid) own g.begins in
        let sent = subst (λ (o : Medium). (j : ℕ) (b : Host) → slice_get hosts j ≡ Some b → SendsByRaw 6 o b (transitions_of before j))
        (sym k.one_medium) (sends before (x ∷ after) e) in
        let holds = queues_hold_what_is_brought hosts (transitions_of before) first mid a p.mid qs (first x.host) g.mid run goes k.regular.real sent
        (drives before (x ∷ after) e mid w) (named before (x ∷ after) e mid w) all_received
        (subst (AllByRecursion GetsNoFragment) own whole) (new_brought mid x.host a there) in
        (all_parted (λ q. WaitAsBrought hosts mid q.before.sockets) (transitions_of before x.host) (x.transition ∷ []) holds.0).1.0

pub networks_bring : NetworksBring
networks_bring m hosts first last moves n before after x e mid w a there = brings m hosts first last moves n before after x e mid w a there
