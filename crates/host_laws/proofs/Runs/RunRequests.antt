-- The requests for hardware addresses among the frames of a run are those that it notes.
use Rattle.std.proofs.Common.{◌≡◌, ℕ, Bool, true, false, List, [], ◌∷◌, ◌++◌, refl, sym, ap, ◌∙◌, subst, Option, Some, None}
use Rattle.std.specs.Prelude.{ℤ, pos, ◌==◌, if◌then◌else◌}
use Rattle.std.specs.List.{AllByRecursion}
use Rattle.net_base.specs.Device.{Event, Reception, Frame, Nothing, Withheld, Received, Asked, Sent}
use Rattle.net_base.specs.declared.phy.DeviceCapabilities.{DeviceCapabilities}
use Rattle.net_base.specs.declared.phy.Medium.{Medium}
use Rattle.ip_address.specs.declared.cidr.IpCidr.{IpCidr}
use Rattle.ip_address.specs.declared.ethernet_address.EthernetAddress.{EthernetAddress}
use Rattle.ip_address.specs.declared.hardware.HardwareAddress.{HardwareAddress}
use Rattle.ip_address.specs.declared.hardware.HardwareAddress.TheVariants as hardware
use Rattle.ip_address.specs.Hardware.{IsOf}
use Rattle.ip_wire.specs.declared.ethernet.EthernetProtocol.{EthernetProtocol}
use Rattle.ip_wire.specs.declared.ethernet.EthernetProtocol.TheVariants as protocol
use Rattle.ip_wire.specs.declared.ipv4_packet.Ipv4Repr.{Ipv4Repr}
use Rattle.ip_wire.specs.declared.ipv4_packet.Ipv4Fragment.{Ipv4Fragment}
use Rattle.fragmentation.specs.Fragments.{Fragment}
use Rattle.fragmentation.specs.declared.key.FragKey.{FragKey}
use Rattle.fragmentation.specs.Cuts.{Piece, pieces_of, HasForm}
use Rattle.host_machine.specs.declared.command.Command.{Command}
use Rattle.host_machine.specs.declared.command.Answer.{Answer}
use Rattle.host_machine.specs.declared.results.PollIngressSingleResult.{PollIngressSingleResult}
use Rattle.host_machine.specs.Context.Note.{Note, OfCuts, Cut, PieceSent, asks}
use Rattle.host_machine.specs.Context.Host.{Host, SocketSet, at, without_expired, with_left}
use Rattle.host_machine.specs.Packet.Packet.{Packet, PacketV4, payload_of}
use Rattle.host_machine.specs.Receive.Reply.{Reply, Arp, Ip}
use Rattle.host_machine.specs.Packet.Frame.{piece_frame, sends}
use Rattle.host_machine.specs.Discovery.Arp.{ProcessesArp}
use Rattle.host_machine.specs.Discovery.Arp as arp
use Rattle.host_machine.specs.Receive.Reassembly.{TakesFragment}
use Rattle.host_machine.specs.Receive.Ipv4.{ProcessesPacket, ProcessesIpv4}
use Rattle.host_machine.specs.Receive.Ipv4 as ipv4
use Rattle.host_machine.specs.Receive.Ethernet.{ProcessesEthertype, ProcessesEthernet, ProcessesFrame}
use Rattle.host_machine.specs.Receive.Ethernet as ethernet
use Rattle.host_machine.specs.Send.Outcome.{Outcome}
use Rattle.host_machine.specs.Send.Dispatch.{Dispatches}
use Rattle.host_machine.specs.Context.Pieces.{datagram_of}
use Rattle.host_machine.specs.Context.Settings.{without_neighbors}
use Rattle.host_machine.specs.Receive.Response.{Responds}
use Rattle.host_machine.specs.Interface.Ingress.{Takes, Ingress}
use Rattle.host_machine.specs.Interface.Parts.{Part}
use Rattle.host_machine.specs.Context.Real.{IsReal, IsPart, IsRegular}
use Rattle.host_laws.specs.Laws.Requests.{is_request, may_ask, sent_at, requests_at, NoSocketSpeaks}
use Rattle.host_laws.specs.Laws.Steps.{SendsOneThing, ThePacket, ItsFirstPiece, ARequest, DiscoveriesAreNoted}
use Rattle.host_laws.specs.Laws.Steps as laws
use Rattle.host_machine.specs.Interface.Step.{Act, Step}
use Rattle.host_machine.specs.Interface.Run.{Transition, Run, Ends, Then, events_in, notes_in}
use Rattle.host_laws.proofs.Context.NotesBySubject.{asks-append, asks-slots}
use Rattle.host_laws.proofs.Context.UnchangedFields.{Keeps}
use Rattle.host_laws.proofs.Sockets.RawProtocols.{Attends, attends, attends_by, attends_then}
use Rattle.host_laws.proofs.Interface.OwnMessages.{own_asks}
use Rattle.host_laws.proofs.Receive.PacketEffects.{whole_plain, ipv6_plain}
use Rattle.host_laws.proofs.Discovery.NotedRequests.{quiet_packet, quiet_piece, quiet_reply, pieces_go, sends_one}
use Rattle.host_laws.proofs.Runs.SentPieces.{GoodReply, takes_good, takes_real}
use Rattle.host_machine.proofs.Send.Reached.{reached_of}
use Rattle.host_laws.proofs.Context.MediumAddresses.{none_of}
use Rattle.host_laws.proofs.Interface.Turns.{MaySend, sent_is, dispatched_sockets, stepped}
use Rattle.host_machine.proofs.Send.Reached.{Reached}
use Rattle.host_laws.proofs.Runs.Walk.{taken, dispatched}

-- what is read of two parts one after the other
pub behind : (b : Bool) (t : ℤ) (xs ys : List ℤ) → (if b then t ∷ (xs ++ ys) else (xs ++ ys)) ≡ (if b then t ∷ xs else xs) ++ ys
behind true t xs ys = refl
behind false t xs ys = refl

-- the moment of the last question
abbrev pub asked_last : ℤ → List Event → ℤ
asked_last t [] = t
asked_last t (Received now reception ∷ es) = asked_last now es
asked_last t (Asked now given ∷ es) = asked_last now es
asked_last t (Sent id frame ∷ es) = asked_last t es

requests-append : (m : Medium) (t : ℤ) (xs ys : List Event) →
    requests_at m (sent_at t (xs ++ ys)) ≡ requests_at m (sent_at t xs) ++ requests_at m (sent_at (asked_last t xs) ys)
requests-append m t [] ys = refl
requests-append m t (Received now reception ∷ xs) ys = requests-append m now xs ys
requests-append m t (Asked now given ∷ xs) ys = requests-append m now xs ys
requests-append m t (Sent id frame ∷ xs) ys =
    ap (λ rest. if is_request m frame then t ∷ rest else rest) (requests-append m t xs ys)
    ∙ behind (is_request m frame) t (requests_at m (sent_at t xs)) (requests_at m (sent_at (asked_last t xs) ys))

-- a host whose hardware addresses are those of its medium, and whose pending fragments are for such an address
pub record IsSound (H : Host) : Type 0 where
  pub real : IsReal H
  pub left : AllByRecursion (λ p. IsOf H.capabilities.medium p.destination) H.left

-- each regular host is one
pub sound_of : (H : Host) → IsRegular H → IsSound H
sound_of H r = record { real = r.real; left = by H.left r.left } where
  by : (ps : List Piece) → AllByRecursion (IsPart H.capabilities.medium) ps → AllByRecursion (λ p. IsOf H.capabilities.medium p.destination) ps
  by [] all = tt
  by (p ∷ ps) all = (all.0.destination, by ps all.1)

-- what the law reads of a host, and what it says of a part of a step
pub record Asks (old : Host) (told : List Event) (notes : List Note) (new : Host) : Type 0 where
  pub noted : (t : ℤ) → requests_at old.capabilities.medium (sent_at t told) ≡ asks notes
  pub same : new.capabilities ≡ old.capabilities
  pub sound : IsSound new

pub record Asking (old : Host) (told : List Event) (notes : List Note) (new : Host) : Type 0 where
  pub asks : Asks old told notes new
  pub nobody : NoSocketSpeaks new

abbrev pub AskedOver : Part
AskedOver old told notes new = IsSound old → NoSocketSpeaks old → Asking old told notes new

abbrev pub StepAsks : Part
StepAsks old told notes new = IsSound old → NoSocketSpeaks old → Asks old told notes new

pub asks_on : (a b c : Host) (ts us : List Event) (xs ys : List Note) → Asks a ts xs b → Asks b us ys c → Asks a (ts ++ us) (xs ++ ys) c
asks_on a b c ts us xs ys one two = record {
  noted = λ t.
      let more : requests_at a.capabilities.medium (sent_at (asked_last t ts) us) ≡ asks ys =
      subst (λ (d : DeviceCapabilities). requests_at d.medium (sent_at (asked_last t ts) us) ≡ asks ys) one.same (two.noted (asked_last t ts)) in
      rw (requests-append, asks-append, one.noted t, more) refl;
  same = two.same ∙ one.same;
  sound = two.sound;
}

pub on : (a b c : Host) (ts us : List Event) (xs ys : List Note) → AskedOver a ts xs b → AskedOver b us ys c → AskedOver a (ts ++ us) (xs ++ ys) c
on a b c ts us xs ys one two = λ sound none.
    let x = one sound none in
    let y = two x.asks.sound x.nobody in
    record { asks = asks_on a b c ts us xs ys x.asks y.asks; nobody = y.nobody }

-- where nothing is sent, and what is left stays
stays : (old new : Host) → new.capabilities ≡ old.capabilities → new.left ≡ old.left → IsReal new → IsSound old → Asks old [] [] new
stays old new c l r sound = record { noted = λ t. refl; same = c; sound = record { real = r; left = rw (c, l) sound.left } }

pub keeps : (old new : Host) → Keeps old new → (NoSocketSpeaks old → NoSocketSpeaks new) → AskedOver old [] [] new
keeps old new k s = λ sound none. record {
  asks = stays old new (ap (λ (K : Host). K.capabilities) k.same) (ap (λ (K : Host). K.left) k.same) (k.real sound.real) sound;
  nobody = s none;
}

pub refused : (H : Host) → AskedOver H (Asked H.moment false ∷ []) [] H
refused H = λ sound none. record { asks = record { noted = λ t. refl; same = refl; sound = sound }; nobody = none }

-- the frames of a dispatch
at_dispatch : (p : Packet) (outcome : Outcome) (H : Host) (frames : List (List ℕ)) (notes : List Note) →
    IsReal H → may_ask (payload_of p) ≡ false → SendsOneThing p outcome H frames notes →
    (t : ℤ) → requests_at H.capabilities.medium (sent_at t (Asked H.moment true ∷ sends frames)) ≡ asks notes
at_dispatch p outcome H frames notes real none (laws.Nothing f a c) t = rw (f, a) refl
at_dispatch p outcome H frames notes real none (ThePacket h to o f a c) t =
    rw (f, a, quiet_packet H.capabilities.medium H H.hardware_addr h p refl real.own to none) refl
at_dispatch p outcome H frames notes real none (ItsFirstPiece h q first rest to of pieces o f a c) t =
    let went = (pieces_go H.capabilities.medium (datagram_of H h H.ipv4_id q) (first ∷ rest) pieces to).0 in
    rw (f, a, quiet_piece H.capabilities.medium H H.hardware_addr first refl real.own went) refl
at_dispatch p outcome H frames notes real none (ARequest frame is silent o f a c) t = rw (f, a, is) refl

-- what is left after a dispatch goes where the medium has an address, too
record Sounds (old new : Host) : Type 0 where
  same : new.capabilities ≡ old.capabilities
  sound : IsSound new

abbrev SoundOver : Host → List (List ℕ) → List Note → Host → Type 0
SoundOver old frames notes new = IsSound old → Sounds old new

sound_keeps : (old new : Host) → Keeps old new → SoundOver old [] [] new
sound_keeps old new k = λ s.
    let c : new.capabilities ≡ old.capabilities = ap (λ (K : Host). K.capabilities) k.same in
    let l : new.left ≡ old.left = ap (λ (K : Host). K.left) k.same in
    record { same = c; sound = record { real = k.real s.real; left = rw (c, l) s.left } }

sound_on : (a b c : Host) (fs gs : List (List ℕ)) (xs ys : List Note) →
    SoundOver a fs xs b → SoundOver b gs ys c → SoundOver a (fs ++ gs) (xs ++ ys) c
sound_on a b c fs gs xs ys one two = λ s. let x = one s in let y = two x.sound in record { same = y.same ∙ x.same; sound = y.sound }

-- where addresses and what is left stay
sound_still : (H new : Host) → new.capabilities ≡ H.capabilities → new.hardware_addr ≡ H.hardware_addr → new.neighbors.known ≡ H.neighbors.known →
    new.left ≡ H.left → IsSound H → Sounds H new
sound_still H new c h n l s = record {
  same = c;
  sound = record { real = record { own = rw (c, h) s.real.own; neighbors = rw (c, n) s.real.neighbors }; left = rw (c, l) s.left };
}

sound_cuts : (H : Host) (h : HardwareAddress) (id : ℕ) (p : PacketV4) (first : Piece) (rest : List Piece) →
    pieces_of (datagram_of H h id p) ≡ first ∷ rest → HasForm (datagram_of H h id p) → Reached H h →
    SoundOver H (piece_frame H first ∷ []) (OfCuts (Cut (datagram_of H h id p)) ∷ OfCuts (PieceSent first) ∷ []) (with_left H rest)
sound_cuts H h id p first rest pieces form reached = λ s. record {
  same = refl;
  sound = record {
    real = record { own = s.real.own; neighbors = s.real.neighbors };
    left = (pieces_go H.capabilities.medium (datagram_of H h id p) (first ∷ rest) pieces (reached_of H h s.real reached)).1;
  };
}

dispatch_sound : {p : Packet} {outcome : Outcome} {H new : Host} {frames : List (List ℕ)} {notes : List Note} →
    Dispatches p outcome H frames notes new → SoundOver H frames notes new
dispatch_sound d = dispatched SoundOver sound_keeps sound_on
    (λ H own source target mine. λ s. sound_still H H refl refl refl refl s)
    (λ H hop unknown. λ s. sound_still H _ refl refl refl refl s)
    (λ H. λ s. sound_still H _ refl refl refl refl s)
    (λ H h p reached. λ s. sound_still H H refl refl refl refl s)
    sound_cuts d

pub dispatches : (p : Packet) (outcome : Outcome) (H new : Host) (frames : List (List ℕ)) (notes : List Note) →
    MaySend H p → Dispatches p outcome H frames notes new →
    AskedOver H (Asked H.moment true ∷ sends frames) notes new
dispatches p outcome H new frames notes may d = λ s none.
    let after = dispatch_sound d s in record {
      asks = record {
        noted = at_dispatch p outcome H frames notes s.real (sent_is H p none may) (sends_one p outcome H new frames notes s.real d);
        same = after.same;
        sound = after.sound;
      };
      nobody = rw (dispatched_sockets d) none;
    }

pub pieces : (H : Host) (p : Piece) (rest : List Piece) →
    H.left ≡ p ∷ rest → AskedOver H (Asked H.moment true ∷ sends (piece_frame H p ∷ [])) (OfCuts (PieceSent p) ∷ []) (with_left H rest)
pieces H p rest e = λ s none.
    let well : AllByRecursion (λ (q : Piece). IsOf H.capabilities.medium q.destination) (p ∷ rest) = rw e at s.left in record {
      asks = record {
        noted = λ t. rw (quiet_piece H.capabilities.medium H H.hardware_addr p refl s.real.own well.0) refl;
        same = refl;
        sound = record { real = record { own = s.real.own; neighbors = s.real.neighbors }; left = well.1 };
      };
      nobody = none;
    }

-- a frame that is taken leaves nobody who speaks, too, and takes no time
arp_attends : {own : EthernetAddress} {H new : Host} {payload : List ℕ} {reply : Option Reply} {notes : List Note} →
    ProcessesArp own H payload reply notes new → Attends H new
arp_attends (arp.Malformed m d) = attends d.unchanged
arp_attends (arp.NotForUs a l d) = attends d.unchanged
arp_attends (arp.Learnt a l learns r n) = attends_by learns.same (record { nobody = λ spoken none. none; moment = refl })

fragment_attends : {key : FragKey} {f : Fragment} {result : Option (List ℕ)} {H new : Host} {notes : List Note} →
    TakesFragment key f result H notes new → Attends H new
fragment_attends t = attends_by t.changed (record { nobody = λ spoken none. none; moment = refl })

packet_attends : {source : HardwareAddress} {r : Ipv4Repr} {f : Ipv4Fragment} {H new : Host} {payload : List ℕ} {reply : Option Reply}
    {notes : List Note} → ProcessesPacket source r f H payload reply notes new →
    Attends H new
packet_attends (ipv4.FromNoHost s d) = attends d.unchanged
packet_attends (ipv4.Part s g t e) = fragment_attends t
packet_attends (ipv4.Completed octets mid first rest s g t w n) = attends_then (fragment_attends t) (whole_plain w).attends
packet_attends (ipv4.Whole s g t) = (whole_plain t).attends

ipv4_attends : {source : HardwareAddress} {H new : Host} {octets : List ℕ} {reply : Option Reply} {notes : List Note} →
    ProcessesIpv4 source H octets reply notes new → Attends H new
ipv4_attends (ipv4.Malformed m d) = attends d.unchanged
ipv4_attends (ipv4.Read i t) = packet_attends t

payload_attends : (own source : EthernetAddress) (H : Host) (p : EthernetProtocol) (payload : List ℕ) (reply : Option Reply) (notes : List Note)
    (new : Host) → ProcessesEthertype own source H p payload reply notes new →
    Attends H new
payload_attends own source H protocol.Arp payload reply notes new t = arp_attends t
payload_attends own source H protocol.Ipv4 payload reply notes new t = ipv4_attends t
payload_attends own source H protocol.Ipv6 payload reply notes new t = (ipv6_plain t).attends
payload_attends own source H (protocol.Unknown n) payload reply notes new t = attends t.unchanged

ethernet_attends : {own : EthernetAddress} {H new : Host} {frame : List ℕ} {reply : Option Reply} {notes : List Note} →
    ProcessesEthernet own H frame reply notes new → Attends H new
ethernet_attends (ethernet.Malformed m d) = attends d.unchanged
ethernet_attends (ethernet.NotForUs l f d) = attends d.unchanged
ethernet_attends {own} {H} {new} {frame} {reply} {notes} (ethernet.Accepted l f t) = payload_attends own _ H _ _ reply notes new t

frame_attends : (h : HardwareAddress) (H : Host) (frame : List ℕ) (reply : Option Reply) (notes : List Note) (new : Host) →
    ProcessesFrame h H frame reply notes new → Attends H new
frame_attends (hardware.Ethernet own) H frame reply notes new t = ethernet_attends t
frame_attends hardware.Ip H frame reply notes new (ethernet.Ipv4 v t) = ipv4_attends t
frame_attends hardware.Ip H frame reply notes new (ethernet.Ipv6 v t) = (ipv6_plain t).attends
frame_attends hardware.Ip H frame reply notes new (ethernet.OtherVersion v w d) = attends d.unchanged

pub takes_attends : (H : Host) (r : Reception) (reply : Option Reply) (notes : List Note) (new : Host) → Takes H r reply notes new → Attends H new
takes_attends H Nothing reply notes new t = attends t.unchanged
takes_attends H Withheld reply notes new t = attends t.unchanged
takes_attends H (Frame []) reply notes new t = attends t.unchanged
takes_attends H (Frame (octet ∷ octets)) reply notes new t = frame_attends H.hardware_addr H (octet ∷ octets) reply notes new t

-- and it notes no request, and leaves what is left
record Untold (old : Host) (notes : List Note) (new : Host) : Type 0 where
  unasked : asks notes ≡ []
  left : new.left ≡ old.left

takes_untold : (H : Host) (r : Reception) (reply : Option Reply) (notes : List Note) (new : Host) → Takes H r reply notes new → Untold H notes new
takes_untold H r reply notes new t =
    taken (λ old frames notes new. Untold old notes new) (λ old new k. record { unasked = refl; left = ap (λ (K : Host). K.left) k.same })
    (λ a b c fs gs xs ys one two. record { unasked = rw (asks-append, one.unasked) two.unasked; left = two.left ∙ one.left })
    (λ H key f result notes new t. record { unasked = rw (t.noted, asks-slots t.slot_notes) refl; left = ap (λ (K : Host). K.left) t.changed })
    H r reply notes new t

-- the reply to what was taken, behind the question that brought it
responds : (reply : Option Reply) (H : Host) (frames : List (List ℕ)) (notes : List Note) (new : Host) (t : ℤ) →
    H.moment ≡ t → GoodReply H.capabilities.medium reply → Responds reply H frames notes new →
    IsSound H → NoSocketSpeaks H → (requests_at H.capabilities.medium (sent_at t (sends frames)) ≡ asks notes) × Sounds H new × NoSocketSpeaks new
responds None H frames notes new t at good r s none = (rw (r.0, r.1) refl, rw r.2 (sound_still H H refl refl refl refl s), rw r.2 none)
responds (Some (Arp packet)) H frames notes new t at good r s none =
    (rw (r.0, r.1, quiet_reply H.capabilities.medium packet good.0 good.1 good.2) refl, rw r.2 (sound_still H H refl refl refl refl s), rw r.2 none)
responds (Some (Ip packet)) H frames notes new t at good r s none =
    let one = sends_one packet r.0 H new frames notes s.real r.1 in (
      rw (← at) (at_dispatch packet r.0 H frames notes s.real (own_asks (payload_of packet) good) one (pos 0)),
      dispatch_sound r.1 s,
      rw (dispatched_sockets r.1) none,
    )

pub ingress : {t : ℤ} {answer : PollIngressSingleResult} {old new : Host} {told : List Event} {notes : List Note} →
    Ingress t answer old told notes new → AskedOver old told notes new
ingress {t} {answer} {old} {new} {told} {notes} i = λ s none.
    let r = i.response in
    let began : IsReal (without_expired old t) = record { own = s.real.own; neighbors = s.real.neighbors } in
    let shown = takes_real (without_expired old t) i.reception r.reply r.notes_taking r.taken r.takes began in
    let untold = takes_untold (without_expired old t) i.reception r.reply r.notes_taking r.taken r.takes in
    let good = takes_good (without_expired old t) i.reception r.reply r.notes_taking r.taken began r.takes in
    let same : r.taken.capabilities ≡ old.capabilities = shown.same in
    let there : IsSound r.taken = record { real = shown.real; left = rw (same, untold.left) s.left } in
    let attended = takes_attends (without_expired old t) i.reception r.reply r.notes_taking r.taken r.takes in
    let went = responds r.reply r.taken i.frames r.notes_responding new t attended.moment
    (subst (λ (d : DeviceCapabilities). GoodReply d.medium r.reply) (sym same) good) r.responds there (attended.nobody (λ n. n == 58) none) in
    let heard : requests_at old.capabilities.medium (sent_at t (sends i.frames)) ≡ asks r.notes_responding =
    subst (λ (d : DeviceCapabilities). requests_at d.medium (sent_at t (sends i.frames)) ≡ asks r.notes_responding) same went.0 in record {
      asks = record {
        noted = λ now. rw (i.events, r.all_notes, asks-append, untold.unasked) heard;
        same = went.1.same ∙ same;
        sound = went.1.sound;
      };
      nobody = went.2;
    }

pub sweeps : (H : Host) (t : ℤ) → AskedOver H [] [] (without_expired H t)
sweeps H t = λ s none. record {
  asks = stays H (without_expired H t) refl refl (record { own = s.real.own; neighbors = s.real.neighbors }) s;
  nobody = none;
}

pub moves : (H : Host) (list : List IpCidr) → AskedOver H [] [] (record H { ip_addrs = list; neighbors = without_neighbors H.neighbors })
moves H list = λ s none. record {
  asks = stays H _ refl refl (record { own = s.real.own; neighbors = none_of H.capabilities.medium H.neighbors }) s;
  nobody = none;
}

pub sets : (H : Host) (h : HardwareAddress) → IsOf H.capabilities.medium h → AskedOver H [] [] (record H { hardware_addr = h })
sets H h of = λ s none. record {
  asks = stays H _ refl refl (record { own = of; neighbors = s.real.neighbors }) s;
  nobody = none;
}

pub lasts : (H : Host) (timeout : ℕ) → AskedOver H [] [] (record H { reassembly_timeout = timeout })
lasts H timeout = λ s none. record {
  asks = stays H _ refl refl (record { own = s.real.own; neighbors = s.real.neighbors }) s;
  nobody = none;
}

pub acts : (H : Host) (sockets : SocketSet) → StepAsks H [] [] (record H { sockets = sockets })
acts H sockets = λ s none. stays H _ refl refl (record { own = s.real.own; neighbors = s.real.neighbors }) s

step_asks : {command : Command} {answer : Answer} {old new : Host} {told : List Event} {done : List Act} {notes : List Note} →
    Step command answer old told done notes new → StepAsks old told notes new
step_asks s = stepped AskedOver keeps on refused dispatches pieces (λ t answer old new told notes i. ingress i) sweeps moves sets lasts
    StepAsks (λ old new told notes law. λ sound none. (law sound none).asks) acts s

-- over a whole run
all_asked : {first last : Host} {transitions : List Transition} → Run first transitions last → IsSound first →
    AllByRecursion (λ p. NoSocketSpeaks p.before) transitions → Asks first (events_in transitions) (notes_in transitions) last
all_asked {first} Ends sound all = record { noted = λ t. refl; same = refl; sound = sound }
all_asked (Then {told = told} {notes = notes} {transitions = ps} s r) sound all =
    let one = step_asks s sound all.0 in
    asks_on _ _ _ told (events_in ps) notes (notes_in ps) one (all_asked r one.sound all.1)

pub run_asks : DiscoveriesAreNoted
run_asks first last transitions r regular all = (all_asked r (sound_of first regular) all).noted (pos 0)
