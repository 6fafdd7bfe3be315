-- How many router solicitations are among the frames of a run, and when they are sent.
use Rattle.std.proofs.Common.{◌≡◌, ℕ, ◌≤◌, Bool, true, false, List, [], ◌∷◌, ◌++◌, length, refl, sym, ap, ◌∙◌, subst, Option, Some, None, arith}
use Rattle.std.proofs.lemmas.Bool.{ltb-true, ne_eqb}
use Rattle.std.proofs.lemmas.Int.{ints}
use Rattle.std.specs.Cmp.{int_ranks}
use Rattle.std.specs.Ordering.{int_cmp, is_le, MatchOrdering}
use Rattle.std.specs.declared.cmp.Ordering.{Ordering}
use Rattle.std.specs.declared.cmp.Ordering.TheVariants.{Less, Equal, Greater}
use Rattle.std.specs.Prelude.{ℤ, pos, ◌-◌, ◌<◌, ◌+ℤ◌, ◌≤ℤ◌, ◌<ℤ◌, ◌==◌, ◌&&◌, nat_lt, if◌then◌else◌}
use Rattle.std.specs.List.{AllByRecursion}
use Rattle.net_base.specs.Device.{Event, Received, Asked, Sent}
use Rattle.net_base.specs.declared.phy.DeviceCapabilities.{DeviceCapabilities}
use Rattle.net_base.specs.declared.phy.Medium.{Medium}
use Rattle.ip_address.specs.Hardware.{IsOf}
use Rattle.ip_address.specs.declared.cidr.IpCidr.{IpCidr}
use Rattle.ip_address.specs.declared.hardware.HardwareAddress.{HardwareAddress}
use Rattle.control_wire.specs.declared.icmpv6.Icmpv6Repr.{Icmpv6Repr}
use Rattle.control_wire.specs.declared.icmpv6.Icmpv6Repr.TheVariants as v6
use Rattle.control_wire.specs.declared.router.RouterRepr.TheVariants.{RouterAdvert, RouterSolicit}
use Rattle.control_wire.specs.Icmpv6 as icmpv6
use Rattle.fragmentation.specs.Cuts.{Piece}
use Rattle.iface_tables.specs.Slaac.{SlaacState, is_its_time, is_searching, rs_required, rs_sent, slaac_after_sent}
use Rattle.iface_tables.specs.declared.slaac.Phase.TheVariants as phase
use Rattle.host_machine.specs.declared.command.Command.{Command}
use Rattle.host_machine.specs.declared.command.Answer.{Answer}
use Rattle.host_machine.specs.declared.results.PollIngressSingleResult.{PollIngressSingleResult}
use Rattle.host_machine.specs.Context.Note.{Note, OfCuts, PieceSent}
use Rattle.host_machine.specs.Context.Host.{Host, SocketSet, without_expired, with_left, with_slaac}
use Rattle.host_machine.specs.Context.Settings.{without_neighbors}
use Rattle.host_machine.specs.Discovery.RouterSolicitation.{due_solicitation, router_solicitation}
use Rattle.host_machine.specs.Packet.Frame.{piece_frame, sends}
use Rattle.host_machine.specs.Packet.Packet.{Packet, payload_of}
use Rattle.host_machine.specs.Receive.Reply.{Reply, Arp, Ip}
use Rattle.host_machine.specs.Receive.Response.{Responds}
use Rattle.host_machine.specs.Send.Outcome.{Outcome}
use Rattle.host_machine.specs.Send.Dispatch.{Dispatches}
use Rattle.host_machine.specs.Context.Pieces.{datagram_of}
use Rattle.host_machine.specs.Interface.Ingress.{Ingress}
use Rattle.host_machine.specs.Interface.Parts.{Part}
use Rattle.host_machine.specs.Interface.Step.{Act, Step}
use Rattle.host_machine.specs.Interface.Run.{Transition, Run, Ends, Then, events_in, notes_in}
use Rattle.host_machine.specs.Context.Real.{IsReal}
use Rattle.host_laws.specs.Laws.Requests.{NoSocketSpeaks, sent_at}
use Rattle.host_laws.specs.Laws.Solicitations.{AreFourSecondsApart, SolicitationsAreFew, is_router_solicitation, solicitations_at}
use Rattle.host_laws.specs.Laws.Steps.{SendsOneThing, ThePacket, ItsFirstPiece, ARequest}
use Rattle.host_laws.specs.Laws.Steps as laws
use Rattle.host_laws.proofs.Context.SolicitationCount.{Count, count_in, count_of}
use Rattle.host_laws.proofs.Context.UnchangedFields.{Keeps}
use Rattle.host_laws.proofs.Discovery.NotedRequests.{pieces_go, sends_one}
use Rattle.host_laws.proofs.Discovery.QuietFrames.{quiet_arp, quiet_packet, quiet_piece, quiet_request}
use Rattle.host_laws.proofs.Interface.OneFrameCalls.{dispatched}
use Rattle.host_laws.proofs.Interface.OwnMessages.{may_solicit, may_solicit_v6}
use Rattle.host_laws.proofs.Interface.SettledFields.{dispatch_leaves, response_leaves}
use Rattle.host_laws.proofs.Interface.Turns.{IsUsual, ToRouters, Usually, counted, sent_quiet}
use Rattle.host_laws.proofs.Receive.ReplyOrigins.{Origin, Silent, ByArp, ByAdvertisement, ByEcho, ByError}
use Rattle.host_laws.proofs.Receive.ReplyOrigins.{ByEchoV6, ByErrorV6, BySegment}
use Rattle.host_laws.proofs.Receive.SettingChanges.{reception_count}
use Rattle.host_laws.proofs.Runs.FrameSizes.{origin_of}
use Rattle.host_laws.proofs.Runs.RunRequests.{Asks, Asking, IsSound, asked_last, asks_on, behind, sound_of}
use Rattle.host_laws.proofs.Runs.RunRequests as requests
use Rattle.host_laws.proofs.Runs.SentPieces.{GoodReply, takes_good, takes_real}

-- Moments that a count allows: each is due, and takes one of those that are left; and what is left behind them
abbrev Few : Count → List ℤ → Count → Type 0
Few c [] d = (d.left ≤ c.left) × (c.retry_at ≤ℤ d.retry_at)
Few c (t ∷ ts) d = (1 ≤ c.left) × (c.retry_at ≤ℤ t) × Few (record { left = c.left - 1; retry_at = t +ℤ pos 4000000 }) ts d

few_same : {c d : Count} → d ≡ c → Few c [] d
few_same {c} {d} e = subst (λ x. Few c [] x) (sym e) (none c.left c.retry_at) where
  none : (n : ℕ) (t : ℤ) → (n ≤ n) × (t ≤ℤ t)
  none n t = (omega arith, omega (arith, ints))

few_from : (a b c : Count) (ts : List ℤ) → b.left ≤ a.left → a.retry_at ≤ℤ b.retry_at → Few b ts c → Few a ts c
few_from a b c [] less sooner f = (omega (arith, less, f.0), omega (arith, ints, sooner, f.1))
few_from a b c (t ∷ ts) less sooner f = (
  omega (arith, less, f.0),
  omega (arith, ints, sooner, f.1),
  few_from (record { left = a.left - 1; retry_at = t +ℤ pos 4000000 }) (record { left = b.left - 1; retry_at = t +ℤ pos 4000000 }) c ts
      (omega (arith, less)) (omega (arith, ints)) f.2,
)

few_on : (a b c : Count) (ts us : List ℤ) → Few a ts b → Few b us c → Few a (ts ++ us) c
few_on a b c [] us one two = few_from a b c us one.0 one.1 two
few_on a b c (t ∷ ts) us one two = (one.0, one.1, few_on (record { left = a.left - 1; retry_at = t +ℤ pos 4000000 }) b c ts us one.2 two)

few_left : (c d : Count) (ts : List ℤ) → Few c ts d → length ts ≤ c.left
few_left c d [] f = omega arith
few_left c d (t ∷ ts) f =
    let rest = few_left (record { left = c.left - 1; retry_at = t +ℤ pos 4000000 }) d ts f.2 in omega (arith, f.0, rest)

few_apart : (c d : Count) (ts : List ℤ) → Few c ts d → AreFourSecondsApart ts
few_apart c d [] f = tt
few_apart c d (t ∷ []) f = tt
few_apart c d (t ∷ u ∷ us) f = (f.2.1, few_apart (record { left = c.left - 1; retry_at = t +ℤ pos 4000000 }) d (u ∷ us) f.2)

-- the moments of two parts one after the other
solicitations-append : (m : Medium) (t : ℤ) (xs ys : List Event) →
    solicitations_at m (sent_at t (xs ++ ys)) ≡ solicitations_at m (sent_at t xs) ++ solicitations_at m (sent_at (asked_last t xs) ys)
solicitations-append m t [] ys = refl
solicitations-append m t (Received now reception ∷ xs) ys = solicitations-append m now xs ys
solicitations-append m t (Asked now given ∷ xs) ys = solicitations-append m now xs ys
solicitations-append m t (Sent id frame ∷ xs) ys =
    ap (λ rest. if is_router_solicitation m frame then t ∷ rest else rest) (solicitations-append m t xs ys)
    ∙ behind (is_router_solicitation m frame) t (solicitations_at m (sent_at t xs)) (solicitations_at m (sent_at (asked_last t xs) ys))

-- What the law says of a part of a step
record Solicits (old : Host) (told : List Event) (notes : List Note) (new : Host) : Type 0 where
  asks : Asks old told notes new
  few : (t : ℤ) → Few (count_of old) (solicitations_at old.capabilities.medium (sent_at t told)) (count_of new)

record Soliciting (old : Host) (told : List Event) (notes : List Note) (new : Host) : Type 0 where
  solicits : Solicits old told notes new
  nobody : NoSocketSpeaks new

abbrev SolicitedOver : Part
SolicitedOver old told notes new = IsSound old → NoSocketSpeaks old → Soliciting old told notes new

abbrev StepSolicits : Part
StepSolicits old told notes new = IsSound old → NoSocketSpeaks old → Solicits old told notes new

-- a part that solicits no router
seldom : {old new : Host} {told : List Event} {notes : List Note} → Asking old told notes new →
    ((t : ℤ) → solicitations_at old.capabilities.medium (sent_at t told) ≡ []) → count_of new ≡ count_of old → Soliciting old told notes new
seldom {old} {new} a none c = record {
  solicits = record { asks = a.asks; few = λ t. subst (λ ts. Few (count_of old) ts (count_of new)) (sym (none t)) (few_same c) };
  nobody = a.nobody;
}

solicits_on : (a b c : Host) (ts us : List Event) (xs ys : List Note) → Solicits a ts xs b → Solicits b us ys c → Solicits a (ts ++ us) (xs ++ ys) c
solicits_on a b c ts us xs ys one two = record {
  asks = asks_on a b c ts us xs ys one.asks two.asks;
  few = λ t.
      let more : Few (count_of b) (solicitations_at a.capabilities.medium (sent_at (asked_last t ts) us)) (count_of c) =
      subst (λ (d : DeviceCapabilities). Few (count_of b) (solicitations_at d.medium (sent_at (asked_last t ts) us)) (count_of c)) one.asks.same
      (two.few (asked_last t ts)) in
      subst (λ l. Few (count_of a) l (count_of c)) (sym (solicitations-append a.capabilities.medium t ts us))
      (few_on (count_of a) (count_of b) (count_of c) _ _ (one.few t) more);
}

on : (a b c : Host) (ts us : List Event) (xs ys : List Note) → SolicitedOver a ts xs b → SolicitedOver b us ys c →
    SolicitedOver a (ts ++ us) (xs ++ ys) c
on a b c ts us xs ys one two = λ sound none.
    let x = one sound none in
    let y = two x.solicits.asks.sound x.nobody in
    record { solicits = solicits_on a b c ts us xs ys x.solicits y.solicits; nobody = y.nobody }

keeps : (old new : Host) → Keeps old new → count_of new ≡ count_of old → (NoSocketSpeaks old → NoSocketSpeaks new) → SolicitedOver old [] [] new
keeps old new k c s = λ sound none. seldom (requests.keeps old new k s sound none) (λ t. refl) c

refused : (H : Host) → SolicitedOver H (Asked H.moment false ∷ []) [] H
refused H = λ sound none. seldom (requests.refused H sound none) (λ t. refl) refl

-- the frames of a dispatch
quiet_frames : (p : Packet) (outcome : Outcome) (H : Host) (frames : List (List ℕ)) (notes : List Note) →
    IsReal H → may_solicit (payload_of p) ≡ false → SendsOneThing p outcome H frames notes →
    (t : ℤ) → solicitations_at H.capabilities.medium (sent_at t (sends frames)) ≡ []
quiet_frames p outcome H frames notes real none (laws.Nothing f a c) t = rw f refl
quiet_frames p outcome H frames notes real none (ThePacket h to o f a c) t =
    rw (f, quiet_packet H.capabilities.medium H H.hardware_addr h p refl real.own to none) refl
quiet_frames p outcome H frames notes real none (ItsFirstPiece h q first rest to of pieces o f a c) t =
    let went = (pieces_go H.capabilities.medium (datagram_of H h H.ipv4_id q) (first ∷ rest) pieces to).0 in
    rw (f, quiet_piece H.capabilities.medium H H.hardware_addr first refl real.own went) refl
quiet_frames p outcome H frames notes real none (ARequest frame is silent o f a c) t =
    rw (f, quiet_request H.capabilities.medium frame is) refl

dispatch_count : {p : Packet} {outcome : Outcome} {H new : Host} {frames : List (List ℕ)} {notes : List Note} →
    Dispatches p outcome H frames notes new → count_of new ≡ count_of H
dispatch_count d = dispatch_leaves count_of (λ H. refl) (λ H. refl) (λ H rest. refl) d

dispatches : (p : Packet) (outcome : Outcome) (H new : Host) (frames : List (List ℕ)) (notes : List Note) →
    IsUsual H p → Dispatches p outcome H frames notes new → SolicitedOver H (Asked H.moment true ∷ sends frames) notes new
dispatches p outcome H new frames notes usual d = λ sound none.
    seldom (requests.dispatches p outcome H new frames notes (Usually usual) d sound none)
    (λ t. quiet_frames p outcome H frames notes sound.real (sent_quiet H p none usual) (sends_one p outcome H new frames notes sound.real d) H.moment)
    (dispatch_count d)

-- the solicitation that is due
is_due : (H : Host) (p : Packet) → due_solicitation H ≡ Some p → rs_required H.slaac H.moment ≡ true
is_due H p e = by (rs_required H.slaac H.moment) e where
  by : (b : Bool) → (if b then router_solicitation H else None) ≡ Some p → b ≡ true
  by true q = refl
  by false q = absurd cc

both_true : (a b : Bool) → (a && b) ≡ true → (a ≡ true) × (b ≡ true)
both_true true true e = (refl, refl)
both_true true false e = absurd cc
both_true false b e = absurd cc

le_of : (x t : ℤ) → is_le (int_cmp x t) ≡ true → x ≤ℤ t
le_of x t = by (int_cmp x t) (int_ranks x t) where
  by : (o : Ordering) → MatchOrdering o (x <ℤ t) (x ≡ t) (t <ℤ x) → is_le o ≡ true → x ≤ℤ t
  by Less m e = omega (arith, ints, m)
  by Equal m e = omega (arith, ints, m)
  by Greater m e = absurd cc

-- one is left, and its time has come; after it one less is, and the next one is due four seconds later
record IsDue (s : SlaacState) (t : ℤ) : Type 0 where
  some : 1 ≤ s.left
  come : s.retry_at ≤ℤ t
  after : count_in (rs_sent s t) ≡ record { left = s.left - 1; retry_at = t +ℤ pos 4000000 }

left_over : (n : ℕ) → nat_lt 0 n ≡ true → (1 ≤ n) × ((n == 0) ≡ false)
left_over n e =
    let more : 0 < n = ltb-true 0 n e in
    let some : n ≡ 0 → ⊥ = λ none. omega (arith, more, none) in
    (omega (arith, more), ne_eqb n 0 some)

due_now : (s : SlaacState) (t : ℤ) → rs_required s t ≡ true → IsDue s t
due_now s t e =
    let two = both_true (is_its_time s t) (nat_lt 0 s.left) e in
    let time = both_true (is_searching s.phase) (is_le (int_cmp s.retry_at t)) two.0 in
    let more = left_over s.left two.1 in record {
      some = more.0;
      come = le_of s.retry_at t time.1;
      after = by (is_its_time s t) (s.left == 0) two.0 more.1;
    } where
      by : (b c : Bool) → b ≡ true → c ≡ false →
          count_in (if b then (if c then record s { phase = phase.None } else slaac_after_sent s t) else s)
          ≡ record { left = s.left - 1; retry_at = t +ℤ pos 4000000 }
      by true false x y = refl
      by true true x y = absurd cc
      by false c x y = absurd cc

few_due : (m : Medium) (s : SlaacState) (t u : ℤ) (frames : List (List ℕ)) → length frames ≤ 1 → IsDue s t →
    Few (count_in s) (solicitations_at m (sent_at u (Asked t true ∷ sends frames))) (count_in (rs_sent s t))
few_due m s t u frames one due =
    subst (λ c. Few (count_in s) (solicitations_at m (sent_at u (Asked t true ∷ sends frames))) c) (sym due.after) (by frames one) where
      at_all : (b : Bool) → Few (count_in s) (if b then t ∷ [] else []) (record { left = s.left - 1; retry_at = t +ℤ pos 4000000 })
      at_all true = (due.some, due.come, (omega arith, omega (arith, ints)))
      at_all false = let come = due.come in (omega arith, omega (arith, ints, come))

      by : (frames : List (List ℕ)) → length frames ≤ 1 →
          Few (count_in s) (solicitations_at m (sent_at u (Asked t true ∷ sends frames))) (record { left = s.left - 1; retry_at = t +ℤ pos 4000000 })
      by [] l = at_all false
      by (f ∷ []) l = at_all (is_router_solicitation m f)
      by (f ∷ g ∷ fs) l = absurd (omega (arith, l))

solicits : (p : Packet) (outcome : Outcome) (H mid : Host) (frames : List (List ℕ)) (notes : List Note) →
    due_solicitation H ≡ Some p → Dispatches p outcome H frames notes mid →
    SolicitedOver H (Asked H.moment true ∷ sends frames) notes (with_slaac mid (rs_sent mid.slaac mid.moment))
solicits p outcome H mid frames notes due d = λ sound none.
    let one = requests.dispatches p outcome H mid frames notes (ToRouters due) d sound none in
    let learnt : mid.slaac ≡ H.slaac = dispatch_leaves (λ (K : Host). K.slaac) (λ H. refl) (λ H. refl) (λ H rest. refl) d in
    let now : mid.moment ≡ H.moment = dispatch_leaves (λ (K : Host). K.moment) (λ H. refl) (λ H. refl) (λ H rest. refl) d in
    let same : rs_sent mid.slaac mid.moment ≡ rs_sent H.slaac H.moment = ap (λ s. rs_sent s mid.moment) learnt ∙ ap (rs_sent H.slaac) now in
    record {
      solicits = record {
        asks = record {
          noted = one.asks.noted;
          same = one.asks.same;
          sound = record {
            real = record { own = one.asks.sound.real.own; neighbors = one.asks.sound.real.neighbors };
            left = one.asks.sound.left;
          };
        };
        few = λ t. subst (λ s. Few (count_of H) (solicitations_at H.capabilities.medium (sent_at t (Asked H.moment true ∷ sends frames))) (count_in s))
            (sym same) (few_due H.capabilities.medium H.slaac H.moment t frames (dispatched d) (due_now H.slaac H.moment (is_due H p due)));
      };
      nobody = one.nobody;
    }

pieces : (H : Host) (p : Piece) (rest : List Piece) → H.left ≡ p ∷ rest →
    SolicitedOver H (Asked H.moment true ∷ sends (piece_frame H p ∷ [])) (OfCuts (PieceSent p) ∷ []) (with_left H rest)
pieces H p rest e = λ sound none.
    let well : AllByRecursion (λ (q : Piece). IsOf H.capabilities.medium q.destination) (p ∷ rest) = rw e at sound.left in
    seldom (requests.pieces H p rest e sound none)
    (λ t. rw (quiet_piece H.capabilities.medium H H.hardware_addr p refl sound.real.own well.0) refl) refl

-- A reply

quiet_error : (m : Icmpv6Repr) → icmpv6.type_of m ≤ 4 → may_solicit_v6 m ≡ false
quiet_error (v6.Router (RouterSolicit lladdr)) few = absurd (omega (arith, few))
quiet_error (v6.Router (RouterAdvert hop_limit flags lifetime lladdr prefix)) few = refl
quiet_error others few = refl

same_packet : {p q : Packet} {reply : Option Reply} → reply ≡ Some (Ip p) → reply ≡ Some (Ip q) → p ≡ q
same_packet {p} {q} e f = let both : Some (Ip p) ≡ Some (Ip q) = sym e ∙ f in cc

quiet_origin : {H : Host} {frame : List ℕ} {reply : Option Reply} (p : Packet) → Origin H frame reply → reply ≡ Some (Ip p) →
    may_solicit (payload_of p) ≡ false
quiet_origin p (Silent e) is = let bad : None ≡ Some (Ip p) = sym e ∙ is in absurd cc
quiet_origin p (ByArp own r on e a) is = let bad : Some (Arp r) ≡ Some (Ip p) = sym e ∙ is in absurd cc
quiet_origin p (ByAdvertisement own q message on e c a) is =
    subst (λ x. may_solicit (payload_of x) ≡ false) (same_packet e is) (ap may_solicit c)
quiet_origin p (ByEcho q ident seq_no octets e c s a) is = subst (λ x. may_solicit (payload_of x) ≡ false) (same_packet e is) (ap may_solicit c)
quiet_origin p (ByError q m octets e c a) is = subst (λ x. may_solicit (payload_of x) ≡ false) (same_packet e is) (ap may_solicit c)
quiet_origin p (ByEchoV6 q ident seq_no octets e c s a) is = subst (λ x. may_solicit (payload_of x) ≡ false) (same_packet e is) (ap may_solicit c)
quiet_origin p (ByErrorV6 q m octets e c few a s) is =
    subst (λ x. may_solicit (payload_of x) ≡ false) (same_packet e is) (ap may_solicit c ∙ quiet_error m few)
quiet_origin p (BySegment q header e c a) is = subst (λ x. may_solicit (payload_of x) ≡ false) (same_packet e is) (ap may_solicit c)

quiet_response : (reply : Option Reply) (H : Host) (frames : List (List ℕ)) (notes : List Note) (new : Host) → IsReal H →
    GoodReply H.capabilities.medium reply → ((p : Packet) → reply ≡ Some (Ip p) → may_solicit (payload_of p) ≡ false) →
    Responds reply H frames notes new → (t : ℤ) → solicitations_at H.capabilities.medium (sent_at t (sends frames)) ≡ []
quiet_response None H frames notes new real good quiet r t = rw r.0 refl
quiet_response (Some (Arp packet)) H frames notes new real good quiet r t = rw (r.0, quiet_arp H.capabilities.medium packet good.0 good.1) refl
quiet_response (Some (Ip packet)) H frames notes new real good quiet r t =
    quiet_frames packet r.0 H frames notes real (quiet packet refl) (sends_one packet r.0 H new frames notes real r.1) t

ingress : (t : ℤ) (answer : PollIngressSingleResult) (old new : Host) (told : List Event) (notes : List Note) →
    Ingress t answer old told notes new → SolicitedOver old told notes new
ingress t answer old new told notes i = λ sound none.
    let r = i.response in
    let began : IsReal (without_expired old t) = record { own = sound.real.own; neighbors = sound.real.neighbors } in
    let shown = takes_real (without_expired old t) i.reception r.reply r.notes_taking r.taken r.takes began in
    let good = takes_good (without_expired old t) i.reception r.reply r.notes_taking r.taken began r.takes in
    let same : r.taken.capabilities ≡ old.capabilities = shown.same in
    let quiet = quiet_response r.reply r.taken i.frames r.notes_responding new shown.real
    (subst (λ (d : DeviceCapabilities). GoodReply d.medium r.reply) (sym same) good) (λ p is. quiet_origin p (origin_of i).1 is) r.responds t in
    let heard : solicitations_at old.capabilities.medium (sent_at t (sends i.frames)) ≡ [] =
    subst (λ (d : DeviceCapabilities). solicitations_at d.medium (sent_at t (sends i.frames)) ≡ []) same quiet in
    seldom (requests.ingress i sound none) (λ u. rw i.events heard)
    (response_leaves count_of (λ H. refl) (λ H. refl) (λ H rest. refl) r.reply r.taken i.frames r.notes_responding new r.responds
    ∙ reception_count (without_expired old t) i.reception r.reply r.notes_taking r.taken r.takes)

-- Steps

sweeps : (H : Host) (t : ℤ) → SolicitedOver H [] [] (without_expired H t)
sweeps H t = λ sound none. seldom (requests.sweeps H t sound none) (λ u. refl) refl

moves : (H : Host) (list : List IpCidr) → SolicitedOver H [] [] (record H { ip_addrs = list; neighbors = without_neighbors H.neighbors })
moves H list = λ sound none. seldom (requests.moves H list sound none) (λ u. refl) refl

sets : (H : Host) (h : HardwareAddress) → IsOf H.capabilities.medium h → SolicitedOver H [] [] (record H { hardware_addr = h })
sets H h of = λ sound none. seldom (requests.sets H h of sound none) (λ u. refl) refl

lasts : (H : Host) (timeout : ℕ) → SolicitedOver H [] [] (record H { reassembly_timeout = timeout })
lasts H timeout = λ sound none. seldom (requests.lasts H timeout sound none) (λ u. refl) refl

acts : (H : Host) (sockets : SocketSet) → StepSolicits H [] [] (record H { sockets = sockets })
acts H sockets = λ sound none. record { asks = requests.acts H sockets sound none; few = λ t. few_same refl }

step_solicits : {command : Command} {answer : Answer} {old new : Host} {told : List Event} {done : List Act} {notes : List Note} →
    Step command answer old told done notes new → StepSolicits old told notes new
step_solicits s = counted SolicitedOver keeps on refused dispatches solicits pieces ingress sweeps moves sets lasts
    StepSolicits (λ old new told notes law. λ sound none. (law sound none).solicits) acts s

-- Runs

all_solicited : {first last : Host} {transitions : List Transition} → Run first transitions last → IsSound first →
    AllByRecursion (λ p. NoSocketSpeaks p.before) transitions → Solicits first (events_in transitions) (notes_in transitions) last
all_solicited {first} Ends sound all =
    record { asks = record { noted = λ t. refl; same = refl; sound = sound }; few = λ t. few_same refl }
all_solicited (Then {told = told} {notes = notes} {transitions = ps} s r) sound all =
    let one = step_solicits s sound all.0 in
    solicits_on _ _ _ told (events_in ps) notes (notes_in ps) one (all_solicited r one.asks.sound all.1)

pub run_solicits : SolicitationsAreFew
run_solicits first last transitions r fresh regular all =
    let few = (all_solicited r (sound_of first regular) all).few (pos 0) in
    let three = few_left (count_of first) (count_of last) _ few in
    let left : first.slaac.left ≡ 3 = ap (λ (s : SlaacState). s.left) fresh in
    (omega (arith, three, left), few_apart (count_of first) (count_of last) _ few)
