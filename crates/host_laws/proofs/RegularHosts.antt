-- A host stays regular over a run, and what each place of it sends.
use Rattle.std.proofs.Common.{inl, inr, ◌≡◌, ℕ, true, List, [], ◌∷◌, ◌++◌, refl, ◌∙◌, subst, Option, Some, None}
use Rattle.std.specs.Prelude.{ℤ, ◌⊎◌}
use Rattle.std.specs.List.{AllByRecursion}
use Rattle.net_base.specs.Device.{Event, Asked, sent_frames}
use Rattle.net_base.specs.declared.phy.DeviceCapabilities.{DeviceCapabilities}
use Rattle.fragmentation.specs.Cuts.{Piece}
use Rattle.host_machine.specs.declared.command.Command.{Command}
use Rattle.host_machine.specs.declared.command.Answer.{Answer}
use Rattle.host_machine.specs.declared.results.PollIngressSingleResult.{PollIngressSingleResult}
use Rattle.host_machine.specs.Context.Note.{Note, OfCuts, PieceSent, cut_notes}
use Rattle.host_machine.specs.Context.Host.{Host, without_expired, with_left}
use Rattle.host_machine.specs.Packet.Frame.{piece_frame, sends}
use Rattle.host_machine.specs.Interface.Ingress.{Ingress}
use Rattle.host_machine.specs.Interface.Parts.{Part}
use Rattle.host_machine.specs.Context.Real.{IsReal, IsPart, IsRegular}
use Rattle.host_machine.specs.Receive.Reply.{Reply, Arp, Ip}
use Rattle.host_machine.specs.Receive.Response.{Responds}
use Rattle.host_machine.specs.Interface.Run.{Transition, Run, Ends, Then}
use Rattle.host_machine.specs.Interface.Step.{Act, Step}
use Rattle.host_machine.specs.Interface.Step as step
use Rattle.host_laws.specs.Laws.TwoHosts.{cuts}
use Rattle.host_laws.proofs.Runs.SentPieces.{takes_real}
use Rattle.host_laws.proofs.Context.MediumAddresses.{none_of}
use Rattle.host_laws.proofs.Interface.Turns.{stepped}
use Rattle.host_laws.specs.Departures.{Departure, HasDeparted}
use Rattle.host_laws.specs.Datagrams.{host_at_command}
use Rattle.host_laws.specs.EndToEnd.{LeaveQueues}
use Rattle.host_laws.specs.Senders.{CarryOnly, NoSocketWritesUdp}
use Rattle.host_laws.proofs.Accounts.{Follows, dispatch_follows, follows, itself, keeps, taken_left}
use Rattle.host_laws.proofs.Lists.{none_among}
use Rattle.host_laws.proofs.StepTraffic.{step_moves}

abbrev Over : Part
Over old told notes new = IsRegular old → Follows old new

on : (a b c : Host) (ts us : List Event) (xs ys : List Note) → Over a ts xs b → Over b us ys c → Over a (ts ++ us) (xs ++ ys) c
on a b c ts us xs ys one two = λ r. let x = one r in let y = two x.regular in record { same = y.same ∙ x.same; regular = y.regular }

pieces : (H : Host) (p : Piece) (rest : List Piece) →
    H.left ≡ p ∷ rest → Over H (Asked H.moment true ∷ sends (piece_frame H p ∷ [])) (OfCuts (PieceSent p) ∷ []) (with_left H rest)
pieces H p rest e = λ r.
    let all : AllByRecursion (IsPart H.capabilities.medium) (p ∷ rest) = rw e at r.left in
    record { same = refl; regular = record { real = record { own = r.real.own; neighbors = r.real.neighbors }; mtu = r.mtu; left = all.1 } }

responds : (reply : Option Reply) (H : Host) (frames : List (List ℕ)) (notes : List Note) (new : Host) →
    Responds reply H frames notes new → IsRegular H → Follows H new
responds None H frames notes new r = rw r.2 (itself H)
responds (Some (Arp packet)) H frames notes new r = rw r.2 (itself H)
responds (Some (Ip packet)) H frames notes new r = dispatch_follows r.1

ingress : (t : ℤ) (answer : PollIngressSingleResult) (old new : Host) (told : List Event) (notes : List Note) →
    Ingress t answer old told notes new → Over old told notes new
ingress t answer old new told notes i = λ r.
    let x = i.response in
    let shown = takes_real (without_expired old t) i.reception x.reply x.notes_taking x.taken x.takes
    (record { own = r.real.own; neighbors = r.real.neighbors }) in
    let taken = follows old x.taken shown.same (taken_left (without_expired old t) i.reception x.reply x.notes_taking x.taken x.takes) shown.real r in
    let last = responds x.reply x.taken i.frames x.notes_responding new x.responds taken.regular in
    record { same = last.same ∙ taken.same; regular = last.regular }

pub step_follows : {command : Command} {answer : Answer} {old new : Host} {told : List Event} {acts : List Act} {notes : List Note} →
    Step command answer old told acts notes new → Over old told notes new
step_follows s =
    stepped Over (λ old new k nobody. keeps old new k) on (λ H. itself H) (λ p outcome H new frames notes may d. dispatch_follows d) pieces ingress
    (λ H t. λ r. follows H (without_expired H t) refl refl (record { own = r.real.own; neighbors = r.real.neighbors }) r)
    (λ H list. λ r. follows H _ refl refl (record { own = r.real.own; neighbors = none_of H.capabilities.medium H.neighbors }) r)
    (λ H h of. λ r. follows H _ refl refl (record { own = of; neighbors = r.real.neighbors }) r)
    (λ H timeout. λ r. follows H _ refl refl (record { own = r.real.own; neighbors = r.real.neighbors }) r)
    Over (λ old new told notes law. law)
    (λ H sockets. λ r. follows H _ refl refl (record { own = r.real.own; neighbors = r.real.neighbors }) r)
    s

-- what a place of a run sends
pub record Sends (p : Transition) : Type 0 where
  pub departures : List Departure
  pub left : AllByRecursion (HasDeparted (host_at_command p.command p.before)) departures
  pub leave : LeaveQueues p departures
  pub only : CarryOnly p.before.capabilities.medium departures (sent_frames p.told) (cuts (cut_notes p.notes))

-- the owner of the sockets sends nothing
acts_or : {command : Command} {answer : Answer} {old new : Host} {told : List Event} {acts : List Act} {notes : List Note} →
    Step command answer old told acts notes new → (acts ≡ []) ⊎ ((told ≡ []) × (notes ≡ []))
acts_or (step.OwnerActed sockets) = inr (refl, refl)
acts_or other = inl refl

place_sends : {command : Command} {answer : Answer} {old new : Host} {told : List Event} {acts : List Act} {notes : List Note} →
    Step command answer old told acts notes new → IsRegular old → NoSocketWritesUdp old →
    Sends (record { command = command; answer = answer; told = told; acts = acts; notes = notes; before = old; after = new })
place_sends {command} {answer} {old} {new} {told} {acts} {notes} s r none = by (acts_or s) where
  by : (acts ≡ []) ⊎ ((told ≡ []) × (notes ≡ [])) →
      Sends (record { command = command; answer = answer; told = told; acts = acts; notes = notes; before = old; after = new })
  by (inl e) = let x = step_moves s e in record {
    departures = x.departures;
    left = x.left;
    leave = record { fronts = x.fronts; frames = x.went };
    only = x.only r none;
  }
  by (inr e) = record {
    departures = [];
    left = tt;
    leave = record { fronts = λ i u there. (u.tx.packets, refl); frames = none_among (sent_frames told) };
    only = record { frames_are = rw e.0 tt; cuts_are = rw e.1 tt };
  }

-- at each place, over the medium that the run began with, with hardware addresses of it
pub record SendsOver (c : DeviceCapabilities) (p : Transition) : Type 0 where
  pub sends : Sends p
  pub same : p.before.capabilities ≡ c
  pub real : IsReal p.before

pub all_send : {first last : Host} {transitions : List Transition} →
    Run first transitions last → IsRegular first → AllByRecursion (λ p. NoSocketWritesUdp p.before) transitions →
    AllByRecursion (SendsOver first.capabilities) transitions
all_send Ends r none = tt
all_send {first} (Then {mid = mid} {transitions = ps} s run) r none =
    let f = step_follows s r in
    let rest : AllByRecursion (SendsOver first.capabilities) ps =
    subst (λ c. AllByRecursion (SendsOver c) ps) f.same (all_send run f.regular none.1) in
    (record { sends = place_sends s r none.0; same = refl; real = r.real }, rest)
