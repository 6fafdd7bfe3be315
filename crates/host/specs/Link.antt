-- Two hosts on a link that loses, repeats and reorders frames, but never changes one.
use Rattle.std.specs.Prelude.{◌≡◌, ℕ, ◌<◌, ◌^◌, ℤ, List, [], ◌∷◌, ◌++◌, length, take}
use Rattle.std.specs.Prelude.{drop, slice_get, Option, Some, None, Result, Ok, Err}
use Rattle.std.specs.List.{AllByRecursion}
use Rattle.std.specs.FinMap as map
use Rattle.net_base.specs.Time.{IsMoment}
use Rattle.net_base.specs.MemoryDevice.{Memory, Tells}
use Rattle.host_machine.specs.declared.command.Command.TheVariants.{PollIngressSingle}
use Rattle.host_machine.specs.Context.Host.{Host, SocketSet}
use Rattle.host_machine.specs.Interface.Step.{Step, IsTimely}
use Rattle.host_machine.specs.Context.Note.{identifications}
use Rattle.host_machine.specs.Interface.Run.{Transition, Run, Did, notes_in}
use Rattle.host_machine.specs.Context.Real.{IsRegular}
use Rattle.host_laws.specs.Laws.TwoHosts.{HaveOwnKeys, RebuildsThese, WereSent, cuts_in, key_of_cut}
use Rattle.host_laws.specs.Laws.Ran.{Laws}
use Rattle.host_machine.specs.declared.command.Answer.{Answer}
use Rattle.host_laws.specs.Datagrams.{KeepsDatagrams}
use Rattle.host_laws.specs.EndToEnd.{GetWhatWasSent}
use Rattle.host_laws.specs.PingsInRuns.{PingsReturn}
use Rattle.host_laws.specs.Progress.{ComeToRest}
use Rattle.host_laws.specs.Senders.{NoSocketWritesUdp}
use Rattle.interface.specs.Stands.{StandsFor}
use Rattle.host.specs.Commands.{HostRefinesCommand}
use Rattle.host.specs.declared.link.Host.{Host as Linked}
use Rattle.host.specs.declared.link.LinkStep.{LinkStep}
use Rattle.host.specs.declared.link.LinkStep.TheVariants as step
use Rattle.host.specs.declared.link.LinkError.{LinkError}
use Rattle.host.specs.declared.link.LinkError.TheVariants.{NoMemory}

-- a step's moment, if it has one, is from 0 to 2 ^ 62 microseconds
abbrev pub IsTimelyStep : LinkStep → Type 0
IsTimelyStep (step.A command) = IsTimely command
IsTimelyStep (step.B command) = IsTimely command
IsTimelyStep (step.ToA k t) = IsMoment t
IsTimelyStep (step.ToB k t) = IsMoment t

-- one end of a link: its host, its device in memory, and the owner of its sockets
pub record End (O : Type 0) : Type 0 where
  pub host : Host
  pub device : Memory
  pub owner : O

-- what an owner may do in a turn
abbrev pub Owns : Type 0 → Type 1
Owns O = O → ℕ → SocketSet → SocketSet → O → Type 0

-- one transition of an end's run: its device has these events, and its owner did these actions
pub record Acts {O : Type 0} (did : Owns O) (p : Transition) (old new : End O) : Type 0 where
  pub step : Step p.command p.answer old.host p.told p.acts p.notes new.host
  pub before : p.before ≡ old.host
  pub after : p.after ≡ new.host
  pub tells : Tells old.device p.told new.device
  pub owner_did : Did did old.owner p.acts new.owner

-- a device with a copy of a frame appended to its queue
abbrev pub with_frame : Memory → List ℕ → Memory
with_frame d frame = record d { queued = d.queued ++ frame ∷ [] }

abbrev pub end_with_frame : {O : Type 0} → End O → List ℕ → End O
end_with_frame e frame = record e { device = with_frame e.device frame }

-- frame k, from 0, of those that a device has sent since the link began, if it had sent `before` frames by then
abbrev pub sent_since : ℕ → Memory → ℕ → Option (List ℕ)
sent_since before d k = slice_get (drop before d.sent) k

-- Steps on a link between two ends, which had sent m and n frames before it began, and the transitions of their runs: a
-- command on one end; or a copy of a frame that one end has sent is queued for the other, which is then polled for a
-- frame. If there is no such frame, nothing is done.
pub data Links {O P : Type 0} (did_a : Owns O) (did_b : Owns P) (m n : ℕ) :
    List LinkStep → End O → End P → List Transition → List Transition → End O → End P → Type 0 where
  Stops : {a : End O} {b : End P} → Links did_a did_b m n [] a b [] [] a b
  OnA : {steps : List LinkStep} {a c a' : End O} {b b' : End P} {p : Transition} {ps qs : List Transition} →
      Acts did_a p a c → Links did_a did_b m n steps c b ps qs a' b' →
      Links did_a did_b m n (step.A p.command ∷ steps) a b (p ∷ ps) qs a' b'
  OnB : {steps : List LinkStep} {a a' : End O} {b c b' : End P} {q : Transition} {ps qs : List Transition} →
      Acts did_b q b c → Links did_a did_b m n steps a c ps qs a' b' →
      Links did_a did_b m n (step.B q.command ∷ steps) a b ps (q ∷ qs) a' b'
  ToA : {steps : List LinkStep} {a c a' : End O} {b b' : End P} {p : Transition} {ps qs : List Transition}
      (k : ℕ) (t : ℤ) (frame : List ℕ) →
      sent_since n b.device k ≡ Some frame → p.command ≡ PollIngressSingle t → Acts did_a p (end_with_frame a frame) c →
      Links did_a did_b m n steps c b ps qs a' b' →
      Links did_a did_b m n (step.ToA k t ∷ steps) a b (p ∷ ps) qs a' b'
  ToB : {steps : List LinkStep} {a a' : End O} {b c b' : End P} {q : Transition} {ps qs : List Transition}
      (k : ℕ) (t : ℤ) (frame : List ℕ) →
      sent_since m a.device k ≡ Some frame → q.command ≡ PollIngressSingle t → Acts did_b q (end_with_frame b frame) c →
      Links did_a did_b m n steps a c ps qs a' b' →
      Links did_a did_b m n (step.ToB k t ∷ steps) a b ps (q ∷ qs) a' b'
  NoneToA : {steps : List LinkStep} {a a' : End O} {b b' : End P} {ps qs : List Transition} (k : ℕ) (t : ℤ) →
      sent_since n b.device k ≡ None → Links did_a did_b m n steps a b ps qs a' b' →
      Links did_a did_b m n (step.ToA k t ∷ steps) a b ps qs a' b'
  NoneToB : {steps : List LinkStep} {a a' : End O} {b b' : End P} {ps qs : List Transition} (k : ℕ) (t : ℤ) →
      sent_since m a.device k ≡ None → Links did_a did_b m n steps a b ps qs a' b' →
      Links did_a did_b m n (step.ToB k t ∷ steps) a b ps qs a' b'

-- there is a frame of this number
abbrev pub IsThere : ℕ → Memory → ℕ → Type 0
IsThere before d k = (frame : List ℕ) × (sent_since before d k ≡ Some frame)

-- a step copies a frame that is there
abbrev pub Copies : ℕ → ℕ → LinkStep → Memory → Memory → Type 0
Copies m n (step.ToA k t) a b = IsThere n b k
Copies m n (step.ToB k t) a b = IsThere m a k
Copies m n other a b = ⊥

-- which steps were done: all; or those before the one whose copy was refused, the only reason to stop
pub data IsDone (steps : List LinkStep) (m n : ℕ) (a b : Memory) : Result (Unit {0}) LinkError →
    List LinkStep → Type 0 where
  All : IsDone steps m n a b (Ok tt) steps
  Before : (k : ℕ) (refused : LinkStep) → slice_get steps k ≡ Some refused → Copies m n refused a b →
      IsDone steps m n a b (Err (NoMemory k)) (take k steps)

-- the end of a link that a program's host is, if its interface and sockets stand for a host of the machine
abbrev pub end_of : {O : Type 0} → Linked O → Host → End O
end_of h H = record { host = H; device = h.device; owner = h.owner }

-- what these steps did, from hosts that both ends stood for: the transitions of both runs, and the hosts that
-- they stand for afterwards
pub record Went {O P : Type 0} (did_a : Owns O) (did_b : Owns P) (m n : ℕ) (steps : List LinkStep)
    (a a' : Linked O) (b b' : Linked P)
    (H K : Host) : Type 0 where
  pub ps : List Transition
  pub qs : List Transition
  pub last_a : Host
  pub last_b : Host
  pub links : Links did_a did_b m n steps (end_of a H) (end_of b K) ps qs (end_of a' last_a) (end_of b' last_b)
  pub stands_a : StandsFor a'.interface a'.sockets last_a
  pub stands_b : StandsFor b'.interface b'.sockets last_b

-- what is done with the number of a frame: if a device has sent no frame of this number, nothing; otherwise a copy is
-- queued for an end, which is then polled
pub data HandsOver {O : Type 0} (did : Owns O) (before : ℕ) (from : Memory) (k : ℕ)
    (t : ℤ) (old new : Linked O) : Type 0 where
  NoFrame : sent_since before from k ≡ None → new ≡ old → HandsOver did before from k t old new
  OneFrame : (frame : List ℕ) (answer : Answer) → sent_since before from k ≡ Some frame →
      HostRefinesCommand Tells did (with_frame old.device frame) new.device old.owner new.owner
      (PollIngressSingle t) answer
      (StandsFor old.interface old.sockets) (StandsFor new.interface new.sockets) →
      HandsOver did before from k t old new

-- that, from all hosts that both ends stood for
abbrev pub Goes : {O P : Type 0} → Owns O → Owns P → ℕ → ℕ → List LinkStep → Linked O →
    Linked O → Linked P → Linked P → Type 0
Goes did_a did_b m n steps a a' b b' =
    (H K : Host) → StandsFor a.interface a.sockets H → StandsFor b.interface b.sockets K →
    Went did_a did_b m n steps a a' b b' H K

-- Whatever an end reassembles under the key of a packet that the other end fragmented is that packet's payload. Both
-- are on one medium; the other end had no pending fragment when the link began, and fragments no two packets under one
-- key; and the receiving end had no slot with such a key.
abbrev pub RebuildsCuts : Host → Host → List Transition → List Transition → Type 0
RebuildsCuts H K ps qs =
    K.capabilities.medium ≡ H.capabilities.medium → H.left ≡ [] → HaveOwnKeys (cuts_in ps) →
    AllByRecursion (λ d. map.get K.slots.held (key_of_cut d) ≡ None) (cuts_in ps) → RebuildsThese (cuts_in ps) qs

-- If the other end makes fewer than 65,536 dispatches, it fragments no two packets under one key, and the law holds
-- without that premise.
abbrev pub RebuildsFew : Host → Host → List Transition → List Transition → Type 0
RebuildsFew H K ps qs =
    K.capabilities.medium ≡ H.capabilities.medium → H.left ≡ [] → length (identifications (notes_in ps)) < 2 ^ 16 →
    AllByRecursion (λ d. map.get K.slots.held (key_of_cut d) ≡ None) (cuts_in ps) → RebuildsThese (cuts_in ps) qs

-- Each datagram that a UDP socket of an end gets was sent by a UDP socket of the other end, whole or, under the
-- premises above, in fragments. Both are on one medium, and no raw socket of the other end sends UDP.
abbrev pub GetsDatagrams : Host → Host → List Transition → List Transition → Type 0
GetsDatagrams H K ps qs =
    K.capabilities.medium ≡ H.capabilities.medium →
    AllByRecursion (λ p. NoSocketWritesUdp p.before) ps → GetWhatWasSent H K ps qs

-- what an end did by itself: a run, from a regular host, that keeps the laws of every run
pub record KeepsLaws (H last : Host) (ps : List Transition) : Type 0 where
  pub run : Run H ps last
  pub regular : IsRegular H
  pub laws : Laws H ps
  pub datagrams : KeepsDatagrams H last ps
  pub rest : ComeToRest ps

-- what came from one end, H, to the other, K: each frame received there was sent, what is reassembled there was
-- fragmented, and what UDP sockets get there was sent by those of H
pub record Brings (H K : Host) (ps qs : List Transition) : Type 0 where
  pub received : WereSent ps qs
  pub rebuilds : RebuildsCuts H K ps qs
  pub few : RebuildsFew H K ps qs
  pub gets : GetsDatagrams H K ps qs

-- what `link` did: some of its steps, which ones by its answer. So the ends made runs that satisfy the laws; what came
-- to each is from the other; and pings between them come back
pub record LinkWent {O P : Type 0} (did_a : Owns O) (did_b : Owns P) (steps : List LinkStep)
    (answer : Result (Unit {0}) LinkError)
    (x x' : Linked O) (y y' : Linked P) (H K : Host) : Type 0 where
  pub done : List LinkStep
  pub is_done : IsDone steps (length x.device.sent) (length y.device.sent) x'.device y'.device answer done
  pub went : Went did_a did_b (length x.device.sent) (length y.device.sent) done x x' y y' H K
  pub a : KeepsLaws H went.last_a went.ps
  pub b : KeepsLaws K went.last_b went.qs
  pub to_b : Brings H K went.ps went.qs
  pub to_a : Brings K H went.qs went.ps
  pub pings_a : PingsReturn a.laws.calls.calls.singles b.laws.calls.calls.singles
  pub pings_b : PingsReturn b.laws.calls.calls.singles a.laws.calls.calls.singles

-- that, from all hosts that both ends stood for
abbrev pub LinkGoes : {O P : Type 0} → Owns O → Owns P → List LinkStep → Result (Unit {0}) LinkError → Linked O →
    Linked O → Linked P → Linked P → Type 0
LinkGoes did_a did_b steps answer a a' b b' =
    (H K : Host) → StandsFor a.interface a.sockets H → StandsFor b.interface b.sockets K →
    LinkWent did_a did_b steps answer a a' b b' H K
