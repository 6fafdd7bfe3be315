-- Several hosts on one medium. What a host sends in a call is kept as a transmission. A copy of any frame that is kept
-- may be delivered to any host: in any order, again, or never. No frame is changed.
use Rattle.std.specs.Prelude.{◌≡◌, ℕ, ℤ, ◌+◌, ◌==◌, false, List, [], ◌∷◌, ◌++◌, map, set, drop}
use Rattle.std.specs.Prelude.{Option, Some, if◌then◌else◌}
use Rattle.std.specs.List.{slice_get}
use Rattle.net_base.specs.MemoryDevice.{Memory, Tells}
use Rattle.host_machine.specs.declared.command.Command.{Command}
use Rattle.host_machine.specs.declared.command.Command.TheVariants.{PollIngressSingle}
use Rattle.host_machine.specs.declared.command.Answer.{Answer}
use Rattle.host_machine.specs.Interface.Run.{Transition}
use Rattle.interface.specs.Stands.{StandsFor}
use Rattle.host.specs.Commands.{HostRefinesCommand}
use Rattle.host.specs.declared.link.Host.{Host as Linked}
use Rattle.host.specs.Link.{End, Owns, Acts, end_of, end_with_frame, with_frame}
use Rattle.network.specs.declared.network.Network.{Network as Program}
use Rattle.network.specs.Kept.{Sent, frame_of, kept_at, wire_of, wire_with}

-- hosts, how many transmissions were forgotten, and those that are kept, in order
pub record Network (X : Type 0) : Type 0 where
  pub hosts : List X
  pub forgotten : ℕ
  pub wire : List Sent

-- what a program's network is
abbrev pub network_of : {O : Type 0} → Program O → Network (Linked O)
network_of n = record { hosts = n.hosts.items; forgotten = n.kept.forgotten; wire = wire_of n.kept }

-- the transmission of a number, from 0 since the network was new, if it is kept
abbrev pub transmission_at : {X : Type 0} → Network X → ℕ → Option Sent
transmission_at a number = kept_at a.forgotten a.wire number

-- frame k of it, from 0
abbrev pub frame_at : {X : Type 0} → Network X → ℕ → ℕ → Option (List ℕ)
frame_at a number k = frame_of (transmission_at a number) k

-- what is done with a network: a host runs a command; a copy of a kept frame, or a frame from outside, is queued for a
-- host, which is polled for one frame; or the first transmissions are forgotten
pub data Call : Type 0 where
  Runs : (host : ℕ) (command : Command) → Call
  HandsOver : (number k host : ℕ) (t : ℤ) → Call
  TakesIn : (frame : List ℕ) (host : ℕ) (t : ℤ) → Call
  Forgets : (count : ℕ) → Call

-- a transition of one host's run
pub record Move : Type 0 where
  pub host : ℕ
  pub transition : Transition

abbrev pub answer_of : Move → Answer
answer_of m = m.transition.answer

-- the transitions of a host, in order
abbrev pub transitions_of : List Move → ℕ → List Transition
transitions_of [] i = []
transitions_of (m ∷ ms) i = if m.host == i then m.transition ∷ transitions_of ms i else transitions_of ms i

-- a device whose sent frames were taken
abbrev pub taken : Memory → Memory
taken d = record d { sent = []; has_room = false }

abbrev pub end_taken : {O : Type 0} → End O → End O
end_taken e = record e { device = taken e.device }

-- a network in which a host became another one, and sent what is in its device
abbrev pub after_acting : {O : Type 0} → Network (End O) → ℕ → End O → Network (End O)
after_acting a i e = record a { hosts = set a.hosts i (end_taken e); wire = wire_with i e.device.sent a.wire }

-- a network that forgot its first transmissions
abbrev pub without_first : {X : Type 0} → Network X → ℕ → Network X
without_first a count = record a { forgotten = a.forgotten + count; wire = drop count a.wire }

-- no frame comes from outside
abbrev pub AreClosed : List Call → Type 0
AreClosed [] = Unit {0}
AreClosed (TakesIn frame i t ∷ calls) = ⊥
AreClosed (other ∷ calls) = AreClosed calls

-- Calls one after another, and the transitions of the hosts in this order. In each call at most one host acts. Where a
-- frame is delivered, it is one that is kept, unless it came from outside.
pub data Goes {O : Type 0} (did : Owns O) :
    Network (End O) → List Call → List Move → Network (End O) → Type 0 where
  Stops : {a : Network (End O)} → Goes did a [] [] a
  HostRan : {a b : Network (End O)} {old new : End O} {p : Transition} {calls : List Call} {moves : List Move} (i : ℕ) →
      slice_get a.hosts i ≡ Some old → Acts did p old new → Goes did (after_acting a i new) calls moves b →
      Goes did a (Runs i p.command ∷ calls) (record { host = i; transition = p } ∷ moves) b
  FrameCame : {a b : Network (End O)} {old new : End O} {p : Transition} {calls : List Call} {moves : List Move}
      (number k i : ℕ) (t : ℤ) (frame : List ℕ) →
      slice_get a.hosts i ≡ Some old → frame_at a number k ≡ Some frame → p.command ≡ PollIngressSingle t →
      Acts did p (end_with_frame old frame) new → Goes did (after_acting a i new) calls moves b →
      Goes did a (HandsOver number k i t ∷ calls) (record { host = i; transition = p } ∷ moves) b
  OutsideCame : {a b : Network (End O)} {old new : End O} {p : Transition} {calls : List Call} {moves : List Move}
      (i : ℕ) (t : ℤ) (frame : List ℕ) →
      slice_get a.hosts i ≡ Some old → p.command ≡ PollIngressSingle t →
      Acts did p (end_with_frame old frame) new → Goes did (after_acting a i new) calls moves b →
      Goes did a (TakesIn frame i t ∷ calls) (record { host = i; transition = p } ∷ moves) b
  Forgot : {a b : Network (End O)} {calls : List Call} {moves : List Move} (count : ℕ) →
      Goes did (without_first a count) calls moves b → Goes did a (Forgets count ∷ calls) moves b

-- an end is that of a host, if the host's interface and sockets stand for it
pub record IsEndOf {O : Type 0} (h : Linked O) (e : End O) : Type 0 where
  pub stands : StandsFor h.interface h.sockets e.host
  pub same : e ≡ end_of h e.host

-- each host stands for its end
abbrev pub Stand : {O : Type 0} → List (Linked O) → List (End O) → Type 0
Stand [] [] = Unit {0}
Stand [] (e ∷ es) = ⊥
Stand (h ∷ hs) [] = ⊥
Stand (h ∷ hs) (e ∷ es) = IsEndOf h e × Stand hs es

pub record Stands {O : Type 0} (n : Network (Linked O)) (a : Network (End O)) : Type 0 where
  pub hosts : Stand n.hosts a.hosts
  pub forgotten : a.forgotten ≡ n.forgotten
  pub wire : a.wire ≡ n.wire

-- what calls did, from ends that the hosts stood for: the transitions, and the ends that they stand for afterwards
pub record Went {O : Type 0} (did : Owns O) (calls : List Call) (answers : List Answer) (new : Network (Linked O))
    (a : Network (End O)) : Type 0 where
  pub moves : List Move
  pub last : Network (End O)
  pub goes : Goes did a calls moves last
  pub answered : answers ≡ map answer_of moves
  pub stands : Stands new last

-- that, from all ends that the hosts stood for
abbrev pub NetworkGoes : {O : Type 0} → Owns O → List Call → List Answer → Network (Linked O) → Network (Linked O) → Type 0
NetworkGoes {O} did calls answers old new = (a : Network (End O)) → Stands old a → Went did calls answers new a

-- what two lists of calls did one after another is what one list of all of them may do
abbrev pub NetworksJoin : {O : Type 0} → Owns O → Type 0
NetworksJoin {O} did =
    (a b c : Network (Linked O)) (calls more_calls : List Call) (answers more_answers : List Answer) →
    NetworkGoes did calls answers a b → NetworkGoes did more_calls more_answers b c →
    NetworkGoes did (calls ++ more_calls) (answers ++ more_answers) a c

-- a program's host with its device's sent frames taken, and with a frame queued
abbrev pub host_taken : {O : Type 0} → Linked O → Linked O
host_taken h = record h { device = taken h.device }

abbrev pub host_with_frame : {O : Type 0} → Linked O → List ℕ → Linked O
host_with_frame h frame = record h { device = with_frame h.device frame }

-- a program's host ran a command, and then what it had sent was kept
pub record Acted {O : Type 0} (did : Owns O) (i : ℕ) (command : Command) (answer : Answer) (old new : Linked O)
    (wire wire' : List Sent) : Type 0 where
  pub mid : Linked O
  pub refines : HostRefinesCommand Tells did old.device mid.device old.owner mid.owner command answer
      (StandsFor old.interface old.sockets) (StandsFor mid.interface mid.sockets)
  pub taken_is : new ≡ host_taken mid
  pub kept : wire' ≡ wire_with i mid.device.sent wire
