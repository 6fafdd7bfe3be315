-- Laws: the rules determine what is done, except for which of several neighbours with the earliest expiry
-- makes room for a new one.
use Rattle.std.specs.Prelude.{◌≡◌, ◌≢◌, ◌⊎◌, ℕ, ◌≤◌, ℤ, Bool, List, [], ◌∷◌, ◌++◌, map, Option, None}
use Rattle.std.specs.FinMap as finite
use Rattle.net_base.specs.Device.{Event, Received, Asked, Sent, Reception, grants}
use Rattle.ip_address.specs.declared.ip.IpAddress.{IpAddress}
use Rattle.iface_tables.specs.declared.neighbor.Neighbor.{Neighbor}
use Rattle.iface_tables.specs.Neighbor.{IsLeastEnd}
use Rattle.host_machine.specs.declared.results.PollIngressSingleResult.{PollIngressSingleResult}
use Rattle.host_machine.specs.declared.results.PollIngressSingleResult.TheVariants as ingress
use Rattle.host_machine.specs.declared.results.PollResult.{PollResult}
use Rattle.host_machine.specs.declared.command.Command.{Command}
use Rattle.host_machine.specs.declared.command.Command.TheVariants.{PollIngressSingle, Poll}
use Rattle.host_machine.specs.declared.command.Answer.{Answer}
use Rattle.host_machine.specs.Context.Note.{Note}
use Rattle.host_machine.specs.Context.Host.{Host, at, with_neighbors}
use Rattle.host_machine.specs.Packet.Packet.{Packet}
use Rattle.host_machine.specs.Receive.Reply.{Reply}
use Rattle.host_machine.specs.Send.Outcome.{Outcome}
use Rattle.host_machine.specs.Send.Dispatch.{Dispatches}
use Rattle.host_machine.specs.Interface.Ingress.{Takes, Ingress}
use Rattle.host_machine.specs.Interface.Egress.{Egress}
use Rattle.host_machine.specs.Interface.Polling.{Repeats, Polls, may_change, after_maintenance}
use Rattle.host_machine.specs.Interface.Step.{Act, Step}
use Rattle.host_machine.specs.Interface.Run.{Transition, Run, events_in, acts_in}

-- A dispatch

-- two equal dispatches: the outcome of the packet, the frames sent, the notes, and the host after it
pub record IsOneDispatch (one two : Outcome) (frames frames' : List (List ℕ))
    (notes notes' : List Note) (new new' : Host) : Type 0 where
  pub outcome_is : one ≡ two
  pub frames_are : frames ≡ frames'
  pub notes_are : notes ≡ notes'
  pub host_is : new ≡ new'

-- a dispatch is determined by its packet and the host: the rules allow only one
abbrev pub DispatchIsDetermined : Type 0
DispatchIsDetermined =
    (p : Packet) (one two : Outcome) (H new new' : Host) (frames frames' : List (List ℕ)) (notes notes' : List Note) →
    Dispatches p one H frames notes new → Dispatches p two H frames' notes' new' →
    IsOneDispatch one two frames frames' notes notes' new new'

-- A reception

-- the host with a neighbour at an address, in place of another neighbour
abbrev pub in_place_of : IpAddress → IpAddress → Neighbor → Host → Host
in_place_of other a n H =
    with_neighbors H (record H.neighbors { known = finite.insert (finite.remove H.neighbors.known other) a n })

-- two hosts that learnt a neighbour without room: of two other neighbours with the earliest expiry, one made room in
-- the first host, and the other one in the second
pub record OtherMadeRoom (new new' : Host) : Type 0 where
  pub before : Host
  pub address : IpAddress
  pub neighbor : Neighbor
  pub unknown : finite.get before.neighbors.known address ≡ None
  pub full : before.neighbors.room ≤ finite.len before.neighbors.known
  pub one : IpAddress
  pub other : IpAddress
  pub one_ends_first : IsLeastEnd before.neighbors.known one
  pub other_ends_first : IsLeastEnd before.neighbors.known other
  pub apart : one ≢ other
  pub by_one : new ≡ in_place_of one address neighbor before
  pub by_other : new' ≡ in_place_of other address neighbor before

-- two equal receptions: the reply, the notes, and the host after it, unless another neighbour made room
pub record IsOneReception (reply reply' : Option Reply) (notes notes' : List Note) (new new' : Host) : Type 0 where
  pub reply_is : reply ≡ reply'
  pub noted_is : notes ≡ notes'
  pub taken_is : (new ≡ new') ⊎ OtherMadeRoom new new'

-- reception is determined by what the device delivered and by the host, except for which of several neighbours with the
-- earliest expiry makes room
abbrev pub ReceptionIsDetermined : Type 0
ReceptionIsDetermined =
    (r : Reception) (H new new' : Host) (reply reply' : Option Reply) (notes notes' : List Note) →
    Takes H r reply notes new → Takes H r reply' notes' new' → IsOneReception reply reply' notes notes' new new'

-- A call

-- two equal calls: the answer, the device's events, the notes, and the host after it
pub record IsOneCall {A : Type 0} (answer answer' : A) (told told' : List Event)
    (notes notes' : List Note) (new new' : Host) : Type 0 where
  pub answer_is : answer ≡ answer'
  pub told_is : told ≡ told'
  pub notes_are : notes ≡ notes'
  pub host_is : new ≡ new'

-- a call that sends is determined by the host and by which transmit tokens the device grants
abbrev pub EgressIsDetermined : Type 0
EgressIsDetermined =
    (t : ℤ) (answer answer' : PollResult) (old new new' : Host) (told told' : List Event) (notes notes' : List Note) →
    Egress t answer old told notes new → Egress t answer' old told' notes' new' → grants told ≡ grants told' →
    IsOneCall answer answer' told told' notes notes' new new'

-- A call that receives

-- what a device delivered when it was asked for frames, in order
abbrev pub receptions : List Event → List Reception
receptions [] = []
receptions (Received t r ∷ es) = r ∷ receptions es
receptions (Asked t b ∷ es) = receptions es
receptions (Sent id f ∷ es) = receptions es

-- two calls that received the same and learnt one neighbour, for which a different one made room; until then the notes
-- are the same, and the same reply is sent, from the neighbours that each has then
pub record IngressDiffers (t : ℤ) (old : Host) (told told' : List Event)
    (notes notes' : List Note) (new new' : Host) : Type 0 where
  pub answer : PollIngressSingleResult
  pub one : Ingress t answer old told notes new
  pub other : Ingress t answer old told' notes' new'
  pub same_reception : one.reception ≡ other.reception
  pub same_reply : one.response.reply ≡ other.response.reply
  pub same_notes : one.response.notes_taking ≡ other.response.notes_taking
  pub room : OtherMadeRoom one.response.taken other.response.taken

-- a call that receives is determined by the host and by what the device delivers, except for that
abbrev pub IngressIsDetermined : Type 0
IngressIsDetermined =
    (t : ℤ) (answer answer' : PollIngressSingleResult) (old new new' : Host)
    (told told' : List Event) (notes notes' : List Note) →
    Ingress t answer old told notes new → Ingress t answer' old told' notes' new' → receptions told ≡ receptions told' →
    IsOneCall answer answer' told told' notes notes' new new' ⊎ IngressDiffers t old told told' notes notes' new new'

-- A poll

-- two polls that came from one host by the same calls, and whose next calls differ
pub record PollsDiffer (t : ℤ) (old : Host) (told told' : List Event) : Type 0 where
  pub calls : ℕ
  pub changed : Bool
  pub told_so : List Event
  pub notes_so : List Note
  pub mid : Host  -- to which both came
  pub so_far :
      Repeats (Ingress t) ingress.None may_change (after_maintenance (at old t)) calls told_so notes_so mid changed
  pub next : List Event
  pub next' : List Event
  pub notes_next : List Note
  pub notes_next' : List Note
  pub new : Host
  pub new' : Host
  pub differ : IngressDiffers t mid next next' notes_next notes_next' new new'
  pub more : List Event
  pub more' : List Event
  pub told_is : told ≡ told_so ++ (next ++ more)
  pub told_is' : told' ≡ told_so ++ (next' ++ more')

-- a poll is determined by the host and by what the device delivers and grants, except for that
abbrev pub PollIsDetermined : Type 0
PollIsDetermined =
    (t : ℤ) (budget : ℕ) (answer answer' : PollResult) (old new new' : Host)
    (told told' : List Event) (notes notes' : List Note) →
    Polls t budget answer old told notes new → Polls t budget answer' old told' notes' new' →
    receptions told ≡ receptions told' → grants told ≡ grants told' →
    IsOneCall answer answer' told told' notes notes' new new' ⊎ PollsDiffer t old told told'

-- A step

-- two steps of a command that differ in this way
pub data StepsDiffer (old new new' : Host) (told told' : List Event) (notes notes' : List Note) : Command → Type 0 where
  InIngress : {t : ℤ} → IngressDiffers t old told told' notes notes' new new' →
      StepsDiffer old new new' told told' notes notes' (PollIngressSingle t)
  InPoll : {t : ℤ} {budget : ℕ} → PollsDiffer t old told told' →
      StepsDiffer old new new' told told' notes notes' (Poll t budget)

-- a step is determined by the host, the command, what the device delivers and grants, and what the owner of the sockets
-- does, except for that
abbrev pub StepIsDetermined : Type 0
StepIsDetermined =
    (command : Command) (answer answer' : Answer) (old new new' : Host) (told told' : List Event)
    (acts acts' : List Act) (notes notes' : List Note) →
    Step command answer old told acts notes new → Step command answer' old told' acts' notes' new' →
    receptions told ≡ receptions told' → grants told ≡ grants told' → acts ≡ acts' →
    IsOneCall answer answer' told told' notes notes' new new' ⊎ StepsDiffer old new new' told told' notes notes' command

-- A run

-- the transitions of two runs that are equal up to one at which the steps differ
pub data TransitionsDiffer : List Transition → List Transition → Type 0 where
  Here : {p q : Transition} {ps qs : List Transition} → p.command ≡ q.command → p.before ≡ q.before →
      StepsDiffer p.before p.after q.after p.told q.told p.notes q.notes p.command → TransitionsDiffer (p ∷ ps) (q ∷ qs)
  Behind : {p q : Transition} {ps qs : List Transition} →
      p ≡ q → TransitionsDiffer ps qs → TransitionsDiffer (p ∷ ps) (q ∷ qs)

-- a run is determined by the host, the commands, all that the device delivers and grants, and all that the owner
-- does, except for that
abbrev pub RunIsDetermined : Type 0
RunIsDetermined =
    (first last last' : Host) (transitions transitions' : List Transition) →
    Run first transitions last → Run first transitions' last' →
    map (λ p. p.command) transitions ≡ map (λ p. p.command) transitions' →
    receptions (events_in transitions) ≡ receptions (events_in transitions') →
    grants (events_in transitions) ≡ grants (events_in transitions') → acts_in transitions ≡ acts_in transitions' →
    ((transitions ≡ transitions') × (last ≡ last')) ⊎ TransitionsDiffer transitions transitions'
