-- One poll: maintenance, then the calls that receive, then those that send, all at one moment, each kind until one has
-- nothing more to do or the budget is spent.
use Rattle.std.specs.Prelude.{◌≡◌, ◌≢◌, ℕ, ◌<◌, ◌+◌, ℤ, Bool, true, false, ◌||◌, List, [], ◌++◌}
use Rattle.net_base.specs.Device.{Event}
use Rattle.host_machine.specs.declared.results.PollIngressSingleResult.{PollIngressSingleResult}
use Rattle.host_machine.specs.declared.results.PollIngressSingleResult.TheVariants as ingress
use Rattle.host_machine.specs.declared.results.PollResult.{PollResult}
use Rattle.host_machine.specs.declared.results.PollResult.TheVariants as result
use Rattle.host_machine.specs.Context.Note.{Note}
use Rattle.host_machine.specs.Context.Host.{Host, at, without_expired}
use Rattle.host_machine.specs.Context.Autoconfiguration.{after_sync}
use Rattle.host_machine.specs.Interface.Parts.{Part}
use Rattle.host_machine.specs.Interface.Ingress.{Ingress}
use Rattle.host_machine.specs.Interface.Egress.{Egress, answer_of}

-- this many calls one after another, each of which had something to do, and whether some socket may have changed
pub data Repeats {A : Type 0} (call : A → Part) (nothing : A) (changes : A → Bool) (old : Host) :
    (n : ℕ) → List Event → List Note → Host → (changed : Bool) → Type 0 where
  Begins : Repeats call nothing changes old 0 [] [] old false
  Again : {n : ℕ} {told_so : List Event} {notes_so : List Note} {mid : Host} {changed : Bool}
      (answer : A) (told : List Event) (notes : List Note) (new : Host) →
      Repeats call nothing changes old n told_so notes_so mid changed →
      call answer mid told notes new → answer ≢ nothing →
      Repeats call nothing changes old (n + 1) (told_so ++ told) (notes_so ++ notes) new (changed || changes answer)

-- such calls until one has nothing to do, or the budget is spent
pub data Until {A : Type 0} (call : A → Part) (nothing : A) (changes : A → Bool)
    (budget : ℕ) (changed : Bool) (old : Host)
    (told : List Event) (notes : List Note) (new : Host) : Type 0 where
  Spent : Repeats call nothing changes old budget told notes new changed →
      Until call nothing changes budget changed old told notes new
  Done : (n : ℕ) (told_so told_last : List Event) (notes_so notes_last : List Note) (mid : Host) → n < budget →
      Repeats call nothing changes old n told_so notes_so mid changed → call nothing mid told_last notes_last new →
      told ≡ told_so ++ told_last → notes ≡ notes_so ++ notes_last →
      Until call nothing changes budget changed old told notes new

abbrev pub may_change : PollIngressSingleResult → Bool
may_change ingress.None = false
may_change ingress.PacketProcessed = false
may_change ingress.SocketStateChanged = true

abbrev pub is_changed : PollResult → Bool
is_changed result.None = false
is_changed result.SocketStateChanged = true

-- the host after maintenance: expired slots are dropped, and addresses and routes are in sync with what
-- was learnt from routers
abbrev pub after_maintenance : Host → Host
after_maintenance H = after_sync (without_expired H H.moment)

-- the calls that receive
abbrev pub Receives : ℤ → ℕ → Bool → Part
Receives t budget = Until (Ingress t) ingress.None may_change budget

-- the calls that send
abbrev pub Sends : ℤ → ℕ → Bool → Part
Sends t budget = Until (Egress t) result.None is_changed budget

pub record Polls (t : ℤ) (budget : ℕ) (answer : PollResult) (old : Host) (told : List Event)
    (notes : List Note) (new : Host) : Type 0 where
  pub mid : Host  -- after the frames were received
  pub received : Bool
  pub went : Bool
  pub told_receiving : List Event
  pub told_sending : List Event
  pub notes_receiving : List Note
  pub notes_sending : List Note
  pub receives : Receives t budget received (after_maintenance (at old t)) told_receiving notes_receiving mid
  pub sends : Sends t budget went mid told_sending notes_sending new
  pub events : told ≡ told_receiving ++ told_sending
  pub all_notes : notes ≡ notes_receiving ++ notes_sending
  pub answers : answer ≡ answer_of (received || went)
