-- A rule that processes something and says which reply follows, and then the rule by which that is sent.
use Rattle.std.specs.Prelude.{◌≡◌, ℕ, List, [], ◌∷◌, ◌++◌, Option, Some, None}
use Rattle.host_machine.specs.Context.Note.{Note}
use Rattle.host_machine.specs.Context.Host.{Host}
use Rattle.host_machine.specs.Receive.Reply.{Reply, Arp, Ip}
use Rattle.host_machine.specs.Packet.Frame.{arp_frame}
use Rattle.host_machine.specs.Send.Outcome.{Outcome}
use Rattle.host_machine.specs.Send.Dispatch.{Dispatches}

-- how a reply is sent: an ARP reply directly to the hardware address that asked; a packet is
-- dispatched, whatever the outcome
abbrev pub Responds : Option Reply → Host → List (List ℕ) → List Note → Host → Type 0
Responds None H frames notes new = (frames ≡ []) × (notes ≡ []) × (new ≡ H)
Responds (Some (Arp packet)) H frames notes new = (frames ≡ arp_frame packet ∷ []) × (notes ≡ []) × (new ≡ H)
Responds (Some (Ip packet)) H frames notes new = (outcome : Outcome) × Dispatches packet outcome H frames notes new

-- a rule is applied, and its reply is sent
pub record Response (Takes : Host → Option Reply → List Note → Host → Type 0) (H : Host)
    (frames : List (List ℕ)) (notes : List Note)
    (new : Host) : Type 0 where
  pub reply : Option Reply
  pub taken : Host  -- after the rule, before the reply is sent
  pub notes_taking : List Note
  pub notes_responding : List Note
  pub takes : Takes H reply notes_taking taken
  pub responds : Responds reply taken frames notes_responding new
  pub all_notes : notes ≡ notes_taking ++ notes_responding
