-- A call that gets a frame from its user, and returns the frame to send.
use Rattle.std.specs.Prelude.{ℕ, ℤ, List, [], ◌∷◌, Option, Some, None}
use Rattle.net_base.specs.Device.{Received, Frame}
use Rattle.host_machine.specs.Context.Note.{Note}
use Rattle.host_machine.specs.Context.Host.{Host}
use Rattle.host_machine.specs.Packet.Frame.{sends}
use Rattle.host_machine.specs.Interface.Ingress.{Ingress, answer_to}

-- the returned frame, if there is one
abbrev pub frames_shown : Option (List ℕ) → List (List ℕ)
frames_shown None = []
frames_shown (Some frame) = frame ∷ []

-- one ingress step, in which just this frame is received, and just the returned one sent
pub record RefinementReceiving (t : ℤ) (frame : List ℕ) (shown : Option (List ℕ)) (H : Host)
    (after : Host → Type 0) : Type 0 where
  pub notes : List Note
  pub host : Host
  pub steps : Ingress t (answer_to (Frame frame)) H (Received t (Frame frame) ∷ sends (frames_shown shown)) notes host
  pub stands : after host

-- from each host before, such a step leads to a host afterwards
abbrev pub HostRefinesReceiving : ℤ → List ℕ → Option (List ℕ) → (Host → Type 0) → (Host → Type 0) → Type 0
HostRefinesReceiving t frame shown before after = (H : Host) → before H → RefinementReceiving t frame shown H after
