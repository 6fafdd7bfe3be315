-- No frame is longer than the device allows, whatever is called (RFC 894, RFC 791 3.2, RFC 8200 5).
use Rattle.std.specs.Prelude.{◌+◌, ◌≤◌, List, length}
use Rattle.std.specs.List.{AllByRecursion}
use Rattle.net_base.specs.declared.phy.DeviceCapabilities.{DeviceCapabilities}
use Rattle.net_base.specs.Checksum.{ip_mtu_of}
use Rattle.net_base.specs.Device.{sent_frames}
use Rattle.fragmentation.specs.Cuts.{Piece}
use Rattle.host_machine.specs.Context.Host.{Host}
use Rattle.host_machine.specs.Interface.Run.{Transition, Run, events_in}
use Rattle.host_machine.specs.Context.Real.{IsRegular}

-- a fragment, with its header of 20 octets, fits the device's IP packets
abbrev pub Fits : DeviceCapabilities → Piece → Type 0
Fits c p = 20 + length p.fragment.octets ≤ ip_mtu_of c

-- the pending fragments of a host do, as where there is none
abbrev pub PiecesFit : Host → Type 0
PiecesFit H = AllByRecursion (Fits H.capabilities) H.left

-- each frame that was sent has at most the octets that the device of the first host allows
abbrev pub FramesFit : Host → List Transition → Type 0
FramesFit first transitions =
    AllByRecursion (λ frame. length frame ≤ first.capabilities.max_transmission_unit) (sent_frames (events_in transitions))

-- so it is in each run from a regular host whose pending fragments fit; and they do after it
abbrev pub FramesOfRunsFit : Type 0
FramesOfRunsFit = (first last : Host) (transitions : List Transition) →
    Run first transitions last → IsRegular first → PiecesFit first → FramesFit first transitions × PiecesFit last
