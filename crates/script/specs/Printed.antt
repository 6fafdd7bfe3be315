-- What is printed for an answer and for a frame.
use Rattle.std.specs.Prelude.{ℕ, ℤ, codes, List, [], ◌∷◌, ◌++◌, Option, Some, None, Result, Ok, Err}
use Rattle.std.specs.Fmt.{signed_decimal}
use Rattle.hex.specs.Hex.{encode_lower}
use Rattle.net_base.specs.declared.memory_device.PushError.{PushError}
use Rattle.net_base.specs.declared.memory_device.PushError.TheVariants.{TooLong, NoMemory}
use Rattle.host_machine.specs.declared.results.HardwareError.{HardwareError}
use Rattle.host_machine.specs.declared.results.HardwareError.TheVariants.{WrongMedium, NotUnicast}
use Rattle.host_machine.specs.declared.results.MulticastError.{MulticastError}
use Rattle.host_machine.specs.declared.results.MulticastError.TheVariants.{GroupTableFull, Unaddressable}
use Rattle.host_machine.specs.declared.results.PollResult.{PollResult}
use Rattle.host_machine.specs.declared.results.PollResult.TheVariants as poll
use Rattle.host_machine.specs.declared.results.PollIngressSingleResult.{PollIngressSingleResult}
use Rattle.host_machine.specs.declared.results.PollIngressSingleResult.TheVariants as ingress
use Rattle.host_machine.specs.declared.command.Answer.{Answer}
use Rattle.host_machine.specs.declared.command.Answer.TheVariants as answer

abbrev pub ingress_text : PollIngressSingleResult → List ℕ
ingress_text ingress.None = codes "None"
ingress_text ingress.PacketProcessed = codes "PacketProcessed"
ingress_text ingress.SocketStateChanged = codes "SocketStateChanged"

abbrev pub poll_text : PollResult → List ℕ
poll_text poll.None = codes "None"
poll_text poll.SocketStateChanged = codes "SocketStateChanged"

abbrev pub hardware_text : HardwareError → List ℕ
hardware_text WrongMedium = codes "WrongMedium"
hardware_text NotUnicast = codes "NotUnicast"

abbrev pub multicast_text : MulticastError → List ℕ
multicast_text GroupTableFull = codes "GroupTableFull"
multicast_text Unaddressable = codes "Unaddressable"

-- the instant of the next poll, in microseconds
abbrev pub next_text : Option ℤ → List ℕ
next_text (Some instant) = codes "at " ++ signed_decimal instant
next_text None = codes "at none"

-- a result or an error by its name, the instant of the next poll, `ok` for the rest
abbrev pub text_of : Answer → List ℕ
text_of (answer.UpdateIpAddrs (Err e)) = codes "NotUnicast"
text_of (answer.PollIngressSingle result) = ingress_text result
text_of (answer.PollEgress result) = poll_text result
text_of (answer.Poll result) = poll_text result
text_of (answer.PollAt next) = next_text next
text_of (answer.AddDefaultIpv4Route (Err e)) = codes "RouteTableFull"
text_of (answer.AddDefaultIpv6Route (Err e)) = codes "RouteTableFull"
text_of (answer.JoinMulticastGroup (Err e)) = multicast_text e
text_of (answer.LeaveMulticastGroup (Err e)) = multicast_text e
text_of (answer.SetHardwareAddr (Err e)) = hardware_text e
text_of (answer.SetReassemblyTimeout (Err e)) = codes "TimeoutTooLong"
text_of other = codes "ok"

-- a frame that arrived or was too long; nothing if memory was refused
abbrev pub push_text : Result (Unit {0}) PushError → Option (List ℕ)
push_text (Ok done) = Some (codes "ok")
push_text (Err TooLong) = Some (codes "TooLong")
push_text (Err NoMemory) = None

-- a text, and a line feed
abbrev pub text_line : List ℕ → List ℕ
text_line text = text ++ 10 ∷ []

-- `tx` and the octets in hex
abbrev pub frame_line : List ℕ → List ℕ
frame_line frame = codes "tx " ++ encode_lower frame ++ 10 ∷ []
