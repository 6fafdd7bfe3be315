-- What a connection sends, as code has it: pieces without their octets.
use Rattle.std.specs.Prelude.{◌≡◌, ℕ, List, Option, Some, None}
use Rattle.tcp_machine.specs.declared.sack.SackBlock.{SackBlock}
use Rattle.tcp_machine.specs.Connection.{Connection}
use Rattle.tcp_machine.specs.Outgoing as machine
use Rattle.tcp_machine.specs.Outgoing.{Outgoing, action, after_action, segment_for, octets_from}
use Rattle.tcp_connection.specs.Blocks.{places_of}
use Rattle.tcp_connection.specs.Pieces.{part_of}
use Rattle.tcp_connection.specs.declared.outgoing.Action.{Action}
use Rattle.tcp_connection.specs.declared.outgoing.Action.TheVariants.{SendReset, SendSyn, SendNext, SendAgain, SendProbe, SendKeepAlive, SendAck}
use Rattle.tcp_connection.specs.declared.outgoing.Header.{Header}

abbrev pub action_of : machine.Action → Action
action_of (machine.SendReset number) = SendReset number
action_of machine.SendSyn = SendSyn
action_of (machine.SendNext p) = SendNext (part_of p)
action_of (machine.SendAgain p) = SendAgain (part_of p)
action_of (machine.SendProbe p) = SendProbe (part_of p)
action_of machine.SendKeepAlive = SendKeepAlive
action_of machine.SendAck = SendAck

-- a segment without its octets
abbrev pub header_of : Outgoing → Header
header_of s = record { number = s.number; ack = s.ack; window = s.window; syn = s.syn; fin = s.fin; rst = s.rst }

-- the header of what is sent
abbrev pub IsHeader : Action → Connection → Header → Type 0
IsHeader a c h = (m : machine.Action) → action_of m ≡ a → h ≡ header_of (segment_for m c)

-- its blocks
abbrev pub AreBlocks : Action → Connection → List (Option SackBlock) → Type 0
AreBlocks a c blocks = (m : machine.Action) → action_of m ≡ a → blocks ≡ places_of (segment_for m c).blocks

-- the octets of what is sent at an instant
abbrev pub AreOctets : Action → Connection → List ℕ → Type 0
AreOctets a c octets = (now : ℕ) (m : machine.Action) → action now c ≡ Some m → action_of m ≡ a → octets ≡ (segment_for m c).octets

-- after what is to be sent was sent
abbrev pub after_all_of : ℕ → Option machine.Action → Connection → Connection
after_all_of now None c = c
after_all_of now (Some m) c = after_action now m c

abbrev pub after_sending : ℕ → Connection → Connection
after_sending now c = after_all_of now (action now c) c
