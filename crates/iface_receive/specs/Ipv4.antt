-- The datagram that an IPv4 packet brings or completes (RFC 791 3.2), by the slots that the assemblers stand for.
use Rattle.std.specs.Prelude.{◌≡◌, ℕ, ℤ, pos, ◌+ℤ◌, true, false, List, Option, Some, option_map}
use Rattle.std.specs.Borrow.{Bor, MutBor, Fml}
use Rattle.std.specs.Io.BufRead.{Rests}
use Rattle.ip_wire.specs.declared.ipv4_packet.Ipv4Repr.{Ipv4Repr}
use Rattle.ip_wire.specs.declared.ipv4_packet.Ipv4Fragment.{Ipv4Fragment}
use Rattle.ip_wire.specs.Ipv4Packet.{is_fragment}
use Rattle.fragmentation.specs.declared.key.FragKey.{FragKey}
use Rattle.fragmentation.specs.contracts.key.FragKey as key
use Rattle.fragmentation.specs.contracts.reassembly.PacketAssemblerSet as set
use Rattle.fragmentation.specs.Slots.{Slots}
use Rattle.fragmentation.specs.Assembly.{Assembly}
use Rattle.fragmentation.specs.Stands.{StandForSlots}
use Rattle.fragmentation.specs.Details.Reassembled.{Reassembled}
use Rattle.host_machine.specs.Receive.Ipv4.{key_in, fragment_in}
use Rattle.iface_context.specs.declared.context.Context.{Context}

-- the expiry of a slot that is taken now
abbrev pub end_of_slots : Context → ℤ
end_of_slots c = c.moment +ℤ pos c.reassembly_timeout

-- the payload of a whole packet is its own, and no assembler changes; a fragment is added to those received before
pub data Datagram (ends : ℤ) (r : Ipv4Repr) (f : Ipv4Fragment) (payload : List ℕ) (result : Option (List ℕ))
    (old new : List (Assembly FragKey)) : Type 0 where
  Own : is_fragment f ≡ false → result ≡ Some payload → new ≡ old → Datagram ends r f payload result old new
  Together : is_fragment f ≡ true → ((slots : Slots) →
      StandForSlots old slots → Reassembled ends (key_in r f) (fragment_in f payload) result slots new) →
      Datagram ends r f payload result old new

-- that, once the borrow of the octets has ended
abbrev pub RestsDatagram : MutBor (List (Assembly FragKey)) → ℤ → Ipv4Repr → Ipv4Fragment →
    List ℕ → Option (Bor (List ℕ)) → Fml
RestsDatagram s ends r f payload result = Rests (set.the_row key.the_row) s
    (λ places. Datagram ends r f payload (option_map (λ b. b.now) result) s.now places)
