-- ARP (RFC 826), for IPv4 over Ethernet.
use Rattle.std.specs.Prelude.{◌≡◌, ℕ, ◌≤◌, ◌<◌, ◌^◌, ◌⊎◌, ◌==◌, List, [], ◌∷◌}
use Rattle.std.specs.Prelude.{◌++◌, length, take, slice_index, if◌then◌else◌}
use Rattle.std.specs.Int.{w16, w32, to_be_bytes}
use Rattle.ip_wire.specs.Octets.{u16_at, u32_at, AreOctets}
use Rattle.ip_wire.specs.Ethernet.{address_at}
use Rattle.ip_wire.specs.declared.arp.ArpOperation.{ArpOperation}
use Rattle.ip_wire.specs.declared.arp.ArpOperation.TheVariants.{Request, Reply}
use Rattle.ip_wire.specs.declared.arp.ArpRepr.{ArpRepr}

abbrev pub number_of : ArpOperation → ℕ
number_of Request = 1
number_of Reply = 2

-- the octets begin with a packet: hardware type 1 (Ethernet), protocol 0x0800 (IPv4), addresses of 6 and 4
-- octets, a request or a reply
pub record IsArp (octets : List ℕ) : Type 0 where
  pub whole : 28 ≤ length octets
  pub hardware : u16_at octets 0 ≡ 1
  pub protocol : u16_at octets 2 ≡ 0x0800
  pub hardware_len : slice_index octets 4 ≡ 6
  pub protocol_len : slice_index octets 5 ≡ 4
  pub operation : (u16_at octets 6 ≡ 1) ⊎ (u16_at octets 6 ≡ 2)

-- its values: operation, then hardware and protocol address of sender and of target
abbrev pub arp_in : List ℕ → ArpRepr
arp_in octets = record {
  operation = if u16_at octets 6 == 1 then Request else Reply;
  source_hardware_addr = address_at octets 8;
  source_protocol_addr = record { bits = u32_at octets 14 };
  target_hardware_addr = address_at octets 18;
  target_protocol_addr = record { bits = u32_at octets 24 };
}

unfoldable pub ipv4_over_ethernet : List ℕ
ipv4_over_ethernet = 0 ∷ 1 ∷ 8 ∷ 0 ∷ 6 ∷ 4 ∷ []

-- the text of a packet
abbrev pub text : ArpRepr → List ℕ
text r =
    ipv4_over_ethernet ++ to_be_bytes w16 (number_of r.operation)
    ++ r.source_hardware_addr.0 ++ to_be_bytes w32 r.source_protocol_addr.bits
    ++ r.target_hardware_addr.0 ++ to_be_bytes w32 r.target_protocol_addr.bits

-- values that a packet can have
pub record IsPacket (r : ArpRepr) : Type 0 where
  pub source_hardware : length r.source_hardware_addr.0 ≡ 6
  pub source_protocol : r.source_protocol_addr.bits < 2 ^ 32
  pub target_hardware : length r.target_hardware_addr.0 ≡ 6
  pub target_protocol : r.target_protocol_addr.bits < 2 ^ 32

-- a text is parsed back as its values, whatever follows it
abbrev pub ReadAgain : Type 0
ReadAgain = (r : ArpRepr) (more : List ℕ) → IsPacket r → IsArp (text r ++ more) × (arp_in (text r ++ more) ≡ r)

-- a packet is the text of its values
abbrev pub WrittenAgain : Type 0
WrittenAgain = (octets : List ℕ) → AreOctets octets → IsArp octets → text (arp_in octets) ≡ take 28 octets
