-- A packet is read as it was written, and written as it was read.
use Rattle.std.proofs.Common.{◌≡◌, ℕ, ◌+◌, ◌*◌, ◌/◌, ◌%◌, ◌<◌, ◌^◌, ◌⊎◌, inl, inr, ◌==◌, if◌then◌else◌}
use Rattle.std.proofs.Common.{List, [], ◌∷◌, ◌++◌, length, get_or, take, drop, refl, sym, ap, ◌∙◌, arith}
use Rattle.std.specs.Int.{w16, w32, to_be_bytes}
use Rattle.std.proofs.Math.Seq.{take-add}
use Rattle.ip_wire.specs.Octets.{u16_at}
use Rattle.ip_wire.specs.declared.arp.ArpOperation.{ArpOperation}
use Rattle.ip_wire.specs.declared.arp.ArpOperation.TheVariants.{Request, Reply}
use Rattle.ip_wire.specs.declared.arp.ArpRepr.{ArpRepr}
use Rattle.ip_wire.specs.Arp.{number_of, IsArp, arp_in, ipv4_over_ethernet, ReadAgain, WrittenAgain}
use Rattle.ip_address.proofs.SixOctets.{Six, six}
use Rattle.ip_wire.proofs.OctetCells.{cells, take-cells, two_octets, four_octets}

number : (n : ℕ) → n < 2 ^ 32 → n / 16777216 % 256 * 16777216 + n / 65536 % 256 * 65536 + n / 256 % 256 * 256 + n % 256 ≡ n
number n lt = omega arith

made : (o : ArpOperation) (sh th : List ℕ) (s t sp tp : ℕ) → s ≡ sp → t ≡ tp
    → ◌≡◌ {A = ArpRepr}
    (record {
      operation = o;
      source_hardware_addr = record { 0 = sh };
      source_protocol_addr = record { bits = s };
      target_hardware_addr = record { 0 = th };
      target_protocol_addr = record { bits = t };
    })
    (record {
      operation = o;
      source_hardware_addr = record { 0 = sh };
      source_protocol_addr = record { bits = sp };
      target_hardware_addr = record { 0 = th };
      target_protocol_addr = record { bits = tp };
    })
made o sh th s t sp tp e f = rw (e, f) refl

packet_again : (o : ArpOperation) (sh th more : List ℕ) (sp tp : ℕ) → Six sh → Six th → sp < 2 ^ 32 → tp < 2 ^ 32
    → let octets = ipv4_over_ethernet ++ to_be_bytes w16 (number_of o) ++ sh ++ to_be_bytes w32 sp ++ th ++ to_be_bytes w32 tp ++ more in
    IsArp octets × (arp_in octets ≡ record {
      operation = o;
      source_hardware_addr = record { 0 = sh };
      source_protocol_addr = record { bits = sp };
      target_hardware_addr = record { 0 = th };
      target_protocol_addr = record { bits = tp };
    })
unfolding ipv4_over_ethernet
packet_again Request sh th more sp tp s6 t6 ls lt = rw (s6.is, t6.is) (
  record { whole = omega arith; hardware = refl; protocol = refl; hardware_len = refl; protocol_len = refl; operation = inl refl },
  made Request _ _ _ _ sp tp (number sp ls) (number tp lt),
)
packet_again Reply sh th more sp tp s6 t6 ls lt = rw (s6.is, t6.is) (
  record { whole = omega arith; hardware = refl; protocol = refl; hardware_len = refl; protocol_len = refl; operation = inr refl },
  made Reply _ _ _ _ sp tp (number sp ls) (number tp lt),
)

pub read_again : ReadAgain
read_again r more h =
    packet_again r.operation r.source_hardware_addr.0 r.target_hardware_addr.0 more r.source_protocol_addr.bits r.target_protocol_addr.bits
    (six r.source_hardware_addr.0 h.source_hardware) (six r.target_hardware_addr.0 h.target_hardware) h.source_protocol h.target_protocol

-- the fixed octets
fixed : (a b c d e f : ℕ) → b < 256 → d < 256 → a * 256 + b ≡ 1 → c * 256 + d ≡ 0x0800 → e ≡ 6 → f ≡ 4 →
    ipv4_over_ethernet ≡ a ∷ b ∷ c ∷ d ∷ e ∷ f ∷ []
unfolding ipv4_over_ethernet
fixed a b c d e f lb ld hardware protocol ee ef =
    let ea : a ≡ 0 = omega arith in
    let eb : b ≡ 1 = omega arith in
    let ec : c ≡ 8 = omega arith in
    let ed : d ≡ 0 = omega arith in
    rw (ea, eb, ec, ed, ee, ef) refl

operation_number : (n : ℕ) → (n ≡ 1) ⊎ (n ≡ 2) → number_of (if n == 1 then Request else Reply) ≡ n
operation_number n (inl e) = rw e refl
operation_number n (inr e) = rw e refl

joined : (a b c d e f a' b' d' f' : List ℕ) → a ≡ a' → b ≡ b' → d ≡ d' → f ≡ f' → a ++ b ++ c ++ d ++ e ++ f ≡ a' ++ b' ++ c ++ d' ++ e ++ f'
joined a b c d e f a' b' d' f' ea eb ed ef = rw (ea, eb, ed, ef) refl

pub written_again : WrittenAgain
unfolding cells
written_again octets fits h =
    let front : ipv4_over_ethernet ≡ take 6 octets = fixed _ _ _ _ _ _ (fits 1) (fits 3) h.hardware h.protocol h.hardware_len h.protocol_len
    ∙ sym (take-cells 6 0 octets (omega arith)) in
    let operation : to_be_bytes w16 (number_of (if u16_at octets 6 == 1 then Request else Reply)) ≡ take 2 (drop 6 octets) =
    ap (to_be_bytes w16) (operation_number (u16_at octets 6) h.operation) ∙ two_octets _ _ (fits 6) (fits 7)
    ∙ sym (take-cells 2 6 octets (omega arith)) in
    let source : to_be_bytes w32 (arp_in octets).source_protocol_addr.bits ≡ take 4 (drop 14 octets) =
    four_octets _ _ _ _ (fits 14) (fits 15) (fits 16) (fits 17) ∙ sym (take-cells 4 14 octets (omega arith)) in
    let target : to_be_bytes w32 (arp_in octets).target_protocol_addr.bits ≡ take 4 (drop 24 octets) =
    four_octets _ _ _ _ (fits 24) (fits 25) (fits 26) (fits 27) ∙ sym (take-cells 4 24 octets (omega arith)) in
    rw (take-add 24 4 octets, take-add 18 6 octets, take-add 14 4 octets, take-add 8 6 octets, take-add 6 2 octets)
    (joined _ _ _ _ _ _ _ _ _ _ front operation source target)

-- the text, octet by octet
pub packet_cells : (o s p t q : List ℕ) (operation source target : ℕ) →
    length s ≡ 6 → length t ≡ 6 → o ≡ to_be_bytes w16 operation → p ≡ to_be_bytes w32 source → q ≡ to_be_bytes w32 target
    → 0 ∷ 1 ∷ 8 ∷ 0 ∷ 6 ∷ 4 ∷ get_or o 0 0 ∷ get_or o 1 0
    ∷ get_or s 0 0 ∷ get_or s 1 0 ∷ get_or s 2 0 ∷ get_or s 3 0 ∷ get_or s 4 0 ∷ get_or s 5 0
    ∷ get_or p 0 0 ∷ get_or p 1 0 ∷ get_or p 2 0 ∷ get_or p 3 0
    ∷ get_or t 0 0 ∷ get_or t 1 0 ∷ get_or t 2 0 ∷ get_or t 3 0 ∷ get_or t 4 0 ∷ get_or t 5 0
    ∷ get_or q 0 0 ∷ get_or q 1 0 ∷ get_or q 2 0 ∷ get_or q 3 0 ∷ []
    ≡ ipv4_over_ethernet ++ to_be_bytes w16 operation ++ s ++ to_be_bytes w32 source ++ t ++ to_be_bytes w32 target
unfolding ipv4_over_ethernet
packet_cells o s p t q operation source target ls lt eo ep eq = let s6 = six s ls in let t6 = six t lt in rw (eo, ep, eq, s6.is, t6.is) refl
