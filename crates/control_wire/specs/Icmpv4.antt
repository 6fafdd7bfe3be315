-- ICMP for IPv4 (RFC 792): echo messages, and errors with their quotations.
use Rattle.std.specs.Prelude.{◌≡◌, ℕ, ◌+◌, ◌<◌, ◌≤◌, ◌^◌, ◌==◌, Bool, IsTrue}
use Rattle.std.specs.Prelude.{List, [], ◌∷◌, ◌++◌, length, drop, slice_index, if◌then◌else◌}
use Rattle.std.specs.Borrow.{Bor}
use Rattle.std.specs.Int.{w16, to_be_bytes}
use Rattle.ip_wire.specs.Checksum.{folded_sum, word_sum, checksum_of}
use Rattle.ip_wire.specs.Octets.{u16_at}
use Rattle.ip_wire.specs.Ipv4Packet.{IsQuoted, quoted_in, header_text, whole, IsHeader}
use Rattle.control_wire.specs.declared.icmpv4.Icmpv4DstUnreachable.{Icmpv4DstUnreachable}
use Rattle.control_wire.specs.declared.icmpv4.Icmpv4DstUnreachable.TheVariants.{ProtoUnreachable}
use Rattle.control_wire.specs.declared.icmpv4.Icmpv4DstUnreachable.TheVariants.{PortUnreachable, Unknown}
use Rattle.control_wire.specs.declared.icmpv4.Icmpv4Repr.{Icmpv4Repr}
use Rattle.control_wire.specs.declared.icmpv4.Icmpv4Repr.TheVariants.{EchoRequest, EchoReply}
use Rattle.control_wire.specs.declared.icmpv4.Icmpv4Repr.TheVariants.{DstUnreachable, TimeExceeded}

-- the reasons by their codes
abbrev pub code_of : Icmpv4DstUnreachable → ℕ
code_of ProtoUnreachable = 2
code_of PortUnreachable = 3
code_of (Unknown n) = n

abbrev pub reason_of : ℕ → Icmpv4DstUnreachable
reason_of n = if n == 2 then ProtoUnreachable else if n == 3 then PortUnreachable else Unknown n

-- reasons are equal if their codes are
abbrev pub is_same : Icmpv4DstUnreachable → Icmpv4DstUnreachable → Bool
is_same p q = code_of p == code_of q

abbrev pub type_in : List ℕ → ℕ
type_in octets = slice_index octets 0

abbrev pub code_in : List ℕ → ℕ
code_in octets = slice_index octets 1

-- by the type: an echo message has code 0, an error quotes an IPv4 header after its eight octets
pub data IsBody (octets : List ℕ) : Type 0 where
  Request : type_in octets ≡ 8 → code_in octets ≡ 0 → IsBody octets
  Reply : type_in octets ≡ 0 → code_in octets ≡ 0 → IsBody octets
  Unreachable : type_in octets ≡ 3 → IsQuoted (drop 8 octets) → IsBody octets
  Exceeded : type_in octets ≡ 11 → IsQuoted (drop 8 octets) → IsBody octets

-- the octets are a message; its checksum is right if the sum of all of them is all ones
pub record IsIcmpv4 (checked : Bool) (octets : List ℕ) : Type 0 where
  pub whole_header : 8 ≤ length octets
  pub sum : IsTrue checked → folded_sum (word_sum octets) ≡ 65535
  pub body : IsBody octets

-- its values and its data
abbrev pub icmpv4_in : List ℕ → Icmpv4Repr × List ℕ
icmpv4_in octets =
    if type_in octets == 8 then (EchoRequest (u16_at octets 4) (u16_at octets 6), drop 8 octets) else
    if type_in octets == 0 then (EchoReply (u16_at octets 4) (u16_at octets 6), drop 8 octets) else
    if type_in octets == 3
    then (DstUnreachable (reason_of (code_in octets)) (quoted_in (drop 8 octets)).0, (quoted_in (drop 8 octets)).1) else
    (TimeExceeded (code_in octets) (quoted_in (drop 8 octets)).0, (quoted_in (drop 8 octets)).1)

-- values and data, apart from where that is in memory
abbrev pub parts : Icmpv4Repr × Bor (List ℕ) → Icmpv4Repr × List ℕ
parts p = (p.0, p.1.now)

-- the length of a message without its data
abbrev pub header_len : Icmpv4Repr → ℕ
header_len (EchoRequest ident seq_no) = 8
header_len (EchoReply ident seq_no) = 8
header_len (DstUnreachable reason header) = 28
header_len (TimeExceeded code header) = 28

-- the type and the code of a message
abbrev pub type_of : Icmpv4Repr → ℕ
type_of (EchoRequest ident seq_no) = 8
type_of (EchoReply ident seq_no) = 0
type_of (DstUnreachable reason header) = 3
type_of (TimeExceeded code header) = 11

abbrev pub message_code : Icmpv4Repr → ℕ
message_code (EchoRequest ident seq_no) = 0
message_code (EchoReply ident seq_no) = 0
message_code (DstUnreachable reason header) = code_of reason
message_code (TimeExceeded code header) = code

-- what follows the checksum: an identifier and a sequence number, or four zeros
abbrev pub rest_of : Icmpv4Repr → List ℕ
rest_of (EchoRequest ident seq_no) = to_be_bytes w16 ident ++ to_be_bytes w16 seq_no
rest_of (EchoReply ident seq_no) = to_be_bytes w16 ident ++ to_be_bytes w16 seq_no
rest_of (DstUnreachable reason header) = 0 ∷ 0 ∷ 0 ∷ 0 ∷ []
rest_of (TimeExceeded code header) = 0 ∷ 0 ∷ 0 ∷ 0 ∷ []

-- the first eight octets, with a checksum
unfoldable pub head_with : ℕ → Icmpv4Repr → List ℕ
head_with sum r = type_of r ∷ message_code r ∷ (to_be_bytes w16 sum ++ rest_of r)

-- a quoted header is written anew from its values, as that of a whole packet, with its checksum or with 0 in its place
abbrev pub quoted_text : Bool → Icmpv4Repr → List ℕ
quoted_text quoted_summed (EchoRequest ident seq_no) = []
quoted_text quoted_summed (EchoReply ident seq_no) = []
quoted_text quoted_summed (DstUnreachable reason header) = header_text quoted_summed header whole
quoted_text quoted_summed (TimeExceeded code header) = header_text quoted_summed header whole

-- its checksum, or 0 if that is off: that of the message with 0 in its place
abbrev pub sum_of : Bool → Bool → Icmpv4Repr → List ℕ → ℕ
sum_of summed quoted_summed r octets =
    if summed then checksum_of (head_with 0 r ++ quoted_text quoted_summed r ++ octets) else 0

-- the text of a message with its data
abbrev pub text : Bool → Bool → Icmpv4Repr → List ℕ → List ℕ
text summed quoted_summed r octets =
    head_with (sum_of summed quoted_summed r octets) r ++ quoted_text quoted_summed r ++ octets

-- a quoted header is that of a packet of at most 65,535 octets
abbrev pub QuotesPacket : Icmpv4Repr → Type 0
QuotesPacket (EchoRequest ident seq_no) = Unit {0}
QuotesPacket (EchoReply ident seq_no) = Unit {0}
QuotesPacket (DstUnreachable reason header) = 20 + header.payload_len < 2 ^ 16
QuotesPacket (TimeExceeded code header) = 20 + header.payload_len < 2 ^ 16

-- values that a message can have
abbrev pub IsMessage : Icmpv4Repr → Type 0
IsMessage (EchoRequest ident seq_no) = (ident < 2 ^ 16) × (seq_no < 2 ^ 16)
IsMessage (EchoReply ident seq_no) = (ident < 2 ^ 16) × (seq_no < 2 ^ 16)
IsMessage (DstUnreachable reason header) = (reason_of (code_of reason) ≡ reason) × IsHeader header whole
IsMessage (TimeExceeded code header) = IsHeader header whole

-- a text is parsed back as its values and its data, if its checksum is there or isn't verified; that of a quoted
-- header is never verified
abbrev pub ReadAgain : Type 0
ReadAgain = (checked summed quoted_summed : Bool) (r : Icmpv4Repr) (octets : List ℕ) →
    IsMessage r → (IsTrue checked → IsTrue summed)
    → IsIcmpv4 checked (text summed quoted_summed r octets)
    × (icmpv4_in (text summed quoted_summed r octets) ≡ (r, octets))

-- an echo request whose checksum is right
pub record IsEchoRequest (octets : List ℕ) : Type 0 where
  pub whole_header : 8 ≤ length octets
  pub type : type_in octets ≡ 8
  pub code : code_in octets ≡ 0
  pub sum : folded_sum (word_sum octets) ≡ 65535

-- the reply to it has its identifier, its sequence number and its data
abbrev pub echo_reply_to : List ℕ → Icmpv4Repr
echo_reply_to octets = EchoReply (u16_at octets 4) (u16_at octets 6)
