-- ICMPv6 (RFC 4443): echo messages, errors with their quotations, and the messages of neighbour discovery,
-- router discovery and MLD.
use Rattle.std.specs.Prelude.{◌≡◌, ℕ, ◌+◌, ◌<◌, ◌≤◌, ◌^◌, ◌==◌, Bool, IsTrue}
use Rattle.std.specs.Prelude.{List, [], ◌∷◌, ◌++◌, length, drop, slice_index, if◌then◌else◌}
use Rattle.std.specs.Borrow.{Bor}
use Rattle.std.specs.Int.{w16, w32, to_be_bytes}
use Rattle.ip_wire.specs.Checksum.{folded_sum, word_sum, checksum_of}
use Rattle.ip_wire.specs.Octets.{u16_at, u32_at}
use Rattle.ip_wire.specs.Pseudo.{pseudo}
use Rattle.ip_address.specs.declared.ip.IpAddress.{IpAddress}
use Rattle.ip_wire.specs.Ipv6Packet.{IsQuoted, quoted_in, header_text, address_text, IsHeader}
use Rattle.control_wire.specs.Ndisc.{IsNdisc, IsNeighbor, ndisc_in, flag_octet, target_of, option_text, message_len}
use Rattle.control_wire.specs.Ndisc as ndisc
use Rattle.control_wire.specs.Router.{IsRouter, router_in}
use Rattle.control_wire.specs.Router as router
use Rattle.control_wire.specs.Mld.{IsMld, mld_in}
use Rattle.control_wire.specs.Mld as mld
use Rattle.control_wire.specs.declared.icmpv6.Icmpv6DstUnreachable.{Icmpv6DstUnreachable}
use Rattle.control_wire.specs.declared.icmpv6.Icmpv6DstUnreachable.TheVariants.{PortUnreachable, Unknown as OtherReason}
use Rattle.control_wire.specs.declared.icmpv6.Icmpv6ParamProblem.{Icmpv6ParamProblem}
use Rattle.control_wire.specs.declared.icmpv6.Icmpv6ParamProblem.TheVariants.{UnrecognizedNxtHdr, UnrecognizedOption}
use Rattle.control_wire.specs.declared.icmpv6.Icmpv6ParamProblem.TheVariants.{Unknown as OtherProblem}
use Rattle.control_wire.specs.declared.icmpv6.Icmpv6Repr.{Icmpv6Repr}
use Rattle.control_wire.specs.declared.icmpv6.Icmpv6Repr.TheVariants.{EchoRequest, EchoReply, DstUnreachable, PktTooBig}
use Rattle.control_wire.specs.declared.icmpv6.Icmpv6Repr.TheVariants.{TimeExceeded, ParamProblem, Ndisc, Router, Mld}

-- the reasons by their codes (RFC 4443 3.1)
abbrev pub unreachable_code : Icmpv6DstUnreachable → ℕ
unreachable_code PortUnreachable = 4
unreachable_code (OtherReason n) = n

abbrev pub unreachable_of : ℕ → Icmpv6DstUnreachable
unreachable_of n = if n == 4 then PortUnreachable else OtherReason n

-- reasons are equal if their codes are
abbrev pub is_same_unreachable : Icmpv6DstUnreachable → Icmpv6DstUnreachable → Bool
is_same_unreachable p q = unreachable_code p == unreachable_code q

-- the problems by their codes (RFC 4443 3.4)
abbrev pub problem_code : Icmpv6ParamProblem → ℕ
problem_code UnrecognizedNxtHdr = 1
problem_code UnrecognizedOption = 2
problem_code (OtherProblem n) = n

abbrev pub problem_of : ℕ → Icmpv6ParamProblem
problem_of n = if n == 1 then UnrecognizedNxtHdr else if n == 2 then UnrecognizedOption else OtherProblem n

-- problems are equal if their codes are
abbrev pub is_same_problem : Icmpv6ParamProblem → Icmpv6ParamProblem → Bool
is_same_problem p q = problem_code p == problem_code q

abbrev pub type_in : List ℕ → ℕ
type_in octets = slice_index octets 0

abbrev pub code_in : List ℕ → ℕ
code_in octets = slice_index octets 1

-- an error (types 1 to 4) quotes an IPv6 header after its eight octets
pub record IsError (octets : List ℕ) : Type 0 where
  pub least : 1 ≤ type_in octets
  pub most : type_in octets ≤ 4
  pub quoted : IsQuoted (drop 8 octets)

-- by the type: an echo message has code 0
pub data IsBody (octets : List ℕ) : Type 0 where
  Request : type_in octets ≡ 128 → code_in octets ≡ 0 → IsBody octets
  Reply : type_in octets ≡ 129 → code_in octets ≡ 0 → IsBody octets
  Error : IsError octets → IsBody octets
  Neighbor : IsNdisc octets → IsBody octets
  OfRouters : IsRouter octets → IsBody octets
  Listener : IsMld octets → IsBody octets

-- what the checksum covers before the message (RFC 4443 2.3, RFC 8200 8.1): addresses, the
-- message's length, the protocol
abbrev pub pseudo_header : IpAddress → IpAddress → ℕ → List ℕ
pseudo_header src dst len = pseudo src dst 58 len

-- the octets may be a message: its checksum is right if the sum with the pseudo-header is all ones
abbrev pub IsSound : Bool → IpAddress → IpAddress → List ℕ → Type 0
IsSound checked src dst octets = (8 ≤ length octets)
    × (IsTrue checked → folded_sum (word_sum (pseudo_header src dst (length octets) ++ octets)) ≡ 65535)

-- the octets are a message
pub record IsIcmpv6 (checked : Bool) (src dst : IpAddress) (octets : List ℕ) : Type 0 where
  pub whole_header : 8 ≤ length octets
  pub sum : IsTrue checked → folded_sum (word_sum (pseudo_header src dst (length octets) ++ octets)) ≡ 65535
  pub body : IsBody octets

-- an echo request between two addresses, whose checksum is right
pub record IsEchoRequest (src dst : IpAddress) (octets : List ℕ) : Type 0 where
  pub whole_header : 8 ≤ length octets
  pub type : type_in octets ≡ 128
  pub code : code_in octets ≡ 0
  pub sum : folded_sum (word_sum (pseudo_header src dst (length octets) ++ octets)) ≡ 65535

-- its values, and the reply to it, which has its identifier, its sequence number and its data
abbrev pub echo_request_in : List ℕ → Icmpv6Repr
echo_request_in octets = EchoRequest (u16_at octets 4) (u16_at octets 6)

abbrev pub echo_reply_to : List ℕ → Icmpv6Repr
echo_reply_to octets = EchoReply (u16_at octets 4) (u16_at octets 6)

-- an error's values, and what is quoted after the quoted header
abbrev pub error_of : List ℕ → Icmpv6Repr
error_of octets =
    if type_in octets == 1 then DstUnreachable (unreachable_of (code_in octets)) (quoted_in (drop 8 octets)).0 else
    if type_in octets == 2 then PktTooBig (u32_at octets 4) (quoted_in (drop 8 octets)).0 else
    if type_in octets == 3 then TimeExceeded (code_in octets) (quoted_in (drop 8 octets)).0 else
    ParamProblem (problem_of (code_in octets)) (u32_at octets 4) (quoted_in (drop 8 octets)).0

abbrev pub error_in : List ℕ → Icmpv6Repr × List ℕ
error_in octets = (error_of octets, (quoted_in (drop 8 octets)).1)

-- a message's values and its data; a message of neighbour or router discovery has no data
abbrev pub icmpv6_in : List ℕ → Icmpv6Repr × List ℕ
icmpv6_in octets =
    if type_in octets == 128 then (EchoRequest (u16_at octets 4) (u16_at octets 6), drop 8 octets) else
    if type_in octets == 129 then (EchoReply (u16_at octets 4) (u16_at octets 6), drop 8 octets) else
    if type_in octets == 135 then (Ndisc (ndisc_in octets), []) else
    if type_in octets == 136 then (Ndisc (ndisc_in octets), []) else
    if type_in octets == 133 then (Router (router_in octets), []) else
    if type_in octets == 134 then (Router (router_in octets), []) else
    if type_in octets == 130 then (Mld (mld_in octets).0, (mld_in octets).1) else
    if type_in octets == 143 then (Mld (mld_in octets).0, (mld_in octets).1) else
    error_in octets

-- values and data, apart from where that is in memory
abbrev pub parts : Icmpv6Repr × Bor (List ℕ) → Icmpv6Repr × List ℕ
parts p = (p.0, p.1.now)

-- the length of a message without its data
abbrev pub header_len : Icmpv6Repr → ℕ
header_len (EchoRequest ident seq_no) = 8
header_len (EchoReply ident seq_no) = 8
header_len (DstUnreachable reason header) = 48
header_len (PktTooBig mtu header) = 48
header_len (TimeExceeded code header) = 48
header_len (ParamProblem reason pointer header) = 48
header_len (Ndisc message) = message_len message
header_len (Router message) = router.message_len message
header_len (Mld message) = mld.message_len message

-- the type and the code of a message
abbrev pub type_of : Icmpv6Repr → ℕ
type_of (EchoRequest ident seq_no) = 128
type_of (EchoReply ident seq_no) = 129
type_of (DstUnreachable reason header) = 1
type_of (PktTooBig mtu header) = 2
type_of (TimeExceeded code header) = 3
type_of (ParamProblem reason pointer header) = 4
type_of (Ndisc message) = ndisc.type_of message
type_of (Router message) = router.type_of message
type_of (Mld message) = mld.type_of message

abbrev pub message_code : Icmpv6Repr → ℕ
message_code (EchoRequest ident seq_no) = 0
message_code (EchoReply ident seq_no) = 0
message_code (DstUnreachable reason header) = unreachable_code reason
message_code (PktTooBig mtu header) = 0
message_code (TimeExceeded code header) = code
message_code (ParamProblem reason pointer header) = problem_code reason
message_code (Ndisc message) = 0
message_code (Router message) = 0
message_code (Mld message) = 0

-- the four octets after the checksum
abbrev pub rest_of : Icmpv6Repr → List ℕ
rest_of (EchoRequest ident seq_no) = to_be_bytes w16 ident ++ to_be_bytes w16 seq_no
rest_of (EchoReply ident seq_no) = to_be_bytes w16 ident ++ to_be_bytes w16 seq_no
rest_of (DstUnreachable reason header) = 0 ∷ 0 ∷ 0 ∷ 0 ∷ []
rest_of (PktTooBig mtu header) = to_be_bytes w32 mtu
rest_of (TimeExceeded code header) = 0 ∷ 0 ∷ 0 ∷ 0 ∷ []
rest_of (ParamProblem reason pointer header) = to_be_bytes w32 pointer
rest_of (Ndisc message) = flag_octet message ∷ 0 ∷ 0 ∷ 0 ∷ []
rest_of (Router message) = router.rest_of message
rest_of (Mld message) = mld.rest_of message

-- the first eight octets, with a checksum
unfoldable pub head_with : ℕ → Icmpv6Repr → List ℕ
head_with sum r = type_of r ∷ message_code r ∷ (to_be_bytes w16 sum ++ rest_of r)

-- the octets between them and the data: a quoted header, written anew from its values, or the message's
-- addresses and options
abbrev pub body : Icmpv6Repr → List ℕ
body (EchoRequest ident seq_no) = []
body (EchoReply ident seq_no) = []
body (DstUnreachable reason header) = header_text header
body (PktTooBig mtu header) = header_text header
body (TimeExceeded code header) = header_text header
body (ParamProblem reason pointer header) = header_text header
body (Ndisc message) = address_text (target_of message) ++ option_text message
body (Router message) = router.body message
body (Mld message) = mld.body message

-- its checksum, or 0 if that is off: that of pseudo-header and message, with 0 in its place
abbrev pub sum_of : Bool → IpAddress → IpAddress → Icmpv6Repr → List ℕ → ℕ
sum_of summed src dst r octets =
    if summed then
    checksum_of (pseudo_header src dst (header_len r + length octets) ++ (head_with 0 r ++ body r ++ octets)) else 0

-- the text of a message with its data
abbrev pub text : Bool → IpAddress → IpAddress → Icmpv6Repr → List ℕ → List ℕ
text summed src dst r octets = head_with (sum_of summed src dst r octets) r ++ body r ++ octets

-- values and data that a message can have
abbrev pub IsMessage : Icmpv6Repr → List ℕ → Type 0
IsMessage (EchoRequest ident seq_no) octets = (ident < 2 ^ 16) × (seq_no < 2 ^ 16)
IsMessage (EchoReply ident seq_no) octets = (ident < 2 ^ 16) × (seq_no < 2 ^ 16)
IsMessage (DstUnreachable reason header) octets = (unreachable_of (unreachable_code reason) ≡ reason) × IsHeader header
IsMessage (PktTooBig mtu header) octets = (mtu < 2 ^ 32) × IsHeader header
IsMessage (TimeExceeded code header) octets = IsHeader header
IsMessage (ParamProblem reason pointer header) octets = (problem_of (problem_code reason) ≡ reason)
    × (pointer < 2 ^ 32) × IsHeader header
IsMessage (Ndisc message) octets = IsNeighbor message × (octets ≡ [])
IsMessage (Router message) octets = router.IsMessage message × (octets ≡ [])
IsMessage (Mld message) octets = mld.IsMessage message

-- a text is parsed back as its values and its data, if its checksum is there or isn't verified
abbrev pub ReadAgain : Type 0
ReadAgain = (checked summed : Bool) (src dst : IpAddress) (r : Icmpv6Repr) (octets : List ℕ) →
    IsMessage r octets → (IsTrue checked → IsTrue summed)
    → IsIcmpv6 checked src dst (text summed src dst r octets) × (icmpv6_in (text summed src dst r octets) ≡ (r, octets))
