-- Messages (RFC 1035 4.1): a header of 12 octets, a question, and records.
use Rattle.std.specs.Prelude.{◌≡◌, ℕ, ◌+◌, ◌/◌, ◌%◌, ◌^◌, ◌<◌, ◌==◌, ◌&&◌, nat_le, Bool, true, false}
use Rattle.std.specs.Prelude.{List, [], ◌∷◌, ◌++◌, length, slice_index}
use Rattle.std.specs.Int.{w16, to_be_bytes}
use Rattle.ip_wire.specs.Octets.{u16_at}
use Rattle.dns_client.specs.declared.message.DnsHeader.{DnsHeader}
use Rattle.dns_client.specs.declared.message.DnsQuestion.{DnsQuestion}
use Rattle.dns_client.specs.declared.message.DnsType.{DnsType}
use Rattle.dns_client.specs.declared.message.DnsType.TheVariants.{A, Aaaa}
use Rattle.dns_client.specs.Names.{is_name, end_of, is_same_name}

-- the types that are asked for (RFC 1035 3.2.2, RFC 3596 2.1)
abbrev pub number_of : DnsType → ℕ
number_of A = 1
number_of Aaaa = 28

-- QR, OPCODE, AA, TC and RD are in the third octet, from its first bit on; RA, Z and RCODE in the fourth
abbrev pub header_in : List ℕ → DnsHeader
header_in octets = record {
  transaction_id = u16_at octets 0;
  is_response = nat_le 128 (slice_index octets 2);
  opcode = slice_index octets 2 / 8 % 16;
  is_truncated = slice_index octets 2 / 2 % 2 == 1;
  response_code = slice_index octets 3 % 16;
  question_count = u16_at octets 4;
  answer_count = u16_at octets 6;
}

-- a question stands at an offset: a name, a type and a class
abbrev pub is_question : List ℕ → ℕ → Bool
is_question octets at = is_name octets at && nat_le (end_of octets at + 4) (length octets)

abbrev pub question_in : List ℕ → ℕ → DnsQuestion
question_in octets at = record {
  question_type = u16_at octets (end_of octets at);
  class = u16_at octets (end_of octets at + 2);
  end = end_of octets at + 4;
}

-- Writing: a query asks one question of the Internet, class 1, and that the server asks others in turn (RD).

-- a name is written by its labels alone, without pointers
abbrev pub is_whole_name : List ℕ → Bool
is_whole_name name = is_name name 0 && (end_of name 0 == length name)

unfoldable pub header_text : ℕ → List ℕ
header_text id = to_be_bytes w16 id ++ 1 ∷ 0 ∷ 0 ∷ 1 ∷ 0 ∷ 0 ∷ 0 ∷ 0 ∷ 0 ∷ 0 ∷ []

abbrev pub query_text : ℕ → List ℕ → DnsType → List ℕ
query_text id name type = header_text id ++ name ++ 0 ∷ number_of type ∷ 0 ∷ 1 ∷ []

-- a query is read again as its values
pub record IsQuery (id : ℕ) (name : List ℕ) (type : DnsType) (text : List ℕ) : Type 0 where
  pub header : header_in text ≡ record {
    transaction_id = id;
    is_response = false;
    opcode = 0;
    is_truncated = false;
    response_code = 0;
    question_count = 1;
    answer_count = 0;
  }
  pub question : is_question text 12 ≡ true
  pub asked : question_in text 12 ≡ record { question_type = number_of type; class = 1; end = length text }
  pub same : is_same_name text 12 name 0 ≡ true

abbrev pub ReadAgain : Type 0
ReadAgain = (id : ℕ) (name : List ℕ) (type : DnsType) → id < 2 ^ 16 → is_whole_name name ≡ true → IsQuery id name type (query_text id name type)
