-- Resource records (RFC 1035 3.2.1, 4.1.3): a name, a type, a class, a time to live, a length, and so many octets of data.
use Rattle.std.specs.Prelude.{ℕ, ◌+◌, ◌==◌, ◌&&◌, nat_le, Bool, true, List, length, if◌then◌else◌}
use Rattle.ip_wire.specs.Octets.{u16_at, u32_at}
use Rattle.ip_wire.specs.Ipv6Packet.{address_at}
use Rattle.dns_client.specs.declared.record.DnsData.{DnsData}
use Rattle.dns_client.specs.declared.record.DnsData.TheVariants.{A, Aaaa, Cname, Other}
use Rattle.dns_client.specs.declared.record.DnsRecord.{DnsRecord}
use Rattle.dns_client.specs.Names.{is_name, end_of}

-- the fields stand behind the name, and the data behind them
abbrev pub fields_at : List ℕ → ℕ → ℕ
fields_at octets at = end_of octets at

abbrev pub data_at : List ℕ → ℕ → ℕ
data_at octets at = fields_at octets at + 10

abbrev pub type_in : List ℕ → ℕ → ℕ
type_in octets at = u16_at octets (fields_at octets at)

abbrev pub class_in : List ℕ → ℕ → ℕ
class_in octets at = u16_at octets (fields_at octets at + 2)

abbrev pub len_in : List ℕ → ℕ → ℕ
len_in octets at = u16_at octets (fields_at octets at + 8)

-- data of the Internet, class 1, have the form of their type: an address of 4 octets (A, type 1) or of 16 (AAAA, type 28,
-- RFC 3596 2.2), or one name (CNAME, type 5). Those of other types and classes may have any
abbrev pub is_data : ℕ → ℕ → List ℕ → ℕ → ℕ → Bool
is_data class type octets at len =
    if class == 1
    then (if type == 1 then len == 4 else if type == 28 then len == 16
    else if type == 5 then is_name octets at && (end_of octets at == at + len) else true)
    else true

abbrev pub data_of : ℕ → ℕ → List ℕ → ℕ → DnsData
data_of class type octets at =
    if class == 1
    then (if type == 1 then A (record { bits = u32_at octets at }) else if type == 28 then Aaaa (address_at octets at)
    else if type == 5 then Cname at else Other)
    else Other

-- a record stands at an offset: nothing of it runs out of the message
abbrev pub is_record : List ℕ → ℕ → Bool
is_record octets at =
    is_name octets at
    && nat_le (fields_at octets at + 10) (length octets)
    && nat_le (data_at octets at + len_in octets at) (length octets)
    && is_data (class_in octets at) (type_in octets at) octets (data_at octets at) (len_in octets at)

abbrev pub record_in : List ℕ → ℕ → DnsRecord
record_in octets at = record {
  «data» = data_of (class_in octets at) (type_in octets at) octets (data_at octets at);
  time_to_live = u32_at octets (fields_at octets at + 4);
  end = data_at octets at + len_in octets at;
}
