-- Where the search for the ends of a connection begins: by SipHash of their 37 octets.
use Rattle.std.specs.Prelude.{ℕ, ◌+◌, ◌*◌, ◌/◌, ◌%◌, ◌^◌, List, [], ◌∷◌}
use Rattle.ip_address.specs.Ip.{address_key}
use Rattle.tcp_host.specs.declared.iss.Endpoints.{Endpoints}
use Rattle.tcp_host.specs.declared.sip_hash.SipKey.{SipKey}
use Rattle.tcp_host.specs.SipHash.{sip_hash}

-- the ports, the family, and the length of the message
abbrev pub last_word : Endpoints → ℕ
last_word e = e.local_port + e.remote_port * 2 ^ 16 + (address_key e.local_addr).0 * 2 ^ 32 + 37 * 2 ^ 56

abbrev pub words : Endpoints → List ℕ
words e =
    ((address_key e.local_addr).1 % 2 ^ 64) ∷ ((address_key e.local_addr).1 / 2 ^ 64) ∷
    ((address_key e.remote_addr).1 % 2 ^ 64) ∷ ((address_key e.remote_addr).1 / 2 ^ 64) ∷ last_word e ∷ []

unfoldable pub hash : SipKey → Endpoints → ℕ
hash key e = sip_hash key (words e)

-- one of so many
unfoldable pub home : SipKey → ℕ → Endpoints → ℕ
home key homes e = hash key e % homes
