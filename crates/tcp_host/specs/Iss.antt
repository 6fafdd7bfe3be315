-- Initial numbers of connections (RFC 6528 3): ISN = M + F (localip, localport, remoteip, remoteport, secretkey).
use Rattle.std.specs.Prelude.{◌≡◌, ℕ, ◌+◌, ◌*◌, ◌/◌, ◌%◌, ◌^◌, List, [], ◌∷◌, ◌++◌, take}
use Rattle.std.specs.Int.{w16, w32, w128, to_be_bytes, from_be_bytes}
use Rattle.sha2.specs.Sha256.{sha256}
use Rattle.ip_address.specs.declared.ip.IpAddress.{IpAddress}
use Rattle.ip_address.specs.Ip.{address_key}
use Rattle.tcp_host.specs.declared.iss.Endpoints.{Endpoints}

-- M: a clock that counts each four microseconds
abbrev pub clock : ℕ → ℕ
clock now = now / 4

-- an end in octets: the address's family, its number in sixteen octets, and the port
abbrev pub end_text : IpAddress → ℕ → List ℕ
end_text address port = ((address_key address).0 ∷ []) ++ (to_be_bytes w128 (address_key address).1 ++ to_be_bytes w16 port)

abbrev pub text : List ℕ → Endpoints → List ℕ
text key e = end_text e.local_addr e.local_port ++ end_text e.remote_addr e.remote_port ++ key

-- F: the first four octets of the digest
abbrev pub hash : List ℕ → Endpoints → ℕ
hash key e = from_be_bytes w32 (take 4 (sha256 (text key e)))

abbrev pub iss : List ℕ → Endpoints → ℕ → ℕ
iss key e now = (clock now + hash key e) % 2 ^ 32

-- n times four microseconds later the number of the same ends is n further, so it is the same only after 4.77 hours
pub record NumbersAdvance : Type 0 where
  pub later : (key : List ℕ) (e : Endpoints) (now n : ℕ) → iss key e (now + 4 * n) ≡ (iss key e now + n) % 2 ^ 32
