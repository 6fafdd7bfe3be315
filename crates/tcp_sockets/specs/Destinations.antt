-- To whom packets wait in a queue.
use Rattle.std.specs.Prelude.{ℕ, ◌-◌, nat_lt, ◌&&◌, not, Bool, List, [], ◌∷◌, ◌++◌, length, drop, if◌then◌else◌}
use Rattle.std.specs.List.{list_any}
use Rattle.ip_address.specs.declared.ip.IpAddress.{IpAddress}
use Rattle.sockets.specs.Source.{is_same}

-- of the packets only so many are left, the newest ones
abbrev pub last_of : ℕ → List IpAddress → List IpAddress
last_of count waiting = drop (length waiting - count) waiting

abbrev pub contains : List IpAddress → IpAddress → Bool
contains waiting a = list_any (λ (w : IpAddress). is_same w a) waiting

-- a packet to an address may wait: none to it does, and fewer than 16 do
abbrev pub takes : List IpAddress → IpAddress → Bool
takes waiting a = nat_lt (length waiting) 16 && not (contains waiting a)

abbrev pub with : List IpAddress → IpAddress → List IpAddress
with waiting a = if nat_lt (length waiting) 16 then waiting ++ a ∷ [] else waiting
