-- Why a socket refuses a datagram or a segment for sending.
use Rattle.std.specs.Prelude.{ℕ, ◌==◌, nat_lt, Bool, if◌then◌else◌, Option, Some, None}
use Rattle.ip_address.specs.Ip.{is_unspecified}
use Rattle.sockets.specs.declared.endpoint.IpEndpoint.{IpEndpoint}
use Rattle.sockets.specs.declared.send_error.SendError.{SendError}
use Rattle.sockets.specs.declared.send_error.SendError.TheVariants.{UnspecifiedAddress, UnspecifiedPort}
use Rattle.sockets.specs.declared.send_error.SendError.TheVariants.{Unbound, TooLong, Full}

-- the first reason to refuse, if there is one: an unspecified remote address; remote port 0; own port 0; a payload
-- longer than an IPv4 packet with a TCP header carries; lack of room
abbrev pub refusal : IpEndpoint → ℕ → ℕ → Bool → Option SendError
refusal remote own_port len fits =
    if is_unspecified remote.addr then Some UnspecifiedAddress else if remote.port == 0 then Some UnspecifiedPort
    else if own_port == 0 then Some Unbound else if nat_lt 65495 len then Some TooLong else
    if fits then None else Some Full
