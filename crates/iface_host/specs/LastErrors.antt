-- The last errors about packets of a host, which it keeps.
use Rattle.std.specs.Prelude.{ℕ, ◌==◌, ◌&&◌, nat_lt, Bool, true, List, [], ◌∷◌, ◌++◌, length, drop, Option, Some, None, if◌then◌else◌}
use Rattle.std.specs.List.{find, position_or_len, remove}
use Rattle.ip_address.specs.Protocol.{is_same}
use Rattle.ip_address.specs.declared.protocol.IpProtocol.{IpProtocol}
use Rattle.iface_host.specs.Calls.{addresses_of}
use Rattle.iface_host.specs.Errors.{error_in}
use Rattle.iface_host.specs.declared.errors.PacketError.{PacketError}
use Rattle.iface_host.specs.declared.host.IfaceHost.{IfaceHost}

-- one more comes behind those that are kept; where four are, the first one makes room
abbrev pub with_error : PacketError → List PacketError → List PacketError
with_error e kept = (if nat_lt (length kept) 4 then kept else drop 1 kept) ++ e ∷ []

abbrev pub with_error_if : Option PacketError → List PacketError → List PacketError
with_error_if None kept = kept
with_error_if (Some e) kept = with_error e kept

-- that of a frame is kept, if it has one; nothing else changes
abbrev pub after_error : List ℕ → IfaceHost → IfaceHost
after_error frame host =
    record host { errors = with_error_if (error_in host.outbox.capabilities (addresses_of host) frame) host.errors }

-- it is about a packet of this protocol, and from this port, if one is given
abbrev pub is_at : Option ℕ → ℕ → Bool
is_at None port = true
is_at (Some wanted) port = wanted == port

abbrev pub is_about : IpProtocol → Option ℕ → PacketError → Bool
is_about protocol port e = is_same protocol e.protocol && is_at port e.local.port

-- the first one of these, and the others
abbrev pub first_about : IpProtocol → Option ℕ → List PacketError → Option PacketError
first_about protocol port kept = find (is_about protocol port) kept

abbrev pub without_first : IpProtocol → Option ℕ → List PacketError → List PacketError
without_first protocol port kept = remove kept (position_or_len (is_about protocol port) kept)
