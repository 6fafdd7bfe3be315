-- What the place of a client's handle owns.
use Rattle.std.specs.Prelude.{ℕ, ◌==◌, Bool, Option, Some, None}
use Rattle.std.specs.Coded.{Coded, coded_option}
use Rattle.std.specs.Global.{Global}
use Rattle.std.specs.Box.Ownership.{box_owns}
use Rattle.std.specs.contracts.impls.GlobalAllocator.TheImpl.{ghosts}
use base.Fml.{Fml, ftrue}
use denote.RawPtr.{Ptr}
use Rattle.iface_dns.specs.contracts.dns.Dns.{the_row}

-- the client at a place and the right to free its block, or nothing
abbrev pub slot_owns : Global → Ptr → Option the_row.Denot → Fml
slot_owns alloc place None = ftrue
slot_owns alloc place (Some client) = box_owns (ghosts.dealloc_token alloc) the_row place client

abbrev pub dns_coded : Coded (Option the_row.Denot)
dns_coded = coded_option the_row.coded

-- whether a handle has the tag of one that owns a client
abbrev pub is_tag : ℕ → Bool
is_tag tag = tag == 0x6966_6163_655f_6e31
