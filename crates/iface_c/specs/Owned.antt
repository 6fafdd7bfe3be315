-- What the place of a handle owns.
use Rattle.std.specs.Prelude.{ℕ, ◌==◌, Bool, Option, Some, None}
use Rattle.std.specs.Coded.{Coded, coded_option}
use Rattle.std.specs.Global.{Global}
use Rattle.std.specs.Box.Ownership.{box_owns}
use Rattle.std.specs.contracts.impls.GlobalAllocator.TheImpl.{ghosts}
use base.Fml.{Fml, ftrue}
use denote.RawPtr.{Ptr}
use Rattle.iface_host.specs.contracts.host.IfaceHost.{the_row}

-- the host at a place and the right to free its block, or nothing
abbrev pub slot_owns : Global → Ptr → Option the_row.Denot → Fml
slot_owns alloc place None = ftrue
slot_owns alloc place (Some host) = box_owns (ghosts.dealloc_token alloc) the_row place host

abbrev pub host_coded : Coded (Option the_row.Denot)
host_coded = coded_option the_row.coded

-- whether a handle has the tag of one that owns a host
abbrev pub is_tag : ℕ → Bool
is_tag tag = tag == 0x6966_6163_655f_6331
