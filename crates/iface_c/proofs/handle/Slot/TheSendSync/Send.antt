-- A place may go to another thread, since a boxed host may.
use Rattle.std.specs.Prelude.{Option, Some, None}
use mir.Raw.{raw}
use base.Fraction.{full_share}
use base.Shift.{Keyless}
use denote.Memory.{lone}
use denote.RawPtr.{Ptr, block_ptr, null_ptr}
use denote.Param.Send.{IsSend, part_keyless}
use Rattle.std.specs.Global.{Global}
use Rattle.std.proofs.Crossing.{frees}
use Rattle.std.proofs.alloc.Global.TheSendSync as heap
use Rattle.iface_host.specs.contracts.host.IfaceHost as IfaceHost
use Rattle.iface_host.proofs.host.IfaceHost.TheSendSync as host
use Rattle.iface_c.specs.Owned.{slot_owns}
use Rattle.iface_c.specs.contracts.handle.Slot.{the_row}

owned_keyless : (a : Global) (p : Ptr) (h : Option IfaceHost.the_row.Denot) → Keyless (slot_owns a p h)
owned_keyless a p None = tt
owned_keyless a null_ptr (Some x) = (tt, frees.frees a (raw (lone IfaceHost.the_row.mir)) null_ptr)
owned_keyless a (block_ptr b o) (Some x) =
    (part_keyless IfaceHost.the_row host.the_send full_share x b o, frees.frees a (raw (lone IfaceHost.the_row.mir)) (block_ptr b o))

pub send : IsSend the_row
send = record {
  owned = λ d vs. ((λ vss. (tt, (tt, (heap.the_field_send.owned _ vss.1.0, tt)))), owned_keyless d.alloc d.at d.host);
  leaving = λ k x vs. tt;
}
