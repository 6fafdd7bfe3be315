-- A place may go to another thread, since a boxed client may.
use Rattle.std.specs.Prelude.{Option, Some, None}
use mir.Raw.{raw}
use base.Fraction.{full_share}
use base.Shift.{Keyless}
use denote.Memory.{lone}
use denote.RawPtr.{Ptr, block_ptr, null_ptr}
use denote.Param.Send.{IsSend, part_keyless}
use Rattle.std.specs.Global.{Global}
use Rattle.std.proofs.Crossing.{frees}
use Rattle.std.proofs.alloc.Global.TheSendSync as heap
use Rattle.iface_dns.specs.contracts.dns.Dns as Dns
use Rattle.iface_dns.proofs.dns.Dns.TheSendSync as dns
use Rattle.iface_c.specs.OwnedDns.{slot_owns}
use Rattle.iface_c.specs.contracts.dns_handle.DnsSlot.{the_row}

owned_keyless : (a : Global) (p : Ptr) (h : Option Dns.the_row.Denot) → Keyless (slot_owns a p h)
owned_keyless a p None = tt
owned_keyless a null_ptr (Some x) = (tt, frees.frees a (raw (lone Dns.the_row.mir)) null_ptr)
owned_keyless a (block_ptr b o) (Some x) =
    (part_keyless Dns.the_row dns.the_send full_share x b o, frees.frees a (raw (lone Dns.the_row.mir)) (block_ptr b o))

pub send : IsSend the_row
send = record {
  owned = λ d vs. ((λ vss. (tt, (tt, (heap.the_field_send.owned _ vss.1.0, tt)))), owned_keyless d.alloc d.at d.client);
  leaving = λ k x vs. tt;
}
