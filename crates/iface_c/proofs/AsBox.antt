-- The parts of a boxed host own what the box owns.
use mir.Syntax.{impl, tnil, dnil}
use mathlib.Core.List.{[]}
use denote.Signature.{Slot, plain}
use Rattle.std.proofs.BoxSteps.Form.{Bx}
use Rattle.std.specs.contracts.alloc.Global as Heap
use Rattle.std.specs.contracts.impls.GlobalAllocator.TheImpl.{ghosts, dict}
use Rattle.std.proofs.alloc.Global.TheLaws as heap
use Rattle.iface_host.specs.contracts.host.IfaceHost as IfaceHost
use Rattle.iface_host.proofs.host.IfaceHost.TheLaws as host
use Rattle.iface_c.specs.contracts.raw_box.RawBox as RawBox
use Rattle.iface_c.specs.contracts.handle.Slot as Transition

abbrev pub E : Bx
E = record {
  row = IfaceHost.the_row;
  laws = host.the_row_laws;
  al = record { row = Heap.the_row; laws = heap.the_row_laws; g = ghosts; d = dict; drops = impl [] tnil dnil };
}

abbrev pub FromRawBox : Slot 0
FromRawBox = plain (λ _. RawBox.the_row IfaceHost.the_row Heap.the_row ghosts)

abbrev pub FromPlace : Slot 0
FromPlace = plain (λ _. Transition.the_row)
