-- A host that is in its handle before a call and after it.
use Rattle.std.proofs.Common.{◌≡◌, Option, Some, sym, subst}
use Rattle.iface_host.specs.declared.host.IfaceHost.{IfaceHost}
use Rattle.iface_c.specs.Calls.{Changed}

pub same_there : (Step : IfaceHost → IfaceHost → Type 0) (x : IfaceHost) {a b : Option IfaceHost} → a ≡ Some x → b ≡ Some x → Step x x → Changed Step a b
same_there Step x {a} {b} p q s =
    subst (λ (old : Option IfaceHost). Changed Step old b) (sym p) (subst (λ (new : Option IfaceHost). Changed Step (Some x) new) (sym q) s)
