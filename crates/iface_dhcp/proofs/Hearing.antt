-- What is heard one after another, over plain variables.
use Rattle.std.proofs.Common.{◌≡◌, ◌<◌, ◌≤◌, ◌+◌, ◌-◌, ℕ, zero, suc, arith, subst}
use Rattle.iface_host.specs.declared.host.IfaceHost.{IfaceHost}
use Rattle.iface_dhcp.specs.declared.dhcp.Dhcp.{Dhcp}
use Rattle.iface_dhcp.specs.Hear.{HearsAll, NoMore, OneMore}

pub heard_one : (One : Dhcp → Dhcp → IfaceHost → IfaceHost → Type 0) (count at : ℕ) (c between d : Dhcp) (old mid new : IfaceHost) →
    at < count → One c between old mid → HearsAll One (count - (at + 1)) between d mid new → HearsAll One (count - at) c d old new
heard_one One count at c between d old mid new lt first rest =
    let left : suc (count - (at + 1)) ≡ count - at = omega arith in
    subst (λ (k : ℕ). HearsAll One k c d old new) left (OneMore first rest)

pub heard_all : (One : Dhcp → Dhcp → IfaceHost → IfaceHost → Type 0) (count at : ℕ) (c : Dhcp) (host : IfaceHost) → count ≤ at →
    HearsAll One (count - at) c c host host
heard_all One count at c host le =
    let left : zero ≡ count - at = omega arith in
    subst (λ (k : ℕ). HearsAll One k c c host host) left NoMore
