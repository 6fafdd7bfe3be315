-- Routes that are gone over one after another, over plain variables.
use Rattle.std.proofs.Common.{◌≡◌, ℕ, List, [], ◌∷◌, length, refl, subst, sym}
use Rattle.dhcp_client.specs.declared.routes.DhcpRoute.{DhcpRoute}
use Rattle.iface_host.specs.declared.host.IfaceHost.{IfaceHost}
use Rattle.iface_dhcp.specs.Apply.{GoesOver, Next, Over}

pub next : (One : DhcpRoute → IfaceHost → IfaceHost → Type 0) (all : List DhcpRoute) (r : DhcpRoute) (rs : List DhcpRoute)
    (old mid new : IfaceHost) → all ≡ r ∷ rs → One r old mid → GoesOver One rs mid new → GoesOver One all old new
next One all r rs old mid new is first rest = subst (λ (xs : List DhcpRoute). GoesOver One xs old new) (sym is) (Next first rest)

pub over : (One : DhcpRoute → IfaceHost → IfaceHost → Type 0) (all : List DhcpRoute) (host : IfaceHost) → length all ≡ 0 →
    GoesOver One all host host
over One [] host e = Over
over One (x ∷ xs) host e = absurd cc
