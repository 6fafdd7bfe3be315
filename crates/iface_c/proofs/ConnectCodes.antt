-- A connection that a program opens, and the code of the call.
use Rattle.std.proofs.Common.{◌≡◌, ℕ, ℤ, Option, Some, None, Result, Ok, Err, refl, sym, subst}
use Rattle.sockets.specs.declared.endpoint.IpEndpoint.{IpEndpoint}
use Rattle.sockets.specs.declared.endpoint.IpListenEndpoint.{IpListenEndpoint}
use Rattle.tcp_host.specs.Arrivals.{HasNoPlace}
use Rattle.tcp_host.specs.declared.calls.Handle.{Handle}
use Rattle.iface_host.specs.declared.host.IfaceHost.{IfaceHost}
use Rattle.iface_host.specs.declared.refusal.Refusal.{Refusal}
use Rattle.iface_streams.specs.Connect.{Connects, IsInUse, connect_refusal}
use Rattle.iface_streams.specs.declared.connect.ConnectRefusal.{ConnectRefusal}
use Rattle.iface_streams.specs.declared.connect.ConnectRefusal.TheVariants.{Refused}
use Rattle.iface_streams.specs.declared.streams.Streams.{Streams}
use Rattle.iface_c.specs.Streams.{IsCodeBy, IsConnectCode, IsConnected, handle_in}
use Rattle.iface_c.specs.declared.streams.IfaceStream.{IfaceStream}

abbrev Answer : Type 0
Answer = Result Handle ConnectRefusal

abbrev opened : Handle → Answer
opened handle = Ok handle

not_done : (h : Handle) {r : ConnectRefusal} → opened h ≡ Err r → ⊥
not_done h is = cc

-- no reason holds, and it is opened
pub of_opened : (first : Option Refusal) {Taken Full : Type 0} (h : Handle) →
    ((r : Refusal) → first ≡ Some r → opened h ≡ Err (Refused r)) → IsCodeBy first Taken Full 0
of_opened first {Taken} {Full} h why = record {
  refused = λ r p. absurd (not_done h (why r p));
  in_use = λ _ own. absurd (let bad : 0 ≡ 23 = own in cc);
  full = λ _ some _. absurd (some refl);
}

-- both ends have a meaning, and there are connections and a host
pub code_there : (now : ℤ) (l : IpListenEndpoint) (r : IpEndpoint) (s : Streams) (h : IfaceHost) (code : ℕ)
    {local : Option IpListenEndpoint} {remote : Option IpEndpoint} {old : Option Streams} {host : Option IfaceHost} →
    local ≡ Some l → remote ≡ Some r → old ≡ Some s → host ≡ Some h →
    IsCodeBy (connect_refusal now l r h) (IsInUse l r h s) (HasNoPlace s.connections) code →
    IsConnectCode now local remote old host code
code_there now l r s h code {local} {remote} {old} {host} from to has by is =
    subst (λ (a : Option IpListenEndpoint). IsConnectCode now a remote old host code) (sym from)
    (subst (λ (a : Option IpEndpoint). IsConnectCode now (Some l) a old host code) (sym to)
    (subst (λ (a : Option Streams). IsConnectCode now (Some l) (Some r) a host code) (sym has)
    (subst (λ (a : Option IfaceHost). IsConnectCode now (Some l) (Some r) (Some s) a code) (sym by) is)))

pub connected_there : (now : ℤ) (l : IpListenEndpoint) (r : IpEndpoint) (s s' : Streams) (h : IfaceHost) (shown : IfaceStream)
    {local : Option IpListenEndpoint} {remote : Option IpEndpoint} {old new : Option Streams} {host : Option IfaceHost} →
    local ≡ Some l → remote ≡ Some r → old ≡ Some s → new ≡ Some s' → host ≡ Some h →
    Connects now l r h (handle_in shown) s s' → IsConnected now local remote shown old new host
connected_there now l r s s' h shown {local} {remote} {old} {new} {host} from to has is by connects =
    subst (λ (a : Option IpListenEndpoint). IsConnected now a remote shown old new host) (sym from)
    (subst (λ (a : Option IpEndpoint). IsConnected now (Some l) a shown old new host) (sym to)
    (subst (λ (a : Option Streams). IsConnected now (Some l) (Some r) shown a new host) (sym has)
    (subst (λ (a : Option Streams). IsConnected now (Some l) (Some r) shown (Some s) a host) (sym is)
    (subst (λ (a : Option IfaceHost). IsConnected now (Some l) (Some r) shown (Some s) (Some s') a) (sym by) connects))))
