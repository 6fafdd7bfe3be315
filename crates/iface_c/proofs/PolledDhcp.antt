-- A client of a handle that was polled, over plain variables.
use Rattle.std.proofs.Common.{◌≡◌, ℕ, ℤ, Option, Some, sym, subst}
use Rattle.dhcp_client.specs.declared.lease.DhcpEvent.{DhcpEvent}
use Rattle.iface_host.specs.declared.host.IfaceHost.{IfaceHost}
use Rattle.iface_dhcp.specs.Poll.{Polls}
use Rattle.iface_dhcp.specs.declared.dhcp.Dhcp.{Dhcp}
use Rattle.iface_c.specs.Dhcp.{ChangedBoth, ShowsEvent, number_of}

-- what has become of its lease was written
pub polled_there : (now read : ℤ) (number : ℕ) (event : Option DhcpEvent) (d d' : Dhcp) (x y : IfaceHost) {c c' : Option Dhcp}
    {old new : Option IfaceHost} → read ≡ now → c ≡ Some d → c' ≡ Some d' → old ≡ Some x → new ≡ Some y → Polls read event d d' x y →
    number ≡ number_of event → ChangedBoth (ShowsEvent now number) c c' old new
polled_there now read number event d d' x y {c} {c'} {old} {new} is client client' host host' polls written =
    subst (λ (a : Option Dhcp). ChangedBoth (ShowsEvent now number) a c' old new) (sym client)
    (subst (λ (a : Option Dhcp). ChangedBoth (ShowsEvent now number) (Some d) a old new) (sym client')
    (subst (λ (h : Option IfaceHost). ChangedBoth (ShowsEvent now number) (Some d) (Some d') h new) (sym host)
    (subst (λ (h : Option IfaceHost). ChangedBoth (ShowsEvent now number) (Some d) (Some d') (Some x) h) (sym host')
    (record { event = event; polled = subst (λ (z : ℤ). Polls z event d d' x y) is polls; written = written }))))
