-- Who is known over IPv6 after a frame was known so before, or a message told of him that the guard reads by the same octets.
use Rattle.std.proofs.Common.{◌≡◌, ℕ, Bool, true, false, List, refl, sym, ap, subst, ◌∙◌, pos}
use Rattle.std.specs.Prelude.{cond, Option, Some, None, if◌then◌else◌}
use Rattle.std.specs.Ordering.{eq_by_cmp}
use Rattle.std.specs.FinMap as map
use Rattle.std.specs.FinMap.{get-insert}
use Rattle.ip_address.specs.Ip.{address_cmp}
use Rattle.ip_address.specs.declared.ethernet_address.EthernetAddress.{EthernetAddress}
use Rattle.ip_address.specs.declared.hardware.HardwareAddress.{HardwareAddress}
use Rattle.ip_address.specs.declared.hardware.HardwareAddress.TheVariants.{Ethernet}
use Rattle.ip_address.specs.declared.ip.IpAddress.{IpAddress}
use Rattle.ip_address.specs.declared.ip.IpAddress.TheVariants.{Ipv4, Ipv6}
use Rattle.ip_address.specs.declared.ipv6.Ipv6Address.{Ipv6Address}
use Rattle.iface_tables.proofs.EntriesLemmas.{tied}
use Rattle.iface_tables.proofs.NeighborLemmas.{address_same, address_total}
use Rattle.iface_tables.specs.Neighbor.{Neighbors, expiry_from, is_same, renewed_from}
use Rattle.iface_tables.specs.declared.neighbor.Neighbor.{Neighbor}
use Rattle.host_machine.specs.Context.Host.{Host, with_neighbors, without_expired}
use Rattle.host_laws.proofs.Discovery.NeighborOrigins.{Came, New, Renewed, Unheard, Was, filled_came}
use Rattle.host_laws.proofs.Discovery.LearntNeighbors.{neighbors_came}
use Rattle.host_laws.proofs.Receive.ReceivedFrames.{handled}
use Rattle.host_laws.specs.Laws.Restraint.Neighbors.{CameToBeKnown, WasKnown, WasRenewed, WasTold}
use Rattle.host_laws.specs.Laws.Restraint.Readings.{Receives}
use Rattle.host_machine.specs.Context.Note.{Note}
use Rattle.net_base.specs.Device.{Event}
use Rattle.guard_laws.proofs.ClaimLemmas.{passes_on}
use Rattle.guard_laws.proofs.LearningLemmas.{ByArp, ByMessage, BySender, DidByFrame, How, Nothing, handled_did, same_after}
use Rattle.guard_laws.proofs.MessageClaimLemmas.{Told as Tells, own_by_message, pinned_by_message}
use Rattle.guard_laws.proofs.TeachingLemmas.{Heard, Left, Told}
use Rattle.guard_laws.specs.MessageClaims.{NobodyClaimsAnOwnIpv6Address, PinnedIpv6NeighborsStay}

-- who is known at an address was known so before, at the same hardware address; or was told of
data IsFrom (frame : List ℕ) (old : Neighbors) (b : IpAddress) (n : Neighbor) : Type 0 where
  Before : (m : Neighbor) → map.get old.known b ≡ Some m → n.hardware_addr ≡ m.hardware_addr → IsFrom frame old b n
  ByFrame : (h : EthernetAddress) → n.hardware_addr ≡ Ethernet h → How frame b h → IsFrom frame old b n

module _ (frame : List ℕ) (H : Host) (new : Neighbors) (b : IpAddress) (n : Neighbor) (is : map.get new.known b ≡ Some n) where
  renewed : (a : IpAddress) (h : HardwareAddress) → new.known ≡ renewed_from (map.get H.neighbors.known a) H.neighbors.known a h (expiry_from H.moment) →
      IsFrom frame H.neighbors b n
  renewed a h e =
      by (map.get H.neighbors.known a) refl (sym (ap (λ m. map.get m b) e) ∙ is) where
        by : (o : Option Neighbor) → map.get H.neighbors.known a ≡ o →
            map.get (renewed_from o H.neighbors.known a h (expiry_from H.moment)) b ≡ Some n → IsFrom frame H.neighbors b n
        by None none there = Before n there refl
        by (Some x) some there = here (is_same x.hardware_addr h) there where
          put : (d : Bool) → eq_by_cmp address_cmp b a ≡ d →
              cond d (Some (record x { expires_at = expiry_from H.moment })) (map.get H.neighbors.known b) ≡ Some n → IsFrom frame H.neighbors b n
          put true same t =
              let one : record x { expires_at = expiry_from H.moment } ≡ n = cc in
              Before x (ap (map.get H.neighbors.known) (tied address_total address_same b a same) ∙ some)
              (sym (ap (λ (y : Neighbor). y.hardware_addr) one))
          put false apart t = Before n t refl

          here : (d : Bool) → map.get (if d then map.insert H.neighbors.known a (record x { expires_at = expiry_from H.moment }) else H.neighbors.known) b ≡ Some n →
              IsFrom frame H.neighbors b n
          here true t =
              put (eq_by_cmp address_cmp b a) refl
              (sym (get-insert address_total H.neighbors.known a (record x { expires_at = expiry_from H.moment }) b) ∙ t)
          here false t = Before n t refl

  from : DidByFrame frame H.ip_addrs H.moment H.neighbors new → IsFrom frame H.neighbors b n
  from (Nothing same) = Before n (sym (ap (λ (k : Neighbors). map.get k.known b) same) ∙ is) refl
  from (BySender a sender (Left same)) = Before n (sym (ap (λ (k : Neighbors). map.get k.known b) same) ∙ is) refl
  from (BySender a sender (Heard h e)) = renewed a h (ap (λ (k : Neighbors). k.known) e)
  from (BySender a sender (Told h tells fills)) =
      by ((filled_came {Heard = Unheard} {old = H} {new = with_neighbors H new} refl fills).each b n is) where
        by : Came (λ c g. (c ≡ a) × (g ≡ h)) Unheard H b n → IsFrom frame H.neighbors b n
        by (Was get) = Before n get refl
        by (Renewed m get e heard) = absurd heard
        by (New g e so) =
            ByFrame h (ap (λ (x : Neighbor). x.hardware_addr) e ∙ ap Ethernet so.1)
            (subst (λ (c : IpAddress). How frame c h) (sym so.0) tells.2)

known_by : (at : ℕ) (frame : List ℕ) (old new : Host) (told : List Event) (notes : List Note) (own : EthernetAddress) (b : IpAddress) (n : Neighbor) →
    Receives (pos at) frame old told notes new → old.hardware_addr ≡ Ethernet own → map.get new.neighbors.known b ≡ Some n →
    IsFrom frame old.neighbors b n
known_by at frame old new told notes own b n receives hardware there =
    let h = handled receives in
    let did = handled_did (pos at) frame old own h.reply h.first h.taken hardware h.takes in
    let before : map.get h.taken.neighbors.known b ≡ Some n = sym (ap (λ m. map.get m b) (same_after h).0) ∙ there in
    from frame (without_expired old (pos at)) h.taken.neighbors b n before did

-- so whoever is known over IPv6 is known at a hardware address where he was, if messages tell no other
known_at : (frame : List ℕ) (old : Neighbors) (a : Ipv6Address) (h : EthernetAddress) (n : Neighbor) →
    ((g : EthernetAddress) → Tells frame a g → g ≡ h) → ((m : Neighbor) → map.get old.known (Ipv6 a) ≡ Some m → m.hardware_addr ≡ Ethernet h) →
    IsFrom frame old (Ipv6 a) n → n.hardware_addr ≡ Ethernet h
known_at frame old a h n only before (Before m get e) = e ∙ before m get
known_at frame old a h n only before (ByFrame g e (ByArp x bad)) = absurd (let other : Ipv6 a ≡ Ipv4 x = bad in cc)
known_at frame old a h n only before (ByFrame g e (ByMessage source m)) =
    e ∙ ap Ethernet (only g (record { at = m.at; octets = m.octets; is = m.is; source = sym source; told = m.told }))

pub nobody_claims_an_own_ipv6_address : NobodyClaimsAnOwnIpv6Address
nobody_claims_an_own_ipv6_address at frame w old new told notes a own receives keeps hardware mine before n there =
    let pass = passes_on at frame w old receives.is_on receives.admitted in
    known_at frame old.neighbors a own n (λ g message. own_by_message at frame w old a own g pass keeps hardware mine message) before
    (known_by at frame old new told notes own (Ipv6 a) n receives.receives hardware there)

pub pinned_ipv6_neighbors_stay : PinnedIpv6NeighborsStay
pinned_ipv6_neighbors_stay at frame w old new told notes a h k receives pinned before n there =
    by (neighbors_came (pos at) frame old new told notes receives.receives (Ipv6 a) n there) where
      by : CameToBeKnown (pos at) frame old (Ipv6 a) n → n.hardware_addr ≡ Ethernet h
      by (WasKnown was) = before n was
      by (WasRenewed m was is heard) = ap (λ (x : Neighbor). x.hardware_addr) is ∙ before m was
      by (WasTold own g hardware is tells) =
          known_at frame old.neighbors a h n
          (λ one message. pinned_by_message at frame w old a h one k (passes_on at frame w old receives.is_on receives.admitted) pinned message) before
          (known_by at frame old new told notes own (Ipv6 a) n receives.receives hardware there)
