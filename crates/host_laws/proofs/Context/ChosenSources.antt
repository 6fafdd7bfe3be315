-- The source that a host chooses is its own.
use Rattle.std.proofs.Common.{◌≡◌, suc, Bool, true, false, List, [], ◌∷◌, refl, ◌∙◌, ap, subst, inl, inr, Option, Some, None}
use Rattle.std.specs.Prelude.{if◌then◌else◌}
use Rattle.std.specs.Option.{option_map}
use Rattle.std.proofs.lemmas.Bool.Decides.{Decides-eqb}
use Rattle.ip_address.specs.Cidr.{contains4}
use Rattle.ip_address.specs.Ipv6.{is_link_local, is_loopback}
use Rattle.ip_address.specs.declared.cidr.IpCidr.{IpCidr}
use Rattle.ip_address.specs.declared.cidr.IpCidr.TheVariants as cidr
use Rattle.ip_address.specs.declared.ip.IpAddress.{IpAddress}
use Rattle.ip_address.specs.declared.ip.IpAddress.TheVariants.{Ipv4, Ipv6}
use Rattle.ip_address.specs.declared.ipv4.Ipv4Address.{Ipv4Address}
use Rattle.ip_address.specs.declared.ipv6.Ipv6Address.{Ipv6Address}
use Rattle.ip_address.specs.AddressSelection.Ipv6.{first_best, ipv6_addr, is_best, loopback, or_loopback, source_v6}
use Rattle.host_machine.specs.Context.Addresses.{ipv4_addr, link_local_addr, on_link_addr, or_else, source_for, source_v4}
use Rattle.host_laws.specs.Laws.Restraint.Chosen.{HasNoIpv6, IsChosenFor, Given, Loopback}
use Rattle.host_laws.specs.Laws.Restraint.Neighbors.{IsAssigned}

-- an address of a longer list
further : (c : IpCidr) (own : List IpCidr) (a : IpAddress) → IsAssigned own a → IsAssigned (c ∷ own) a
further c own a x = (suc x.0, x.1, x.2, x.3)

pub first_assigned : (own : List IpCidr) (s : Ipv4Address) → ipv4_addr own ≡ Some s → IsAssigned own (Ipv4 s)
first_assigned [] s e = absurd cc
first_assigned (cidr.Ipv4 n ∷ own) s e = let same : n.address ≡ s = cc in (0, cidr.Ipv4 n, refl, ap Ipv4 same)
first_assigned (cidr.Ipv6 n ∷ own) s e = further (cidr.Ipv6 n) own (Ipv4 s) (first_assigned own s e)

near_assigned : (own : List IpCidr) (a s : Ipv4Address) → on_link_addr own a ≡ Some s → IsAssigned own (Ipv4 s)
near_assigned [] a s e = absurd cc
near_assigned (cidr.Ipv6 n ∷ own) a s e = further (cidr.Ipv6 n) own (Ipv4 s) (near_assigned own a s e)
near_assigned (cidr.Ipv4 n ∷ own) a s e = by (contains4 n a) (near_assigned own a s) e where
  by : (b : Bool) → (on_link_addr own a ≡ Some s → IsAssigned own (Ipv4 s)) → (if b then Some n.address else on_link_addr own a) ≡ Some s →
      IsAssigned (cidr.Ipv4 n ∷ own) (Ipv4 s)
  by true rest q = let same : n.address ≡ s = cc in (0, cidr.Ipv4 n, refl, ap Ipv4 same)
  by false rest q = further (cidr.Ipv4 n) own (Ipv4 s) (rest q)

pub source_assigned : (own : List IpCidr) (a s : Ipv4Address) → source_v4 own a ≡ Some s → IsAssigned own (Ipv4 s)
source_assigned own a s e = by (on_link_addr own a) refl e where
  by : (o : Option Ipv4Address) → on_link_addr own a ≡ o → or_else o (ipv4_addr own) ≡ Some s → IsAssigned own (Ipv4 s)
  by None n q = first_assigned own s q
  by (Some x) n q = near_assigned own a s (n ∙ q)

pub link_local_assigned : (own : List IpCidr) (s : Ipv6Address) → link_local_addr own ≡ Some s → IsAssigned own (Ipv6 s)
link_local_assigned [] s e = absurd cc
link_local_assigned (cidr.Ipv4 n ∷ own) s e = further (cidr.Ipv4 n) own (Ipv6 s) (link_local_assigned own s e)
link_local_assigned (cidr.Ipv6 n ∷ own) s e = by (is_link_local n.address) (link_local_assigned own s) e where
  by : (b : Bool) → (link_local_addr own ≡ Some s → IsAssigned own (Ipv6 s)) → (if b then Some n.address else link_local_addr own) ≡ Some s →
      IsAssigned (cidr.Ipv6 n ∷ own) (Ipv6 s)
  by true rest q = let same : n.address ≡ s = cc in (0, cidr.Ipv6 n, refl, ap Ipv6 same)
  by false rest q = further (cidr.Ipv6 n) own (Ipv6 s) (rest q)

best_assigned : (own some : List IpCidr) (d s : Ipv6Address) → first_best own d some ≡ Some s → IsAssigned some (Ipv6 s)
best_assigned own [] d s e = absurd cc
best_assigned own (cidr.Ipv4 n ∷ some) d s e = further (cidr.Ipv4 n) some (Ipv6 s) (best_assigned own some d s e)
best_assigned own (cidr.Ipv6 n ∷ some) d s e = by (is_best own d n) (best_assigned own some d s) e where
  by : (b : Bool) → (first_best own d some ≡ Some s → IsAssigned some (Ipv6 s)) → (if b then Some n.address else first_best own d some) ≡ Some s →
      IsAssigned (cidr.Ipv6 n ∷ some) (Ipv6 s)
  by true rest q = let same : n.address ≡ s = cc in (0, cidr.Ipv6 n, refl, ap Ipv6 same)
  by false rest q = further (cidr.Ipv6 n) some (Ipv6 s) (rest q)

any_assigned : (own : List IpCidr) (s : Ipv6Address) → ipv6_addr own ≡ Some s → IsAssigned own (Ipv6 s)
any_assigned [] s e = absurd cc
any_assigned (cidr.Ipv4 n ∷ own) s e = further (cidr.Ipv4 n) own (Ipv6 s) (any_assigned own s e)
any_assigned (cidr.Ipv6 n ∷ own) s e = let same : n.address ≡ s = cc in (0, cidr.Ipv6 n, refl, ap Ipv6 same)

none_of_ipv6 : (own : List IpCidr) → ipv6_addr own ≡ None → HasNoIpv6 own
none_of_ipv6 [] e = tt
none_of_ipv6 (cidr.Ipv4 n ∷ own) e = ((λ m q. absurd cc), none_of_ipv6 own e)
none_of_ipv6 (cidr.Ipv6 n ∷ own) e = absurd cc

-- over IPv6
pub chosen_v6 : (own : List IpCidr) (d : Ipv6Address) → IsChosenFor own (Ipv6 d) (Ipv6 (source_v6 own d))
chosen_v6 own d = by (is_loopback d) refl where
  by_others : (b o : Option Ipv6Address) → first_best own d own ≡ b → ipv6_addr own ≡ o → IsChosenFor own (Ipv6 d) (Ipv6 (or_loopback b o))
  by_others (Some a) o e f = Given (best_assigned own own d a e)
  by_others None (Some a) e f = Given (any_assigned own a f)
  by_others None None e f = Loopback refl (inr (none_of_ipv6 own f))

  by : (b : Bool) → is_loopback d ≡ b →
      IsChosenFor own (Ipv6 d) (Ipv6 (if b then loopback else or_loopback (first_best own d own) (ipv6_addr own)))
  by true e = Loopback refl (inl (ap (λ n. Ipv6 (record { bits = n })) ((Decides-eqb d.bits 1).0 e)))
  by false e = by_others (first_best own d own) (ipv6_addr own) refl refl

-- of either family
pub chosen_for : (own : List IpCidr) (d s : IpAddress) → source_for own d ≡ Some s → IsChosenFor own d s
chosen_for own (Ipv4 d) s e = by (source_v4 own d) refl e where
  by : (o : Option Ipv4Address) → source_v4 own d ≡ o → option_map (λ x. Ipv4 x) o ≡ Some s → IsChosenFor own (Ipv4 d) s
  by None f q = absurd cc
  by (Some x) f q = let same : Ipv4 x ≡ s = cc in Given (subst (IsAssigned own) same (source_assigned own d x f))
chosen_for own (Ipv6 d) s e = let same : Ipv6 (source_v6 own d) ≡ s = cc in subst (IsChosenFor own (Ipv6 d)) same (chosen_v6 own d)
