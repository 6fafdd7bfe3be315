-- A neighbour message is read as it was written.
use Rattle.std.proofs.Common.{◌≡◌, ℕ, inl, inr, List, [], ◌∷◌, ◌++◌, refl, ap, ◌∙◌, Option, Some, None, arith}
use Rattle.std.proofs.lemmas.List.Elements.{All-nil, All-cons}
use Rattle.ip_address.specs.declared.ethernet_address.EthernetAddress.{EthernetAddress}
use Rattle.ip_address.specs.declared.ipv6.Ipv6Address.{Ipv6Address}
use Rattle.ip_address.proofs.SixOctets.{Six, six}
use Rattle.ip_wire.specs.Ipv6Packet.{address_text}
use Rattle.ip_wire.proofs.Ipv6Again.{address_again}
use Rattle.control_wire.specs.NdiscOption.{IsOption, AreOptions, options_from, last_of, lladdr_in, lladdr_text}
use Rattle.control_wire.specs.Ndisc.{flags_of, IsNdisc, ndisc_in, lladdr_option, target_of, option_text, IsLinkLayerAddr, IsNeighbor}
use Rattle.control_wire.specs.Icmpv6.{head_with}
use Rattle.control_wire.specs.declared.icmpv6.Icmpv6Repr.TheVariants.{Ndisc}
use Rattle.control_wire.specs.declared.ndisc.NdiscNeighborFlags.{NdiscNeighborFlags}
use Rattle.control_wire.specs.declared.ndisc.NdiscRepr.{NdiscRepr}
use Rattle.control_wire.specs.declared.ndisc.NdiscRepr.TheVariants.{NeighborSolicit, NeighborAdvert}

-- the options of a message that has at most one
none_again : (type : ℕ) → AreOptions [] × (lladdr_in type [] ≡ None)
unfolding options_from last_of
none_again type = (All-nil IsOption, refl)

source_six : (a b c d e f : ℕ) → let octets = a ∷ b ∷ c ∷ d ∷ e ∷ f ∷ [] in
    AreOptions (1 ∷ 1 ∷ octets) × (lladdr_in 1 (1 ∷ 1 ∷ octets) ≡ Some (record { 0 = octets }))
unfolding options_from last_of
source_six a b c d e f = (
  All-cons IsOption (1 ∷ 1 ∷ a ∷ b ∷ c ∷ d ∷ e ∷ f ∷ []) [] (record { header = omega arith; some = omega arith; fits = omega arith; allowed = refl })
      (All-nil IsOption),
  refl,
)

source_again : (octets : List ℕ) → Six octets → AreOptions (1 ∷ 1 ∷ octets) × (lladdr_in 1 (1 ∷ 1 ∷ octets) ≡ Some (record { 0 = octets }))
source_again octets s = rw s.is (source_six s.a s.b s.c s.d s.e s.f)

target_six : (a b c d e f : ℕ) → let octets = a ∷ b ∷ c ∷ d ∷ e ∷ f ∷ [] in
    AreOptions (2 ∷ 1 ∷ octets) × (lladdr_in 2 (2 ∷ 1 ∷ octets) ≡ Some (record { 0 = octets }))
unfolding options_from last_of
target_six a b c d e f = (
  All-cons IsOption (2 ∷ 1 ∷ a ∷ b ∷ c ∷ d ∷ e ∷ f ∷ []) [] (record { header = omega arith; some = omega arith; fits = omega arith; allowed = refl })
      (All-nil IsOption),
  refl,
)

target_again : (octets : List ℕ) → Six octets → AreOptions (2 ∷ 1 ∷ octets) × (lladdr_in 2 (2 ∷ 1 ∷ octets) ≡ Some (record { 0 = octets }))
target_again octets s = rw s.is (target_six s.a s.b s.c s.d s.e s.f)

source_options : (lladdr : Option EthernetAddress) →
    IsLinkLayerAddr lladdr → AreOptions (lladdr_option 1 lladdr) × (lladdr_in 1 (lladdr_option 1 lladdr) ≡ lladdr)
unfolding lladdr_text
source_options None h = none_again 1
source_options (Some address) h = source_again address.0 (six address.0 h)

target_options : (lladdr : Option EthernetAddress) →
    IsLinkLayerAddr lladdr → AreOptions (lladdr_option 2 lladdr) × (lladdr_in 2 (lladdr_option 2 lladdr) ≡ lladdr)
unfolding lladdr_text
target_options None h = none_again 2
target_options (Some address) h = target_again address.0 (six address.0 h)

solicit_made : (a t : Ipv6Address) (p q : Option EthernetAddress) → a ≡ t → p ≡ q → ◌≡◌ {A = NdiscRepr} (NeighborSolicit a p) (NeighborSolicit t q)
solicit_made a t p q ea ep = rw (ea, ep) refl

advert_made : (n : ℕ) (flags : NdiscNeighborFlags) (a t : Ipv6Address) (p q : Option EthernetAddress) → n ≡ flags.0 → a ≡ t → p ≡ q
    → ◌≡◌ {A = NdiscRepr} (NeighborAdvert (record { 0 = n }) a p) (NeighborAdvert flags t q)
advert_made n flags a t p q en ea ep = rw (en, ea, ep) refl

-- the octets of a target and an option behind a head
abbrev pub neighbor_text : ℕ → NdiscRepr → List ℕ
neighbor_text c m = head_with c (Ndisc m) ++ address_text (target_of m) ++ option_text m

pub neighbor_again : (c : ℕ) (m : NdiscRepr) → IsNeighbor m → IsNdisc (neighbor_text c m) × (ndisc_in (neighbor_text c m) ≡ m)
unfolding head_with address_text
neighbor_again c (NeighborSolicit target lladdr) h =
    let o = source_options lladdr h.1 in (
      record { whole = omega arith; type = inl refl; code = refl; options = o.0 },
      solicit_made _ _ _ _ (address_again target (head_with c (Ndisc (NeighborSolicit target lladdr))) (lladdr_option 1 lladdr) h.0) o.1,
    )
neighbor_again c (NeighborAdvert flags target lladdr) h =
    let o = target_options lladdr h.2 in (
      record { whole = omega arith; type = inr refl; code = refl; options = o.0 },
      advert_made _ _ _ _ _ _ (ap flags_of h.0 ∙ h.0)
          (address_again target (head_with c (Ndisc (NeighborAdvert flags target lladdr))) (lladdr_option 2 lladdr) h.1) o.1,
    )
