-- A router message is read as it was written.
use Rattle.std.proofs.Common.{◌≡◌, ℕ, ◌+◌, ◌*◌, ◌/◌, ◌%◌, ◌<◌, ◌^◌, List, [], ◌∷◌, ◌++◌, length}
use Rattle.std.proofs.Common.{length-append, append-nil, refl, ap, ◌∙◌, Option, Some, None, arith}
use Rattle.std.proofs.lemmas.List.Elements.{All-nil, All-cons}
use Rattle.ip_address.specs.declared.ethernet_address.EthernetAddress.{EthernetAddress}
use Rattle.ip_address.specs.declared.ipv6.Ipv6Address.{Ipv6Address}
use Rattle.ip_address.proofs.SixOctets.{Six, six}
use Rattle.ip_wire.specs.Ipv6Packet.{address_text}
use Rattle.ip_wire.proofs.Ipv6Again.{address_again, total}
use Rattle.control_wire.specs.NdiscOption.{IsOption, AreOptions, options_from, last_of, lladdr_in, lladdr_text}
use Rattle.control_wire.specs.Ndisc.{lladdr_option, IsLinkLayerAddr}
use Rattle.control_wire.specs.PrefixInformation.{prefix_at, prefix_in, prefix_option, prefix_text, prefix_len, IsPrefix}
use Rattle.control_wire.specs.PrefixInformation as prefix
use Rattle.control_wire.specs.Router.{IsRouter, Solicitation, Advertisement, router_in, lladdr_len, IsMessage}
use Rattle.control_wire.specs.Router as router
use Rattle.control_wire.specs.Icmpv6.{head_with}
use Rattle.control_wire.specs.declared.icmpv6.Icmpv6Repr.TheVariants.{Router}
use Rattle.control_wire.specs.declared.prefix_information.NdiscPrefixInformation.{NdiscPrefixInformation}
use Rattle.control_wire.specs.declared.router.NdiscRouterFlags.{NdiscRouterFlags}
use Rattle.control_wire.specs.declared.router.RouterRepr.{RouterRepr}
use Rattle.control_wire.specs.declared.router.RouterRepr.TheVariants.{RouterSolicit, RouterAdvert}

pub number : (n : ℕ) → n < 2 ^ 32 → n / 16777216 % 256 * 16777216 + n / 65536 % 256 * 65536 + n / 256 % 256 * 256 + n % 256 ≡ n
number n lt = omega arith

prefix_made : (n : ℕ) (p : NdiscPrefixInformation) (v w : ℕ) (a : Ipv6Address) →
    n ≡ p.flags.0 → v ≡ p.valid_lifetime → w ≡ p.preferred_lifetime → a ≡ p.prefix
    → ◌≡◌ {A = NdiscPrefixInformation}
    (record { prefix_len = p.prefix_len; flags = record { 0 = n }; valid_lifetime = v; preferred_lifetime = w; prefix = a }) p
prefix_made n p v w a en ev ew ea = rw (en, ev, ew, ea) refl

-- a prefix is read as it was written
prefix_again : (p : NdiscPrefixInformation) → IsPrefix (Some p) → prefix_at (prefix_text p) ≡ p
unfolding prefix_text address_text
prefix_again p h =
    prefix_made _ p _ _ _ (ap prefix.flags_of h.0 ∙ h.0) (number p.valid_lifetime h.1) (number p.preferred_lifetime h.2)
    (address_again p.prefix (3 ∷ 4 ∷ p.prefix_len ∷ prefix.flags_of p.flags.0
    ∷ p.valid_lifetime / 16777216 % 256 ∷ p.valid_lifetime / 65536 % 256 ∷ p.valid_lifetime / 256 % 256 ∷ p.valid_lifetime % 256
    ∷ p.preferred_lifetime / 16777216 % 256 ∷ p.preferred_lifetime / 65536 % 256 ∷ p.preferred_lifetime / 256 % 256 ∷ p.preferred_lifetime % 256
    ∷ 0 ∷ 0 ∷ 0 ∷ 0 ∷ []) [] h.3)

-- the options of a message are read as they were written
record Again (octets : List ℕ) (lladdr : Option EthernetAddress) (prefix : Option NdiscPrefixInformation) : Type 0 where
  options : AreOptions octets
  lladdr_is : lladdr_in 1 octets ≡ lladdr
  prefix_is : prefix_in octets ≡ prefix

nothing_again : Again [] None None
unfolding options_from last_of
nothing_again = record { options = All-nil IsOption; lladdr_is = refl; prefix_is = refl }

prefix_alone : (p : NdiscPrefixInformation) → IsPrefix (Some p) → Again (prefix_text p) None (Some p)
unfolding options_from last_of prefix_text address_text
prefix_alone p h = record {
  options = All-cons IsOption
      (prefix_text p) [] (record { header = omega arith; some = omega arith; fits = omega arith; allowed = refl }) (All-nil IsOption);
  lladdr_is = refl;
  prefix_is = ap Some (prefix_again p h);
}

address_alone : (a b c d e f : ℕ) → let octets = a ∷ b ∷ c ∷ d ∷ e ∷ f ∷ [] in Again (1 ∷ 1 ∷ octets) (Some (record { 0 = octets })) None
unfolding options_from last_of
address_alone a b c d e f = record {
  options = All-cons IsOption (1 ∷ 1 ∷ a ∷ b ∷ c ∷ d ∷ e ∷ f ∷ []) []
      (record { header = omega arith; some = omega arith; fits = omega arith; allowed = refl }) (All-nil IsOption);
  lladdr_is = refl;
  prefix_is = refl;
}

address_and_prefix : (a b c d e f : ℕ) (p : NdiscPrefixInformation) → IsPrefix (Some p) →
    let octets = a ∷ b ∷ c ∷ d ∷ e ∷ f ∷ [] in Again (1 ∷ 1 ∷ (octets ++ prefix_text p)) (Some (record { 0 = octets })) (Some p)
unfolding options_from last_of prefix_text address_text
address_and_prefix a b c d e f p h = record {
  options = All-cons IsOption (1 ∷ 1 ∷ a ∷ b ∷ c ∷ d ∷ e ∷ f ∷ prefix_text p) (prefix_text p ∷ [])
      (record { header = omega arith; some = omega arith; fits = omega arith; allowed = refl })
      (All-cons IsOption
      (prefix_text p) [] (record { header = omega arith; some = omega arith; fits = omega arith; allowed = refl }) (All-nil IsOption));
  lladdr_is = refl;
  prefix_is = ap Some (prefix_again p h);
}

address_then : (octets : List ℕ) → Six octets → Again (1 ∷ 1 ∷ octets) (Some (record { 0 = octets })) None
address_then octets s = rw s.is (address_alone s.a s.b s.c s.d s.e s.f)

address_then_prefix : (octets : List ℕ) (p : NdiscPrefixInformation) →
    Six octets → IsPrefix (Some p) → Again (1 ∷ 1 ∷ (octets ++ prefix_text p)) (Some (record { 0 = octets })) (Some p)
address_then_prefix octets p s h = rw s.is (address_and_prefix s.a s.b s.c s.d s.e s.f p h)

options_again : (lladdr : Option EthernetAddress) (prefix : Option NdiscPrefixInformation) →
    IsLinkLayerAddr lladdr → IsPrefix prefix → Again (lladdr_option 1 lladdr ++ prefix_option prefix) lladdr prefix
unfolding lladdr_text
options_again None None six_octets h = nothing_again
options_again None (Some p) six_octets h = prefix_alone p h
options_again (Some address) None six_octets h = rw append-nil (address_then address.0 (six address.0 six_octets))
options_again (Some address) (Some p) six_octets h = address_then_prefix address.0 p (six address.0 six_octets) h

advert_made : (n : ℕ) (hop_limit : ℕ) (flags : NdiscRouterFlags) (t lifetime : ℕ) (l lladdr : Option EthernetAddress)
    (q prefix : Option NdiscPrefixInformation) →
    n ≡ flags.0 → t ≡ lifetime → l ≡ lladdr → q ≡ prefix →
    ◌≡◌ {A = RouterRepr} (RouterAdvert hop_limit (record { 0 = n }) t l q) (RouterAdvert hop_limit flags lifetime lladdr prefix)
advert_made n hop_limit flags t lifetime l lladdr q prefix en et el eq = rw (en, et, el, eq) refl

-- the octets of a message: its head, and its body
abbrev pub router_text : ℕ → RouterRepr → List ℕ
router_text c m = head_with c (Router m) ++ router.body m

pub router_again : (c : ℕ) (m : RouterRepr) → IsMessage m → IsRouter (router_text c m) × (router_in (router_text c m) ≡ m)
unfolding head_with
router_again c (RouterSolicit lladdr) h =
    let o = options_again lladdr None h tt in
    let plain : lladdr_option 1 lladdr ++ [] ≡ lladdr_option 1 lladdr = append-nil (lladdr_option 1 lladdr) in
    let there : Again (lladdr_option 1 lladdr) lladdr None = rw plain at o in (
      Solicitation (record { whole = omega arith; type = refl; code = refl; options = there.options }),
      ap RouterSolicit there.lladdr_is,
    )
router_again c (RouterAdvert hop_limit flags lifetime lladdr prefix) h =
    let o = options_again lladdr prefix h.2 h.3 in (
      Advertisement (record { whole = omega arith; type = refl; code = refl; options = o.options }),
      advert_made _ hop_limit flags _ lifetime _ lladdr _ prefix (ap router.flags_of h.0 ∙ h.0) (total lifetime h.1) o.lladdr_is o.prefix_is,
    )

-- the length of each option, an even number
pub lladdr_size : (lladdr : Option EthernetAddress) →
    IsLinkLayerAddr lladdr → (length (lladdr_option 1 lladdr) ≡ lladdr_len lladdr) × (lladdr_len lladdr % 2 ≡ 0)
unfolding lladdr_text
lladdr_size None h = (refl, refl)
lladdr_size (Some address) h = (omega (arith, h), refl)

pub prefix_size : (prefix : Option NdiscPrefixInformation) → (length (prefix_option prefix) ≡ prefix_len prefix) × (prefix_len prefix % 2 ≡ 0)
unfolding prefix_text address_text
prefix_size None = (refl, refl)
prefix_size (Some p) = (refl, refl)

-- a body of so many octets, an even number
pub body_size : (m : RouterRepr) → IsMessage m → (8 + length (router.body m) ≡ router.message_len m) × (length (router.body m) % 2 ≡ 0)
body_size (RouterSolicit lladdr) h = let l = lladdr_size lladdr h in (omega (arith, l.0), omega (arith, l.0, l.1))
body_size (RouterAdvert hop_limit flags lifetime lladdr prefix) h =
    let l = lladdr_size lladdr h.2 in
    let p = prefix_size prefix in
    let front = length-append (router.timers ++ lladdr_option 1 lladdr) (prefix_option prefix) in
    let back = length-append router.timers (lladdr_option 1 lladdr) in
    (omega (arith, l.0, p.0, front, back), omega (arith, l.0, p.0, l.1, p.1, front, back))
