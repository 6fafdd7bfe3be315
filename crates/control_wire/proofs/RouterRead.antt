-- Which octets are no router message, and the values of one that is.
use Rattle.std.proofs.Common.{◌≡◌, ℕ, List, drop, slice_index, Option, refl, arith}
use Rattle.ip_address.specs.declared.ethernet_address.EthernetAddress.{EthernetAddress}
use Rattle.control_wire.specs.NdiscOption.{AreOptions}
use Rattle.control_wire.specs.Router.{IsRouter, Solicitation, Advertisement}
use Rattle.control_wire.specs.declared.prefix_information.NdiscPrefixInformation.{NdiscPrefixInformation}
use Rattle.control_wire.specs.declared.router.NdiscRouterFlags.{NdiscRouterFlags}
use Rattle.control_wire.specs.declared.router.RouterRepr.{RouterRepr}
use Rattle.control_wire.specs.declared.router.RouterRepr.TheVariants.{RouterAdvert}

pub not_solicitation : (octets : List ℕ) → slice_index octets 0 ≡ 133 → ¬ AreOptions (drop 8 octets) → ¬ IsRouter octets
not_solicitation octets is none (Solicitation s) = none s.options
not_solicitation octets is none (Advertisement a) = absurd (let t = a.type in omega (arith, is, t))

pub advert_read : (hop_limit n : ℕ) (flags : NdiscRouterFlags) (t lifetime : ℕ) (l lladdr : Option EthernetAddress)
    (q prefix : Option NdiscPrefixInformation) →
    flags.0 ≡ n → t ≡ lifetime → l ≡ lladdr → q ≡ prefix →
    ◌≡◌ {A = RouterRepr} (RouterAdvert hop_limit flags t l q) (RouterAdvert hop_limit (record { 0 = n }) lifetime lladdr prefix)
advert_read hop_limit n flags t lifetime l lladdr q prefix en et el eq = rw (← en, et, el, eq) refl
