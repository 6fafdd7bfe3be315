-- The link-layer address that a message tells has six octets.
use Rattle.std.proofs.Common.{◌≡◌, ℕ, ◌≤◌, Bool, true, false, List, [], ◌∷◌, length, drop}
use Rattle.std.proofs.Common.{slice_index, refl, Option, Some, None, length-drop, length-take, arith}
use Rattle.std.specs.Prelude.{◌==◌, IsTrue, if◌then◌else◌}
use Rattle.std.specs.Option.{option_or}
use Rattle.std.specs.List.{All}
use Rattle.std.proofs.lemmas.List.Elements.{All-head, All-tail}
use Rattle.std.proofs.lemmas.Bool.Decides.{nat_tests}
use Rattle.ip_address.specs.declared.ethernet_address.EthernetAddress.{EthernetAddress}
use Rattle.control_wire.specs.NdiscOption.{IsOption, options_in, address_in, last_of, has_length, lladdr_in}
use Rattle.ip_wire.specs.Ipv6Packet.{address_at}
use Rattle.control_wire.specs.declared.ndisc.NdiscRepr.TheVariants.{NeighborSolicit, NeighborAdvert}
use Rattle.control_wire.specs.Ndisc.{IsLinkLayerAddr, LinkLayerAddrsAreSix, lladdr_of, flags_in}

first_or : (p q : Option EthernetAddress) → IsLinkLayerAddr p → IsLinkLayerAddr q → IsLinkLayerAddr (option_or p q)
first_or None q a b = b
first_or (Some x) q a b = a

-- an option of such a type has eight octets
module _ (type : ℕ) (one : (n : ℕ) → has_length type n ≡ (n == 1)) where
  in_option : (o : List ℕ) → IsOption o → IsLinkLayerAddr (if slice_index o 0 == type then Some (address_in o) else None)
  in_option o is = by (slice_index o 0 == type) refl where
    by : (b : Bool) → slice_index o 0 == type ≡ b → IsLinkLayerAddr (if b then Some (address_in o) else None)
    by true e =
        let same : slice_index o 0 ≡ type = grind (arith, nat_tests) in
        let allowed : IsTrue (slice_index o 1 == 1) = rw (same, one) at is.allowed in
        let units : slice_index o 1 ≡ 1 = grind (arith, nat_tests) in
        let long : 8 ≤ length o = let fits = is.fits in omega (arith, fits, units) in
        search (arith, length-take, length-drop)
    by false e = tt

  pub last_six : (os : List (List ℕ)) → All IsOption os → IsLinkLayerAddr (last_of address_in type os)
  unfolding last_of
  last_six [] all = tt
  last_six (o ∷ os) all =
      first_or (last_of address_in type os) (if slice_index o 0 == type then Some (address_in o) else None)
      (last_six os (All-tail IsOption o os all)) (in_option o (All-head IsOption o os all))

pub are_six : LinkLayerAddrsAreSix
are_six octets is = by (slice_index octets 0 == 135) where
  by : (b : Bool) → IsLinkLayerAddr (lladdr_of (if b then NeighborSolicit (address_at octets 8) (lladdr_in 1 (drop 24 octets))
      else NeighborAdvert (flags_in octets) (address_at octets 8) (lladdr_in 2 (drop 24 octets))))
  by true = last_six 1 (λ n. refl) (options_in (drop 24 octets)) is.options
  by false = last_six 2 (λ n. refl) (options_in (drop 24 octets)) is.options
