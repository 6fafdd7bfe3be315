-- A message is read as it was written.
use Rattle.std.proofs.Common.{◌≡◌, ℕ, List, ◌∷◌, refl, arith}
use Rattle.ip_address.specs.declared.ipv6.Ipv6Address.{Ipv6Address}
use Rattle.ip_wire.specs.Ipv6Packet.{address_text}
use Rattle.ip_wire.proofs.Ipv6Again.{address_again, total}
use Rattle.control_wire.specs.declared.mld.MldRepr.{MldRepr}
use Rattle.control_wire.specs.declared.mld.MldRepr.TheVariants.{Query, Report}
use Rattle.control_wire.specs.Mld.{query_body, rest_of, IsQuery, IsReport, ReadAgain}

query_made : (n code : ℕ) (a group : Ipv6Address) (octets : List ℕ) → n ≡ code → a ≡ group
    → ◌≡◌ {A = MldRepr × List ℕ} (Query n a, octets) (Query code group, octets)
query_made n code a group octets en ea = rw (en, ea) refl

report_made : (n count : ℕ) (octets : List ℕ) → n ≡ count → ◌≡◌ {A = MldRepr × List ℕ} (Report n, octets) (Report count, octets)
report_made n count octets e = rw e refl

pub read_again : ReadAgain
unfolding query_body address_text
read_again c0 c1 (Query code group) octets h = (
  IsQuery refl refl (omega arith),
  query_made _ _ _ _ octets (total code h.0)
      (address_again group (130 ∷ 0 ∷ c0 ∷ c1 ∷ rest_of (Query code group)) (0 ∷ 0 ∷ 0 ∷ 0 ∷ octets) h.1),
)
read_again c0 c1 (Report count) octets h = (IsReport refl refl (omega arith), report_made _ _ octets (total count h))
