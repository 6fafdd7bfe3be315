-- A message is read as it was written.
use Rattle.std.proofs.Common.{◌≡◌, ℕ, ◌+◌, ◌*◌, ◌/◌, ◌%◌, ◌<◌, ◌^◌, inl, inr, IsTrue, List, ◌++◌, refl, ap, arith}
use Rattle.std.proofs.lemmas.Bool.Decides.{nat_tests}
use Rattle.ip_address.specs.declared.ipv4.Ipv4Address.{Ipv4Address}
use Rattle.control_wire.specs.declared.igmp.IgmpVersion.TheVariants.{Version1, Version2}
use Rattle.control_wire.specs.declared.igmp.IgmpRepr.{IgmpRepr}
use Rattle.control_wire.specs.declared.igmp.IgmpRepr.TheVariants.{MembershipQuery, MembershipReport, LeaveGroup}
use Rattle.ip_wire.specs.Checksum.{checksum_of}
use Rattle.control_wire.specs.Igmp.{is_group, text_with, group_of, IsIgmp, igmp_in, ReadAgain}

number : (n : ℕ) → n < 2 ^ 32 → n / 16777216 % 256 * 16777216 + n / 65536 % 256 * 65536 + n / 256 % 256 * 256 + n % 256 ≡ n
number n lt = omega arith

-- what a message may name is four octets
fits : (a : Ipv4Address) → IsTrue (is_group a) → a.bits < 2 ^ 32
fits a is = grind (arith, nat_tests)

made : (n : ℕ) (a : Ipv4Address) → n ≡ a.bits → ◌≡◌ {A = Ipv4Address} (record { bits = n }) a
made a n e = rw e refl

named : (a b : Ipv4Address) → a ≡ b → IsTrue (is_group b) → IsTrue (is_group a)
named a b e is = rw e is

octets_again : (sum : ℕ) (r : IgmpRepr) (more : List ℕ) → IsTrue (is_group (group_of r))
    → IsIgmp (text_with sum r ++ more) × (igmp_in (text_with sum r ++ more) ≡ r)
unfolding text_with
octets_again sum (MembershipQuery code group) more is =
    let same = made _ group (number group.bits (fits group is)) in
    (record { whole = omega arith; type = inl refl; group = named _ group same is }, ap (MembershipQuery code) same)
octets_again sum (MembershipReport group Version1) more is =
    let same = made _ group (number group.bits (fits group is)) in
    (record { whole = omega arith; type = inr (inl refl); group = named _ group same is }, ap (λ (a : Ipv4Address). MembershipReport a Version1) same)
octets_again sum (MembershipReport group Version2) more is =
    let same = made _ group (number group.bits (fits group is)) in (
      record { whole = omega arith; type = inr (inr (inl refl)); group = named _ group same is },
      ap (λ (a : Ipv4Address). MembershipReport a Version2) same,
    )
octets_again sum (LeaveGroup group) more is =
    let same = made _ group (number group.bits (fits group is)) in
    (record { whole = omega arith; type = inr (inr (inr refl)); group = named _ group same is }, ap LeaveGroup same)

pub read_again : ReadAgain
read_again r more is = octets_again (checksum_of (text_with 0 r)) r more is
