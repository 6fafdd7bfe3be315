-- Records of a report, one after the other.
use Rattle.std.proofs.Common.{◌≡◌, ℕ, ◌+◌, ◌*◌, ◌<◌, ◌≤◌, List, ◌∷◌, ◌++◌, drop, get_or, length, refl, ◌∙◌, arith}
use Rattle.std.proofs.lemmas.List.{at_drop_more, append_assoc}
use Rattle.ip_address.specs.declared.ip.IpAddress.TheVariants.{Ipv4, Ipv6}
use Rattle.ip_address.specs.declared.ipv4.Ipv4Address.{Ipv4Address}
use Rattle.ip_address.specs.declared.ipv6.Ipv6Address.{Ipv6Address}
use Rattle.control_wire.specs.declared.mld.MldRecordType.TheVariants.{ModeIsExclude}
use Rattle.control_wire.specs.Mld.{record_text}
use Rattle.iface_tables.specs.declared.groups.Group.{Group}
use Rattle.iface_tables.specs.Groups.{ipv6_groups}
use Rattle.host_machine.specs.Multicast.Mld.{records_of}

abbrev record_for : Ipv6Address → List ℕ
record_for a = record_text (record { record_type = ModeIsExclude; mcast_addr = a })

-- what is left behind a group of the one family, and of the other
after_v6 : (gs : List Group) (i : ℕ) (d : Group) (a : Ipv6Address) →
    i < length gs → (get_or gs i d).addr ≡ Ipv6 a → ipv6_groups (drop i gs) ≡ a ∷ ipv6_groups (drop (i + 1) gs)
after_v6 gs i d a within is = at_drop_more ipv6_groups gs i d within ∙ rw is refl

after_v4 : (gs : List Group) (i : ℕ) (d : Group) (a : Ipv4Address) →
    i < length gs → (get_or gs i d).addr ≡ Ipv4 a → ipv6_groups (drop i gs) ≡ ipv6_groups (drop (i + 1) gs)
after_v4 gs i d a within is = at_drop_more ipv6_groups gs i d within ∙ rw is refl

-- what holds of the records of the first groups
abbrev pub Pushed : List Group → ℕ → List ℕ → ℕ → Type 0
Pushed gs i records count =
    (records ++ records_of ModeIsExclude (ipv6_groups (drop i gs)) ≡ records_of ModeIsExclude (ipv6_groups gs))
    × (count + length (ipv6_groups (drop i gs)) ≡ length (ipv6_groups gs))
    × (length records ≡ count * 20)
    × (count ≤ i)

pub one_pushed : (gs : List Group) (i count : ℕ) (d : Group) (a : Ipv6Address) (records more : List ℕ) →
    i < length gs → (get_or gs i d).addr ≡ Ipv6 a → more ≡ records ++ record_for a → length more ≡ length records + 20 →
    Pushed gs i records count → Pushed gs (i + 1) more (count + 1)
one_pushed gs i count d a records more within is pushed len p =
    let after = after_v6 gs i d a within is in (
      rw pushed (append_assoc records (record_for a) (records_of ModeIsExclude (ipv6_groups (drop (i + 1) gs))) ∙ (rw after at p.0)),
      (let counted = rw after at p.1 in omega (arith, counted)),
      (let so = p.2 in omega (arith, so, len)),
      (let so = p.3 in omega (arith, so)),
    )

pub none_pushed : (gs : List Group) (i count : ℕ) (d : Group) (a : Ipv4Address) (records : List ℕ) →
    i < length gs → (get_or gs i d).addr ≡ Ipv4 a → Pushed gs i records count → Pushed gs (i + 1) records count
none_pushed gs i count d a records within is p =
    let after = after_v4 gs i d a within is in (rw after at p.0, rw after at p.1, p.2, (let so = p.3 in omega (arith, so)))
