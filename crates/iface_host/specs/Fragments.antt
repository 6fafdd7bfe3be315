-- Room for datagrams in fragments: which of them gives way to another one, by who sent it, and how long it has waited.
use Rattle.std.specs.Prelude.{ℕ, zero, suc, ℤ, pos, ◌+ℤ◌, ◌≡◌, ◌-◌, ◌&&◌, ◌||◌, not, nat_lt, int_lt, min, Bool, true, false, List, length, Option, Some, None, IfSome, if◌then◌else◌, refl}
use Rattle.std.specs.Ordering.{int_cmp, is_le}
use Rattle.std.specs.FinMap as map
use Rattle.ip_address.specs.declared.ip.IpAddress.TheVariants.{Ipv4}
use Rattle.ip_address.specs.declared.ipv4.Ipv4Address.{Ipv4Address}
use Rattle.iface_tables.specs.Neighbor.{is_later}
use Rattle.fragmentation.specs.declared.key.FragKey.{FragKey}
use Rattle.fragmentation.specs.declared.holder.Holder.{Holder}
use Rattle.fragmentation.specs.Assembly.{Assembly}
use Rattle.fragmentation.specs.Details.Holders.{holder_at, released_at, count_below, taken_of}
use Rattle.fragmentation.specs.Keys.{same_key}
use Rattle.fragmentation.specs.Slots.{without_slot}
use Rattle.host_machine.specs.Context.Host.{Host as Machine, with_slots}
use Rattle.iface_receive.specs.FragmentKey.{CarriesFragment}
use Rattle.interface.specs.Stands.{slots_in, with_slots_in}
use Rattle.guard.specs.Watch.{after_refused_fragment}
use Rattle.iface_host.specs.Properties.{machine_of, timeout_of}
use Rattle.iface_host.specs.Stands.{Follows}
use Rattle.interface.specs.declared.interface.Interface.{Interface}
use Rattle.iface_host.specs.declared.fragments.Place.{Place}
use Rattle.iface_host.specs.declared.fragments.Tally.{Tally}
use Rattle.iface_host.specs.declared.fragments.Place.TheVariants.{Free, InPlaceOf, Nowhere, Refused}
use Rattle.iface_host.specs.declared.host.IfaceHost.{IfaceHost}

-- the slots in which a host reassembles datagrams
abbrev pub slots_of : IfaceHost → List (Assembly FragKey)
slots_of host = slots_in host.interface.value

-- who sends from an address counts as known at t: he is a neighbour who is known, or no slots are kept for these
abbrev pub counts_as_known : ℤ → IfaceHost → Ipv4Address → Bool
counts_as_known t host a =
    not (host.watch.is_on && host.watch.guard.keeps_slots) || is_later t (map.get (machine_of host).neighbors.known (Ipv4 a))

abbrev pub if_held : {A : Type 0} → A → (Holder FragKey → A) → Option (Holder FragKey) → A
if_held none held None = none
if_held none held (Some h) = held h

-- a slot is held by who counts as known
abbrev pub holds_known : ℤ → IfaceHost → ℕ → Bool
holds_known t host i = if_held false (λ h. counts_as_known t host h.key.src_addr) (holder_at i (slots_of host))

-- or by a stranger
abbrev pub holds_stranger : ℤ → IfaceHost → ℕ → Bool
holds_stranger t host i = if_held false (λ h. not (counts_as_known t host h.key.src_addr)) (holder_at i (slots_of host))

-- a slot is held under a key
abbrev pub holds_key : FragKey → IfaceHost → ℕ → Bool
holds_key key host i = if_held false (λ h. same_key h.key key) (holder_at i (slots_of host))

-- when what is in a slot ends
abbrev pub end_of : IfaceHost → ℕ → ℤ
end_of host i = if_held (pos 0) (λ h. h.expires_at) (holder_at i (slots_of host))

-- what is in a slot has waited for half a second or longer, by the time for which fragments wait, a day at most
abbrev pub is_old : ℤ → IfaceHost → ℕ → Bool
is_old t host i = is_le (int_cmp (end_of host i) (t +ℤ pos (min (timeout_of host) 86400000000 - 500000)))

-- whether one of the first n numbers has a property
abbrev pub some_below : (ℕ → Bool) → ℕ → Bool
some_below p zero = false
some_below p (suc n) = some_below p n || p n

-- of two slots the one that ends first, and the first of them where they end at once
abbrev pub sooner : IfaceHost → Option ℕ → ℕ → Option ℕ
sooner host None i = Some i
sooner host (Some j) i = if int_lt (end_of host i) (end_of host j) then Some i else Some j

-- of the first n slots with a property the one that ends first
abbrev pub first_to_end : IfaceHost → (ℕ → Bool) → ℕ → Option ℕ
first_to_end host p zero = None
first_to_end host p (suc n) = if p n then sooner host (first_to_end host p n) n else first_to_end host p n

-- what is counted of the first n slots
abbrev pub tally_of : ℤ → IfaceHost → ℕ → Tally
tally_of t host n = record {
  known = count_below (holds_known t host) n;
  strangers = count_below (holds_stranger t host) n;
  first_known = first_to_end host (holds_known t host) n;
  first_stranger = first_to_end host (holds_stranger t host) n;
}

-- in place of what is in a slot, if that has waited long enough; otherwise as told
abbrev pub if_old : ℤ → IfaceHost → Option ℕ → Place → Place
if_old t host None otherwise = otherwise
if_old t host (Some i) otherwise = if is_old t host i then InPlaceOf i else otherwise

abbrev pub in_place : Option ℕ → Place
in_place None = Nowhere
in_place (Some i) = InPlaceOf i

-- in place of an old one: of a stranger's, if there is one
abbrev pub in_place_of_old : ℤ → IfaceHost → Tally → Place
in_place_of_old t host y = if_old t host y.first_stranger (if_old t host y.first_known Nowhere)

-- where another datagram of somebody known goes, among so many slots: to a free one; where those known hold fewer than half, in place of
-- the stranger's that ends first; otherwise in place of an old one
abbrev pub place_of_known : ℤ → IfaceHost → ℕ → Tally → Place
place_of_known t host room y =
    if nat_lt y.strangers (room - y.known) then Free
    else if nat_lt y.known (room - y.known) then in_place y.first_stranger
    else in_place_of_old t host y

-- where that of a stranger goes: where strangers hold fewer than half, to a free one, or in place of an old one; otherwise in place of an
-- old one of a stranger
abbrev pub place_of_stranger : ℤ → IfaceHost → ℕ → Tally → Place
place_of_stranger t host room y =
    if nat_lt y.strangers (room - y.strangers)
    then (if nat_lt y.known (room - y.strangers) then Free else in_place_of_old t host y)
    else if_old t host y.first_stranger Refused

-- Examples, of sixteen slots, and what must not be.

-- so many hold slots, and in these that which ends first is
abbrev held : (known strangers : ℕ) → (first_known first_stranger : Option ℕ) → Tally
held known strangers first_known first_stranger =
    record { known = known; strangers = strangers; first_known = first_known; first_stranger = first_stranger }

-- a free slot is taken
pub a_free_one : (t : ℤ) (host : IfaceHost) → place_of_known t host 16 (held 5 8 (Some 0) (Some 5)) ≡ Free
a_free_one t host = refl

-- of a full table somebody known takes a stranger's, however young that is; not one of somebody known
pub not_of_somebody_known : (t : ℤ) (host : IfaceHost) → place_of_known t host 16 (held 5 11 (Some 0) (Some 7)) ≡ InPlaceOf 7
not_of_somebody_known t host = refl

-- while strangers hold eight, another one's goes in place of an old one of these, or isn't taken: not to one of the seven free slots
pub not_the_ninth : (t : ℤ) (host : IfaceHost) → place_of_stranger t host 16 (held 1 8 (Some 0) (Some 5)) ≡ if_old t host (Some 5) Refused
not_the_ninth t host = refl

-- the eighth is, beside five that are known
pub the_eighth : (t : ℤ) (host : IfaceHost) → place_of_stranger t host 16 (held 5 7 (Some 0) (Some 9)) ≡ Free
the_eighth t host = refl

abbrev pub place_for : ℤ → IfaceHost → FragKey → Place
place_for t host key =
    let room = length (slots_of host) in
    let y = tally_of t host room in
    if counts_as_known t host key.src_addr then place_of_known t host room y else place_of_stranger t host room y

-- what is in a slot is let go, and nothing else changes
pub record LetsGo (i : ℕ) (old new : IfaceHost) : Type 0 where
  pub interface : Interface
  pub slots : interface ≡ with_slots_in old.interface.value (released_at i (slots_of old))
  pub same : new ≡ record old { interface = record old.interface { value = interface } }
  pub led : IfSome (holder_at i (slots_of old)) (λ h. Follows (λ H H'. H' ≡ with_slots H (without_slot H.slots h.key)) old new)

-- so room is made, and the fragment may be taken or not
abbrev pub Makes : Place → Bool → IfaceHost → IfaceHost → Type 0
Makes Free taken old new = (taken ≡ true) × (new ≡ old)
Makes (InPlaceOf i) taken old new = (taken ≡ true) × LetsGo i old new
Makes Nowhere taken old new = (taken ≡ true) × (new ≡ old)
Makes Refused taken old new = (taken ≡ false) × (new ≡ record old { watch = after_refused_fragment old.watch })

-- fewer than half of the slots are taken
abbrev pub has_few : IfaceHost → Bool
has_few host = let taken = taken_of (slots_of host) in nat_lt taken (length (slots_of host) - taken)

-- whether a slot is held under a key
abbrev pub is_served : FragKey → IfaceHost → Bool
is_served key host = some_below (holds_key key host) (length (slots_of host))

-- Room is made for a fragment, which the host may take or not. A frame without one changes nothing; nor does a fragment of a datagram
-- that has a slot; nor one while fewer than half of the slots are taken.
pub data MakesRoom (t : ℤ) (frame : List ℕ) (taken : Bool) (old new : IfaceHost) : Type 0 where
  NoFragment : ((key : FragKey) → CarriesFragment key (machine_of old) frame → ⊥) → taken ≡ true → new ≡ old → MakesRoom t frame taken old new
  Few : has_few old ≡ true → taken ≡ true → new ≡ old → MakesRoom t frame taken old new
  Served : (key : FragKey) → CarriesFragment key (machine_of old) frame → is_served key old ≡ true → taken ≡ true → new ≡ old →
      MakesRoom t frame taken old new
  Placed : (key : FragKey) → CarriesFragment key (machine_of old) frame → is_served key old ≡ false →
      Makes (place_for t old key) taken old new → MakesRoom t frame taken old new
