-- Places that a walk passes over, as their sockets have other own ports.
use Rattle.std.proofs.Common.{◌≡◌, ◌⊎◌, ℕ, suc, ◌+◌, ◌<◌, ◌≤◌, Bool, false, List, [], ◌∷◌, length}
use Rattle.std.proofs.Common.{slice_get, Option, Some, None, inl, inr, refl, sym, ap, ◌∙◌, arith}
use Rattle.std.specs.Prelude.{◌≢◌, IfSome}
use Rattle.std.specs.List.{list_any}
use Rattle.std.specs.Option.{option_and_then}
use Rattle.std.proofs.lemmas.Bool.{cases_lt, ne_eqb}
use Rattle.ip_address.specs.declared.cidr.IpCidr.{IpCidr}
use Rattle.ip_wire.specs.declared.ip_packet.IpRepr.{IpRepr}
use Rattle.ip_wire.specs.declared.udp.UdpRepr.{UdpRepr}
use Rattle.ip_wire.specs.declared.tcp.TcpRepr.{TcpRepr}
use Rattle.control_wire.specs.declared.icmp.IcmpRepr.{IcmpRepr}
use Rattle.sockets.specs.declared.socket.SocketOf.TheVariants.{Raw, Icmp, Udp, Tcp}
use Rattle.sockets.specs.Kinds.{own_port}
use Rattle.socket_set.specs.SocketSet.{socket_at, with_places}
use Rattle.host_machine.specs.Context.Host.{SocketSet, Storage}
use Rattle.host_machine.specs.Sockets.Delivery.{to_this}
use Rattle.host_machine.specs.Sockets.Raw as raw
use Rattle.host_machine.specs.Icmp.Delivery as icmp
use Rattle.host_machine.specs.Sockets.Udp as udp
use Rattle.host_machine.specs.Sockets.Tcp as tcp
use Rattle.host_machine.proofs.Sockets.SocketIteration.{any_of, any_passed, at_later, at_place, mapped, mapped_passed}

-- a place with a socket of another own port, or none
abbrev pub IsElsewhere : Option ℕ → Storage → Type 0
IsElsewhere port place = IfSome place (λ socket. own_port socket ≢ port)

-- it has no raw socket, where that port is none
pub not_raw : (r : IpRepr) (place : Storage) → IsElsewhere None place → raw.takes r place ≡ false
not_raw r None other = refl
not_raw r (Some (Raw s)) other = absurd (other refl)
not_raw r (Some (Icmp s)) other = refl
not_raw r (Some (Udp s)) other = refl
not_raw r (Some (Tcp s)) other = refl

-- nor one for ICMP
pub not_icmp : (message : IcmpRepr) (contents : List ℕ) (place : Storage) → IsElsewhere None place → icmp.accepts message contents place ≡ false
not_icmp message contents None other = refl
not_icmp message contents (Some (Raw s)) other = refl
not_icmp message contents (Some (Icmp s)) other = absurd (other refl)
not_icmp message contents (Some (Udp s)) other = refl
not_icmp message contents (Some (Tcp s)) other = refl

-- it accepts no datagram to that port
pub not_udp : (own : List IpCidr) (r : IpRepr) (ports : UdpRepr) (place : Storage) →
    IsElsewhere (Some ports.dst_port) place → udp.accepts own r ports place ≡ false
not_udp own r ports None other = refl
not_udp own r ports (Some (Raw s)) other = refl
not_udp own r ports (Some (Icmp s)) other = refl
not_udp own r ports (Some (Udp s)) other = rw (ne_eqb s.endpoint.port ports.dst_port (λ same. other (ap Some same))) refl
not_udp own r ports (Some (Tcp s)) other = refl

-- and no segment
pub not_tcp : (r : IpRepr) (t : TcpRepr) (place : Storage) → IsElsewhere (Some t.dst_port) place → tcp.accepts r t place ≡ false
not_tcp r t None other = refl
not_tcp r t (Some (Raw s)) other = refl
not_tcp r t (Some (Icmp s)) other = refl
not_tcp r t (Some (Udp s)) other = refl
not_tcp r t (Some (Tcp s)) other = rw (ne_eqb s.local.port t.dst_port (λ same. other (ap Some same))) refl

module _ (test : Storage → Bool) (places : List Storage) where
  -- none of so many places, the first, meets the test
  abbrev pub NoneBefore : ℕ → Type 0
  NoneBefore n = (k : ℕ) (other : Storage) → k < n → slice_get places k ≡ Some other → test other ≡ false

  -- nor those behind, to another one
  after : (from to : ℕ) → NoneBefore from → ((k : ℕ) → from ≤ k → k < to → test (at_place places k) ≡ false) → NoneBefore to
  after from to before passed k other within here = by (cases_lt k from) where
    by : ((k < from) ⊎ (from ≤ k)) → test other ≡ false
    by (inl early) = before k other early here
    by (inr late) = sym (ap test (ap (option_and_then (λ place. place)) here)) ∙ passed k late within

  -- a walk begins
  pub none_passed : (to : ℕ) → ((k : ℕ) → 0 ≤ k → k < to → test (at_place places k) ≡ false) → NoneBefore to
  none_passed to passed = after 0 to (λ k other within here. absurd (omega (arith, within))) passed

  -- and goes on behind a place that doesn't meet the test
  pub one_passed : (index to : ℕ) → NoneBefore index → test (at_place places index) ≡ false →
      ((k : ℕ) → index + 1 ≤ k → k < to → test (at_place places k) ≡ false) → NoneBefore to
  one_passed index to before this passed = after index to before (λ k late within. by k within (cases_lt index k) late) where
    by : (k : ℕ) → k < to → ((index < k) ⊎ (k ≤ index)) → index ≤ k → test (at_place places k) ≡ false
    by k within (inl past) late = passed k (omega (arith, past)) within
    by k within (inr here) late = let same : k ≡ index = omega (arith, here, late) in rw same this

-- nobody is there, where none before the end meets the test
pub nobody : (test : Storage → Bool) (places : List Storage) (n : ℕ) → n ≡ length places → NoneBefore test places n → list_any test places ≡ false
nobody test [] n all none = refl
nobody test (p ∷ ps) n all none =
    let this : test p ≡ false = none 0 p (omega (arith, all)) refl in
    rw this (nobody test ps (length ps) refl (λ k other within here. none (suc k) other (omega (arith, all, within)) here))

pub none_accepts_at_all : (test : Storage → Bool) (set : SocketSet) → ((k : ℕ) → test (socket_at set k) ≡ false) → list_any test set.places ≡ false
none_accepts_at_all test set none =
    nobody test set.places (length set.places) refl (none_passed test set.places (length set.places) (λ k from to. none k))

module _ (port : Option ℕ) (test : Storage → Bool) (deliver : Storage → Storage)
    (misses : (place : Storage) → IsElsewhere port place → test place ≡ false) where
  -- a place that is passed over stays as it was
  stays : (place : Storage) → IsElsewhere port place → to_this test deliver place ≡ place
  stays place other = rw (misses place other) refl

  -- places that were passed over in a set that was changed up to them
  passed_as_before : (old now : SocketSet) (i j k : ℕ) → now ≡ with_places old (mapped (to_this test deliver) i old.places) →
      ((k : ℕ) → i ≤ k → k < j → IsElsewhere port (socket_at now k)) → i ≤ k → k < j →
      IsElsewhere port (at_place old.places k)
  passed_as_before old now i j k is passed from to =
      rw (is, at_later (to_this test deliver) old.places i k from) at (passed k from to)

  -- so a walk goes on behind them
  pub walk_passed : (old now : SocketSet) (i j : ℕ) → i ≤ j → now ≡ with_places old (mapped (to_this test deliver) i old.places) →
      ((k : ℕ) → i ≤ k → k < j → IsElsewhere port (socket_at now k)) →
      now ≡ with_places old (mapped (to_this test deliver) j old.places)
  walk_passed old now i j later is passed =
      is ∙ ap (with_places old) (mapped_passed (to_this test deliver) old.places i j later
      (λ k from to. stays (at_place old.places k) (passed_as_before old now i j k is passed from to)))

  -- and so far nobody more meets the test
  pub test_passed : (old now : SocketSet) (i j : ℕ) (so : Bool) → i ≤ j → now ≡ with_places old (mapped (to_this test deliver) i old.places) →
      ((k : ℕ) → i ≤ k → k < j → IsElsewhere port (socket_at now k)) →
      so ≡ any_of test i old.places → so ≡ any_of test j old.places
  test_passed old now i j so later is passed was =
      was ∙ any_passed test old.places i j later (λ k from to. misses (at_place old.places k) (passed_as_before old now i j k is passed from to))
