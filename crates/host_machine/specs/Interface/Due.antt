-- When a host has to be polled again: the instants at which it has work.
use Rattle.std.specs.Prelude.{◌≡◌, ℕ, ℤ, pos, ◌+ℤ◌, ◌≤ℤ◌, List, ◌∷◌, slice_get, Option, Some, None}
use Rattle.iface_tables.specs.declared.groups.GroupState.TheVariants.{Joining, Leaving}
use Rattle.iface_tables.specs.Slaac.{prefix_ends, route_ends}
use Rattle.host_machine.specs.Context.Host.{Host}
use Rattle.host_machine.specs.Multicast.Igmp.{igmp_poll_at}
use Rattle.host_machine.specs.Multicast.Mld.{mld_timeout_of}
use Rattle.host_machine.specs.Discovery.RouterSolicitation.{rs_poll_at}
use Rattle.host_machine.specs.Sockets.Polling.{SocketDue}
use Rattle.host_machine.specs.Multicast.Polling.{group_poll_at}
use Rattle.host_machine.specs.Discovery.Polling.{sync_poll_at}
pub use Rattle.net_base.specs.Instants.{earlier_of}

-- while a list has an element, there is work immediately
pub record AtOnce {A : Type 0} (xs : List A) (x : ℤ) : Type 0 where
  pub first : A
  pub others : List A
  pub are : xs ≡ first ∷ others
  pub instant : x ≡ pos 0

-- an instant at which there is work, as the host sees it at its moment: each thing that a poll may do by
-- itself has its case here
pub data Due (H : Host) (x : ℤ) : Type 0 where
  OfPiece : AtOnce H.left x → Due H x
  OfSync : sync_poll_at H ≡ Some x → Due H x
  OfSolicitation : rs_poll_at H ≡ Some x → Due H x
  OfPrefix : (i : ℕ) → slice_get (prefix_ends H.slaac.prefixes H.moment) i ≡ Some x → Due H x
  OfRouter : (i : ℕ) → slice_get (route_ends H.slaac.routers H.moment) i ≡ Some x → Due H x
  OfJoin : group_poll_at Joining H ≡ Some x → Due H x
  OfLeave : group_poll_at Leaving H ≡ Some x → Due H x
  OfIgmpReport : igmp_poll_at H ≡ Some x → Due H x
  OfMldReport : mld_timeout_of H.mld_report ≡ Some x → Due H x
  OfSocket : (i : ℕ) → SocketDue H i x → Due H x

-- the earliest of a set of instants, or none if it is empty
abbrev pub IsLeast : (ℤ → Type 0) → Option ℤ → Type 0
IsLeast P None = (x : ℤ) → P x → ⊥
IsLeast P (Some least) = P least × ((x : ℤ) → P x → least ≤ℤ x)

-- the time left from t to an instant: zero if that has passed
pub data IsRest (t : ℤ) : (end : Option ℤ) → (rest : Option ℕ) → Type 0 where
  Never : IsRest t None None
  Passed : {x : ℤ} → x ≤ℤ t → IsRest t (Some x) (Some 0)
  Left : {x : ℤ} {rest : ℕ} → t +ℤ pos rest ≡ x → IsRest t (Some x) (Some rest)
