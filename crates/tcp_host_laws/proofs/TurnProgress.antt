-- The acts of two lives so far, transition by transition of the host of the one.
use Rattle.std.proofs.Common.{◌≡◌, ℕ, Bool, List, [], ◌∷◌, Option, Some, sym, subst}
use Rattle.std.specs.List.{AllByRecursion}
use Rattle.net_base.specs.Checksum.{is_rx}
use Rattle.ip_address.specs.declared.cidr.IpCidr.{IpCidr}
use Rattle.host_machine.specs.Context.Host.{SocketSet}
use Rattle.host_machine.specs.Interface.Run.{Transition}
use Rattle.tcp_machine.specs.Segments as machine
use Rattle.tcp_host_laws.specs.Lives.{Life}
use Rattle.tcp_host_laws.specs.Turns.{Came}
use Rattle.tcp_host_laws.specs.Pairs.{MayCome}
use Rattle.tcp_host_laws.specs.TcpNetworks.Stations.{Station, Turn, Polled, Called, Goes, Stops, Works, Acts}
use Rattle.tcp_host_laws.specs.TcpNetworks.Orders.{began_as}
use Rattle.tcp_host_laws.proofs.Progress.{Progress, side_so_far, IsLike}
use Rattle.tcp_host_laws.proofs.PollProgress.{HasBegun, follow_begun, poll_goes_on}
use Rattle.tcp_host_laws.proofs.CallProgress.{call_begun, call_goes_on}

-- all lives have begun after it
turn_begun : (old new : Station) (before after : SocketSet) → Turn old new before after → AllByRecursion HasBegun old.lives →
    AllByRecursion HasBegun new.lives
turn_begun old new before after (Polled own lived is) all =
    subst (λ (ls : List Life). AllByRecursion HasBegun ls) (sym is)
    (follow_begun (is_rx old.carrier.checksum) own before lived.events old.lives all lived.follow)
turn_begun old new before after (Called events call same is stays) all =
    subst (λ (ls : List Life). AllByRecursion HasBegun ls) (sym is)
    (call_begun old.connections new.connections events call old.lives all)

pub step_begun : (old new : Station) (t : Transition) → Goes old (t ∷ []) new → AllByRecursion HasBegun old.lives →
    AllByRecursion HasBegun new.lives
step_begun old new t (Works none Stops) all = all
step_begun old new t (Acts act one turn Stops) all = turn_begun old new t.before.sockets t.after.sockets turn all

-- whatever comes to the one had been sent by the other, which is as it is so far
abbrev pub ComesOfPeer : (x y : Life) → Option Life → SocketSet → Type 0
ComesOfPeer x y b sockets =
    (checked : Bool) (own : List IpCidr) (s : machine.Segment) → Came checked own sockets x.ends s → MayCome (side_so_far y b).sent s

-- the life of a number is this one, as it was
abbrev pub IsEarlier : (x : Life) → ℕ → List Life → Type 0
IsEarlier x n ls = (l : Life) → began_as n ls ≡ Some l → IsLike x l

module _ (x y : Life) (n : ℕ) (b : Option Life) where
  turn_goes_on : (old new : Station) (before after : SocketSet) → ComesOfPeer x y b before → IsEarlier x n new.lives →
      AllByRecursion HasBegun old.lives → Turn old new before after → Progress x y (began_as n old.lives) b →
      Progress x y (began_as n new.lives) b
  turn_goes_on old new before after comes like all (Polled own lived is) p =
      subst (λ (ls : List Life). Progress x y (began_as n ls) b) (sym is)
      (poll_goes_on (is_rx old.carrier.checksum) own before x y n b (comes (is_rx old.carrier.checksum) own) lived.events old.lives all
      lived.follow (subst (λ (ls : List Life). IsEarlier x n ls) is like) p)
  turn_goes_on old new before after comes like all (Called events call same is stays) p =
      subst (λ (ls : List Life). Progress x y (began_as n ls) b) (sym is)
      (call_goes_on x y n b old.lives all p old.connections new.connections events call (subst (λ (ls : List Life). IsEarlier x n ls) is like))

  pub step_goes_on : (old new : Station) (t : Transition) → ComesOfPeer x y b t.before.sockets → IsEarlier x n new.lives →
      AllByRecursion HasBegun old.lives → Goes old (t ∷ []) new → Progress x y (began_as n old.lives) b →
      Progress x y (began_as n new.lives) b
  step_goes_on old new t comes like all (Works none Stops) p = p
  step_goes_on old new t comes like all (Acts act one turn Stops) p =
      turn_goes_on old new t.before.sockets t.after.sockets comes like all turn p
