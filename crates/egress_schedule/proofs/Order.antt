-- Packets that come before others.
use Rattle.std.specs.Prelude.{ℕ, zero, suc, ◌≡◌, ◌<◌, ◌≤◌, ◌+◌, Bool, true, false, List, [], ◌∷◌, length, drop, get_or, map, Option, None, refl}
use Rattle.std.proofs.Common.{sym, ap, ◌∙◌, arith}
use Rattle.std.proofs.lemmas.List.{drop_more, drop_all, length-map}
use Rattle.ip_address.specs.declared.ip.IpAddress.{IpAddress}
use Rattle.sockets.specs.Kinds.{destinations}
use Rattle.sockets.specs.declared.socket.SocketOf.{SocketOf}
use Rattle.sockets.specs.declared.socket.SocketOf.TheVariants.{Raw, Icmp, Udp, Tcp}
use Rattle.egress_schedule.specs.Passing.{before_first, is_for}
use Rattle.egress_schedule.specs.Queues.{count_to_send}

-- a socket has as many packets as destinations
pub count_is : {L : Type 0} (s : SocketOf L) → length (destinations s) ≡ count_to_send s
count_is (Raw s) = length-map s.tx.packets _
count_is (Icmp s) = length-map s.tx.packets _
count_is (Udp s) = length-map s.tx.packets _
count_is (Tcp s) = length-map s.tx.packets _

module _ (p : IpAddress → Bool) (ds : List (Option IpAddress)) where
  -- where one isn't for such an address, it is passed
  pub passed_one : (i : ℕ) → i < length ds → is_for p (get_or ds i None) ≡ false → before_first p ds ≡ i + before_first p (drop i ds) →
      before_first p ds ≡ (i + 1) + before_first p (drop (i + 1) ds)
  passed_one i there isnt so_far =
      let rest : before_first p (drop i ds) ≡ suc (before_first p (drop (i + 1) ds)) = ap (before_first p) (drop_more ds i None there) ∙ rw isnt refl in
      omega (arith, so_far, rest)

  -- where one is, it is the first
  pub found_one : (i : ℕ) → i < length ds → is_for p (get_or ds i None) ≡ true → before_first p ds ≡ i + before_first p (drop i ds) →
      i ≡ before_first p ds
  found_one i there is so_far =
      let rest : before_first p (drop i ds) ≡ 0 = ap (before_first p) (drop_more ds i None there) ∙ rw is refl in
      omega (arith, so_far, rest)

  -- where none is left, none is
  pub found_none : (i : ℕ) → length ds ≤ i → before_first p ds ≡ i + before_first p (drop i ds) → i ≡ before_first p ds
  found_none i past so_far =
      let rest : before_first p (drop i ds) ≡ 0 = ap (before_first p) (drop_all i ds past) in
      omega (arith, so_far, rest)
