-- The acts of two lives so far, poll by poll of the one.
use Rattle.std.proofs.Common.{◌≡◌, ◌∙◌, ℕ, Bool, true, false, List, [], ◌∷◌, Option, Some, is_some, refl, sym, subst}
use Rattle.std.specs.Prelude.{◌==◌, if◌then◌else◌}
use Rattle.std.specs.List.{AllByRecursion}
use Rattle.std.proofs.lemmas.Bool.{false≢true}
use Rattle.ip_address.specs.declared.cidr.IpCidr.{IpCidr}
use Rattle.socket_set.specs.SocketSet.{Sockets}
use Rattle.tcp_machine.specs.Segments as machine
use Rattle.tcp_host.specs.declared.iss.Endpoints.{Endpoints}
use Rattle.tcp_host.specs.Host.{no_settings}
use Rattle.tcp_laws.specs.Machines.{Sent, Side, unopened, arrived, Act, Opens, Accepts, Writes, Reads, Closes, Aborts, Chooses, Fits, Fails, Gets, Expires, Sends}
use Rattle.tcp_host_laws.specs.Lives.{Life, side_of, Event, Does, Begins, newest, with_act, continued, begins_by_cookie, begun, after_event, after_events}
use Rattle.tcp_host_laws.specs.Turns.{Came, MayAccept, BySyn, ByCookie, MayDo, MayBegin, IsBeginning, MayHappen, MayFollow}
use Rattle.tcp_host_laws.specs.Pairs.{StandsFor, MayCome, OfPeer, OfAnyone, MayDoAt}
use Rattle.tcp_host_laws.specs.TcpNetworks.Orders.{began_as}
use Rattle.tcp_host_laws.proofs.OnlyLives.{kept_events}
use Rattle.tcp_host_laws.proofs.ActLists.{life_begun}
use Rattle.tcp_host_laws.proofs.Progress.{Progress, side_so_far, IsLike, MayGoOn, event_goes_on}

-- all lives have begun
abbrev pub HasBegun : Life → Type 0
HasBegun l = (side_of l).is_begun ≡ true

newest_by : (place : ℕ) (x : Life) (ls : List Life) (l : Life) → HasBegun x → (newest place ls ≡ Some l → HasBegun l) → (b : Bool) →
    (if b then Some x else newest place ls) ≡ Some l → HasBegun l
newest_by place x ls l one rest true e = let is : x ≡ l = cc in subst HasBegun is one
newest_by place x ls l one rest false e = rest e

pub newest_begun : (place : ℕ) (ls : List Life) (l : Life) → AllByRecursion HasBegun ls → newest place ls ≡ Some l → HasBegun l
newest_begun place [] l all e = absurd cc
newest_begun place (x ∷ ls) l all e = newest_by place x ls l all.0 (newest_begun place ls l all.1) (x.place == place) e

continued_by : (place : ℕ) (act : Act) (x : Life) (ls : List Life) → AllByRecursion HasBegun (x ∷ ls) →
    AllByRecursion HasBegun (continued place act ls) → (b : Bool) →
    AllByRecursion HasBegun (if b then with_act act x ∷ ls else x ∷ continued place act ls)
continued_by place act x ls all rest true = (life_begun x act all.0, all.1)
continued_by place act x ls all rest false = (all.0, rest)

pub continued_begun : (place : ℕ) (act : Act) (ls : List Life) → AllByRecursion HasBegun ls → AllByRecursion HasBegun (continued place act ls)
continued_begun place act [] all = tt
continued_begun place act (x ∷ ls) all = continued_by place act x ls all (continued_begun place act ls all.1) (x.place == place)

module _ {L : Type 0} (checked : Bool) (own : List IpCidr) (sockets : Sockets L) where
  begins_begun : (e : Endpoints) (place number room size : ℕ) (act : Act) → MayBegin checked own sockets e act →
      HasBegun (begun place e number room size act)
  begins_begun e place number room size (Opens now mss settings) m = absurd m
  begins_begun e place number room size (Accepts now default link settings k options) m = refl
  begins_begun e place number room size (Writes octets) m = absurd m
  begins_begun e place number room size (Reads count) m = absurd m
  begins_begun e place number room size Closes m = absurd m
  begins_begun e place number room size Aborts m = absurd m
  begins_begun e place number room size (Chooses settings) m = absurd m
  begins_begun e place number room size (Fits octets) m = absurd m
  begins_begun e place number room size Fails m = absurd m
  begins_begun e place number room size (Gets default link now keeps k options) m = absurd m
  begins_begun e place number room size (Expires now) m = absurd m
  begins_begun e place number room size (Sends now) m = absurd m

  event_begun : (e : Event) (ls : List Life) → AllByRecursion HasBegun ls → MayHappen checked own sockets ls e →
      AllByRecursion HasBegun (after_event e ls)
  event_begun (Does place act) ls all m = continued_begun place act ls all
  event_begun (Begins place e number room size act) ls all m = (begins_begun e place number room size act m, all)

  pub follow_begun : (es : List Event) (ls : List Life) → AllByRecursion HasBegun ls → MayFollow checked own sockets ls es →
      AllByRecursion HasBegun (after_events es ls)
  follow_begun [] ls all m = all
  follow_begun (e ∷ es) ls all m = follow_begun es (after_event e ls) (event_begun e ls all m.0) m.1

  -- what comes between these ends had been sent by the peer, or is a reset
  module _ (ends : Endpoints) (peer : Side) (comes : (s : machine.Segment) → Came checked own sockets ends s → MayCome peer.sent s) where
    may_do : (act : Act) (mine : Side) → mine.is_begun ≡ true → MayDo checked own sockets ends act → MayDoAt act mine peer
    may_do (Opens now mss settings) mine is m = absurd m
    may_do (Accepts now default link settings k options) mine is m = absurd m
    may_do (Writes octets) mine is m = absurd m
    may_do (Reads count) mine is m = absurd m
    may_do Closes mine is m = absurd m
    may_do Aborts mine is m = is
    may_do (Chooses settings) mine is m = absurd m
    may_do (Fits octets) mine is m = absurd m
    may_do Fails mine is m = absurd m
    may_do (Gets default link now keeps k options) mine is m = (is, comes (arrived k.segment options) m)
    may_do (Expires now) mine is m = is
    may_do (Sends now) mine is m = is

    no_reset : (s : machine.Segment) → IsBeginning s → MayCome peer.sent s → StandsFor peer.sent s
    no_reset s begins (OfPeer stands) = stands
    no_reset s begins (OfAnyone reset) = absurd (false≢true (sym begins.no_reset ∙ reset))

    accepts : (k : Sent) (options : machine.Options) → is_some k.segment.ack ≡ false → MayAccept checked own sockets ends (arrived k.segment options) →
        StandsFor peer.sent (arrived k.segment options) × (k.segment.syn ≡ true)
    accepts k options plain (BySyn came begins) =
        let s = arrived k.segment options in (no_reset s begins (comes s came), begins.syn)
    accepts k options plain (ByCookie told) = absurd (false≢true (sym plain ∙ told.acknowledges))

    may_begin : (act : Act) (room size : ℕ) → begins_by_cookie act ≡ false → MayBegin checked own sockets ends act → MayDoAt act (unopened room size no_settings) peer
    may_begin (Opens now mss settings) room size plain m = absurd m
    may_begin (Accepts now default link settings k options) room size plain m =
        let a = accepts k options plain m in (refl, a.0, a.1)
    may_begin (Writes octets) room size plain m = absurd m
    may_begin (Reads count) room size plain m = absurd m
    may_begin Closes room size plain m = absurd m
    may_begin Aborts room size plain m = absurd m
    may_begin (Chooses settings) room size plain m = absurd m
    may_begin (Fits octets) room size plain m = absurd m
    may_begin Fails room size plain m = absurd m
    may_begin (Gets default link now keeps k options) room size plain m = absurd m
    may_begin (Expires now) room size plain m = absurd m
    may_begin (Sends now) room size plain m = absurd m

    may_go_on : (e : Event) (ls : List Life) → AllByRecursion HasBegun ls → MayHappen checked own sockets ls e → MayGoOn ends peer ls e
    may_go_on (Does place act) ls all m =
        λ l new is. may_do act (side_of l) (newest_begun place ls l all new)
        (subst (λ (d : Endpoints). MayDo checked own sockets d act) is (m l new))
    may_go_on (Begins place e number room size act) ls all m =
        λ is plain. may_begin act room size plain (subst (λ (d : Endpoints). MayBegin checked own sockets d act) is m)

  pub poll_goes_on : (x y : Life) (n : ℕ) (b : Option Life) →
      ((s : machine.Segment) → Came checked own sockets x.ends s → MayCome (side_so_far y b).sent s) → (es : List Event) (ls : List Life) →
      AllByRecursion HasBegun ls → MayFollow checked own sockets ls es →
      ((l : Life) → began_as n (after_events es ls) ≡ Some l → IsLike x l) → Progress x y (began_as n ls) b →
      Progress x y (began_as n (after_events es ls)) b
  poll_goes_on x y n b comes [] ls all m like p = p
  poll_goes_on x y n b comes (e ∷ es) ls all m like p =
      poll_goes_on x y n b comes es (after_event e ls) (event_begun e ls all m.0) m.1 like
      (event_goes_on x y n b ls p e (may_go_on x.ends (side_so_far y b) comes e ls all m.0)
      (λ l is.
      let k = kept_events n es (after_event e ls) l is in
      let same = like k.life k.there in
      record { ends = sym k.ends ∙ same.ends; number = sym k.number ∙ same.number; room = sym k.room ∙ same.room; size = sym k.size ∙ same.size; is_plain = sym k.is_of_cookie ∙ same.is_plain }))
