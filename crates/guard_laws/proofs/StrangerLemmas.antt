-- What strangers can't do, by one frame and by many.
use Rattle.std.proofs.Common.{◌≡◌, ◌≢◌, ℕ, ◌+◌, ◌*◌, ◌≤◌, ◌<◌, Bool, true, false, List, [], ◌∷◌, refl, sym, ap, subst, ◌∙◌, arith}
use Rattle.std.specs.Prelude.{cond, ℤ, pos, ◌<ℤ◌, ◌≤ℤ◌, ◌==◌, ◌&&◌, ◌||◌, nat_lt, Option, Some, None, IsTrue, is_some, if◌then◌else◌}
use Rattle.std.specs.Ordering.{eq_by_cmp}
use Rattle.std.proofs.lemmas.Bool.Decides.{nat_tests}
use Rattle.std.proofs.lemmas.Int.{ints}
use Rattle.std.proofs.lemmas.Slice.Eq.{bytes_eq-Decides}
use Rattle.std.specs.FinMap as map
use Rattle.std.specs.FinMap.{get-insert, get-remove, same_map}
use Rattle.ip_address.specs.Ip.{address_cmp}
use Rattle.ip_address.specs.declared.hardware.HardwareAddress.{HardwareAddress}
use Rattle.ip_address.specs.declared.hardware.HardwareAddress.TheVariants.{Ethernet, Ip}
use Rattle.ip_address.specs.declared.ip.IpAddress.{IpAddress}
use Rattle.iface_tables.specs.Neighbor.{IsLeastEnd, Neighbors, Puts, after_limit, count_after, is_before, is_same, limited_from, renewed_from}
use Rattle.iface_tables.specs.declared.neighbor.Neighbor.{Neighbor}
use Rattle.iface_tables.proofs.EntriesLemmas.{tied, tied_itself}
use Rattle.iface_tables.proofs.NeighborLemmas.{address_total, address_same}
use Rattle.guard.specs.Kind.{kind_of}
use Rattle.guard.specs.Strangers.{end_of_stay, has_address, is_packet, leaves_half, limit_at, limit_for, limit_of}
use Rattle.guard.specs.Strangers.{limit_of_confirmed, limit_of_new, limit_of_stranger, limited, may_have_entry, sender_of, teaches_nobody}
use Rattle.guard.specs.Guard.{was_asked}
use Rattle.guard.specs.declared.guard.Guard.{Guard}
use Rattle.guard.specs.declared.kind.Kind.{Kind}
use Rattle.guard.specs.declared.strangers.Limit.{Limit}
use Rattle.guard_laws.specs.Strangers.{All, AreFew, AreInOrder, Arrived, ConfirmedStay, End, HaveStay, IsAtNoOther, IsKnownUntil, KnowSame, Learns, Leaves, Less}
use Rattle.guard_laws.specs.Strangers.{Nobody, Renewed, Runs, StaysAt, Stored, Then}
use Rattle.guard_laws.proofs.CountLemmas.{Known, before, count-all, count-fewer, count-insert, count-insert_soon, count-insert_there, count-remove, lt_of}

-- what a frame of somebody did: nothing; or he was put over his entry or where there was room; or in the place of one of least end
pub data Came (room : ℕ) (old new : Known) (a : IpAddress) (teaches_none : Bool) (end : ℤ) : Type 0 where
  Same : new ≡ old → Came room old new a teaches_none end
  Over : (x : Neighbor) → x.expires_at ≡ end → (map.get old a ≡ None → teaches_none ≡ false) → new ≡ map.insert old a x →
      Came room old new a teaches_none end
  InPlace : (x : Neighbor) → x.expires_at ≡ end → teaches_none ≡ false → (v : IpAddress) → IsLeastEnd old v → room ≤ map.len old →
      map.get old a ≡ None → new ≡ map.insert (map.remove old v) a x → Came room old new a teaches_none end

stored : (room : ℕ) (old new : Known) (a : IpAddress) (n : Neighbor) (teaches_none : Bool) → teaches_none ≡ false → Puts room old new a n →
    Came room old new a teaches_none n.expires_at
stored room old new a n teaches_none teaches puts = by (map.get old a) refl where
  by_room : (b : Bool) → nat_lt (map.len old) room ≡ b → map.get old a ≡ None → Came room old new a teaches_none n.expires_at
  by_room true less none = Over n refl (λ _. teaches) (puts.room (grind (arith, nat_tests)))
  by_room false more none =
      let many : room ≤ map.len old = grind (arith, nat_tests) in
      let f = puts.full none many in
      InPlace n refl teaches f.0 f.1 many none f.2

  by : (o : Option Neighbor) → map.get old a ≡ o → Came room old new a teaches_none n.expires_at
  by None is = by_room (nat_lt (map.len old) room) refl is
  by (Some x) is =
      let t : IsTrue (is_some (map.get old a)) = rw is refl in
      Over n refl (λ none. absurd (let bad : Some x ≡ None = sym is ∙ none in cc)) (puts.there t)

renewed : (room : ℕ) (old new : Known) (a : IpAddress) (h : HardwareAddress) (teaches_none : Bool) (end : ℤ) →
    new ≡ renewed_from (map.get old a) old a h end → Came room old new a teaches_none end
renewed room old new a h teaches_none end is = by (map.get old a) refl is where
  by : (o : Option Neighbor) → map.get old a ≡ o → new ≡ renewed_from o old a h end → Came room old new a teaches_none end
  by None none same = Same same
  by (Some n) some same = here (is_same n.hardware_addr h) same where
    here : (b : Bool) → new ≡ (if b then map.insert old a (record n { expires_at = end }) else old) → Came room old new a teaches_none end
    here true put = Over (record n { expires_at = end }) refl (λ none. absurd (let bad : Some n ≡ None = sym some ∙ none in cc)) put
    here false put = Same put

pub came : (c : Arrived) (a : IpAddress) (old new : Neighbors) → Learns c a old new →
    Came old.room old.known new.known a (teaches_nobody (kind_of c.frame)) (pos (c.at + 60000000))
came c a old new (Nobody (same, room)) = Same same
came c a old new (Stored h teaches puts room) = stored old.room old.known new.known a _ (teaches_nobody (kind_of c.frame)) teaches puts
came c a old new (Renewed h (is, room)) = renewed old.room old.known new.known a h (teaches_nobody (kind_of c.frame)) (pos (c.at + 60000000)) is

pub room_same : (c : Arrived) (a : IpAddress) (old new : Neighbors) → Learns c a old new → new.room ≡ old.room
room_same c a old new (Nobody (same, room)) = room
room_same c a old new (Stored h teaches puts room) = room
room_same c a old new (Renewed h (is, room)) = room

-- where the same are known, the same is so of them
pub same_until : (old new : Neighbors) (b : IpAddress) (h : HardwareAddress) (end : ℕ) → KnowSame old new → IsKnownUntil old b h end →
    IsKnownUntil new b h end
same_until old new b h end same k = record {
  neighbor = k.neighbor;
  is_there = ap (λ (m : Known). map.get m b) same.0 ∙ k.is_there;
  hardware = k.hardware;
  lasts = k.lasts;
}

pub same_other : (old new : Neighbors) (b : IpAddress) (h : HardwareAddress) → KnowSame old new → IsAtNoOther b h new → IsAtNoOther b h old
same_other old new b h same only n is = only n (ap (λ (m : Known). map.get m b) same.0 ∙ is)

-- putting twice at an address is putting the second
pub put_twice : (m : Known) (a : IpAddress) (x y : Neighbor) → map.insert (map.insert m a x) a y ≡ map.insert m a y
put_twice m a x y = same_map address_total address_same _ _ (λ q.
    get-insert address_total (map.insert m a x) a y q ∙ by q (eq_by_cmp address_cmp q a) refl ∙ sym (get-insert address_total m a y q)) where
      by : (q : IpAddress) (b : Bool) → eq_by_cmp address_cmp q a ≡ b → cond b (Some y) (map.get (map.insert m a x) q) ≡ cond b (Some y) (map.get m q)
      by q true e = refl
      by q false e = get-insert address_total m a x q ∙ ap (λ b. cond b (Some x) (map.get m q)) e

-- an instant isn't before itself
not_before : (t : ℤ) → is_before t t ≡ false
not_before t = by (is_before t t) refl where
  by : (b : Bool) → is_before t t ≡ b → b ≡ false
  by true e = absurd (let less : t <ℤ t = lt_of t t e in omega (arith, ints))
  by false e = refl

-- what is limited isn't counted
count-limit : (t : ℤ) (m : Known) (a : IpAddress) → count_after t (limited_from (map.get m a) m a t) ≤ count_after t m
count-limit t m a = by (map.get m a) where
  by : (o : Option Neighbor) → count_after t (limited_from o m a t) ≤ count_after t m
  by None = omega arith
  by (Some n) = here (is_before t n.expires_at) where
    here : (b : Bool) → count_after t (if b then map.insert m a (record n { expires_at = t }) else m) ≤ count_after t m
    here true = count-insert_soon t m a (record n { expires_at = t }) (not_before t)
    here false = omega arith

pub found : (m : Known) (a : IpAddress) (x : Neighbor) → map.get (map.insert m a x) a ≡ Some x
found m a x = get-insert address_total m a x a ∙ ap (λ b. cond b (Some x) (map.get m a)) (tied_itself address_total address_same a)

count-limit_put : (t : ℤ) (m : Known) (a : IpAddress) (x : Neighbor) →
    count_after t (limited_from (map.get (map.insert m a x) a) (map.insert m a x) a t) ≤ count_after t m
count-limit_put t m a x = rw (found m a x) (by (is_before t x.expires_at) refl) where
  by : (b : Bool) → is_before t x.expires_at ≡ b →
      count_after t (if b then map.insert (map.insert m a x) a (record x { expires_at = t }) else map.insert m a x) ≤ count_after t m
  by true late = rw (put_twice m a x (record x { expires_at = t })) (count-insert_soon t m a (record x { expires_at = t }) (not_before t))
  by false soon = count-insert_soon t m a x soon

-- so many were counted, and one more
pub one_more : (t : ℤ) (room : ℕ) (old new : Known) (a : IpAddress) (teaches_none : Bool) (end : ℤ) → Came room old new a teaches_none end →
    count_after t new ≤ count_after t old + 1
one_more t room old new a teaches_none end (Same same) = rw same (omega arith)
one_more t room old new a teaches_none end (Over x e none put) = rw put (count-insert t old a x)
one_more t room old new a teaches_none end (InPlace x e teaches v least full none put) =
    let first = count-insert t (map.remove old v) a x in
    let second = count-remove t old v in
    rw put (omega (arith, first, second))

-- where who came is limited, no more are counted
limited_count : (t : ℤ) (room : ℕ) (old new : Known) (a : IpAddress) (teaches_none : Bool) (end : ℤ) → Came room old new a teaches_none end →
    count_after t (limited_from (map.get new a) new a t) ≤ count_after t old
limited_count t room old new a teaches_none end (Same same) = rw same (count-limit t old a)
limited_count t room old new a teaches_none end (Over x e none put) = rw put (count-limit_put t old a x)
limited_count t room old new a teaches_none end (InPlace x e teaches v least full none put) =
    let first = count-limit_put t (map.remove old v) a x in
    let second = count-remove t old v in
    rw put (omega (arith, first, second))

-- nor where he was counted before
confirmed_count : (t : ℤ) (room : ℕ) (old new : Known) (a : IpAddress) (n : Neighbor) (teaches_none : Bool) (end : ℤ) → map.get old a ≡ Some n →
    is_before t n.expires_at ≡ true → Came room old new a teaches_none end → count_after t new ≤ count_after t old
confirmed_count t room old new a n teaches_none end is late (Same same) = rw same (omega arith)
confirmed_count t room old new a n teaches_none end is late (Over x e none put) = rw put (count-insert_there t old a x n is late)
confirmed_count t room old new a n teaches_none end is late (InPlace x e teaches v least full none put) =
    absurd (let bad : Some n ≡ None = sym is ∙ none in cc)

unanswered : (h : Option Neighbor) → has_address h None ≡ false
unanswered None = refl
unanswered (Some n) = refl

half : (c c' room most : ℕ) → room ≤ 2 * most → 2 * c < room → c' ≤ c + 1 → c' ≤ most
half c c' room most share few more = omega (arith, share, few, more)

fewer : (c c' most : ℕ) → c ≤ most → c' ≤ c → c' ≤ most
fewer c c' most few less = omega (arith, few, less)

-- after any limit of a frame few are confirmed
module _ (most : ℕ) (now : ℤ) (kind : Kind) (a : IpAddress) (g : Guard) (old learnt : Neighbors) (end : ℤ) (share : old.room ≤ 2 * most)
    (did : Came old.room old.known learnt.known a (teaches_nobody kind) end)
    (few : count_after (end_of_stay now g) old.known ≤ most) where
  t : ℤ
  t = end_of_stay now g

  abbrev StaysFew : Neighbors → Type 0
  StaysFew k = count_after (end_of_stay now g) k.known ≤ most

  by_half : leaves_half now old g ≡ true → StaysFew learnt
  by_half is =
      let less : 2 * count_after (end_of_stay now g) old.known < old.room = grind (arith, nat_tests) in
      half (count_after (end_of_stay now g) old.known) (count_after (end_of_stay now g) learnt.known) old.room most share less
      (one_more (end_of_stay now g) old.room old.known learnt.known a (teaches_nobody kind) end did)

  by_limit : StaysFew (after_limit learnt a (end_of_stay now g))
  by_limit =
      fewer (count_after (end_of_stay now g) old.known)
      (count_after (end_of_stay now g) (limited_from (map.get learnt.known a) learnt.known a (end_of_stay now g))) most few
      (limited_count (end_of_stay now g) old.room old.known learnt.known a (teaches_nobody kind) end did)

  -- he isn't stored, and nobody is taught
  nothing : teaches_nobody kind ≡ true → map.get old.known a ≡ None → StaysFew learnt
  nothing teaches none = by did where
    by : Came old.room old.known learnt.known a (teaches_nobody kind) end → StaysFew learnt
    by (Same same) = rw same few
    by (Over x e if_none put) = let bad : teaches_nobody kind ≡ false = if_none none in absurd cc
    by (InPlace x e other v least full n put) = absurd cc

  few_new : map.get old.known a ≡ None → StaysFew (limited (limit_of_new now kind a old g) learnt)
  few_new none = by (teaches_nobody kind) refl (was_asked now a g.asked) (leaves_half now old g) refl where
    by : (b : Bool) → teaches_nobody kind ≡ b → (d l : Bool) → leaves_half now old g ≡ l →
        StaysFew (limited (if b || (d && l) then None else Some (limit_at now a None g)) learnt)
    by true teaches d l half = nothing teaches none
    by false teaches true true half = by_half half
    by false teaches true false half = rw (unanswered (map.get learnt.known a)) by_limit
    by false teaches false l half = rw (unanswered (map.get learnt.known a)) by_limit

  few_stranger : StaysFew (limited (limit_of_stranger now kind a old g) learnt)
  few_stranger = by (is_packet kind || was_asked now a g.asked) (leaves_half now old g) refl where
    by : (p l : Bool) → leaves_half now old g ≡ l →
        StaysFew (limited (if p && l then None else Some (limit_at now a None g)) learnt)
    by true true half = by_half half
    by true false half = rw (unanswered (map.get learnt.known a)) by_limit
    by false l half = rw (unanswered (map.get learnt.known a)) by_limit

  few_confirmed : (n : Neighbor) → map.get old.known a ≡ Some n → is_before (end_of_stay now g) n.expires_at ≡ true →
      StaysFew (limited (limit_of_confirmed now kind a n g) learnt)
  few_confirmed n is late = by (is_packet kind) where
    kept : StaysFew learnt
    kept = fewer (count_after (end_of_stay now g) old.known) (count_after (end_of_stay now g) learnt.known) most few
        (confirmed_count (end_of_stay now g) old.room old.known learnt.known a n (teaches_nobody kind) end is late did)

    by : (p : Bool) → StaysFew (limited (if p then None else Some (limit_at now a (Some n.hardware_addr) g)) learnt)
    by true = kept
    by false = here (has_address (map.get learnt.known a) (Some n.hardware_addr)) where
      here : (b : Bool) → StaysFew (if b then learnt else after_limit learnt a (end_of_stay now g))
      here true = kept
      here false = by_limit

  few_after : StaysFew (limited (limit_of now kind a old (map.get old.known a) g) learnt)
  few_after = by (map.get old.known a) refl where
    by : (o : Option Neighbor) → map.get old.known a ≡ o → StaysFew (limited (limit_of now kind a old o g) learnt)
    by None none = few_new none
    by (Some n) is = here (is_before (end_of_stay now g) n.expires_at) refl where
      here : (b : Bool) → is_before (end_of_stay now g) n.expires_at ≡ b →
          StaysFew (limited (if b then limit_of_confirmed now kind a n g else limit_of_stranger now kind a old g) learnt)
      here true late = few_confirmed n is late
      here false soon = few_stranger

-- other addresses

other_kept : (m : Known) (a b : IpAddress) (t : ℤ) → eq_by_cmp address_cmp b a ≡ false → map.get (limited_from (map.get m a) m a t) b ≡ map.get m b
other_kept m a b t apart = by (map.get m a) where
  by : (o : Option Neighbor) → map.get (limited_from o m a t) b ≡ map.get m b
  by None = refl
  by (Some n) = here (is_before t n.expires_at) where
    here : (d : Bool) → map.get (if d then map.insert m a (record n { expires_at = t }) else m) b ≡ map.get m b
    here true = get-insert address_total m a (record n { expires_at = t }) b
        ∙ ap (λ d. cond d (Some (record n { expires_at = t })) (map.get m b)) apart
    here false = refl

-- a limit of one address leaves the others
pub limit_leaves : (known : Neighbors) (limit : Option Limit) (a b : IpAddress) → ((l : Limit) → limit ≡ Some l → l.address ≡ a) →
    eq_by_cmp address_cmp b a ≡ false → map.get (limited limit known).known b ≡ map.get known.known b
limit_leaves known None a b of apart = refl
limit_leaves known (Some l) a b of apart = by (has_address (map.get known.known l.address) l.unless) where
  other : eq_by_cmp address_cmp b l.address ≡ false
  other = rw (of l refl) apart

  by : (d : Bool) → map.get (if d then known else after_limit known l.address l.expires_at).known b ≡ map.get known.known b
  by true = refl
  by false = other_kept known.known l.address b l.expires_at other

-- each limit of a frame is of its sender
of_new : (now : ℤ) (kind : Kind) (a : IpAddress) (known : Neighbors) (g : Guard) (l : Limit) → limit_of_new now kind a known g ≡ Some l → l.address ≡ a
of_new now kind a known g l is = by (teaches_nobody kind || (was_asked now a g.asked && leaves_half now known g)) is where
  by : (d : Bool) → (if d then None else Some (limit_at now a None g)) ≡ Some l → l.address ≡ a
  by true e = absurd cc
  by false e = let same : limit_at now a None g ≡ l = cc in sym (ap (λ (x : Limit). x.address) same)

of_stranger : (now : ℤ) (kind : Kind) (a : IpAddress) (known : Neighbors) (g : Guard) (l : Limit) →
    limit_of_stranger now kind a known g ≡ Some l → l.address ≡ a
of_stranger now kind a known g l is = by ((is_packet kind || was_asked now a g.asked) && leaves_half now known g) is where
  by : (d : Bool) → (if d then None else Some (limit_at now a None g)) ≡ Some l → l.address ≡ a
  by true e = absurd cc
  by false e = let same : limit_at now a None g ≡ l = cc in sym (ap (λ (x : Limit). x.address) same)

of_confirmed : (now : ℤ) (kind : Kind) (a : IpAddress) (n : Neighbor) (g : Guard) (l : Limit) → limit_of_confirmed now kind a n g ≡ Some l → l.address ≡ a
of_confirmed now kind a n g l is = by (is_packet kind) is where
  by : (d : Bool) → (if d then None else Some (limit_at now a (Some n.hardware_addr) g)) ≡ Some l → l.address ≡ a
  by true e = absurd cc
  by false e = let same : limit_at now a (Some n.hardware_addr) g ≡ l = cc in sym (ap (λ (x : Limit). x.address) same)

pub of_sender : (now : ℤ) (kind : Kind) (a : IpAddress) (known : Neighbors) (o : Option Neighbor) (g : Guard) (l : Limit) →
    limit_of now kind a known o g ≡ Some l → l.address ≡ a
of_sender now kind a known None g l is = of_new now kind a known g l is
of_sender now kind a known (Some n) g l is = by (is_before (end_of_stay now g) n.expires_at) is where
  by : (d : Bool) → (if d then limit_of_confirmed now kind a n g else limit_of_stranger now kind a known g) ≡ Some l → l.address ≡ a
  by true e = of_confirmed now kind a n g l e
  by false e = of_stranger now kind a known g l e

-- one that is counted isn't of least end where so few are that one isn't
not_evicted : (t : ℤ) (most room : ℕ) (m : Known) (b : IpAddress) (n : Neighbor) → most < room → count_after t m ≤ most → room ≤ map.len m →
    map.get m b ≡ Some n → is_before t n.expires_at ≡ true → IsLeastEnd m b → ⊥
not_evicted t most room m b n less few full is late least =
    let same : least.entry ≡ n = let e : Some least.entry ≡ Some n = sym least.is_there ∙ is in cc in
    let all : count_after t m ≡ map.len m = count-all t m (λ a x there.
    let less : t <ℤ n.expires_at = lt_of t n.expires_at late in
    let le : least.entry.expires_at ≤ℤ x.expires_at = least.least a x there in
    let le' : n.expires_at ≤ℤ x.expires_at = subst (λ (y : Neighbor). y.expires_at ≤ℤ x.expires_at) same le in
    before t x.expires_at (omega (arith, ints))) in
    omega (arith, less, few, full, all)

-- who is confirmed stays where somebody else came
other_came : (t : ℤ) (most room : ℕ) (old new : Known) (a b : IpAddress) (n : Neighbor) (teaches_none : Bool) (end : ℤ) → most < room →
    count_after t old ≤ most → map.get old b ≡ Some n → is_before t n.expires_at ≡ true → eq_by_cmp address_cmp b a ≡ false →
    Came room old new a teaches_none end → map.get new b ≡ Some n
other_came t most room old new a b n teaches_none end less few is late apart (Same same) = ap (λ (m : Known). map.get m b) same ∙ is
other_came t most room old new a b n teaches_none end less few is late apart (Over x e none put) =
    ap (λ (m : Known). map.get m b) put ∙ get-insert address_total old a x b ∙ ap (λ d. cond d (Some x) (map.get old b)) apart ∙ is
other_came t most room old new a b n teaches_none end less few is late apart (InPlace x e teaches v least full none put) =
    ap (λ (m : Known). map.get m b) put ∙ get-insert address_total (map.remove old v) a x b
    ∙ ap (λ d. cond d (Some x) (map.get (map.remove old v) b)) apart ∙ get-remove address_total old v b
    ∙ by (eq_by_cmp address_cmp b v) refl where
      by : (d : Bool) → eq_by_cmp address_cmp b v ≡ d → cond d None (map.get old b) ≡ Some n
      by true same =
          let key : b ≡ v = tied address_total address_same b v same in
          absurd (not_evicted t most room old b n less few full is late (subst (λ (w : IpAddress). IsLeastEnd old w) (sym key) least))
      by false other = is

-- his own entry lasts as long as it did, or for a minute
pub record Lasts (m : Known) (b : IpAddress) (end : ℤ) : Type 0 where
  pub neighbor : Neighbor
  pub is_there : map.get m b ≡ Some neighbor
  pub lasts : end ≤ℤ neighbor.expires_at

pub own_came : (room : ℕ) (old new : Known) (b : IpAddress) (n : Neighbor) (teaches_none : Bool) (end minute : ℤ) → map.get old b ≡ Some n →
    end ≤ℤ n.expires_at → end ≤ℤ minute → Came room old new b teaches_none minute → Lasts new b end
own_came room old new b n teaches_none end minute is lasts later (Same same) = record {
  neighbor = n;
  is_there = ap (λ (m : Known). map.get m b) same ∙ is;
  lasts = lasts;
}
own_came room old new b n teaches_none end minute is lasts later (Over x e none put) = record {
  neighbor = x;
  is_there = ap (λ (m : Known). map.get m b) put ∙ found old b x;
  lasts = rw e later;
}
own_came room old new b n teaches_none end minute is lasts later (InPlace x e teaches v least full none put) =
    absurd (let bad : Some n ≡ None = sym is ∙ none in cc)

same_hardware : (h : HardwareAddress) → is_same h h ≡ true
same_hardware Ip = refl
same_hardware (Ethernet x) = (bytes_eq-Decides x.0 x.0).1 refl

-- one that is limited has its hardware address still
limited_hardware : (m : Known) (b : IpAddress) (t : ℤ) (n : Neighbor) → map.get m b ≡ Some n →
    (x : Neighbor) × (map.get (limited_from (map.get m b) m b t) b ≡ Some x) × (x.hardware_addr ≡ n.hardware_addr)
limited_hardware m b t n is = rw is (by (is_before t n.expires_at)) where
  by : (d : Bool) → (x : Neighbor) × (map.get (if d then map.insert m b (record n { expires_at = t }) else m) b ≡ Some x)
      × (x.hardware_addr ≡ n.hardware_addr)
  by true = (record n { expires_at = t }, found m b (record n { expires_at = t }), refl)
  by false = (n, is, refl)

-- so the entry of one that is confirmed, and is at no other hardware address afterwards, isn't limited by his own frames
own_limit : (now : ℤ) (kind : Kind) (b : IpAddress) (h : HardwareAddress) (g : Guard) (learnt : Neighbors) (n x : Neighbor) → n.hardware_addr ≡ h →
    map.get learnt.known b ≡ Some x → IsAtNoOther b h (limited (limit_of_confirmed now kind b n g) learnt) →
    limited (limit_of_confirmed now kind b n g) learnt ≡ learnt
own_limit now kind b h g learnt n x at is only = by (is_packet kind) only where
  by : (p : Bool) → IsAtNoOther b h (limited (if p then None else Some (limit_at now b (Some n.hardware_addr) g)) learnt) →
      limited (if p then None else Some (limit_at now b (Some n.hardware_addr) g)) learnt ≡ learnt
  by true o = refl
  by false o = here (has_address (map.get learnt.known b) (Some n.hardware_addr)) refl o where
    same : x.hardware_addr ≡ h → has_address (map.get learnt.known b) (Some n.hardware_addr) ≡ true
    same e = rw (is, e, at) (same_hardware h)

    here : (d : Bool) → has_address (map.get learnt.known b) (Some n.hardware_addr) ≡ d →
        IsAtNoOther b h (if d then learnt else after_limit learnt b (end_of_stay now g)) →
        (if d then learnt else after_limit learnt b (end_of_stay now g)) ≡ learnt
    here true e p = refl
    here false e p =
        let entry = limited_hardware learnt.known b (end_of_stay now g) x is in
        let one : entry.0.hardware_addr ≡ h = p entry.0 entry.1 in
        absurd (let bad : true ≡ false = sym (same (sym entry.2 ∙ one)) ∙ e in cc)

-- a guard by which strangers have a stay limits whoever sends a frame
pub limit_is : (c : Arrived) (old : Neighbors) → c.guard.strangers_stay ≢ 0 → (a : IpAddress) → sender_of (kind_of c.frame) ≡ Some a →
    may_have_entry c.own a ≡ true →
    limit_for (pos c.at) c.frame c.own old c.guard ≡ limit_of (pos c.at) (kind_of c.frame) a old (map.get old.known a) c.guard
limit_is c old some a sender may =
    let on : (c.guard.strangers_stay == 0) ≡ false = grind (arith, nat_tests) in
    rw (sender, on, may) refl

pub kept_room : (l : Option Limit) (k : Neighbors) → (limited l k).room ≡ k.room
kept_room None k = refl
kept_room (Some l) k = by (has_address (map.get k.known l.address) l.unless) where
  by : (d : Bool) → (if d then k else after_limit k l.address l.expires_at).room ≡ k.room
  by true = refl
  by false = refl

-- one frame
pub record Keeps (most t : ℕ) (b : IpAddress) (h : HardwareAddress) (end : ℕ) (known : Neighbors) : Type 0 where
  pub share : known.room ≤ 2 * most
  pub less : most < known.room
  pub few : AreFew most t known
  pub is_known : IsKnownUntil known b h end

same_keeps : (most t : ℕ) (b : IpAddress) (h : HardwareAddress) (end : ℕ) (old new : Neighbors) → KnowSame old new → Keeps most t b h end old →
    Keeps most t b h end new
same_keeps most t b h end old new same keeps = record {
  share = subst (λ (r : ℕ). r ≤ 2 * most) (sym same.1) keeps.share;
  less = subst (λ (r : ℕ). most < r) (sym same.1) keeps.less;
  few = subst (λ (m : Known). count_after (pos t) m ≤ most) (sym same.0) keeps.few;
  is_known = same_until old new b h end same keeps.is_known;
}

module _ (most : ℕ) (c : Arrived) (b : IpAddress) (h : HardwareAddress) (end : ℕ) (old : Neighbors) (keeps : Keeps most (c.at + c.guard.strangers_stay) b h end old)
    (some : c.guard.strangers_stay ≢ 0) (minute : end ≤ c.at + 60000000) (left : c.at + c.guard.strangers_stay < end) where
  confirmed_b : is_before (pos (c.at + c.guard.strangers_stay)) keeps.is_known.neighbor.expires_at ≡ true
  confirmed_b =
      let lasts = keeps.is_known.lasts in
      before (pos (c.at + c.guard.strangers_stay)) keeps.is_known.neighbor.expires_at (omega (arith, ints, lasts, left))

  lasts_by : (a : IpAddress) (learnt : Neighbors) → Learns c a old learnt → (d : Bool) → eq_by_cmp address_cmp b a ≡ d →
      IsAtNoOther b h (limited (limit_of (pos c.at) (kind_of c.frame) a old (map.get old.known a) c.guard) learnt) →
      IsKnownUntil (limited (limit_of (pos c.at) (kind_of c.frame) a old (map.get old.known a) c.guard) learnt) b h end
  lasts_by a learnt learns false apart only =
      let n = keeps.is_known.neighbor in
      let stays : map.get learnt.known b ≡ Some n =
      other_came (pos (c.at + c.guard.strangers_stay)) most old.room old.known learnt.known a b n (teaches_nobody (kind_of c.frame)) (pos (c.at + 60000000))
      keeps.less keeps.few keeps.is_known.is_there confirmed_b apart (came c a old learnt learns) in
      record {
        neighbor = n;
        is_there =
            limit_leaves learnt (limit_of (pos c.at) (kind_of c.frame) a old (map.get old.known a) c.guard) a b
            (λ l is. of_sender (pos c.at) (kind_of c.frame) a old (map.get old.known a) c.guard l is) apart ∙ stays;
        hardware = keeps.is_known.hardware;
        lasts = keeps.is_known.lasts;
      }
  lasts_by a learnt learns true same only =
      let n = keeps.is_known.neighbor in
      let key : a ≡ b = sym (tied address_total address_same b a same) in
      let is : map.get old.known a ≡ Some n = ap (map.get old.known) key ∙ keeps.is_known.is_there in
      let late : is_before (end_of_stay (pos c.at) c.guard) n.expires_at ≡ true = confirmed_b in
      let limit : limit_of (pos c.at) (kind_of c.frame) a old (map.get old.known a) c.guard ≡ limit_of_confirmed (pos c.at) (kind_of c.frame) b n c.guard =
      rw (is, late, key) refl in
      let l = own_came old.room old.known learnt.known b n (teaches_nobody (kind_of c.frame)) (pos end) (pos (c.at + 60000000))
      keeps.is_known.is_there keeps.is_known.lasts (omega (arith, ints, minute))
      (subst (λ (x : IpAddress). Came old.room old.known learnt.known x (teaches_nobody (kind_of c.frame)) (pos (c.at + 60000000))) key (came c a old learnt learns)) in
      let only' : IsAtNoOther b h (limited (limit_of_confirmed (pos c.at) (kind_of c.frame) b n c.guard) learnt) = rw (← limit) only in
      let whole : limited (limit_of_confirmed (pos c.at) (kind_of c.frame) b n c.guard) learnt ≡ learnt =
      own_limit (pos c.at) (kind_of c.frame) b h c.guard learnt n l.neighbor keeps.is_known.hardware l.is_there only' in
      rw (limit, whole) (record {
        neighbor = l.neighbor;
        is_there = l.is_there;
        hardware = (rw whole at only') l.neighbor l.is_there;
        lasts = l.lasts;
      })

  step : (new : Neighbors) → Leaves c old new → IsAtNoOther b h new → Keeps most (c.at + c.guard.strangers_stay) b h end new
  step new (All same) only = same_keeps most (c.at + c.guard.strangers_stay) b h end old new same keeps
  step new (Less a learnt sender may learns is) only =
      let limit = limit_is c old some a sender may in
      let is' : KnowSame (limited (limit_of (pos c.at) (kind_of c.frame) a old (map.get old.known a) c.guard) learnt) new =
      subst (λ (l : Option Limit). KnowSame (limited l learnt) new) limit is in
      let left_of = limited (limit_of (pos c.at) (kind_of c.frame) a old (map.get old.known a) c.guard) learnt in
      let room : left_of.room ≡ old.room =
      kept_room (limit_of (pos c.at) (kind_of c.frame) a old (map.get old.known a) c.guard) learnt ∙ room_same c a old learnt learns in
      same_keeps most (c.at + c.guard.strangers_stay) b h end left_of new is' (record {
        share = subst (λ (r : ℕ). r ≤ 2 * most) (sym room) keeps.share;
        less = subst (λ (r : ℕ). most < r) (sym room) keeps.less;
        few = few_after most (pos c.at) (kind_of c.frame) a c.guard old learnt (pos (c.at + 60000000)) keeps.share (came c a old learnt learns) keeps.few;
        is_known = lasts_by a learnt learns (eq_by_cmp address_cmp b a) refl (same_other left_of new b h is' only);
      })

-- few stay few as time goes on
few_later : (most t u : ℕ) (known : Neighbors) → t ≤ u → AreFew most t known → AreFew most u known
few_later most t u known le few =
    let less = count-fewer (pos t) (pos u) known.known (omega (arith, ints, le)) in
    fewer (count_after (pos t) known.known) (count_after (pos u) known.known) most few less

pub ordered : (first last : ℕ) (arrived : List Arrived) → AreInOrder first last arrived → first ≤ last
ordered first last [] le = le
ordered first last (c ∷ later) (low, rest) = let le = ordered c.at last later rest in omega (arith, low, le)

many : (most stay first last end : ℕ) (arrived : List Arrived) (old new : Neighbors) (b : IpAddress) (h : HardwareAddress) → stay ≢ 0 →
    end ≤ first + 60000000 → last + stay < end → AreInOrder first last arrived → HaveStay stay arrived → Keeps most (first + stay) b h end old →
    (runs : Runs arrived old new) → StaysAt b h runs → Keeps most (last + stay) b h end new
many most stay first last end [] old new b h some minute left order same keeps (End known) only = record {
  share = keeps.share;
  less = keeps.less;
  few = few_later most (first + stay) (last + stay) known (omega (arith, order)) keeps.few;
  is_known = keeps.is_known;
}
many most stay first last end (c ∷ later) old new b h some minute left (low, order) (one, same) keeps (Then d rest k mid z leaves runs) (only, all) =
    let le = ordered c.at last later order in
    let here : Keeps most (c.at + c.guard.strangers_stay) b h end old = rw one (record {
      share = keeps.share;
      less = keeps.less;
      few = few_later most (first + stay) (c.at + stay) old (omega (arith, low)) keeps.few;
      is_known = keeps.is_known;
    }) in
    let next : Keeps most (c.at + c.guard.strangers_stay) b h end mid =
    step most c b h end old here (rw one some) (omega (arith, low, minute)) (rw one (omega (arith, le, left))) mid leaves only in
    many most stay c.at last end later mid new b h some (omega (arith, low, minute)) left order same (rw one at next) runs all

pub confirmed_stay : ConfirmedStay
confirmed_stay most stay first last end arrived old new b h some share less few is_known minute left order same runs all =
    let kept = many most stay first last end arrived old new b h some minute left order same
    (record { share = share; less = less; few = few; is_known = is_known }) runs all in
    (kept.is_known, kept.few)
