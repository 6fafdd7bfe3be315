-- Newcomers stay as long as so many others end before them as frames come.
use Rattle.std.proofs.Common.{◌≡◌, ◌≢◌, ℕ, suc, ◌+◌, ◌-◌, ◌*◌, ◌≤◌, ◌<◌, Bool, true, false, List, [], ◌∷◌, length, refl, sym, ap, subst, ◌∙◌, arith}
use Rattle.std.specs.Prelude.{cond, ℤ, pos, ◌<ℤ◌, ◌≤ℤ◌, ◌&&◌, ◌||◌, Option, Some, None, if◌then◌else◌}
use Rattle.std.specs.Ordering.{eq_by_cmp}
use Rattle.std.proofs.lemmas.Int.{ints}
use Rattle.std.specs.FinMap as map
use Rattle.std.specs.FinMap.{get-insert, get-remove}
use Rattle.ip_address.specs.Ip.{address_cmp}
use Rattle.ip_address.specs.declared.hardware.HardwareAddress.{HardwareAddress}
use Rattle.ip_address.specs.declared.ip.IpAddress.{IpAddress}
use Rattle.iface_tables.specs.Neighbor.{IsLeastEnd, Neighbors, after_limit, count_after, is_before, limited_from}
use Rattle.iface_tables.specs.declared.neighbor.Neighbor.{Neighbor}
use Rattle.iface_tables.proofs.EntriesLemmas.{tied}
use Rattle.iface_tables.proofs.NeighborLemmas.{address_total, address_same}
use Rattle.guard.specs.Kind.{kind_of}
use Rattle.guard.specs.Strangers.{end_of_stay, has_address, is_packet, leaves_half, limit_at, limit_of}
use Rattle.guard.specs.Strangers.{limit_of_confirmed, limit_of_stranger, limited, teaches_nobody}
use Rattle.guard.specs.Guard.{was_asked}
use Rattle.guard.specs.declared.guard.Guard.{Guard}
use Rattle.guard.specs.declared.kind.Kind.{Kind}
use Rattle.guard.specs.declared.strangers.Limit.{Limit}
use Rattle.guard_laws.specs.Strangers.{All, AreInOrder, Arrived, End, HaveStay, IsAtNoOther, IsKnownUntil, KnowSame, Learns, Leaves, Less, NewcomersStay}
use Rattle.guard_laws.specs.Strangers.{Runs, StaysAt, Then}
use Rattle.guard_laws.proofs.CountLemmas.{Known, before, count-all, count-insert_soon, count-insert_there, lt_of}
use Rattle.guard_laws.proofs.StrangerLemmas.{Came, InPlace, Lasts, Over, Same, came, found, limit_is, limit_leaves, of_sender, one_more, own_came}
use Rattle.guard_laws.proofs.StrangerLemmas.{kept_room, room_same, same_until}

-- a limit makes no entry end later
limited_fewer : (e end : ℤ) (m : Known) (a : IpAddress) → count_after e (limited_from (map.get m a) m a end) ≤ count_after e m
limited_fewer e end m a = by (map.get m a) refl where
  by : (o : Option Neighbor) → map.get m a ≡ o → count_after e (limited_from o m a end) ≤ count_after e m
  by None is = omega arith
  by (Some n) is = here (is_before end n.expires_at) refl (is_before e n.expires_at) refl where
    here : (d : Bool) → is_before end n.expires_at ≡ d → (l : Bool) → is_before e n.expires_at ≡ l →
        count_after e (if d then map.insert m a (record n { expires_at = end }) else m) ≤ count_after e m
    here false same l late = omega arith
    here true shorter true late = count-insert_there e m a (record n { expires_at = end }) n is late
    here true shorter false soon = count-insert_soon e m a (record n { expires_at = end }) (no_later (is_before e end) refl) where
      no_later : (b : Bool) → is_before e end ≡ b → b ≡ false
      no_later true first =
          let one : e <ℤ end = lt_of e end first in
          let two : end <ℤ n.expires_at = lt_of end n.expires_at shorter in
          let bad : is_before e n.expires_at ≡ true = before e n.expires_at (omega (arith, ints)) in
          absurd cc
      no_later false other = refl

count_limited : (e : ℤ) (limit : Option Limit) (k : Neighbors) → count_after e (limited limit k).known ≤ count_after e k.known
count_limited e None k = omega arith
count_limited e (Some l) k = by (has_address (map.get k.known l.address) l.unless) where
  by : (d : Bool) → count_after e (if d then k else after_limit k l.address l.expires_at).known ≤ count_after e k.known
  by true = omega arith
  by false = limited_fewer e l.expires_at k.known l.address

-- where one more may be counted, one that is counted isn't of least end in a full table
stays_in : (e : ℤ) (room : ℕ) (m : Known) (b : IpAddress) (n : Neighbor) → count_after e m + 1 ≤ room → room ≤ map.len m →
    map.get m b ≡ Some n → is_before e n.expires_at ≡ true → IsLeastEnd m b → ⊥
stays_in e room m b n some full is late least =
    let same : least.entry ≡ n = let x : Some least.entry ≡ Some n = sym least.is_there ∙ is in cc in
    let all : count_after e m ≡ map.len m = count-all e m (λ a x there.
    let less : e <ℤ n.expires_at = lt_of e n.expires_at late in
    let le : least.entry.expires_at ≤ℤ x.expires_at = least.least a x there in
    let le' : n.expires_at ≤ℤ x.expires_at = subst (λ (y : Neighbor). y.expires_at ≤ℤ x.expires_at) same le in
    before e x.expires_at (omega (arith, ints))) in
    omega (arith, some, full, all)

other_came : (e : ℤ) (room : ℕ) (old new : Known) (a b : IpAddress) (n : Neighbor) (teaches_none : Bool) (end : ℤ) →
    count_after e old + 1 ≤ room → map.get old b ≡ Some n → is_before e n.expires_at ≡ true → eq_by_cmp address_cmp b a ≡ false →
    Came room old new a teaches_none end → map.get new b ≡ Some n
other_came e room old new a b n teaches_none end some is late apart (Same same) = ap (λ (m : Known). map.get m b) same ∙ is
other_came e room old new a b n teaches_none end some is late apart (Over x i none put) =
    ap (λ (m : Known). map.get m b) put ∙ get-insert address_total old a x b ∙ ap (λ d. cond d (Some x) (map.get old b)) apart ∙ is
other_came e room old new a b n teaches_none end some is late apart (InPlace x i teaches v least full none put) =
    ap (λ (m : Known). map.get m b) put ∙ get-insert address_total (map.remove old v) a x b
    ∙ ap (λ d. cond d (Some x) (map.get (map.remove old v) b)) apart ∙ get-remove address_total old v b
    ∙ by (eq_by_cmp address_cmp b v) refl where
      by : (d : Bool) → eq_by_cmp address_cmp b v ≡ d → cond d None (map.get old b) ≡ Some n
      by true same =
          let key : b ≡ v = tied address_total address_same b v same in
          absurd (stays_in e room old b n some full is late (subst (λ (w : IpAddress). IsLeastEnd old w) (sym key) least))
      by false other = is

-- a limit of one that lasts until an end or longer, by an end that is no sooner
limit_lasts : (m : Known) (b : IpAddress) (end until : ℤ) → until ≤ℤ end → Lasts m b until → Lasts (limited_from (map.get m b) m b end) b until
limit_lasts m b end until le l = rw l.is_there (by (is_before end l.neighbor.expires_at)) where
  by : (d : Bool) → Lasts (if d then map.insert m b (record l.neighbor { expires_at = end }) else m) b until
  by true = record { neighbor = record l.neighbor { expires_at = end }; is_there = found m b (record l.neighbor { expires_at = end }); lasts = le }
  by false = l

-- each limit of a frame is the end of a stay
ends_at : (now : ℤ) (kind : Kind) (a : IpAddress) (known : Neighbors) (o : Option Neighbor) (g : Guard) (l : Limit) →
    limit_of now kind a known o g ≡ Some l → l.expires_at ≡ end_of_stay now g
ends_at now kind a known None g l is = by (teaches_nobody kind || (was_asked now a g.asked && leaves_half now known g)) is where
  by : (d : Bool) → (if d then None else Some (limit_at now a None g)) ≡ Some l → l.expires_at ≡ end_of_stay now g
  by true e = absurd cc
  by false e = let same : limit_at now a None g ≡ l = cc in sym (ap (λ (x : Limit). x.expires_at) same)
ends_at now kind a known (Some n) g l is = here (is_before (end_of_stay now g) n.expires_at) is where
  confirmed : (d : Bool) → (if d then None else Some (limit_at now a (Some n.hardware_addr) g)) ≡ Some l → l.expires_at ≡ end_of_stay now g
  confirmed true e = absurd cc
  confirmed false e = let same : limit_at now a (Some n.hardware_addr) g ≡ l = cc in sym (ap (λ (x : Limit). x.expires_at) same)

  stranger : (d : Bool) → (if d then None else Some (limit_at now a None g)) ≡ Some l → l.expires_at ≡ end_of_stay now g
  stranger true e = absurd cc
  stranger false e = let same : limit_at now a None g ≡ l = cc in sym (ap (λ (x : Limit). x.expires_at) same)

  here : (b : Bool) → (if b then limit_of_confirmed now kind a n g else limit_of_stranger now kind a known g) ≡ Some l →
      l.expires_at ≡ end_of_stay now g
  here true e = confirmed (is_packet kind) e
  here false e = stranger ((is_packet kind || was_asked now a g.asked) && leaves_half now known g) e

own_limited : (limit : Option Limit) (k : Neighbors) (b : IpAddress) (until : ℤ) → ((l : Limit) → limit ≡ Some l → l.address ≡ b) →
    ((l : Limit) → limit ≡ Some l → until ≤ℤ l.expires_at) → Lasts k.known b until → Lasts (limited limit k).known b until
own_limited None k b until of ends l = l
own_limited (Some limit) k b until of ends l = by (has_address (map.get k.known limit.address) limit.unless) where
  by : (d : Bool) → Lasts (if d then k else after_limit k limit.address limit.expires_at).known b until
  by true = l
  by false = rw (of limit refl) (limit_lasts k.known b limit.expires_at until (ends limit refl) l)

-- one frame
module _ (c : Arrived) (b : IpAddress) (h : HardwareAddress) (e left : ℕ) (old : Neighbors) (some : c.guard.strangers_stay ≢ 0)
    (stay : suc e ≤ c.at + c.guard.strangers_stay) (minute : suc e ≤ c.at + 60000000) (is_known : IsKnownUntil old b h (suc e))
    (many : suc left + count_after (pos e) old.known ≤ old.room) where
  late_b : is_before (pos e) is_known.neighbor.expires_at ≡ true
  late_b = let lasts = is_known.lasts in before (pos e) is_known.neighbor.expires_at (omega (arith, ints, lasts))

  lasts_by : (a : IpAddress) (learnt new : Neighbors) → Learns c a old learnt →
      KnowSame (limited (limit_of (pos c.at) (kind_of c.frame) a old (map.get old.known a) c.guard) learnt) new → IsAtNoOther b h new →
      (d : Bool) → eq_by_cmp address_cmp b a ≡ d → IsKnownUntil new b h (suc e)
  lasts_by a learnt new learns is only false apart =
      let n = is_known.neighbor in
      let stays : map.get learnt.known b ≡ Some n =
      other_came (pos e) old.room old.known learnt.known a b n (teaches_nobody (kind_of c.frame)) (pos (c.at + 60000000))
      (omega (arith, many)) is_known.is_there late_b apart (came c a old learnt learns) in
      record {
        neighbor = n;
        is_there =
            ap (λ (m : Known). map.get m b) is.0
            ∙ limit_leaves learnt (limit_of (pos c.at) (kind_of c.frame) a old (map.get old.known a) c.guard) a b
            (λ l i. of_sender (pos c.at) (kind_of c.frame) a old (map.get old.known a) c.guard l i) apart ∙ stays;
        hardware = is_known.hardware;
        lasts = is_known.lasts;
      }
  lasts_by a learnt new learns is only true same =
      let key : a ≡ b = sym (tied address_total address_same b a same) in
      let l = own_came old.room old.known learnt.known b is_known.neighbor (teaches_nobody (kind_of c.frame)) (pos (suc e)) (pos (c.at + 60000000))
      is_known.is_there is_known.lasts (omega (arith, ints, minute))
      (subst (λ (x : IpAddress). Came old.room old.known learnt.known x (teaches_nobody (kind_of c.frame)) (pos (c.at + 60000000))) key
      (came c a old learnt learns)) in
      let limit = limit_of (pos c.at) (kind_of c.frame) a old (map.get old.known a) c.guard in
      let l' : Lasts (limited limit learnt).known b (pos (suc e)) = own_limited limit learnt b (pos (suc e))
      (λ x i. of_sender (pos c.at) (kind_of c.frame) a old (map.get old.known a) c.guard x i ∙ key)
      (λ x i. let at_end : x.expires_at ≡ pos (c.at + c.guard.strangers_stay) =
      ends_at (pos c.at) (kind_of c.frame) a old (map.get old.known a) c.guard x i in rw at_end (omega (arith, ints, stay))) l in
      let l'' : Lasts new.known b (pos (suc e)) = subst (λ (m : Known). Lasts m b (pos (suc e))) (sym is.0) l' in
      record { neighbor = l''.neighbor; is_there = l''.is_there; hardware = only l''.neighbor l''.is_there; lasts = l''.lasts }

  counted : (before new : Neighbors) → KnowSame before new → left + count_after (pos e) before.known ≤ before.room →
      left + count_after (pos e) new.known ≤ new.room
  counted before new same le = rw (same.0, same.1) le

  step : (new : Neighbors) → Leaves c old new → IsAtNoOther b h new →
      IsKnownUntil new b h (suc e) × (left + count_after (pos e) new.known ≤ new.room)
  step new (All same) only = (same_until old new b h (suc e) same is_known, counted old new same (omega (arith, many)))
  step new (Less a learnt sender may learns is) only =
      let is' : KnowSame (limited (limit_of (pos c.at) (kind_of c.frame) a old (map.get old.known a) c.guard) learnt) new =
      subst (λ (l : Option Limit). KnowSame (limited l learnt) new) (limit_is c old some a sender may) is in
      let limit = limit_of (pos c.at) (kind_of c.frame) a old (map.get old.known a) c.guard in
      let room : (limited limit learnt).room ≡ old.room = kept_room limit learnt ∙ room_same c a old learnt learns in
      let one : count_after (pos e) learnt.known ≤ count_after (pos e) old.known + 1 =
      one_more (pos e) old.room old.known learnt.known a (teaches_nobody (kind_of c.frame)) (pos (c.at + 60000000)) (came c a old learnt learns) in
      let two = count_limited (pos e) limit learnt in (
        lasts_by a learnt new learns is' only (eq_by_cmp address_cmp b a) refl,
        counted (limited limit learnt) new is' (rw room (omega (arith, many, one, two))),
      )

newcomer : (stay first last e : ℕ) (arrived : List Arrived) (old new : Neighbors) (b : IpAddress) (h : HardwareAddress) → stay ≢ 0 →
    suc e ≤ first + stay → suc e ≤ first + 60000000 → IsKnownUntil old b h (suc e) →
    length arrived + count_after (pos e) old.known ≤ old.room → AreInOrder first last arrived → HaveStay stay arrived →
    (runs : Runs arrived old new) → StaysAt b h runs → IsKnownUntil new b h (suc e)
newcomer stay first last e [] old new b h some soon minute is_known many order same (End known) only = is_known
newcomer stay first last e (c ∷ later) old new b h some soon minute is_known many (low, order) (one, same) (Then d rest k mid z leaves runs) (only, all) =
    let next = step c b h e (length later) old (rw one some) (rw one (omega (arith, low, soon))) (omega (arith, low, minute)) is_known many mid leaves only in
    newcomer stay c.at last e later mid new b h some (omega (arith, low, soon)) (omega (arith, low, minute)) next.0 next.1 order same runs all

pub newcomers_stay : NewcomersStay
newcomers_stay stay at first last arrived old new b h one sixty before_it few is_known alone half order same runs all =
    let e = at + stay - 1 in
    let end : at + stay ≡ suc e = omega (arith, one) in
    let alone' : count_after (pos e) old.known ≤ count_after (pos (at + stay)) old.known + 1 = alone in
    let known' : IsKnownUntil old b h (suc e) = subst (λ (n : ℕ). IsKnownUntil old b h n) end is_known in
    let few' : 2 * count_after (pos (at + stay)) old.known ≤ old.room + 1 = few in
    let kept = newcomer stay first last e arrived old new b h (λ z. omega (arith, z, one)) (omega (arith, before_it, end)) (omega (arith, before_it, sixty, end))
    known' (omega (arith, half, few', alone')) order same runs all in
    subst (λ (n : ℕ). IsKnownUntil new b h n) (sym end) kept
