-- What the turns of sockets leave of the packets that are queued, and of the pending fragments.
use Rattle.std.proofs.Common.{◌≡◌, inl, inr, ℕ, zero, suc, ◌+◌, ◌*◌, ◌≤◌, ◌<◌, Bool, true, List, [], ◌∷◌}
use Rattle.std.proofs.Common.{length, refl, sym, ◌∙◌, ap, subst, Option, Some, None, arith}
use Rattle.std.proofs.lemmas.Option.{slice_get-map}
use Rattle.std.specs.Prelude.{ℤ, map, is_ok, slice_get, slice_set, drop, Ok, Err}
use Rattle.std.specs.Option.{option_map}
use Rattle.net_base.specs.Checksum.{ip_mtu_of}
use Rattle.net_base.specs.Device.{Event}
use Rattle.iface_tables.specs.declared.groups.GroupState.TheVariants.{Joining, Leaving}
use Rattle.iface_tables.specs.Groups.{join_reported, leave_reported}
use Rattle.sockets.specs.Kinds.{socket_after_told}
use Rattle.fragmentation.specs.Cuts.{Piece}
use Rattle.host_machine.specs.declared.results.PollResult.{PollResult}
use Rattle.host_machine.specs.declared.results.Turn.{Turn}
use Rattle.host_machine.specs.Context.Note.{Note}
use Rattle.host_machine.specs.Context.Host.{Host, Socket, Storage, at}
use Rattle.host_machine.specs.Packet.Packet.{Packet}
use Rattle.host_machine.specs.Send.Outcome.{Outcome}
use Rattle.host_machine.specs.Send.Dispatch.{Dispatches}
use Rattle.host_machine.specs.Multicast.Joins.{join_packet, leave_packet}
use Rattle.host_machine.specs.Send.Fragments.{Ipv4Egress}
use Rattle.host_machine.specs.Sockets.Turns.{SocketTurn, Serves, Walks, SocketEgress}
use Rattle.host_machine.specs.Interface.Egress.{Egress}
use Rattle.host_machine.specs.Sockets.Offers.{packet_from, socket_after_asking}
use Rattle.host_machine.specs.Sockets.Turns as turns_rules
use Rattle.host_machine.specs.Send.Fragments as fragments_rules
use Rattle.host_laws.specs.Laws.Service.{all_granted, waiting_in}
use Rattle.host_laws.proofs.Receive.FrameReplies.{clash}
use Rattle.host_laws.proofs.Interface.GrantedEgress.{given_parts, groups_way, igmp_way, mld_way, routers_way, there}
use Rattle.host_laws.proofs.Interface.GrantedEgress.{turn_way, untouched}
use Rattle.host_laws.proofs.Interface.DueWork.{piece_gone}
use Rattle.host_laws.specs.Progress.{OnlyShrinks, QueuesOnlyShrink, queued, queued_at, queued_if, queued_in}
use Rattle.host_laws.proofs.WaitingPackets.{IsSameOrLess, asked, sent_less, untold}
use Rattle.host_laws.proofs.FragmentsLeft.{IsWide, LeavesFew, SameLeft, FewLeft, dispatched_left, groups_left}
use Rattle.host_laws.proofs.FragmentsLeft.{igmp_left}
use Rattle.host_laws.proofs.FragmentsLeft.{join_short, leave_short, mld_left, routers_left}

-- packets and fragments, as they count in the work of a host
abbrev pub load : Host → ℕ
load H = 8 * queued H.sockets.places + length H.left

-- the packets of each entry and the fragments stay; or a queue lost a packet, and there is less of both together
pub data Loads (old new : Host) : Type 0 where
  AsBefore : new.left ≡ old.left → map queued_in new.sockets.places ≡ map queued_in old.sockets.places → Loads old new
  Lower : load new < load old → (i : ℕ) → queued_at new i < queued_at old i → Loads old new

pub record Works (old new : Host) : Type 0 where
  pub at_most : (i : ℕ) → queued_at new i ≤ queued_at old i
  pub loads : Loads old new

-- Numbers of lists

abbrev or_zero : Option ℕ → ℕ
or_zero None = 0
or_zero (Some n) = n

queued_if_is : (o : Option Storage) → queued_if o ≡ or_zero (option_map queued_in o)
queued_if_is None = refl
queued_if_is (Some entry) = refl

at_same : (xs ys : List Storage) → map queued_in xs ≡ map queued_in ys → (i : ℕ) → queued_if (slice_get xs i) ≡ queued_if (slice_get ys i)
at_same xs ys e i =
    queued_if_is (slice_get xs i) ∙ sym (ap or_zero (slice_get-map queued_in xs i)) ∙ ap (λ ns. or_zero (slice_get ns i)) e
    ∙ ap or_zero (slice_get-map queued_in ys i) ∙ sym (queued_if_is (slice_get ys i))

pub queued_same : (xs ys : List Storage) → map queued_in xs ≡ map queued_in ys → queued xs ≡ queued ys
queued_same [] [] e = refl
queued_same [] (y ∷ ys) e = absurd cc
queued_same (x ∷ xs) [] e = absurd cc
queued_same (x ∷ xs) (y ∷ ys) e =
    let first : queued_in x ≡ queued_in y = cc in
    let others : map queued_in xs ≡ map queued_in ys = cc in
    omega (arith, first, queued_same xs ys others)

set_counts : (xs : List Storage) (i : ℕ) (x y : Storage) →
    slice_get xs i ≡ Some x → queued_in y ≡ queued_in x → map queued_in (slice_set xs i y) ≡ map queued_in xs
set_counts [] i x y here e = refl
set_counts (z ∷ xs) zero x y here e = let same : z ≡ x = cc in ap (λ n. n ∷ map queued_in xs) (e ∙ ap queued_in (sym same))
set_counts (z ∷ xs) (suc i) x y here e = ap (λ ns. queued_in z ∷ ns) (set_counts xs i x y here e)

set_queued : (xs : List Storage) (i : ℕ) (x y : Storage) →
    slice_get xs i ≡ Some x → queued (slice_set xs i y) + queued_in x ≡ queued xs + queued_in y
set_queued [] i x y here = absurd (let none : None ≡ Some x = here in cc)
set_queued (z ∷ xs) zero x y here = let same : queued_in z ≡ queued_in x = ap queued_in (let z_is : z ≡ x = cc in z_is) in omega (arith, same)
set_queued (z ∷ xs) (suc i) x y here = omega (arith, set_queued xs i x y here)

set_at : (xs : List Storage) (i k : ℕ) (x y : Storage) →
    slice_get xs i ≡ Some x → queued_in y ≤ queued_in x → queued_if (slice_get (slice_set xs i y) k) ≤ queued_if (slice_get xs k)
set_at [] i k x y here le = absurd (let none : None ≡ Some x = here in cc)
set_at (z ∷ xs) zero zero x y here le =
    let same : queued_in z ≡ queued_in x = ap queued_in (let z_is : z ≡ x = cc in z_is) in
    omega (arith, same, le)
set_at (z ∷ xs) zero (suc k) x y here le = omega arith
set_at (z ∷ xs) (suc i) zero x y here le = omega arith
set_at (z ∷ xs) (suc i) (suc k) x y here le = set_at xs i k x y here le

-- One after the other

same_load : (a b : Host) → b.left ≡ a.left → map queued_in b.sockets.places ≡ map queued_in a.sockets.places → load b ≡ load a
same_load a b l c = ap (λ xs. 8 * queued b.sockets.places + length xs) l ∙ ap (λ n. 8 * n + length a.left)
    (queued_same b.sockets.places a.sockets.places c)

loads_then : {a b c : Host} → Works a b → Works b c → Loads a c
loads_then {a} {b} {c} x y = by x.loads y.loads where
  by : Loads a b → Loads b c → Loads a c
  by (AsBefore l n) (AsBefore k m) = AsBefore (k ∙ l) (m ∙ n)
  by (AsBefore l n) (Lower less i fewer) =
      Lower (omega (arith, same_load a b l n, less)) i (omega (arith, fewer, x.at_most i))
  by (Lower less i fewer) (AsBefore k m) = Lower (omega (arith, same_load b c k m, less)) i (omega (arith, fewer, y.at_most i))
  by (Lower less i fewer) (Lower lesser j other) = Lower (omega (arith, less, lesser)) i (omega (arith, fewer, y.at_most i))

pub works_then : {a b c : Host} → Works a b → Works b c → Works a c
works_then x y = record { at_most = λ i. omega (arith, x.at_most i, y.at_most i); loads = loads_then x y }

pub works_same : {old new : Host} → new.left ≡ old.left → new.sockets ≡ old.sockets → Works old new
works_same {old} {new} l s = record {
  at_most = λ i. omega (arith, ap (λ k. queued_if (slice_get k.places i)) s);
  loads = AsBefore l (ap (λ k. map queued_in k.places) s);
}

-- A socket's turn

data Turned (s s' : Socket) (H mid : Host) : Type 0 where
  TurnSame : mid.left ≡ H.left → waiting_in s' ≡ waiting_in s → Turned s s' H mid
  TurnLess : length mid.left ≤ length H.left + 7 → waiting_in s' + 1 ≡ waiting_in s → Turned s s' H mid

from_asking : (s s' : Socket) (H mid : Host) → mid.left ≡ H.left → s' ≡ socket_after_asking H s → Turned s s' H mid
from_asking s s' H mid l e = by (asked H s) where
  by : IsSameOrLess (waiting_in (socket_after_asking H s)) (waiting_in s) → Turned s s' H mid
  by (inl same) = TurnSame l (ap waiting_in e ∙ same)
  by (inr less) = TurnLess (omega (arith, ap length l)) (ap (λ k. waiting_in k + 1) e ∙ less)

few_more : {p : Packet} {o : Outcome} {H mid : Host} → LeavesFew p o H mid → length mid.left ≤ length H.left + 7
few_more (SameLeft e) = omega (arith, ap length e)
few_more (FewLeft ok q is long few) = omega (arith, few)

sent_turned : {H mid : Host} {q : Packet} {frames : List (List ℕ)} {notes : List Note} (s s' : Socket) (o : Outcome) →
    packet_from H s ≡ Some q → Dispatches q o H frames notes mid → s' ≡ socket_after_told (is_ok o) (socket_after_asking H s) → IsWide H →
    Turned s s' H mid
sent_turned {H} {mid} {q} s s' (Ok u) some g z wide =
    TurnLess (few_more (dispatched_left g wide)) (ap (λ k. waiting_in k + 1) z ∙ sent_less H s q some)
sent_turned {H} {mid} {q} s s' (Err error) some g z wide = by (dispatched_left g wide) (asked H s) where
  kept : waiting_in s' ≡ waiting_in (socket_after_asking H s)
  kept = ap waiting_in z ∙ untold (socket_after_asking H s)

  by : LeavesFew q (Err error) H mid → IsSameOrLess (waiting_in (socket_after_asking H s)) (waiting_in s) → Turned s s' H mid
  by (SameLeft l) (inl same) = TurnSame l (kept ∙ same)
  by (SameLeft l) (inr less) = TurnLess (omega (arith, ap length l)) (ap (λ n. n + 1) kept ∙ less)
  by (FewLeft ok p is long few) x = absurd cc

turned : {s s' : Socket} {turn : Turn} {H mid : Host} {told : List Event} {notes : List Note} →
    SocketTurn s turn s' H told notes mid → IsWide H → Turned s s' H mid
turned {s} {s'} {turn} {H} {mid} (turns_rules.Silent p d e m y z) wide = from_asking s s' H mid (ap (λ (K : Host). K.left) y) z
turned {s} {s'} {turn} {H} {mid} (turns_rules.Refused q p d e m y z) wide = from_asking s s' H mid (ap (λ (K : Host). K.left) y) z
turned {s} {s'} (turns_rules.Sent q o f p g d e z) wide = sent_turned s s' o p g z wide

serves_works : {i : ℕ} {turn : Turn} {H new : Host} {told : List Event} {notes : List Note} →
    Serves i turn H told notes new → IsWide H → Works H new
serves_works (turns_rules.Free f d e m y) wide = works_same (ap (λ (K : Host). K.left) y) (ap (λ (K : Host). K.sockets) y)
serves_works (turns_rules.Waits s known f l w d e m y) wide = works_same (ap (λ (K : Host). K.left) y) (ap (λ (K : Host). K.sockets) y)
serves_works {i} {turn} {H} {new} (turns_rules.Served s s' known mid f l w z y) wide = by (turned z wide) where
  places : new.sockets.places ≡ slice_set H.sockets.places i (Some s')
  places = ap (λ (K : Host). K.sockets.places) y ∙ ap (λ (K : Host). slice_set K.sockets.places i (Some s')) (turn_way z)

  at_most : queued_in (Some s') ≤ queued_in (Some s) → (k : ℕ) → queued_at new k ≤ queued_at H k
  at_most le k = subst (λ xs. queued_if (slice_get xs k) ≤ queued_at H k) (sym places) (set_at H.sockets.places i k (Some s) (Some s') f le)

  left_is : new.left ≡ mid.left
  left_is = ap (λ (K : Host). K.left) y

  by : Turned s s' H mid → Works H new
  by (TurnSame k same) = record {
    at_most = at_most (omega (arith, same));
    loads = AsBefore (left_is ∙ k) (ap (map queued_in) places ∙ set_counts H.sockets.places i (Some s) (Some s') f same);
  }
  by (TurnLess few less) =
      let count : queued (slice_set H.sockets.places i (Some s')) + waiting_in s ≡ queued H.sockets.places + waiting_in s' =
      set_queued H.sockets.places i (Some s) (Some s') f in
      let now : queued_at new i ≡ waiting_in s' =
      ap (λ xs. queued_if (slice_get xs i)) places ∙ ap queued_if (there H.sockets.places i (Some s) (Some s') f) in
      let before : queued_at H i ≡ waiting_in s = ap queued_if f in
      record {
        at_most = at_most (omega (arith, less));
        loads = Lower (omega (arith, count, less, few, ap queued places, ap length left_is)) i (omega (arith, now, before, less));
      }

pub wide_as : (old new : Host) → new.capabilities ≡ old.capabilities → IsWide old → IsWide new
wide_as old new e wide = subst (λ c. 576 ≤ ip_mtu_of c) (sym e) wide

walks_work : {old new : Host} {n : ℕ} {granted changed : Bool} {told : List Event} {notes : List Note} →
    Walks old n granted changed told notes new → IsWide old → Works old new
walks_work turns_rules.Begins wide = works_same refl refl
walks_work {old} (turns_rules.Goes {mid = mid} turn told_it notes new w s e) wide =
    works_then (walks_work w wide) (serves_works s (wide_as old mid (ap (λ (K : Host). K.capabilities) (untouched w).rest) wide))
walks_work {old} (turns_rules.Stops {mid = mid} turn told_it notes new w s e) wide =
    works_then (walks_work w wide) (serves_works s (wide_as old mid (ap (λ (K : Host). K.capabilities) (untouched w).rest) wide))

sockets_work : {old new : Host} {changed : Bool} {told : List Event} {notes : List Note} →
    SocketEgress old changed told notes new → IsWide old → Works old new
sockets_work (turns_rules.Whole w) wide = walks_work w wide
sockets_work (turns_rules.Stopped n w) wide = walks_work w wide

-- A call that sends

piece_left : {H new : Host} {told : List Event} {notes : List Note} → Ipv4Egress H told notes new → all_granted told ≡ true → new.left ≡ drop 1 H.left
piece_left (fragments_rules.NoPiece l e m y) all = ap (λ (K : Host). K.left) y ∙ l ∙ sym (ap (drop 1) l)
piece_left (fragments_rules.NotGranted piece rest l e m y) all = absurd (clash all (ap all_granted e))
piece_left (fragments_rules.PieceGoes piece rest l e m y) all = ap (λ (K : Host). K.left) y ∙ sym (ap (drop 1) l)

-- the first fragment goes; then the queues get shorter, or all stays
pub record CallWorks (old new : Host) : Type 0 where
  pub mid : Host
  pub left : mid.left ≡ drop 1 old.left
  pub sockets : mid.sockets ≡ old.sockets
  pub works : Works mid new

pub call_works : {t : ℤ} {answer : PollResult} {old new : Host} {told : List Event} {notes : List Note} →
    Egress t answer old told notes new → all_granted told ≡ true → IsWide old → CallWorks old new
call_works {t} {answer} {old} {new} e all wide =
    let a = e.round in
    let b = a.ends in
    let c = b.ends in
    let d = c.ends in
    let f = d.ends in
    let g = f.ends in
    let given = given_parts a.told_one a.told_two (sym (ap all_granted a.events) ∙ all) in
    let wide_a : IsWide a.mid = wide_as (at old t) a.mid (ap (λ (K : Host). K.capabilities) (piece_gone a.begins)) wide in
    let way_b = routers_way b.begins in
    let wide_b : IsWide b.mid = wide_as a.mid b.mid (ap (λ (K : Host). K.capabilities) way_b) wide_a in
    let way_c = groups_way _ _ _ c.begins in
    let wide_c : IsWide c.mid = wide_as b.mid c.mid (ap (λ (K : Host). K.capabilities) way_c) wide_b in
    let way_d = groups_way _ _ _ d.begins in
    let wide_d : IsWide d.mid = wide_as c.mid d.mid (ap (λ (K : Host). K.capabilities) way_d) wide_c in
    let way_f = igmp_way f.begins in
    let wide_f : IsWide f.mid = wide_as d.mid f.mid (ap (λ (K : Host). K.capabilities) way_f) wide_d in
    let way_g = mld_way g.begins in
    let wide_g : IsWide g.mid = wide_as f.mid g.mid (ap (λ (K : Host). K.capabilities) way_g) wide_f in
    let own : Works a.mid g.mid = works_same
    (mld_left g.begins wide_f ∙ igmp_left f.begins wide_d
    ∙ groups_left Leaving leave_packet leave_reported leave_short d.begins wide_c
    ∙ groups_left Joining join_packet join_reported join_short c.begins wide_b ∙ routers_left b.begins wide_a)
    (ap (λ (K : Host). K.sockets) way_g ∙ ap (λ (K : Host). K.sockets) way_f ∙ ap (λ (K : Host). K.sockets) way_d
    ∙ ap (λ (K : Host). K.sockets) way_c ∙ ap (λ (K : Host). K.sockets) way_b) in
    record {
      mid = a.mid;
      left = piece_left a.begins given.0;
      sockets = ap (λ (K : Host). K.sockets) (piece_gone a.begins);
      works = works_then own (sockets_work g.ends wide_g);
    }

pub only_shrink : QueuesOnlyShrink
only_shrink t answer old new told notes e all wide = by (call_works e all wide) where
  by : CallWorks old new → OnlyShrinks old new
  by k = record {
    queues = λ i. omega (arith, k.works.at_most i, before k i);
    pieces = λ same. pieces k k.works.loads same;
  } where
    before : (k : CallWorks old new) (i : ℕ) → queued_at k.mid i ≡ queued_at old i
    before k i = ap (λ s. queued_if (slice_get s.places i)) k.sockets

    pieces : (k : CallWorks old new) → Loads k.mid new → ((i : ℕ) → queued_at new i ≡ queued_at old i) → new.left ≡ drop 1 old.left
    pieces k (AsBefore l n) same = l ∙ k.left
    pieces k (Lower less i fewer) same = absurd (omega (arith, same i, before k i, fewer))

-- a call did nothing of this; or there is less of it
pub data CallLoads (old new : Host) : Type 0 where
  NoLoad : new.left ≡ [] → map queued_in new.sockets.places ≡ map queued_in old.sockets.places → load new ≡ load old → CallLoads old new
  LessLoad : load new < load old → CallLoads old new

pub call_loads : {old new : Host} → CallWorks old new → CallLoads old new
call_loads {old} {new} k = by old.left refl k.works.loads where
  by : (left : List Piece) → old.left ≡ left → Loads k.mid new → CallLoads old new
  by [] e (AsBefore l n) =
      let mid_left : k.mid.left ≡ [] = k.left ∙ ap (drop 1) e in
      let counts : map queued_in new.sockets.places ≡ map queued_in old.sockets.places = n ∙ ap (λ s. map queued_in s.places) k.sockets in
      NoLoad (l ∙ mid_left) counts (same_load old new (l ∙ mid_left ∙ sym e) counts)
  by [] e (Lower less i fewer) =
      let mid_left : k.mid.left ≡ old.left = k.left ∙ ap (drop 1) e ∙ sym e in
      LessLoad (omega (arith, less, same_load old k.mid mid_left (ap (λ s. map queued_in s.places) k.sockets)))
  by (piece ∷ rest) e loads = LessLoad (ended loads) where
    mid_left : length k.mid.left + 1 ≡ length old.left
    mid_left = ap (λ xs. length xs + 1) (k.left ∙ ap (drop 1) e) ∙ (let one : length rest + 1 ≡ length (piece ∷ rest) = omega arith in one)
        ∙ ap length (sym e)

    same : queued k.mid.sockets.places ≡ queued old.sockets.places
    same = ap (λ s. queued s.places) k.sockets

    ended : Loads k.mid new → load new < load old
    ended (AsBefore l n) = omega (arith, mid_left, same, same_load k.mid new l n)
    ended (Lower less i fewer) = omega (arith, mid_left, same, less)

-- a socket that has one packet less is one of those that lost some
pub one_less_apart : (old new : Host) (i : ℕ) (before after : Socket) → slice_get old.sockets.places i ≡ Some (Some before) →
    slice_get new.sockets.places i ≡ Some (Some after) → waiting_in after + 1 ≡ waiting_in before →
    map queued_in new.sockets.places ≡ map queued_in old.sockets.places → ⊥
one_less_apart old new i before after was is less counts =
    let same : waiting_in after ≡ waiting_in before =
    sym (ap queued_if is) ∙ at_same new.sockets.places old.sockets.places counts i ∙ ap queued_if was in
    omega (arith, same, less)
