-- The two fragments of the worked examples.
use Rattle.std.proofs.Common.{◌≡◌, ◌∙◌, ℕ, zero, suc, ◌<◌, List, [], ◌∷◌, length, refl, ap, inl, inr, Some, None, lit≤, arith}
use Rattle.std.specs.Prelude.{pos, Bool, true, false, cond, not, if◌then◌else◌}
use Rattle.std.specs.FinMap as map
use Rattle.std.specs.FinMap.{get-insert, get-empty, len-empty, same_map}
use Rattle.fragmentation.specs.Fragments.{no_fragments, with_one, IsRebuilt}
use Rattle.fragmentation.specs.declared.key.FragKey.{FragKey}
use Rattle.fragmentation.specs.Keys.{key_cmp, same_key}
use Rattle.fragmentation.specs.Slots.{Slot, Slots, HasFree, free_slots, with_slot, has_ended, live_at}
use Rattle.fragmentation.specs.Cuts.{piece_at}
use Rattle.host_machine.specs.Examples.ArpAndEcho.{host, no_neighbors}
use Rattle.host_machine.specs.Examples.Fragments.{key, ten, one, two, waiting_slot}
use Rattle.host_machine.proofs.Receive.FewFragments.{few_kept}
use Rattle.host_machine.proofs.Receive.Keys.{get-live_at, key_exact, key_total}
use Rattle.host_machine.proofs.Receive.Pieces.{IsIn, all_got, parts_of, complete}

pub first_got : with_one no_fragments one ≡ waiting_slot.got
first_got = rw (few_kept [] one (lit≤ tt)) refl

pub first_waits : (octets : List ℕ) → IsRebuilt (with_one no_fragments one) octets → ⊥
first_waits octets r = let none : None ≡ Some (length octets) = r.whole.total in absurd cc

-- the slot that waits
abbrev waiting : Slots
waiting = with_slot (free_slots 2) key waiting_slot

pub still_there : map.get (live_at (pos 0) waiting).held key ≡ Some waiting_slot
still_there = get-live_at (pos 0) waiting key ∙ rw (get-insert key_total map.empty key waiting_slot key) refl

all_two : with_one waiting_slot.got two ≡ all_got (one ∷ two ∷ [])
all_two = rw (few_kept (one ∷ []) two (lit≤ tt)) refl

pieces_two : (k : ℕ) → k < 2 → IsIn (piece_at 8 ten k) (one ∷ two ∷ [])
pieces_two zero l = inl refl
pieces_two (suc zero) l = inr (inl refl)
pieces_two (suc (suc k)) l = absurd (omega arith)

pub ten_rebuilt : IsRebuilt (with_one waiting_slot.got two) ten
ten_rebuilt =
    rw all_two (complete 8 ten (one ∷ two ∷ []) (lit≤ tt) (lit≤ tt)
    (parts_of 8 ten (one ∷ two ∷ []) (lit≤ tt) (
      record { number = 0; below = lit≤ tt; is = refl },
      (record { number = 1; below = lit≤ tt; is = refl }, tt),
    )) pieces_two)

pub none_yet : map.get (host 0x1405 (no_neighbors (pos 0))).slots.held key ≡ None
none_yet = get-empty key_cmp key

pub has_room : HasFree (host 0x1405 (no_neighbors (pos 0))).slots
has_room = let e : map.len (host 0x1405 (no_neighbors (pos 0))).slots.held ≡ 0 = len-empty key_cmp Slot in omega arith

-- and nothing happens to it while it waits
waits_at : (q : FragKey) (b : Bool) → map.get waiting.held q ≡ cond b (Some waiting_slot) None →
    (if not (has_ended (pos 0) (map.get waiting.held q)) then map.get waiting.held q else None) ≡ map.get waiting.held q
waits_at q true e = rw e refl
waits_at q false e = rw e refl

pub waits_on : live_at (pos 0) waiting ≡ waiting
waits_on = ap (λ held. record waiting { held = held }) (same_map key_total key_exact (live_at (pos 0) waiting).held waiting.held (λ q. get-live_at (pos 0) waiting q
    ∙ waits_at q (same_key q key) (get-insert key_total map.empty key waiting_slot q ∙ rw get-empty refl)))
