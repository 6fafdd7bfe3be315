-- Blocks in places are those of a segment, and where none is told nothing changes.
use Rattle.std.proofs.Common.{◌≡◌, ◌≤◌, ℕ, Bool, true, false, List, [], ◌∷◌, Option, Some, None, refl, ap, sym, ◌∙◌, arith}
use Rattle.std.specs.Prelude.{◌&&◌, ◌||◌, min, max, nat_lt, nat_le, if◌then◌else◌}
use Rattle.std.specs.List.{filter_map}
use Rattle.std.proofs.lemmas.Bool.Decides.{nat_tests}
use Rattle.net_base.specs.declared.assembler.Range.{Range}
use Rattle.tcp_machine.specs.declared.sack.SackBlock.{SackBlock}
use Rattle.tcp_machine.specs.Scoreboard.{after_blocks, is_empty, told_between, is_lost, hole_from}
use Rattle.tcp_machine.specs.Connection.{Connection}
use Rattle.tcp_machine.specs.Segments.{Segment}
use Rattle.tcp_machine.specs.Acknowledgements as acknowledgements
use Rattle.tcp_machine.specs.Outgoing.{again_from}
use Rattle.tcp_connection.specs.Details.Told.{is_nil, is_nothing_told, after_places, with_ranges}

pub places_are : (initial una top : ℕ) (bs : List (Option SackBlock)) (rs : List Range) →
    after_places initial una top bs rs ≡ after_blocks initial una top (filter_map (λ b. b) bs) rs
places_are initial una top [] rs = refl
places_are initial una top (None ∷ bs) rs = places_are initial una top bs rs
places_are initial una top (Some b ∷ bs) rs = places_are initial una top bs _

-- nothing is told anew, and no hole is due
same : (c : Connection) (m u : Bool) (rs : List Range) → m ≡ false → u ≡ false → rs ≡ c.transmission.told →
    acknowledgements.after_more m u (with_ranges rs c) ≡ c
same c m u rs em eu er = rw (em, eu, er) refl

not_and : (a b : Bool) → a ≡ false → a && b ≡ false
not_and a b e = rw e refl

and_not : (a b : Bool) → b ≡ false → a && b ≡ false
and_not true b e = e
and_not false b e = refl

pub not_permitted : (s : Segment) (c : Connection) → c.reception.sack_permitted ≡ false → acknowledgements.after_blocks s c ≡ c
not_permitted s c e =
    let told : acknowledgements.told_after s c ≡ c.transmission.told = rw e refl in
    same c _ _ (acknowledgements.told_after s c) (not_and c.reception.sack_permitted _ e) (not_and c.reception.sack_permitted _ e) told

no_blocks : (bs : List SackBlock) → is_nil bs ≡ true → bs ≡ []
no_blocks [] e = refl
no_blocks (b ∷ bs) e = absurd cc

no_ranges : (rs : List Range) → is_empty rs ≡ true → rs ≡ []
no_ranges [] e = refl
no_ranges (r ∷ rs) e = absurd cc

first_true : (a b : Bool) → a && b ≡ true → a ≡ true
first_true true b e = refl
first_true false b e = absurd cc

last_true : (a b : Bool) → a && b ≡ true → b ≡ true
last_true true b e = e
last_true false b e = absurd cc

no_less : (n m : ℕ) → n ≡ m → nat_lt n m ≡ false
no_less n m e = rw e (self m) where
  self : (m : ℕ) → nat_lt m m ≡ false
  self m = grind arith

none_lost : (mss p : ℕ) (rs : List Range) → rs ≡ [] → is_lost mss p rs ≡ false
none_lost mss p rs e = rw e (grind (arith, nat_tests))

if_same : {X : Type 0} (b : Bool) (x y : X) → x ≡ y → (if b then x else y) ≡ y
if_same true x y e = e
if_same false x y e = refl

pub nothing_told : (s : Segment) (c : Connection) → is_nothing_told s c ≡ true → acknowledgements.after_blocks s c ≡ c
nothing_told s c e =
    let t = c.transmission in
    let bs = no_blocks s.options.blocks (first_true (is_nil s.options.blocks) (is_empty t.told) e) in
    let rs = no_ranges t.told (last_true (is_nil s.options.blocks) (is_empty t.told) e) in
    let told : acknowledgements.told_after s c ≡ t.told =
    if_same c.reception.sack_permitted (after_blocks c.local t.sender.una t.sender.top s.options.blocks t.told) t.told
    (ap (λ (x : List SackBlock). after_blocks c.local t.sender.una t.sender.top x t.told) bs) in
    let d = acknowledgements.with_told s c in
    let p = acknowledgements.next_hole d.transmission in
    let lost = none_lost t.mss p (acknowledgements.told_after s c) (told ∙ rs) in
    same c _ _ (acknowledgements.told_after s c)
    (and_not c.reception.sack_permitted _
    (no_less (told_between t.sender.una t.sender.top t.told) (told_between t.sender.una t.sender.top (acknowledgements.told_after s c))
    (ap (λ (x : List Range). told_between t.sender.una t.sender.top x) (sym told))))
    (and_not c.reception.sack_permitted _ (not_and _ _ (and_not c.congestion.is_recovering _ lost))) told

-- what is sent again begins within what was sent
least : (t h : ℕ) → min t h ≤ t
least t h = grind arith

pub again_high : (c : Connection) → c.transmission.sender.una ≤ c.transmission.sender.top → again_from c ≤ c.transmission.sender.top
again_high c h = by c.congestion.is_recovering where
  by : (b : Bool) → (if b then acknowledgements.next_hole c.transmission else c.transmission.sender.una) ≤ c.transmission.sender.top
  by true = least c.transmission.sender.top (hole_from (max c.transmission.sender.una c.transmission.resent) c.transmission.told)
  by false = h
