-- Options are read as they were written.
use Rattle.std.proofs.Common.{◌≡◌, ℕ, zero, suc, ◌<◌, ◌≤◌, ◌^◌, min, Bool, true, false, List, [], ◌∷◌, ◌++◌}
use Rattle.std.proofs.Common.{Option, Some, None, unwrap_or, length, take, drop, refl, sym, ap, ◌∙◌, append_assoc, take_all, arith}
use Rattle.std.specs.Prelude.{IsTrue, IsNone}
use Rattle.std.specs.Int.{w16, w32, to_be_bytes, from_be_bytes}
use Rattle.std.specs.List.{All}
use Rattle.std.proofs.lemmas.Bool.{and_from, le-leb}
use Rattle.std.proofs.lemmas.List.Elements.{All-head, All-tail}
use Rattle.std.proofs.lemmas.Nat.{from_be_bytes-to_be_bytes_4}
use Rattle.ip_wire.proofs.Ipv4Again.{total}
use Rattle.tcp_wire.specs.declared.options.SackRange.{SackRange}
use Rattle.tcp_wire.specs.declared.options.TcpTimestamp.{TcpTimestamp}
use Rattle.tcp_wire.specs.declared.options.TcpOptions.{TcpOptions}
use Rattle.tcp_wire.specs.Options.{options_after, options_in, no_options, no_ranges, begins_option, option_len, last_of, with_option}
use Rattle.tcp_wire.specs.Options.{size_text, timestamp_text, scale_text, sack_text}
use Rattle.tcp_wire.specs.Options.{range_text, ranges_of, front_text, sent_ranges, options_text, IsRange, IsTimestamp, InFront, AreOptions}
use Rattle.tcp_wire.proofs.Reading.{values_over, begin, next}

-- what is read of some octets, over values from before them
abbrev pub read_over : TcpOptions → List ℕ → TcpOptions
read_over before octets = values_over before (options_after 0 octets)

nop : (before : TcpOptions) (rest : List ℕ) → read_over before (1 ∷ rest) ≡ read_over before rest
nop before rest =
    sym (next (1 ∷ rest) (1 ∷ []) rest before before (and_from _ _ (and_from _ _ refl (le-leb _ _ (omega arith))) refl) refl refl refl)

size : (before : TcpOptions) (n : ℕ) (rest : List ℕ) → n < 2 ^ 16
    → read_over before (size_text (Some n) ++ rest) ≡ read_over (record before { max_seg_size = Some n }) rest
unfolding size_text
size before n rest small =
    sym (next (2 ∷ 4 ∷ to_be_bytes w16 n ++ rest) (2 ∷ 4 ∷ to_be_bytes w16 n) rest before (record before { max_seg_size = Some n })
    (and_from _ _ (and_from _ _ refl (le-leb _ _ (omega arith))) refl) refl refl
    (ap (λ (k : ℕ). record before { max_seg_size = Some k }) (sym (total n small))))

permitted : (before : TcpOptions) (rest : List ℕ) → read_over before (4 ∷ 2 ∷ rest) ≡ read_over (record before { sack_permitted = true }) rest
permitted before rest =
    sym (next (4 ∷ 2 ∷ rest) (4 ∷ 2 ∷ []) rest before (record before { sack_permitted = true })
    (and_from _ _ (and_from _ _ refl (le-leb _ _ (omega arith))) refl) refl refl refl)

timestamp : (before : TcpOptions) (t : TcpTimestamp) (rest : List ℕ) → t.value < 2 ^ 32 → t.echo < 2 ^ 32
    → read_over before (8 ∷ 10 ∷ (to_be_bytes w32 t.value ++ to_be_bytes w32 t.echo) ++ rest)
    ≡ read_over (record before { timestamp = Some t }) rest
timestamp before t rest value echo =
    let option = 8 ∷ 10 ∷ (to_be_bytes w32 t.value ++ to_be_bytes w32 t.echo) in
    let made : (v e : ℕ) → t.value ≡ v → t.echo ≡ e →
    ◌≡◌ {A = TcpOptions} (record before { timestamp = Some t }) (record before { timestamp = Some (record { value = v; echo = e }) }) =
    λ v e ev ee. rw (← ev, ← ee) refl in
    sym (next (option ++ rest) option rest before (record before { timestamp = Some t })
    (and_from _ _ (and_from _ _ refl (le-leb _ _ (omega arith))) refl) refl refl
    (made _ _ (sym (from_be_bytes-to_be_bytes_4 t.value value)) (sym (from_be_bytes-to_be_bytes_4 t.echo echo))))

scale : (before : TcpOptions) (shift : ℕ) (rest : List ℕ) → shift ≤ 14
    → read_over before (scale_text (Some shift) ++ rest) ≡ read_over (record before { window_scale = Some shift }) rest
unfolding scale_text
scale before shift rest small =
    let same : shift ≡ min shift 14 = omega (arith, small) in
    nop before (3 ∷ 3 ∷ shift ∷ rest)
    ∙ sym (next (3 ∷ 3 ∷ shift ∷ rest) (3 ∷ 3 ∷ shift ∷ []) rest before (record before { window_scale = Some shift })
    (and_from _ _ (and_from _ _ refl (le-leb _ _ (omega arith))) refl) refl refl
    (ap (λ (k : ℕ). record before { window_scale = Some k }) same))

-- the places that some ranges take from the first one on
abbrev pub placed : ℕ → List SackRange → List (Option SackRange)
placed zero rs = []
placed (suc n) [] = None ∷ placed n []
placed (suc n) (r ∷ rs) = Some r ∷ placed n rs

none_left : (places : List (Option SackRange)) → All (λ p. IsNone p) places → (ranges_of places ≡ []) × (places ≡ placed (length places) [])
none_left [] all = (refl, refl)
none_left (None ∷ places) all =
    let rest = none_left places (All-tail (λ p. IsNone p) None places all) in
    (rest.0, ap (λ ps. None ∷ ps) rest.1)
none_left (Some r ∷ places) all = let bad = All-head (λ p. IsNone p) (Some r) places all in absurd (cc)

pub in_front : (places : List (Option SackRange)) → InFront places → places ≡ placed (length places) (ranges_of places)
unfolding InFront
in_front [] h = refl
in_front (None ∷ places) h =
    let rest = none_left places h in
    ap (λ ps. None ∷ ps) rest.1 ∙ ap (placed (suc (length places))) (sym rest.0)
in_front (Some r ∷ places) h = ap (λ ps. Some r ∷ ps) (in_front places h)

-- a block is read as it was written
made_range : (l r : ℕ) (range : SackRange) → l ≡ range.left.bits → r ≡ range.right.bits →
    ◌≡◌ {A = Option SackRange} (Some (record { left = record { bits = l }; right = record { bits = r } })) (Some range)
made_range l r range el er = rw (el, er) refl

abbrev number_again : ℕ → ℕ
number_again n = from_be_bytes w32 (to_be_bytes w32 n)

block : (a : SackRange) → IsRange a → ◌≡◌ {A = Option SackRange}
    (Some (record { left = record { bits = number_again a.left.bits }; right = record { bits = number_again a.right.bits } })) (Some a)
block a h = made_range _ _ a (from_be_bytes-to_be_bytes_4 a.left.bits h.0) (from_be_bytes-to_be_bytes_4 a.right.bits h.1)

four : (a b c d p q r s : Option SackRange) → p ≡ a → q ≡ b → r ≡ c → s ≡ d →
    ◌≡◌ {A = List (Option SackRange)} (a ∷ b ∷ c ∷ d ∷ []) (p ∷ q ∷ r ∷ s ∷ [])
four a b c d p q r s ea eb ec ed = rw (ea, eb, ec, ed) refl

pub nothing : (before : TcpOptions) → read_over before [] ≡ before
unfolding options_after last_of
nothing before = refl

-- the only option of some octets
only : (before : TcpOptions) (option : List ℕ) (ranges : List (Option SackRange)) → IsTrue (begins_option option)
    → option ≡ take (option_len option) option → [] ≡ drop (option_len option) option
    → record before { sack_ranges = ranges } ≡ with_option option before
    → read_over before (1 ∷ 1 ∷ option) ≡ record before { sack_ranges = ranges }
only before option ranges begins whole rest is =
    nop before (1 ∷ option) ∙ nop before option
    ∙ sym (next option option [] before (record before { sack_ranges = ranges }) begins whole rest is)
    ∙ nothing (record before { sack_ranges = ranges })

sack : (before : TcpOptions) (rs : List SackRange) → before.sack_ranges ≡ no_ranges → All IsRange rs → length rs ≤ 4
    → read_over before (sack_text rs) ≡ record before { sack_ranges = placed 4 rs }
unfolding sack_text range_text
sack before [] none all few = nothing before ∙ ap (λ ps. record before { sack_ranges = ps }) none
sack before (a ∷ []) none all few =
    only before (5 ∷ 10 ∷ range_text a) (placed 4 (a ∷ [])) refl refl refl
    (ap (λ ps. record before { sack_ranges = ps })
    (four _ _ _ _ _ _ _ _ (block a (all 0 a (omega arith))) refl refl refl))
sack before (a ∷ b ∷ []) none all few =
    only before (5 ∷ 18 ∷ (range_text a ++ range_text b)) (placed 4 (a ∷ b ∷ [])) refl refl refl
    (ap (λ ps. record before { sack_ranges = ps })
    (four _ _ _ _ _ _ _ _ (block a (all 0 a (omega arith))) (block b (all 1 b (omega arith))) refl refl))
sack before (a ∷ b ∷ c ∷ []) none all few =
    only before (5 ∷ 26 ∷ (range_text a ++ range_text b ++ range_text c)) (placed 4 (a ∷ b ∷ c ∷ [])) refl refl refl
    (ap (λ ps. record before { sack_ranges = ps })
    (four _ _ _ _ _ _ _ _ (block a (all 0 a (omega arith))) (block b (all 1 b (omega arith))) (block c (all 2 c (omega arith))) refl))
sack before (a ∷ b ∷ c ∷ d ∷ []) none all few =
    only before (5 ∷ 34 ∷ (range_text a ++ range_text b ++ range_text c ++ range_text d)) (placed 4 (a ∷ b ∷ c ∷ d ∷ [])) refl refl refl
    (ap (λ ps. record before { sack_ranges = ps })
    (four _ _ _ _ _ _ _ _ (block a (all 0 a (omega arith))) (block b (all 1 b (omega arith))) (block c (all 2 c (omega arith)))
    (block d (all 3 d (omega arith)))))
sack before (a ∷ b ∷ c ∷ d ∷ e ∷ rs) none all few = absurd (omega (arith, few))

-- each option, whether it is there or not
size_all : (size? : Option ℕ) (rest : List ℕ) → unwrap_or size? 0 < 2 ^ 16
    → read_over no_options (size_text size? ++ rest) ≡ read_over (record no_options { max_seg_size = size? }) rest
unfolding size_text
size_all None rest h = refl
size_all (Some n) rest h = size no_options n rest h

timestamp_all : (before : TcpOptions) (may : Bool) (t : Option TcpTimestamp) (rest : List ℕ) →
    before.sack_permitted ≡ false → before.timestamp ≡ None → IsTimestamp t
    → read_over before (timestamp_text may t ++ rest) ≡ read_over (record before { sack_permitted = may; timestamp = t }) rest
unfolding timestamp_text
timestamp_all before true None rest es et h =
    nop before (1 ∷ 4 ∷ 2 ∷ rest) ∙ nop before (4 ∷ 2 ∷ rest) ∙ permitted before rest
    ∙ ap (λ x. read_over (record before { sack_permitted = true; timestamp = x }) rest) et
timestamp_all before false None rest es et h =
    ap (λ x. read_over (record before { timestamp = x }) rest) et
    ∙ ap (λ x. read_over (record before { sack_permitted = x; timestamp = None }) rest) es
timestamp_all before true (Some t) rest es et h =
    permitted before (8 ∷ 10 ∷ (to_be_bytes w32 t.value ++ to_be_bytes w32 t.echo) ++ rest)
    ∙ timestamp (record before { sack_permitted = true }) t rest h.0 h.1
timestamp_all before false (Some t) rest es et h =
    nop before (1 ∷ 8 ∷ 10 ∷ (to_be_bytes w32 t.value ++ to_be_bytes w32 t.echo) ++ rest)
    ∙ nop before (8 ∷ 10 ∷ (to_be_bytes w32 t.value ++ to_be_bytes w32 t.echo) ++ rest)
    ∙ timestamp before t rest h.0 h.1
    ∙ ap (λ x. read_over (record before { sack_permitted = x; timestamp = Some t }) rest) es

scale_all : (before : TcpOptions) (shift : Option ℕ) (rest : List ℕ) → before.window_scale ≡ None → unwrap_or shift 0 ≤ 14
    → read_over before (scale_text shift ++ rest) ≡ read_over (record before { window_scale = shift }) rest
unfolding scale_text
scale_all before None rest none h = ap (λ x. read_over (record before { window_scale = x }) rest) none
scale_all before (Some shift) rest none h = scale before shift rest h

-- all fit, so all are sent
all_sent : (o : TcpOptions) → AreOptions o → sent_ranges o ≡ ranges_of o.sack_ranges
all_sent o h = let fit = h.fit in take_all _ (ranges_of o.sack_ranges) fit

-- four texts, one after the other
grouped : (a b c d : List ℕ) → ((a ++ b) ++ c) ++ d ≡ a ++ (b ++ (c ++ d))
grouped a b c d = append_assoc (a ++ b) c d ∙ append_assoc a b (c ++ d)

pub options_again : (o : TcpOptions) → AreOptions o → options_in (options_text o) ≡ o
options_again o h =
    let few : length (ranges_of o.sack_ranges) ≤ 4 = omega (arith, h.fit) in
    let filled : placed 4 (ranges_of o.sack_ranges) ≡ o.sack_ranges =
    ap (λ (n : ℕ). placed n (ranges_of o.sack_ranges)) (sym h.places) ∙ sym (in_front o.sack_ranges h.in_front) in
    let first = record no_options { max_seg_size = o.max_seg_size } in
    let second = record first { sack_permitted = o.sack_permitted; timestamp = o.timestamp } in
    let third = record second { window_scale = o.window_scale } in
    let text : options_text o ≡ size_text o.max_seg_size ++ (timestamp_text o.sack_permitted o.timestamp
    ++ (scale_text o.window_scale ++ sack_text (ranges_of o.sack_ranges)))
    = ap (λ (rs : List SackRange). front_text o ++ sack_text rs) (all_sent o h)
    ∙ grouped (size_text o.max_seg_size) (timestamp_text o.sack_permitted o.timestamp) (scale_text o.window_scale)
    (sack_text (ranges_of o.sack_ranges)) in
    sym (begin (options_text o))
    ∙ ap (read_over no_options) text
    ∙ size_all o.max_seg_size _ h.size
    ∙ timestamp_all first o.sack_permitted o.timestamp _ refl refl h.timestamp
    ∙ scale_all second o.window_scale _ refl h.scale
    ∙ sack third (ranges_of o.sack_ranges) refl h.ranges few
    ∙ ap (λ ps. record third { sack_ranges = ps }) filled
