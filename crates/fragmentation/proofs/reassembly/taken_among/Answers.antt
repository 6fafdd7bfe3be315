use Rattle.std.proofs.Common.{◌≡◌, ◌≤◌, ◌<◌, ◌+◌, ℕ, Bool, true, false, List, Option, length, refl, sym, ap, ◌∙◌, arith}
use Rattle.std.specs.Prelude.{is_some}
use Rattle.fragmentation.specs.Assembly.{Assembly, with_keys}
use Rattle.fragmentation.specs.Details.Holders.{holder_at, count_below}
use Rattle.fragmentation.proofs.HolderLemmas.{holder_in, count_more, count_same}
use Rattle.fragmentation.proofs.KeptLemmas.{length-with_keys}
use Rattle.fragmentation.proofs.reassembly.taken_among.Goals as goal
use Rattle.fragmentation.proofs.reassembly.taken_among.Goals.{then-is_taken, else-is_taken}

pub loop-i-preserved : goal.loop-i-preserved
loop-i-preserved g c =
    let p : ℕ → Bool = λ i. is_some (holder_at i (with_keys c.args.keys.now c.args.assemblers.now)) in
    let long = c.requires.as_many in
    let here : is_some (holder_at c.loop-i.i (with_keys c.args.keys.now c.args.assemblers.now)) ≡ c.is_taken.result =
    ap is_some (sym (holder_in c.loop-i.i c.args.keys.now c.args.assemblers.now c.index-keys-i.result c.index-assemblers-i.result
    c.loop-i-test.true (omega (arith, long, c.loop-i-test.true)) c.index-keys-i.is c.index-assemblers-i.is)) ∙ sym c.is_taken.ensures in
    elim c.if-is_taken.branch [
      | then-is_taken w ↦ rw w.count-is (
        ap (λ n. n + 1) c.loop-i.invariant.0 ∙ count_more p c.loop-i.i true (here ∙ w.if-is_taken.true),
        let few = c.loop-i.invariant.1 in omega arith,
      )
      | else-is_taken w ↦ rw w.count-is (
        c.loop-i.invariant.0 ∙ count_same p c.loop-i.i (here ∙ w.if-is_taken.false),
        let few = c.loop-i.invariant.1 in omega arith,
      )
    ]

pub returns-clause-taken : goal.returns-clause-taken
returns-clause-taken g c =
    let p : ℕ → Bool = λ i. is_some (holder_at i (with_keys c.args.keys.now c.args.assemblers.now)) in
    let long = length-with_keys c.args.keys.now c.args.assemblers.now c.requires.as_many in
    let many = c.requires.as_many in
    let end : c.loop-i.i ≡ length (with_keys c.args.keys.now c.args.assemblers.now) = omega (arith, long, many, c.loop-i-test.false) in
    c.loop-i.invariant.0 ∙ ap (count_below p) end

pub returns-clause-few : goal.returns-clause-few
returns-clause-few g c =
    let long = length-with_keys c.args.keys.now c.args.assemblers.now c.requires.as_many in
    let many = c.requires.as_many in
    let few = c.loop-i.invariant.1 in
    omega (arith, long, many, few, c.loop-i-test.false)
