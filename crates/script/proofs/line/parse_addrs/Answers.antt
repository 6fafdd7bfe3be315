use Rattle.std.proofs.Common.{◌≡◌, ◌<◌, [], ◌∷◌, ◌++◌, false, None, length, length-append, rules, sym, ap, ◌∙◌, arith}
use Rattle.std.specs.List.{before_first, after_first, position_or_len}
use Rattle.std.specs.Prelude.{is_ok}
use Rattle.script.specs.Text.{is_space, network_in, parts_of}
use Rattle.script.proofs.Networks.{spell_last, spell_more, spell_none, spell_five, full_of}
use Rattle.script.proofs.line.parse_addrs.Goals as goal

pub returns-in-None-clause-said : goal.returns-in-None-clause-said
returns-in-None-clause-said c =
    let network = c.in_ok-parse_cidr.field-0 in
    let pushed : c.try_push.new.self.items ≡ c.loop.list.items ++ network ∷ [] = search rules in
    let none : position_or_len is_space c.loop.left.now ≡ length c.loop.left.now = search rules in
    let here : network_in (before_first is_space c.loop.left.now) ≡ parts_of network = ap network_in (sym c.split_at.ensures.before)
    ∙ c.in_ok-parse_cidr.ensures.network in
    rw pushed (spell_last c.args.words.now c.loop.left.now c.loop.list.items network none c.loop.invariant.0 here)

pub loop-preserved : goal.loop-preserved
loop-preserved c =
    let network = c.in_ok-parse_cidr.field-0 in
    let pushed : c.try_push.new.self.items ≡ c.loop.list.items ++ network ∷ [] = search rules in
    let some : (position_or_len is_space c.loop.left.now < length c.loop.left.now)
    × (c.in-Some.rest.now ≡ after_first is_space c.loop.left.now) = search rules in
    let here : network_in (before_first is_space c.loop.left.now) ≡ parts_of network = ap network_in (sym c.split_at.ensures.before)
    ∙ c.in_ok-parse_cidr.ensures.network in
    rw (pushed, some.1) (
      spell_more c.args.words.now c.loop.left.now c.loop.list.items network some.0 c.loop.invariant.0 here,
      omega (arith, length-append c.loop.list.items (network ∷ []), c.loop.invariant.1),
    )

pub returns-in_err-parse_cidr-clause-none : goal.returns-in_err-parse_cidr-clause-none
returns-in_err-parse_cidr-clause-none c =
    let none : network_in (before_first is_space c.loop.left.now) ≡ None = ap network_in (sym c.split_at.ensures.before)
    ∙ c.in_err-parse_cidr.ensures.none in
    rw c.from_residual.ensures
    (λ networks few spelled. spell_none c.args.words.now c.loop.left.now c.loop.list.items networks c.loop.invariant.0 none spelled)

pub returns-clause-none : goal.returns-clause-none
returns-clause-none c = λ networks few spelled. spell_five c.args.words.now c.loop.left.now c.loop.list.items networks c.loop.invariant.0
    (omega (arith, c.loop.invariant.1, c.loop-test.false)) few spelled

pub returns-in_err-ok-clause-none : goal.returns-in_err-ok-clause-none
returns-in_err-ok-clause-none c =
    let refused : is_ok c.try_push.result ≡ false = search rules in
    let full : length c.loop.list.items ≡ 4 = full_of c.try_push.result c.try_push.ensures.full refused in
    absurd (omega (arith, full, c.loop.invariant.1, c.loop-test.true))
