use Rattle.std.proofs.Common.{length, take, rules, sym, ap, ◌∙◌, arith}
use Rattle.std.proofs.lemmas.List.{take_all, take_rest}
use Rattle.script.proofs.Separators.{first_at, none_at}
use Rattle.script.proofs.line.split_at.Goals as goal

pub returns-in-Some-clause-before : goal.returns-in-Some-clause-before
returns-in-Some-clause-before c =
    let first = first_at c.args.separator c.args.text.now c.in-Some.at (search rules) (search rules) (search rules) in
    ap (λ i. take i c.args.text.now) (sym first)

pub returns-in-Some-clause-after : goal.returns-in-Some-clause-after
returns-in-Some-clause-after c =
    let first = first_at c.args.separator c.args.text.now c.in-Some.at (search rules) (search rules) (search rules) in
    (rw first (search rules), rw (first, take_rest))

pub returns-in-None-clause-before : goal.returns-in-None-clause-before
returns-in-None-clause-before c =
    let none = none_at c.args.separator c.args.text.now (search rules) in
    sym (ap (λ i. take i c.args.text.now) none ∙ take_all (length c.args.text.now) c.args.text.now (omega arith))

pub returns-in-None-clause-after : goal.returns-in-None-clause-after
returns-in-None-clause-after c = none_at c.args.separator c.args.text.now (search rules)
