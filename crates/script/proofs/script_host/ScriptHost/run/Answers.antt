use Rattle.std.proofs.Common.{◌≡◌, List, [], ◌∷◌, length, get_or, refl, rules, arith}
use Rattle.script.specs.Commands.{command_of, moment_after}
use Rattle.script.proofs.script_host.ScriptHost.run.Goals as goal

-- a list of one
single : {A : Type 0} (xs : List A) (d : A) → length xs ≡ 1 → xs ≡ get_or xs 0 d ∷ []
single [] d one = absurd (omega arith)
single (x ∷ []) d one = refl
single (x ∷ y ∷ xs) d one = absurd (omega arith)

pub returns-clause-runs : goal.returns-clause-runs
returns-clause-runs c = λ H h.
    let command : c.command-command.result ≡ command_of (moment_after c.args.self.now.moment c.args.call) c.args.call = search rules in
    let one : length c.drive.new.answers ≡ 1 = search rules in
    rw (← single c.drive.new.answers c.index-answers-0.result one, ← command) (c.drive.ensures H h)
