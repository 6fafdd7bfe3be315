use Rattle.std.proofs.Common.{arith}
use Rattle.std.proofs.lemmas.Bool.Decides.{nat_tests}
use Rattle.dhcp_client.proofs.Reading.{data_short, data_other}
use Rattle.dhcp_client.proofs.options.join_if.Goals as goal
use Rattle.dhcp_client.proofs.options.join_if.Goals.{else-option-code-via-then-option-code+else-option-gt2, else-option-code-via-else-option-code}

pub returns-else-option-code-clause-items : goal.returns-else-option-code-clause-items
returns-else-option-code-clause-items c = elim c.else-option-code.branch [
  | else-option-code-via-then-option-code+else-option-gt2 w ↦
      data_short c.args.code c.args.option.now c.args.found.now.items (omega (arith, w.if-option-gt2.false)) c.requires.room
  | else-option-code-via-else-option-code w ↦
      data_other c.args.code c.args.option.now c.args.found.now.items (grind (arith, nat_tests, w.if-option-code.false)) c.requires.room
]
