use Rattle.std.specs.Prelude.{drop}
use Rattle.httparse.specs.Outcome.{IfComplete}
use Rattle.httparse.specs.Spans.{IsRequestOf}
use Rattle.http_hello.specs.Answers.{Whole}
use Rattle.http_hello.proofs.answer.answer_to.Goals as goal

pub returns-in-Complete-clause-due : goal.returns-in-Complete-clause-due
returns-in-Complete-clause-due c = λ is.
    let found : IsRequestOf c.args.octets.now c.parse_request.new.headers c.in-Complete.head =
    rw c.in-Complete.is at c.in-Ok.ensures.complete in
    Whole found.0 (drop c.in-Complete.head.len c.args.octets.now) found.1.reads
