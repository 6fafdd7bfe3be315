use Rattle.std.proofs.Common.{◌≡◌, Result, Ok, Err, OnOk, refl, rules, to_z, of_z, w64}
use Rattle.std.specs.Prelude.{pos}
use Rattle.iface_streams.proofs.streams.Streams.poll.Goals as goal

if_done : {X E : Type 0} (r : Result X E) (P Q : Type 0) → (P → Q) → OnOk r P → OnOk r Q
if_done (Ok x) P Q f h = f h
if_done (Err e) P Q f h = h

pub returns-clause-polled : goal.returns-clause-polled
returns-clause-polled c =
    let same : pos c.in_ok-micros.micros ≡ c.args.now = search rules in
    let read : to_z w64 (of_z w64 c.args.now) ≡ c.args.now = search rules in
    if_done c.poll_streams.result _ _
    (λ polled. record {
      micros = c.in_ok-micros.micros;
      is_now = same;
      heard = c.hear_reports.new.self;
      lost = c.lose_absent.new.self;
      between = c.hear_reports.new.host;
      before = c.lose_absent.new.host;
      hears = c.hear_reports.ensures;
      loses = c.lose_absent.ensures;
      polled = polled;
      rest = refl;
    })
    (rw read at c.poll_streams.ensures.polled)
