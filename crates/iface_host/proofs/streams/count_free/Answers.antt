use Rattle.std.proofs.Common.{◌≡◌, ◌≤◌, cond, rules, arith}
use Rattle.std.specs.Option.{is_none}
use Rattle.iface_host.proofs.Vacancies.{at_most_one, counted_more}
use Rattle.iface_host.proofs.streams.count_free.Goals as goal

pub loop-index-preserved : goal.loop-index-preserved
loop-index-preserved c =
    let one : c.from-count.result ≡ cond (is_none c.socket.result) 1 0 = search rules in
    let few : cond (is_none c.socket.result) 1 0 ≤ 1 = at_most_one (is_none c.socket.result) in
    let held : c.loop-index.count ≤ c.loop-index.index = c.loop-index.invariant.1 in
    rw one (
      counted_more c.args.sockets.now c.loop-index.index c.places-index-end.result c.loop-index.count c.socket.result
          c.places-index-end.ensures c.loop-index-test.true c.socket.ensures c.loop-index.invariant.0,
      omega arith,
    )
