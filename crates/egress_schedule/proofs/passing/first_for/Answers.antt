use Rattle.std.proofs.Common.{◌≡◌, ◌<◌, ◌≤◌, ℕ, Bool, List, Option, length, sym, ap, ◌∙◌, arith}
use Rattle.ip_address.specs.declared.ip.IpAddress.{IpAddress}
use Rattle.sockets.specs.Kinds.{destinations}
use Rattle.sockets.specs.Source.{is_same}
use Rattle.egress_schedule.specs.Passing.{is_for}
use Rattle.egress_schedule.proofs.Order.{count_is, found_none, found_one, passed_one}
use Rattle.egress_schedule.proofs.passing.first_for.Goals as goal

pub loop-index-preserved : goal.loop-index-preserved
loop-index-preserved g c =
    let p : IpAddress → Bool = is_same c.args.address.now in
    let ds : List (Option IpAddress) = destinations c.args.socket.now in
    let i : ℕ = c.loop-index.index in
    let there : i < length ds = omega (arith, count_is c.args.socket.now, c.count_to_send-count.ensures, c.loop-index-test.true) in
    passed_one p ds i there (ap (is_for p) (sym c.destination_at.ensures) ∙ (sym c.is_address.ensures ∙ c.if-is_address.false)) c.loop-index.invariant

pub returns-then-is_address : goal.returns-then-is_address
returns-then-is_address g c =
    let p : IpAddress → Bool = is_same c.args.address.now in
    let ds : List (Option IpAddress) = destinations c.args.socket.now in
    let i : ℕ = c.loop-index.index in
    let there : i < length ds = omega (arith, count_is c.args.socket.now, c.count_to_send-count.ensures, c.loop-index-test.true) in
    found_one p ds i there (ap (is_for p) (sym c.destination_at.ensures) ∙ (sym c.is_address.ensures ∙ c.if-is_address.true)) c.loop-index.invariant

pub returns : goal.returns
returns g c =
    let p : IpAddress → Bool = is_same c.args.address.now in
    let ds : List (Option IpAddress) = destinations c.args.socket.now in
    let i : ℕ = c.loop-index.index in
    let past : length ds ≤ i = omega (arith, count_is c.args.socket.now, c.count_to_send-count.ensures, c.loop-index-test.false) in
    let end : c.count_to_send-count.result ≡ i = omega (arith, c.loop-index-test.false, c.loop-index.auto.index-end) in
    end ∙ found_none p ds i past c.loop-index.invariant
