use Rattle.std.proofs.Common.{◌≡◌, Some, rules}
use Rattle.iface_streams.specs.Streams.{ClosesBoth}
use Rattle.iface_streams.proofs.streams.close_pair.Goals as goal

pub returns-in-Some : goal.returns-in-Some
returns-in-Some c =
    let here : c.args.pair.now ≡ Some c.in-Some.pair = search rules in
    let both : ClosesBoth c.in-Some.pair c.args.host.now c.close_one-in-Some.new.host =
    record { between = c.close_one.new.host; near = c.close_one.ensures; far = c.close_one-in-Some.ensures } in
    rw here both
