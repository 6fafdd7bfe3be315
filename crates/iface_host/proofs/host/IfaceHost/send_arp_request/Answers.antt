use Rattle.std.proofs.Common.{◌≡◌, true, rules}
use Rattle.iface_host.specs.Claims.{request}
use Rattle.iface_host.specs.Outbox.{with_room}
use Rattle.iface_host.proofs.ClaimCalls.{queued}
use Rattle.iface_host.proofs.host.IfaceHost.send_arp_request.Goals as goal

pub returns-clause-sent : goal.returns-clause-sent
returns-clause-sent c =
    let hardware = c.in-Some.hardware in
    let reserved : c.reserve.new.self ≡ with_room true c.args.self.now.outbox = search rules in
    let same : c.request.result ≡ request hardware c.args.sender c.args.target = search rules in
    record {
      hardware = hardware;
      is_own = search rules;
      queued = queued c.args.self.now c.reserve.new.self c.keep.new.self c.request.result (request hardware c.args.sender c.args.target) reserved
          c.keep.ensures same;
    }
