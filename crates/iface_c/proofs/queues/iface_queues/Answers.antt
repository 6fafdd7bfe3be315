use Rattle.std.proofs.Common.{◌≡◌, Some, refl}
use Rattle.iface_c.specs.Handle.{host_in}
use Rattle.iface_c.specs.Queues.{ShowsQueues}
use Rattle.iface_c.proofs.SameHost.{same_there}
use Rattle.iface_c.proofs.queues.iface_queues.Goals as goal

pub returns-in-Some-found-clause-done : goal.returns-in-Some-found-clause-done
returns-in-Some-found-clause-done c =
    let shown : ShowsQueues c.args.socket c.of.result c.of-in-Some-found.result c.in-Some.host.value c.in-Some.host.value =
    record { fills = (c.in-Some-found.rx, c.in-Some-found.tx); are_there = cc; received_is = cc; to_send_is = cc; same = refl } in
    let was : host_in c.args.handle.now ≡ Some c.in-Some.host.value = cc in
    let is : host_in c.put.new.self ≡ Some c.in-Some.host.value = cc in
    record {
      done = λ _. same_there (λ old new. ShowsQueues c.args.socket c.of.result c.of-in-Some-found.result old new)
          c.in-Some.host.value was is shown;
      refused = λ h. absurd (h refl);
    }
