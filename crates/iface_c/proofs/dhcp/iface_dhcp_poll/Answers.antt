use Rattle.std.proofs.Common.{◌≡◌, Some, of_z, to_z, w64, refl, rules}
use Rattle.iface_c.specs.DhcpHandle.{dhcp_in}
use Rattle.iface_c.specs.Handle.{host_in}
use Rattle.iface_c.proofs.PolledDhcp.{polled_there}
use Rattle.iface_c.proofs.dhcp.iface_dhcp_poll.Goals as goal

pub returns-in-Ok-clause-done : goal.returns-in-Ok-clause-done
returns-in-Ok-clause-done c =
    let same : to_z w64 (of_z w64 c.args.now) ≡ c.args.now = search rules in
    let client : dhcp_in c.args.client.now ≡ Some c.deref_mut.result.now = search rules in
    let host : host_in c.args.handle.now ≡ Some c.deref_mut-2.result.now = search rules in
    record {
      done = λ _. polled_there c.args.now (to_z w64 (of_z w64 c.args.now)) c.number_of.result c.in-Ok.told c.deref_mut.result.now
          c.poll-done.new.self c.deref_mut-2.result.now c.poll-done.new.host same client c.put-3.ensures host c.put-2.ensures
          c.in-Ok.ensures.polled c.number_of.ensures;
      client = λ refused. absurd (refused refl);
      host = λ refused. absurd (refused refl);
    }
