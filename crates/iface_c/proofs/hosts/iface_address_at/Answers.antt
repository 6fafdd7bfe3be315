use Rattle.std.proofs.Common.{◌≡◌, Some, refl}
use Rattle.iface_c.specs.Handle.{host_in}
use Rattle.iface_c.specs.Hosts.{ShowsAddress}
use Rattle.iface_c.proofs.SameHost.{same_there}
use Rattle.iface_c.proofs.hosts.iface_address_at.Goals as goal

pub returns-in-Some-found-clause-shown : goal.returns-in-Some-found-clause-shown
returns-in-Some-found-clause-shown c =
    let shown : ShowsAddress c.args.place c.of.result c.prefix_len.result c.in-Some.host.value c.in-Some.host.value =
    record { cidr = c.in-Some-found.cidr; is_there = cc; address_is = cc; prefix_len_is = cc; same = refl } in
    let was : host_in c.args.handle.now ≡ Some c.in-Some.host.value = cc in
    let is : host_in c.put.new.self ≡ Some c.in-Some.host.value = cc in
    record {
      done = λ _. same_there (λ old new. ShowsAddress c.args.place c.of.result c.prefix_len.result old new) c.in-Some.host.value was is shown;
      refused = λ h. absurd (h refl);
    }
