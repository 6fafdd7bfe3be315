use Rattle.std.proofs.Common.{◌≡◌, ◌∙◌, Some, of_z, to_z, w64, refl, rules}
use Rattle.iface_c.specs.Handle.{host_in}
use Rattle.iface_c.specs.Routes.{ShowsRoute}
use Rattle.iface_c.proofs.SameHost.{same_there}
use Rattle.iface_c.proofs.routes.iface_route_at.Goals as goal

pub returns-in-Some-found-clause-shown : goal.returns-in-Some-found-clause-shown
returns-in-Some-found-clause-shown c =
    let until : to_z w64 (of_z w64 c.micros_or_never.result) ≡ c.micros_or_never.result = search rules in
    let shown : ShowsRoute c.args.place c.of.result c.prefix_len.result c.of-in-Some-found.result
    (to_z w64 (of_z w64 c.micros_or_never.result)) c.in-Some.host.value c.in-Some.host.value = record {
      route = c.in-Some-found.route;
      is_there = cc;
      network_is = cc;
      prefix_len_is = cc;
      router_is = cc;
      until_is = until ∙ c.micros_or_never.ensures;
      same = refl;
    } in
    let was : host_in c.args.handle.now ≡ Some c.in-Some.host.value = cc in
    let is : host_in c.put.new.self ≡ Some c.in-Some.host.value = cc in
    record {
      done = λ _. same_there (λ old new. ShowsRoute c.args.place c.of.result c.prefix_len.result c.of-in-Some-found.result
          (to_z w64 (of_z w64 c.micros_or_never.result)) old new) c.in-Some.host.value was is shown;
      refused = λ h. absurd (h refl);
    }
