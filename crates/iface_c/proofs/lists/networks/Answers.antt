use Rattle.std.proofs.Common.{◌≡◌, ◌+◌, ◌<◌, ◌∷◌, ◌++◌, ◌∙◌, List, [], ap, sym, length, drop, rules}
use Rattle.std.proofs.lemmas.List.{drop_more}
use Rattle.std.specs.Option.{option_and_then, option_map}
use Rattle.ip_address.specs.declared.cidr.IpCidr.{IpCidr}
use Rattle.iface_c.specs.Lists.{cidrs_in}
use Rattle.iface_c.proofs.Reading.{one_more}
use Rattle.iface_c.proofs.lists.networks.Goals as goal

pub loop-one-preserved : goal.loop-one-preserved
loop-one-preserved c =
    let len : length c.push.new.self.items ≡ c.loop-one.one-index + 1 = search rules in
    let within : c.loop-one.one-index < length c.args.list.now = search rules in
    let read : cidrs_in (drop c.loop-one.one-index c.args.list.now)
    ≡ option_map (λ (rest : List IpCidr). c.in_ok-cidr.field-0 ∷ rest) (cidrs_in (drop (c.loop-one.one-index + 1) c.args.list.now)) =
    ap cidrs_in (drop_more c.args.list.now c.loop-one.one-index (record { address = record { version = 0; octets = [] }; prefix_len = 0 }) within)
    ∙ ap (option_and_then (λ (one : IpCidr).
    option_map (λ (others : List IpCidr). one ∷ others) (cidrs_in (drop (c.loop-one.one-index + 1) c.args.list.now))))
    (sym c.cidr.ensures ∙ c.in_ok-cidr.was) in (
      len,
      ap (λ (items : List IpCidr).
          option_map (λ (rest : List IpCidr). items ++ rest) (cidrs_in (drop (c.loop-one.one-index + 1) c.args.list.now))) c.push.ensures.items
          ∙ one_more c.loop-one.networks.items c.in_ok-cidr.field-0 (cidrs_in (drop (c.loop-one.one-index + 1) c.args.list.now))
          ∙ ap (option_map (λ (rest : List IpCidr). c.loop-one.networks.items ++ rest)) (sym read)
          ∙ c.loop-one.invariant.1,
    )
