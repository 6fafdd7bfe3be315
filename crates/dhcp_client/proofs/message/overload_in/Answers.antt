use Rattle.std.proofs.Common.{◌∙◌, ◌++◌, ap, List, ℕ, take, drop, length, ◌-◌}
use Rattle.std.proofs.lemmas.List.{take_rest}
use Rattle.dhcp_client.specs.Options.{octet_in, joined, in_room, options_after}
use Rattle.dhcp_client.proofs.message.overload_in.Goals as goal

pub returns : goal.returns
returns c =
    let m = c.args.message.now in
    c.octet_in.ensures
    ∙ ap octet_in (c.as_slice.ensures.value
    ∙ (c.join.ensures.items
    ∙ (ap (λ (d : List ℕ). in_room (d ++ joined 52 (options_after 0 (take (length m - 240) (drop 240 m))))) c.new-data.ensures
    ∙ ap (λ (xs : List ℕ). in_room (joined 52 (options_after 0 xs))) (take_rest m 240))))
