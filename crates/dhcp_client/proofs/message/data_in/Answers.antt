use Rattle.std.proofs.Common.{◌≡◌, ◌∙◌, ◌++◌, ap, List, ℕ, Bool, take, drop, length, ◌-◌}
use Rattle.std.proofs.lemmas.List.{take_rest}
use Rattle.dhcp_client.specs.Options.{joined, in_room, options_after}
use Rattle.dhcp_client.specs.Details.Message.{file_field, is_in_file, is_in_name, joined_if, name_field, options_field, overload_in}
use Rattle.dhcp_client.proofs.Reading.{three}
use Rattle.dhcp_client.proofs.message.data_in.Goals as goal

pub returns : goal.returns
returns c =
    let m = c.args.message.now in
    let code = c.args.code in
    let d1 : List ℕ = c.join.new.found.items in
    let d2 : List ℕ = c.join_if.new.data.items in
    let own : d1 ≡ in_room (joined code (options_after 0 (options_field m))) = c.join.ensures.items
    ∙ (ap (λ (d : List ℕ). in_room (d ++ joined code (options_after 0 (take (length m - 240) (drop 240 m))))) c.new-data.ensures
    ∙ ap (λ (xs : List ℕ). in_room (joined code (options_after 0 xs))) (take_rest m 240)) in
    let file : d2 ≡ in_room (d1 ++ joined_if (is_in_file (overload_in m)) code (file_field m)) = c.join_if.ensures.items
    ∙ ap (λ (b : Bool). in_room (d1 ++ joined_if b code (file_field m))) (c.is_in_file.ensures ∙ ap is_in_file c.overload_in-overload.ensures) in
    let name : c.join_if-2.new.data.items ≡ in_room (d2 ++ joined_if (is_in_name (overload_in m)) code (name_field m)) = c.join_if-2.ensures.items
    ∙ ap (λ (b : Bool). in_room (d2 ++ joined_if b code (name_field m))) (c.is_in_name.ensures ∙ ap is_in_name c.overload_in-overload.ensures) in
    three (joined code (options_after 0 (options_field m))) (joined_if (is_in_file (overload_in m)) code (file_field m))
    (joined_if (is_in_name (overload_in m)) code (name_field m)) d1 d2 c.join_if-2.new.data.items own file name
