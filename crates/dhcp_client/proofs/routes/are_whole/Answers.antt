use Rattle.std.proofs.Common.{◌≡◌, ◌∙◌, ◌-◌, ap, sym, List, ℕ, length, take, drop}
use Rattle.std.proofs.lemmas.List.{take_rest}
use Rattle.dhcp_client.specs.Details.Routes.{route_len, are_whole}
use Rattle.dhcp_client.proofs.RouteReading.{whole_next, whole_ended}
use Rattle.dhcp_client.proofs.routes.are_whole.Goals as goal

pub loop-len-preserved : goal.loop-len-preserved
loop-len-preserved c =
    let xs : List ℕ = c.loop-len.rest.now in
    let n : ℕ = c.in-Some.len in
    let is : n ≡ route_len xs = c.in-Some.ensures.1 in
    let rest : take (length xs - n) (drop n xs) ≡ drop (route_len xs) xs = take_rest xs n ∙ ap (λ (k : ℕ). drop k xs) is in
    ap (are_whole 0) rest ∙ sym (whole_next xs c.in-Some.ensures.0) ∙ c.loop-len.invariant

pub returns : goal.returns
returns c = whole_ended c.is_empty.result c.loop-len.rest.now c.is_empty.ensures c.in_default.ensures ∙ c.loop-len.invariant
