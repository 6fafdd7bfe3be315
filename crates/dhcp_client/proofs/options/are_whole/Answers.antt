use Rattle.std.proofs.Common.{◌≡◌, ◌∙◌, ◌-◌, ap, sym, List, ℕ, length, take, drop}
use Rattle.std.proofs.lemmas.List.{take_rest}
use Rattle.dhcp_client.specs.Options.{option_len, are_whole}
use Rattle.dhcp_client.proofs.Reading.{whole_next, whole_empty, whole_ended}
use Rattle.dhcp_client.proofs.options.are_whole.Goals as goal

pub loop-len-preserved : goal.loop-len-preserved
loop-len-preserved c =
    let xs : List ℕ = c.loop-len.rest.now in
    let n : ℕ = c.in-Some.len in
    let is : n ≡ option_len xs = c.in-Some.ensures.1 in
    let rest : take (length xs - n) (drop n xs) ≡ drop (option_len xs) xs = take_rest xs n ∙ ap (λ (k : ℕ). drop k xs) is in
    ap (are_whole 0) rest ∙ sym (whole_next xs c.in-Some.ensures.0) ∙ c.loop-len.invariant

pub returns-then-is_empty : goal.returns-then-is_empty
returns-then-is_empty c = whole_empty c.is_empty.result c.loop-len.rest.now c.is_empty.ensures c.if-is_empty.true ∙ c.loop-len.invariant

pub returns-else-is_empty : goal.returns-else-is_empty
returns-else-is_empty c =
    whole_ended c.is_empty.result c.loop-len.rest.now c.is_empty.ensures c.if-is_empty.false c.in_default.ensures ∙ c.loop-len.invariant
