use Rattle.std.proofs.Common.{◌≡◌, ◌∙◌, ◌-◌, ap, List, ℕ, length, take, drop}
use Rattle.std.proofs.lemmas.List.{take_rest}
use Rattle.dhcp_client.specs.Options.{option_len}
use Rattle.dhcp_client.proofs.Reading.{has_code, next_joined, all_joined}
use Rattle.dhcp_client.proofs.options.join.Goals as goal

pub join_if-requires-clause-option : goal.join_if-requires-clause-option
join_if-requires-clause-option c =
    let xs : List ℕ = c.loop-len.rest.now in
    let e : take c.in-Some.len xs ≡ take (option_len xs) xs = ap (λ (n : ℕ). take n xs) c.in-Some.ensures.1 in
    has_code xs (take c.in-Some.len xs) c.in-Some.ensures.0 e

pub join_if-requires-clause-room : goal.join_if-requires-clause-room
join_if-requires-clause-room c = c.loop-len.invariant.1

pub loop-len-preserved : goal.loop-len-preserved
loop-len-preserved c =
    let xs : List ℕ = c.loop-len.rest.now in
    let n : ℕ = c.in-Some.len in
    let is : n ≡ option_len xs = c.in-Some.ensures.1 in
    let rest : take (length xs - n) (drop n xs) ≡ drop (option_len xs) xs = take_rest xs n ∙ ap (λ (k : ℕ). drop k xs) is in (
      next_joined c.args.code xs (take n xs) (take (length xs - n) (drop n xs)) c.loop-len.found.items c.join_if.new.found.items
          c.in-Some.ensures.0 (ap (λ (k : ℕ). take k xs) is) rest c.join_if.ensures.items ∙ c.loop-len.invariant.0,
      c.join_if.ensures.len,
    )

pub returns-clause-items : goal.returns-clause-items
returns-clause-items c =
    all_joined c.args.code c.loop-len.rest.now c.loop-len.found.items c.in_default.ensures c.loop-len.invariant.1
    ∙ c.loop-len.invariant.0
