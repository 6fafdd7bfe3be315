use Rattle.std.proofs.Common.{◌≡◌, ◌∙◌, ◌-◌, ap, sym, List, ℕ, length, take, drop}
use Rattle.std.proofs.lemmas.List.{take_rest}
use Rattle.tcp_wire.specs.Options.{option_len}
use Rattle.tcp_wire.proofs.Reading.{allowed, finished, next}
use Rattle.tcp_wire.proofs.options.TcpOptions.parse.Goals as goal

pub read-requires : goal.read-requires
read-requires c =
    let xs : List ℕ = c.loop-len.rest.now in
    let e : take c.in-Some.len xs ≡ take (option_len xs) xs = ap (λ (n : ℕ). take n xs) c.in-Some.ensures.1 in
    allowed xs (take c.in-Some.len xs) c.in-Some.ensures.0 e

pub loop-len-preserved : goal.loop-len-preserved
loop-len-preserved c =
    let xs : List ℕ = c.loop-len.rest.now in
    let n : ℕ = c.in-Some.len in
    let is : n ≡ option_len xs = c.in-Some.ensures.1 in
    let rest : take (length xs - n) (drop n xs) ≡ drop (option_len xs) xs = take_rest xs n ∙ ap (λ (k : ℕ). drop k xs) is in
    next xs (take n xs) (take (length xs - n) (drop n xs)) c.loop-len.options c.read.new.self c.in-Some.ensures.0
    (ap (λ (k : ℕ). take k xs) is) rest c.read.ensures ∙ c.loop-len.invariant

pub returns : goal.returns
returns c = sym (finished c.loop-len.rest.now c.loop-len.options c.in_default.ensures) ∙ c.loop-len.invariant
