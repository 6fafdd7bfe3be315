-- Header and payload, each by its equation.
use Rattle.std.proofs.Common.{rules, arith, ◌≡◌, ◌∙◌, ◌*◌, ◌-◌, ap, ℕ, List, length, take, drop}
use Rattle.std.proofs.lemmas.List.{take_rest}
use Rattle.ip_wire.specs.declared.tcp.TcpRepr.{TcpRepr}
use Rattle.ip_wire.specs.Tcp.{header_in, header_len}
use Rattle.ip_wire.proofs.tcp.TcpRepr.parse.Goals as goal

both : (h k : TcpRepr) (xs ys : List ℕ) → h ≡ k → xs ≡ ys → ◌≡◌ {A = TcpRepr × List ℕ} (h, xs) (k, ys)
both h k xs ys e f = cc

pub returns : goal.returns
returns c =
    let xs : List ℕ = c.args.packet.now in
    let n : ℕ = c.from-header_len.result * 4 in
    let start : n ≡ header_len xs = omega (arith, c.from-header_len.ensures) in
    let payload : take (length xs - n) (drop n xs) ≡ drop (header_len xs) xs = take_rest xs n ∙ ap (λ (k : ℕ). drop k xs) start in (
      (
        search rules,
        record {
          whole = search rules;
          header = search rules;
          header_fits = search rules;
          source = search rules;
          destination = search rules;
          flags = search rules;
          sum = search rules;
        },
      ),
      both c.header_of.result (header_in xs) _ _ c.header_of.ensures payload,
    )
