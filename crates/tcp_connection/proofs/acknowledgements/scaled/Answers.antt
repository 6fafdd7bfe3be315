use Rattle.std.proofs.Common.{◌*◌, ◌<◌, ◌^◌, ℕ, sym, subst}
use Rattle.tcp_connection.proofs.WindowLemmas.{scaled_bounded, shifted}
use Rattle.tcp_connection.proofs.acknowledgements.scaled.Goals as goal

pub returns-clause-bounded : goal.returns-clause-bounded
returns-clause-bounded c =
    subst (λ (k : ℕ). c.from.result * k < 2 ^ 30) (sym (shifted c.args.scale c.requires))
    (subst (λ (k : ℕ). k * 2 ^ c.args.scale < 2 ^ 30) (sym c.from.ensures)
    (scaled_bounded c.args.window c.args.scale c.ranges.window.fits c.requires))
