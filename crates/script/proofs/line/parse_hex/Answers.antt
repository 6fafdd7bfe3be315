use Rattle.std.proofs.Common.{sym, ◌∙◌, ◌≡◌, refl, true, false, is_some, arith}
use Rattle.hex.proofs.HexLemmas.{IsOk-written}
use Rattle.script.proofs.HexFits.{decode_sized-fits}
use Rattle.script.proofs.line.parse_hex.Goals as goal

pub returns-in_err-ok-clause-found : goal.returns-in_err-ok-clause-found
returns-in_err-ok-clause-found c =
    let written = IsOk-written _ _ _ c.decode_to_slice.ensures.value in
    let fits = decode_sized-fits c.args.digits.now c.args.octets.now (omega (arith, c.if-count-eq0.false)) (omega (arith, c.if-count-octets.false)) in
    let refused : is_some c.ok.result ≡ false = rw c.in_err-ok.was refl in
    let none : is_some c.from_residual.result ≡ false = rw c.from_residual.ensures refl in (
      λ some. let absurd : false ≡ true = sym none ∙ some in cc absurd,
      λ hex. let absurd : false ≡ true = sym refused ∙ (c.ok.ensures.variant ∙ written.1 (fits.1 hex)) in cc absurd,
    )

pub returns-clause-found : goal.returns-clause-found
returns-clause-found c =
    let written = IsOk-written _ _ _ c.decode_to_slice.ensures.value in
    let fits = decode_sized-fits c.args.digits.now c.args.octets.now (omega (arith, c.if-count-eq0.false)) (omega (arith, c.if-count-octets.false)) in
    let taken : is_some c.ok.result ≡ true = rw c.in_ok-ok.was refl in (
      λ some. fits.0 (written.0 (sym c.ok.ensures.variant ∙ taken)),
      λ hex. refl,
    )
