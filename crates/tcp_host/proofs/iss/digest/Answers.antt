use Rattle.std.proofs.Common.{ℕ, List, ◌++◌, ap, ◌∙◌}
use Rattle.sha2.specs.Sha256.{sha256}
use Rattle.tcp_host.specs.Iss.{end_text}
use Rattle.tcp_host.proofs.iss.digest.Goals as goal

pub returns : goal.returns
returns c =
    let e = c.args.endpoints.now in
    c.digest_of.ensures
    ∙ ap (λ (xs : List ℕ). sha256 (xs ++ c.end_text-remote.result ++ c.args.key.now)) c.end_text-local.ensures
    ∙ ap (λ (xs : List ℕ). sha256 (end_text e.local_addr e.local_port ++ xs ++ c.args.key.now)) c.end_text-remote.ensures
