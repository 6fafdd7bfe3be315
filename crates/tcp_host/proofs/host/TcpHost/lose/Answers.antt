use Rattle.std.proofs.Common.{◌≡◌, ◌∙◌, ◌+◌, ℕ, ap, sym, arith, length}
use Rattle.std.specs.Prelude.{suc}
use Rattle.tcp_host.specs.Host.{Host}
use Rattle.tcp_host.specs.Reports.{lost, lost_at}
use Rattle.tcp_host.proofs.HostLemmas.{lost_slots}
use Rattle.tcp_host.proofs.host.TcpHost.lose.Goals as goal

one_more : (n : ℕ) → n + 1 ≡ suc n
one_more n = omega arith

pub loop-place-preserved : goal.loop-place-preserved
loop-place-preserved c =
    let same = c.lose_at.ensures in
    let before = c.args.self.now in (
      same ∙ ap (λ (h : Host). lost_at c.args.now c.args.address.now c.loop-place.place h) c.loop-place.invariant.0
          ∙ sym (ap (λ (n : ℕ). lost c.args.now c.args.address.now n before) (one_more c.loop-place.place)),
      ap (λ (h : Host). length h.slots) same ∙ lost_slots c.args.now c.args.address.now c.loop-place.place c.loop-place.self
          ∙ c.loop-place.invariant.1,
    )
