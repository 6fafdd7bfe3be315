use Rattle.std.proofs.Common.{◌≡◌, ◌<◌, ℕ, length, subst, sym, ap, ◌∙◌}
use Rattle.tcp_host.specs.Host.{Host}
use Rattle.tcp_host.specs.Turns.{advanced, expired, limited}
use Rattle.tcp_host.proofs.HostLemmas.{advanced_all_slots, limited_all_slots}
use Rattle.tcp_host.proofs.host.TcpHost.turn_due.Goals as goal

pub limit-requires : goal.limit-requires
limit-requires c =
    let h = c.args.self.now in
    let is = c.advance.ensures ∙ ap (advanced c.args.place) c.expire.ensures in
    subst (λ (n : ℕ). c.args.place < n) (sym (ap (λ (k : Host). length k.slots) is ∙ advanced_all_slots c.args.place c.args.now h)) c.requires

pub note-requires : goal.note-requires
note-requires c =
    let h = c.args.self.now in
    let is = c.limit.ensures ∙ ap (limited c.args.place c.args.now) (c.advance.ensures ∙ ap (advanced c.args.place) c.expire.ensures) in
    subst (λ (n : ℕ). c.args.place < n) (sym (ap (λ (k : Host). length k.slots) is ∙ limited_all_slots c.args.place c.args.now h)) c.requires

pub ask-requires : goal.ask-requires
ask-requires c =
    let h = c.args.self.now in
    let is = c.limit.ensures ∙ ap (limited c.args.place c.args.now) (c.advance.ensures ∙ ap (advanced c.args.place) c.expire.ensures) in
    let same = ap (λ (k : Host). length k.slots) c.note.ensures ∙ (ap (λ (k : Host). length k.slots) is ∙ limited_all_slots c.args.place c.args.now h) in
    subst (λ (n : ℕ). c.args.place < n) (sym same) c.requires
