use Rattle.std.proofs.Common.{ℕ, List, slice_get, sym, ap, ◌∙◌}
use Rattle.std.specs.Option.{option_and_then}
use Rattle.sockets.specs.Queue.{Queued}
use Rattle.sockets.specs.Raw.{destination_in}
use Rattle.sockets.proofs.QueueLemmas.{told_at}
use Rattle.sockets.proofs.raw.SocketOf.destination_at.Goals as goal

pub returns-in-Some : goal.returns-in-Some
returns-in-Some g c =
    c.destination_in.ensures
    ∙ (ap (option_and_then (λ (p : Unit {0} × List ℕ). destination_in c.args.self.now p.1))
    (c.in-Some.ensures ∙ ap (λ (q : Queued (Unit {0})). slice_get q.packets c.args.index) c.tx.ensures)
    ∙ sym (told_at (λ (p : Unit {0} × List ℕ). destination_in c.args.self.now p.1) c.args.self.now.tx.packets c.args.index))

pub returns-in-None : goal.returns-in-None
returns-in-None g c =
    ap (option_and_then (λ (p : Unit {0} × List ℕ). destination_in c.args.self.now p.1))
    (c.in-None.ensures ∙ ap (λ (q : Queued (Unit {0})). slice_get q.packets c.args.index) c.tx.ensures)
    ∙ sym (told_at (λ (p : Unit {0} × List ℕ). destination_in c.args.self.now p.1) c.args.self.now.tx.packets c.args.index)
