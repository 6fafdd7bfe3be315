use Rattle.std.proofs.Common.{◌≡◌, map as each, ap, ◌∙◌}
use Rattle.std.proofs.lemmas.List.{length-map}
use Rattle.fragmentation.specs.Assembly.{live_at}
use Rattle.fragmentation.specs.Details.Place.{slots_at}
use Rattle.fragmentation.proofs.SlotsLemmas.{left_all}
use Rattle.fragmentation.proofs.reassembly.PacketAssemblerSet.remove_expired.Goals as goal

pub returns-clause-stands : goal.returns-clause-stands
returns-clause-stands g c = λ key_of m h.
    let left : slots_at c.remove_expired.new.self ≡ each (live_at c.args.timestamp) c.args.self.now =
    c.remove_expired.ensures ∙ ap (each (live_at c.args.timestamp)) c.self.view_is in
    rw left (record {
      room = length-map c.args.self.now (live_at c.args.timestamp) ∙ h.room;
      held = left_all key_of c.args.timestamp c.args.self.now m.held h.held;
    })
