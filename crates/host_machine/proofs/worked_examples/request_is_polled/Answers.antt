use Rattle.std.proofs.Common.{[], ◌∷◌, false, true, refl, arith}
use Rattle.std.specs.Prelude.{pos}
use Rattle.net_base.specs.Device.{Received, Frame, Nothing, Sent}
use Rattle.host_machine.specs.declared.results.PollIngressSingleResult.TheVariants as ingress
use Rattle.host_machine.specs.Context.Host.{at}
use Rattle.host_machine.specs.Interface.Polling as polling
use Rattle.host_machine.specs.Examples.ArpAndEcho as example
use Rattle.host_machine.proofs.Examples.Exchange.{no_slots}
use Rattle.host_machine.proofs.Examples.ArpExchange.{request_answered, nothing_taken, nothing_sent}
use Rattle.host_machine.proofs.worked_examples.request_is_polled.Goals as goal

pub returns : goal.returns
returns c = record {
  not_asked_for = record {
    mid = at (example.host 0x1405 (example.no_neighbors (pos 0))) (pos 5);
    received = false;
    went = false;
    told_receiving = [];
    told_sending = [];
    notes_receiving = [];
    notes_sending = [];
    receives = rw (no_slots (pos 5)) (polling.Spent polling.Begins);
    sends = polling.Spent polling.Begins;
    events = refl;
    all_notes = refl;
    answers = refl;
  };
  taken = record {
    mid = example.host 0x1405 example.neighbors_with_sender;
    received = true;
    went = false;
    told_receiving = Received (pos 0) (Frame example.request) ∷ Sent 0 example.reply ∷ [];
    told_sending = [];
    notes_receiving = [];
    notes_sending = [];
    receives =
        rw (no_slots (pos 0)) (polling.Spent (polling.Again ingress.SocketStateChanged _ _ _ polling.Begins request_answered (λ same. absurd cc)));
    sends = polling.Done 0 [] [] [] [] _ (omega arith) polling.Begins nothing_sent refl refl;
    events = refl;
    all_notes = refl;
    answers = refl;
  };
  taken_alone = record {
    mid = example.host 0x1405 example.neighbors_with_sender;
    received = true;
    went = false;
    told_receiving = Received (pos 0) (Frame example.request) ∷ Sent 0 example.reply ∷ Received (pos 0) Nothing ∷ [];
    told_sending = [];
    notes_receiving = [];
    notes_sending = [];
    receives = rw (no_slots (pos 0)) (polling.Done 1 (Received (pos 0) (Frame example.request) ∷ Sent 0 example.reply ∷ [])
        (Received (pos 0) Nothing ∷ []) [] [] (example.host 0x1405 example.neighbors_with_sender) (omega arith)
        (polling.Again ingress.SocketStateChanged _ _ _ polling.Begins request_answered (λ same. absurd cc)) nothing_taken refl refl);
    sends = polling.Done 0 [] [] [] [] _ (omega arith) polling.Begins nothing_sent refl refl;
    events = refl;
    all_notes = refl;
    answers = refl;
  };
}
