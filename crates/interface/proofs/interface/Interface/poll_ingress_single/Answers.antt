use Rattle.std.proofs.Common.{ℕ, List, [], ◌∷◌, take, arith}
use Rattle.std.proofs.lemmas.Grind.{common_steps}
use Rattle.net_base.specs.Device.{Received, Frame}
use Rattle.host_machine.specs.Context.Host.{without_expired}
use Rattle.host_machine.specs.Packet.Frame.{frames_in, sends}
use Rattle.interface.proofs.IngressCall.{nothing_came, frame_came, answers_none, answers_some}
use Rattle.interface.proofs.interface.Interface.poll_ingress_single.Goals as goal

pub returns-in_default : goal.returns-in_default
returns-in_default g c = λ H h. nothing_came c.args.timestamp H _ c.in_default.ensures.told (c.expire_slots.ensures c.args.sockets.now H h)

pub returns-then-len-eq0 : goal.returns-then-len-eq0
returns-then-len-eq0 g c = λ H h.
    let frame : List ℕ = take c.in-Some.len c.receive.new.buffer in
    let taken = c.take_frame.ensures (without_expired H c.args.timestamp) (c.expire_slots.ensures c.args.sockets.now H h) in record {
      told = Received c.args.timestamp (Frame frame) ∷ sends (frames_in c.take_frame.new.out);
      notes = taken.notes;
      host = taken.host;
      tells_it = g.met.D.Device.tells_on c.args.device.now c.receive.new.self c.send_frame.new.device
          (Received c.args.timestamp (Frame frame) ∷ []) (sends (frames_in c.take_frame.new.out))
          c.in-Some.ensures.told c.send_frame.ensures;
      steps = frame_came c.args.timestamp H frame c.take_frame.new.out _ _ taken (answers_none frame (grind (arith, common_steps)));
      stands = taken.stands;
    }

pub returns-else-len-eq0 : goal.returns-else-len-eq0
returns-else-len-eq0 g c = λ H h.
    let frame : List ℕ = take c.in-Some.len c.receive.new.buffer in
    let taken = c.take_frame.ensures (without_expired H c.args.timestamp) (c.expire_slots.ensures c.args.sockets.now H h) in record {
      told = Received c.args.timestamp (Frame frame) ∷ sends (frames_in c.take_frame.new.out);
      notes = taken.notes;
      host = taken.host;
      tells_it = g.met.D.Device.tells_on c.args.device.now c.receive.new.self c.send_frame.new.device
          (Received c.args.timestamp (Frame frame) ∷ []) (sends (frames_in c.take_frame.new.out))
          c.in-Some.ensures.told c.send_frame.ensures;
      steps = frame_came c.args.timestamp H frame c.take_frame.new.out _ _ taken (answers_some frame (grind (arith, common_steps)));
      stands = taken.stands;
    }
