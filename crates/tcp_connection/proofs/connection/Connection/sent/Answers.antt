use Rattle.std.proofs.Common.{◌≡◌, ◌-◌, ℕ, sym, ap, ◌∙◌, min, arith, Some}
use Rattle.std.specs.Option.{option_map}
use Rattle.tcp_machine.specs.Connection.{Connection}
use Rattle.tcp_machine.specs.Outgoing as machine
use Rattle.tcp_machine.specs.Outgoing.{action, limit_of, next_piece, first_piece, again_from, again_piece, most_again}
use Rattle.tcp_connection.specs.declared.transmission.Part.{Part}
use Rattle.tcp_connection.specs.declared.outgoing.Action.TheVariants.{SendNext, SendAgain, SendProbe}
use Rattle.tcp_connection.specs.Actions.{action_of}
use Rattle.tcp_connection.proofs.ActionLemmas.{next_of, again_of, probe_of, told_of, is_piece}
use Rattle.tcp_connection.proofs.ToldLemmas.{again_high}
use Rattle.tcp_connection.proofs.connection.Connection.sent.Goals as goal

pub next_sent-requires-clause-sent : goal.next_sent-requires-clause-sent
next_sent-requires-clause-sent c =
    let old = c.args.self.now in
    let part = c.in-SendNext.part in
    let e : option_map action_of (action c.args.now old) ≡ Some (SendNext part) = c.requires ∙ ap Some c.in-SendNext.is in
    let n = next_of c.args.now part old e in
    let s : part.start ≡ old.transmission.nxt = ap (λ (q : Part). q.start) n.is_part in
    let v = ap (λ (x : Connection). x.transmission.nxt) c.self.view_is in
    let w = ap (λ (x : Connection). x.transmission.sender.top) c.self.view_is in
    let r = c.nxt-nxt.ensures.value in
    let l = c.nxt-nxt.ensures.sent in
    omega (arith, s, v, w, r, l)

pub next_sent-requires-clause-piece : goal.next_sent-requires-clause-piece
next_sent-requires-clause-piece c =
    let old = c.args.self.now in
    let part = c.in-SendNext.part in
    let e : option_map action_of (action c.args.now old) ≡ Some (SendNext part) = c.requires ∙ ap Some c.in-SendNext.is in
    let n = next_of c.args.now part old e in
    is_piece old.transmission.nxt (min old.transmission.mss (limit_of old - old.transmission.nxt)) old.transmission.sender part n.is_part

pub again_sent-requires-clause-sent : goal.again_sent-requires-clause-sent
again_sent-requires-clause-sent c =
    let old = c.args.self.now in
    let part = c.in-SendAgain.part in
    let e : option_map action_of (action c.args.now old) ≡ Some (SendAgain part) = c.requires ∙ ap Some c.in-SendAgain.is in
    let n = again_of c.args.now part old e in
    let s : part.start ≡ again_from old = ap (λ (q : Part). q.start) n.is_part in
    let v = ap (λ (x : Connection). x.transmission.sender.una) c.self.view_is in
    let w = ap (λ (x : Connection). x.transmission.sender.top) c.self.view_is in
    let r = c.una-una.ensures.value in
    let l = c.una-una.ensures.sent in
    let m = again_high old (omega (arith, v, w, r, l)) in
    omega (arith, s, m)

pub again_sent-requires-clause-piece : goal.again_sent-requires-clause-piece
again_sent-requires-clause-piece c =
    let old = c.args.self.now in
    let part = c.in-SendAgain.part in
    let e : option_map action_of (action c.args.now old) ≡ Some (SendAgain part) = c.requires ∙ ap Some c.in-SendAgain.is in
    let n = again_of c.args.now part old e in
    is_piece (again_from old) (most_again old) old.transmission.sender part n.is_part

pub probe_sent-requires-clause-sent : goal.probe_sent-requires-clause-sent
probe_sent-requires-clause-sent c =
    let old = c.args.self.now in
    let part = c.in-SendProbe.part in
    let e : option_map action_of (action c.args.now old) ≡ Some (SendProbe part) = c.requires ∙ ap Some c.in-SendProbe.is in
    let n = probe_of c.args.now part old e in
    let s : part.start ≡ old.transmission.sender.una = ap (λ (q : Part). q.start) n.is_part in
    let v = ap (λ (x : Connection). x.transmission.sender.una) c.self.view_is in
    let w = ap (λ (x : Connection). x.transmission.sender.top) c.self.view_is in
    let r = c.una-una.ensures.value in
    let l = c.una-una.ensures.sent in
    omega (arith, s, v, w, r, l)

pub probe_sent-requires-clause-piece : goal.probe_sent-requires-clause-piece
probe_sent-requires-clause-piece c =
    let old = c.args.self.now in
    let part = c.in-SendProbe.part in
    let e : option_map action_of (action c.args.now old) ≡ Some (SendProbe part) = c.requires ∙ ap Some c.in-SendProbe.is in
    let n = probe_of c.args.now part old e in
    is_piece old.transmission.sender.una (1) old.transmission.sender part n.is_part

pub returns-in-SendNext : goal.returns-in-SendNext
returns-in-SendNext c =
    let old = c.args.self.now in
    let part = c.in-SendNext.part in
    let e : option_map action_of (action c.args.now old) ≡ Some (SendNext part) = c.requires ∙ ap Some c.in-SendNext.is in
    let n = next_of c.args.now part old e in
    c.next_sent.ensures (next_piece old) (sym n.is_part) ∙ sym n.is_after

pub returns-in-SendAgain : goal.returns-in-SendAgain
returns-in-SendAgain c =
    let old = c.args.self.now in
    let part = c.in-SendAgain.part in
    let e : option_map action_of (action c.args.now old) ≡ Some (SendAgain part) = c.requires ∙ ap Some c.in-SendAgain.is in
    let n = again_of c.args.now part old e in
    let p = again_piece old in
    let v = c.nxt-nxt.ensures.value ∙ ap (λ (x : Connection). x.transmission.nxt) c.self.view_is in
    c.again_sent.ensures p (sym n.is_part) ∙ ap (λ (k : ℕ). machine.again_sent p (machine.piece_sent c.args.now p k old)) v ∙ sym n.is_after

pub returns-in-SendProbe : goal.returns-in-SendProbe
returns-in-SendProbe c =
    let old = c.args.self.now in
    let part = c.in-SendProbe.part in
    let e : option_map action_of (action c.args.now old) ≡ Some (SendProbe part) = c.requires ∙ ap Some c.in-SendProbe.is in
    let n = probe_of c.args.now part old e in
    c.probe_sent.ensures (first_piece 1 old) (sym n.is_part) ∙ sym n.is_after

pub returns-in-SendKeepAlive : goal.returns-in-SendKeepAlive
returns-in-SendKeepAlive c =
    c.tell.ensures ∙ sym (told_of c.args.now c.args.action.now c.args.self.now c.in-SendKeepAlive.is c.requires)
