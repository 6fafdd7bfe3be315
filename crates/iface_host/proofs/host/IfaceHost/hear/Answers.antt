use Rattle.std.proofs.Common.{◌≡◌, ◌∙◌, ap, sym, subst, true, false, rules}
use Rattle.iface_host.specs.Claims.{after_claim}
use Rattle.iface_host.specs.Fragments.{MakesRoom}
use Rattle.iface_host.specs.Guarded.{TakesGuarded, is_admitted, is_ordinary_to}
use Rattle.iface_host.proofs.FrameCalls.{ordinary, admitted, refused, dropped}
use Rattle.iface_host.proofs.host.IfaceHost.hear.Goals as goal

pub returns-then-is_ordinary : goal.returns-then-is_ordinary
returns-then-is_ordinary c =
    ordinary c.args.now c.args.frame.now c.take_ordinary.result c.args.out.now c.take_ordinary.new.out c.args.self.now
    c.args.self.now c.take_ordinary.new.self (sym c.is_ordinary.ensures ∙ c.if-is_ordinary.true) (sym c.take_ordinary.ensures.same)
    c.take_ordinary.ensures.taken

pub returns-then-not-admits : goal.returns-then-not-admits
returns-then-not-admits c =
    let is : is_admitted c.args.now c.args.frame.now c.args.self.now ≡ false = search rules in
    dropped c.args.now c.args.frame.now c.defend.result c.args.out.now c.defend.new.out c.args.self.now c.admits.new.self
    c.defend.new.self is c.admits.ensures.rest c.defend.ensures

pub returns-then-not-makes_room : goal.returns-then-not-makes_room
returns-then-not-makes_room c =
    let is : is_admitted c.args.now c.args.frame.now c.args.self.now ≡ true = sym c.admits.ensures.admitted ∙ c.if-not-admits.false in
    refused c.args.now c.args.frame.now c.args.out.now c.args.self.now c.admits.new.self c.makes_room.new.self is c.admits.ensures.rest
    (subst (λ b. MakesRoom c.args.now c.args.frame.now b c.admits.new.self c.makes_room.new.self) c.if-not-makes_room.true c.makes_room.ensures.room)

pub take_guarded-requires-clause-special : goal.take_guarded-requires-clause-special
take_guarded-requires-clause-special c =
    ap (is_ordinary_to c.args.frame.now) c.note_claim.ensures ∙ ap (is_ordinary_to c.args.frame.now) c.note_error.ensures ∙ c.makes_room.ensures.ordinary ∙ c.admits.ensures.ordinary ∙ sym c.is_ordinary.ensures ∙ c.if-is_ordinary.false

pub returns : goal.returns
returns c =
    let is : is_admitted c.args.now c.args.frame.now c.args.self.now ≡ true = sym c.admits.ensures.admitted ∙ c.if-not-admits.false in
    admitted c.args.now c.args.frame.now c.take_guarded.result c.args.out.now c.take_guarded.new.out c.args.self.now
    c.admits.new.self c.take_guarded.new.self is c.admits.ensures.rest c.makes_room.new.self
    (subst (λ b. MakesRoom c.args.now c.args.frame.now b c.admits.new.self c.makes_room.new.self) c.if-not-makes_room.false c.makes_room.ensures.room)
    (subst (λ h. TakesGuarded c.args.now c.args.frame.now c.take_guarded.result c.args.out.now c.take_guarded.new.out h c.take_guarded.new.self)
    (c.note_claim.ensures ∙ ap (after_claim c.args.frame.now) c.note_error.ensures) c.take_guarded.ensures)
