use Rattle.std.proofs.Common.{◌≡◌, ◌∙◌, sym, false}
use Rattle.std.specs.Prelude.{None}
use Rattle.iface_host.specs.Guarded.{is_silenced, limit_on}
use Rattle.iface_host.proofs.GuardCalls.{left_all, none_of}
use Rattle.iface_host.proofs.host.IfaceHost.take_limited.Goals as goal

pub returns : goal.returns
returns c =
    let loud : is_silenced c.args.now c.args.self.now ≡ false = sym c.is_silenced.ensures ∙ c.if-is_silenced.false in
    let whole : limit_on c.args.now c.args.frame.now c.args.self.now ≡ None =
    sym c.requires.limit ∙ none_of c.args.limit (sym c.is_some.ensures ∙ c.if-is_some.false) in
    left_all c.args.now c.args.frame.now c.take_frame.result c.args.out.now c.take_frame.new.out c.args.self.now c.take_frame.new.self
    c.requires.silent loud whole c.is_known_on-known.result c.is_known_on-known.ensures c.take_frame.ensures

pub take_and_keep-requires-clause-tells : goal.take_and_keep-requires-clause-tells
take_and_keep-requires-clause-tells c = sym c.requires.silent
