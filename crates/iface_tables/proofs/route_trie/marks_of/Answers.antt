use Rattle.std.proofs.Common.{◌<◌, ◌∙◌, ap, arith, refl, sym}
use Rattle.iface_tables.specs.Route.{cidrs}
use Rattle.iface_tables.specs.RouteTrie.{is_whole}
use Rattle.iface_tables.proofs.RouteMaskLemmas.{more_has, more_keeps, more_rest}
use Rattle.iface_tables.proofs.RouteTrieLemmas.{cidr_there, length_cidrs, marks_all, marks_more}
use Rattle.iface_tables.proofs.route_trie.marks_of.Goals as goal
use Rattle.iface_tables.proofs.route_trie.marks_of.Goals.{then-is_whole, else-is_whole}

pub loop-place-preserved : goal.loop-place-preserved
loop-place-preserved c =
    let l = c.loop-place in
    let r = c.index-routes-place in
    let rs = c.args.routes.now in
    let b = c.args.beginning.now in
    let within : l.place < 32 = omega arith in
    let at = cidr_there rs l.place r.result c.loop-place-test.true r.is in
    let is = c.is_whole.ensures ∙ ap (is_whole b) c.network_of.ensures.value in
    elim c.if-is_whole.branch [
      | then-is_whole w ↦ rw w.places-is (record {
        done = marks_more b (cidrs rs) l.places _ l.place r.result.cidr at.0 at.1 (more_has l.places l.place within
            ∙ sym w.if-is_whole.true ∙ is)
            (λ k. more_keeps l.places l.place k within) l.invariant.done;
        rest = more_rest l.places l.place within l.invariant.rest;
      })
      | else-is_whole w ↦ rw w.places-is (record {
        done = marks_more b (cidrs rs) l.places l.places l.place r.result.cidr at.0 at.1
            (l.invariant.rest l.place (omega arith) ∙ sym w.if-is_whole.false ∙ is) (λ k other. refl) l.invariant.done;
        rest = λ k le. l.invariant.rest k (omega arith);
      })
    ]

pub returns : goal.returns
returns c =
    let l = c.loop-place in
    let rs = c.args.routes.now in
    marks_all c.args.beginning.now (cidrs rs) l.places l.place (omega (arith, length_cidrs rs, c.loop-place-test.false)) l.invariant.done l.invariant.rest
