use Rattle.std.proofs.Common.{◌<◌, ◌∙◌, arith, refl, sym}
use Rattle.iface_tables.proofs.RouteMaskLemmas.{more_has, more_keeps, more_rest}
use Rattle.iface_tables.proofs.RouteLemmas.{live_all, live_more}
use Rattle.iface_tables.proofs.route.live_routes_mask.Goals as goal
use Rattle.iface_tables.proofs.route.live_routes_mask.Goals.{then-is_live, else-is_live}

pub loop-place-preserved : goal.loop-place-preserved
loop-place-preserved c =
    let l = c.loop-place in
    let r = c.index-routes-place in
    let rs = c.args.routes.now in
    let within : l.place < 32 = omega arith in
    elim c.if-is_live.branch [
      | then-is_live w ↦ rw w.live-is (record {
        done = live_more rs c.args.timestamp l.live _ l.place r.result c.loop-place-test.true r.is
            (more_has l.live l.place within ∙ sym w.if-is_live.true
            ∙ c.is_live.ensures)
            (λ k. more_keeps l.live l.place k within) l.invariant.done;
        rest = more_rest l.live l.place within l.invariant.rest;
      })
      | else-is_live w ↦ rw w.live-is (record {
        done = live_more rs c.args.timestamp l.live l.live l.place r.result c.loop-place-test.true r.is
            (l.invariant.rest l.place (omega arith) ∙ sym w.if-is_live.false ∙ c.is_live.ensures) (λ k other. refl) l.invariant.done;
        rest = λ k le. l.invariant.rest k (omega arith);
      })
    ]

pub returns : goal.returns
returns c = live_all c.args.routes.now c.args.timestamp c.loop-place.live c.loop-place.place c.loop-place-test.false c.loop-place.invariant.done
