use Rattle.std.proofs.Common.{◌≡◌, map as each, List, Option, length, ap, ◌∙◌}
use Rattle.std.specs.List.{refill}
use Rattle.fragmentation.specs.Assembly.{Assembly, live_at, with_keys, keys_of, are_none}
use Rattle.fragmentation.proofs.PlacesLemmas.{refilled}
use Rattle.fragmentation.proofs.KeptLemmas.{shown_swept, lent_swept}
use Rattle.fragmentation.proofs.lent_slots.LentSlots.sweep.Goals as goal

pub invariant_of-self : goal.invariant_of-self
invariant_of-self g c =
    let t = c.args.timestamp in
    let os : List (Option g.row.K.Denot) = c.self.inside.keys.items in
    let ss : List (Assembly g.row.K.Denot) = c.self.inside.assemblers.items in
    let ks : List (Option g.row.K.Denot) = c.forget_free.new.keys in
    let ws : List (Assembly g.row.K.Denot) = c.drop_expired.new.assemblers in
    let long : length ws ≡ length ss = c.drop_expired.ensures.places ∙ ap length c.as_mut_slice.ensures.value in
    let left : with_keys os ws ≡ each (live_at t) (with_keys os ss) =
    rw (c.as_slice.ensures.value, c.as_mut_slice.ensures.value) at c.drop_expired.ensures.left in
    let again : c.as_slice-2.result.now ≡ ws =
    c.as_slice-2.ensures.value ∙ ap (λ n. refill n ss ws) c.self.inside.assemblers.ok.0 ∙ refilled ss ws long in
    let forgot : ks ≡ keys_of (with_keys os ws) = rw (c.as_mut_slice-2.ensures.value, again) at c.forget_free.ensures in
    let idle = c.are_none-self-inside.ensures ∙ ap are_none (c.as_slice-3.ensures.value ∙ ap (λ n. refill n os ks) c.self.inside.keys.ok.0) in
    rw (c.self.inside.keys.ok.0, c.self.inside.assemblers.ok.0)
    (lent_swept t os ks ss ws c.self.invariant.kept long left forgot c.are_none-self-inside.result idle)

pub returns : goal.returns
returns g c =
    let t = c.args.timestamp in
    let os : List (Option g.row.K.Denot) = c.self.inside.keys.items in
    let ss : List (Assembly g.row.K.Denot) = c.self.inside.assemblers.items in
    let ks : List (Option g.row.K.Denot) = c.forget_free.new.keys in
    let ws : List (Assembly g.row.K.Denot) = c.drop_expired.new.assemblers in
    let long : length ws ≡ length ss = c.drop_expired.ensures.places ∙ ap length c.as_mut_slice.ensures.value in
    let left : with_keys os ws ≡ each (live_at t) (with_keys os ss) =
    rw (c.as_slice.ensures.value, c.as_mut_slice.ensures.value) at c.drop_expired.ensures.left in
    let again : c.as_slice-2.result.now ≡ ws =
    c.as_slice-2.ensures.value ∙ ap (λ n. refill n ss ws) c.self.inside.assemblers.ok.0 ∙ refilled ss ws long in
    let forgot : ks ≡ keys_of (with_keys os ws) = rw (c.as_mut_slice-2.ensures.value, again) at c.forget_free.ensures in
    rw (c.self.inside.keys.ok.0, c.self.inside.assemblers.ok.0)
    (shown_swept t os ks ss ws c.self.invariant.kept long left forgot ∙ ap (each (live_at t)) c.self.view_is)
