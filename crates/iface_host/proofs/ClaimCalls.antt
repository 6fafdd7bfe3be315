-- A request that waits behind other frames, over plain variables.
use Rattle.std.proofs.Common.{◌≡◌, List, ℕ, [], ◌∷◌, ◌++◌, true, false, ap, ◌∙◌}
use Rattle.iface_host.specs.Outbox.{Waiting, with_room}
use Rattle.iface_host.specs.declared.host.IfaceHost.{IfaceHost}

abbrev with_frame : List ℕ → Waiting → Waiting
with_frame frame o = record o { frames = o.frames ++ frame ∷ []; has_room = false }

pub queued : (host : IfaceHost) (reserved kept : Waiting) (octets frame : List ℕ) → reserved ≡ with_room true host.outbox →
    kept ≡ record reserved { frames = reserved.frames ++ octets ∷ []; has_room = false } → octets ≡ frame →
    record host { outbox = kept }
    ≡ record host { outbox = record host.outbox { frames = host.outbox.frames ++ frame ∷ []; has_room = false } }
queued host reserved kept octets frame is_reserved is_kept same =
    ap (λ (o : Waiting). record host { outbox = o })
    (is_kept ∙ ap (with_frame octets) is_reserved ∙ ap (λ (f : List ℕ). with_frame f host.outbox) same)
