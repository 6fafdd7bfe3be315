-- No frame is lost or made up.
use Rattle.std.specs.Prelude.{ℕ, ◌≡◌, true, false, List, [], ◌∷◌, ◌++◌, refl}
use Rattle.std.proofs.Common.{sym, ap, ◌∙◌, append_assoc, append-nil}
use Rattle.net_base.specs.Device.{Event, Received, Asked, Sent, Frame, Nothing, Withheld, handed_frames, sent_frames as frames_sent}
use Rattle.net_base.specs.MemoryDevice.{Memory, Moves, Tells, Stays, Goes, KeepsFrames, FramesAreKept}

handed_first : (event : Event) (events : List Event) → handed_frames (event ∷ events) ≡ handed_frames (event ∷ []) ++ handed_frames events
handed_first (Received t (Frame frame)) events = refl
handed_first (Received t Nothing) events = refl
handed_first (Received t Withheld) events = refl
handed_first (Asked t b) events = refl
handed_first (Sent id frame) events = refl

sent_first : (event : Event) (events : List Event) → frames_sent (event ∷ events) ≡ frames_sent (event ∷ []) ++ frames_sent events
sent_first (Received t r) events = refl
sent_first (Asked t b) events = refl
sent_first (Sent id frame) events = refl

-- where an event moves no frame
still : (a b : Memory) → b.queued ≡ a.queued → b.sent ≡ a.sent → (a.queued ≡ b.queued) × (b.sent ≡ a.sent ++ [])
still a b queue sent = (sym queue, sent ∙ sym (append-nil a.sent))

kept_move : (event : Event) (a b : Memory) →
    Moves event a b → (a.queued ≡ handed_frames (event ∷ []) ++ b.queued) × (b.sent ≡ a.sent ++ frames_sent (event ∷ []))
kept_move (Received t (Frame frame)) a b move = (move.first, ap (λ (d : Memory). d.sent) move.after ∙ sym (append-nil a.sent))
kept_move (Received t Nothing) a b move = still a b (ap (λ (d : Memory). d.queued) move.after) (ap (λ (d : Memory). d.sent) move.after)
kept_move (Received t Withheld) a b move = still a b (ap (λ (d : Memory). d.queued) move.after) (ap (λ (d : Memory). d.sent) move.after)
kept_move (Asked t true) a b move = still a b (ap (λ (d : Memory). d.queued) move.after) (ap (λ (d : Memory). d.sent) move.after)
kept_move (Asked t false) a b move = still a b (ap (λ (d : Memory). d.queued) move.after) (ap (λ (d : Memory). d.sent) move.after)
kept_move (Sent id frame) a b move = (sym (ap (λ (d : Memory). d.queued) move.after), ap (λ (d : Memory). d.sent) move.after)

kept : {a b : Memory} {events : List Event} → Tells a events b → KeepsFrames a events b
kept {a} Stays = record { queue = refl; sent = sym (append-nil a.sent) }
kept {a} {b = c} (Goes {b = b} {event = event} {events = events} move told) =
    let first = kept_move event a b move in
    let rest = kept told in
    record {
      queue = first.0 ∙ ap (λ (q : List (List ℕ)). handed_frames (event ∷ []) ++ q) rest.queue
          ∙ sym (append_assoc (handed_frames (event ∷ [])) (handed_frames events) c.queued)
          ∙ ap (λ (h : List (List ℕ)). h ++ c.queued) (sym (handed_first event events));
      sent = rest.sent ∙ ap (λ (s : List (List ℕ)). s ++ frames_sent events) first.1
          ∙ append_assoc a.sent (frames_sent (event ∷ [])) (frames_sent events)
          ∙ ap (λ (s : List (List ℕ)). a.sent ++ s) (sym (sent_first event events));
    }

pub frames_are_kept : FramesAreKept
frames_are_kept old new events told = kept told
