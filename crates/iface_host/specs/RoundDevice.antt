-- The device of a round: the first frame that is sent is written to the caller's buffer, and the others wait.
use Rattle.std.specs.Prelude.{ℕ, ◌≡◌, ◌≤◌, List, [], ◌∷◌, ◌++◌, length, take, drop, refl, Option, Some, None}
use Rattle.std.proofs.Common.{sym, ap, subst, ◌∙◌, append_assoc, append-nil}
use Rattle.net_base.specs.Device.{Event, handed_frames, refusals_after, sent_frames}
use Rattle.iface_host.specs.OutboxLaws.{none_handed, refusals_join, sent_join}
use Rattle.iface_host.specs.declared.round_device.RoundDevice.{RoundDevice}

-- the frame of so many octets in the front of a buffer, if there is one
abbrev pub frames_in : Option ℕ → List ℕ → List (List ℕ)
frames_in None out = []
frames_in (Some n) out = take n out ∷ []

-- how many octets it has, 0 where there is none
abbrev pub len_or_zero : Option ℕ → ℕ
len_or_zero None = 0
len_or_zero (Some n) = n

-- the frames that were sent: the one in the buffer, and those that wait
abbrev pub frames_of : RoundDevice → List (List ℕ)
frames_of d = frames_in d.len d.out.now ++ d.outbox.now.frames

-- a frame, if there is one, came into the front of a buffer, whose rest is as before; one that is there stays
abbrev pub KeepsRest : Option ℕ → List ℕ → Option ℕ → List ℕ → Type 0
KeepsRest None before None after = after ≡ before
KeepsRest None before (Some n) after = (n ≤ length after) × (drop n after ≡ drop n before)
KeepsRest (Some n) before len after = (len ≡ Some n) × (after ≡ before)

-- over the same outbox and the same buffer, no frame is received, the frames sent come behind those that were, and refused leaves are
-- counted
pub record Tells (old : RoundDevice) (events : List Event) (new : RoundDevice) : Type 0 where
  pub same_outbox : new.outbox.ghost_name ≡ old.outbox.ghost_name
  pub same_buffer : new.out.ghost_name ≡ old.out.ghost_name
  pub capabilities : new.outbox.now.capabilities ≡ old.outbox.now.capabilities
  pub frames : frames_of new ≡ frames_of old ++ sent_frames events
  pub refusals : new.outbox.now.refusals ≡ refusals_after old.outbox.now.refusals events
  pub no_frame : handed_frames events ≡ []
  pub rest : KeepsRest old.len old.out.now new.len new.out.now

stays : (len : Option ℕ) (out : List ℕ) → KeepsRest len out len out
stays None out = refl
stays (Some n) out = (refl, refl)

stays_on : (l m k : Option ℕ) (a b c : List ℕ) → KeepsRest l a m b → KeepsRest m b k c → KeepsRest l a k c
stays_on None None None a b c first second = second ∙ first
stays_on None None (Some n) a b c first second = (second.0, second.1 ∙ ap (drop n) first)
stays_on None (Some n) k a b c first second =
    subst (λ (x : Option ℕ). KeepsRest None a x c) (sym second.0)
    (subst (λ (x : List ℕ). KeepsRest None a (Some n) x) (sym second.1) first)
stays_on (Some n) m k a b c first second =
    let other = subst (λ (x : Option ℕ). KeepsRest x b k c) first.0 second in
    (other.0, other.1 ∙ first.1)

pub told_nothing : (d : RoundDevice) → Tells d [] d
told_nothing d = record {
  same_outbox = refl;
  same_buffer = refl;
  capabilities = refl;
  frames = sym (append-nil (frames_of d));
  refusals = refl;
  no_frame = refl;
  rest = stays d.len d.out.now;
}

pub told_on : {a b c : RoundDevice} (xs ys : List Event) → Tells a xs b → Tells b ys c → Tells a (xs ++ ys) c
told_on {a} {b} {c} xs ys first second = record {
  same_outbox = second.same_outbox ∙ first.same_outbox;
  same_buffer = second.same_buffer ∙ first.same_buffer;
  capabilities = second.capabilities ∙ first.capabilities;
  frames = second.frames ∙ ap (λ (fs : List (List ℕ)). fs ++ sent_frames ys) first.frames
      ∙ append_assoc (frames_of a) (sent_frames xs) (sent_frames ys)
      ∙ ap (λ (fs : List (List ℕ)). frames_of a ++ fs) (sym (sent_join xs ys));
  refusals = second.refusals ∙ ap (λ (n : ℕ). refusals_after n ys) first.refusals
      ∙ sym (refusals_join a.outbox.now.refusals xs ys);
  no_frame = none_handed xs ys first.no_frame second.no_frame;
  rest = stays_on a.len b.len c.len a.out.now b.out.now c.out.now first.rest second.rest;
}
