-- Frames that are taken and handed over, over plain variables.
use Rattle.egress_schedule.specs.Plan.{Planned}
use Rattle.egress_schedule.specs.Rounds.{after_round, before_round}
use Rattle.std.proofs.Common.{◌≡◌, ℕ, Bool, true, false, List, [], ◌∷◌, ◌++◌, Option, Some, None, Ok, refl, sym, ap, ◌∙◌, subst}
use Rattle.std.proofs.Common.{length, take, arith, ◌≤◌}
use Rattle.std.proofs.lemmas.List.{length-take-le, take_all}
use Rattle.std.proofs.Math.Dec.{eqb-suc-zero}
use Rattle.std.specs.Prelude.{ℤ, pos, ◌||◌, ◌==◌, not, Err, IfOk, Result}
use Rattle.std.specs.Borrow.{Bor}
use Rattle.std.specs.Box.{with_value}
use Rattle.socket_set.specs.SocketSet.{Sockets}
use Rattle.host_machine.specs.declared.results.PollResult.{PollResult}
use Rattle.host_machine.specs.Interface.Config.{first_host}
use Rattle.host_machine.specs.Interface.Due.{Due, IsLeast}
use Rattle.host_machine.specs.Context.Host.{Host as Machine, SocketSet, at}
use Rattle.host_machine.specs.Interface.Ingress.{answer_to}
use Rattle.host_machine.specs.Interface.Polling.{Polls, is_changed, may_change}
use Rattle.net_base.specs.declared.phy.DeviceCapabilities.{DeviceCapabilities}
use Rattle.net_base.specs.Device.{Event, Frame, sent_frames}
use Rattle.host_machine.specs.Interface.Step.{SetsReassemblyTimeout, WithinDay, OverDay}
use Rattle.interface.specs.Details.Refines.{HostRefinesTelling}
use Rattle.interface.specs.Details.Receives.{HostRefinesReceiving, frames_shown}
use Rattle.interface.specs.Stands as interfaces
use Rattle.interface.specs.declared.interface.Interface.{Interface}
use Rattle.guard.specs.Defence.{announced}
use Rattle.guard.specs.Watch as guard
use Rattle.ip_address.specs.declared.cidr.IpCidr.{IpCidr}
use Rattle.ip_address.specs.declared.hardware.HardwareAddress.{HardwareAddress}
use Rattle.guard.specs.declared.watch.Watch.{Watch}
use Rattle.iface_host.specs.Known.{knows_at}
use Rattle.iface_host.specs.Frames.{Gives, IsDue, IsWritten, Made, PollsInto, Round, Takes, after_response, is_piece_left, let_go, planned}
use Rattle.iface_host.specs.Fragments.{MakesRoom}
use Rattle.iface_host.specs.Guarded.{Admitted, Defends, Dropped, NextIs, Ordinary, Receives, Refused, TakesGuarded, is_ordinary_to, after_arrival, after_sending, hardware_addr_of, is_admitted}
use Rattle.iface_host.specs.Counters.{after_handing, after_taking}
use Rattle.iface_host.specs.Claims.{after_claim}
use Rattle.iface_host.specs.LastErrors.{after_error}
use Rattle.iface_host.specs.Outbox.{Tells, Waiting, with_room}
use Rattle.iface_host.specs.RoundDevice as device
use Rattle.iface_host.specs.RoundDevice.{KeepsRest, frames_in, len_or_zero}
use Rattle.iface_host.specs.declared.round_device.RoundDevice.{RoundDevice}
use Rattle.iface_host.specs.Stands.{capabilities_of}
use Rattle.iface_host.specs.declared.counters.FrameCounts.{FrameCounts}
use Rattle.iface_host.specs.declared.host.IfaceHost.{IfaceHost}
use Rattle.iface_host.specs.declared.host.Settings.{Settings}
use Rattle.iface_host.specs.declared.refusal.Refusal.{Refusal}

pub none_waits : (frames : List (List ℕ)) → length frames ≡ 0 → frames ≡ []
none_waits [] e = refl
none_waits (f ∷ fs) e = absurd (omega arith)

-- what an interface stands for that was just made
pub stood : (s : Settings) (i : Interface) (d : DeviceCapabilities) (t : ℤ) → d ≡ capabilities_of s → t ≡ s.start →
    ((sockets : SocketSet) → interfaces.StandsFor i sockets (first_host d s.hardware_addr s.random_seed s.slaac t sockets)) →
    (sockets : SocketSet) → interfaces.StandsFor i sockets (first_host (capabilities_of s) s.hardware_addr s.random_seed s.slaac s.start sockets)
stood s i d t is begins stands sockets =
    subst (λ (m : ℤ). interfaces.StandsFor i sockets (first_host (capabilities_of s) s.hardware_addr s.random_seed s.slaac m sockets)) begins
    (subst (λ (c : DeviceCapabilities). interfaces.StandsFor i sockets (first_host c s.hardware_addr s.random_seed s.slaac t sockets)) is (stands sockets))

-- fragments wait as long as they are to, from each host that an interface stood for
pub timed : (i i' : Interface) (timeout : ℕ) (sockets : SocketSet) (H : Machine) →
    interfaces.StandsFor i sockets H → interfaces.Refinement (SetsReassemblyTimeout timeout (Ok tt)) H (interfaces.StandsFor i' sockets) →
    interfaces.StandsFor i' sockets (record H { reassembly_timeout = timeout })
timed i i' timeout sockets H stands led = by led.follows where
  by : SetsReassemblyTimeout timeout (Ok tt) H led.host → interfaces.StandsFor i' sockets (record H { reassembly_timeout = timeout })
  by (WithinDay within answers is) = subst (interfaces.StandsFor i' sockets) is led.stands
  by (OverDay over answers is) = absurd cc

-- a frame may change a socket, unless it is empty
pub changing : (frame : List ℕ) → not (length frame == 0) ≡ may_change (answer_to (Frame frame))
changing [] = refl
changing (octet ∷ octets) = ap not (eqb-suc-zero (length octets))

-- what a guard holds back isn't written, and what it lets go is
pub held : (t : ℤ) (frame : List ℕ) (answered : ℕ) (known : Bool) (w : Watch) → guard.lets_go t frame answered known w ≡ false →
    (out : List ℕ) → IsWritten (let_go t (Some frame) answered known w) 0 out out
held t frame answered known w e out = rw e (refl, refl)

pub went : (t : ℤ) (frame : List ℕ) (answered : ℕ) (known : Bool) (w : Watch) → guard.lets_go t frame answered known w ≡ true →
    (n : ℕ) (before after : List ℕ) → IsWritten (Some frame) n before after → IsWritten (let_go t (Some frame) answered known w) n before after
went t frame answered known w e n before after is = rw e is

-- the front of a buffer that is no longer
pub all_of : (n : ℕ) (octets : List ℕ) → length octets ≤ n → octets ≡ take n octets
all_of n octets short = sym (take_all n octets short)

-- a guard judges by the host's own hardware address and addresses
pub admits_as : (t : ℤ) (frame : List ℕ) (hardware hardware' : Option HardwareAddress) → hardware ≡ hardware' →
    (own own' : List IpCidr) → own ≡ own' → (w : Watch) → guard.admits t frame hardware own w ≡ guard.admits t frame hardware' own' w
admits_as t frame hardware hardware' same_hardware own own' same w =
    ap (λ (h : Option HardwareAddress). guard.admits t frame h own w) same_hardware
    ∙ ap (λ (o : List IpCidr). guard.admits t frame hardware' o w) same

pub arrives_as : (t : ℤ) (frame : List ℕ) (hardware hardware' : Option HardwareAddress) → hardware ≡ hardware' →
    (own own' : List IpCidr) → own ≡ own' → (host : IfaceHost) (w : Watch) → w ≡ guard.after_arrival t frame hardware own host.watch →
    record host { watch = w } ≡ record host { watch = guard.after_arrival t frame hardware' own' host.watch }
arrives_as t frame hardware hardware' same_hardware own own' same host w is =
    ap (λ (v : Watch). record host { watch = v }) (is
    ∙ ap (λ (h : Option HardwareAddress). guard.after_arrival t frame h own host.watch) same_hardware
    ∙ ap (λ (o : List IpCidr). guard.after_arrival t frame hardware' o host.watch) same)

-- a frame was taken
pub received : (t : ℤ) (frame : List ℕ) (known : Bool) (n : ℕ) (before after : List ℕ) (old : IfaceHost) (i : Interface) (s : Sockets (Bor (Unit {0})))
    (shown result : Option (List ℕ)) → result ≡ shown → IsWritten (let_go t shown (length frame) known old.watch) n before after →
    HostRefinesReceiving t frame result (interfaces.StandsFor old.interface.value old.sockets) (interfaces.StandsFor i s) →
    (changed : Bool) → changed ≡ (old.changed || not (length frame == 0)) → (counts : FrameCounts) →
    counts ≡ after_handing n (after_taking old.frames) → (w : Watch) → w ≡ after_response t shown (length frame) known old.watch →
    Takes t frame known n before after old
    (record old { interface = with_value old.interface i; sockets = s; changed = changed; frames = counts; watch = w })
received t frame known n before after old i s shown result is written r changed changed_is counts counts_is w w_is = record {
  shown = shown;
  written = written;
  received =
      subst
      (λ (x : Option (List ℕ)). HostRefinesReceiving t frame x (interfaces.StandsFor old.interface.value old.sockets) (interfaces.StandsFor i s)) is r;
  rest =
      ap (λ (b : Bool). record old { interface = with_value old.interface i; sockets = s; changed = b; frames = counts; watch = w })
      (changed_is ∙ ap (λ (b : Bool). old.changed || b) (changing frame))
      ∙ ap (λ (f : FrameCounts). record old {
        interface = with_value old.interface i;
        sockets = s;
        changed = old.changed || may_change (answer_to (Frame frame));
        frames = f;
        watch = w;
      }) counts_is
      ∙ ap (λ (v : Watch). record old {
        interface = with_value old.interface i;
        sockets = s;
        changed = old.changed || may_change (answer_to (Frame frame));
        frames = after_handing n (after_taking old.frames);
        watch = v;
      }) w_is;
}

pub ordinary : (t : ℤ) (frame : List ℕ) (n : ℕ) (before after : List ℕ) (old mid new : IfaceHost) →
    is_ordinary_to frame old ≡ true → mid ≡ after_arrival t frame old → TakesGuarded t frame n before after mid new →
    Receives t frame n before after old new
ordinary t frame n before after old mid new is mid_is takes =
    Ordinary is (subst (λ (h : IfaceHost). TakesGuarded t frame n before after h new) mid_is takes)

pub admitted : (t : ℤ) (frame : List ℕ) (n : ℕ) (before after : List ℕ) (old mid new : IfaceHost) →
    is_admitted t frame old ≡ true → mid ≡ after_arrival t frame old → (roomy : IfaceHost) → MakesRoom t frame true mid roomy →
    TakesGuarded t frame n before after (after_claim frame (after_error frame roomy)) new → Receives t frame n before after old new
admitted t frame n before after old mid new is mid_is roomy makes takes =
    Admitted is roomy (subst (λ (h : IfaceHost). MakesRoom t frame true h roomy) mid_is makes) takes

pub refused : (t : ℤ) (frame : List ℕ) (buffer : List ℕ) (old mid new : IfaceHost) →
    is_admitted t frame old ≡ true → mid ≡ after_arrival t frame old → MakesRoom t frame false mid new → Receives t frame 0 buffer buffer old new
refused t frame buffer old mid new is mid_is makes =
    Refused is (subst (λ (h : IfaceHost). MakesRoom t frame false h new) mid_is makes) refl refl

pub dropped : (t : ℤ) (frame : List ℕ) (n : ℕ) (before after : List ℕ) (old mid new : IfaceHost) →
    is_admitted t frame old ≡ false → mid ≡ after_arrival t frame old → Defends n before after mid new → Receives t frame n before after old new
dropped t frame n before after old mid new is mid_is defends =
    Dropped is (subst (λ (h : IfaceHost). Defends n before after h new) mid_is defends)

-- at the moment that was tested
pub heard : (t t' : ℤ) → t' ≡ t → (frame : List ℕ) (n : ℕ) (before after : List ℕ) (old new : IfaceHost) →
    Receives t' frame n before after old new → Receives t frame n before after old new
heard t t' same frame n before after old new receives = subst (λ (m : ℤ). Receives m frame n before after old new) same receives

-- an announcement was written and counted, or none was owed
pub defended : (n : ℕ) (before after : List ℕ) (old : IfaceHost) (hardware : Option HardwareAddress) → hardware ≡ hardware_addr_of old →
    (frame result : Option (List ℕ)) → result ≡ announced hardware old.watch.defence.owed → result ≡ frame →
    IsWritten frame n before after → (w : Watch) → w ≡ guard.after_defence old.watch → (counts : FrameCounts) →
    counts ≡ after_handing n old.frames → Defends n before after old (record old { watch = w; frames = counts })
defended n before after old hardware own frame result is shown written w w_is counts counts_is = record {
  written =
      subst (λ (x : Option (List ℕ)). IsWritten x n before after)
      (sym shown ∙ is ∙ ap (λ (h : Option HardwareAddress). announced h old.watch.defence.owed) own) written;
  rest =
      ap (λ (v : Watch). record old { watch = v; frames = counts }) w_is
      ∙ ap (λ (f : FrameCounts). record old { watch = guard.after_defence old.watch; frames = f }) counts_is;
}

pub noted : (t t' : ℤ) → t' ≡ t → (n : ℕ) (before after : List ℕ) (old given new : IfaceHost) → Gives t' n before after old given →
    new ≡ after_sending t' (take n after) given → NextIs t n before after old new
noted t t' same n before after old given new gives is =
    subst (λ (m : ℤ). NextIs m n before after old new) same (record { given = given; gives = gives; noted = is })

-- the frame in the front of a buffer, if there is one, and how many octets it has
abbrev pub frame_in : Option ℕ → List ℕ → Option (List ℕ)
frame_in None out = None
frame_in (Some n) out = Some (take n out)

shown_in : (len : Option ℕ) (out : List ℕ) → frames_shown (frame_in len out) ≡ frames_in len out
shown_in None out = refl
shown_in (Some n) out = refl

written_in : (len : Option ℕ) (before after : List ℕ) → KeepsRest None before len after →
    IsWritten (frame_in len after) (len_or_zero len) before after
written_in None before after kept = (refl, kept)
written_in (Some n) before after kept = (sym (length-take-le n after kept.0), refl, kept.1)

-- what the device of a round told, of its outbox
told_of : (d d' : RoundDevice) (events : List Event) → d.len ≡ None → device.Tells d events d' →
    Tells (frame_in d'.len d'.out.now) d.outbox.now events d'.outbox.now
told_of d d' events fresh told = record {
  capabilities = told.capabilities;
  frames = ap (λ (fs : List (List ℕ)). fs ++ d'.outbox.now.frames) (shown_in d'.len d'.out.now) ∙ told.frames
      ∙ ap (λ (len : Option ℕ). (frames_in len d.out.now ++ d.outbox.now.frames) ++ sent_frames events) fresh;
  refusals = told.refusals;
  no_frame = told.no_frame;
}

-- a poll over the device of a round is over the same outbox, and the same buffer
pub same_references : (t : ℤ) (answer : PollResult) (i i' : Interface) (s s' : Sockets (Bor (Unit {0}))) (d d' : RoundDevice) →
    ((H : Machine) × interfaces.StandsFor i s H) →
    HostRefinesTelling device.Tells d d' (Polls t 1 answer) (interfaces.StandsFor i s) (interfaces.StandsFor i' s') →
    (d'.outbox.ghost_name ≡ d.outbox.ghost_name) × (d'.out.ghost_name ≡ d.out.ghost_name)
same_references t answer i i' s s' d d' some went =
    let told = (went some.0 some.1).tells_it in (told.same_outbox, told.same_buffer)

-- and hands its first frame over
pub polled_into : (t : ℤ) (answer : PollResult) (i i' : Interface) (s s' : Sockets (Bor (Unit {0}))) (d d' : RoundDevice) →
    d.len ≡ None → ((H : Machine) × interfaces.StandsFor i s H) →
    HostRefinesTelling device.Tells d d' (Polls t 1 answer) (interfaces.StandsFor i s) (interfaces.StandsFor i' s') →
    PollsInto t answer (len_or_zero d'.len) d.out.now d'.out.now d.outbox.now d'.outbox.now i i' s s'
polled_into t answer i i' s s' d d' fresh some went = record {
  handed = frame_in d'.len d'.out.now;
  went = λ H stands.
      let r = went H stands in record {
        told = r.told;
        notes = r.notes;
        host = r.host;
        tells_it = told_of d d' r.told fresh r.tells_it;
        steps = r.steps;
        stands = r.stands;
      };
  written = written_in d'.len d.out.now d'.out.now
      (subst (λ (len : Option ℕ). KeepsRest len d.out.now d'.len d'.out.now) fresh (went some.0 some.1).tells_it.rest);
}

-- so it is with what outbox and buffer are, once the device is gone
pub at_the_end : (t : ℤ) (answer : PollResult) (n n' : ℕ) → n' ≡ n → (before after after' : List ℕ) → after' ≡ after →
    (o p p' : Waiting) → p' ≡ p → (i i' : Interface) (s s' : Sockets (Bor (Unit {0}))) →
    PollsInto t answer n before after o p i i' s s' → PollsInto t answer n' before after' o p' i i' s s'
at_the_end t answer n n' same_n before after after' same_after o p p' same_p i i' s s' polls =
    subst (λ (x : ℕ). PollsInto t answer x before after' o p' i i' s s') (sym same_n)
    (subst (λ (x : List ℕ). PollsInto t answer n before x o p' i i' s s') (sym same_after)
    (subst (λ (x : Waiting). PollsInto t answer n before after o x i i' s s') (sym same_p) polls))

-- a poll with the room that was reserved
pub rounded : (t : ℤ) (n : ℕ) (out out' : List ℕ) (old : IfaceHost) (room : Waiting) → room ≡ with_room true old.outbox →
    (left : Bool) → left ≡ is_piece_left old → (before after : Planned (Bor (Unit {0}))) →
    before ≡ before_round (knows_at old.interface.value) t old.ip_mtu left (planned old) →
    (answer : PollResult) (i : Interface) (polled : Sockets (Bor (Unit {0}))) (o : Waiting) →
    PollsInto t answer n out out' room o old.interface.value i before.sockets polled →
    after ≡ after_round t (record { plan = before.plan; sockets = polled }) → (changed : Bool) →
    changed ≡ (old.changed || is_changed answer) → (counts : FrameCounts) → counts ≡ after_handing n old.frames →
    Round t n out out' old (record old {
      interface = with_value old.interface i;
      sockets = after.sockets;
      outbox = o;
      schedule = after.plan;
      changed = changed;
      frames = counts;
    })
rounded t n out out' old room is left left_is before after prepared answer i polled o polls ended changed changed_is counts counts_is = record {
  prepared = before;
  polled = polled;
  answer = answer;
  is_prepared = prepared ∙ ap (λ (b : Bool). before_round (knows_at old.interface.value) t old.ip_mtu b (planned old)) left_is;
  polls = subst (λ (w : Waiting). PollsInto t answer n out out' w o old.interface.value i before.sockets polled) is polls;
  ended = ended;
  rest =
      ap (λ (b : Bool). record old {
        interface = with_value old.interface i;
        sockets = after.sockets;
        outbox = o;
        schedule = after.plan;
        changed = b;
        frames = counts;
      }) changed_is
      ∙ ap (λ (f : FrameCounts). record old {
        interface = with_value old.interface i;
        sockets = after.sockets;
        outbox = o;
        schedule = after.plan;
        changed = old.changed || is_changed answer;
        frames = f;
      }) counts_is;
}

-- when something is due, where no frame waits
pub due : (t t' : ℤ) → t' ≡ t → (old : IfaceHost) (i : Interface) (end : Option ℤ) → old.outbox.frames ≡ [] →
    ((H : Machine) → interfaces.StandsFor old.interface.value old.sockets H → IsLeast (Due (at H t')) end) →
    ((H : Machine) → interfaces.StandsFor old.interface.value old.sockets H → interfaces.StandsFor i old.sockets (at H t')) →
    IsDue t end old (record old { interface = with_value old.interface i })
due t t' same old i end empty least moved = record {
  led = λ H h. subst (λ (m : ℤ). interfaces.StandsFor i old.sockets (at H m)) same (moved H h);
  least = λ e H h. subst (λ (m : ℤ). IsLeast (Due (at H m)) end) same (least H h);
  at_once = λ waits. absurd (waits empty);
  rest = refl;
}

-- and where one does
pub due_at_once : (t t' : ℤ) → t' ≡ t → (old : IfaceHost) (i : Interface) → (length old.outbox.frames ≡ 0 → ⊥) →
    ((H : Machine) → interfaces.StandsFor old.interface.value old.sockets H → interfaces.StandsFor i old.sockets (at H t')) →
    IsDue t (Some (pos 0)) old (record old { interface = with_value old.interface i })
due_at_once t t' same old i waits moved = record {
  led = λ H h. subst (λ (m : ℤ). interfaces.StandsFor i old.sockets (at H m)) same (moved H h);
  least = λ e. absurd (waits (ap length e));
  at_once = λ _. refl;
  rest = refl;
}

-- a round, where it wasn't refused
pub of_round : (t : ℤ) (before after : List ℕ) (old new : IfaceHost) → old.outbox.frames ≡ [] → (answer : Result ℕ Refusal) →
    IfOk answer (λ n. Round t n before after old new) → IfOk answer (λ n. Gives t n before after old new)
of_round t before after old new none (Ok n) went = Made none went
of_round t before after old new none (Err why) went = tt
