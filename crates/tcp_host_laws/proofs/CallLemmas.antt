-- Lives go on in calls.
use Rattle.std.proofs.Common.{◌≡◌, ℕ, Bool, true, false, List, [], ◌∷◌, length, None}
use Rattle.std.proofs.Common.{refl, sym, ap, subst}
use Rattle.std.specs.Prelude.{if◌then◌else◌}
use Rattle.std.proofs.lemmas.List.{length-replicate}
use Rattle.tcp_machine.specs.declared.settings.Settings.{Settings}
use Rattle.tcp_machine.specs.Connection.{Connection}
use Rattle.tcp_machine.specs.Opening.{opened}
use Rattle.tcp_machine.specs.Receiving.{open_receiver}
use Rattle.tcp_machine.specs.Calls.{after_abort}
use Rattle.tcp_host.specs.Reports.{noted}
use Rattle.tcp_host.specs.declared.iss.Endpoints.{Endpoints}
use Rattle.tcp_host.specs.Iss.{iss}
use Rattle.tcp_host.specs.declared.slot.Owner.TheVariants.{Itself}
use Rattle.tcp_host.specs.Handles.{changed, ends_by_itself, opened_at, accepting, listening, listener_closed, untold, with_hop_limit}
use Rattle.tcp_host.specs.Host.{Host, never, connection_at, with_connection, with_owner, with_alarm, link_mss, settings_for}
use Rattle.tcp_laws.specs.Machines.{Act, Opens, Writes, Reads, Closes, Aborts, Chooses, Fits, Fails}
use Rattle.tcp_host_laws.specs.Lives.{Life, side_of, Does, continued, begun, after_events, Tells}
use Rattle.tcp_host_laws.specs.Calls.{Connect, Send, Receive, Close, Abort, Choose, Limit, Release, Changed, Accept, Listen, CloseListener, Shorten, Note, Lose}
use Rattle.tcp_host_laws.specs.Laws.{CallsLiveOn}
use Rattle.tcp_host_laws.proofs.LifeLemmas.{after_of, IsLater, Starts, rests_then, rests_starts, steps_rests, tells_rest, tells_step, tells_start}
use Rattle.tcp_host_laws.proofs.HostSteps.{found_rests, owner_rests, alarm_rests, connection_steps, changed_steps, slot_starts, hops_rest, report_rests, accepting_rests, closed_rests, told_rests, untold_rests}

-- a connection that is opened has the rooms of the one that stood there
pub opened_size : (now number room size mss : ℕ) (settings : Settings) →
    opened now number room (length (open_receiver size).cells) mss settings ≡ opened now number room size mss settings
opened_size now number room size mss settings = ap (λ (n : ℕ). opened now number room n mss settings) (length-replicate size None)

-- a step of one connection
does : (place : ℕ) (act : Act) (ls : List Life) (old : Host) → IsLater act → Tells ls old →
    Tells (continued place act ls) (changed place (after_of 0 act (connection_at place old)) old)
does place act ls old later t =
    tells_step place act ls old (changed place (after_of 0 act (connection_at place old)) old) later t
    (changed_steps place (after_of 0 act (connection_at place old)) old)

-- the program lets go
release_by : (b : Bool) (place : ℕ) (ls : List Life) (old : Host) → Tells ls old →
    Tells (after_events (if b then [] else Does place Aborts ∷ []) ls)
    (with_alarm place 0 (with_owner place (Itself None) (if b then old else with_connection place (after_abort (connection_at place old)) old)))
release_by true place ls old t =
    let mid = with_owner place (Itself None) old in
    tells_rest ls mid (with_alarm place 0 mid) (tells_rest ls old mid t (owner_rests place (Itself None) old)) (alarm_rests place 0 mid)
release_by false place ls old t =
    let c = after_abort (connection_at place old) in
    let one = with_connection place c old in
    let two = with_owner place (Itself None) one in
    let kept = rests_then one two (with_alarm place 0 two) (owner_rests place (Itself None) one) (alarm_rests place 0 two) in
    tells_step place Aborts ls old (with_alarm place 0 two) (λ number d. refl) t
    (steps_rests place c old one (with_alarm place 0 two) (connection_steps place c old) kept)

-- it opens one
opens : (place now : ℕ) (e : Endpoints) (old : Host) →
    let mss = link_mss old.config e.remote_addr in
    let number = iss old.config.number_key e now in
    let room = (connection_at place old).transmission.sender.room in
    let size = length (connection_at place old).reception.receiver.cells in
    let act = Opens now mss (settings_for old.config e.remote_addr) in
    Starts place e (side_of (begun place e number room size act)).connection old (opened_at place now e old)
opens place now e old =
    let mss = link_mss old.config e.remote_addr in
    let number = iss old.config.number_key e now in
    let c = connection_at place old in
    let room = c.transmission.sender.room in
    let size = length c.reception.receiver.cells in
    let settings = settings_for old.config e.remote_addr in
    subst (λ (x : Connection). Starts place e x old (opened_at place now e old)) (sym (opened_size now number room size mss settings))
    (slot_starts place e _ old)

pub calls_live_on : CallsLiveOn
calls_live_on ls old _ _ t (Connect place now e ready within found) =
    let c = connection_at place ready in
    tells_start place e (iss ready.config.number_key e now) c.transmission.sender.room (length c.reception.receiver.cells)
    (Opens now (link_mss ready.config e.remote_addr) (settings_for ready.config e.remote_addr)) ls old (opened_at place now e ready) t
    (rests_starts place e _ old ready (opened_at place now e ready) (found_rests old place ready found) (opens place now e ready))
calls_live_on ls old _ _ t (Send handle octets named) = does handle.place (Writes octets) ls old (λ number c. refl) t
calls_live_on ls old _ _ t (Receive handle count named) = does handle.place (Reads count) ls old (λ number c. refl) t
calls_live_on ls old _ _ t (Close handle named) = does handle.place Closes ls old (λ number c. refl) t
calls_live_on ls old _ _ t (Abort handle named) = does handle.place Aborts ls old (λ number c. refl) t
calls_live_on ls old _ _ t (Choose handle settings named) = does handle.place (Chooses settings) ls old (λ number c. refl) t
calls_live_on ls old _ _ t (Shorten place size within) = does place (Fits size) ls old (λ number c. refl) t
calls_live_on ls old _ _ t (Note now place within) = tells_rest ls old (noted now place old) t (report_rests now place old)
calls_live_on ls old _ _ t (Lose place within) = does place Fails ls old (λ number c. refl) t
calls_live_on ls old _ _ t (Limit handle hop_limit named) =
    tells_rest ls old (with_hop_limit handle.place hop_limit old) t (hops_rest handle.place hop_limit old)
calls_live_on ls old _ _ t (Release handle named) =
    let b = ends_by_itself (connection_at handle.place old).state in
    let c = after_abort (connection_at handle.place old) in
    let one = with_alarm handle.place 0 (with_owner handle.place (Itself None) (if b then old else with_connection handle.place c old)) in
    tells_rest (after_events (if b then [] else Does handle.place Aborts ∷ []) ls) one (untold handle.place never one)
    (release_by b handle.place ls old t) (untold_rests handle.place never one)
calls_live_on ls old new _ t (Changed told _ tells) = tells_rest ls old new t (told_rests old new told tells)
calls_live_on ls old _ _ t (Accept listener) = tells_rest ls old (accepting listener old).1 t (accepting_rests listener old)
calls_live_on ls old _ _ t (Listen port address most) =
    tells_rest ls old (listening port address most old) t (record { slots = refl; connections = λ q. refl; ends = λ q e is. is })
calls_live_on ls old _ _ t (CloseListener listener) = tells_rest ls old (listener_closed listener old) t (closed_rests listener old)
