-- When something is sent once more.
use Rattle.std.proofs.Common.{◌≡◌, ◌<◌, ◌≤◌, ℕ, Bool, true, false}
use Rattle.std.proofs.Common.{refl, sym, ap, ◌∙◌, arith, Option, Some, None, inl, inr}
use Rattle.std.specs.Prelude.{◌+◌, ◌-◌, min, max, nat_le, nat_lt, ◌==◌, ◌&&◌, ◌||◌, not, ◌⊎◌, is_some, is_none, if◌then◌else◌}
use Rattle.std.proofs.lemmas.Bool.Decides.{nat_tests}
use Rattle.tcp_machine.specs.declared.state.State.{State}
use Rattle.tcp_machine.specs.declared.state.State.TheVariants.{Closed, Listen, SynSent, SynReceived, Established, FinWait1}
use Rattle.tcp_machine.specs.declared.state.State.TheVariants.{FinWait2, CloseWait, Closing, LastAck, TimeWait}
use Rattle.tcp_machine.specs.declared.timers.Pending.{Pending}
use Rattle.tcp_machine.specs.declared.timers.Pending.TheVariants.{Empty, Challenge, Resend, Probe, KeepAlive, Reset, SynAgain}
use Rattle.tcp_machine.specs.declared.timers.Owed.TheVariants.{AtOnce}
use Rattle.tcp_machine.specs.declared.timers.Ending.{Ending}
use Rattle.tcp_machine.specs.declared.timers.Ending.TheVariants.{Refused, TimedOut}
use Rattle.tcp_machine.specs.declared.congestion.Congestion.{Congestion}
use Rattle.tcp_machine.specs.Scoreboard.{is_lost}
use Rattle.tcp_machine.specs.Instants.{later, has_passed}
use Rattle.tcp_machine.specs.Positions.{number_at}
use Rattle.tcp_machine.specs.Pieces.{Piece}
use Rattle.tcp_machine.specs.Sending.{after_position}
use Rattle.tcp_machine.specs.Receiving.{expected, is_in_window}
use Rattle.tcp_machine.specs.States.{is_opening, is_synchronized, sends_octets, takes_octets, after_peers_end, after_end_acknowledged}
use Rattle.tcp_machine.specs.Connection.{Connection}
use Rattle.tcp_machine.specs.Segments.{Segment, window_in, acceptable_piece, acknowledged_in}
use Rattle.tcp_machine.specs.Windows.{tells_window, with_window, after_window}
use Rattle.tcp_machine.specs.Congestion as congestion
use Rattle.tcp_machine.specs.Acknowledgements as acknowledgements
use Rattle.tcp_machine.specs.Acknowledgements.{rank, with_pending, empty_position, is_believed, is_end_acknowledged, is_duplicate, with_waiting}
use Rattle.tcp_machine.specs.Acknowledgements.{after_progress, after_duplicate, after_acked, after_told, after_blocks, after_end, after_acknowledgement, shows_next_loss}
use Rattle.tcp_machine.specs.Acknowledgements.{with_told, begins_recovery, is_first_lost, is_hole_due, is_hole_lost, is_more_told, pipe}
use Rattle.tcp_machine.specs.Arrivals.{is_time_wait, is_syn_received, is_closed, with_owed, ended, aborted, with_time_wait, after_entering, after_syn_once_more, is_syn_again}
use Rattle.tcp_machine.specs.Arrivals.{after_unacceptable, why_reset, after_reset, is_own_syn_acknowledged, established}
use Rattle.tcp_machine.specs.Arrivals.{reception_after, has_text, after_octets_of, has_ended, after_fin, after_text, after_last}
use Rattle.tcp_machine.specs.Arrivals.{after_position_acknowledged, after_ack_field, heard, after_piece_of, after_segment_arrives, is_answered, after_unbelieved}
use Rattle.tcp_machine.specs.Opening.{with_syn, is_acknowledgement_of_syn, after_wrong_ack, after_syn, after_arrival_in_syn_sent}
use Rattle.tcp_machine.specs.Opening.{after_arrival_in}
use Rattle.tcp_machine.specs.Timers.{is_held_back, with_probe_timer, is_given_up, after_loss_of_all, is_unheard, after_user_timeout, gives_up_at}
use Rattle.tcp_machine.specs.Timers.{after_probe_time, after_resend_timer, most_probes, keep_alive_at, after_keep_alive}
use Rattle.tcp_machine.specs.Timers.{after_time_wait, after_timers}
use Rattle.tcp_machine.specs.Outgoing.{Action, SendSyn, SendNext, SendAgain, SendProbe, first_piece, next_piece, has_octets, action_in_opening, is_challenge, is_syn_sent}
use Rattle.tcp_machine.specs.Outgoing.{is_worth_sending, ack_if, tells_something}
use Rattle.tcp_machine.specs.Outgoing.{action_pending, is_reset, is_syn_due, action}
use Rattle.tcp_machine.specs.Path.{size_told, path_told}
use Rattle.tcp_machine.specs.Reports.{is_too_long, after_too_long}
use Rattle.tcp_laws.specs.Retransmissions.{HasReason, IsFirstLost, RetransmissionsWait}
use Rattle.tcp_laws.proofs.ReceivingSteps.{false_true, first_of_two}
use Rattle.tcp_laws.proofs.MachineArrivals.{either, last_of, is_lt}
use Rattle.tcp_laws.proofs.MachineTimers.{probing, once_more}

-- what is sent
module _ (now : ℕ) (c : Connection) (p : Piece) where
  abbrev Owes : Option Action → Type 0
  Owes o = o ≡ Some (SendAgain p) → c.pending ≡ Resend

  owes_ack : (b : Bool) → Owes (ack_if b)
  owes_ack true = λ e. cc
  owes_ack false = λ e. cc

  owes_pending : (q : Pending) → c.pending ≡ q → Owes (action_pending q now c)
  owes_pending Empty e =
      either Owes (sends_octets c.state && is_worth_sending c (next_piece c)) (Some (SendNext (next_piece c)))
      (ack_if (is_synchronized c.state && tells_something now c)) (λ _. λ f. cc)
      (λ _. owes_ack (is_synchronized c.state && tells_something now c))
  owes_pending Challenge e = owes_ack (is_synchronized c.state)
  owes_pending SynAgain e = owes_ack (is_synchronized c.state)
  owes_pending KeepAlive e = λ f. cc
  owes_pending Probe e =
      either Owes (sends_octets c.state && has_octets (next_piece c)) (Some (SendNext (next_piece c)))
      (Some (SendProbe (first_piece 1 c))) (λ _. λ f. cc) (λ _. λ f. cc)
  owes_pending Resend e = λ f. e
  owes_pending (Reset number) e = λ f. cc

  owes : Owes (action now c)
  owes =
      either Owes (is_opening c.state && not (is_reset c.pending)) (action_in_opening now c)
      (action_pending c.pending now c)
      (λ _. either Owes (is_syn_due now c) (Some SendSyn) (ack_if (is_challenge c.pending && not (is_syn_sent c.state)))
      (λ _. λ f. cc) (λ _. owes_ack (is_challenge c.pending && not (is_syn_sent c.state)))) (λ _. owes_pending c.pending refl)

-- what arrives
is_two : (n : ℕ) → (n == 2) ≡ true → n ≡ 2
is_two n h = grind (arith, nat_tests)

le_max_kept : (m n a : ℕ) → m ≤ n → m ≤ max n a
le_max_kept m n a h = grind arith

le_one_max : (m n : ℕ) → m ≤ n → m ≤ max 1 n
le_one_max m n h = grind arith

-- what an acknowledgement leaves of the reasons for a recovery
record Comes (c d : Connection) : Type 0 where
  two : d.reception.sack_permitted ≡ true → d.congestion.duplicates ≡ 2 → c.congestion.duplicates ≡ 2
  recovering : d.reception.sack_permitted ≡ true → d.congestion.is_recovering ≡ true → c.congestion.is_recovering ≡ true

record Leaves (k g : Congestion) : Type 0 where
  two : g.duplicates ≡ 2 → k.duplicates ≡ 2
  recovering : g.is_recovering ≡ true → k.is_recovering ≡ true

leaves_all : (k : Congestion) → Leaves k k
leaves_all k = record { two = λ e. e; recovering = λ e. e }

none_two : (n : ℕ) → ◌≡◌ {A = ℕ} 0 2 → n ≡ 2
none_two n e = absurd (omega (arith, e))

leaves_avoided : (mss n : ℕ) (k : Congestion) → Leaves k (congestion.avoided mss n k)
leaves_avoided mss n k =
    either (Leaves k) (nat_le k.window (congestion.credit_with n k)) (record k {
      window = min congestion.largest (k.window + mss);
      credit = congestion.credit_with n k - k.window;
      duplicates = 0;
    }) (record k { credit = congestion.credit_with n k; duplicates = 0 })
    (λ _. record { two = none_two k.duplicates; recovering = λ e. e }) (λ _. record { two = none_two k.duplicates; recovering = λ e. e })

leaves_progress : (by : Bool) (mss n a f : ℕ) (k : Congestion) → Leaves k (congestion.after_progress by mss n a f k)
leaves_progress by mss n a f k =
    either (Leaves k) (by && congestion.shows_a_loss a k) k (congestion.after_acknowledged mss n a f k) (λ _. leaves_all k) (λ _.
    either (Leaves k) (not k.is_recovering) (congestion.grown mss n a k)
    (if nat_le k.recover a then congestion.recovered mss f k else congestion.partly_recovered mss n k) (λ _.
    either (Leaves k) (nat_lt k.window k.threshold) (congestion.started mss n a k) (congestion.avoided mss n k)
    (λ _. record { two = none_two k.duplicates; recovering = λ e. e }) (λ _. leaves_avoided mss n k)) (λ _.
    either (Leaves k) (nat_le k.recover a) (congestion.recovered mss f k) (congestion.partly_recovered mss n k)
    (λ _. record { two = none_two k.duplicates; recovering = λ e. false_true e }) (λ _. record { two = λ e. e; recovering = λ e. e })))

module _ (c0 : Connection) where
  -- before blocks are told, and after that
  abbrev Base : Connection → Type 0
  Base d = (d.pending ≡ Resend → HasReason c0) × (c0.transmission.nxt ≤ d.transmission.nxt)

  abbrev Kept : Connection → Type 0
  Kept d = (d.pending ≡ Resend → HasReason c0 ⊎ IsFirstLost d) × (c0.transmission.nxt ≤ d.transmission.nxt)

  base_first : Base c0
  base_first = (λ e. inl e, omega arith)

  weak : (d : Connection) → Base d → Kept d
  weak d h = (λ e. inl (h.0 e), h.1)

  kept_first : Kept c0
  kept_first = weak c0 base_first

  kept_challenge : (d : Connection) → Kept d → Kept (with_pending Challenge d)
  kept_challenge d h =
      either Kept (nat_lt (rank d.pending) (rank Challenge)) (record d { pending = Challenge }) d (λ _. (λ e. cc, h.1)) (λ _. h)

  kept_syn_again : (d : Connection) → Kept d → Kept (with_pending SynAgain d)
  kept_syn_again d h =
      either Kept (nat_lt (rank d.pending) (rank SynAgain)) (record d { pending = SynAgain }) d (λ _. (λ e. cc, h.1)) (λ _. h)

  kept_number : (n : ℕ) (d : Connection) → Kept d → Kept (with_pending (Reset n) d)
  kept_number n d h =
      either Kept (nat_lt (rank d.pending) (rank (Reset n))) (record d { pending = Reset n }) d (λ _. (λ e. cc, h.1)) (λ _. h)

  kept_ended : (why : Option Ending) (d : Connection) → Kept d → Kept (ended why d)
  kept_ended why d h = (λ e. cc, h.1)

  kept_unacceptable : (now : ℕ) (s : Segment) (d : Connection) → Kept d → Kept (after_unacceptable now s d)
  kept_unacceptable now s d h =
      either Kept (s.rst || not (is_answered s d)) d
      (if s.fin && is_time_wait d.state then with_time_wait now (with_pending Challenge d) else with_pending Challenge d) (λ _. h) (λ _.
      either Kept (s.fin && is_time_wait d.state) (with_time_wait now (with_pending Challenge d)) (with_pending Challenge d)
      (λ _. kept_challenge d h) (λ _. kept_challenge d h))

  kept_unbelieved : (p : Piece) (d : Connection) → Kept d → Kept (after_unbelieved p d)
  kept_unbelieved p d h = either Kept (has_text p) (with_pending Challenge d) d (λ _. kept_challenge d h) (λ _. h)

  kept_reset : (p : Piece) (d : Connection) → Kept d → Kept (after_reset p d)
  kept_reset p d h =
      either Kept (is_time_wait d.state) d
      (if p.start == expected d.reception.receiver then ended (Some (why_reset d)) d
      else if is_in_window d.reception.receiver p.start then with_pending Challenge d else d) (λ _. h) (λ _.
      either Kept (p.start == expected d.reception.receiver) (ended (Some (why_reset d)) d)
      (if is_in_window d.reception.receiver p.start then with_pending Challenge d else d) (λ _. kept_ended (Some (why_reset d)) d h) (λ _.
      either Kept (is_in_window d.reception.receiver p.start) (with_pending Challenge d) d (λ _. kept_challenge d h) (λ _. h)))

  base_established : (d : Connection) → Base d → Base (established d)
  base_established d h = (h.0, le_one_max c0.transmission.nxt d.transmission.nxt h.1)

  -- what an acknowledgement makes owed
  loss_reason : (a r : ℕ) (k : Congestion) (q : Pending) → (q ≡ Resend → HasReason c0) → k ≡ c0.congestion → (b : Bool) →
      congestion.shows_a_loss a k && nat_le r a ≡ b → (if b then Resend else q) ≡ Resend → HasReason c0
  loss_reason a r k q h same true f e =
      let g = first_of_two (congestion.shows_a_loss a k) (nat_le r a) f in
      inr (inr (ap (λ (x : Congestion). x.is_recovering) (sym same) ∙ first_of_two k.is_recovering (nat_lt a k.recover) g))
  loss_reason a r k q h same false f e = h e

  third_reason : (a : ℕ) (k : Congestion) (q : Pending) → (q ≡ Resend → HasReason c0) → k ≡ c0.congestion → (b : Bool) →
      congestion.is_third a k ≡ b → (if b then Resend else q) ≡ Resend → HasReason c0
  third_reason a k q h same true f e =
      let g = first_of_two (not k.is_recovering && (k.duplicates == 2)) (nat_lt k.recover a) f in
      let two = is_two k.duplicates (last_of (not k.is_recovering) (k.duplicates == 2) g) in
      inr (inl (ap (λ (x : Congestion). x.duplicates) (sym same) ∙ two))
  third_reason a k q h same false f e = h e

  module _ (now a : ℕ) (s : Segment) (p : Piece) where
    base_acked : (d : Connection) → Base d → d.congestion ≡ c0.congestion → Base (after_acked now a s p d)
    base_acked d h same =
        let t = d.transmission in
        let window = window_in d s in
        either Base (nat_lt t.sender.una a) (after_progress now a window d) (after_duplicate a window p d) (λ _. (
          loss_reason a t.resent d.congestion d.pending h.0 same (shows_next_loss a d) refl,
          le_max_kept c0.transmission.nxt t.nxt a h.1,
        )) (λ _.
        either Base (not d.reception.sack_permitted && is_duplicate a window p t) (record d {
          congestion = congestion.after_duplicate t.mss a (acknowledgements.flight t) t.sender.top d.congestion;
          pending = if congestion.is_third a d.congestion then Resend else d.pending;
        }) (record d { transmission = record t { sender = after_position a window t.sender } }) (λ _. (
          third_reason a d.congestion d.pending h.0 same (congestion.is_third a d.congestion) refl,
          h.1,
        )) (λ _. h))

    base_window : (d : Connection) (window : ℕ) → Base d → (b : Bool) →
        Base (record d { transmission = if b then with_window p.start a window d.transmission else d.transmission })
    base_window d window h true = h
    base_window d window h false = h

    base_told : (c d : Connection) → Base d → Base (after_told a s p c d)
    base_told c d h =
        either Base (nat_le c.transmission.sender.una a)
        (record d { transmission = after_window p.start a (window_in c s) d.transmission }) d
        (λ _. base_window d (window_in c s) h (tells_window p.start a d.transmission)) (λ _. h)

    kept_end : (d : Connection) → Kept d → Kept (after_end d)
    kept_end d h =
        either Kept (is_end_acknowledged d.transmission.sender) (record d { state = after_end_acknowledged d.state }) d (λ _. h) (λ _. h)

    comes_acked : (d : Connection) → d.congestion ≡ c0.congestion → Comes c0 (after_acked now a s p d)
    comes_acked d same =
        let t = d.transmission in
        let window = window_in d s in
        let k = leaves_progress d.reception.sack_permitted t.mss (a - t.sender.una) a (max t.nxt a - a) d.congestion in
        let dups = ap (λ (x : Congestion). x.duplicates) same in
        let rec = ap (λ (x : Congestion). x.is_recovering) same in
        either (Comes c0) (nat_lt t.sender.una a) (after_progress now a window d) (after_duplicate a window p d)
        (λ _. record { two = λ _ e. sym dups ∙ k.two e; recovering = λ _ e. sym rec ∙ k.recovering e }) (λ _.
        either (Comes c0) (not d.reception.sack_permitted && is_duplicate a window p t) (record d {
          congestion = congestion.after_duplicate t.mss a (acknowledgements.flight t) t.sender.top d.congestion;
          pending = if congestion.is_third a d.congestion then Resend else d.pending;
        }) (record d { transmission = record t { sender = after_position a window t.sender } }) (λ f. record {
          two = λ e _. false_true (sym (ap not e) ∙ first_of_two (not d.reception.sack_permitted) (is_duplicate a window p t) f);
          recovering = λ e _. false_true (sym (ap not e) ∙ first_of_two (not d.reception.sack_permitted) (is_duplicate a window p t) f);
        }) (λ _. record { two = λ _ e. sym dups ∙ e; recovering = λ _ e. sym rec ∙ e }))

    comes_told : (c d : Connection) → Comes c0 d → Comes c0 (after_told a s p c d)
    comes_told c d h =
        either (Comes c0) (nat_le c.transmission.sender.una a)
        (record d { transmission = after_window p.start a (window_in c s) d.transmission }) d
        (λ _. record { two = h.two; recovering = h.recovering }) (λ _. h)

    -- what blocks make owed
    begun : (d : Connection) → d.reception.sack_permitted ≡ true → Comes c0 d → (b : Bool) →
        congestion.is_third d.transmission.sender.una d.congestion ≡ b → b || is_first_lost d ≡ true → HasReason c0 ⊎ IsFirstLost d
    begun d permitted from true f e =
        let k = d.congestion in
        let una = d.transmission.sender.una in
        let g = first_of_two (not k.is_recovering && (k.duplicates == 2)) (nat_lt k.recover una) f in
        inl (inr (inl (from.two permitted (is_two k.duplicates (last_of (not k.is_recovering) (k.duplicates == 2) g)))))
    begun d permitted from false f e =
        let t = d.transmission in
        let g = d.congestion in
        inr (last_of (not g.is_recovering && nat_lt g.recover t.sender.una) (is_lost t.mss t.sender.una t.told) e)

    more_reason : (d : Connection) (m u : Bool) → (d.pending ≡ Resend → HasReason c0) → Comes c0 d →
        (m ≡ true → d.reception.sack_permitted ≡ true) →
        (u ≡ true → (d.reception.sack_permitted ≡ true) × (d.congestion.is_recovering ≡ true)) → (b : Bool) →
        m && begins_recovery d ≡ b → (if b || u then Resend else d.pending) ≡ Resend → HasReason c0 ⊎ IsFirstLost d
    more_reason d m u h from permitted due true f e =
        begun d (permitted (first_of_two m (begins_recovery d) f)) from (congestion.is_third d.transmission.sender.una d.congestion) refl
        (last_of m (begins_recovery d) f)
    more_reason d m true h from permitted due false f e = inl (inr (inr (from.recovering (due refl).0 (due refl).1)))
    more_reason d m false h from permitted due false f e = inl (h e)

    kept_blocks : (d : Connection) → Base d → Comes c0 d → Kept (after_blocks s d)
    kept_blocks d h from =
        let t = with_told s d in
        let permitted = d.reception.sack_permitted in
        let m = permitted && is_more_told d.transmission t.transmission in
        let u = permitted && is_hole_due t in (
          more_reason t m u h.0 (record { two = from.two; recovering = from.recovering })
              (λ e. first_of_two permitted (is_more_told d.transmission t.transmission) e)
              (λ e. (
                first_of_two permitted (is_hole_due t) e,
                first_of_two t.congestion.is_recovering (is_hole_lost t.transmission)
                    (first_of_two (t.congestion.is_recovering && is_hole_lost t.transmission)
                    (nat_le (pipe t.transmission + t.transmission.mss) t.congestion.window) (last_of permitted (is_hole_due t) e)),
              ))
              (m && begins_recovery t) refl,
          h.1,
        )

    kept_acknowledgement : (d : Connection) → Base d → d.congestion ≡ c0.congestion → Kept (after_acknowledgement now a s p d)
    kept_acknowledgement d h same =
        let e = after_told a s p d (after_acked now a s p d) in
        kept_end (with_waiting now d.transmission (after_blocks s e))
        (kept_blocks e (base_told d (after_acked now a s p d) (base_acked d h same)) (comes_told d (after_acked now a s p d) (comes_acked d same)))

  kept_entering : (now : ℕ) (before : State) (d : Connection) → Kept d → Kept (after_entering now before d)
  kept_entering now before d h =
      either Kept (is_time_wait d.state && not (is_time_wait before)) (with_time_wait now d) d (λ _. h) (λ _. h)

  kept_last : (d : Connection) → Kept d → Kept (after_last d)
  kept_last d h = either Kept (is_closed d.state) (ended None d) d (λ _. kept_ended None d h) (λ _. h)

  module _ (now : ℕ) (keeps : Bool) (s : Segment) (p : Piece) where
    kept_octets : (d : Connection) → Kept d → Kept (after_octets_of now keeps p d)
    kept_octets d h =
        either Kept (not (takes_octets d.state && has_text p)) d
        (if keeps
        then record d { reception = reception_after now d.settings p d.reception }
        else with_owed AtOnce d) (λ _. h) (λ _.
        either Kept keeps (record d { reception = reception_after now d.settings p d.reception })
        (with_owed AtOnce d) (λ _. h) (λ _. h))

    kept_fin : (d : Connection) → Kept d → Kept (after_fin now d)
    kept_fin d h =
        let e : Connection = record (with_owed AtOnce d) { state = after_peers_end d.state } in
        either Kept (takes_octets d.state && has_ended d.reception.receiver) (after_entering now d.state e) d
        (λ _. kept_entering now d.state e h) (λ _. h)

    kept_position : (o : Option ℕ) (d : Connection) → Base d → d.congestion ≡ c0.congestion → Kept (after_position_acknowledged now keeps o s p d)
    kept_position None d h same = kept_unbelieved p d (weak d h)
    kept_position (Some a) d h same =
        let e = after_entering now d.state (after_acknowledgement now a s p d) in
        either Kept (is_believed a d.transmission) (after_text now keeps p (after_last e)) (after_unbelieved p d)
        (λ _. kept_fin (after_octets_of now keeps p (after_last e)) (kept_octets (after_last e)
        (kept_last e (kept_entering now d.state (after_acknowledgement now a s p d) (kept_acknowledgement now a s p d h same)))))
        (λ _. kept_unbelieved p d (weak d h))

    kept_field : (o : Option ℕ) (d : Connection) → Base d → d.congestion ≡ c0.congestion → Kept (after_ack_field now keeps o s p d)
    kept_field None d h same = weak d h
    kept_field (Some n) d h same =
        either Kept (not (is_syn_received d.state)) (after_position_acknowledged now keeps (acknowledged_in d n) s p d)
        (if n == number_at d.local 1 then after_position_acknowledged now keeps (Some 1) s p (established d) else with_pending (Reset n) d)
        (λ _. kept_position (acknowledged_in d n) d h same) (λ _.
        either Kept (n == number_at d.local 1) (after_position_acknowledged now keeps (Some 1) s p (established d))
        (with_pending (Reset n) d) (λ _. kept_position (Some 1) (established d) (base_established d h) same) (λ _. kept_number n d (weak d h)))

  kept_piece : (now : ℕ) (keeps : Bool) (s : Segment) (o : Option Piece) → Kept (after_piece_of now keeps o s c0)
  kept_piece now keeps s None = kept_unacceptable now s c0 kept_first
  kept_piece now keeps s (Some p) =
      either Kept s.rst (after_reset p c0) (after_ack_field now keeps s.ack s p (heard now c0)) (λ _. kept_reset p c0 kept_first)
      (λ _. kept_field now keeps s p s.ack (heard now c0) base_first refl)

  kept_arrival : (now : ℕ) (keeps : Bool) (s : Segment) → Kept (after_segment_arrives now keeps s c0)
  kept_arrival now keeps s =
      either Kept (s.syn && not s.rst)
      (after_syn_once_more s c0)
      (after_piece_of now keeps (acceptable_piece c0 s) s c0) (λ _.
      either Kept (is_own_syn_acknowledged s c0) (with_owed AtOnce (established c0))
      (if is_syn_again s c0 then with_pending SynAgain c0 else with_pending Challenge c0) (λ _. weak (with_owed AtOnce (established c0)) (base_established c0 base_first)) (λ _.
      either Kept (is_syn_again s c0) (with_pending SynAgain c0) (with_pending Challenge c0)
      (λ _. kept_syn_again c0 kept_first) (λ _. kept_challenge c0 kept_first))) (λ _. kept_piece now keeps s (acceptable_piece c0 s))

  module _ (default link now : ℕ) (s : Segment) where
    kept_syn : (b : Bool) → Kept (after_syn default link now b s c0)
    kept_syn true =
        weak (after_syn default link now true s c0) (base_established (with_syn default link s (heard now c0)) base_first)
    kept_syn false = weak (after_syn default link now false s c0) base_first

    kept_wrong : (o : Option ℕ) → Kept (after_wrong_ack o s c0)
    kept_wrong None = kept_first
    kept_wrong (Some n) = either Kept s.rst c0 (with_pending (Reset n) c0) (λ _. kept_first) (λ _. kept_number n c0 kept_first)

    kept_asking : Kept (after_arrival_in_syn_sent default link now s c0)
    kept_asking =
        either Kept (is_acknowledgement_of_syn s c0)
        (if s.rst then ended (Some Refused) c0 else if s.syn then after_syn default link now true s c0 else c0)
        (if is_some s.ack then after_wrong_ack s.ack s c0 else if s.syn && not s.rst then after_syn default link now false s c0 else c0) (λ _.
        either Kept s.rst (ended (Some Refused) c0) (if s.syn then after_syn default link now true s c0 else c0)
        (λ _. kept_ended (Some Refused) c0 kept_first) (λ _.
        either Kept s.syn (after_syn default link now true s c0) c0 (λ _. kept_syn true) (λ _. kept_first))) (λ _.
        either Kept (is_some s.ack) (after_wrong_ack s.ack s c0)
        (if s.syn && not s.rst then after_syn default link now false s c0 else c0) (λ _. kept_wrong s.ack) (λ _.
        either Kept (s.syn && not s.rst) (after_syn default link now false s c0) c0 (λ _. kept_syn false) (λ _. kept_first)))

  kept_in : (default link now : ℕ) (keeps : Bool) (s : Segment) (t : State) → Kept (after_arrival_in t default link now keeps s c0)
  kept_in default link now keeps s Closed = kept_first
  kept_in default link now keeps s Listen = kept_first
  kept_in default link now keeps s SynSent = kept_asking default link now s
  kept_in default link now keeps s SynReceived = kept_arrival now keeps s
  kept_in default link now keeps s Established = kept_arrival now keeps s
  kept_in default link now keeps s FinWait1 = kept_arrival now keeps s
  kept_in default link now keeps s FinWait2 = kept_arrival now keeps s
  kept_in default link now keeps s CloseWait = kept_arrival now keeps s
  kept_in default link now keeps s Closing = kept_arrival now keeps s
  kept_in default link now keeps s LastAck = kept_arrival now keeps s
  kept_in default link now keeps s TimeWait = kept_arrival now keeps s

-- timers
module _ (c0 : Connection) (now : ℕ) where
  abbrev Still : Connection → Type 0
  Still d = (d.pending ≡ Resend → c0.pending ≡ Resend) × (has_passed c0.timers.resend_at now ≡ false → d.transmission.nxt ≡ c0.transmission.nxt)

  still_ended : (why : Option Ending) (d : Connection) → Still d → Still (ended why d)
  still_ended why d h = (λ e. cc, h.1)

  still_aborted : (why : Ending) (d : Connection) → Still d → Still (aborted why d)
  still_aborted why d h =
      either Still (is_synchronized d.state || is_syn_received d.state)
      (record (ended (Some why) d) { pending = Reset (number_at d.local (empty_position d.transmission)) }) (ended (Some why) d)
      (λ _. (λ e. cc, h.1)) (λ _. still_ended (Some why) d h)

  still_probe : (d : Connection) → Still d → Still (with_pending Probe d)
  still_probe d h =
      either Still (nat_lt (rank d.pending) (rank Probe)) (record d { pending = Probe }) d (λ _. (λ e. cc, h.1)) (λ _. h)

  still_keep : (d : Connection) → Still d → Still (with_pending KeepAlive d)
  still_keep d h =
      either Still (nat_lt (rank d.pending) (rank KeepAlive)) (record d { pending = KeepAlive }) d (λ _. (λ e. cc, h.1)) (λ _. h)

  still_wait : (d : Connection) → Still d → Still (after_time_wait now d)
  still_wait d h = either Still (has_passed d.timers.ends_at now) (ended None d) d (λ _. still_ended None d h) (λ _. h)

  -- the time-out of a connection that is gone hasn't ended
  passed : (o p : Option ℕ) → ((o ≡ p) ⊎ (o ≡ None)) → not (has_passed o now) ≡ false → has_passed p now ≡ false → ⊥
  passed o p (inl e) f g = false_true (sym f ∙ ap (λ o. not (has_passed o now)) e ∙ ap not g)
  passed o p (inr e) f g = false_true (sym f ∙ ap (λ o. not (has_passed o now)) e)

  still_resend : (d : Connection) → Still d → ((d.timers.resend_at ≡ c0.timers.resend_at) ⊎ (d.timers.resend_at ≡ None)) →
      Still (after_resend_timer now d)
  still_resend d h same =
      either Still (not (has_passed d.timers.resend_at now)) d
      (if is_held_back d && not (is_opening d.state) then after_probe_time now d
      else if is_given_up d then aborted TimedOut d else after_loss_of_all d) (λ _. h) (λ f.
      either Still (is_held_back d && not (is_opening d.state)) (after_probe_time now d)
      (if is_given_up d then aborted TimedOut d else after_loss_of_all d) (λ _.
      either Still (is_unheard d) (aborted TimedOut d) (with_pending Probe (probing d))
      (λ _. still_aborted TimedOut d h) (λ _. still_probe (probing d) h)) (λ _.
      either Still (is_given_up d) (aborted TimedOut d) (after_loss_of_all d) (λ _. still_aborted TimedOut d h)
      (λ _. (h.0, λ g. absurd (passed d.timers.resend_at c0.timers.resend_at same f g)))))

  still_alive : (d : Connection) → Still d → Still (after_keep_alive now d)
  still_alive d h =
      either Still (not (has_passed (keep_alive_at d) now)) d
      (if nat_le most_probes d.timers.probes then aborted TimedOut d else with_pending KeepAlive (once_more now d)) (λ _. h) (λ _.
      either Still (nat_le most_probes d.timers.probes) (aborted TimedOut d) (with_pending KeepAlive (once_more now d))
      (λ _. still_aborted TimedOut d h) (λ _. still_keep (once_more now d) h))

  still_timer : (d : Connection) → Still d → Still (with_probe_timer now d)
  still_timer d h =
      either Still (is_none d.timers.resend_at && sends_octets d.state && is_held_back d)
      (record d { timers = record d.timers { resend_at = Some (later now d.estimator.timeout) } }) d (λ _. h) (λ _. h)

  abbrev Sameness : Connection → Type 0
  Sameness d = (d.timers.resend_at ≡ c0.timers.resend_at) ⊎ (d.timers.resend_at ≡ None)

  same_wait : Sameness (after_time_wait now c0)
  same_wait = either Sameness (has_passed c0.timers.ends_at now) (ended None c0) c0 (λ _. inr refl) (λ _. inl refl)

  same_timeout : (d : Connection) → Sameness d → Sameness (after_user_timeout now d)
  same_timeout d h =
      either Sameness (has_passed (gives_up_at d) now) (aborted TimedOut d) d (λ _.
      either Sameness (is_synchronized d.state || is_syn_received d.state)
      (record (ended (Some TimedOut) d) { pending = Reset (number_at d.local (empty_position d.transmission)) }) (ended (Some TimedOut) d)
      (λ _. inr refl) (λ _. inr refl)) (λ _. h)

  still_timeout : (d : Connection) → Still d → Still (after_user_timeout now d)
  still_timeout d h = either Still (has_passed (gives_up_at d) now) (aborted TimedOut d) d (λ _. still_aborted TimedOut d h) (λ _. h)

  still : Still (after_timers now c0)
  still =
      let z = after_time_wait now c0 in
      let a = after_user_timeout now z in
      let b = after_resend_timer now a in
      let w = still_wait c0 (λ e. e, λ _. refl) in
      still_timer (after_keep_alive now b) (still_alive b (still_resend a (still_timeout z w) (same_timeout z same_wait)))

less_passed : (b : Bool) (n m : ℕ) → (b ≡ false → n ≡ m) → n < m → b ≡ true
less_passed true n m h l = refl
less_passed false n m h l = let e = h refl in absurd (omega (arith, e, l))

-- what routers say
module _ (size : ℕ) (c : Connection) where
  abbrev told_of : Connection
  told_of = record c {
    transmission = record c.transmission {
      nxt = c.transmission.sender.una;
      mss = size_told size c.transmission.path;
      path = path_told size c.transmission.path;
    };
    timers = record c.timers { measured = None };
  }

  shortens : (after_too_long size c).transmission.nxt < c.transmission.nxt → (after_too_long size c).transmission.mss < c.transmission.mss
  shortens =
      either (λ d. d.transmission.nxt < c.transmission.nxt → d.transmission.mss < c.transmission.mss) (is_too_long size c) told_of c
      (λ e _. is_lt (size_told size c.transmission.path) c.transmission.mss (last_of (sends_octets c.state) (nat_lt (size_told size c.transmission.path) c.transmission.mss) e))
      (λ _ l. absurd (omega (arith, l)))

  owes_told : (after_too_long size c).pending ≡ Resend → c.pending ≡ Resend
  owes_told = either (λ d. d.pending ≡ Resend → c.pending ≡ Resend) (is_too_long size c) told_of c (λ _ e. e) (λ _ e. e)

pub retransmissions_wait : RetransmissionsWait
retransmissions_wait = record {
  sent = λ now c p e. owes now c p e;
  arrivals = λ default link now keeps s c. kept_in c default link now keeps s c.state;
  timers = λ now c e. (still c now).0 e;
  back = λ now c l. less_passed (has_passed c.timers.resend_at now) (after_timers now c).transmission.nxt c.transmission.nxt (still c now).1 l;
  shorter = λ size c. shortens size c;
  told = λ size c. owes_told size c;
}
