-- The reset that answers a segment has the numbers that the segment's octets ask for.
use Rattle.std.proofs.Common.{◌≡◌, ◌≢◌, ℕ, ◌/◌, ◌%◌, Bool, true, false, List, length, refl, subst, Option, Some, None, arith}
use Rattle.std.specs.Prelude.{◌<◌, ◌==◌, slice_index, if◌then◌else◌}
use Rattle.std.proofs.lemmas.Bool.Decides.{Decides-eqb, nat_tests}
use Rattle.ip_wire.specs.Octets.{u32_at}
use Rattle.ip_address.specs.declared.ip.IpAddress.{IpAddress}
use Rattle.ip_wire.specs.declared.tcp.TcpControl.{TcpControl}
use Rattle.ip_wire.specs.declared.tcp.TcpControl.TheVariants as control
use Rattle.ip_wire.specs.declared.tcp.TcpRepr.{TcpRepr}
use Rattle.ip_wire.specs.declared.tcp.TcpSeqNumber.{TcpSeqNumber}
use Rattle.ip_wire.specs.Tcp.{IsControl, IsTcp, control_of, ack, fin, rst, syn, tcp_in}
use Rattle.sockets.specs.Tcp.{answer_of, reset_ack, reset_of}
use Rattle.host_laws.specs.Laws.Restraint.ResetNumbers.{HasResetNumbers, IsResetFor, AtAcknowledged, OfSyn, OfNeither}

-- what answers a segment is its reset
pub answer_is : (c : TcpControl) (t : TcpRepr) (len : ℕ) (x : TcpRepr) → answer_of c t len ≡ Some x → reset_of t len ≡ x
answer_is control.Rst t len x e = absurd cc
answer_is control.None t len x e = cc
answer_is control.Psh t len x e = cc
answer_is control.Syn t len x e = cc
answer_is control.Fin t len x e = cc

pub is_answered : (c : TcpControl) (t : TcpRepr) (len : ℕ) → c ≢ control.Rst → answer_of c t len ≡ Some (reset_of t len)
is_answered control.Rst t len other = absurd (other refl)
is_answered control.None t len other = refl
is_answered control.Psh t len other = refl
is_answered control.Syn t len other = refl
is_answered control.Fin t len other = refl

-- flags
pub no_reset_by : (flags : ℕ) → rst flags ≡ 0 → control_of flags ≢ control.Rst
unfolding control_of
no_reset_by flags off = by (fin flags == 1) (syn flags == 1) (rst flags == 1) refl where
  by : (f s r : Bool) → (rst flags == 1) ≡ r →
      (if f then control.Fin else if s then control.Syn else if r then control.Rst
      else if flags / 8 % 2 == 1 then control.Psh else control.None) ≢ control.Rst
  by true s r z = λ e. absurd cc
  by false true r z = λ e. absurd cc
  by false false true z = λ e. let one = (Decides-eqb (rst flags) 1).0 z in absurd (omega (arith, one, off))
  by false false false z = last (flags / 8 % 2 == 1) where
    last : (p : Bool) → (if p then control.Psh else control.None) ≢ control.Rst
    last true = λ e. absurd cc
    last false = λ e. absurd cc

syn_by : (flags : ℕ) → IsControl flags → syn flags ≡ 1 → control_of flags ≡ control.Syn
unfolding control_of
syn_by flags few on = by (fin flags == 1) (syn flags == 1) refl refl where
  by : (f s : Bool) → (fin flags == 1) ≡ f → (syn flags == 1) ≡ s →
      (if f then control.Fin else if s then control.Syn else if rst flags == 1 then control.Rst
      else if flags / 8 % 2 == 1 then control.Psh else control.None) ≡ control.Syn
  by true s x y = let one = (Decides-eqb (fin flags) 1).0 x in absurd (omega (arith, one, on, few))
  by false true x y = refl
  by false false x y = let one : (syn flags == 1) ≡ true = (Decides-eqb (syn flags) 1).1 on in absurd cc

no_syn_by : (flags : ℕ) → syn flags ≡ 0 → control_of flags ≢ control.Syn
unfolding control_of
no_syn_by flags off = by (fin flags == 1) (syn flags == 1) refl where
  by : (f s : Bool) → (syn flags == 1) ≡ s →
      (if f then control.Fin else if s then control.Syn else if rst flags == 1 then control.Rst
      else if flags / 8 % 2 == 1 then control.Psh else control.None) ≢ control.Syn
  by true s y = λ e. absurd cc
  by false true y = let one = (Decides-eqb (syn flags) 1).0 y in absurd (omega (arith, one, off))
  by false false y = more (rst flags == 1) (flags / 8 % 2 == 1) where
    more : (r p : Bool) → (if r then control.Rst else if p then control.Psh else control.None) ≢ control.Syn
    more true p = λ e. absurd cc
    more false true = λ e. absurd cc
    more false false = λ e. absurd cc

-- what it acknowledges
acknowledged : (c : TcpControl) (n seq : TcpSeqNumber) (len : ℕ) → reset_ack c (Some n) seq len ≡ None
acknowledged control.Syn n seq len = refl
acknowledged control.None n seq len = refl
acknowledged control.Psh n seq len = refl
acknowledged control.Fin n seq len = refl
acknowledged control.Rst n seq len = refl

unacknowledged : (c : TcpControl) (seq : TcpSeqNumber) (len : ℕ) → c ≢ control.Syn → reset_ack c None seq len ≡ None
unacknowledged control.Syn seq len other = absurd (other refl)
unacknowledged control.None seq len other = refl
unacknowledged control.Psh seq len other = refl
unacknowledged control.Fin seq len other = refl
unacknowledged control.Rst seq len other = refl

bit : (n : ℕ) → (n % 2 == 1) ≡ false → n % 2 ≡ 0
bit n e = let small : n % 2 < 2 = omega arith in grind (arith, nat_tests)

-- the reset of a segment, by the two flags that count
module _ (segment : List ℕ) (few : IsControl (slice_index segment 13)) where
  abbrev flags : ℕ
  flags = slice_index segment 13

  abbrev the_reset : TcpRepr
  the_reset = reset_of (tcp_in segment).0 (length (tcp_in segment).1)

  pub numbers_of : HasResetNumbers segment the_reset
  numbers_of = by (ack flags == 1) refl where
    number_if : Bool → Option TcpSeqNumber
    number_if a = if a then Some (record { bits = u32_at segment 8 }) else None

    by_syn : (s : Bool) → (syn flags == 1) ≡ s → (ack flags == 1) ≡ false → HasResetNumbers segment the_reset
    by_syn true y x =
        OfSyn (bit (flags / 16) x) ((Decides-eqb (syn flags) 1).0 y) (rw x refl)
        (rw (x, syn_by flags few ((Decides-eqb (syn flags) 1).0 y)) refl)
    by_syn false y x =
        OfNeither (bit (flags / 16) x) (bit (flags / 2) y) (rw x refl)
        (rw x (unacknowledged (control_of flags) (record { bits = u32_at segment 4 }) (length (tcp_in segment).1) (no_syn_by flags (bit (flags / 2) y))))

    by : (a : Bool) → (ack flags == 1) ≡ a → HasResetNumbers segment the_reset
    by true x =
        AtAcknowledged ((Decides-eqb (ack flags) 1).0 x) (rw x refl)
        (rw x (acknowledged (control_of flags) (record { bits = u32_at segment 8 }) (record { bits = u32_at segment 4 }) (length (tcp_in segment).1)))
    by false x = by_syn (syn flags == 1) refl x

  pub reset_is : IsResetFor segment the_reset
  reset_is = record { from_port = refl; to_port = refl; is_reset = refl; numbers = numbers_of; window = refl }

-- whatever answers a segment
pub answer_for : {checked : Bool} {src dst : IpAddress} {segment : List ℕ} → IsTcp checked src dst segment → (x : TcpRepr) →
    answer_of (tcp_in segment).0.control (tcp_in segment).0 (length (tcp_in segment).1) ≡ Some x → IsResetFor segment x
answer_for {segment = segment} i x is = subst (IsResetFor segment) (answer_is _ _ _ x is) (reset_is segment i.flags)
