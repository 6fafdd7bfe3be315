-- A segment is read as it was written.
use Rattle.std.proofs.Common.{◌≡◌, ℕ, ◌+◌, ◌-◌, ◌<◌, ◌^◌, true, cond, eqb, List, ◌++◌, length, refl, sym, ap, ◌∙◌, arith}
use Rattle.std.specs.Prelude.{Option, Some, None}
use Rattle.std.proofs.lemmas.Nat.{from_be_bytes-to_be_bytes_4}
use Rattle.ip_wire.specs.Checksum.{folded_sum, word_sum}
use Rattle.ip_wire.specs.Octets.{u16_at}
use Rattle.ip_wire.specs.Pseudo.{pseudo}
use Rattle.ip_address.specs.declared.ip.IpAddress.{IpAddress}
use Rattle.ip_wire.specs.declared.tcp.TcpControl.{TcpControl}
use Rattle.ip_wire.specs.declared.tcp.TcpControl.TheVariants as control
use Rattle.ip_wire.specs.declared.tcp.TcpSeqNumber.{TcpSeqNumber}
use Rattle.ip_wire.specs.declared.tcp.TcpRepr.{TcpRepr}
use Rattle.ip_wire.specs.Tcp.{ack, IsControl, control_of, flags_of, ack_flag, ack_bits, header_with, text, ReadAgain}
use Rattle.ip_wire.proofs.Sums.{summed_up}
use Rattle.ip_wire.proofs.Pseudos.{header_words}
use Rattle.ip_wire.proofs.Ipv4Again.{total}

-- a header's checksum is one of its words
place : (c : ℕ) (r : TcpRepr) → c < 2 ^ 16 → word_sum (header_with c r) ≡ word_sum (header_with 0 r) + c
unfolding header_with word_sum
place c r lt = omega (arith, total c lt)

sums : (src dst : IpAddress) (r : TcpRepr) (payload : List ℕ) →
    folded_sum (word_sum (pseudo src dst 6 (20 + length payload) ++ text true src dst r payload)) ≡ 65535
unfolding header_with
sums src dst r payload =
    let n : ℕ = 20 + length payload in
    let before = word_sum (pseudo src dst 6 n ++ (header_with 0 r ++ payload)) in
    let c : ℕ = 65535 - folded_sum before in
    let one = header_words src dst 6 n 10 (header_with 0 r) payload refl in
    let two = header_words src dst 6 n 10 (header_with c r) payload refl in
    let three = place c r (omega arith) in
    let all : word_sum (pseudo src dst 6 n ++ (header_with c r ++ payload)) ≡ before + c = omega (arith, one, two, three) in
    ap folded_sum all ∙ summed_up before c refl

-- what the flags say, with ACK or without
control_again : (c : TcpControl) (a : Option TcpSeqNumber) → (control_of (flags_of c + ack_flag a) ≡ c) × IsControl (flags_of c + ack_flag a)
unfolding control_of
control_again control.None None = (refl, omega arith)
control_again control.None (Some n) = (refl, omega arith)
control_again control.Psh None = (refl, omega arith)
control_again control.Psh (Some n) = (refl, omega arith)
control_again control.Syn None = (refl, omega arith)
control_again control.Syn (Some n) = (refl, omega arith)
control_again control.Fin None = (refl, omega arith)
control_again control.Fin (Some n) = (refl, omega arith)
control_again control.Rst None = (refl, omega arith)
control_again control.Rst (Some n) = (refl, omega arith)

ack_bit : (c : TcpControl) → (ack (flags_of c + 0) ≡ 0) × (ack (flags_of c + 0x10) ≡ 1)
ack_bit control.None = (refl, refl)
ack_bit control.Psh = (refl, refl)
ack_bit control.Syn = (refl, refl)
ack_bit control.Fin = (refl, refl)
ack_bit control.Rst = (refl, refl)

ack_again : (c : TcpControl) (a : Option TcpSeqNumber) (n : ℕ) →
    n ≡ ack_bits a → cond (eqb (ack (flags_of c + ack_flag a)) 1) (Some (record { bits = n })) None ≡ a
ack_again c None n e = let b = (ack_bit c).0 in rw b refl
ack_again c (Some m) n e = let b = (ack_bit c).1 in rw (b, e) refl

made : (r : TcpRepr) (s d q w : ℕ) (c : TcpControl) (a : Option TcpSeqNumber) (payload : List ℕ) →
    s ≡ r.src_port → d ≡ r.dst_port → c ≡ r.control → q ≡ r.seq_number.bits → a ≡ r.ack_number → w ≡ r.window_len
    → ◌≡◌ {A = TcpRepr × List ℕ}
    (record { src_port = s; dst_port = d; control = c; seq_number = record { bits = q }; ack_number = a; window_len = w }, payload) (r, payload)
made r s d q w c a payload es ed ec eq ea ew = rw (es, ed, ec, eq, ea, ew) refl

pub read_again : ReadAgain
unfolding header_with
read_again checked src dst r payload h len =
    let octets = text true src dst r payload in
    let source : u16_at octets 0 ≡ r.src_port = total r.src_port h.source in
    let destination : u16_at octets 2 ≡ r.dst_port = total r.dst_port h.destination in
    let n : length octets ≡ 20 + length payload = omega arith in
    let flags = control_again r.control r.ack_number in (
      record {
        whole = omega arith;
        header = omega arith;
        header_fits = omega arith;
        source = λ e. h.some_source (sym source ∙ e);
        destination = λ e. h.some_destination (sym destination ∙ e);
        flags = flags.1;
        sum = λ yes. ap (λ (k : ℕ). folded_sum (word_sum (pseudo src dst 6 k ++ text true src dst r payload))) n ∙ sums src dst r payload;
      },
      made r _ _ _ _ _ _ payload source destination flags.0
          (from_be_bytes-to_be_bytes_4 r.seq_number.bits h.sequence)
          (ack_again r.control r.ack_number _ (from_be_bytes-to_be_bytes_4 (ack_bits r.ack_number) h.acknowledgement))
          (total r.window_len h.window),
    )
