-- SipHash-2-4 (Aumasson, Bernstein: SipHash, 2012), of a message that is taken by words of eight octets, the lowest first.
use Rattle.std.specs.Prelude.{ℕ, ◌+◌, ◌%◌, ◌^◌, List, [], ◌∷◌, bit_xor}
use Rattle.std.specs.Int.{w64, rotate_left}
use Rattle.tcp_host.specs.declared.sip_hash.SipKey.{SipKey}
use Rattle.tcp_host.specs.declared.sip_hash.State.{State}

abbrev pub plus : ℕ → ℕ → ℕ
plus a b = (a + b) % 2 ^ 64

-- the two halves of SipRound (2.2)
abbrev pub mixed : State → State
mixed s =
    let a = plus s.v0 s.v1 in
    let c = plus s.v2 s.v3 in
    record {
      v0 = rotate_left w64 a 32;
      v1 = bit_xor (rotate_left w64 s.v1 13) a;
      v2 = c;
      v3 = bit_xor (rotate_left w64 s.v3 16) c;
    }

abbrev pub crossed : State → State
crossed s =
    let a = plus s.v0 s.v3 in
    let c = plus s.v2 s.v1 in
    record {
      v0 = a;
      v1 = bit_xor (rotate_left w64 s.v1 17) c;
      v2 = rotate_left w64 c 32;
      v3 = bit_xor (rotate_left w64 s.v3 21) a;
    }

abbrev pub after_round : State → State
after_round s = crossed (mixed s)

-- a word is taken by two rounds (2.2)
abbrev pub after_rounds : State → State
after_rounds s = after_round (after_round s)

abbrev pub with_word : ℕ → State → State
with_word word s = record s { v0 = bit_xor s.v0 word }

unfoldable pub after_word : ℕ → State → State
after_word word s = with_word word (after_rounds (record s { v3 = bit_xor s.v3 word }))

unfoldable pub after_words : List ℕ → State → State
after_words [] s = s
after_words (word ∷ words) s = after_words words (after_word word s)

-- the key, and the four words of 2.1
abbrev pub first_state : SipKey → State
first_state k = record {
  v0 = bit_xor k.k0 8317987319222330741;
  v1 = bit_xor k.k1 7237128888997146477;
  v2 = bit_xor k.k0 7816392313619706465;
  v3 = bit_xor k.k1 8387220255154660723;
}

-- four rounds more, and the four words in one (2.3)
unfoldable pub closed : State → ℕ
closed s =
    let last = after_rounds (after_rounds (record s { v2 = bit_xor s.v2 255 })) in
    bit_xor (bit_xor last.v0 last.v1) (bit_xor last.v2 last.v3)

-- the words end with that which holds the length in its highest octet
unfoldable pub sip_hash : SipKey → List ℕ → ℕ
sip_hash key words = closed (after_words words (first_state key))
