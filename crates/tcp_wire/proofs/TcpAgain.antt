-- A segment is read as it was written.
use Rattle.std.proofs.Common.{◌≡◌, ℕ, ◌+◌, ◌-◌, ◌*◌, ◌/◌, ◌<◌, ◌^◌, Bool, true, false, List, [], ◌++◌, length, take, drop, get_or}
use Rattle.std.proofs.Common.{refl, sym, ap, subst, ◌∙◌, length-append, arith}
use Rattle.std.proofs.lemmas.List.{drop_at, take_at}
use Rattle.ip_address.specs.declared.ip.IpAddress.{IpAddress}
use Rattle.ip_wire.specs.Checksum.{folded_sum, word_sum}
use Rattle.ip_wire.specs.Octets.{u16_at}
use Rattle.ip_wire.specs.Pseudo.{pseudo}
use Rattle.ip_wire.proofs.Pseudos.{header_words}
use Rattle.ip_wire.proofs.Sums.{summed_up, word_sum-append}
use Rattle.ip_wire.specs.Tcp.{header_in, header_len, IsControl, IsHeader, IsTcp}
use Rattle.ip_wire.specs.Tcp as words
use Rattle.ip_wire.proofs.Ipv4Again.{total}
use Rattle.ip_wire.proofs.TcpAgain as words_again
use Rattle.ip_wire.specs.declared.tcp.TcpRepr.{TcpRepr as Words}
use Rattle.tcp_wire.specs.declared.tcp.TcpRepr.{TcpRepr}
use Rattle.tcp_wire.specs.declared.options.TcpOptions.{TcpOptions}
use Rattle.tcp_wire.specs.Options.{options_text, options_in}
use Rattle.tcp_wire.specs.Tcp.{with_options, words_of, words_text, header_with, text_len, text, tcp_in, options_part, ReadAgain}
use Rattle.tcp_wire.proofs.Lengths.{options_words}
use Rattle.tcp_wire.proofs.OptionsAgain.{options_again}
use Rattle.tcp_wire.proofs.Sums.{length-words_text}

-- a header's checksum is one of its words
place : (c : ℕ) (r : TcpRepr) → c < 2 ^ 16 → word_sum (words_text c r) ≡ word_sum (words_text 0 r) + c
unfolding words_text word_sum
place c r lt = omega (arith, total c lt)

length-header : (c : ℕ) (r : TcpRepr) → length (header_with c r) ≡ text_len r
length-header c r =
    let ten = length-words_text c r in
    omega (arith, ten, length-append (words_text c r) (options_text r.options))

sums : (src dst : IpAddress) (r : TcpRepr) (payload : List ℕ) →
    folded_sum (word_sum (pseudo src dst 6 (text_len r + length payload) ++ text true src dst r payload)) ≡ 65535
sums src dst r payload =
    let n : ℕ = text_len r + length payload in
    let half : ℕ = text_len r / 2 in
    let words = options_words r.options in
    let even : text_len r ≡ 2 * half = omega (arith, words.1) in
    let before = word_sum (pseudo src dst 6 n ++ (header_with 0 r ++ payload)) in
    let c : ℕ = 65535 - folded_sum before in
    let one = header_words src dst 6 n half (header_with 0 r) payload (length-header 0 r ∙ even) in
    let two = header_words src dst 6 n half (header_with c r) payload (length-header c r ∙ even) in
    let three = place c r (omega arith) in
    let four = word_sum-append (words_text 0 r) (options_text r.options) 10 (length-words_text 0 r) in
    let five = word_sum-append (words_text c r) (options_text r.options) 10 (length-words_text c r) in
    let all : word_sum (pseudo src dst 6 n ++ (header_with c r ++ payload)) ≡ before + c = omega (arith, one, two, three, four, five) in
    ap folded_sum all ∙ summed_up before c refl

-- where the options are
offset : (c : ℕ) (r : TcpRepr) (payload : List ℕ) → get_or (header_with c r ++ payload) 12 0 ≡ text_len r / 4 * 16
unfolding words_text
offset c r payload = refl

behind : (c : ℕ) (r : TcpRepr) (payload : List ℕ) → drop 20 (header_with c r ++ payload) ≡ options_text r.options ++ payload
unfolding words_text
behind c r payload = refl

-- the first five words are as they are without options
abbrev plain : IpAddress → IpAddress → TcpRepr → List ℕ
plain src dst r = words.text true src dst (words_of r) []

values : (src dst : IpAddress) (r : TcpRepr) (payload : List ℕ) → header_in (text true src dst r payload) ≡ header_in (plain src dst r)
unfolding words_text words.header_with
values src dst r payload = refl

ports : (src dst : IpAddress) (r : TcpRepr) (payload : List ℕ) → (u16_at (text true src dst r payload) 0 ≡ u16_at (plain src dst r) 0)
    × (u16_at (text true src dst r payload) 2 ≡ u16_at (plain src dst r) 2)
unfolding words_text words.header_with
ports src dst r payload = (refl, refl)

flags : (src dst : IpAddress) (r : TcpRepr) (payload : List ℕ) → get_or (text true src dst r payload) 13 0 ≡ get_or (plain src dst r) 13 0
unfolding words_text words.header_with
flags src dst r payload = refl

made : (r : TcpRepr) (w : Words) (octets rest payload : List ℕ) → w ≡ words_of r → options_in octets ≡ r.options → rest ≡ payload
    → ◌≡◌ {A = TcpRepr × List ℕ} (with_options w (options_in octets), rest) (r, payload)
made r w octets rest payload ew eo er = rw (ew, eo, er) refl

-- what is known of a text: its length, that of its header, its options and its payload
record Parts (octets : List ℕ) (r : TcpRepr) (payload : List ℕ) : Type 0 where
  pub len : length octets ≡ text_len r + length payload
  pub header : header_len octets ≡ text_len r
  pub options : options_part octets ≡ options_text r.options
  pub rest : drop (header_len octets) octets ≡ payload

parts_of : (c : ℕ) (r : TcpRepr) (payload : List ℕ) → Parts (header_with c r ++ payload) r payload
parts_of c r payload =
    let octets = header_with c r ++ payload in
    let words = options_words r.options in
    let whole = length-header c r in
    let header : header_len octets ≡ text_len r = ap (λ (k : ℕ). k / 16 * 4) (offset c r payload) ∙ omega (arith, words.1) in
    let behind_words : options_part octets ≡ take (header_len octets - 20) (options_text r.options ++ payload)
    = ap (λ (xs : List ℕ). take (header_len octets - 20) xs) (behind c r payload) in
    record {
      len = omega (arith, whole, length-append (header_with c r) payload);
      header = header;
      options = behind_words ∙ take_at (options_text r.options) payload (header_len octets - 20) (omega (arith, header));
      rest = drop_at (header_with c r) payload (header_len octets) (whole ∙ sym header);
    }

sum_of_all : (src dst : IpAddress) (r : TcpRepr) (payload : List ℕ) (n : ℕ) → n ≡ text_len r + length payload
    → folded_sum (word_sum (pseudo src dst 6 n ++ text true src dst r payload)) ≡ 65535
sum_of_all src dst r payload n e =
    ap (λ (k : ℕ). folded_sum (word_sum (pseudo src dst 6 k ++ text true src dst r payload))) e ∙ sums src dst r payload

-- it is a segment, whatever its options are
is_segment : (checked : Bool) (src dst : IpAddress) (r : TcpRepr) (payload : List ℕ) → IsHeader (words_of r) → text_len r + length payload < 2 ^ 16
    → IsTcp checked src dst (text true src dst r payload)
is_segment checked src dst r payload h fits =
    let octets = text true src dst r payload in
    let p = parts_of (65535 - folded_sum (word_sum (pseudo src dst 6 (text_len r + length payload) ++ (header_with 0 r ++ payload)))) r payload in
    let w = words_again.read_again checked src dst (words_of r) [] h (omega arith) in
    let port = ports src dst r payload in
    let len = p.len in
    let header = p.header in record {
      whole = omega (arith, len);
      header = omega (arith, header);
      header_fits = omega (arith, len, header);
      source = λ e. w.0.source (sym port.0 ∙ e);
      destination = λ e. w.0.destination (sym port.1 ∙ e);
      flags = subst IsControl (sym (flags src dst r payload)) w.0.flags;
      sum = λ yes. sum_of_all src dst r payload (length octets) len;
    }

words_read : (src dst : IpAddress) (r : TcpRepr) (payload : List ℕ) → IsHeader (words_of r) → header_in (text true src dst r payload) ≡ words_of r
words_read src dst r payload h =
    values src dst r payload ∙ ap (λ (q : Words × List ℕ). q.0) (words_again.read_again false src dst (words_of r) [] h (omega arith)).1

pub read_again : ReadAgain
read_again checked src dst r payload h options fits =
    let octets = text true src dst r payload in
    let p = parts_of (65535 - folded_sum (word_sum (pseudo src dst 6 (text_len r + length payload) ++ (header_with 0 r ++ payload)))) r payload in (
      is_segment checked src dst r payload h fits,
      made r (header_in octets) (options_part octets) (drop (header_len octets) octets) payload
          (words_read src dst r payload h)
          (ap options_in p.options ∙ options_again r.options options)
          p.rest,
    )

-- a text whose options may be any is read as its values, but for these
pub record IsReadButOptions (checked : Bool) (src dst : IpAddress) (r : TcpRepr) (payload : List ℕ) : Type 0 where
  pub segment : IsTcp checked src dst (text true src dst r payload)
  pub options : TcpOptions
  pub values : tcp_in (text true src dst r payload) ≡ (record r { options = options }, payload)

made_but_options : (r : TcpRepr) (w : Words) (options : TcpOptions) (rest payload : List ℕ) → w ≡ words_of r → rest ≡ payload
    → ◌≡◌ {A = TcpRepr × List ℕ} (with_options w options, rest) (record r { options = options }, payload)
made_but_options r w options rest payload ew er = rw (ew, er) refl

pub read_but_options : (checked : Bool) (src dst : IpAddress) (r : TcpRepr) (payload : List ℕ) → IsHeader (words_of r)
    → text_len r + length payload < 2 ^ 16 → IsReadButOptions checked src dst r payload
read_but_options checked src dst r payload h fits =
    let octets = text true src dst r payload in
    let p = parts_of (65535 - folded_sum (word_sum (pseudo src dst 6 (text_len r + length payload) ++ (header_with 0 r ++ payload)))) r payload in
    record {
      segment = is_segment checked src dst r payload h fits;
      options = options_in (options_part octets);
      values = made_but_options r (header_in octets) (options_in (options_part octets)) (drop (header_len octets) octets) payload
          (words_read src dst r payload h) p.rest;
    }
