-- Words that are taken one after another.
use Rattle.std.proofs.Common.{◌≡◌, ◌+◌, ◌<◌, ◌≤◌, ℕ, List, length, drop, refl, add-one, drop-cons}
use Rattle.std.specs.Prelude.{get_or}
use Rattle.std.proofs.lemmas.List.{drop_all}
use Rattle.tcp_host.specs.SipHash.{after_word, after_words}
use Rattle.tcp_host.specs.declared.sip_hash.State.{State}

pub one_more : (words : List ℕ) (i : ℕ) (s : State) → i < length words →
    after_words (drop i words) s ≡ after_words (drop (i + 1) words) (after_word (get_or words i 0) s)
unfolding after_words
one_more words i s l = rw (add-one, drop-cons words i 0) refl

pub no_more : (words : List ℕ) (i : ℕ) (s : State) → length words ≤ i → after_words (drop i words) s ≡ s
unfolding after_words
no_more words i s l = rw drop_all refl
