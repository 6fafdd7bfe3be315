use Rattle.std.proofs.Common.{◌≡◌, drop}
use Rattle.tcp_host.specs.SipHash.{after_words, first_state}
use Rattle.tcp_host.proofs.sip_hash.sip_hash.Given as goal

abbrev pub invariant-loop-word : goal.invariant-loop-word
invariant-loop-word l = after_words (drop l.word-index l.words) l.state ≡ after_words l.words (first_state l.key)
