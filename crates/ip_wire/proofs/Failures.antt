-- What becomes of a packet, option by option.
use Rattle.std.proofs.Common.{◌≡◌, ℕ, ◌+◌, ◌<◌, ◌≤◌, List, length, get_or, drop, refl, ap, ◌∙◌, add-one}
use Rattle.std.proofs.Math.Seq.{drop-cons}
use Rattle.std.proofs.Math.ListN.{drop_of_length-le}
use Rattle.ip_wire.specs.declared.hop_by_hop.Ipv6OptionFailureType.{Ipv6OptionFailureType}
use Rattle.ip_wire.specs.declared.hop_by_hop.Ipv6OptionFailureType.TheVariants.{Skip, Discard, DiscardSendAll, DiscardSendUnicast}
use Rattle.ip_wire.specs.declared.hop_by_hop.Ipv6OptionRepr.{Ipv6OptionRepr}
use Rattle.ip_wire.specs.HopByHop.{failure_of, or_else, first_failure}

first_failure-drop : (options : List Ipv6OptionRepr) (i : ℕ) (d : Ipv6OptionRepr) →
    i < length options → first_failure (drop i options) ≡ or_else (failure_of (get_or options i d)) (first_failure (drop (i + 1) options))
unfolding first_failure
first_failure-drop options i d lt = rw (add-one, drop-cons options i d lt) refl

or_else-asked : (f later : Ipv6OptionFailureType) → (f ≡ Skip → ⊥) → or_else f later ≡ f
or_else-asked Skip later asked = absurd (asked refl)
or_else-asked Discard later asked = refl
or_else-asked DiscardSendAll later asked = refl
or_else-asked DiscardSendUnicast later asked = refl

-- an option that is skipped leaves it to those behind it
pub skipped : (options : List Ipv6OptionRepr) (i : ℕ) (d : Ipv6OptionRepr) →
    i < length options → failure_of (get_or options i d) ≡ Skip → first_failure (drop i options) ≡ first_failure (drop (i + 1) options)
skipped options i d lt skip = first_failure-drop options i d lt
    ∙ ap (λ (f : Ipv6OptionFailureType). or_else f (first_failure (drop (i + 1) options))) skip

-- another one decides
pub decided : (options : List Ipv6OptionRepr) (i : ℕ) (d : Ipv6OptionRepr) →
    i < length options → (failure_of (get_or options i d) ≡ Skip → ⊥) → first_failure (drop i options) ≡ failure_of (get_or options i d)
decided options i d lt asked = first_failure-drop options i d lt
    ∙ or_else-asked (failure_of (get_or options i d)) (first_failure (drop (i + 1) options)) asked

-- where none is left, all are skipped
pub all_skipped : (options : List Ipv6OptionRepr) (i : ℕ) → length options ≤ i → first_failure (drop i options) ≡ Skip
unfolding first_failure
all_skipped options i past = rw (drop_of_length-le options past) refl
