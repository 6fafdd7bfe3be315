-- The records of an answer are read one after another.
use Rattle.std.proofs.Common.{◌≡◌, ℕ, zero, suc, ◌-◌, ◌<◌, true, false, List, refl, arith}
use Rattle.std.proofs.Common.{Some, None}
use Rattle.dns_client.specs.declared.message.DnsType.{DnsType}
use Rattle.dns_client.specs.Record.{is_record, record_in}
use Rattle.dns_client.specs.declared.found.Found.{Found}
use Rattle.dns_client.specs.Found.{found_from, after_record}

pub next : (left rest at end : ℕ) (t : DnsType) (octets : List ℕ) (f g : Found) → 0 < left → is_record octets at ≡ true → rest ≡ left - 1 →
    end ≡ (record_in octets at).end → g ≡ after_record t octets at f → found_from rest t octets end g ≡ found_from left t octets at f
unfolding found_from
next zero rest at end t octets f g some h er ee eg = absurd (omega (arith, some))
next (suc n) rest at end t octets f g some h er ee eg =
    let is : rest ≡ n = omega (arith, er) in rw (is, ee, eg, h) refl

pub not_whole : (left at : ℕ) (t : DnsType) (octets : List ℕ) (f : Found) → 0 < left → is_record octets at ≡ false →
    found_from left t octets at f ≡ None
unfolding found_from
not_whole zero at t octets f some h = absurd (omega (arith, some))
not_whole (suc n) at t octets f some h = rw h refl

pub all_read : (left at : ℕ) (t : DnsType) (octets : List ℕ) (f : Found) → left ≡ 0 → found_from left t octets at f ≡ Some f
unfolding found_from
all_read left at t octets f e = rw e refl
