-- A lease that has ended is given up.
use Rattle.std.proofs.Common.{◌≡◌, ℕ, ◌<◌, ◌≤◌, Bool, true, false, cond, refl, sym, ap, subst, ◌∙◌, arith}
use Rattle.std.specs.Prelude.{Option, Some, None, if◌then◌else◌}
use Rattle.std.proofs.lemmas.Bool.Decides.{nat_tests}
use Rattle.dhcp_client.specs.declared.client.DhcpClient.{DhcpClient}
use Rattle.dhcp_client.specs.declared.client.DhcpPhase.{DhcpPhase}
use Rattle.dhcp_client.specs.declared.client.DhcpPhase.TheVariants.{Discovering, Requesting, Rebooting, Bound}
use Rattle.dhcp_client.specs.declared.lease.DhcpLease.{DhcpLease}
use Rattle.dhcp_client.specs.declared.lease.LeaseTimes.{LeaseTimes}
use Rattle.dhcp_client.specs.Lease.{are_over, has_ended}
use Rattle.dhcp_client.specs.Client.{lease, lease_in, must_give_up, must_give_up_in, after_giving_up, after_restart, is_to_send}
use Rattle.dhcp_client.specs.Messages.{after_asking, after_sending, numbered}
use Rattle.dhcp_client.specs.Laws.{IsBefore, LeasesEnd}

times : (now : ℕ) (t : Option LeaseTimes) → are_over now t ≡ false → IsBefore now t
times now None h = tt
times now (Some t) h = grind (arith, nat_tests, h)

abbrev got : DhcpLease → Option DhcpLease → DhcpLease
got d None = d
got d (Some l) = l

in_phase : (now : ℕ) (c : DhcpClient) (l : DhcpLease) (p : DhcpPhase) → must_give_up_in p now c ≡ false → lease_in p ≡ Some l → IsBefore now l.times
in_phase now c l Discovering h e = absurd (cc)
in_phase now c l (Requesting address server) h e = absurd (cc)
in_phase now c l (Rebooting address) h e = absurd (cc)
in_phase now c l (Bound m) h e =
    let is : m ≡ l = ap (got m) e in
    subst (λ (x : DhcpLease). IsBefore now x.times) is (times now m.times h)

-- sending changes no lease
pub same_lease : (t : Bool) (now random : ℕ) (d : DhcpClient) →
    lease (if t then after_sending now random (numbered random d) else d) ≡ lease d
same_lease true now random d = refl
same_lease false now random d = refl

pub kept : (now : ℕ) (c : DhcpClient) (l : DhcpLease) (t : Bool) → must_give_up now c ≡ t → lease (if t then after_restart c else c) ≡ Some l →
    (t ≡ false) × (lease c ≡ Some l)
kept now c l true h e = absurd (cc)
kept now c l false h e = (refl, e)

pub leases_end : LeasesEnd
leases_end now random c l e =
    let d = after_giving_up now c in
    let there : lease d ≡ Some l = sym (same_lease (is_to_send now d) now random d) ∙ e in
    let k = kept now c l (must_give_up now c) refl there in
    in_phase now c l c.phase k.0 k.1
