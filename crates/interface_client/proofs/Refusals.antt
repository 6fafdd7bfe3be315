-- What follows from a rule where it refuses.
use Rattle.std.proofs.Common.{◌≡◌, true, false, List, Err, sym, ◌∙◌}
use Rattle.std.specs.Prelude.{Result}
use Rattle.ip_address.specs.declared.cidr.IpCidr.{IpCidr}
use Rattle.ip_address.specs.declared.ip.IpAddress.{IpAddress}
use Rattle.ip_address.specs.Ip.{is_multicast}
use Rattle.host_machine.specs.declared.results.AddrError.{AddrError}
use Rattle.host_machine.specs.declared.results.AddrError.TheVariants as addr_error
use Rattle.host_machine.specs.declared.results.MulticastError.{MulticastError}
use Rattle.host_machine.specs.declared.results.MulticastError.TheVariants as multicast_error
use Rattle.host_machine.specs.Context.Host.{Host, are_assignable}
use Rattle.host_machine.specs.Interface.Step.{UpdatesIpAddrs, Accepted, Refused}
use Rattle.host_machine.specs.Multicast.Joins.{JoinsGroup, NoGroup, NoPlace, JoinTaken}

not_both : true ≡ false → ⊥
not_both e = cc

pub list_refused : (list : List IpCidr) (r : Result (Unit {0}) AddrError) (H K : Host) →
    are_assignable list ≡ false → UpdatesIpAddrs list r H K → (r ≡ Err addr_error.NotUnicast) × (K ≡ H)
list_refused list r H K h (Accepted all answer new) = absurd (not_both (sym all ∙ h))
list_refused list r H K h (Refused some answer same) = (answer, same)

pub group_refused : (a : IpAddress) (r : Result (Unit {0}) MulticastError) (H K : Host) →
    is_multicast a ≡ false → JoinsGroup a r H K → (r ≡ Err multicast_error.Unaddressable) × (K ≡ H)
group_refused a r H K h (NoGroup none answer same) = (answer, same)
group_refused a r H K h (NoPlace group full answer same) = absurd (not_both (sym group ∙ h))
group_refused a r H K h (JoinTaken group room answer new) = absurd (not_both (sym group ∙ h))
