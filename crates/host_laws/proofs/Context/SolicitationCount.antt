-- What is counted of the router solicitations of a host: how many are left, and when the next one may be sent.
use Rattle.std.specs.Prelude.{ℕ, ℤ}
use Rattle.iface_tables.specs.Slaac.{SlaacState}
use Rattle.host_machine.specs.Context.Host.{Host}

pub record Count : Type 0 where
  pub left : ℕ
  pub retry_at : ℤ

abbrev pub count_in : SlaacState → Count
count_in s = record { left = s.left; retry_at = s.retry_at }

abbrev pub count_of : Host → Count
count_of H = count_in H.slaac
