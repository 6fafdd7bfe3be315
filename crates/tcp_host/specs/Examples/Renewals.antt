-- Which numbers reopen a connection in TIME-WAIT (RFC 9293 3.6.1, RFC 6191 2): the peer's last number was 300, and the own one 100.
use Rattle.std.specs.Prelude.{◌≡◌, true, false, None}
use Rattle.tcp_machine.specs.Connection.{Connection}
use Rattle.tcp_machine.specs.Examples.Ends.{fin_segment, syn_segment, after_sending, after_segment}
use Rattle.tcp_machine.specs.Examples.Closings.{half_closed, crossed, waiting}
use Rattle.tcp_host.specs.Renewal.{is_renewed_by}

abbrev pub waits : Connection
waits = after_sending 3 waiting

pub record Renewed : Type 0 where
  pub next : is_renewed_by 301 101 waits ≡ true
  -- and any that are larger, by less than half of all numbers
  pub later : is_renewed_by 90000 5000 waits ≡ true
  pub largest : is_renewed_by 2147483948 2147483748 waits ≡ true
  -- after a SYN that reopened nothing, and after the end once more
  pub still : is_renewed_by 301 101 (after_segment 4 (syn_segment 299 None) waits) ≡ true
  pub restarted : is_renewed_by 301 101 (after_segment 5 (fin_segment 300 101) waits) ≡ true

-- what must not be
pub record NotRenewed : Type 0 where
  -- the SYN of the connection itself, and one with the number of its end
  pub old_syn : is_renewed_by 299 101 waits ≡ false
  pub of_end : is_renewed_by 300 101 waits ≡ false
  pub half : is_renewed_by 2147483949 101 waits ≡ false
  -- own numbers that were sent
  pub own_syn : is_renewed_by 301 99 waits ≡ false
  pub own_end : is_renewed_by 301 100 waits ≡ false
  pub own_half : is_renewed_by 301 2147483749 waits ≡ false
  -- only TIME-WAIT ends so
  pub fin_wait_2 : is_renewed_by 301 101 half_closed ≡ false
  pub closing : is_renewed_by 301 101 crossed ≡ false
