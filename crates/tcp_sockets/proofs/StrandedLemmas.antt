-- What has nowhere to go ends its connection.
use Rattle.std.proofs.Common.{◌≡◌, ◌∙◌, ℕ, Bool, List, sym, ap}
use Rattle.ip_address.specs.declared.ip.IpAddress.{IpAddress}
use Rattle.ip_address.specs.declared.cidr.IpCidr.{IpCidr}
use Rattle.tcp_machine.specs.Outgoing as machine
use Rattle.tcp_host.specs.Host.{Host}
use Rattle.tcp_host.specs.Table.{ends_at}
use Rattle.tcp_host.specs.Turns.{sent_if, aborted_if}
use Rattle.tcp_sockets.specs.declared.tcp_sockets.Fate.{Fate}
use Rattle.tcp_sockets.specs.declared.tcp_sockets.Fate.TheVariants.{Stranded}
use Rattle.tcp_sockets.specs.Polls.{State, QueuesAs, SendsAs, after_fate, after_queueing}

pub sends_stranded : {L : Type 0} (told : IpAddress → Bool → Type 0) (place now : ℕ) (own : List IpCidr) (m : machine.Action) (old mid : State L)
    (host : Host) → QueuesAs told place now own m old Stranded mid → host ≡ sent_if place now (aborted_if place mid.host) →
    SendsAs told place now own m old (record mid { host = host })
sends_stranded {L} told place now own m old mid host q is = record {
  near = q.near;
  is_near = q.is_near;
  after =
      let queued = after_queueing (ends_at old.host.ends place) q.near place own m old in
      ap (λ (x : Host). record mid { host = x }) is
      ∙ ap (λ (s : State L). record s { host = sent_if place now (aborted_if place s.host) }) q.after
      ∙ ap (λ (f : Fate). after_fate f place now queued) q.is;
}
