-- What is queued for a connection.
use Rattle.std.proofs.Common.{◌≡◌, ◌∙◌, ℕ, Bool, true, List, Option, Some, None, sym, ap, subst}
use Rattle.ip_address.specs.declared.ip.IpAddress.{IpAddress}
use Rattle.ip_address.specs.declared.cidr.IpCidr.{IpCidr}
use Rattle.ip_address.specs.declared.protocol.IpVersion.{IpVersion}
use Rattle.tcp_machine.specs.Outgoing as machine
use Rattle.tcp_host.specs.declared.iss.Endpoints.{Endpoints}
use Rattle.tcp_host.specs.Table.{ends_at}
use Rattle.tcp_host.specs.Turns.{is_heard}
use Rattle.tcp_sockets.specs.Packets.{Segment}
use Rattle.tcp_sockets.specs.Sending.{version_between}
use Rattle.tcp_sockets.specs.declared.tcp_sockets.Fate.{Fate}
use Rattle.tcp_sockets.specs.declared.tcp_sockets.Fate.TheVariants.{Stranded}
use Rattle.tcp_sockets.specs.Polls.{State, IsNearBy, IsNear, QueuesAs, segment_at, fate_by, fate_in, fate_of, after_by, after_in, after_queueing}

module _ {L : Type 0} (told : IpAddress → Bool → Type 0) (place now : ℕ) (own : List IpCidr) (m : machine.Action) (st : State L) where
  -- a connection without ends, or whose ends aren't the host's, sends nothing
  pub endless : ends_at st.host.ends place ≡ None → QueuesAs told place now own m st Stranded st
  endless none = record {
    near = true;
    is_near = subst (λ (o : Option Endpoints). IsNear told o (is_heard place now st.host) true) (sym none) tt;
    is = sym (ap (λ (o : Option Endpoints). fate_of o true place own m st) none);
    after = sym (ap (λ (o : Option Endpoints). after_queueing o true place own m st) none);
  }

  near_with : (e : Endpoints) (heard near : Bool) → ends_at st.host.ends place ≡ Some e → heard ≡ is_heard place now st.host →
      IsNearBy told e.remote_addr heard near → IsNear told (ends_at st.host.ends place) (is_heard place now st.host) near
  near_with e heard near ends is_heard_then is =
      subst (λ (o : Option Endpoints). IsNear told o (is_heard place now st.host) near) (sym ends)
      (subst (λ (h : Bool). IsNearBy told e.remote_addr h near) is_heard_then is)

  pub stranded : (e : Endpoints) (heard near : Bool) → ends_at st.host.ends place ≡ Some e → version_between e own ≡ None →
      heard ≡ is_heard place now st.host → IsNearBy told e.remote_addr heard near → QueuesAs told place now own m st Stranded st
  stranded e heard near ends none is_heard_then is = record {
    near = near;
    is_near = near_with e heard near ends is_heard_then is;
    is = sym (ap (λ (o : Option Endpoints). fate_of o near place own m st) ends
        ∙ ap (λ (v : Option IpVersion). fate_in v near (segment_at e place m st.host) st) none);
    after = sym (ap (λ (o : Option Endpoints). after_queueing o near place own m st) ends
        ∙ ap (λ (v : Option IpVersion). after_in v near (segment_at e place m st.host) st) none);
  }

  -- and any other one what is due there
  pub queued : (e : Endpoints) (v : IpVersion) (heard near : Bool) (s : Segment) (fate : Fate) (new : State L) →
      ends_at st.host.ends place ≡ Some e → version_between e own ≡ Some v → heard ≡ is_heard place now st.host →
      IsNearBy told e.remote_addr heard near → s ≡ segment_at e place m st.host → fate ≡ fate_by near v s st → new ≡ after_by near v s st →
      QueuesAs told place now own m st fate new
  queued e v heard near s fate new ends version is_heard_then is_near is_segment is after = record {
    near = near;
    is_near = near_with e heard near ends is_heard_then is_near;
    is = is ∙ ap (λ (x : Segment). fate_by near v x st) is_segment
        ∙ sym (ap (λ (o : Option Endpoints). fate_of o near place own m st) ends
        ∙ ap (λ (o : Option IpVersion). fate_in o near (segment_at e place m st.host) st) version);
    after = after ∙ ap (λ (x : Segment). after_by near v x st) is_segment
        ∙ sym (ap (λ (o : Option Endpoints). after_queueing o near place own m st) ends
        ∙ ap (λ (o : Option IpVersion). after_in o near (segment_at e place m st.host) st) version);
  }
