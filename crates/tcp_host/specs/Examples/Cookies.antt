-- A listener of port 7 with a backlog of one, whose one half-open connection has place 0 (RFC 4987 3.6). The other place is free.
use Rattle.std.specs.Prelude.{◌≡◌, ◌≤◌, ◌<◌, ℕ, ◌+◌, ◌%◌, ◌^◌, true, false, [], ◌∷◌, length, Option, Some, None}
use Rattle.tcp_connection.specs.declared.segment.Segment.{Segment}
use Rattle.tcp_host.specs.Arrivals.{Begins, HasNoPlace, mss_in, syn_ack}
use Rattle.tcp_host.specs.Host.{Host}
use Rattle.tcp_host.specs.Listener.{first, after_syn}
use Rattle.tcp_host.specs.declared.iss.Endpoints.{Endpoints}
use Rattle.tcp_host.specs.declared.resets.Reply.{Reply}
use Rattle.tcp_host.specs.declared.resets.Reply.TheVariants.{Cookie}

abbrev pub flooded : Host → Host
flooded h = record h { listeners = after_syn 0 (first 7 None 1) ∷ [] }

-- a SYN with number 1000 from a peer that takes 1,460 octets, and the acknowledgement of a number one more than that
abbrev pub syn : Segment
syn = record {
  number = 1000;
  ack = None;
  window = 8192;
  syn = true;
  fin = false;
  rst = false;
  mss = Some 1460;
  scale = Some 7;
  sack_permitted = true;
  blocks = None ∷ None ∷ None ∷ None ∷ [];
}

abbrev pub answer : (ack : ℕ) → Segment
answer ack = record {
  number = 1001;
  ack = Some ack;
  window = 8192;
  syn = false;
  fin = false;
  rst = false;
  mss = None;
  scale = None;
  sack_permitted = false;
  blocks = None ∷ None ∷ None ∷ None ∷ [];
}

abbrev pub answer_at : ℕ → Endpoints → Host → Segment
answer_at made e h = answer (((syn_ack made e syn h).header.number + 1) % 2 ^ 32)

pub record Flooded : Type 0 where
  -- whatever SYNs come, they are answered, and the host stays as it is
  pub unkept : (h new : Host) (now : ℕ) (e : Endpoints) (s : Segment) (reply : Option Reply) → 0 < length h.slots → Begins 0 now e s (flooded h) reply new →
      (reply ≡ Some (Cookie (syn_ack now e s (flooded h)))) × (new ≡ flooded h)
  -- a round trip of up to two minutes later the acknowledgement tells the MSS
  pub known : (h : Host) (made now : ℕ) (e : Endpoints) → made ≤ now → now ≤ made + 128000000 →
      mss_in now e (answer_at made e h) h ≡ Some 1460

-- what must not be
pub record NotAnswered : Type 0 where
  -- an acknowledgement that is older than 192 s, within 33 minutes
  pub old : (h : Host) (made now : ℕ) (e : Endpoints) → made + 192000000 ≤ now → now ≤ made + 1984000000 →
      mss_in now e (answer_at made e h) h ≡ None
  -- a SYN where no place can be had, since connections that are open hold all
  pub no_place : (h new : Host) (index now : ℕ) (e : Endpoints) (s : Segment) (reply : Option Reply) → HasNoPlace h →
      Begins index now e s h reply new → reply ≡ None
  -- a SYN, or a reset
  pub syn : (h : Host) (now : ℕ) (e : Endpoints) (s : Segment) → s.syn ≡ true → mss_in now e s h ≡ None
  pub reset : (h : Host) (now : ℕ) (e : Endpoints) (s : Segment) → s.rst ≡ true → mss_in now e s h ≡ None
