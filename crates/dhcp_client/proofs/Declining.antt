-- After a lease was declined nothing is sent for ten seconds.
use Rattle.std.proofs.Common.{◌≡◌, ℕ, ◌+◌, ◌≤◌, ◌<◌, Bool, true, false, refl, sym, ap, subst, arith, List, [], ◌∷◌}
use Rattle.std.specs.Prelude.{Option, Some, None, max, min, nat_le, nat_lt, if◌then◌else◌}
use Rattle.std.proofs.lemmas.Bool.Decides.{nat_tests}
use Rattle.dhcp_client.specs.declared.client.Asked.{Asked}
use Rattle.dhcp_client.specs.declared.client.DhcpClient.{DhcpClient}
use Rattle.dhcp_client.specs.declared.client.DhcpPhase.TheVariants.{Discovering}
use Rattle.dhcp_client.specs.declared.lease.DhcpLease.{DhcpLease}
use Rattle.dhcp_client.specs.declared.message.DhcpRepr.{DhcpRepr}
use Rattle.dhcp_client.specs.declared.client.DhcpPhase.{DhcpPhase}
use Rattle.dhcp_client.specs.declared.messages.DhcpMessage.{DhcpMessage}
use Rattle.dhcp_client.specs.Answers.{after_answer}
use Rattle.dhcp_client.specs.Client.{address_in, after_giving_up, after_restart, first_phase, has_come, is_to_send, lease, must_give_up_in, send_in}
use Rattle.dhcp_client.specs.Laws.{AreBefore, DeclinesWait, IsEventBefore}
use Rattle.dhcp_client.specs.Messages.{after_sending, message, numbered}
use Rattle.dhcp_client.specs.Returns.{after_decline, declining, numbered_if, pause, releasing}
use Rattle.dhcp_client.specs.Run.{Event, Receive, Ask, Tell, Reset, Claim, Leave, client_after, client_after_all}

-- a client that asks for offers, but not before an instant, and waits for no answer
record Waits (limit : ℕ) (c : DhcpClient) : Type 0 where
  pub phase : c.phase ≡ Discovering
  pub asked : c.asked ≡ None
  pub later : limit ≤ c.discover_after

not_due : (p : DhcpPhase) (limit now : ℕ) (c : DhcpClient) → p ≡ Discovering → limit ≤ c.discover_after → now < limit →
    has_come now (send_in p c) ≡ false
not_due p limit now c e later before = rw e (grind (arith, nat_tests, later, before))

silent : (limit now : ℕ) (c : DhcpClient) → Waits limit c → now < limit → is_to_send now c ≡ false
silent limit now c w before = not_due c.phase limit now c w.phase w.later before

stays : (p : DhcpPhase) (now : ℕ) (c : DhcpClient) → p ≡ Discovering → (if must_give_up_in p now c then after_restart c else c) ≡ c
stays p now c e = rw e refl

unsent : (t : Bool) (limit now random : ℕ) (d : DhcpClient) → t ≡ false → Waits limit d →
    Waits limit (if t then after_sending now random (numbered random d) else d)
unsent true limit now random d e w = absurd (cc)
unsent false limit now random d e w = w

asked : (limit now random : ℕ) (c d : DhcpClient) → d ≡ c → Waits limit c → now < limit →
    Waits limit (if is_to_send now d then after_sending now random (numbered random d) else d)
asked limit now random c d e w before =
    unsent (is_to_send now d) limit now random d (rw e (silent limit now c w before)) (subst (λ (x : DhcpClient). Waits limit x) (sym e) w)

unleased : (c : DhcpClient) → c.phase ≡ Discovering → lease c ≡ None
unleased c e = rw e refl

declines : (l : Option DhcpLease) (limit now random : ℕ) (c : DhcpClient) → l ≡ None → Waits limit c →
    Waits limit (declining l now (numbered_if l random c))
declines None limit now random c e w = w
declines (Some l) limit now random c e w = absurd (cc)

releases : (l : Option DhcpLease) (limit random : ℕ) (c : DhcpClient) → l ≡ None → Waits limit c →
    Waits limit (releasing l (numbered_if l random c))
releases None limit random c e w = w
releases (Some l) limit random c e w = absurd (cc)

by_event : (limit : ℕ) (e : Event) (c : DhcpClient) → Waits limit c → IsEventBefore limit e → Waits limit (client_after e c)
by_event limit (Receive m) c w b = subst (λ (o : Option Asked). Waits limit (after_answer o m c)) (sym w.asked) w
by_event limit (Ask now random) c w b = asked limit now random c (after_giving_up now c) (stays c.phase now c w.phase) w b
by_event limit Tell c w b = let p = w.phase in let a = w.asked in let l = w.later in record { phase = p; asked = a; later = l }
by_event limit Reset c w b =
    let l = w.later in record { phase = ap (λ (p : DhcpPhase). first_phase (address_in p)) w.phase; asked = refl; later = l }
by_event limit (Claim now random) c w b = declines (lease c) limit now random c (unleased c w.phase) w
by_event limit (Leave now random) c w b = releases (lease c) limit random c (unleased c w.phase) w

by_all : (limit : ℕ) (es : List Event) (c : DhcpClient) → Waits limit c → AreBefore limit es → Waits limit (client_after_all es c)
by_all limit [] c w b = w
by_all limit (e ∷ es) c w b = by_all limit es (client_after e c) (by_event limit e c w b.0) b.1

long : (declined : ℕ) → 10000000 ≤ pause declined
long declined = by (nat_lt declined 10) where
  by : (b : Bool) → 10000000 ≤ (if b then 10000000 else 60000000)
  by true = omega arith
  by false = omega arith

pauses : (o : Option DhcpLease) (now random : ℕ) (c : DhcpClient) (l : DhcpLease) → o ≡ Some l →
    Waits (now + 10000000) (declining o now (numbered_if o random c))
pauses None now random c l e = absurd (cc)
pauses (Some m) now random c l e =
    let least = long (min 255 (c.declined + 1)) in record { phase = refl; asked = refl; later = omega (arith, least) }

sends_nothing : (t : Bool) (m : DhcpMessage) → t ≡ false → (if t then Some m else None) ≡ None
sends_nothing true m e = absurd (cc)
sends_nothing false m e = refl

pub declines_wait : DeclinesWait
declines_wait now random later other c l es e b before =
    let limit = now + 10000000 in
    let d = client_after_all es (after_decline now random c) in
    let w : Waits limit d = by_all limit es (after_decline now random c) (pauses (lease c) now random c l e) b in
    let same : after_giving_up later d ≡ d = stays d.phase later d w.phase in (
      sends_nothing (is_to_send later (after_giving_up later d)) (message later (numbered other (after_giving_up later d)))
          (rw same (silent limit later d w before)),
      unleased d w.phase,
    )
