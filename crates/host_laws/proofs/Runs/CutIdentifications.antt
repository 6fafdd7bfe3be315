-- The packets that a run cuts carry identifications that its dispatches took, each its own.
use Rattle.std.proofs.Common.{◌≡◌, ◌≢◌, ℕ, List, [], ◌∷◌, ◌++◌, refl, ap, Option, Some, None}
use Rattle.std.specs.Prelude.{ℤ, Bool, true, false}
use Rattle.std.specs.List.{AllByRecursion}
use Rattle.net_base.specs.Device.{Event}
use Rattle.ip_address.specs.declared.ethernet_address.EthernetAddress.{EthernetAddress}
use Rattle.ip_address.specs.declared.hardware.HardwareAddress.{HardwareAddress}
use Rattle.ip_address.specs.declared.hardware.HardwareAddress.TheVariants as hardware
use Rattle.ip_address.specs.declared.ip.IpAddress.{IpAddress}
use Rattle.fragmentation.specs.Fragments.{Fragment}
use Rattle.fragmentation.specs.declared.key.FragKey.{FragKey}
use Rattle.fragmentation.specs.Keys.{same_key}
use Rattle.fragmentation.specs.Cuts.{Datagram}
use Rattle.host_machine.specs.declared.results.PollIngressSingleResult.{PollIngressSingleResult}
use Rattle.host_machine.specs.Context.Note.{Note, CutNote, Cut, PieceSent, cut_notes, identifications}
use Rattle.host_machine.specs.Context.Host.{Host, with_next_id}
use Rattle.host_machine.specs.Packet.Packet.{Packet}
use Rattle.host_machine.specs.Receive.Reply.{Reply, Arp, Ip}
use Rattle.host_machine.specs.Send.Outcome.{Outcome, IsUnsent}
use Rattle.host_machine.specs.Send.Dispatch.{Emits, DispatchesByHop, DispatchesEthernet, SendsOver, Dispatches}
use Rattle.host_machine.specs.Send.Requests.{Discovers}
use Rattle.host_machine.specs.Send.Dispatch as dispatch
use Rattle.host_machine.specs.Send.Requests as requests
use Rattle.host_machine.specs.Receive.Reassembly.{TakesFragment}
use Rattle.host_machine.specs.Receive.Response.{Responds}
use Rattle.host_machine.specs.Interface.Ingress.{Ingress}
use Rattle.host_laws.specs.Laws.Order.{cut_identifications, IsAmong, NoneOfNone, OneOf, NotThis, HasNone, AreDistinct}
use Rattle.host_machine.specs.Interface.Parts.{Part}
use Rattle.host_laws.specs.Laws.TwoHosts.{HaveOwnKeys, cuts, key_of_cut}
use Rattle.host_machine.specs.Interface.Run.{Transition, Run, Ends, Then, notes_in}
use Rattle.host_machine.proofs.Receive.Keys.{same_is}
use Rattle.host_laws.proofs.Context.NotesBySubject.{cut_notes-append, cut_notes-slots, identifications-append, identifications-slots}
use Rattle.host_laws.proofs.Interface.Turns.{stepped}
use Rattle.host_laws.proofs.Runs.Walk.{taken}

-- the law
abbrev Carried : List Note → Type 0
Carried notes = IsAmong (cut_identifications (cut_notes notes)) (identifications notes)

abbrev CarriedOver : Part
CarriedOver old told notes new = Carried notes

cuts-append : (xs ys : List CutNote) → cut_identifications (xs ++ ys) ≡ cut_identifications xs ++ cut_identifications ys
cuts-append [] ys = refl
cuts-append (Cut d ∷ xs) ys = ap (λ ids. d.identification ∷ ids) (cuts-append xs ys)
cuts-append (PieceSent p ∷ xs) ys = cuts-append xs ys

among_on : {ps qs xs ys : List ℕ} → IsAmong ps qs → IsAmong xs ys → IsAmong (ps ++ xs) (qs ++ ys)
among_on NoneOfNone more = more
among_on (OneOf x a) more = OneOf x (among_on a more)
among_on (NotThis y a) more = NotThis y (among_on a more)

on : (a b c : Host) (ts us : List Event) (xs ys : List Note) → Carried xs → Carried ys → Carried (xs ++ ys)
on a b c ts us xs ys one two = rw (cut_notes-append, identifications-append, cuts-append) (among_on one two)

none_noted : {notes : List Note} → notes ≡ [] → Carried notes
none_noted e = rw e NoneOfNone

-- behind the identification that a dispatch takes
module _ (id : ℕ) where
  abbrev Behind : List Note → Type 0
  Behind more = IsAmong (cut_identifications (cut_notes more)) (id ∷ identifications more)

  unsent : {H new : Host} {frames : List (List ℕ)} {more : List Note} → IsUnsent H frames more new → Behind more
  unsent u = rw u.unnoted (NotThis id NoneOfNone)

  emitted : {p : Packet} {h : HardwareAddress} {outcome : Outcome} {H new : Host} {frames : List (List ℕ)} {more : List Note} →
      Emits id p h outcome H frames more new → Behind more
  emitted (dispatch.Whole fits formed o f n e) = rw n (NotThis id NoneOfNone)
  emitted (dispatch.InPieces q first rest of long short pieces fits formed o f n e) = rw n (OneOf id NoneOfNone)
  emitted (dispatch.TooLong long longer o u) = unsent u

  discovered : {own : EthernetAddress} {hop : IpAddress} {outcome : Outcome} {H new : Host} {frames : List (List ℕ)} {more : List Note} →
      Discovers own hop outcome H frames more new → Behind more
  discovered (requests.Asked target source h s o f n e) = rw n (NotThis id NoneOfNone)
  discovered (requests.NoSource target h s o u) = unsent u
  discovered (requests.Solicited target h o f n e) = rw n (NotThis id (NotThis _ NoneOfNone))

  by_hop : {own : EthernetAddress} {p : Packet} {hop : IpAddress} {outcome : Outcome} {H new : Host} {frames : List (List ℕ)} {more : List Note} →
      DispatchesByHop id own p hop outcome H frames more new → Behind more
  by_hop (dispatch.Known h k e) = emitted e
  by_hop (dispatch.Silent s o u) = unsent u
  by_hop (dispatch.Unknown u d) = discovered d

  over_ethernet : {own : EthernetAddress} {p : Packet} {outcome : Outcome} {H new : Host} {frames : List (List ℕ)} {more : List Note} →
      DispatchesEthernet id own p outcome H frames more new → Behind more
  over_ethernet (dispatch.ToMulticast h m e) = emitted e
  over_ethernet (dispatch.NoHop m n o u) = unsent u
  over_ethernet (dispatch.ByHop hop m n s) = by_hop s

  over : (h : HardwareAddress) (p : Packet) (outcome : Outcome) (H : Host) (frames : List (List ℕ)) (more : List Note) (new : Host) →
      SendsOver id h p outcome H frames more new → Behind more
  over (hardware.Ethernet own) p outcome H frames more new s = over_ethernet s
  over hardware.Ip p outcome H frames more new s = emitted s

dispatched : {p : Packet} {outcome : Outcome} {H new : Host} {frames : List (List ℕ)} {notes : List Note} →
    Dispatches p outcome H frames notes new → Carried notes
dispatched (dispatch.ToUnspecified n o u) = none_noted u.unnoted
dispatched {p} {outcome} {H} {new} {frames} {notes} (dispatch.ToSpecified more s d n) =
    rw n (over H.ipv4_id H.hardware_addr p outcome (with_next_id H) frames more new d)

fragments : (H : Host) (key : FragKey) (f : Fragment) (result : Option (List ℕ)) (notes : List Note) (new : Host) →
    TakesFragment key f result H notes new → Carried notes
fragments H key f result notes new t = rw (t.noted, cut_notes-slots, identifications-slots) NoneOfNone

responds : (reply : Option Reply) (H : Host) (frames : List (List ℕ)) (notes : List Note) (new : Host) →
    Responds reply H frames notes new → Carried notes
responds None H frames notes new r = none_noted r.1
responds (Some (Arp packet)) H frames notes new r = none_noted r.1
responds (Some (Ip packet)) H frames notes new r = dispatched r.1

ingress : (t : ℤ) (answer : PollIngressSingleResult) (old new : Host) (told : List Event) (notes : List Note) →
    Ingress t answer old told notes new → Carried notes
ingress t answer old new told notes i =
    let r = i.response in
    rw r.all_notes (on old old new [] [] r.notes_taking r.notes_responding
    (taken (λ old frames notes new. Carried notes) (λ old new k. NoneOfNone)
    (λ a b c fs gs xs ys one two. on a b c [] [] xs ys one two) fragments _ i.reception r.reply r.notes_taking r.taken r.takes)
    (responds r.reply r.taken i.frames r.notes_responding new r.responds))

-- over a whole run
pub run_carried : {first last : Host} {transitions : List Transition} → Run first transitions last → Carried (notes_in transitions)
run_carried Ends = NoneOfNone
run_carried (Then {old = old} {mid = mid} {told = told} {notes = notes} {transitions = ps} s r) =
    let one : Carried notes = stepped CarriedOver (λ old new k none. NoneOfNone) on (λ H. NoneOfNone)
    (λ p outcome H new frames notes may d. dispatched d) (λ H p rest e. NoneOfNone) ingress
    (λ H t. NoneOfNone) (λ H list. NoneOfNone) (λ H h of. NoneOfNone)
    (λ H timeout. NoneOfNone) CarriedOver (λ old new told notes law. law) (λ H sockets. NoneOfNone) s in
    on old mid mid told [] notes (notes_in ps) one (run_carried r)

-- where all of a list are distinct, so are some of it
none_among : (x : ℕ) {xs ys : List ℕ} → IsAmong xs ys → HasNone x ys → HasNone x xs
none_among x NoneOfNone none = tt
none_among x (OneOf y a) none = (none.0, none_among x a none.1)
none_among x (NotThis y a) none = none_among x a none.1

pub distinct_among : {xs ys : List ℕ} → IsAmong xs ys → AreDistinct ys → AreDistinct xs
distinct_among NoneOfNone d = tt
distinct_among (OneOf x a) d = (none_among x a d.0, distinct_among a d.1)
distinct_among (NotThis y a) d = distinct_among a d.1

-- and packets with distinct identifications have no key in common
apart : (d e : Datagram) → d.identification ≢ e.identification → same_key (key_of_cut d) (key_of_cut e) ≡ false
apart d e other = by (same_key (key_of_cut d) (key_of_cut e)) refl where
  by : (b : Bool) → same_key (key_of_cut d) (key_of_cut e) ≡ b → b ≡ false
  by true same = absurd (other (ap (λ (k : FragKey). k.identification) (same_is (key_of_cut d) (key_of_cut e) same)))
  by false same = refl

others : (d : Datagram) (ns : List CutNote) → HasNone d.identification (cut_identifications ns) →
    AllByRecursion (λ e. same_key (key_of_cut d) (key_of_cut e) ≡ false) (cuts ns)
others d [] none = tt
others d (Cut e ∷ ns) none = (apart d e none.0, others d ns none.1)
others d (PieceSent p ∷ ns) none = others d ns none

pub keys_own : (ns : List CutNote) → AreDistinct (cut_identifications ns) → HaveOwnKeys (cuts ns)
keys_own [] d = tt
keys_own (Cut e ∷ ns) d = (others e ns d.0, keys_own ns d.1)
keys_own (PieceSent p ∷ ns) d = keys_own ns d
