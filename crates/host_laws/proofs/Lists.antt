-- What is delivered, and what departs, of parts one after the other.
use Rattle.std.proofs.Common.{◌≡◌, ℕ, ◌==◌, Bool, true, false, List, [], ◌∷◌, ◌++◌, refl, sym}
use Rattle.std.proofs.Common.{◌∙◌, ap, subst, Option, Some, None, option_map, if◌then◌else◌, arith}
use Rattle.std.proofs.lemmas.Bool.Decides.{nat_tests}
use Rattle.std.proofs.lemmas.List.{append_assoc}
use Rattle.fragmentation.specs.Cuts.{Datagram}
use Rattle.fragmentation.specs.Reassembly.{SlotNote}
use Rattle.sockets.specs.Udp.{UdpSocket, socket_after_delivery, without_first_to_send}
use Rattle.host_machine.specs.Context.Host.{Host}
use Rattle.host_laws.specs.Laws.Order.{IsAmong, NoneOfNone, OneOf, NotThis}
use Rattle.host_laws.specs.Deliveries.{Delivery, Deliver, NoFrame, OneGets, NoSocketGets, to_index, with_deliveries}
use Rattle.host_laws.specs.Departures.{Departure, Way, Dropped, InOneFrame, InPieces, frames_by}
use Rattle.host_laws.specs.Departures.{frames_of, cuts_by, cuts_of, from_index, entries, without}

if_append : {A : Type 0} (b : Bool) (x : A) (xs ys : List A) → (if b then x ∷ (xs ++ ys) else (xs ++ ys)) ≡ (if b then x ∷ xs else xs) ++ ys
if_append true x xs ys = refl
if_append false x xs ys = refl

-- deliveries
pub to_index-append : (i : ℕ) (ds es : List Delivery) → to_index i (ds ++ es) ≡ to_index i ds ++ to_index i es
to_index-append i [] es = refl
to_index-append i (d ∷ ds) es = ap (λ rest. if d.index == i then d ∷ rest else rest) (to_index-append i ds es)
    ∙ if_append (d.index == i) d (to_index i ds) (to_index i es)

pub with_deliveries-append : (ds es : List Delivery) (s : UdpSocket) → with_deliveries (ds ++ es) s ≡ with_deliveries es (with_deliveries ds s)
with_deliveries-append [] es s = refl
with_deliveries-append (d ∷ ds) es s = with_deliveries-append ds es (socket_after_delivery d.source d.payload s)

pub deliver-append : {B : Host} {fs gs : List (List ℕ)} {ns ms : List SlotNote} {ds es : List Delivery} →
    Deliver B fs ns ds → Deliver B gs ms es → Deliver B (fs ++ gs) (ns ++ ms) (ds ++ es)
deliver-append NoFrame e = e
deliver-append {B = B} {gs = gs} {ms = ms} {es = es} (OneGets {frames = frames} {noted = noted} {ds = ds} frame own d g r) e =
    subst (λ ns. Deliver B (frame ∷ (frames ++ gs)) ns (d ∷ (ds ++ es))) (sym (append_assoc own noted ms))
    (OneGets frame own d g (deliver-append r e))
deliver-append {B = B} {gs = gs} {ms = ms} {es = es} (NoSocketGets {frames = frames} {noted = noted} {ds = ds} frame own r) e =
    subst (λ ns. Deliver B (frame ∷ (frames ++ gs)) ns (ds ++ es)) (sym (append_assoc own noted ms)) (NoSocketGets frame own (deliver-append r e))

-- what a delivery leaves of a socket
pub endpoint_stays : (ds : List Delivery) (s : UdpSocket) → (with_deliveries ds s).endpoint ≡ s.endpoint
endpoint_stays [] s = refl
endpoint_stays (d ∷ ds) s = endpoint_stays ds (socket_after_delivery d.source d.payload s)

pub hop_limit_stays : (ds : List Delivery) (s : UdpSocket) → (with_deliveries ds s).hop_limit ≡ s.hop_limit
hop_limit_stays [] s = refl
hop_limit_stays (d ∷ ds) s = hop_limit_stays ds (socket_after_delivery d.source d.payload s)

pub tx_stays : (ds : List Delivery) (s : UdpSocket) → (with_deliveries ds s).tx ≡ s.tx
tx_stays [] s = refl
tx_stays (d ∷ ds) s = tx_stays ds (socket_after_delivery d.source d.payload s)

pub option_map_then : {A B C : Type 0} (g : B → C) (f : A → B) (h : A → C) → ((x : A) → g (f x) ≡ h x) → (o : Option A) →
    option_map g (option_map f o) ≡ option_map h o
option_map_then g f h same None = refl
option_map_then g f h same (Some x) = ap (λ y. Some y) (same x)

pub id_mapped : (o : Option UdpSocket) → o ≡ option_map (λ s. s) o
id_mapped None = refl
id_mapped (Some s) = refl

-- numbers that are equal by test
pub eq_of : (k i : ℕ) → (k == i) ≡ true → k ≡ i
eq_of k i e = grind (arith, nat_tests)

-- departures
pub from_index-append : (i : ℕ) (ds es : List Departure) → from_index i (ds ++ es) ≡ from_index i ds ++ from_index i es
from_index-append i [] es = refl
from_index-append i (d ∷ ds) es = ap (λ rest. if d.index == i then d ∷ rest else rest) (from_index-append i ds es)
    ∙ if_append (d.index == i) d (from_index i ds) (from_index i es)

pub without-append : (ds es : List Departure) (s : UdpSocket) → without (ds ++ es) s ≡ without es (without ds s)
without-append [] es s = refl
without-append (d ∷ ds) es s = without-append ds es (without_first_to_send s)

pub entries-append : (ds es : List Departure) → entries (ds ++ es) ≡ entries ds ++ entries es
entries-append [] es = refl
entries-append (d ∷ ds) es = ap (λ xs. (d.destination, d.payload) ∷ xs) (entries-append ds es)

frames_by-append : (w : Way) (fs gs : List (List ℕ)) → frames_by w (fs ++ gs) ≡ frames_by w fs ++ gs
frames_by-append Dropped fs gs = refl
frames_by-append (InOneFrame to frame) fs gs = refl
frames_by-append (InPieces cut first) fs gs = refl

pub frames_of-append : (ds es : List Departure) → frames_of (ds ++ es) ≡ frames_of ds ++ frames_of es
frames_of-append [] es = refl
frames_of-append (d ∷ ds) es = ap (frames_by d.way) (frames_of-append ds es) ∙ frames_by-append d.way (frames_of ds) (frames_of es)

cuts_by-append : (w : Way) (cs es : List Datagram) → cuts_by w (cs ++ es) ≡ cuts_by w cs ++ es
cuts_by-append Dropped cs es = refl
cuts_by-append (InOneFrame to frame) cs es = refl
cuts_by-append (InPieces cut first) cs es = refl

pub cuts_of-append : (ds es : List Departure) → cuts_of (ds ++ es) ≡ cuts_of ds ++ cuts_of es
cuts_of-append [] es = refl
cuts_of-append (d ∷ ds) es = ap (cuts_by d.way) (cuts_of-append ds es) ∙ cuts_by-append d.way (cuts_of ds) (cuts_of es)

-- some of a list, in its order
pub none_among : {X : Type 0} (xs : List X) → IsAmong [] xs
none_among [] = NoneOfNone
none_among (x ∷ xs) = NotThis x (none_among xs)

pub among-append : {X : Type 0} {xs xs' ys ys' : List X} → IsAmong xs xs' → IsAmong ys ys' → IsAmong (xs ++ ys) (xs' ++ ys')
among-append NoneOfNone b = b
among-append (OneOf x a) b = OneOf x (among-append a b)
among-append (NotThis x a) b = NotThis x (among-append a b)
