-- What one host rebuilds of what another one cut.
use Rattle.std.proofs.Common.{◌≡◌, ℕ, zero, suc, ◌+◌, ◌-◌, ◌*◌, ◌/◌, ◌<◌, ◌≤◌, List, [], ◌∷◌, ◌++◌}
use Rattle.std.proofs.Common.{length, map, refl, sym, ◌∙◌, ap, subst, arith, Option, None, inl, inr}
use native.Mathlib.Nat.{mul_assoc}
use Rattle.std.specs.Prelude.{Bool, true, false, not, nat_le, ◌⊎◌, ◌==◌, ◌||◌, if◌then◌else◌}
use Rattle.std.proofs.lemmas.Bool.Decides.{nat_tests}
use Rattle.std.proofs.lemmas.Nat.{mul-le}
use Rattle.ip_wire.specs.Ipv4Packet.{is_fragment}
use Rattle.std.specs.List.{AllByRecursion, Contains}
use Rattle.std.specs.FinMap as finite
use Rattle.net_base.specs.declared.phy.Medium.{Medium}
use Rattle.net_base.specs.declared.phy.DeviceCapabilities.{DeviceCapabilities}
use Rattle.net_base.specs.Checksum.{ip_mtu_of}
use Rattle.net_base.specs.Device.{handed_frames, sent_frames}
use Rattle.fragmentation.specs.declared.key.FragKey.{FragKey}
use Rattle.fragmentation.specs.Keys.{same_key, key_of}
use Rattle.fragmentation.specs.Fragments.{Fragment, Got, no_fragments, is_fit, keeps_few, total_with, with_one, IsRebuilt}
use Rattle.fragmentation.specs.Reassembly.{SlotNote, Take, Arrival, Rebuild}
use Rattle.fragmentation.specs.Cuts.{Datagram, Piece, piece_at, piece_of, pieces_of, piece_header, piece_fragment, cut, HasForm}
use Rattle.host_machine.specs.Context.Note.{Note, CutNote, Cut, PieceSent, cut_notes, slot_notes}
use Rattle.host_machine.specs.Context.Host.{Host}
use Rattle.host_machine.specs.Packet.Frame.{piece_frame}
use Rattle.host_machine.specs.Context.Pieces.{piece_size}
use Rattle.host_machine.specs.Receive.Reassembly.{TakesFragment}
use Rattle.host_laws.specs.Laws.Rebuilding.{History, first_history, put, AreRebuilt}
use Rattle.host_laws.specs.Laws.Order.{IsBeginning, sent_of_this, AreBeginnings}
use Rattle.host_machine.specs.Interface.Run.{Transition, Run, Ends, Then, events_in, notes_in}
use Rattle.host_laws.specs.Laws.Arrivals.{arrivals_under, rebuilt, slot_notes_in}
use Rattle.host_laws.specs.Laws.Frames.{Brings, Bring, NoFrame, OneBrings, NoneBrings, all_arrivals, receiving_host, ArrivesInFrames}
use Rattle.host_laws.specs.Laws.Wire.{Shows, Nothing, OnePiece, OneCut, OtherFrame}
use Rattle.ip_address.specs.Hardware.{IsOf}
use Rattle.host_machine.specs.Context.Real.{IsReal}
use Rattle.host_laws.specs.Laws.TwoHosts.{cuts, cuts_in, key_of_cut, HaveOwnKeys, RebuildsWhatWasCut, PiecesAreRead}
use Rattle.host_machine.proofs.Receive.Keys.{same_is}
use Rattle.host_laws.proofs.Context.NotesBySubject.{cut_notes-append, cut_notes-slots, slot_notes-append}
use Rattle.host_laws.proofs.Runs.Walk.{walk}
use Rattle.host_laws.proofs.Runs.ReassemblyOrigin.{run_rebuilt, test_same}
use Rattle.host_laws.proofs.Runs.PieceOrder.{run_ordered, run_first}
use Rattle.host_machine.proofs.Receive.Pieces.{IsIn, is_in, contains_in, IsPiece, piece_in, IsPartOf}
use Rattle.host_machine.proofs.Receive.Pieces.{part_of, AreParts, IsTotal, total_stays, rebuilds_payload}
use Rattle.host_laws.proofs.Receive.SlotEffects.{handed_frames-append}
use Rattle.host_laws.proofs.Runs.FragmentArrivals.{run_arrivals, receiving_hardware, all_arrivals-append, all_push}
use Rattle.host_laws.proofs.Receive.FrameReading.{IsWritten, protocol_again, piece_reads, piece_brings}
use Rattle.host_laws.proofs.Runs.SentPieces.{run_shows, stepped}
use Rattle.host_machine.proofs.Receive.Parts.{size_positive, is_part}

two_ways : (b : Bool) → b ≡ true → b ≡ false → ⊥
two_ways b h k = cc

-- the values of each packet that a run cuts fit a header
abbrev FormedOver : Host → List (List ℕ) → List Note → Host → Type 0
FormedOver old frames notes new = AllByRecursion HasForm (cuts (cut_notes notes))

pub cuts-append : (xs ys : List CutNote) → cuts (xs ++ ys) ≡ cuts xs ++ cuts ys
cuts-append [] ys = refl
cuts-append (Cut d ∷ xs) ys = ap (λ ds. d ∷ ds) (cuts-append xs ys)
cuts-append (PieceSent p ∷ xs) ys = cuts-append xs ys

formed_on : (xs ys : List Note) → AllByRecursion HasForm (cuts (cut_notes xs)) → AllByRecursion HasForm (cuts (cut_notes ys)) →
    AllByRecursion HasForm (cuts (cut_notes (xs ++ ys)))
formed_on xs ys a b = rw (cut_notes-append, cuts-append) (all_push HasForm (cuts (cut_notes xs)) (cuts (cut_notes ys)) a b)

fragments : (H : Host) (key : FragKey) (f : Fragment) (result : Option (List ℕ)) (notes : List Note) (new : Host) →
    TakesFragment key f result H notes new → FormedOver H [] notes new
fragments H key f result notes new t = rw (t.noted, cut_notes-slots t.slot_notes) tt

pub run_forms : {first last : Host} {transitions : List Transition} → Run first transitions last → AllByRecursion HasForm (cuts_in transitions)
run_forms r =
    walk FormedOver (λ old new k. tt) (λ a b c fs gs xs ys one two. formed_on xs ys one two)
    (λ H own source target mine. tt)
    (λ H hop unknown. tt)
    (λ H. tt)
    (λ H h p reached. tt)
    (λ H h id p first rest e form reached. (form, tt))
    (λ H t. tt)
    fragments
    (λ H p rest e. tt)
    (λ H r'. tt)
    (λ H h. tt)
    (λ H list. tt)
    (λ H timeout. tt)
    r

-- the pieces that were noted
abbrev pieces_sent : List CutNote → List Piece
pieces_sent [] = []
pieces_sent (Cut d ∷ notes) = pieces_sent notes
pieces_sent (PieceSent p ∷ notes) = p ∷ pieces_sent notes

-- where a frame comes from
data Origin (m : Medium) (g : List ℕ) (ps : List Piece) : Type 0 where
  FromPiece : (H : Host) (p : Piece) → IsOf m H.hardware_addr → g ≡ piece_frame H p → IsIn p ps → Origin m g ps
  NoPiece : ((H : Host) (key : FragKey) (f : Fragment) → IsOf m H.hardware_addr → Brings H g key f → ⊥) → Origin m g ps

origin_more : {m : Medium} {g : List ℕ} {ps : List Piece} (q : Piece) → Origin m g ps → Origin m g (q ∷ ps)
origin_more q (FromPiece H p of e i) = FromPiece H p of e (inr i)
origin_more q (NoPiece n) = NoPiece n

origin : {m : Medium} {fs : List (List ℕ)} {ns : List CutNote} (g : List ℕ) → Shows m fs ns → IsIn g fs → Origin m g (pieces_sent ns)
origin g Nothing i = absurd i
origin g (OnePiece H p of s) (inl e) = FromPiece H p of e (inl refl)
origin g (OnePiece H p of s) (inr i) = origin_more p (origin g s i)
origin g (OneCut d of s) i = origin g s i
origin g (OtherFrame frame other s) (inl e) = NoPiece (λ H key f of b. other H key f of (rw e at b))
origin g (OtherFrame frame other s) (inr i) = origin g s i

-- each packet that is cut goes to an address of the medium
abbrev GoesTo : Medium → Datagram → Type 0
GoesTo m d = IsOf m d.destination

go_to : {m : Medium} {fs : List (List ℕ)} {ns : List CutNote} → Shows m fs ns → AllByRecursion (GoesTo m) (cuts ns)
go_to Nothing = tt
go_to (OnePiece H p of s) = go_to s
go_to (OneCut d of s) = (of, go_to s)
go_to (OtherFrame frame other s) = go_to s

-- each piece is of a packet that was cut, or was left at first
record FromCut (size : ℕ) (p : Piece) (ds : List Datagram) : Type 0 where
  datagram : Datagram
  is_there : IsIn datagram ds
  size_is : datagram.size ≡ size
  piece : IsIn p (pieces_of datagram)

cut_here : {size : ℕ} {p : Piece} {ds : List Datagram} (left : List Piece) (d : Datagram) →
    d.size ≡ size → FromCut size p ds ⊎ IsIn p (pieces_of d) → FromCut size p (d ∷ ds) ⊎ IsIn p left
cut_here left d e (inl c) = inl (record { datagram = c.datagram; is_there = inr c.is_there; size_is = c.size_is; piece = c.piece })
cut_here left d e (inr i) = inl (record { datagram = d; is_there = inl refl; size_is = e; piece = i })

from_cut : (size : ℕ) (left : List Piece) (notes : List CutNote) (p : Piece) →
    IsBeginning (sent_of_this notes) left → AreBeginnings size notes → IsIn p (pieces_sent notes) → FromCut size p (cuts notes) ⊎ IsIn p left
from_cut size left [] p first all i = absurd i
from_cut size left (Cut d ∷ notes) p first all i = cut_here left d all.0 (from_cut size (pieces_of d) notes p all.1 all.2 i)
from_cut size left (PieceSent q ∷ notes) p first all (inl e) = inr (subst (λ l. IsIn p l) first.1 (inl e))
from_cut size left (PieceSent q ∷ notes) p first all (inr i) = by (from_cut size (sent_of_this notes ++ first.0) notes p (first.0, refl) all i) where
  by : FromCut size p (cuts notes) ⊎ IsIn p (sent_of_this notes ++ first.0) → FromCut size p (cuts notes) ⊎ IsIn p left
  by (inl c) = inl c
  by (inr j) = inr (subst (λ l. IsIn p l) first.1 (inr j))

-- a piece of a packet with a form can be written
pub in_map : {X Y : Type 0} (f : X → Y) (xs : List X) (y : Y) → IsIn y (map f xs) → (x : X) × IsIn x xs × (y ≡ f x)
in_map f [] y i = absurd i
in_map f (x ∷ xs) y (inl e) = (x, inl refl, e)
in_map f (x ∷ xs) y (inr i) = let r = in_map f xs y i in (r.0, inr r.1, r.2)

eights : (k y : ℕ) → k * (y * 8) / 8 * 8 ≡ k * (y * 8)
eights k y =
    let e : k * (y * 8) ≡ k * y * 8 = sym (mul_assoc k y 8) in
    rw e (omega arith)

pub written : (m : Medium) (d : Datagram) (y : ℕ) (f : Fragment) →
    HasForm d → GoesTo m d → d.size ≡ y * 8 → 0 < d.size → IsPiece d.size d.payload f → IsWritten m (piece_of d f)
written m d y f form far is pos piece =
    let part = part_of d.size d.payload f pos piece in
    let within = part.within in
    let payload = form.payload in
    record {
      destination = far;
      header = record {
        source = form.source_addr;
        destination = form.destination_addr;
        protocol = protocol_again (piece_header (piece_of d f));
        payload_len = omega arith;
        identification = form.identification;
        offset = omega arith;
      };
      eights = let e : f.offset ≡ piece.number * (y * 8) = ap (λ (x : Fragment). x.offset) piece.is ∙ ap (λ n. piece.number * n) is in
          rw e (eights piece.number y);
    }

-- where a fragment that came was cut
pub record CutBy (ds : List Datagram) (key : FragKey) (f : Fragment) : Type 0 where
  pub datagram : Datagram
  pub is_there : IsIn datagram ds
  pub positive : 0 < datagram.size
  pub key_is : key ≡ key_of_cut datagram
  pub piece : IsPiece datagram.size datagram.payload f

all_in : {X : Type 0} (P : X → Type 0) (xs : List X) (x : X) → AllByRecursion P xs → IsIn x xs → P x
all_in P [] x all i = absurd i
all_in P (y ∷ xs) x all (inl e) = rw e all.0
all_in P (y ∷ xs) x all (inr i) = all_in P xs x all.1 i

abbrev AreCutBy : List Datagram → List (FragKey × Fragment) → Type 0
AreCutBy ds cs = AllByRecursion (λ c. CutBy ds c.0 c.1) cs

module _ (m : Medium) (size y : ℕ) (is : size ≡ y * 8) (pos : 0 < size) (ds : List Datagram) (forms : AllByRecursion HasForm ds)
    (far : AllByRecursion (GoesTo m) ds) where
  read : (H : Host) (p : Piece) → IsOf m H.hardware_addr → FromCut size p ds → (K : Host) (key : FragKey) (f : Fragment) →
      IsOf m K.hardware_addr → Brings K (piece_frame H p) key f → CutBy ds key f
  read H p own c K key f mine b =
      let d = c.datagram in
      let r = in_map (piece_of d) (cut d.size d.payload) p c.piece in
      let piece = piece_in d.size d.payload r.0 (contains_in (cut d.size d.payload) r.0 r.1) in
      let size' : d.size ≡ y * 8 = c.size_is ∙ is in
      let pos' : 0 < d.size = rw c.size_is pos in
      let w : IsWritten m (piece_of d r.0) =
      written m d y r.0 (all_in HasForm ds d forms c.is_there) (all_in (GoesTo m) ds d far c.is_there) size' pos' piece in
      let w' : IsWritten m p = rw r.2 w in
      let reads = piece_reads m H p own w' K key f mine b in
      record {
        datagram = d;
        is_there = c.is_there;
        positive = pos';
        key_is = reads.0 ∙ ap (λ (x : Piece). key_of x.header x.identification) r.2;
        piece = rw (reads.1 ∙ ap (λ (x : Piece). x.fragment) r.2) piece;
      }

  -- at each place of the other run
  module _ (all : List (List ℕ)) (notes : List CutNote) (shows : Shows m all notes) (same : cuts notes ≡ ds) (left : List Piece) (empty : left ≡ [])
      (first : IsBeginning (sent_of_this notes) left) (order : AreBeginnings size notes) where
    none_left : (p : Piece) → FromCut size p (cuts notes) ⊎ IsIn p left → FromCut size p ds
    none_left p (inl c) = rw same at c
    none_left p (inr i) = absurd (rw empty at i)

    brought : (g : List ℕ) (K : Host) (key : FragKey) (f : Fragment) →
        IsOf m K.hardware_addr → Origin m g (pieces_sent notes) → Brings K g key f → CutBy ds key f
    brought g K key f mine (FromPiece H p own e i) b = read H p own (none_left p (from_cut size left notes p first order i)) K key f mine (rw e at b)
    brought g K key f mine (NoPiece n) b = absurd (n K key f mine b)

    all_brought : {H : Host} {frames : List (List ℕ)} {cs : List (FragKey × Fragment)} →
        IsOf m H.hardware_addr → Bring H frames cs → AllByRecursion (Contains all) frames → AreCutBy ds cs
    all_brought mine NoFrame was = tt
    all_brought {H} mine (OneBrings frame key f b more) was =
        (brought frame H key f mine (origin frame shows (is_in all frame was.0)) b, all_brought mine more was.1)
    all_brought mine (NoneBrings frame none more) was = all_brought mine more was.1

    -- the medium stays
    each_arrival : {H last : Host} {qs : List Transition} → Run H qs last → H.capabilities.medium ≡ m → IsReal H →
        AllByRecursion ArrivesInFrames qs → AllByRecursion (Contains all) (handed_frames (events_in qs)) →
        AreCutBy ds (all_arrivals (slot_notes_in qs))
    each_arrival Ends medium_is real comes was = tt
    each_arrival {H} (Then {command = command} {told = told} {notes = noted} {transitions = qs} s r) medium_is real comes was =
        let one = stepped s real in
        let mine : IsOf m (receiving_host command H).hardware_addr = rw receiving_hardware (rw medium_is at real.own) in
        let parted : AllByRecursion (Contains all) (handed_frames told ++ handed_frames (events_in qs)) =
        subst (AllByRecursion (Contains all)) (handed_frames-append told (events_in qs)) was in
        let halves = all_parted (Contains all) (handed_frames told) (handed_frames (events_in qs)) parted in
        let later = each_arrival r (ap (λ (c : DeviceCapabilities). c.medium) one.same ∙ medium_is) one.real comes.1 halves.1 in
        rw (slot_notes-append, all_arrivals-append) (all_push (λ c. CutBy ds c.0 c.1) (all_arrivals (slot_notes noted))
        (all_arrivals (slot_notes_in qs)) (all_brought mine comes.0 halves.0) later) where
          all_parted : {X : Type 0} (P : X → Type 0) (xs ys : List X) → AllByRecursion P (xs ++ ys) → AllByRecursion P xs × AllByRecursion P ys
          all_parted P [] ys a = (tt, a)
          all_parted P (x ∷ xs) ys a = let r = all_parted P xs ys a.1 in ((a.0, r.0), r.1)

apart : (x e : Datagram) → same_key (key_of_cut x) (key_of_cut e) ≡ false → key_of_cut x ≡ key_of_cut e → ⊥
apart x e f k = two_ways _ (test_same (key_of_cut x)) (subst (λ z. same_key (key_of_cut x) z ≡ false) (sym k) f)

-- packets with one key are one
same_datagram : (ds : List Datagram) (d e : Datagram) → HaveOwnKeys ds → IsIn d ds → IsIn e ds → key_of_cut d ≡ key_of_cut e → d ≡ e
same_datagram [] d e own i j k = absurd i
same_datagram (x ∷ ds) d e own (inl a) (inl b) k = a ∙ sym b
same_datagram (x ∷ ds) d e own (inl a) (inr j) k =
    absurd (apart x e (all_in (λ z. same_key (key_of_cut x) (key_of_cut z) ≡ false) ds e own.0 j) (rw a at k))
same_datagram (x ∷ ds) d e own (inr i) (inl b) k =
    absurd (apart x d (all_in (λ z. same_key (key_of_cut x) (key_of_cut z) ≡ false) ds d own.0 i) (sym (rw b at k)))
same_datagram (x ∷ ds) d e own (inr i) (inr j) k = same_datagram ds d e own.1 i j k

-- what comes under one of their keys is a part of that packet
parts_under : (ds : List Datagram) (d : Datagram) (notes : List SlotNote) →
    HaveOwnKeys ds → IsIn d ds → AreCutBy ds (all_arrivals notes) → AreParts d.payload (arrivals_under (key_of_cut d) notes)
parts_under ds d [] own i all = tt
parts_under ds d (Take k ∷ notes) own i all = parts_under ds d notes own i all
parts_under ds d (Arrival k f ∷ notes) own i all = by (same_key (key_of_cut d) k) refl (parts_under ds d notes own i all.1) where
  here : key_of_cut d ≡ k → IsPartOf d.payload f
  here e =
      let c = all.0 in
      let same : d ≡ c.datagram = same_datagram ds d c.datagram own i c.is_there (e ∙ c.key_is) in
      rw same (part_of c.datagram.size c.datagram.payload f c.positive c.piece)

  by : (b : Bool) → same_key (key_of_cut d) k ≡ b → AreParts d.payload (arrivals_under (key_of_cut d) notes) →
      AreParts d.payload (if b then f ∷ arrivals_under (key_of_cut d) notes else arrivals_under (key_of_cut d) notes)
  by true e rest = (here (same_is (key_of_cut d) k e), rest)
  by false e rest = rest
parts_under ds d (Rebuild k octets ∷ notes) own i all = parts_under ds d notes own i all

-- where all that comes under a key are parts of one payload, that alone is rebuilt
record AreOf (payload : List ℕ) (g : Got) : Type 0 where
  total : IsTotal (length payload) g.total
  parts : AreParts payload g.fragments

push_part : (payload : List ℕ) (fs : List Fragment) (f : Fragment) → AreParts payload fs → IsPartOf payload f → AreParts payload (fs ++ f ∷ [])
push_part payload [] f all part = (part, tt)
push_part payload (g ∷ fs) f all part = (all.0, push_part payload fs f all.1 part)

one_more : (payload : List ℕ) (g : Got) (f : Fragment) → IsPartOf payload f → AreOf payload g → AreOf payload (with_one g f)
one_more payload g f part of = by (is_fit g.total f) where
  few : (b : Bool) → AreParts payload (if b then g.fragments ++ f ∷ [] else g.fragments)
  few true = push_part payload g.fragments f of.parts part
  few false = of.parts

  by : (b : Bool) → AreOf payload
      (if b then record { total = total_with g.total f; fragments = if keeps_few g.fragments f then g.fragments ++ f ∷ [] else g.fragments } else g)
  by true = record { total = total_stays payload g.total f part of.total; parts = few (keeps_few g.fragments f) }
  by false = of

nothing_of : (payload : List ℕ) → AreOf payload no_fragments
nothing_of payload = record { total = λ x e. absurd cc; parts = tt }

only : (payload : List ℕ) (key : FragKey) (h : History) (notes : List SlotNote) → AreRebuilt h notes → AreOf payload (h key) →
    AreParts payload (arrivals_under key notes) → AllByRecursion (λ octets. octets ≡ payload) (rebuilt key notes)
only payload key h [] r of all = tt
only payload key h (Take k ∷ notes) r of all = only payload key (put h k no_fragments) notes r (by (same_key key k)) all where
  by : (b : Bool) → AreOf payload (if b then no_fragments else h key)
  by true = nothing_of payload
  by false = of
only payload key h (Arrival k f ∷ notes) r of all = by (same_key key k) refl all
    (λ now rest. only payload key (put h k (with_one (h k) f)) notes r now rest) where
      by : (b : Bool) → same_key key k ≡ b → AreParts payload (if b then f ∷ arrivals_under key notes else arrivals_under key notes) →
          (AreOf payload (put h k (with_one (h k) f) key) → AreParts payload (arrivals_under key notes) →
          AllByRecursion (λ octets. octets ≡ payload) (rebuilt key notes)) →
          AllByRecursion (λ octets. octets ≡ payload) (rebuilt key notes)
      by true e all' more =
          let same : key ≡ k = same_is key k e in
          let now : AreOf payload (put h k (with_one (h k) f) key) = rw (e, ← same) (one_more payload (h key) f all'.0 of) in
          more now all'.1
      by false e all' more = let now : AreOf payload (put h k (with_one (h k) f) key) = rw e of in more now all'
only payload key h (Rebuild k octets ∷ notes) r of all = by (same_key key k) refl (only payload key h notes r.1 of all) where
  by : (b : Bool) → same_key key k ≡ b → AllByRecursion (λ os. os ≡ payload) (rebuilt key notes) →
      AllByRecursion (λ os. os ≡ payload) (if b then octets ∷ rebuilt key notes else rebuilt key notes)
  by true e rest =
      let same : key ≡ k = same_is key k e in
      let is : IsRebuilt (h key) octets = rw same r.0 in
      (rebuilds_payload payload (h key) octets of.total of.parts is, rest)
  by false e rest = rest

began_of : (payload : List ℕ) (H : Host) (key : FragKey) → finite.get H.slots.held key ≡ None → AreOf payload (first_history H key)
began_of payload H key e = rw e (nothing_of payload)

each : {X : Type 0} (P : X → Type 0) (xs : List X) → ((x : X) → IsIn x xs → P x) → AllByRecursion P xs
each P [] f = tt
each P (x ∷ xs) f = (f x (inl refl), each P xs (λ y i. f y (inr i)))

pub run_rebuilds : RebuildsWhatWasCut
run_rebuilds a a' b b' ps qs ra rb may were own free =
    let c = a.capabilities in
    let shows = run_shows a a' ps ra may.a_real in
    let came_all =
    each_arrival c.medium (piece_size c) ((ip_mtu_of c - 20) / 8) refl (size_positive (ip_mtu_of c) may.mtu) (cuts_in ps) (run_forms ra) (go_to shows)
    (sent_frames (events_in ps)) (cut_notes (notes_in ps)) shows refl a.left may.left (run_first ra)
    (run_ordered ra) rb may.one_medium may.b_real (run_arrivals rb) were in
    each (λ d. AllByRecursion (λ octets. octets ≡ d.payload) (rebuilt (key_of_cut d) (slot_notes_in qs))) (cuts_in ps) (λ d i.
    only d.payload (key_of_cut d) (first_history b) (slot_notes_in qs) (run_rebuilt rb)
    (began_of d.payload b (key_of_cut d) (all_in (λ e. finite.get b.slots.held (key_of_cut e) ≡ None) (cuts_in ps) d free i))
    (parts_under (cuts_in ps) d (slot_notes_in qs) own i came_all))

-- a fragment in a frame that a run sent is of a packet that the run cut
pub frame_is_cut : (a a' : Host) (ps : List Transition) → Run a ps a' → IsReal a → 576 ≤ ip_mtu_of a.capabilities → a.left ≡ [] →
    (K : Host) → IsOf a.capabilities.medium K.hardware_addr → (frame : List ℕ) →
    Contains (sent_frames (events_in ps)) frame → (key : FragKey) (f : Fragment) → Brings K frame key f → CutBy (cuts_in ps) key f
frame_is_cut a a' ps ra real mtu left K mine frame there key f b =
    let c = a.capabilities in
    let shows = run_shows a a' ps ra real in
    brought c.medium (piece_size c) ((ip_mtu_of c - 20) / 8) refl (size_positive (ip_mtu_of c) mtu) (cuts_in ps) (run_forms ra) (go_to shows)
    (sent_frames (events_in ps)) (cut_notes (notes_in ps)) shows refl a.left left (run_first ra) (run_ordered ra) frame K key f mine
    (origin frame shows (is_in (sent_frames (events_in ps)) frame there)) b

pub pieces_read : PiecesAreRead
pieces_read m a b d y f own mine far form size pos more there for source sums =
    let piece = piece_in d.size d.payload f there in
    let w = written m d y f form far size pos piece in
    piece_brings m a b (piece_of d f) own mine w (is_part y d f size pos more piece) for source sums
