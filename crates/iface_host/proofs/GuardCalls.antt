-- What a guard leaves of what a frame changed, over plain variables.
use Rattle.std.proofs.Common.{subst, ◌≡◌, ◌≢◌, ℕ, Bool, true, false, List, arith, length, Some, None, refl, sym, ap, ◌∙◌}
use Rattle.std.specs.Prelude.{ℤ, ◌==◌, ◌&&◌, ◌||◌, Option, is_some, not, if◌then◌else◌}
use Rattle.std.proofs.lemmas.Bool.Decides.{nat_tests}
use Rattle.std.specs.FinMap as map
use Rattle.ip_address.specs.declared.cidr.IpCidr.{IpCidr}
use Rattle.guard.specs.Answers.{is_short}
use Rattle.guard.specs.Guard.{is_ordinary, is_turn_of_sockets, micros}
use Rattle.guard.specs.Reports.{covers, is_idle, kept, kept_mld}
use Rattle.guard.specs.Strangers.{comes_from_known, has_address, limit_for}
use Rattle.guard.specs.declared.strangers.Limit.{Limit}
use Rattle.iface_tables.specs.Neighbor.{Neighbors, after_limit}
use Rattle.iface_tables.specs.Slaac.{SlaacState}
use Rattle.iface_tables.specs.declared.slaac.Prefix.{Prefix}
use Rattle.iface_tables.specs.declared.slaac.Route.{Route}
use Rattle.iface_tables.specs.declared.report.IgmpReportState.{IgmpReportState}
use Rattle.iface_tables.specs.declared.report.MldReportState.{MldReportState}
use Rattle.host_machine.specs.Context.Host.{Host as Machine, with_igmp_report, with_mld_report, with_neighbors, with_slaac}
use Rattle.interface.specs.Stands.{Becomes, IsPaced}
use Rattle.interface.specs.declared.interface.Interface.{Interface}
use Rattle.iface_host.specs.Calls.{addresses_of}
use Rattle.iface_host.specs.Frames.{Takes}
use Rattle.iface_host.specs.Guarded.{Changes, TakesGuarded, is_known_on, is_nothing_learnt, is_ordinary_to, is_silenced, kept_by, limit_kept, limit_on, may_tell, reports_back, silence_back}
use Rattle.iface_host.specs.Guarded.{silence_to_keep, update_back}
use Rattle.iface_host.specs.Properties.{machine_of}
use Rattle.iface_host.specs.Stands.{StandsFor}
use Rattle.iface_host.specs.declared.guarded.Standing.{Standing}
use Rattle.iface_host.specs.declared.host.IfaceHost.{IfaceHost}
use Rattle.iface_host.proofs.RuleCalls.{changed_as, changed_twice, with_interface}

-- what each host has that a host stands for
neighbors_of : (host : IfaceHost) (H : Machine) → StandsFor host H → H.neighbors ≡ (machine_of host).neighbors
neighbors_of host H h = ap (λ (K : Machine). K.neighbors) h.same

igmp_of : (host : IfaceHost) (H : Machine) → StandsFor host H → H.igmp_report ≡ (machine_of host).igmp_report
igmp_of host H h = ap (λ (K : Machine). K.igmp_report) h.same

mld_of : (host : IfaceHost) (H : Machine) → StandsFor host H → H.mld_report ≡ (machine_of host).mld_report
mld_of host H h = ap (λ (K : Machine). K.mld_report) h.same

slaac_of : (host : IfaceHost) (H : Machine) → StandsFor host H → H.slaac ≡ (machine_of host).slaac
slaac_of host H h = ap (λ (K : Machine). K.slaac) h.same

-- nothing changed
pub unchanged : (old : IfaceHost) (change : Machine → Machine) → ((H : Machine) → StandsFor old H → change H ≡ H) → Changes change old old
unchanged old change same = record { led = λ H h. record { host = H; follows = sym (same H h); stands = h }; rest = refl }

-- an entry was limited, or had the hardware address with which it stays
limited_by : (old : IfaceHost) (known : Neighbors) (l : Limit) (b : Bool) → known ≡ (machine_of old).neighbors →
    has_address (map.get known.known l.address) l.unless ≡ b → (H : Machine) → StandsFor old H →
    with_neighbors H (if b then H.neighbors else after_limit H.neighbors l.address l.expires_at) ≡ limit_kept (Some l) H
limited_by old known l b is has H h =
    let same : H.neighbors ≡ known = neighbors_of old H h ∙ sym is in
    let has' : has_address (map.get H.neighbors.known l.address) l.unless ≡ b =
    ap (λ (k : Neighbors). has_address (map.get k.known l.address) l.unless) same ∙ has in
    ap (λ (d : Bool). with_neighbors H (if d then H.neighbors else after_limit H.neighbors l.address l.expires_at)) (sym has')

not_so : (b : Bool) → not b ≡ true → b ≡ false
not_so true e = absurd cc
not_so false e = refl

so : (b : Bool) → not b ≡ false → b ≡ true
so true e = refl
so false e = absurd cc

pub limit_made : (old : IfaceHost) (i : Interface) (known : Neighbors) (l : Limit) → known ≡ (machine_of old).neighbors →
    not (has_address (map.get known.known l.address) l.unless) ≡ true →
    Becomes old.interface.value i (λ H. with_neighbors H (after_limit H.neighbors l.address l.expires_at)) →
    Changes (limit_kept (Some l)) old (with_interface old i)
limit_made old i known l is other becomes =
    changed_as old i (λ H. with_neighbors H (after_limit H.neighbors l.address l.expires_at)) (limit_kept (Some l)) becomes
    (limited_by old known l false is (not_so (has_address (map.get known.known l.address) l.unless) other))

pub limit_left : (old : IfaceHost) (known : Neighbors) (l : Limit) → known ≡ (machine_of old).neighbors →
    not (has_address (map.get known.known l.address) l.unless) ≡ false → Changes (limit_kept (Some l)) old old
limit_left old known l is stays =
    unchanged old (limit_kept (Some l))
    (λ H h. sym (limited_by old known l true is (so (has_address (map.get known.known l.address) l.unless) stays) H h))

-- an answer that is kept is paced as those are of which it is one
pub paced : (before after : IgmpReportState) → IsPaced before → IsPaced after → IsPaced (kept before after)
paced before after b a = by (is_idle after || covers before after) where
  by : (d : Bool) → IsPaced (if d then before else after)
  by true = b
  by false = a

-- both answers were set
pub reports_made : (old : IfaceHost) (i j : Interface) (s : Standing) (igmp : IgmpReportState) (mld : MldReportState) → s.keeps_reports ≡ true →
    igmp ≡ kept s.igmp (machine_of old).igmp_report → mld ≡ kept_mld s.mld (machine_of old).mld_report →
    Becomes old.interface.value i (λ H. with_igmp_report H igmp) → Becomes i j (λ H. with_mld_report H mld) →
    Changes (reports_back s) old (with_interface old j)
reports_made old i j s igmp mld on igmp_is mld_is first second =
    changed_as old j (λ H. with_mld_report (with_igmp_report H igmp) mld) (reports_back s)
    (λ sockets H h. second sockets (with_igmp_report H igmp) (first sockets H h))
    (λ H h.
    let a : kept s.igmp H.igmp_report ≡ igmp = ap (kept s.igmp) (igmp_of old H h) ∙ sym igmp_is in
    let b : kept_mld s.mld H.mld_report ≡ mld = ap (kept_mld s.mld) (mld_of old H h) ∙ sym mld_is in
    rw (on, a, b) refl)

pub reports_left : (old : IfaceHost) (s : Standing) → s.keeps_reports ≡ false → Changes (reports_back s) old old
reports_left old s off = unchanged old (reports_back s) (λ H h. rw off refl)

-- what was learnt of routers counts as it did before
learnt_as : (old : IfaceHost) (s : Standing) (H : Machine) → StandsFor old H → is_nothing_learnt s H ≡ is_nothing_learnt s (machine_of old)
learnt_as old s H h = ap (λ (k : SlaacState). (length k.prefixes == s.prefixes) && (length k.routers == s.routers)) (slaac_of old H h)

pub update_made : (old : IfaceHost) (i : Interface) (s : Standing) → s.keeps_neighbors ≡ true → is_nothing_learnt s (machine_of old) ≡ true →
    Becomes old.interface.value i (λ H. with_slaac H (record H.slaac { changed = s.changed })) → Changes (update_back s) old (with_interface old i)
update_made old i s on same becomes =
    changed_as old i (λ H. with_slaac H (record H.slaac { changed = s.changed })) (update_back s) becomes
    (λ H h. let same' : is_nothing_learnt s H ≡ true = learnt_as old s H h ∙ same in rw (on, same') refl)

pub update_off : (old : IfaceHost) (s : Standing) → s.keeps_neighbors ≡ false → Changes (update_back s) old old
update_off old s off = unchanged old (update_back s) (λ H h. rw off refl)

pub update_left : (old : IfaceHost) (s : Standing) → s.keeps_neighbors ≡ true → is_nothing_learnt s (machine_of old) ≡ false →
    Changes (update_back s) old old
update_left old s on news = unchanged old (update_back s)
    (λ H h. let news' : is_nothing_learnt s H ≡ false = learnt_as old s H h ∙ news in rw (on, news') refl)

-- all that is kept, one after another
pub kept_all : (a b c d e : IfaceHost) (s : Standing) → Changes (silence_back s.silent_until) a b → Changes (limit_kept s.limit) b c →
    Changes (reports_back s) c d → Changes (update_back s) d e → Changes (kept_by s) a e
kept_all a b c d e s first second third fourth =
    changed_twice a d e (λ H. reports_back s (limit_kept s.limit (silence_back s.silent_until H))) (update_back s)
    (changed_twice a c d (λ H. limit_kept s.limit (silence_back s.silent_until H)) (reports_back s)
    (changed_twice a b c (silence_back s.silent_until) (limit_kept s.limit) first second) third) fourth

-- a guard limits and judges by the host's own addresses and neighbours
pub limit_as : (t : ℤ) (frame : List ℕ) (host : IfaceHost) (own : List IpCidr) (known : Neighbors) → own ≡ addresses_of host →
    known ≡ (machine_of host).neighbors → host.watch.is_on ≡ true → limit_for t frame own known host.watch.guard ≡ limit_on t frame host
limit_as t frame host own known same same' on =
    ap (λ (o : List IpCidr). limit_for t frame o known host.watch.guard) same
    ∙ ap (λ (k : Neighbors). limit_for t frame (addresses_of host) k host.watch.guard) same' ∙ rw on refl

pub known_as : (t : ℤ) (frame : List ℕ) (host : IfaceHost) (known : Neighbors) → known ≡ (machine_of host).neighbors →
    host.watch.is_on ≡ true → is_short (micros t) host.watch.answers ≡ true → comes_from_known t frame known host.watch.guard ≡ is_known_on t frame host
known_as t frame host known same on short =
    ap (λ (k : Neighbors). comes_from_known t frame k host.watch.guard) same
    ∙ known_by host.watch.is_on (is_short (micros t) host.watch.answers) (comes_from_known t frame (machine_of host).neighbors host.watch.guard) on short
  where
    known_by : (on short known : Bool) → on ≡ true → short ≡ true → known ≡ (on && short && known)
    known_by on short known o s = rw (o, s) refl

pub ordinary_as : (frame : List ℕ) (host : IfaceHost) (own : List IpCidr) → own ≡ addresses_of host → host.watch.is_on ≡ true →
    is_ordinary frame own ≡ is_ordinary_to frame host
ordinary_as frame host own same on = ap (is_ordinary frame) same ∙ rw on refl

-- an ordinary frame comes to a guard that is on
pub ordinary_on : (on ordinary : Bool) → (on && ordinary) ≡ true → (on ≡ true) × (ordinary ≡ true)
ordinary_on true true e = (refl, refl)
ordinary_on true false e = absurd cc
ordinary_on false ordinary e = absurd cc

pub none_of : (limit : Option Limit) → is_some limit ≡ false → limit ≡ None
none_of None e = refl
none_of (Some limit) e = absurd cc

-- a frame that isn't ordinary may tell, where there is a guard
pub tells_all : (frame : List ℕ) (host : IfaceHost) → host.watch.is_on ≡ true → is_ordinary_to frame host ≡ false → true ≡ may_tell frame host
tells_all frame host on special = by host.watch.is_on (is_ordinary frame (addresses_of host)) on special where
  by : (on ordinary : Bool) → on ≡ true → (on && ordinary) ≡ false → true ≡ (on && not ordinary)
  by true true o e = absurd cc
  by true false o e = refl
  by false ordinary o e = absurd cc

pub silenced_as : (t : ℤ) (host : IfaceHost) (known : Neighbors) → known ≡ (machine_of host).neighbors → host.watch.is_on ≡ true →
    host.schedule.is_waiting ≡ true → is_turn_of_sockets t known host.watch.guard ≡ is_silenced t host
silenced_as t host known same on waits =
    ap (λ (k : Neighbors). is_turn_of_sockets t k host.watch.guard) same ∙ rw (on, waits) refl

pub silenced_some : (t : ℤ) (host : IfaceHost) → is_some (silence_to_keep t host) ≡ is_silenced t host
silenced_some t host = by (is_silenced t host) where
  by : (b : Bool) → is_some (if b then Some (machine_of host).neighbors.silent_until else None) ≡ b
  by true = refl
  by false = refl

pub learnt_by : (host : IfaceHost) (s : Standing) (prefixes : List Prefix) (routers : List Route) → prefixes ≡ (machine_of host).slaac.prefixes →
    routers ≡ (machine_of host).slaac.routers → length prefixes ≡ s.prefixes →
    (length routers == s.routers) ≡ is_nothing_learnt s (machine_of host)
learnt_by host s prefixes routers p r same =
    let e : length (machine_of host).slaac.prefixes ≡ s.prefixes = ap (λ (l : List Prefix). length l) (sym p) ∙ same in
    let first : (length (machine_of host).slaac.prefixes == s.prefixes) ≡ true = grind (arith, nat_tests) in
    ap (λ (l : List Route). length l == s.routers) r ∙ rw first refl

pub learnt_not : (host : IfaceHost) (s : Standing) (prefixes : List Prefix) → prefixes ≡ (machine_of host).slaac.prefixes →
    length prefixes ≢ s.prefixes → (length prefixes == s.prefixes) ≡ is_nothing_learnt s (machine_of host)
learnt_not host s prefixes p differ =
    let other : (length prefixes == s.prefixes) ≡ false = grind (arith, nat_tests) in
    let first : (length (machine_of host).slaac.prefixes == s.prefixes) ≡ false = ap (λ (l : List Prefix). length l == s.prefixes) (sym p) ∙ other in
    other ∙ rw first refl

-- where the guard leaves all, the frame is taken as without one
abbrev standing_of : (host : IfaceHost) → Standing
standing_of host = record {
  silent_until = None;
  limit = None;
  keeps_reports = false;
  keeps_neighbors = false;
  igmp = (machine_of host).igmp_report;
  mld = (machine_of host).mld_report;
  prefixes = length (machine_of host).slaac.prefixes;
  routers = length (machine_of host).slaac.routers;
  changed = (machine_of host).slaac.changed;
}

pub left_all : (t : ℤ) (frame : List ℕ) (n : ℕ) (before after : List ℕ) (old new : IfaceHost) → may_tell frame old ≡ false →
    is_silenced t old ≡ false → limit_on t frame old ≡ None → (known : Bool) → known ≡ is_known_on t frame old →
    Takes t frame known n before after old new → TakesGuarded t frame n before after old new
left_all t frame n before after old new quiet loud whole known known_is takes =
    record {
      standing = standing_of old;
      is_standing = record {
        silence = rw loud refl;
        limit = sym whole;
        reports = rw quiet refl;
        neighbors = rw quiet refl;
        igmp = refl;
        mld = refl;
        prefixes = refl;
        routers = refl;
        changed = refl;
      };
      begun = old;
      taken = new;
      begins = rw loud (unchanged old (λ H. H) (λ H h. refl));
      takes = subst (λ (k : Bool). Takes t frame k n before after old new) known_is takes;
      keeps = unchanged new (kept_by (standing_of old)) (λ H h. refl);
    }

-- without a guard, too
pub unguarded : (t : ℤ) (frame : List ℕ) (n : ℕ) (before after : List ℕ) (old new : IfaceHost) → old.watch.is_on ≡ false →
    Takes t frame false n before after old new → TakesGuarded t frame n before after old new
unguarded t frame n before after old new off takes =
    left_all t frame n before after old new (rw off refl) (rw off refl) (rw off refl) false (rw off refl) takes
