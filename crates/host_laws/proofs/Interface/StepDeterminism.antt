-- What a step does is determined by the host, the command, what the device answers and what the owner does, but for which neighbour makes room.
use Rattle.std.proofs.Common.{◌≡◌, ◌⊎◌, ℕ, List, [], ◌∷◌, ◌++◌, refl, sym, ◌∙◌, ap, inl, inr, arith, Option, Some, None}
use Rattle.std.proofs.lemmas.Int.{ints}
use Rattle.std.specs.Prelude.{ℤ, Bool, Result}
use Rattle.net_base.specs.Device.{Event, Reception, grants}
use Rattle.ip_address.specs.declared.cidr.IpCidr.{IpCidr}
use Rattle.ip_address.specs.declared.hardware.HardwareAddress.{HardwareAddress}
use Rattle.ip_address.specs.declared.ip.IpAddress.{IpAddress}
use Rattle.host_machine.specs.declared.results.AddrError.{AddrError}
use Rattle.host_machine.specs.declared.results.HardwareError.{HardwareError}
use Rattle.host_machine.specs.declared.results.MulticastError.{MulticastError}
use Rattle.host_machine.specs.declared.results.TimeoutError.{TimeoutError}
use Rattle.host_machine.specs.declared.command.Command.{Command}
use Rattle.host_machine.specs.declared.command.Answer.{Answer}
use Rattle.host_machine.specs.declared.command.Answer.TheVariants as answer
use Rattle.host_machine.specs.Context.Note.{Note}
use Rattle.host_machine.specs.Context.Host.{Host, SocketSet, at}
use Rattle.host_machine.specs.Multicast.Joins as multicast
use Rattle.host_machine.specs.Multicast.Joins.{JoinsGroup, LeavesGroup}
use Rattle.host_machine.specs.Interface.Due.{Due, IsLeast, IsRest, Never, Passed, Left}
use Rattle.host_machine.specs.Interface.Step.{Act, Step, UpdatesIpAddrs, SetsHardwareAddr, SetsReassemblyTimeout}
use Rattle.host_machine.specs.Interface.Step as step
use Rattle.host_laws.specs.Laws.Determined.{IsOneCall, StepsDiffer, InIngress, InPoll, StepIsDetermined, receptions}
use Rattle.host_laws.proofs.Interface.EgressDeterminism.{egress_on}
use Rattle.host_laws.proofs.Interface.CallDeterminism.{ingress_on, poll_on}

-- the least of a set of instants is one
least_once : (P : ℤ → Type 0) (a b : Option ℤ) → IsLeast P a → IsLeast P b → a ≡ b
least_once P None None p q = refl
least_once P None (Some y) p q = absurd (p y q.0)
least_once P (Some x) None p q = absurd (q x p.0)
least_once P (Some x) (Some y) p q = let one : x ≡ y = omega (arith, ints, p.1 y q.0, q.1 x p.0) in ap (λ z. Some z) one

rest_once : {t : ℤ} {end : Option ℤ} {rest rest' : Option ℕ} → IsRest t end rest → IsRest t end rest' → rest ≡ rest'
rest_once Never Never = refl
rest_once (Passed p) (Passed q) = refl
rest_once (Passed p) (Left {rest = k} e) = let none : 0 ≡ k = omega (arith, ints, p, e) in ap (λ z. Some z) none
rest_once (Left {rest = k} e) (Passed p) = let none : k ≡ 0 = omega (arith, ints, p, e) in ap (λ z. Some z) none
rest_once (Left {rest = k} e) (Left {rest = m} f) = let one : k ≡ m = omega (arith, ints, e, f) in ap (λ z. Some z) one

-- two that answer the same and lead to one host
record Agree {A : Type 0} (a b : A) (x y : Host) : Type 0 where
  answer_is : a ≡ b
  host_is : x ≡ y

both : {A : Type 0} {a b c : A} {x y z : Host} → a ≡ c → x ≡ z → b ≡ c → y ≡ z → Agree a b x y
both a x b y = record { answer_is = a ∙ sym b; host_is = x ∙ sym y }

updates_once : {list : List IpCidr} {a b : Result (Unit {0}) AddrError} {H x y : Host} →
    UpdatesIpAddrs list a H x → UpdatesIpAddrs list b H y → Agree a b x y
updates_once (step.Accepted t a x) (step.Accepted t' b y) = both a x b y
updates_once (step.Accepted t a x) (step.Refused t' b y) = absurd cc
updates_once (step.Refused t a x) (step.Accepted t' b y) = absurd cc
updates_once (step.Refused t a x) (step.Refused t' b y) = both a x b y

hardware_once : {h : HardwareAddress} {a b : Result (Unit {0}) HardwareError} {H x y : Host} →
    SetsHardwareAddr h a H x → SetsHardwareAddr h b H y → Agree a b x y
hardware_once (step.Taken t of a x) (step.Taken t' of' b y) = both a x b y
hardware_once (step.Taken t of a x) (step.NotTaken e t' b y) = absurd cc
hardware_once (step.NotTaken e t a x) (step.Taken t' of b y) = absurd cc
hardware_once (step.NotTaken e t a x) (step.NotTaken f t' b y) =
    let errors : Some e ≡ Some f = sym t ∙ t' in
    let one : e ≡ f = cc in
    both a x (rw one b) y

timeout_once : {timeout : ℕ} {a b : Result (Unit {0}) TimeoutError} {H x y : Host} →
    SetsReassemblyTimeout timeout a H x → SetsReassemblyTimeout timeout b H y → Agree a b x y
timeout_once (step.WithinDay t a x) (step.WithinDay t' b y) = both a x b y
timeout_once (step.WithinDay t a x) (step.OverDay t' b y) = absurd (omega (arith, t, t'))
timeout_once (step.OverDay t a x) (step.WithinDay t' b y) = absurd (omega (arith, t, t'))
timeout_once (step.OverDay t a x) (step.OverDay t' b y) = both a x b y

joins_once : {g : IpAddress} {a b : Result (Unit {0}) MulticastError} {H x y : Host} → JoinsGroup g a H x → JoinsGroup g b H y → Agree a b x y
joins_once (multicast.NoGroup n a x) (multicast.NoGroup n' b y) = both a x b y
joins_once (multicast.NoGroup n a x) (multicast.NoPlace n' r b y) = absurd cc
joins_once (multicast.NoGroup n a x) (multicast.JoinTaken n' r b y) = absurd cc
joins_once (multicast.NoPlace n r a x) (multicast.NoGroup n' b y) = absurd cc
joins_once (multicast.NoPlace n r a x) (multicast.NoPlace n' r' b y) = both a x b y
joins_once (multicast.NoPlace n r a x) (multicast.JoinTaken n' r' b y) = absurd cc
joins_once (multicast.JoinTaken n r a x) (multicast.NoGroup n' b y) = absurd cc
joins_once (multicast.JoinTaken n r a x) (multicast.NoPlace n' r' b y) = absurd cc
joins_once (multicast.JoinTaken n r a x) (multicast.JoinTaken n' r' b y) = both a x b y

leaves_once : {g : IpAddress} {a b : Result (Unit {0}) MulticastError} {H x y : Host} → LeavesGroup g a H x → LeavesGroup g b H y → Agree a b x y
leaves_once (multicast.NoGroupEither n a x) (multicast.NoGroupEither n' b y) = both a x b y
leaves_once (multicast.NoGroupEither n a x) (multicast.LeaveTaken n' b y) = absurd cc
leaves_once (multicast.LeaveTaken n a x) (multicast.NoGroupEither n' b y) = absurd cc
leaves_once (multicast.LeaveTaken n a x) (multicast.LeaveTaken n' b y) = both a x b y

-- of a call that tells and notes nothing
quiet : {A B : Type 0} {a b : A} {x y : Host} (answer : A → B) → Agree a b x y → IsOneCall (answer a) (answer b) [] [] [] [] x y
quiet answer one = record { answer_is = ap answer one.answer_is; told_is = refl; notes_are = refl; host_is = one.host_is }

same : {A : Type 0} {a : A} {x : Host} → IsOneCall a a [] [] [] [] x x
same = record { answer_is = refl; told_is = refl; notes_are = refl; host_is = refl }

named : {A B : Type 0} {a b : A} {t t' : List Event} {n n' : List Note} {x y : Host} (answer : A → B) →
    IsOneCall a b t t' n n' x y → IsOneCall (answer a) (answer b) t t' n n' x y
named answer one = record { answer_is = ap answer one.answer_is; told_is = one.told_is; notes_are = one.notes_are; host_is = one.host_is }

-- the sockets that the owner leaves
abbrev left_by : SocketSet → List Act → SocketSet
left_by sockets [] = sockets
left_by sockets (act ∷ acts) = act.after

-- two steps that do the same, in which the owner does the same
pub record IsOneStep (a b : Answer) (t t' : List Event) (d d' : List Act) (n n' : List Note) (x y : Host) : Type 0 where
  pub call_is : IsOneCall a b t t' n n' x y
  pub acts_are : d ≡ d'

idle : {a b : Answer} {t t' : List Event} {n n' : List Note} {x y : Host} → IsOneCall a b t t' n n' x y → IsOneStep a b t t' [] [] n n' x y
idle one = record { call_is = one; acts_are = refl }

-- with what is given, which leaves and what is done behind them
pub step_on : (command : Command) (answer answer' : Answer) (old new new' : Host) (told told' : List Event)
    (acts acts' : List Act) (notes notes' : List Note)
    (rest rest' : List Reception) (more more' : List Bool) (others others' : List Act) →
    Step command answer old told acts notes new → Step command answer' old told' acts' notes' new' →
    receptions told ++ rest ≡ receptions told' ++ rest' → grants told ++ more ≡ grants told' ++ more' → acts ++ others ≡ acts' ++ others' →
    IsOneStep answer answer' told told' acts acts' notes notes' new new' ⊎ StepsDiffer old new new' told told' notes notes' command
step_on c a a' old x x' t t' d d' n n' r r' m m' o o' (step.UpdatedIpAddrs u) (step.UpdatedIpAddrs v) given leave act =
    inl (idle (quiet answer.UpdateIpAddrs (updates_once u v)))
step_on c a a' old x x' t t' d d' n n' r r' m m' o o' (step.PolledIngressSingle {t = k} {result = e} i)
    (step.PolledIngressSingle {result = f} j) given leave act =
    elim (ingress_on k e f old t t' n n' x x' r r' i j given) [
      | inl one ↦ inl (idle (named answer.PollIngressSingle one))
      | inr differ ↦ inr (InIngress differ)
    ]
step_on c a a' old x x' t t' d d' n n' r r' m m' o o' (step.PolledEgress {t = k} {result = e} i) (step.PolledEgress {result = f} j) given leave act =
    inl (idle (named answer.PollEgress (egress_on k e f old t t' n n' x x' m m' i j leave)))
step_on c a a' old x x' t t' d d' n n' r r' m m' o o' (step.Polled {t = k} {budget = b} {result = e} i) (step.Polled {result = f} j) given leave act =
    elim (poll_on k b e f old x x' t t' n n' r r' m m' i j given leave) [
      | inl one ↦ inl (idle (named answer.Poll one))
      | inr differ ↦ inr (InPoll differ)
    ]
step_on c a a' old x x' t t' d d' n n' r r' m m' o o' step.PolledMaintenance step.PolledMaintenance given leave act = inl (idle same)
step_on c a a' old x x' t t' d d' n n' r r' m m' o o' (step.PolledAt {t = k} {end = e} l) (step.PolledAt {end = f} l') given leave act =
    inl (idle (quiet answer.PollAt (record { answer_is = least_once (Due (at old k)) e f l l'; host_is = refl })))
step_on c a a' old x x' t t' d d' n n' r r' m m' o o' (step.PolledDelay {t = k} e l s) (step.PolledDelay f l' s') given leave act =
    let end : e ≡ f = least_once (Due (at old k)) e f l l' in
    inl (idle (quiet answer.PollDelay (record { answer_is = rest_once s (rw end s'); host_is = refl })))
step_on c a a' old x x' t t' d d' n n' r r' m m' o o' step.UpdatedRoutes step.UpdatedRoutes given leave act = inl (idle same)
step_on c a a' old x x' t t' d d' n n' r r' m m' o o' step.AddedDefaultIpv4Route step.AddedDefaultIpv4Route given leave act = inl (idle same)
step_on c a a' old x x' t t' d d' n n' r r' m m' o o' step.RemovedDefaultIpv4Route step.RemovedDefaultIpv4Route given leave act = inl (idle same)
step_on c a a' old x x' t t' d d' n n' r r' m m' o o' step.AddedDefaultIpv6Route step.AddedDefaultIpv6Route given leave act = inl (idle same)
step_on c a a' old x x' t t' d d' n n' r r' m m' o o' step.RemovedDefaultIpv6Route step.RemovedDefaultIpv6Route given leave act = inl (idle same)
step_on c a a' old x x' t t' d d' n n' r r' m m' o o' (step.JoinedGroup j) (step.JoinedGroup k) given leave act =
    inl (idle (quiet answer.JoinMulticastGroup (joins_once j k)))
step_on c a a' old x x' t t' d d' n n' r r' m m' o o' (step.LeftGroup j) (step.LeftGroup k) given leave act =
    inl (idle (quiet answer.LeaveMulticastGroup (leaves_once j k)))
step_on c a a' old x x' t t' d d' n n' r r' m m' o o' step.TookAnyIp step.TookAnyIp given leave act = inl (idle same)
step_on c a a' old x x' t t' d d' n n' r r' m m' o o' (step.TookHardwareAddr s) (step.TookHardwareAddr u) given leave act =
    inl (idle (quiet answer.SetHardwareAddr (hardware_once s u)))
step_on c a a' old x x' t t' d d' n n' r r' m m' o o' (step.TookReassemblyTimeout s) (step.TookReassemblyTimeout u) given leave act =
    inl (idle (quiet answer.SetReassemblyTimeout (timeout_once s u)))
step_on c a a' old x x' t t' d d' n n' r r' m m' o o' (step.OwnerActed {number = number} sockets) (step.OwnerActed others) given leave act =
    let sockets_are : sockets ≡ others = ap (left_by sockets) act in
    inl (record {
      call_is = record { answer_is = refl; told_is = refl; notes_are = refl; host_is = ap (λ s. record old { sockets = s }) sockets_are };
      acts_are = ap (λ s. record { number = number; before = old.sockets; after = s } ∷ []) sockets_are;
    })

pub step_once : StepIsDetermined
step_once c a a' old x x' t t' d d' n n' p q given leave act =
    elim (step_on c a a' old x x' t t' d d' n n' [] [] [] [] [] [] p q (ap (λ z. z ++ []) given) (ap (λ z. z ++ []) leave) (ap (λ z. z ++ []) act)) [
      | inl one ↦ inl one.call_is
      | inr differ ↦ inr differ
    ]
