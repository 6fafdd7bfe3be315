use Rattle.std.proofs.Common.{◌≡◌, ◌<◌, ◌≤◌, ℕ, List, ap, length, rules, ◌∙◌, arith}
use Rattle.std.specs.List.{position_or_len, remove}
use Rattle.ip_address.specs.declared.cidr.IpCidr.{IpCidr}
use Rattle.host_machine.specs.Context.Host.{no_sockets}
use Rattle.iface_host.proofs.RefusalCalls.{fits_one_less, list_why, removal_none, removal_told}
use Rattle.iface_host.proofs.RuleCalls.{addresses_refused, stayed, updated}
use Rattle.iface_host.specs.Calls.{addresses_of, is_same}
use Rattle.iface_host.proofs.host.IfaceHost.remove_address.Goals as goal

pub copied-list-requires-clause-few : goal.copied-list-requires-clause-few
copied-list-requires-clause-few c =
    let a = rw c.deref.ensures at (c.ip_addrs-own.ensures.fits no_sockets) in
    let b = rw c.deref-2.ensures at (c.addr_room.ensures.value no_sockets) in
    let few : length c.ip_addrs-own.result.now ≤ c.addr_room.result = omega (arith, a, b) in
    few

pub put_addresses-requires : goal.put_addresses-requires
put_addresses-requires c =
    let a = rw c.deref.ensures at (c.ip_addrs-own.ensures.fits no_sockets) in
    let b = rw c.deref-2.ensures at (c.addr_room.ensures.value no_sockets) in
    let few : length c.ip_addrs-own.result.now ≤ c.addr_room.result = omega (arith, a, b) in
    let gone : c.remove.new.self.items ≡ remove c.ip_addrs-own.result.now c.index_of-index.result = search rules in
    let fits : length c.as_slice.result.now ≤ c.addr_room.result =
    fits_one_less c.ip_addrs-own.result.now c.as_slice.result.now c.index_of-index.result c.addr_room.result (c.as_slice.ensures.value ∙ gone) few in
    rw (c.addr_room.ensures.value no_sockets, c.deref-2.ensures, ← c.deref_mut.ensures.value) at fits

pub returns-in-Ok-clause-removed : goal.returns-in-Ok-clause-removed
returns-in-Ok-clause-removed c =
    let without : List IpCidr → List IpCidr = λ cidrs. remove cidrs (position_or_len (is_same c.args.cidr) cidrs) in
    let at : c.index_of-index.result ≡ position_or_len (is_same c.args.cidr) c.ip_addrs-own.result.now = search rules in
    let gone : c.remove.new.self.items ≡ remove c.ip_addrs-own.result.now c.index_of-index.result = search rules in
    updated c.args.self.now _ without c.remove.new.self.items
    (λ sockets. gone ∙ ap (λ (i : ℕ). remove c.ip_addrs-own.result.now i) at ∙ ap without (rw c.deref.ensures at (c.ip_addrs-own.ensures.value sockets)))
    (rw (c.in-Ok.is, c.deref_mut.ensures.value, c.as_slice.ensures.value) at c.put_addresses.ensures.set)

pub returns-in-Err-clause-refused : goal.returns-in-Err-clause-refused
returns-in-Err-clause-refused c =
    stayed c.args.self.now _ _ (addresses_refused c.remove.new.self.items _)
    (rw (c.in-Err.is, c.deref_mut.ensures.value, c.as_slice.ensures.value) at c.put_addresses.ensures.set)

pub returns-then-index-own-clause-why : goal.returns-then-index-own-clause-why
returns-then-index-own-clause-why c =
    let at : c.index_of-index.result ≡ position_or_len (is_same c.args.cidr) c.ip_addrs-own.result.now = search rules in
    let le : length c.ip_addrs-own.result.now ≤ c.index_of-index.result = omega arith in
    removal_none c.args.self.now c.ip_addrs-own.result.now c.args.cidr c.index_of-index.result (rw c.deref.ensures at (c.ip_addrs-own.ensures.value no_sockets)) at le

pub returns-in-Ok-clause-why : goal.returns-in-Ok-clause-why
returns-in-Ok-clause-why c =
    let there = rw c.deref-3.ensures at c.stands_for_a_host.ensures in
    let at : c.index_of-index.result ≡ position_or_len (is_same c.args.cidr) c.ip_addrs-own.result.now = search rules in
    let lt : c.index_of-index.result < length c.ip_addrs-own.result.now = omega arith in
    let own = rw c.deref.ensures at (c.ip_addrs-own.ensures.value no_sockets) in
    let gone : c.remove.new.self.items ≡ remove c.ip_addrs-own.result.now c.index_of-index.result = search rules in
    let left = gone ∙ ap (λ (cidrs : List IpCidr). remove cidrs c.index_of-index.result) own in
    let went = rw (c.deref_mut.ensures.value, c.as_slice.ensures.value, left) at c.put_addresses.ensures.set in
    rw c.in-Ok.is at (removal_told c.args.self.now c.ip_addrs-own.result.now c.args.cidr c.index_of-index.result _ own at lt
    (list_why c.args.self.now c.put_addresses.new.interface (remove (addresses_of c.args.self.now) c.index_of-index.result) _ there went))

pub returns-in-Err-clause-why : goal.returns-in-Err-clause-why
returns-in-Err-clause-why c =
    let there = rw c.deref-3.ensures at c.stands_for_a_host.ensures in
    let at : c.index_of-index.result ≡ position_or_len (is_same c.args.cidr) c.ip_addrs-own.result.now = search rules in
    let lt : c.index_of-index.result < length c.ip_addrs-own.result.now = omega arith in
    let own = rw c.deref.ensures at (c.ip_addrs-own.ensures.value no_sockets) in
    let gone : c.remove.new.self.items ≡ remove c.ip_addrs-own.result.now c.index_of-index.result = search rules in
    let left = gone ∙ ap (λ (cidrs : List IpCidr). remove cidrs c.index_of-index.result) own in
    let went = rw (c.deref_mut.ensures.value, c.as_slice.ensures.value, left) at c.put_addresses.ensures.set in
    rw c.in-Err.is at (removal_told c.args.self.now c.ip_addrs-own.result.now c.args.cidr c.index_of-index.result _ own at lt
    (list_why c.args.self.now c.put_addresses.new.interface (remove (addresses_of c.args.self.now) c.index_of-index.result) _ there went))
