use Rattle.std.proofs.Common.{◌≡◌, ◌∙◌, List, ℕ, [], ◌∷◌, ◌++◌, sym, ap}
use Rattle.dhcp_client.specs.Options.{option_text, address_data, seconds_data, size_data, identifier_data, list_data}
use Rattle.dhcp_client.specs.Details.Message.{number_of, header_text, options_text}
use Rattle.dhcp_client.proofs.Texts.{next}
use Rattle.dhcp_client.proofs.message.DhcpRepr.emit.Goals as goal

pub returns-clause-items : goal.returns-clause-items
returns-clause-items c =
    let r = c.args.self.now in
    let o = r.options in
    let t14 : List ℕ = option_text 55 c.args.parameters.now in
    let t13 : List ℕ = option_text 12 c.args.host_name.now in
    let t12 : List ℕ = option_text 26 (size_data o.mtu) in
    let t11 : List ℕ = option_text 6 (list_data o.dns_servers) in
    let t10 : List ℕ = option_text 3 (address_data o.router) in
    let t9 : List ℕ = option_text 1 (address_data o.subnet_mask) in
    let t8 : List ℕ = option_text 59 (seconds_data o.rebind_duration) in
    let t7 : List ℕ = option_text 58 (seconds_data o.renew_duration) in
    let t6 : List ℕ = option_text 51 (seconds_data o.lease_duration) in
    let t5 : List ℕ = option_text 57 (size_data o.max_size) in
    let t4 : List ℕ = option_text 54 (address_data o.server_identifier) in
    let t3 : List ℕ = option_text 50 (address_data o.requested_ip) in
    let t2 : List ℕ = option_text 61 (identifier_data o.client_identifier) in
    let t1 : List ℕ = option_text 53 (number_of r.message_type ∷ []) in
    let r14 : List ℕ = 255 ∷ [] in
    let r13 : List ℕ = t14 ++ r14 in
    let r12 : List ℕ = t13 ++ r13 in
    let r11 : List ℕ = t12 ++ r12 in
    let r10 : List ℕ = t11 ++ r11 in
    let r9 : List ℕ = t10 ++ r10 in
    let r8 : List ℕ = t9 ++ r9 in
    let r7 : List ℕ = t8 ++ r8 in
    let r6 : List ℕ = t7 ++ r7 in
    let r5 : List ℕ = t6 ++ r6 in
    let r4 : List ℕ = t5 ++ r5 in
    let r3 : List ℕ = t4 ++ r4 in
    let r2 : List ℕ = t3 ++ r3 in
    let r1 : List ℕ = t2 ++ r2 in
    let r0 : List ℕ = t1 ++ r1 in
    let o0 : List ℕ = c.emit_header.new.out in
    let o1 : List ℕ = c.append_option.new.out in
    let o2 : List ℕ = c.append_identifier.new.out in
    let o3 : List ℕ = c.append_address.new.out in
    let o4 : List ℕ = c.append_address-2.new.out in
    let o5 : List ℕ = c.append_size.new.out in
    let o6 : List ℕ = c.append_seconds.new.out in
    let o7 : List ℕ = c.append_seconds-2.new.out in
    let o8 : List ℕ = c.append_seconds-3.new.out in
    let o9 : List ℕ = c.append_address-3.new.out in
    let o10 : List ℕ = c.append_address-4.new.out in
    let o11 : List ℕ = c.append_list.new.out in
    let o12 : List ℕ = c.append_size-2.new.out in
    let o13 : List ℕ = c.append_option-2.new.out in
    let o14 : List ℕ = c.append_option-3.new.out in
    sym (next c.args.out.now (header_text r) o0 r0 c.emit_header.ensures.items
    ∙ next o0 t1 o1 r1 (c.append_option.ensures.items ∙ ap (λ (n : ℕ). o0 ++ option_text 53 (n ∷ [])) c.number.ensures)
    ∙ next o1 t2 o2 r2 c.append_identifier.ensures.items
    ∙ next o2 t3 o3 r3 c.append_address.ensures.items
    ∙ next o3 t4 o4 r4 c.append_address-2.ensures.items
    ∙ next o4 t5 o5 r5 c.append_size.ensures.items
    ∙ next o5 t6 o6 r6 c.append_seconds.ensures.items
    ∙ next o6 t7 o7 r7 c.append_seconds-2.ensures.items
    ∙ next o7 t8 o8 r8 c.append_seconds-3.ensures.items
    ∙ next o8 t9 o9 r9 c.append_address-3.ensures.items
    ∙ next o9 t10 o10 r10 c.append_address-4.ensures.items
    ∙ next o10 t11 o11 r11 c.append_list.ensures.items
    ∙ next o11 t12 o12 r12 c.append_size-2.ensures.items
    ∙ next o12 t13 o13 r13 c.append_option-2.ensures.items
    ∙ next o13 t14 o14 r14 c.append_option-3.ensures.items
    ∙ sym c.append.ensures)
