use Rattle.std.proofs.Common.{ℤ, ◌∙◌, ap}
use Rattle.std.proofs.lemmas.Int.{to_z-of_z}
use Rattle.iface_dns.specs.Start.{opening_refusal, read_refusal}
use Rattle.iface_dns.proofs.Names.{not_refused, opening_why}
use Rattle.iface_dns.proofs.dns.Dns.start_asking.Goals as goal

pub returns-in-Err-clause-why : goal.returns-in-Err-clause-why
returns-in-Err-clause-why c =
    opening_why (read_refusal c.args.now c.args.text.now c.args.self.now) (opening_refusal c.args.host.now) c.in-Err.refusal
    (c.in_ok-micros.ensures.why
    ∙ ap (λ (n : ℤ). read_refusal n c.args.text.now c.args.self.now) (to_z-of_z _ c.args.now c.ranges.now))
    c.in-Err.ensures.why

pub returns-in-Err-start_query-clause-memory : goal.returns-in-Err-start_query-clause-memory
returns-in-Err-start_query-clause-memory c = λ _. absurd
    (not_refused c.args.text.now c.in_ok-micros.name.items c.as_slice.result.now c.args.self.now.resolver _ c.in_ok-micros.ensures.read.name_is
    c.in_ok-micros.ensures.read.place c.as_slice.ensures.value c.in-Err-start_query.ensures.why)

pub returns-in-Err-start_query-clause-host : goal.returns-in-Err-start_query-clause-host
returns-in-Err-start_query-clause-host c = absurd
    (not_refused c.args.text.now c.in_ok-micros.name.items c.as_slice.result.now c.args.self.now.resolver _ c.in_ok-micros.ensures.read.name_is
    c.in_ok-micros.ensures.read.place c.as_slice.ensures.value c.in-Err-start_query.ensures.why)
