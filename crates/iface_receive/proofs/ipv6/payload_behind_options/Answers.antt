use Rattle.iface_context.specs.Stands.{host_in}
use Rattle.iface_context.proofs.Processing.{answered, unanswered}
use Rattle.iface_receive.proofs.PacketRulesV6.{options_discarded, options_malformed}
use Rattle.iface_receive.proofs.ipv6.payload_behind_options.Goals as goal

pub returns-in_err-options-clause-ended : goal.returns-in_err-options-clause-ended
returns-in_err-options-clause-ended c = λ none sockets. unanswered c.requires.empty (λ slots.
    options_malformed (host_in c.args.context.now slots sockets) c.args.header.now c.args.octets.now c.requires.options c.in_err-options.ensures)

pub returns-in_default : goal.returns-in_default
returns-in_default c = record {
  begins = tt;
  short = tt;
  unanswered = λ some. absurd cc;
  kept = λ some. absurd cc;
  ended = λ none sockets. answered sockets _ (λ slots.
      options_discarded (host_in c.args.context.now slots sockets) c.args.header.now c.args.octets.now c.in_ok-options.rest.now
      c.in_ok-options.options c.failure_type.result c.requires.options c.in_ok-options.ensures c.failure_type.ensures c.in_default.not-Skip)
      c.answer_unknown_option.ensures;
}
