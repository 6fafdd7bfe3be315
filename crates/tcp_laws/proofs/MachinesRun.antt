-- The worked example of two machines may happen.
use Rattle.std.proofs.Common.{refl, arith}
use Rattle.std.proofs.lemmas.Bool.{true≢false}
use Rattle.tcp_laws.specs.MachinesExample.{TwoMachinesRun}

pub two_machines_run : TwoMachinesRun
two_machines_run = record {
  number = refl;
  run = (
    refl,
    (
      refl,
      (
        (refl, (0, omega arith, refl), refl),
        (
          refl,
          (
            (refl, record { was_sent = λ _. (0, omega arith, refl); fresh = λ _. omega arith; fresh_acknowledgement = λ _. omega arith }),
            (
              refl,
              (
                refl,
                (
                  (refl, record { was_sent = λ _. (1, omega arith, refl); fresh = λ _. omega arith; fresh_acknowledgement = λ _. omega arith }),
                  (
                    refl,
                    (
                      (refl, record { was_sent = λ _. (1, omega arith, refl); fresh = λ _. omega arith; fresh_acknowledgement = λ _. omega arith }),
                      tt,
                    ),
                  ),
                ),
              ),
            ),
          ),
        ),
      ),
    ),
  );
  what_was_read = refl;
  what_is_left = refl;
  forged_octet = refl;
  reset_comes = record {
    was_sent = λ e. absurd (true≢false e);
    fresh = λ plain. absurd (true≢false plain.no_reset);
    fresh_acknowledgement = λ plain. absurd (true≢false plain.no_reset);
  };
  reset_ends = refl;
  reset_keeps = refl;
}
