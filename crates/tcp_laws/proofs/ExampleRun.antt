-- The worked example may happen.
use Rattle.std.proofs.Common.{refl, arith, [], ◌∷◌}
use Rattle.tcp_laws.specs.Example.{AStreamWraps}

pub a_stream_wraps : AStreamWraps
a_stream_wraps = record {
  first_number = refl;
  second_number = refl;
  run = (
    record { opened = refl; room = omega arith },
    (
      record { unacknowledged = omega arith; octets = ([], refl); no_gap = omega arith; window = omega arith; last = λ h. cc },
      (
        record { opened = refl; room = omega arith },
        (
          refl,
          (
            record { unacknowledged = omega arith; octets = ([], refl); no_gap = omega arith; window = omega arith; last = λ _. refl },
            (
              ((1, omega arith, refl), omega arith),
              (
                omega arith,
                (
                  record { unacknowledged = omega arith; octets = ([], refl); no_gap = omega arith; window = omega arith; last = λ _. refl },
                  (
                    ((2, omega arith, refl), omega arith),
                    (
                      (30 ∷ 40 ∷ 50 ∷ [], refl),
                      (
                        ((0, omega arith, refl), omega arith),
                        (
                          omega arith,
                          (
                            ((1, omega arith, refl), omega arith),
                            (
                              ((0, omega arith, refl), omega arith),
                              (
                                ((1, omega arith, refl), omega arith),
                                (
                                  ([], refl),
                                  (
                                    refl,
                                    tt,
                                  ),
                                ),
                              ),
                            ),
                          ),
                        ),
                      ),
                    ),
                  ),
                ),
              ),
            ),
          ),
        ),
      ),
    ),
  );
  what_was_read = refl;
  what_was_written = refl;
  una = refl;
  ring = refl;
}
