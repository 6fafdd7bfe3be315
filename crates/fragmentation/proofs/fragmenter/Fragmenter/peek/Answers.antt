use Rattle.std.proofs.Common.{rules, ◌≢◌, ◌*◌, ◌≤◌, sym, length, take, refl, arith}
use Rattle.fragmentation.proofs.Pieces.{next_is, begins_within}
use Rattle.fragmentation.proofs.fragmenter.Fragmenter.peek.Goals as goal

pub returns-clause-near : goal.returns-clause-near
returns-clause-near c = omega (arith, near, c.self.invariant.1) where
  some : c.self.inside.left ≢ 0
  some zero = search rules

  near : c.self.inside.sent * c.self.inside.size ≤ c.self.inside.len
  near = begins_within _ _ _ _ some c.self.invariant.4

pub returns-clause-value : goal.returns-clause-value
returns-clause-value c = rw (sym c.self.view_is) (next_is
    (record {
      destination = c.self.inside.destination;
      header = c.self.inside.header;
      identification = c.self.inside.identification;
      payload = take c.self.inside.len c.self.inside.buffer;
      size = c.self.inside.size;
    })
    c.self.inside.len c.self.inside.sent c.self.inside.left c.min-end.result c.self.inside.buffer _ some refl room
    within c.min-end.ensures refl refl refl refl) where
      some : c.self.inside.left ≢ 0
      some zero = search rules

      room : c.self.inside.len ≤ length c.self.inside.buffer
      room = search rules

      within : c.self.inside.sent * c.self.inside.size ≤ c.self.inside.len
      within = begins_within _ _ _ _ some c.self.invariant.4
