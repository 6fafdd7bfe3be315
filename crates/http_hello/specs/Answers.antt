-- When a request is answered.
use Rattle.std.specs.Prelude.{ℕ, List}
use Rattle.httparse.specs.Grammar.{NeverHasRequest, ReadsRequest, RequestHead}
use Rattle.httparse.specs.Spans.{RequestExceeds}

-- octets are answered: they begin with a whole head, or nothing that follows makes them one, or it has more than 64 fields
pub data IsDue (octets : List ℕ) : Type 0 where
  Whole : (head : RequestHead) (rest : List ℕ) → ReadsRequest octets head rest → IsDue octets
  Never : NeverHasRequest octets → IsDue octets
  TooMany : RequestExceeds 64 octets → IsDue octets
