-- A result's mark and its code.
use Rattle.std.specs.Prelude.{ℕ, ◌+◌, List, get_or}
use Rattle.laws.specs.Part.{part}
use Rattle.numbers.specs.Numbers.{word_of}
use Rattle.kinds.specs.declared.of_pairs.PairKind.{PairKind}
use Rattle.kinds.specs.Pairs.{mark_start}

-- a result's mark and its code
unfoldable pub mark_in : PairKind → List ℕ → ℕ
mark_in p rec = get_or rec (mark_start p) 0

unfoldable pub code_in : PairKind → List ℕ → ℕ
code_in p rec = word_of (part (mark_start p + 1) 4 rec)
