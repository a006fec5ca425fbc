-- One line after the other.
use Prim.Native.Nat.{◌≤◌, ◌+◌, ◌*◌}
use Rattle.laws.specs.Joined.{joined}
use Rattle.posting.specs.Lines.{line_most}
use Rattle.posting.specs.Posting.{line_at}
use lib.ListN.{length}
use mathlib.Core.List.{◌++◌}
use mathlib.Core.Path.{◌≡◌}
use Rattle.posting.proofs.posting.put_requests.Given as goal

abbrev pub invariant-loop-i : goal.invariant-loop-i
invariant-loop-i l =
    (l.text ≡ l.initial.text ++ joined (line_at l.request l.res) l.i) × (length l.text ≤ length l.initial.text + l.i * line_most)
