-- A part is what stands between its start and its end.
use Rattle.laws.specs.Part.{part}
use native.Mathlib.Nat.{add-sub_cancel_left}
use Rattle.text.proofs.parts.part.Goals as goal

pub returns-clause-result_value : goal.returns-clause-result_value
unfolding part
returns-clause-result_value c = rw add-sub_cancel_left
