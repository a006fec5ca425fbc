-- After each turn the rest is what stands after one b more.
use mathlib.Core.Path.{◌≡◌}
use Rattle.words.specs.Fields.{after_by}
use Rattle.words.proofs.fields.after.Given as goal

abbrev pub invariant-loop : goal.invariant-loop
invariant-loop l = l.left ≡ after_by l.b l.s l.counter
