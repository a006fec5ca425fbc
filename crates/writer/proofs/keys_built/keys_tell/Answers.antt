-- By whether there is a repeated key.
use Rattle.std.specs.Prelude.{[], Some, None}
use mathlib.Core.Path.{◌≡◌, sym, ◌∙◌}
use Rattle.laws.specs.Least.{least}
use Rattle.keys.specs.Keys.{repeats_in, below}
use Rattle.keys.specs.Stands.{key_in}
use Rattle.keys.proofs.Found.{below-some, below_none}
use Rattle.reader.specs.Keys.{repeat_told}
use Rattle.writer.specs.Writing.{keys_told}
use Rattle.writer.proofs.Built.{keys-inside}
use Rattle.writer.proofs.keys_built.keys_tell.Goals as goal

pub invariant_of-keys : goal.invariant_of-keys
invariant_of-keys c = rw (c.body_spacing.ensures, c.requires.n_value) (record { inside = keys-inside c.args.kind c.args.bodies.now })

pub returns-in-Some : goal.returns-in-Some
unfolding keys_told repeat_told
returns-in-Some c =
    let a = c.args in
    let told : Some c.in-Some.i ≡ below a.n (least (repeats_in (key_in [] c.body_spacing.result a.bodies.now)) a.n) = sym c.in-Some.is ∙ c.first_repeat.ensures in
    let first = below-some _ _ _ (rw c.body_spacing.ensures at told) in
    rw (← c.requires.n_value, first.0, first.1, ← c.of.ensures)

pub returns : goal.returns
unfolding keys_told repeat_told
returns c =
    let a = c.args in
    let told : None ≡ below a.n (least (repeats_in (key_in [] c.body_spacing.result a.bodies.now)) a.n) = sym c.in_default.is ∙ c.first_repeat.ensures in
    rw (← c.requires.n_value, below_none _ _ (rw c.body_spacing.ensures at told))
