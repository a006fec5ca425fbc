-- By whether there is a repeated key.
use Rattle.keys.proofs.Found.{below-some, below_none}
use Rattle.reader.proofs.Places.{keys-by}
use Rattle.keys.proofs.Spaced.{keys-are}
use Rattle.reader.specs.Keys.{repeat_told}
use mathlib.Core.Path.{refl}
use Rattle.reader.proofs.repeats.keys_tell.Goals as goal

pub returns-in-Some : goal.returns-in-Some
unfolding repeat_told
returns-in-Some c =
    let k = c.keys_of.ensures in
    let keys = keys-are c.keys_of.result _ _ _ k.places_value k.spacing_value k.s_value in
    let first = below-some _ _ _ (rw (keys, k.n_value, c.in-Some.is) at c.first_repeat.ensures) in
    rw (← keys-by c.args.kind c.args.file.now _ c.requires.bound refl, first.0, first.1, c.of.ensures)

pub returns : goal.returns
unfolding repeat_told
returns c =
    let k = c.keys_of.ensures in
    let keys = keys-are c.keys_of.result _ _ _ k.places_value k.spacing_value k.s_value in
    let none = below_none _ _ (rw (keys, k.n_value, c.in_default.is) at c.first_repeat.ensures) in
    rw (← keys-by c.args.kind c.args.file.now _ c.requires.bound refl, none)
