-- Keys that stand in a slice, by their numbers.
use Rattle.std.specs.Prelude.{ℕ, List}
use Rattle.keys.specs.declared.keyed.Keys.{Keys}
use Rattle.keys.specs.Stands.{key_in}

abbrev pub key_of : Keys → ℕ → List ℕ
key_of k i = key_in k.places.now k.spacing k.s.now i
