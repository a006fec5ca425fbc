-- Keys that stand alike in the same bytes are the same keys.
-- Assumes nothing.
use Rattle.std.specs.Prelude.{ℕ}
use mathlib.Core.Path.{◌≡◌}
use Rattle.keys.specs.declared.keyed.Keys.{Keys}
use Rattle.keys.specs.Keyed.{key_of}

pub keys_same : (k l : Keys) → k.s.now ≡ l.s.now → k.places.now ≡ l.places.now → k.spacing ≡ l.spacing → (i : ℕ) → key_of k i ≡ key_of l i
keys_same k l s p e i = rw (s, p, e)
