-- The payer behind the other kind.
use mathlib.Core.Path.{◌∙◌}
use Rattle.changes.specs.Keyed.{other_key}
use Rattle.changes.proofs.Found.{key-stored}
use Rattle.changes.proofs.halves.other_key.Goals as goal

pub returns : goal.returns
unfolding other_key
returns c =
    rw (← c.byte.ensures.value, ← c.other_kind-key.ensures, ← c.part.ensures.result_value)
    (c.put.ensures ∙ key-stored c.other_kind-key.result c.part.result.now c.part.ensures.result_len)
