-- The table as bytes is the one of the definition.
use Rattle.std.proofs.Common.{ℕ, List, eqb, ◌∙◌, ap, arith}
use Rattle.std.specs.Cmp.Lexicographic.{pointwise}
use Rattle.std.specs.List.{list_any}
use Rattle.evidence_kinds.specs.Evidence.{allowed}
use Rattle.evidence_kinds.proofs.Rows.{rows, row_allowed}
use Rattle.evidence_kinds.proofs.allowed.extension.Goals as goal

pub returns : goal.returns
unfolding allowed
returns c =
    c.contains.ensures.value ∙
    (ap (λ (q : List ℕ). list_any (λ r. pointwise eqb r q) rows) c.row.ensures ∙ row_allowed c.args.kind c.args.item.now c.ranges.kind.fits (λ i. omega (arith, c.type_inv.item i)))
