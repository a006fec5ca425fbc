-- The chains, the enrolments, then the marks.
use Rattle.std.specs.Prelude.{Err, ◌+◌}
use borrow.Author.Rules.{rules}
use mathlib.Core.Path.{◌≡◌, refl, ◌∙◌}
use native.Mathlib.Omega.{arith}
use Rattle.answers.proofs.Tellings.{first, next, good}
use Rattle.evidence.proofs.Within.{keys-inside}
use Rattle.keys.proofs.Chained.{none-zeros}
use Rattle.keys.specs.Chains.{slots}
use Rattle.kinds.specs.Kinds.{limit}
use Rattle.consent.proofs.Marked.{good-all, marks-all}
use Rattle.consent.proofs.evidenced.records_tell.Goals as goal

pub invariant_of-keys : goal.invariant_of-keys
invariant_of-keys c = record { inside = keys-inside _ _ _ c.requires.by_index c.requires.by_index_2 }

pub chain-requires : goal.chain-requires
unfolding slots
chain-requires c =
    record {
      n_bound = omega (arith, c.requires.m_le_limit);
      n_in_bounds = omega (arith, c.requires.m_le_limit);
      links_value = none-zeros (slots + limit);
    }

pub invariant_of-records : goal.invariant_of-records
invariant_of-records c = record { chained = c.chain.ensures.chained }

pub invariant_of-records-2 : goal.invariant_of-records-2
invariant_of-records-2 c =
    record {
      listed = record { all = c.requires.m_value; holds = c.requires.by_index; inside = keys-inside _ _ _ c.requires.by_index c.requires.by_index_2; chained = c.chain.ensures.chained };
      spaced = refl;
    }

pub returns-in_err-enrolments_tell : goal.returns-in_err-enrolments_tell
returns-in_err-enrolments_tell c =
    let e : c.from_residual.result ≡ Err c.in_err-enrolments_tell.field-0.0 = search rules in
    rw e (first _ _ _ c.in_err-enrolments_tell.ensures.value)

pub returns : goal.returns
returns c =
    let e = c.args.enrolments.now in
    let s = c.args.evidence.now in
    let k = c.in_ok-enrolments_tell.ensures in
    let marked = rw (good-all e s (good _ k.value)) at k.marks_after in
    next _ _ _ k.value (rw marked at c.marks_tell.ensures ∙ marks-all e s c.requires.evidence_value c.args.m c.requires.m_le_limit c.requires.m_value)
