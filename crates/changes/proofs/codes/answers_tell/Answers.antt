-- How many there are, then each.
use Rattle.std.proofs.Common.{rules, tests, ◌≡◌}
use Rattle.std.specs.List.{list_all}
use Rattle.std.proofs.lemmas.Iterator.{YieldsList-from_slice}
use Rattle.std.proofs.lemmas.Iterator.Search.{all_from_yields_List}
use borrow.Author.Tests.{eq-eqb, ne_eqb}
use Rattle.changes.specs.Answers.{is_answer}
use Rattle.changes.proofs.Told.{answers_all}
use Rattle.changes.proofs.codes.answers_tell.Goals.{else-answers-n-via-then-answers-n+else-all, else-answers-n-via-else-answers-n}
use Rattle.changes.proofs.codes.answers_tell.Goals as goal

pub returns-then-all : goal.returns-then-all
returns-then-all c =
    let all : c.all.result ≡ list_all is_answer c.args.answers.now = all_from_yields_List is_answer _ _ c.all.result c.all.ensures.ran (YieldsList-from_slice c.args.answers.now c.iter.ensures.rest) (λ x b q k. search (rules, tests)) in
    rw (eq-eqb _ _ c.if-answers-n.true, ← all, c.if-all.true) at (answers_all c.args.answers.now c.args.n)

pub returns : goal.returns
returns c = elim c.else-answers-n.branch [
  | else-answers-n-via-then-answers-n+else-all w ↦
      let all : w.all.result ≡ list_all is_answer c.args.answers.now = all_from_yields_List is_answer _ _ w.all.result w.all.ensures.ran (YieldsList-from_slice c.args.answers.now w.iter.ensures.rest) (λ x b q k. search (rules, tests)) in
      rw (eq-eqb _ _ w.if-answers-n.true, ← all, w.if-all.false) at (answers_all c.args.answers.now c.args.n)
  | else-answers-n-via-else-answers-n w ↦ rw (ne_eqb _ _ w.if-answers-n.false) at (answers_all c.args.answers.now c.args.n)
]
