-- The chains, then the three in their order.
use Prim.Native.Nat.{◌+◌}
use Rattle.std.specs.Prelude.{Err}
use mathlib.Core.Path.{◌≡◌}
use native.Mathlib.Omega.{arith}
use borrow.Author.Rules.{rules}
use Rattle.keys.proofs.Chained.{none-zeros}
use Rattle.keys.specs.Chains.{slots}
use Rattle.kinds.specs.Kinds.{limit}
use Rattle.answers.proofs.Tellings.{first, next, good}
use Rattle.changes.specs.Deciding.{answered_told}
use Rattle.changes.proofs.Told.{answers-many}
use Rattle.changes.proofs.deciding.answered_tells.Goals as goal

pub keys_of-keys-requires : goal.keys_of-keys-requires
keys_of-keys-requires c = omega (arith, c.requires.lengths.fewest)

pub chain-requires : goal.chain-requires
unfolding slots
chain-requires c =
    let m = c.requires.lengths in
    let n = c.keys_of-keys.ensures.n_value in
    record {
      n_bound = omega (arith, n, m.most);
      n_in_bounds = omega (arith, n, m.most);
      links_value = none-zeros (slots + limit);
    }

pub returns-in_err-changes_tell : goal.returns-in_err-changes_tell
unfolding answered_told
returns-in_err-changes_tell c =
    let e : c.from_residual.result ≡ Err c.in_err-changes_tell.field-0.0 = search rules in
    rw (e, ← c.keys_of-keys.ensures.n_value) (first _ _ _ c.in_err-changes_tell.ensures)

pub returns-in_err-answers_tell : goal.returns-in_err-answers_tell
unfolding answered_told
returns-in_err-answers_tell c =
    let e : c.from_residual-in_err-answers_tell.result ≡ Err c.in_err-answers_tell.field-0.0 = search rules in
    rw (e, ← c.keys_of-keys.ensures.n_value) (next _ _ _ c.in_ok-changes_tell.ensures (first _ _ _ c.in_err-answers_tell.ensures))

pub splits_tell-requires : goal.splits_tell-requires
splits_tell-requires c = answers-many _ _ (good _ c.in_ok-answers_tell.ensures)

pub returns : goal.returns
unfolding answered_told
returns c =
    rw (← c.keys_of-keys.ensures.n_value)
    (next _ _ _ c.in_ok-changes_tell.ensures (next _ _ _ c.in_ok-answers_tell.ensures c.splits_tell.ensures))
