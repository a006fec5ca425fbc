-- By whether the result has a request.
use Rattle.std.proofs.Common.{◌∙◌}
use native.Mathlib.Omega.{arith}
use Rattle.kinds.specs.Pairs.{result_kind}
use Rattle.agreement.proofs.Places.{same_size}
use Rattle.records.proofs.Places.{count_small}
use Rattle.pair.specs.Results.{result_tells}
use Rattle.pair.proofs.results.result_tells.Goals as goal
use borrow.Author.Tests.{lt-ltb, le-ltb}

pub overflow_add-rec : goal.overflow_add-rec
overflow_add-rec c = omega (arith, count_small (result_kind c.args.pair) c.args.res.now, c.requires.j_bound)

pub returns-then-data_count-i : goal.returns-then-data_count-i
unfolding result_tells
returns-then-data_count-i c =
    let none = rw (c.data_count.ensures, c.request_kind-asked.ensures) at c.if-data_count-i.true in
    rw (← c.requires.i_value, le-ltb _ _ none, c.of.ensures, c.result_kind-answered.ensures)

pub overflow_add-j : goal.overflow_add-j
overflow_add-j c = omega (arith, count_small (result_kind c.args.pair) c.args.res.now, c.requires.j_bound)

pub meets_tell-requires : goal.meets_tell-requires
meets_tell-requires c =
    record {
      request_len = rw (← c.request_kind-asked.ensures) c.record_of.ensures.result_len;
      res_len = c.record_of-2.ensures.result_len ∙ rw c.result_kind-answered.ensures (same_size c.args.pair);
    }

pub returns : goal.returns
unfolding result_tells
returns c =
    let has = rw (c.data_count.ensures, c.request_kind-asked.ensures) at c.if-data_count-i.false in
    rw (
      ← c.requires.i_value,
      lt-ltb _ _ has,
      ← c.request_kind-asked.ensures,
      ← c.result_kind-answered.ensures,
      ← c.record_of.ensures.result_value,
      ← c.record_of-2.ensures.result_value,
    ) c.meets_tell.ensures
