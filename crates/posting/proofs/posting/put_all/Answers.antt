-- The first line, then the others.
use Rattle.posting.proofs.Posted.{requests-few}
use Rattle.posting.specs.Posting.{accepted_text}
use mathlib.Core.Path.{refl, ◌∙◌}
use native.Mathlib.Omega.{arith}
use Rattle.posting.proofs.posting.put_all.Goals as goal

pub put_accepted-requires : goal.put_accepted-requires
put_accepted-requires c = rw c.requires.text_empty (omega arith)

pub put_requests-requires : goal.put_requests-requires
put_requests-requires c =
    let first = c.put_accepted in
    let few = requests-few c.args.request.now c.requires.request_len_bound in
    record {
      n_value = c.data_count-n.ensures;
      n_le_limit = omega (arith, c.data_count-n.ensures, c.requires.request_bound);
      results_value = c.requires.results_value;
      line_most_in_bounds = omega (arith, few, c.data_count-n.ensures, rw c.requires.text_empty at first.ensures.upper_bound);
    }

pub returns : goal.returns
unfolding accepted_text
returns c =
    c.put_requests.ensures ∙
    rw (c.put_accepted.ensures.text, c.requires.text_empty, c.data_count-n.ensures, c.sums_of-sums.ensures) refl
