-- The pair with the first result, the pair with the second, then the requests.
use Rattle.std.proofs.Common.{rules, ◌≡◌, sym, ◌∙◌}
use Rattle.std.specs.Prelude.{Err}
use Rattle.answers.specs.OfTwo.{answer_of_two, refused_story}
use Rattle.two_results.specs.Comparing.{story}
use Rattle.two_results.proofs.Staged.{pair_read, bad-story, story-first, story-second, story-both}
use Rattle.two_results.proofs.comparing.story_as.Goals as goal

pub returns-in_err-map_err : goal.returns-in_err-map_err
returns-in_err-map_err c =
    let a = c.args in
    let e : c.from_residual.result ≡ Err c.in_err-map_err.field-0.0 = search rules in
    let told : refused_story c.in_err-map_err.field-0.0 ≡ story (answer_of_two c.pair_by.result) 1 0 = search rules in
    let first = rw c.pair_by.ensures at told in
    rw e (first ∙ sym (story-first a.pair a.request.now a.first.now a.second.now (bad-story _ _ 1 first)))

pub returns-in_err-map_err-2 : goal.returns-in_err-map_err-2
returns-in_err-map_err-2 c =
    let a = c.args in
    let e : c.from_residual-in_err-map_err-2.result ≡ Err c.in_err-map_err-2.field-0.0 = search rules in
    let good : (answer_of_two c.pair_by.result).number ≡ 0 = search rules in
    let told : refused_story c.in_err-map_err-2.field-0.0 ≡ story (answer_of_two c.pair_by-2.result) 2 0 = search rules in
    let second = rw c.pair_by-2.ensures at told in
    rw e (second ∙ sym (story-second a.pair a.request.now a.first.now a.second.now (rw c.pair_by.ensures at good) (bad-story _ _ 2 second)))

pub first_other-requires : goal.first_other-requires
first_other-requires c =
    let a = c.args in
    let first : (answer_of_two c.pair_by.result).number ≡ 0 = search rules in
    let second : (answer_of_two c.pair_by-2.result).number ≡ 0 = search rules in
    record {
      both_read = pair_read a.pair a.request.now a.first.now (rw c.pair_by.ensures at first);
      both_read_2 = pair_read a.pair a.request.now a.second.now (rw c.pair_by-2.ensures at second);
    }

pub returns : goal.returns
returns c =
    let a = c.args in
    let first : (answer_of_two c.pair_by.result).number ≡ 0 = search rules in
    let second : (answer_of_two c.pair_by-2.result).number ≡ 0 = search rules in
    rw c.first_other.ensures (sym (story-both a.pair a.request.now a.first.now a.second.now (rw c.pair_by.ensures at first) (rw c.pair_by-2.ensures at second)))
