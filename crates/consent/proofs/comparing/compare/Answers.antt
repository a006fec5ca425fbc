-- One stage after the other.
use Rattle.std.proofs.Common.{rules, ◌≡◌, sym, ◌∙◌}
use Rattle.std.specs.Prelude.{Ok, Err}
use Rattle.answers.specs.Answers.{on_side}
use Rattle.answers.specs.Refusing.{answer_of}
use Rattle.answers.specs.OfTwo.{told_of_two}
use Rattle.answers.specs.declared.of_two.OfTwo.TheVariants.{Both}
use Rattle.answers.proofs.Tellings.{bad, good, bad-two, first-two}
use Rattle.evidence.specs.Stopping.{looked_by}
use Rattle.evidence.proofs.Stopped.{looked-answer, looked-count}
use Rattle.evidence.proofs.Looked.{read-good, read_all, read-keys, records-few, place_at, first-inside}
use Rattle.consent.specs.Comparing.{compare_of}
use Rattle.consent.proofs.Stages.{by-evidence, by-headers, by-records, header-there, block-there}
use Rattle.consent.proofs.comparing.compare.Goals as goal

pub returns-in_err-map_err : goal.returns-in_err-map_err
unfolding compare_of
returns-in_err-map_err c =
    let e : c.from_residual.result ≡ Err c.in_err-map_err.field-0.0 = search rules in
    let told : told_of_two c.in_err-map_err.field-0.0 ≡ on_side 1 (answer_of c.read_as.result) = search rules in
    rw e (first-two _ _ _ (rw c.read_as.ensures at told))

pub returns-in_err-m : goal.returns-in_err-m
returns-in_err-m c =
    let a = c.args in
    let e : c.from_residual-in_err-m.result ≡ Err c.in_err-m.field-0.0 = search rules in
    let one : (answer_of c.read_as.result).number ≡ 0 = search rules in
    let told : told_of_two c.in_err-m.field-0.0 ≡ on_side 2 (looked_by c.look.result).answer = search rules in
    let side = rw c.look.ensures.value at told in
    rw e (side ∙ sym (by-evidence a.exempt a.enrolments.now a.evidence.now (rw c.read_as.ensures at one) (bad-two _ _ side)))

pub headers_tell-requires : goal.headers_tell-requires
headers_tell-requires c =
    let a = c.args in
    let one : (answer_of c.read_as.result).number ≡ 0 = search rules in
    let two : (looked_by c.look.result).answer.number ≡ 0 = search rules in
    record {
      in_bounds = header-there a.exempt a.enrolments.now a.evidence.now (rw c.read_as.ensures at one);
      in_bounds_2 = block-there a.exempt a.enrolments.now a.evidence.now (rw c.read_as.ensures at one) (rw c.look.ensures.value at two);
    }

pub returns-in_err-headers_tell : goal.returns-in_err-headers_tell
returns-in_err-headers_tell c =
    let a = c.args in
    let e : c.from_residual-in_err-headers_tell.result ≡ Err (Both c.in_err-headers_tell.field-0.0) = search rules in
    let one : (answer_of c.read_as.result).number ≡ 0 = search rules in
    let two : (looked_by c.look.result).answer.number ≡ 0 = search rules in
    let told = c.in_err-headers_tell.ensures in
    rw e (told ∙ sym (by-headers a.exempt a.enrolments.now a.evidence.now (rw c.read_as.ensures at one) (rw c.look.ensures.value at two) (bad _ _ told)))

pub records_tell-requires : goal.records_tell-requires
records_tell-requires c =
    let a = c.args in
    let s = a.evidence.now in
    let found : c.look.result ≡ Ok c.in_ok-m.m = search rules in
    let k = c.look.ensures in
    let looked = rw found at k.value in
    let two = good _ (looked-answer _ _ c.in_ok-m.m _ looked) in
    let count = looked-count _ _ c.in_ok-m.m _ looked in
    let all = read_all a.exempt s two in
    record {
      m_le_limit = rw (count, all) (records-few a.exempt s (read-good a.exempt s two).1.1);
      m_value = count ∙ all;
      evidence_value = read-keys a.exempt s two;
      by_index = λ i l. rw k.places_after (place_at a.exempt s _ i (rw (← count) l));
      by_index_2 = λ i l. first-inside s i (rw (← all, ← count) l);
    }

pub returns-in_err-records_tell : goal.returns-in_err-records_tell
returns-in_err-records_tell c =
    let a = c.args in
    let e : c.from_residual-in_err-records_tell.result ≡ Err (Both c.in_err-records_tell.field-0.0) = search rules in
    let one : (answer_of c.read_as.result).number ≡ 0 = search rules in
    let two : (looked_by c.look.result).answer.number ≡ 0 = search rules in
    rw e (c.in_err-records_tell.ensures ∙ sym (by-records a.exempt a.enrolments.now a.evidence.now (rw c.read_as.ensures at one) (rw c.look.ensures.value at two) (good _ c.in_ok-headers_tell.ensures)))

pub returns : goal.returns
returns c =
    let a = c.args in
    let one : (answer_of c.read_as.result).number ≡ 0 = search rules in
    let two : (looked_by c.look.result).answer.number ≡ 0 = search rules in
    c.in_ok-records_tell.ensures ∙ sym (by-records a.exempt a.enrolments.now a.evidence.now (rw c.read_as.ensures at one) (rw c.look.ensures.value at two) (good _ c.in_ok-headers_tell.ensures))
