-- The loop of a list: what a value takes keeps it within the bytes, and what is left is a list exactly when all was. A value of no level,
-- unframed, plain, holding a list or a broken one is as `size_within` works it out.
use Rattle.std.proofs.Common.{◌≡◌, ℕ, suc, ◌-◌, true, false, length, get_or, drop, length-drop, sym, ◌∙◌, ap, arith}
use borrow.Author.Tests.{eqb-true, eqb-false}
use Rattle.signed.specs.Shape.{list_bit}
use Rattle.signed.specs.Checking.{contents_in, framed_in, some_size, is_list, size_within}
use Rattle.signed.proofs.Framing.{front-within, framed-contents}
use Rattle.signed.proofs.Listing.{list-end, list-stop, list-more, framed-within, size_none, size-plain, size-holding, size-broken, size-unframed}
use Rattle.signed.proofs.Sizes.{size_not, there_size, not_size}
use Rattle.signed.proofs.values.+list_value.Goals as goal

pub list-returns-in_default : goal.list-returns-in_default
list-returns-in_default t c =
    let l = c.loop-more in
    let full = eqb-false (length l.more.now) 0 (sym c.is_empty.ensures ∙ c.loop-more-test.true) in
    let none = not_size (size_within c.args.left l.more.now) (sym c.value.ensures ∙ c.in_default.is) in
    sym (l.invariant ∙ list-stop (size_within c.args.left) l.more.now (omega (arith, full)) none)

pub list-loop-more-smaller : goal.list-loop-more-smaller
list-loop-more-smaller t c =
    let left = c.args.left in
    let more = c.loop-more.more.now in
    let full = eqb-false (length more) 0 (sym c.is_empty.ensures ∙ c.loop-more-test.true) in
    let size = there_size (size_within left more) c.in-Some.size (sym c.value.ensures ∙ c.in-Some.is) in
    rw (c.rest-more.ensures, length-drop) (omega (arith, full, size.0, size.1))

pub list-loop-more-preserved : goal.list-loop-more-preserved
list-loop-more-preserved t c =
    let left = c.args.left in
    let l = c.loop-more in
    let full = eqb-false (length l.more.now) 0 (sym c.is_empty.ensures ∙ c.loop-more-test.true) in
    let size = there_size (size_within left l.more.now) c.in-Some.size (sym c.value.ensures ∙ c.in-Some.is) in
    l.invariant ∙ (list-more (size_within left) l.more.now (omega (arith, full)) size.0 ∙
    ap (is_list (size_within left)) (ap (λ (n : ℕ). drop n l.more.now) size.1 ∙ sym c.rest-more.ensures))

pub list-returns : goal.list-returns
list-returns t c =
    let l = c.loop-more in
    sym (l.invariant ∙ list-end (size_within c.args.left) l.more.now (eqb-true (length l.more.now) 0 (sym c.is_empty.ensures ∙ c.loop-more-test.false)))

pub value-returns-then-left-eq0 : goal.value-returns-then-left-eq0
value-returns-then-left-eq0 t c = rw c.if-left-eq0.true (sym (size_not _ (size_none c.args.s.now)))

pub value-returns-in_err-size : goal.value-returns-in_err-size
value-returns-in_err-size t c =
    let s = c.args.s.now in
    let left = c.args.left in
    let e : left ≡ suc (left - 1) = omega arith in
    let none = not_size (framed_in s) (sym c.framed.ensures ∙ c.in_err-size.was) in
    c.from_residual.ensures ∙ sym (size_not (size_within left s) (ap (λ (n : ℕ). size_within n s) e ∙ size-unframed (left - 1) s none))

pub value-returns-then-list_bit-eq0 : goal.value-returns-then-list_bit-eq0
value-returns-then-list_bit-eq0 t c =
    let s = c.args.s.now in
    let left = c.args.left in
    let e : left ≡ suc (left - 1) = omega arith in
    let bit : list_bit (get_or s 0 0) ≡ 0 = rw (← c.byte.ensures.value) (sym c.list_bit.ensures ∙ c.if-list_bit-eq0.true) in
    sym c.in_ok-size.was ∙ (c.framed.ensures ∙ ap some_size (sym (ap (λ (n : ℕ). size_within n s) e ∙ size-plain (left - 1) s bit)))

pub value-overflow_sub-size : goal.value-overflow_sub-size
value-overflow_sub-size t c =
    let s = c.args.s.now in
    let size = there_size (framed_in s) c.in_ok-size.size (sym c.framed.ensures ∙ c.in_ok-size.was) in
    omega (arith, size.1, c.front-front.ensures.value, front-within s size.0)

pub value-part-requires : goal.value-part-requires
value-part-requires t c =
    let s = c.args.s.now in
    let size = there_size (framed_in s) c.in_ok-size.size (sym c.framed.ensures ∙ c.in_ok-size.was) in
    omega (arith, size.1, c.front-front.ensures.value, front-within s size.0, framed-within s)

pub value-returns-then-list : goal.value-returns-then-list
value-returns-then-list t c =
    let s = c.args.s.now in
    let left = c.args.left in
    let size = there_size (framed_in s) c.in_ok-size.size (sym c.framed.ensures ∙ c.in_ok-size.was) in
    let e : left ≡ suc (left - 1) = omega arith in
    let inside : c.part.result.now ≡ contents_in s = c.part.ensures.result_value ∙ rw (c.front-front.ensures.value, ← size.1) (framed-contents s size.0) in
    let listed : is_list (size_within (left - 1)) (contents_in s) ≡ true = rw (← inside) (sym c.list.ensures ∙ c.if-list.true) in
    sym c.in_ok-size.was ∙ (c.framed.ensures ∙ ap some_size (sym (ap (λ (n : ℕ). size_within n s) e ∙ size-holding (left - 1) s listed)))

pub value-returns : goal.value-returns
value-returns t c =
    let s = c.args.s.now in
    let left = c.args.left in
    let size = there_size (framed_in s) c.in_ok-size.size (sym c.framed.ensures ∙ c.in_ok-size.was) in
    let e : left ≡ suc (left - 1) = omega arith in
    let inside : c.part.result.now ≡ contents_in s = c.part.ensures.result_value ∙ rw (c.front-front.ensures.value, ← size.1) (framed-contents s size.0) in
    let listed : is_list (size_within (left - 1)) (contents_in s) ≡ false = rw (← inside) (sym c.list.ensures ∙ c.if-list.false) in
    let bit : list_bit (get_or s 0 0) ≡ 0 → ⊥ = λ z. c.if-list_bit-eq0.false (c.list_bit.ensures ∙ rw c.byte.ensures.value z) in
    sym (size_not (size_within left s) (ap (λ (n : ℕ). size_within n s) e ∙ size-broken (left - 1) s bit listed))
