-- The last digit is dropped until the one that is asked stands last.
use Prim.Native.Nat.{ℕ, ◌+◌, ◌-◌, ◌/◌}
use lib.ListN.{get_or}
use borrow.Author.Rules.{rules}
use mathlib.Core.Path.{◌≡◌, sym, ◌∙◌, ap}
use native.Mathlib.Omega.{arith}
use Rattle.numbers.specs.Numbers.{digits_of}
use Rattle.numbers.proofs.Digits.{digit-down, digit-here, digit-past}
use Rattle.numbers.proofs.base_ten.digit_at.Goals as goal

pub returns-then-w-d : goal.returns-then-w-d
returns-then-w-d c = sym (digit-past _ _ _ c.if-w-d.true)

pub loop-init : goal.loop-init
loop-init c =
    let a = c.args in
    let all : a.w ≡ a.w + a.d + 1 - (a.d + 1) = omega arith in
    (search rules, ap (λ (k : ℕ). get_or (digits_of k a.n) a.d 0) all)

pub loop-preserved : goal.loop-preserved
loop-preserved c =
    let l = c.loop in
    let a = c.args in
    let at = a.w + a.d + 1 - l.counter in
    let next : at - 1 ≡ a.w + a.d + 1 - (l.counter + 1) = omega arith in
    (search rules, l.invariant.1 ∙ (digit-down at l.rest a.d (omega arith) ∙ ap (λ (k : ℕ). get_or (digits_of k (l.rest / 10)) a.d 0) next))

pub returns : goal.returns
returns c =
    let l = c.loop in
    let a = c.args in
    sym (l.invariant.1 ∙ digit-here (a.w + a.d + 1 - l.counter) l.rest a.d (omega arith) (omega arith))
