-- How long a text is: never empty, and never longer than `longest`, whatever the two files are.
-- Assumes nothing.
use Prim.Native.Nat.{ℕ, zero, suc, ◌+◌, ◌*◌, ◌≤◌, ◌<◌}
use mathlib.Core.Bool.{true, false, cond}
use mathlib.Core.List.{List, [], ◌∷◌, ◌++◌}
use mathlib.Core.Path.{◌≡◌, refl, sym, ◌∙◌}
use mathlib.Core.Logic.{⊎_elim}
use native.Mathlib.Nat.{le_trans, suc-mul, add-le-add}
use native.Mathlib.Omega.{arith}
use lib.Dec.{eqb}
use lib.ListN.{length, get_or, take, drop, length-append}
use lib.Seq.{take_at}
use Rattle.laws.specs.Joined.{joined}
use Rattle.laws.specs.Tabulate.{tabulate}
use Rattle.laws.proofs.Bools.{either}
use Rattle.laws.proofs.Leasts.{least-is}
use Rattle.numbers.specs.Numbers.{letter_of}
use Rattle.kinds.specs.Kinds.{EB21}
use Rattle.answers.specs.declared.told.Answer.{Answer}
use Rattle.answers.specs.Answers.{refuses}
use Rattle.answers.proofs.Refusals.{refuses-zero}
use Rattle.records.specs.Records.{data_of}
use Rattle.tables.specs.declared.makers.Maker.{Maker}
use Rattle.tables.specs.declared.makers.Maker.TheVariants as makers
use Rattle.outcomes.specs.declared.cases.Outcome.{Outcome}
use Rattle.outcomes.specs.declared.cases.Outcome.TheVariants.{None, Whole, Part, Refused}
use Rattle.outcomes.specs.declared.sums.Sums.{Sums}
use Rattle.outcomes.specs.Outcomes.{maker_in, numbers_of}
use Rattle.posting.specs.Decimal.{last_left, width_of}
use Rattle.posting.specs.Lines.{number_then, code_then, accepted_word, refused_word, whole_word, part_word, word_for, none_end, bank_end, centre_end, maker_end, refusal_line, accepted_line, request_line, line_most}
use Rattle.posting.specs.Posting.{requests, longest, post_tells, line_at, accepted_text, post_text, post_size, post_after}
use Rattle.posting.proofs.Widths.{number-length}
use Rattle.posting.proofs.Posted.{requests-few, size_fits, after-fits, posted-short}

-- a number of at most 20 digits and what follows it; a code and what follows it
number-most : (n end : ℕ) → length (number_then n end) ≤ 21
unfolding width_of
number-most n end = omega (arith, number-length n end (width_of n) refl, (least-is (last_left n) 19).within)

code-five : (code end : ℕ) → length (code_then code end) ≡ 5
unfolding code_then tabulate
code-five code end = elim (eqb code 0x20202020) as (λ b. length (cond b (tabulate (letter_of 0x2D2D2D2D) 4) (tabulate (letter_of code) 4) ++ (end ∷ [])) ≡ 5) [ true ↦ refl | false ↦ refl ]

word-most : (o : Outcome) → length (word_for o) ≤ 8
unfolding whole_word part_word refused_word
word-most None = omega arith
word-most (Whole taken) = omega arith
word-most (Part taken notTaken code maker) = omega arith
word-most (Refused notTaken code maker) = omega arith

maker-most : (m : Maker) → length (maker_end m) ≤ 7
unfolding none_end bank_end centre_end
maker-most makers.None = omega arith
maker-most makers.Bank = omega arith
maker-most makers.Centre = omega arith

-- each line
refusal-most : (a : Answer) → length (refusal_line a) ≤ 100
unfolding refusal_line refused_word
refusal-most a =
    rw (
      length-append (number_then a.side 0x20) (number_then a.number 0x20 ++ (number_then a.rec 0x20 ++ (number_then a.item 0x20 ++ code_then a.code 0x0A))),
      length-append (number_then a.number 0x20) (number_then a.rec 0x20 ++ (number_then a.item 0x20 ++ code_then a.code 0x0A)),
      length-append (number_then a.rec 0x20) (number_then a.item 0x20 ++ code_then a.code 0x0A),
      length-append (number_then a.item 0x20) (code_then a.code 0x0A),
      code-five a.code 0x0A,
    )
    (omega (arith, number-most a.side 0x20, number-most a.number 0x20, number-most a.rec 0x20, number-most a.item 0x20))

accepted-most : (n : ℕ) (s : Sums) → length (accepted_line n s) ≤ 100
unfolding accepted_line accepted_word
accepted-most n s =
    rw (
      length-append (number_then n 0x20) (number_then s.asked 0x20 ++ (number_then s.taken 0x20 ++ number_then s.not_taken 0x0A)),
      length-append (number_then s.asked 0x20) (number_then s.taken 0x20 ++ number_then s.not_taken 0x0A),
      length-append (number_then s.taken 0x20) (number_then s.not_taken 0x0A),
    )
    (omega (arith, number-most n 0x20, number-most s.asked 0x20, number-most s.taken 0x20, number-most s.not_taken 0x0A))

request-most : (n : ℕ) (o : Outcome) → length (request_line n o) ≤ line_most
unfolding request_line
request-most n o =
    let a = get_or (numbers_of o) 1 0 in
    let b = get_or (numbers_of o) 2 0 in
    let c = code_then (get_or (numbers_of o) 3 0) 0x20 in
    let m = maker_end (maker_in o) in
    rw (
      length-append (number_then n 0x20) (word_for o ++ (number_then a 0x20 ++ (number_then b 0x20 ++ (c ++ m)))),
      length-append (word_for o) (number_then a 0x20 ++ (number_then b 0x20 ++ (c ++ m))),
      length-append (number_then a 0x20) (number_then b 0x20 ++ (c ++ m)),
      length-append (number_then b 0x20) (c ++ m),
      length-append c m,
      code-five (get_or (numbers_of o) 3 0) 0x20,
    )
    (omega (arith, number-most n 0x20, word-most o, number-most a 0x20, number-most b 0x20, maker-most (maker_in o)))

-- so many lines of at most so many bytes
joined-most : (f : ℕ → List ℕ) (b n : ℕ) → ((i : ℕ) → length (f i) ≤ b) → length (joined f n) ≤ n * b
unfolding joined
joined-most f b zero h = omega arith
joined-most f b (suc n) h = rw (length-append (joined f n) (f n), suc-mul n b) (omega (arith, joined-most f b n h, h n))

module _ (q r : List ℕ) where
  abbrev n : ℕ
  n = data_of EB21 q

  lines-most : n ≤ requests → length (accepted_text q r) ≤ longest
  unfolding accepted_text line_at
  lines-most few =
      let lines : length (joined (line_at q r) n) ≤ requests * line_most = omega (arith, joined-most (line_at q r) line_most n (λ i. request-most (i + 1) _)) in
      rw length-append (add-le-add (accepted-most n _) lines)

  -- *The text is bounded*: of any two files it is no longer than `longest`, so a buffer of that size always holds it
  pub text-most : length (post_text q r) ≤ longest
  unfolding post_text
  text-most = ⊎_elim bad good (either (refuses (post_tells q r)))
    where
      bad : refuses (post_tells q r) ≡ true → length (post_text q r) ≤ longest
      bad t = rw t (omega (arith, refusal-most (post_tells q r)))

      good : refuses (post_tells q r) ≡ false → length (post_text q r) ≤ longest
      good f =
          rw f (lines-most (requests-few q (posted-short q r (post_tells q r) refl (refuses-zero (post_tells q r) f))))

  -- and it is never empty
  pub text-some : 0 < length (post_text q r)
  unfolding post_text accepted_text accepted_line refusal_line accepted_word refused_word
  text-some = ⊎_elim (λ t. rw t (omega arith)) (λ f. rw f (omega arith)) (either (refuses (post_tells q r)))

  -- what a buffer of that size holds at its front after posting
  module _ (room after : List ℕ) (size : ℕ) (long : longest ≤ length room) (told : size ≡ post_size q r (length room)) (left : after ≡ post_after q r room) where
    text-fits : length (post_text q r) ≤ length room
    text-fits = le_trans text-most long

    pub text-size : size ≡ length (post_text q r)
    text-size = told ∙ size_fits q r (length room) text-fits

    pub text-taken : take size after ≡ post_text q r
    text-taken = rw (left, after-fits q r room text-fits) (take_at (post_text q r) (drop (length (post_text q r)) room) size (sym text-size))
