-- The items of each record of an EB12: those that are stored, and those that stay.
-- Assumes nothing.
use Prim.Native.Nat.{ℕ, ◌+◌, ◌≤◌}
use mathlib.Core.Bool.{true}
use mathlib.Core.List.{List, [], ◌∷◌}
use mathlib.Core.Path.{◌≡◌, refl, sym, ◌∙◌, ap}
use native.Mathlib.Omega.{arith}
use borrow.Author.Tests.{eqb-true}
use lib.Dec.{eqb}
use lib.ListN.{length}
use Rattle.laws.specs.Part.{part}
use Rattle.laws.specs.Stored.{stored}
use Rattle.laws.proofs.Every.{every, every-at}
use Rattle.laws.proofs.Parts.{part-part}
use Rattle.laws.proofs.Stores.{stored-length, stored_here, stored-before, stored-behind}
use Rattle.numbers.specs.Numbers.{digits_of, word_of, letter_of}
use Rattle.numbers.proofs.Values.{digits-length}
use Rattle.tables.specs.Among.{Among}
use Rattle.changes.specs.Answers.{our_codes}
use Rattle.changes_writer.specs.Building.{name, result_for, refused_for}
use Rattle.changes_writer.specs.Says.{Headed, Refused}

-- the four bytes of a code say the code
all_say : every (λ c. eqb (word_of (part 1 4 (result_for c))) c) our_codes ≡ true
unfolding our_codes result_for word_of letter_of part
all_say = refl

letters-say : (code : ℕ) → Among our_codes code → word_of (part 1 4 (result_for code)) ≡ code
letters-say code a =
    eqb-true (word_of (part 1 4 (result_for code))) code
    (rw (← a.is) (every-at (λ c. eqb (word_of (part 1 4 (result_for c))) c) our_codes all_say a.place 0 a.inside))

-- a record under the other name
module _ (rec : List ℕ) (long : length rec ≡ 120) where
  fits : 19 + length name ≤ length rec
  unfolding name
  fits = omega (arith, long)

  pub named_here : part 19 4 (stored 19 name rec) ≡ name
  unfolding name
  named_here = stored_here 19 name rec fits 4 refl

  pub named-before : (a c : ℕ) → a + c ≤ 19 → part a c (stored 19 name rec) ≡ part a c rec
  named-before a c h = stored-before 19 name rec fits a c h

  pub named-behind : (a c : ℕ) → 23 ≤ a → part a c (stored 19 name rec) ≡ part a c rec
  unfolding name
  named-behind a c h = stored-behind 19 name rec fits a c h

  pub headed : Headed rec (stored 19 name rec)
  headed = record { before = named-before 0 19 (omega arith); named = named_here; behind = named-behind 23 97 (omega arith) }

-- a refused record
module _ (rec : List ℕ) (long : length rec ≡ 120) (serial code : ℕ) (ours : Among our_codes code) where
  abbrev first : List ℕ
  first = stored 1 (digits_of 8 serial) rec

  digits-fit : 1 + length (digits_of 8 serial) ≤ length rec
  digits-fit = omega (arith, digits-length 8 serial, long)

  first-long : length first ≡ 120
  first-long = stored-length 1 (digits_of 8 serial) rec digits-fit ∙ long

  result_fits : 91 + length (result_for code) ≤ length first
  unfolding result_for
  result_fits = omega (arith, first-long)

  abbrev new : List ℕ
  new = stored 91 (result_for code) first

  new-long : length new ≡ 120
  new-long = stored-length 91 (result_for code) first result_fits ∙ first-long

  result-here : part 91 5 new ≡ result_for code
  unfolding result_for
  result-here = stored_here 91 (result_for code) first result_fits 5 refl

  kept-before : (a c : ℕ) → a + c ≤ 91 → part a c new ≡ part a c first
  kept-before a c h = stored-before 91 (result_for code) first result_fits a c h

  kept-behind : (a c : ℕ) → 96 ≤ a → part a c new ≡ part a c first
  unfolding result_for
  kept-behind a c h = stored-behind 91 (result_for code) first result_fits a c h

  past-serial : (a c : ℕ) → 9 ≤ a → part a c first ≡ part a c rec
  past-serial a c h = stored-behind 1 (digits_of 8 serial) rec digits-fit a c (omega (arith, digits-length 8 serial))

  in-result : (a c : ℕ) → a + c ≤ 5 → part (91 + a) c new ≡ part a c (result_for code)
  in-result a c h = sym (part-part a c 91 5 new h (omega (arith, new-long))) ∙ ap (part a c) result-here

  -- all that is neither the serial nor the result stays
  pub refused-mark : part 0 1 (refused_for rec serial code) ≡ part 0 1 rec
  unfolding refused_for
  refused-mark = kept-before 0 1 (omega arith) ∙ stored-before 1 (digits_of 8 serial) rec digits-fit 0 1 (omega arith)

  pub refused-serial : part 1 8 (refused_for rec serial code) ≡ digits_of 8 serial
  unfolding refused_for
  refused-serial = kept-before 1 8 (omega arith) ∙ stored_here 1 (digits_of 8 serial) rec digits-fit 8 (digits-length 8 serial)

  pub refused-before : (a c : ℕ) → 9 ≤ a → a + c ≤ 91 → part a c (refused_for rec serial code) ≡ part a c rec
  unfolding refused_for
  refused-before a c h l = kept-before a c l ∙ past-serial a c h

  pub refused-result : part 91 5 (refused_for rec serial code) ≡ result_for code
  unfolding refused_for
  refused-result = result-here

  pub refused-behind : (a c : ℕ) → 96 ≤ a → part a c (refused_for rec serial code) ≡ part a c rec
  unfolding refused_for
  refused-behind a c h = kept-behind a c h ∙ past-serial a c (omega arith)

  starts : part 0 1 (result_for code) ≡ 0x4E ∷ []
  unfolding result_for part
  starts = refl

  pub refused-holds : Refused rec serial code (refused_for rec serial code)
  unfolding refused_for
  refused-holds = record {
    mark = refused-mark;
    numbered = refused-serial;
    before = refused-before 9 82 (omega arith) (omega arith);
    no = in-result 0 1 (omega arith) ∙ starts;
    told = ap word_of (in-result 1 4 (omega arith)) ∙ letters-say code ours;
    behind = refused-behind 96 24 (omega arith);
  }
