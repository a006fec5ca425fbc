-- What is decided: names and lengths given well, and the bodies told of as in reading.
-- Assumes nothing.
use Prim.Native.Nat.{ℕ, ◌+◌, ◌*◌, ◌≤◌, ◌<◌}
use mathlib.Core.Bool.{true, false}
use mathlib.Core.List.{List, []}
use mathlib.Core.Path.{◌≡◌, refl, sym, ◌∙◌, ap}
use mathlib.Core.Logic.{◌↔◌, ⊎_elim}
use native.Mathlib.Omega.{arith}
use borrow.Author.Tests.{eqb-true, leb-true, leb-false, eq-eqb, le-leb, lt-leb}
use lib.Dec.{leb, eqb}
use lib.ListN.{length}
use Rattle.laws.specs.Least.{none}
use Rattle.laws.specs.Part.{part}
use Rattle.laws.proofs.Bools.{and_left, and_right, either}
use Rattle.laws.proofs.Leasts.{none_each, none-if}
use Rattle.laws.proofs.Parts.{part_length}
use Rattle.laws.proofs.Sums.{sum_bound}
use Rattle.answers.specs.OfDay.{day_accepted, bad_contents}
use Rattle.answers.proofs.OfDay.{day-number}
use Rattle.keys.specs.declared.stands.Spacing.{Spacing}
use Rattle.keys.specs.Stands.{key_in, Inside}
use Rattle.keys.proofs.Spaced.{spaced-start, spaced-key}
use Rattle.day.specs.Contents.{most, length_end}
use Rattle.day.specs.Bodies.{size_at, list_told}
use Rattle.day.specs.First.{Listed}
use Rattle.day.proofs.Listed.{list_same}
use Rattle.day.proofs.Listing.{list-good, good-list}
use Rattle.day_writer.specs.Writing.{name_of, names_good, too_long, given_good, decided}
use Rattle.day_writer.specs.Given.{Given}

-- where the names stand
abbrev pub names-given : Spacing
names-given = record { stride = 8; offset = 0; size = 8 }

module _ (names lengths : List ℕ) where
  pub good-given : given_good names lengths ≡ true → Given names lengths
  unfolding given_good names_good too_long
  good-given t =
      let n = and_left (names_good names (length lengths)) (none (too_long lengths) (length lengths)) t in
      record {
        few = leb-true (length lengths) most (and_left (leb (length lengths) most) (eqb (length names) (length lengths * 8)) n);
        one_each = eqb-true (length names) (length lengths * 8) (and_right (leb (length lengths) most) (eqb (length names) (length lengths * 8)) n);
        short = λ i h. leb-false length_end (size_at lengths i) (none_each (too_long lengths) (length lengths) (and_right (names_good names (length lengths)) (none (too_long lengths) (length lengths)) t) i h);
      }

  pub given-good : Given names lengths → given_good names lengths ≡ true
  unfolding given_good names_good too_long
  given-good g =
      rw (le-leb (length lengths) most g.few, eq-eqb (length names) (length lengths * 8) g.one_each)
      (none-if (too_long lengths) (length lengths) (λ i h. lt-leb length_end (size_at lengths i) (g.short i h)))

  -- the name of each has eight bytes, and is a key at a fixed distance
  pub name-long : Given names lengths → (i : ℕ) → i < length lengths → length (name_of names i) ≡ 8
  unfolding name_of
  name-long g i h = part_length (i * 8) 8 names (omega (arith, g.one_each))

  name-key : (i : ℕ) → key_in [] names-given names i ≡ name_of names i
  unfolding name_of
  name-key i = let there : i * 8 + 0 ≡ i * 8 = omega arith in spaced-key names-given names i ∙ ap (λ (a : ℕ). part a 8 names) there

  pub names-inside : Given names lengths → Inside [] names-given names (length lengths)
  names-inside g i h = rw (spaced-start names-given i) (omega (arith, g.one_each))

  module _ (bodies : List ℕ) where
    pub decided-30 : given_good names lengths ≡ false → decided names lengths bodies ≡ bad_contents
    unfolding decided
    decided-30 f = rw f

    pub decided-list : given_good names lengths ≡ true → decided names lengths bodies ≡ list_told (name_of names) (size_at lengths) (length lengths) bodies
    unfolding decided
    decided-list t = rw t

    pub decided-by : given_good names lengths ≡ true → list_told (key_in [] names-given names) (size_at lengths) (length lengths) bodies ≡ decided names lengths bodies
    decided-by t =
        list_same (key_in [] names-given names) (name_of names) (size_at lengths) (size_at lengths) (length lengths) bodies (λ i h. name-key i) (λ i h. refl) ∙
        sym (decided-list t)

    -- number 0: given well, and the bodies are good
    decided-good : (decided names lengths bodies).number ≡ 0 → given_good names lengths ≡ true
    decided-good z =
        ⊎_elim (λ t. t) (λ f. absurd (let e : ◌≡◌ {A = ℕ} 30 0 = sym (day-number (decided-30 f)) ∙ z in omega arith)) (either (given_good names lengths))

    pub decided-given : (decided names lengths bodies).number ≡ 0 → Given names lengths
    decided-given z = good-given (decided-good z)

    pub decided-listed : (decided names lengths bodies).number ≡ 0 → Listed (name_of names) (size_at lengths) (length lengths) bodies
    decided-listed z =
        list-good (name_of names) (size_at lengths) (length lengths) bodies (day-number (sym (decided-list (decided-good z))) ∙ z)

    pub listed-decided : Given names lengths → Listed (name_of names) (size_at lengths) (length lengths) bodies → decided names lengths bodies ≡ day_accepted
    listed-decided g l = decided-list (given-good g) ∙ good-list (name_of names) (size_at lengths) (length lengths) bodies l

    -- *Exact*: decided good exactly when given well, with bodies that belong to their names
    pub decided-exact : (decided names lengths bodies ≡ day_accepted) ↔ (Given names lengths × Listed (name_of names) (size_at lengths) (length lengths) bodies)
    decided-exact = (λ e. (decided-given (day-number e), decided-listed (day-number e)), λ p. listed-decided p.0 p.1)

    -- bodies are not too many bytes
    pub bodies-few : (decided names lengths bodies).number ≡ 0 → length bodies ≤ most * length_end
    bodies-few z =
        let g = decided-given z in
        omega (arith, g.few, (decided-listed z).all, sum_bound (size_at lengths) length_end (length lengths) (λ k h. omega (arith, g.short k h)))
