-- Which form a day file has: "2" exactly where a body has more than 99,999 bytes; a "2" that could be a "1" is refused.
-- Assumes nothing.
use Prim.Native.Nat.{ℕ, ◌<◌}
use mathlib.Core.Bool.{false}
use mathlib.Core.List.{List, [], ◌∷◌, ◌++◌}
use mathlib.Core.Path.{◌≡◌, refl, sym, ◌∙◌}
use mathlib.Core.Logic.{◌↔◌, ⊎_elim}
use native.Mathlib.Nat.{eq-or-lt_of_le}
use native.Mathlib.Omega.{arith}
use borrow.Author.Tests.{leb-true, le-leb, lt-leb}
use lib.ListN.{get_or}
use Rattle.laws.specs.Joined.{joined}
use Rattle.laws.specs.Least.{least, none}
use Rattle.laws.proofs.Bools.{either, clash}
use Rattle.laws.proofs.Leasts.{least-is, none_true, none_each, none-if}
use Rattle.numbers.specs.Numbers.{digits_of}
use Rattle.answers.specs.OfDay.{day_accepted, bad_contents}
use Rattle.answers.proofs.OfDay.{day-number}
use Rattle.day.specs.Contents.{form_one, form_two, width_of, long_at, form_for, count_in, length_in, contents_good}
use Rattle.day.specs.Reading.{read_of}
use Rattle.day.specs.Meets.{entry_of, file_of}
use Rattle.day.specs.First.{Contents}
use Rattle.day.specs.Long.{Long}
use Rattle.day.proofs.Contained.{contents-good}
use Rattle.day.proofs.Told.{read-30, read-contents}

module _ (size : ℕ → ℕ) (n : ℕ) where
  -- the form for lengths of which none is long, and for others
  pub form-one : ((i : ℕ) → i < n → size i < 100000) → form_for size n ≡ form_one
  unfolding form_for long_at
  form-one f = rw (none-if (long_at size) n (λ i h. lt-leb 100000 (size i) (f i h)))

  pub form-two : Long size n → form_for size n ≡ form_two
  unfolding form_for long_at
  form-two l = ⊎_elim (λ t. absurd (clash (le-leb 100000 (size l.body) l.long) (none_each (long_at size) n t l.body l.one))) (λ f. rw f) (either (none (long_at size) n))

  pub two-long : form_for size n ≡ form_two → Long size n
  unfolding form_for long_at
  two-long e = ⊎_elim (λ t. absurd (let z : ◌≡◌ {A = ℕ} 0x31 0x32 = rw t at e in omega arith)) some (either (none (long_at size) n))
    where
      some : none (long_at size) n ≡ false → Long size n
      some f =
          let r = least-is (long_at size) n in
          ⊎_elim (λ q. absurd (clash (none_true (long_at size) n q) f))
          (λ h. record { body = least (long_at size) n; one = h; long = leb-true 100000 (size (least (long_at size) n)) (r.holds h) })
          (eq-or-lt_of_le r.within)

-- *Form*: an accepted file is in form "2" exactly where a body is long
pub form-exact : (s : List ℕ) → read_of s ≡ day_accepted → (get_or s 0 0 ≡ form_two) ↔ Long (length_in s) (count_in s)
form-exact s e =
    let c = read-contents s (day-number e) in
    (λ f. two-long (length_in s) (count_in s) (sym c.formed ∙ f), λ l. c.formed ∙ form-two (length_in s) (count_in s) l)

-- *Needless*: form "2" with no long body is 30
pub needless-two : (s : List ℕ) → get_or s 0 0 ≡ form_two → ((i : ℕ) → i < count_in s → length_in s i < 100000) → read_of s ≡ bad_contents
needless-two s e f = read-30 s (⊎_elim (λ t. absurd (other (contents-good s t))) (λ z. z) (either (contents_good s)))
  where
    other : Contents s → ⊥
    other c = let z : ◌≡◌ {A = ℕ} 0x32 0x31 = sym e ∙ (c.formed ∙ form-one (length_in s) (count_in s) f) in omega arith

-- *As before*: where no body is long, the file is in form "1", with five digits for each length
pub file-one :
    (name : ℕ → List ℕ) (size : ℕ → ℕ) (n : ℕ) (bodies : List ℕ) → ((i : ℕ) → i < n → size i < 100000) →
    file_of name size n bodies ≡ (form_one ∷ []) ++ (digits_of 2 n ++ (joined (entry_of 5 name size) n ++ bodies))
unfolding file_of width_of
file-one name size n bodies f = rw (form-one size n f) refl
