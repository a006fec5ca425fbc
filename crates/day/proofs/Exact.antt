-- *Exact*: a day file is accepted exactly when it is form, count, contents and bodies. *First refusal*: what each answer says.
-- Assumes nothing.
use Prim.Native.Nat.{ℕ}
use mathlib.Core.List.{List, [], ◌∷◌}
use mathlib.Core.Path.{◌≡◌, refl, sym, ◌∙◌}
use mathlib.Core.Logic.{◌↔◌, ⊎_elim}
use native.Mathlib.Nat.{not-suc-le-zero}
use native.Mathlib.Omega.{arith}
use lib.ListN.{length}
use Rattle.laws.specs.Joined.{joined}
use Rattle.laws.specs.Least.{none, least}
use Rattle.laws.proofs.Bools.{either, clash}
use Rattle.laws.proofs.Joins.{joined-long}
use Rattle.numbers.specs.Numbers.{digits_of}
use Rattle.answers.specs.OfDay.{day_accepted}
use Rattle.answers.proofs.OfDay.{day-number}
use Rattle.day.specs.Contents.{form_one, form_for, count_in, name_in, length_in, bodies_in, contents_good}
use Rattle.day.specs.Bodies.{body_in, list_told}
use Rattle.day.specs.Reading.{read_of}
use Rattle.day.specs.Meets.{file_of, Composed, Meets}
use Rattle.day.specs.First.{Contents, Listed, Says, contents, listed}
use Rattle.day.specs.Holds.{Holds}
use Rattle.day.proofs.Contained.{contents-good, good-contents, short-in, name-long}
use Rattle.day.proofs.Joined.{body-long, bodies-joined, body-found}
use Rattle.day.proofs.Listed.{list_same}
use Rattle.day.proofs.Listing.{list-says, list-good, good-list}
use Rattle.day.proofs.Told.{read-30, read-list, read-good}
use Rattle.day.proofs.Filed.{file-same, file-holds, file-taken}

module _ (s : List ℕ) where
  -- *First refusal*
  pub first-refusal : Says s (read_of s)
  first-refusal =
      ⊎_elim
      (λ t. rw (read-list s t) (listed _ (contents-good s t) (list-says (name_in s) (length_in s) (count_in s) (bodies_in s))))
      (λ f. rw (read-30 s f) (contents (λ c. clash (good-contents s c) f)))
      (either (contents_good s))

  -- accepted bytes list bodies that are good; number 0 is enough
  pub read-listed : (read_of s).number ≡ 0 → Listed (name_in s) (length_in s) (count_in s) (bodies_in s)
  read-listed z = list-good (name_in s) (length_in s) (count_in s) (bodies_in s) (day-number (sym (read-list s (read-good s z))) ∙ z)

  pub listed-read : Contents s → Listed (name_in s) (length_in s) (count_in s) (bodies_in s) → read_of s ≡ day_accepted
  listed-read c l = read-list s (good-contents s c) ∙ good-list (name_in s) (length_in s) (count_in s) (bodies_in s) l

  -- number 0 is accepted
  pub read-zero : (read_of s).number ≡ 0 → read_of s ≡ day_accepted
  read-zero z = listed-read (contents-good s (read-good s z)) (read-listed z)

-- what is listed in bytes that begin with contents composes them
taken-meets : (s : List ℕ) → Contents s → Listed (name_in s) (length_in s) (count_in s) (bodies_in s) → Meets s
taken-meets s c l = record {
  count = count_in s;
  name = name_in s;
  body = body_in (length_in s) (bodies_in s);
  composed = record {
    all = sym (file-same (name_in s) (name_in s) _ (length_in s) (count_in s) _ (λ i h. refl) (body-long (length_in s) (count_in s) (bodies_in s) l.all) ∙ rw (bodies-joined (length_in s) (count_in s) (bodies_in s) l.all) (file-taken s c));
    few = c.few;
    each = λ i h. record {
      named = name-long s (count_in s) c.whole i h;
      short = rw (body-long (length_in s) (count_in s) (bodies_in s) l.all i h) (short-in s (count_in s) c.whole i h);
      belongs = l.each i h;
    };
    names = l.names;
  };
}

-- what stands in a file that is composed
pub composed-holds : (s : List ℕ) (n : ℕ) (name body : ℕ → List ℕ) → Composed s n name body → Holds s name (λ i. length (body i)) n (joined body n)
composed-holds s n name body m =
    rw m.all (file-holds name (λ i. length (body i)) n (joined body n) m.few (λ i h. (m.each i h).named) (λ i h. (m.each i h).short))

composed-listed : (n : ℕ) (name body : ℕ → List ℕ) (s : List ℕ) → Composed s n name body → Listed name (λ i. length (body i)) n (joined body n)
composed-listed n name body s m = record {
  all = sym (joined-long body n);
  names = m.names;
  each = λ i h. rw (body-found body n i h) (m.each i h).belongs;
}

-- a file that holds what is told good is accepted, and any other is told the same
pub holds-told :
    (s : List ℕ) (name : ℕ → List ℕ) (size : ℕ → ℕ) (n : ℕ) (bodies : List ℕ) → Holds s name size n bodies → read_of s ≡ list_told name size n bodies
holds-told s name size n bodies h =
    read-list s (good-contents s h.contents) ∙
    rw (h.count, h.behind) (list_same (name_in s) name (length_in s) size n bodies h.names h.lengths)

-- *Exact*
pub read-exact : (s : List ℕ) → (read_of s ≡ day_accepted) ↔ Meets s
read-exact s = (forth, back)
  where
    forth : read_of s ≡ day_accepted → Meets s
    forth e = taken-meets s (contents-good s (read-good s (day-number e))) (read-listed s (day-number e))

    back : Meets s → read_of s ≡ day_accepted
    back m =
        let k = m.composed in
        holds-told s m.name (λ i. length (m.body i)) m.count (joined m.body m.count) (composed-holds s m.count m.name m.body k) ∙
        good-list m.name (λ i. length (m.body i)) m.count (joined m.body m.count) (composed-listed m.count m.name m.body s k)

-- a day of no bodies is accepted
pub empty-day : read_of (form_one ∷ 0x30 ∷ 0x30 ∷ []) ≡ day_accepted
unfolding file_of digits_of joined form_for none least
empty-day = (read-exact (form_one ∷ 0x30 ∷ 0x30 ∷ [])).1 (record {
  count = 0;
  name = λ i. [];
  body = λ i. [];
  composed = record { all = refl; few = omega arith; each = λ i h. absurd (not-suc-le-zero h); names = λ i j h. absurd (not-suc-le-zero h) };
})
