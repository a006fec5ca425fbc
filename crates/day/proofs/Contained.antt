-- The contents of a day: the test for them, and the names and lengths in them.
-- Assumes nothing.
use Prim.Native.Nat.{ℕ, ◌+◌, ◌≤◌, ◌<◌}
use mathlib.Core.Bool.{true, false, ◌&&◌}
use mathlib.Core.List.{List, [], ◌++◌}
use mathlib.Core.Path.{◌≡◌, sym, ◌∙◌}
use mathlib.Core.Logic.{◌↔◌, ⊎_elim}
use native.Mathlib.Nat.{le_trans}
use native.Mathlib.Omega.{arith}
use borrow.Author.Tests.{eqb-true, leb-true, eq-eqb, le-leb, not-false}
use lib.Dec.{leb}
use lib.ListN.{length, get_or, take, drop, replicate, length-append}
use lib.Seq.{length-take-le, get_or-take}
use Rattle.laws.specs.Least.{none}
use Rattle.laws.specs.Part.{part}
use Rattle.laws.specs.Tabulate.{tabulate}
use Rattle.laws.proofs.Bools.{either, and_left, and_right}
use Rattle.laws.proofs.Leasts.{none_each, none-if}
use Rattle.laws.proofs.Parts.{part_length}
use Rattle.laws.proofs.Tabs.{tab-length, fill-at}
use Rattle.text.specs.Characters.{digits}
use Rattle.numbers.proofs.Values.{value-size}
use Rattle.keys.specs.Stands.{key_in, Inside}
use Rattle.keys.proofs.Spaced.{spaced-start, spaced-key}
use Rattle.day.specs.Contents.{form_for, most, front, entry_at, names_at, width_in, count_in, name_in, digits_in, length_in, front_good, table_good, bad_length, form_good, contents_good}
use Rattle.day.specs.Bodies.{size_at, Short}
use Rattle.day.specs.First.{Contents}
use Rattle.day.proofs.Forms.{width-end, entry_next}

module _ (s : List ℕ) where
  -- the front by itself
  pub front-three : front_good s ≡ true → front ≤ length s
  unfolding front_good
  front-three t = leb-true front (length s) (and_left (leb front (length s)) (digits (part 1 2 s)) t)

  pub table-few : (n : ℕ) → table_good s n ≡ true → (n ≤ most) × (entry_at (width_in s) n ≤ length s)
  unfolding table_good
  table-few n t =
      let end = entry_at (width_in s) n in
      (leb-true n most (and_left (leb n most) (leb end (length s)) t), leb-true end (length s) (and_right (leb n most) (leb end (length s)) t))

  pub contents-good : contents_good s ≡ true → Contents s
  unfolding contents_good front_good bad_length form_good
  contents-good t =
      let n = count_in s in
      let lengths = none (bad_length s) n in
      let form = form_good s n in
      let f = and_left (front_good s) (table_good s n && (lengths && form)) t in
      let r = and_right (front_good s) (table_good s n && (lengths && form)) t in
      let g = and_left (table_good s n) (lengths && form) r in
      let l = and_right (table_good s n) (lengths && form) r in
      record {
        fewest = front-three f;
        counted = and_right (leb front (length s)) (digits (part 1 2 s)) f;
        few = (table-few n g).0;
        whole = (table-few n g).1;
        lengths = λ i h. not-false _ (none_each (bad_length s) n (and_left lengths form l) i h);
        formed = eqb-true (get_or s 0 0) (form_for (length_in s) n) (and_right lengths form l);
      }

  pub good-contents : Contents s → contents_good s ≡ true
  unfolding contents_good front_good table_good bad_length form_good
  good-contents c =
      rw (
        le-leb front (length s) c.fewest,
        c.counted,
        le-leb (count_in s) most c.few,
        le-leb (entry_at (width_in s) (count_in s)) (length s) c.whole,
        none-if (bad_length s) (count_in s) (λ i h. rw (c.lengths i h)),
      ) (eq-eqb (get_or s 0 0) (form_for (length_in s) (count_in s)) c.formed)

  pub contents-exact : (contents_good s ≡ true) ↔ Contents s
  contents-exact = (contents-good, good-contents)

  -- the entries first, then their lengths and the form
  pub entries-none : false ≡ (front_good s && table_good s (count_in s)) → false ≡ contents_good s
  unfolding contents_good
  entries-none e = ⊎_elim (λ t. let f = rw t at e in rw (t, ← f)) (λ f. rw f) (either (front_good s))

  pub entries-some : true ≡ (front_good s && table_good s (count_in s)) → (none (bad_length s) (count_in s) && form_good s (count_in s)) ≡ contents_good s
  unfolding contents_good
  entries-some e =
      let front = front_good s in
      let table = table_good s (count_in s) in
      rw (and_left front table (sym e), and_right front table (sym e))

  -- entry i lies within
  pub entry-inside : (width n i : ℕ) → entry_at width n ≤ length s → i < n → entry_at width i + (8 + width) ≤ length s
  entry-inside width n i h l = omega (arith, entry_next width n i l)

  -- the digits of a length are as many as the form says, so it is below the end
  pub digits_long : (n : ℕ) → entry_at (width_in s) n ≤ length s → (i : ℕ) → i < n → length (digits_in s i) ≡ width_in s
  unfolding digits_in
  digits_long n h i l = part_length (entry_at (width_in s) i + 8) (width_in s) s (omega (arith, entry-inside (width_in s) n i h l))

  pub short-in : (n : ℕ) → entry_at (width_in s) n ≤ length s → Short (length_in s) n
  unfolding length_in width_in
  short-in n h i l = le_trans (value-size (digits_in s i) (width_in s) (digits_long n h i l)) (width-end (get_or s 0 0))

  -- its name has eight bytes
  pub name-long : (n : ℕ) → entry_at (width_in s) n ≤ length s → (i : ℕ) → i < n → length (name_in s i) ≡ 8
  unfolding name_in
  name-long n h i l = part_length (entry_at (width_in s) i) 8 s (omega (arith, entry-inside (width_in s) n i h l))

  -- names are keys at a fixed distance
  pub name-key : (i : ℕ) → key_in [] (names_at (width_in s)) s i ≡ name_in s i
  unfolding name_in
  name-key i = spaced-key (names_at (width_in s)) s i

  pub names-inside : (width n : ℕ) → entry_at width n ≤ length s → Inside [] (names_at width) s n
  names-inside width n h i l = rw (spaced-start (names_at width) i) (omega (arith, entry-inside width n i h l))

  -- the list that is made of the lengths has room for them
  pub size_room : (n : ℕ) → n ≤ most → n ≤ length (tabulate (length_in s) n ++ drop n (replicate {A = ℕ} most 0))
  size_room n h = rw (length-append (tabulate (length_in s) n) (drop n (replicate most 0)), tab-length (length_in s) n) (omega arith)

  pub size_in : (n i : ℕ) → i < n → get_or (tabulate (length_in s) n ++ drop n (replicate most 0)) i 0 ≡ length_in s i
  size_in n i l = fill-at (length_in s) (replicate most 0) n i l

  -- the first m of them
  module _ (n m : ℕ) (h : m ≤ n) where
    abbrev firsts : List ℕ
    firsts = take m (tabulate (length_in s) n ++ drop n (replicate most 0))

    pub taken-at : (i : ℕ) → i < m → size_at firsts i ≡ length_in s i
    unfolding size_at
    taken-at i l = get_or-take m (tabulate (length_in s) n ++ drop n (replicate most 0)) i 0 l ∙ size_in n i (omega (arith, l, h))

    pub taken-long : n ≤ most → length firsts ≡ m
    taken-long few = length-take-le m (tabulate (length_in s) n ++ drop n (replicate most 0)) (le_trans h (size_room n few))

    pub taken-short : entry_at (width_in s) n ≤ length s → Short (size_at firsts) m
    taken-short whole i l = rw (taken-at i l) (short-in n whole i (omega (arith, l, h)))
