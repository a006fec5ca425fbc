-- What is written meets the layout of an EB12, its totals, and no key stands in it twice.
-- Assumes nothing.
use Prim.Native.Nat.{ℕ, zero, suc, ◌+◌, ◌-◌, ◌^◌, ◌≤◌, ◌<◌}
use mathlib.Core.Bool.{true, cond}
use mathlib.Core.List.{List}
use mathlib.Core.Logic.{⊎_elim}
use mathlib.Core.Path.{◌≡◌, refl, sym, ◌∙◌, ap, subst}
use native.Mathlib.Nat.{mul-div_cancel}
use native.Mathlib.Numerals.{add-one}
use native.Mathlib.Omega.{arith}
use borrow.Author.Tests.{lt-ltb}
use lib.ListN.{length, get_or}
use Rattle.laws.specs.Least.{least, further}
use Rattle.laws.specs.Part.{part}
use Rattle.laws.specs.Sum.{sum}
use Rattle.laws.proofs.Bools.{either}
use Rattle.laws.proofs.Every.{every, every-at}
use Rattle.laws.proofs.Sums.{sum-start, sum_more, sum_same}
use Rattle.numbers.specs.Numbers.{word_of, letter_of}
use Rattle.numbers.proofs.Values.{says-within}
use Rattle.kinds.specs.Kinds.{EB11, limit}
use Rattle.tables.specs.Among.{code_is, place_among, is_among, Among}
use Rattle.tables.specs.Tables.{bank_enrolment_data}
use Rattle.tables.specs.Totals.{no_total, enrolment_totals, totals_of}
use Rattle.layout.specs.Items.{application_of}
use Rattle.records.specs.Records.{record_of, count_of, data_of, key_at}
use Rattle.records.specs.Quantities.{worth, worth_at, quantity_of}
use Rattle.reader.specs.Totals.{total_holds}
use Rattle.changes.specs.Halves.{record_in}
use Rattle.changes.specs.Answers.{our_codes, says_no}
use Rattle.changes.specs.Says.{Whole}
use Rattle.changes_writer.specs.Building.{refused_to, worth_if, refused_of, total_in, header_for, result_for, refused_for, file_for}
use Rattle.changes_writer.specs.Layout.{EB12, but, all_hold, refused_by, Meets}
use Rattle.changes_writer.proofs.Built.{refused-start, refused-most, yes-more, no_more}
use Rattle.changes_writer.proofs.Counts.{in_order, some-no}
use Rattle.changes_writer.proofs.Items.{refused-result}
use Rattle.changes_writer.proofs.Closing.{total-small, total-digits}
use Rattle.changes_writer.proofs.Laid.{header-laid, items-laid, trailer-laid, same_kind}
use Rattle.changes_writer.proofs.Holding.{ready, all-long, first, last, ours, old-long, stands, here, same_key}

-- "N" and one of our codes
all-refused : every (λ c. refused_by (result_for c)) our_codes ≡ true
unfolding refused_by our_codes result_for word_of letter_of is_among place_among code_is least further
all-refused = refl

result-refused : (code : ℕ) → Among our_codes code → refused_by (result_for code) ≡ true
result-refused code a = rw (← a.is) (every-at (λ c. refused_by (result_for c)) our_codes all-refused a.place 0 a.inside)

-- a sum over the refused records, by their places in the EB12 and by those in the EB11
module _ (answers : List ℕ) (f : ℕ → ℕ) where
  abbrev here-if : ℕ → ℕ
  here-if i = cond (says_no answers i) (f (refused_to answers i)) 0

  one_more : (n : ℕ) → sum f (refused_to answers n) ≡ sum here-if n → sum f (refused_to answers (n + 1)) ≡ sum here-if (n + 1)
  one_more n e =
      ⊎_elim
      (λ t. rw (← no_more answers answers n t, sum_more f (refused_to answers n), sum_more here-if n, t, e))
      (λ g. rw (← yes-more answers answers n g, sum_more here-if n, g, e) (omega arith))
      (either (says_no answers n))

  along : (n : ℕ) → sum f (refused_to answers n) ≡ sum here-if n
  along zero = ap (sum f) (sym (refused-start answers)) ∙ sum-start f ∙ sym (sum-start here-if)
  along (suc n) = rw add-one at (one_more n (along n))

-- what counts goes by the application kind alone
worth-like : (t : ℕ) → t < length (totals_of EB11) → (x y : List ℕ) → application_of x ≡ application_of y → worth (total_in t).3 x ≡ worth (total_in t).3 y
unfolding worth enrolment_totals
worth-like zero h x y e = refl
worth-like (suc zero) h x y e = rw e
worth-like (suc (suc zero)) h x y e = rw e
worth-like (suc (suc (suc zero))) h x y e = rw e
worth-like (suc (suc (suc (suc t)))) h x y e = absurd (omega arith)

module _ (s answers : List ℕ) (w : Whole s answers) where
  abbrev n : ℕ
  n = data_of EB11 s

  abbrev m : ℕ
  m = refused_to answers n

  abbrev file : List ℕ
  file = file_for s answers

  few : m ≤ limit
  few = omega (arith, refused-most answers n, (ready s answers w).meets.lengths.most)

  counted : count_of EB12 file ≡ m + 2
  unfolding count_of
  counted = rw (all-long s answers w) (mul-div_cancel (m + 2) (omega arith))

  -- record k + 1 is a refused one
  module _ (k : ℕ) (l : k < m) where
    abbrev i : ℕ
    i = (some-no answers n k l).0

    h : i < n
    h = (some-no answers n k l).1.0

    t : says_no answers i ≡ true
    t = (some-no answers n k l).1.1.0

    place : refused_to answers i ≡ k
    place = (some-no answers n k l).1.1.1

    made : record_of EB12 file (k + 1) ≡ refused_for (record_in s i) (k + 1) (get_or answers i 0)
    made =
        subst (λ (p : ℕ). record_of EB12 file (p + 1) ≡ refused_for (record_in s i) (p + 1) (get_or answers i 0)) place
        (stands s answers w i h t ∙ here s answers w i h t)

    record-laid : all_hold EB12.own (record_of EB12 file (k + 1)) (record_of EB12 file 0) (k + 1) (but 12 bank_enrolment_data) ≡ true
    unfolding header_for
    record-laid =
        rw (made, first s answers w)
        (items-laid s (ready s answers w).meets i h (k + 1) (get_or answers i 0) (ours s answers w i h t) (omega (arith, l, few)))

    result-laid : refused_by (part 91 5 (record_of EB12 file (k + 1))) ≡ true
    result-laid =
        rw (made, refused-result (record_in s i) (old-long s answers w i h t) (k + 1) (get_or answers i 0) (ours s answers w i h t))
        (result-refused (get_or answers i 0) (ours s answers w i h t))

  -- what the records of the file give is what the refused ones give
  kind-here : (i : ℕ) → i < n → says_no answers i ≡ true → application_of (record_of EB12 file (refused_to answers i + 1)) ≡ application_of (record_in s i)
  kind-here i h t =
      rw (stands s answers w i h t, here s answers w i h t)
      (same_kind s (ready s answers w).meets i h (refused_to answers i + 1) (get_or answers i 0) (ours s answers w i h t) (omega (arith, in_order answers i n h t, few)))

  gives : (u : ℕ) → u < length (totals_of EB11) → quantity_of EB12 file (total_in u).3 ≡ refused_of s answers (total_in u).3
  unfolding quantity_of refused_of worth_if worth_at
  gives u b =
      let many : data_of EB12 file ≡ m = omega (arith, counted) in
      rw many
      (along answers (λ k. worth (total_in u).3 (record_of EB12 file (k + 1))) n ∙
      sum_same _ _ n (λ i h. ⊎_elim (λ t. rw t (worth-like u b _ _ (kind-here i h t))) (λ f. rw f) (either (says_no answers i))))

  total-laid : (u : ℕ) → u < length (totals_of EB12) → total_holds EB12 file (get_or (totals_of EB12) u no_total) ≡ true
  unfolding total_holds
  total-laid u b =
      let at : count_of EB12 file - 1 ≡ m + 1 = omega (arith, counted) in
      let r = refused_of s answers (total_in u).3 in
      rw (gives u b, at, last s answers w, total-digits s answers (ready s answers w).meets u b)
      (says-within 8 r (omega arith) ∙ lt-ltb r (10 ^ 8) (total-small s answers (ready s answers w).meets u b))

  -- two records of the file with one key are one record of the EB11
  key_of : (k : ℕ) (l : k < m) → key_at EB12 file k ≡ key_at EB11 s (i k l)
  unfolding key_at
  key_of k l =
      subst (λ (p : ℕ). part 25 21 (record_of EB12 file (p + 1)) ≡ key_at EB11 s (i k l)) (place k l)
      (same_key s answers w (i k l) (h k l) (t k l))

  distinct : (a b : ℕ) → a < data_of EB12 file → b < data_of EB12 file → key_at EB12 file a ≡ key_at EB12 file b → a ≡ b
  distinct a b p q e =
      let many : data_of EB12 file ≡ m = omega (arith, counted) in
      let x = rw many at p in
      let y = rw many at q in
      let one : i a x ≡ i b y = (ready s answers w).meets.keys (i a x) (i b y) (h a x) (h b y) (sym (key_of a x) ∙ (e ∙ key_of b y)) in
      sym (place a x) ∙ (ap (refused_to answers) one ∙ place b y)

  -- *Layout*: what is written is a file of the layout of an EB12
  pub layout-met : Meets file m
  unfolding header_for
  layout-met = record {
    long = all-long s answers w;
    few = few;
    header = rw (first s answers w) (header-laid s (ready s answers w).meets);
    items = record-laid;
    results = result-laid;
    trailer = rw (first s answers w, last s answers w) (trailer-laid s (ready s answers w).meets answers (m + 1));
    totals = total-laid;
    keys = distinct;
  }
