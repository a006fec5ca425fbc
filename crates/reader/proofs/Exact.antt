-- A file is accepted exactly when it meets every rule, and the place of a refusal is the first.
-- Assumes nothing.
use Prim.Native.Nat.{ℕ, ◌+◌, ◌<◌}
use mathlib.Core.Bool.{true, false}
use mathlib.Core.List.{List}
use mathlib.Core.Path.{◌≡◌, refl, sym, ◌∙◌}
use mathlib.Core.Logic.{◌↔◌, ⊎_elim}
use native.Mathlib.Nat.{eq-or-lt_of_le}
use native.Mathlib.Omega.{arith}
use borrow.Author.Tests.{leb-false}
use lib.Dec.{leb}
use lib.ListN.{length, get_or}
use Rattle.laws.specs.Least.{least}
use Rattle.laws.proofs.Bools.{either}
use Rattle.laws.proofs.Leasts.{Least, least-is, least-before}
use Rattle.kinds.specs.declared.of_files.Kind.{Kind}
use Rattle.kinds.specs.Kinds.{limit}
use Rattle.tables.specs.Rows.{blank}
use Rattle.tables.specs.Totals.{totals_of}
use Rattle.answers.specs.declared.told.Answer.{Answer}
use Rattle.answers.specs.Answers.{accepted, refused, ◌then◌, first_told}
use Rattle.layout.specs.Judging.{row_tells, judge_by, judge_of}
use Rattle.answers.proofs.Refusals.{number_of, then-first, then-second, told, First, Good, told-all}
use Rattle.layout.proofs.Judged.{row-good, row-bad, row-holds, broken-number}
use Rattle.records.specs.Records.{count_of, data_of, record_of}
use Rattle.reader.specs.Judged.{judged_at, records_tell}
use Rattle.reader.specs.Totals.{total_tells, totals_tell}
use Rattle.reader.specs.Keys.{repeats, keys_tell}
use Rattle.reader.specs.Reading.{is_whole, length_tells, read_as}
use Rattle.reader.specs.Meets.{Lengths, rows_at, row_holds, RowsHold, total_at, TotalsHold, Meets}
use Rattle.reader.specs.First.{Says}
use Rattle.reader.proofs.Lengths.{length-right, length-good, good_length, length-short, length-long}
use Rattle.reader.proofs.Stages.{record-good, good-record, good-total, bad-total, total-good, keys-good, keys-bad, distinct-if, repeat-none}

module _ (k : Kind) (s : List ℕ) where
  -- a bad length is told as it is
  read-stops : (a : Answer) → length_tells k (length s) ≡ a → (a.number ≡ 0 → ⊥) → read_as k s ≡ a
  unfolding read_as
  read-stops a e ne = then-first _ _ (λ z. ne (number_of (sym e) ∙ z)) ∙ e

  pub read_short : is_whole k (length s) ≡ false → read_as k s ≡ refused 2
  read_short f = read-stops (refused 2) (length-short k s f) (λ z. omega arith)

  -- the stages after a good one
  pub after-length : Lengths k s → read_as k s ≡ (records_tell k s then totals_tell k s then keys_tell k s)
  unfolding read_as
  after-length l = then-second _ _ (number_of (good_length k s l))

  after-records : RowsHold k s (count_of k s) → (records_tell k s then totals_tell k s then keys_tell k s) ≡ (totals_tell k s then keys_tell k s)
  unfolding records_tell
  after-records h =
      then-second _ _ (number_of (told-all (judged_at k s) (count_of k s) (λ i l. good-record k s i (h i l))))

  after-totals : TotalsHold k s (length (totals_of k)) → (totals_tell k s then keys_tell k s) ≡ keys_tell k s
  unfolding totals_tell
  after-totals h =
      then-second _ _ (number_of (told-all (total_tells k s) (length (totals_of k)) (λ j l. good-total k s j (h j l))))

  -- the record of the first refusal, and its first broken row
  tells : ℕ → ℕ → Answer
  tells i = row_tells k.own (rows_at k s i) (record_of k s i) (record_of k s 0) i

  judged-tells : (i : ℕ) → judged_at k s i ≡ first_told (tells i) (length (rows_at k s i))
  unfolding judged_at judge_of judge_by tells
  judged-tells i = refl

  says_row : Lengths k s → (i : ℕ) → First (judged_at k s) (count_of k s) i → Says k s (judged_at k s i)
  unfolding tells
  says_row l i f = ⊎_elim none found (told (tells i) (length (rows_at k s i)))
    where
      none : Good (tells i) (length (rows_at k s i)) → Says k s (judged_at k s i)
      none g = absurd (f.bad (number_of (judged-tells i ∙ g.told)))

      fails : (j : ℕ) → First (tells i) (length (rows_at k s i)) j → row_holds k s i j ≡ false
      fails j r =
          ⊎_elim (λ t. absurd (r.bad (row-good k.own (rows_at k s i) (record_of k s i) (record_of k s 0) i j t))) (λ n. n) (either (row_holds k s i j))

      found : ((j : ℕ) × First (tells i) (length (rows_at k s i)) j) → Says k s (judged_at k s i)
      found p =
          let j = p.0 in
          let r = p.1 in
          rw (judged-tells i, r.told, row-bad k.own (rows_at k s i) (record_of k s i) (record_of k s 0) i j (fails j r))
          (Says.row i j l f.below r.below (fails j r)
          (λ m h. row-holds k.own (rows_at k s i) (record_of k s i) (record_of k s 0) i m (r.before m h))
          (λ m h. record-good k s m (f.before m h)))

  says-records : Lengths k s → ((i : ℕ) × First (judged_at k s) (count_of k s) i) → Says k s (read_as k s)
  unfolding records_tell
  says-records l p =
      let f = p.1 in
      rw (after-length l, then-first (records_tell k s) (totals_tell k s then keys_tell k s) (λ z. f.bad (number_of (sym f.told) ∙ z)), f.told)
      (says_row l p.0 f)

  says-totals : Lengths k s → RowsHold k s (count_of k s) → ((j : ℕ) × First (total_tells k s) (length (totals_of k)) j) → Says k s (read_as k s)
  unfolding totals_tell
  says-totals l h p =
      let j = p.0 in
      let f = p.1 in
      rw (
        after-length l,
        after-records h,
        then-first (totals_tell k s) (keys_tell k s) (λ z. f.bad (number_of (sym f.told) ∙ z)),
        f.told,
        bad-total k s j (fails j f),
      ) (Says.total j l h f.below (fails j f) (λ m b. total-good k s m (f.before m b)))
    where
      fails : (j : ℕ) → First (total_tells k s) (length (totals_of k)) j → total_at k s j ≡ false
      fails j f = ⊎_elim (λ t. absurd (f.bad (good-total k s j t))) (λ n. n) (either (total_at k s j))

  says-keys : Lengths k s → RowsHold k s (count_of k s) → TotalsHold k s (length (totals_of k)) → Says k s (read_as k s)
  says-keys l h t = rw (after-length l, after-records h, after-totals t) (⊎_elim none found (eq-or-lt_of_le r.within))
    where
      n : ℕ
      n = data_of k s

      r : Least (repeats k s) n (least (repeats k s) n)
      r = least-is (repeats k s) n

      none : least (repeats k s) n ≡ n → Says k s (keys_tell k s)
      none e =
          let free : (i : ℕ) → i < n → repeats k s i ≡ false = least-before (repeats k s) n e in
          rw (keys-good k s free) (Says.good (record { lengths = l; rows = h; totals = t; keys = distinct-if k s free }))

      found : least (repeats k s) n < n → Says k s (keys_tell k s)
      found b = rw (keys-bad k s b) (Says.key (least (repeats k s) n) l h t b (r.holds b) r.before)

  says-lengths : Lengths k s → Says k s (read_as k s)
  says-lengths l = ⊎_elim records (says-records l) (told (judged_at k s) (count_of k s))
    where
      records : Good (judged_at k s) (count_of k s) → Says k s (read_as k s)
      records g = ⊎_elim (λ t. says-keys l h (λ j b. total-good k s j (t.all j b))) (says-totals l h) (told (total_tells k s) (length (totals_of k)))
        where
          h : RowsHold k s (count_of k s)
          h i b = record-good k s i (g.all i b)

  -- *First refusal*: the answer names the first place at which something is wrong
  pub first-refusal : Says k s (read_as k s)
  first-refusal = ⊎_elim whole part (either (is_whole k (length s)))
    where
      stops : (a : Answer) → length_tells k (length s) ≡ a → (a.number ≡ 0 → ⊥) → Says k s a → Says k s (read_as k s)
      stops a e ne g = rw (read-stops a e ne) g

      part : is_whole k (length s) ≡ false → Says k s (read_as k s)
      part f = stops (refused 2) (length-short k s f) (λ z. omega arith) (Says.short f)

      fits : is_whole k (length s) ≡ true → leb (count_of k s) (limit + 2) ≡ true → Says k s (read_as k s)
      fits t u = says-lengths (length-good k s (number_of (length-right k s t u)))

      over : is_whole k (length s) ≡ true → leb (count_of k s) (limit + 2) ≡ false → Says k s (read_as k s)
      over t f = stops (refused 3) (length-long k s t f) (λ z. omega arith) (Says.long t (leb-false (count_of k s) (limit + 2) f))

      whole : is_whole k (length s) ≡ true → Says k s (read_as k s)
      whole t = ⊎_elim (fits t) (over t) (either (leb (count_of k s) (limit + 2)))

  -- an answer that says accepted says that the file meets every rule
  said-good : (a : Answer) → Says k s a → a.number ≡ 0 → Meets k s
  said-good a (Says.good m) e = m
  said-good a (Says.short f) e = absurd (omega arith)
  said-good a (Says.long t l) e = absurd (omega arith)
  said-good a (Says.row i j l b c f g h) e = absurd (broken-number i (get_or (rows_at k s i) j blank) e)
  said-good a (Says.total j l h b f g) e = absurd (omega arith)
  said-good a (Says.key i l h t b r g) e = absurd (omega arith)

  -- *Exact reading*: accepted exactly when the file meets every rule
  pub read-exact : (read_as k s ≡ accepted) ↔ Meets k s
  read-exact = (
    λ e. said-good (read_as k s) first-refusal (number_of e),
    λ m. after-length m.lengths ∙ (after-records m.rows ∙ (after-totals m.totals ∙ keys-good k s (repeat-none k s m.keys))),
  )

  -- number 0 is enough
  pub accepted-meets : (read_as k s).number ≡ 0 → Meets k s
  accepted-meets = said-good (read_as k s) first-refusal
