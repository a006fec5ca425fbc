-- Where keys and totals lie in a file.
-- Assumes nothing.
use Prim.Native.Nat.{ℕ, ◌+◌, ◌*◌, ◌≤◌, ◌<◌}
use mathlib.Core.List.{List, []}
use mathlib.Core.Bool.{true}
use mathlib.Core.Path.{◌≡◌, refl, sym, ◌∙◌, ap}
use native.Mathlib.Nat.{suc-mul}
use native.Mathlib.Numerals.{add-one}
use native.Mathlib.Omega.{arith}
use borrow.Author.Tests.{leb-true}
use lib.Dec.{leb, ltb}
use lib.ListN.{length, get_or}
use Rattle.laws.specs.Least.{least, some}
use Rattle.laws.specs.Part.{part}
use Rattle.laws.proofs.Every.{every, every-at}
use Rattle.laws.proofs.Leasts.{least-same}
use Rattle.laws.proofs.Parts.{part-part}
use Rattle.kinds.specs.declared.of_files.Kind.{Kind}
use Rattle.tables.specs.declared.totals.Total.{Total}
use Rattle.kinds.specs.Kinds.{fixed_for, fixed_of}
use Rattle.kinds.proofs.Forms.{of-form}
use Rattle.tables.specs.Totals.{no_total, enrolment_totals, debit_request_totals, debit_result_totals, totals_for, totals_of}
use Rattle.records.specs.Records.{record_at, count_of, data_of, key_at}
use Rattle.keys.specs.Keys.{shares_in, repeats_in}
use Rattle.keys.specs.Stands.{key_in, Inside}
use Rattle.keys.proofs.Spaced.{spaced-start, spaced-key}
use Rattle.reader.specs.Keys.{spacing_of, shares_key, repeats, repeat_told, keys_tell}
use Rattle.records.proofs.Places.{record-inside}

-- a key lies inside its record
pub key-inside : (k : Kind) → (fixed_of k).key.start + (fixed_of k).key.size ≤ (fixed_of k).size
key-inside k = leb-true _ (fixed_of k).size (of-form (λ f. leb ((fixed_for f).key.start + (fixed_for f).key.size) (fixed_for f).size) refl k.form)

-- a total lies inside every trailer
totals-inside : (k : Kind) → every (λ (t : Total). leb (t.1 + t.2) 120) (totals_of k) ≡ true
unfolding enrolment_totals debit_request_totals debit_result_totals
totals-inside k = of-form (λ f. every (λ (t : Total). leb (t.1 + t.2) 120) (totals_for f)) refl k.form

pub total_inside : (k : Kind) (j : ℕ) → j < length (totals_of k) → (get_or (totals_of k) j no_total).1 + (get_or (totals_of k) j no_total).2 ≤ 120
total_inside k j h = leb-true _ 120 (every-at (λ (t : Total). leb (t.1 + t.2) 120) (totals_of k) (totals-inside k) j no_total h)

-- the key of data record i + 1 by its place in the file
pub key-place :
    (k : Kind) (s : List ℕ) (i : ℕ) → i + 1 < count_of k s →
    key_at k s i ≡ key_in [] (spacing_of k) s i
unfolding key_at record_at
key-place k s i h =
    part-part (fixed_of k).key.start (fixed_of k).key.size ((i + 1) * (fixed_of k).size) (fixed_of k).size s (key-inside k) (record-inside k s (i + 1) h) ∙
    ap (λ (a : ℕ). part a (fixed_of k).key.size s) (rw (add-one, suc-mul) (omega arith)) ∙
    sym (spaced-key (spacing_of k) s i)

pub repeat-place :
    (k : Kind) (s : List ℕ) (i : ℕ) → i + 1 < count_of k s →
    repeats_in (key_in [] (spacing_of k) s) i ≡ repeats k s i
unfolding repeats repeats_in shares_key shares_in some
repeat-place k s i h =
    ap (λ (m : ℕ). ltb m i)
    (least-same _ _ i (λ j l. rw (← key-place k s i h, ← key-place k s j (omega arith))))

pub first-place :
    (k : Kind) (s : List ℕ) (n : ℕ) → n + 2 ≤ count_of k s →
    least (repeats_in (key_in [] (spacing_of k) s)) n ≡ least (repeats k s) n
first-place k s n h = least-same _ _ n (λ i l. repeat-place k s i (omega arith))

-- what the first repeated place tells
pub keys-by :
    (k : Kind) (s : List ℕ) (i : ℕ) → 2 ≤ count_of k s →
    i ≡ least (repeats_in (key_in [] (spacing_of k) s)) (data_of k s) →
    repeat_told k (data_of k s) i ≡ keys_tell k s
unfolding keys_tell
keys-by k s i h e = ap (repeat_told k (data_of k s)) (e ∙ first-place k s (data_of k s) (omega arith))

pub key_fits : (k : Kind) (s : List ℕ) (n : ℕ) → n + 2 ≤ count_of k s → Inside [] (spacing_of k) s n
key_fits k s n h i l =
    rw (spaced-start (spacing_of k) i) (omega (arith, rw (add-one, suc-mul) at (record-inside k s (i + 1) (omega arith)), key-inside k))

-- where the first key of a file begins fits a word, as it lies within the file
pub first_fits : (k : Kind) (s : List ℕ) → 2 ≤ count_of k s → length s < 0x10000000000000000 → (spacing_of k).offset < 0x10000000000000000
first_fits k s h l = omega (arith, record-inside k s 1 (omega arith), key-inside k)
