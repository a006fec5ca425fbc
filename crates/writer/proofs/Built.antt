-- What the reader says of a file to be written is told by its records as they are built, one by one.
-- Assumes nothing.
use Prim.Native.Nat.{ℕ, ◌+◌, ◌-◌, ◌*◌, ◌≤◌, ◌<◌}
use mathlib.Core.List.{List, [], ◌++◌}
use mathlib.Core.Path.{◌≡◌, sym, ◌∙◌, ap}
use native.Mathlib.Nat.{le_of_eq}
use native.Mathlib.Omega.{arith}
use borrow.Author.Tests.{lt-ltb}
use lib.Dec.{ltb}
use lib.ListN.{length, get_or, length-append}
use lib.Seq.{take_all}
use Rattle.laws.specs.Least.{least, some}
use Rattle.laws.specs.Part.{part}
use Rattle.laws.specs.Sum.{sum}
use Rattle.laws.proofs.Leasts.{least-same}
use Rattle.laws.proofs.Sums.{sum_same}
use Rattle.laws.proofs.Tabs.{tab-at}
use Rattle.kinds.specs.declared.of_files.Kind.{Kind}
use Rattle.kinds.specs.Kinds.{fixed_of, limit}
use Rattle.tables.specs.declared.totals.Quantity.{Quantity}
use Rattle.tables.specs.Totals.{no_total, totals_of, most_totals}
use Rattle.answers.specs.Answers.{◌then◌}
use Rattle.answers.proofs.Refusals.{number_of, then-second, told_same}
use Rattle.records.specs.Records.{record_at, record_of, count_of, key_at}
use Rattle.records.specs.Quantities.{worth, worth_at, quantity_of}
use Rattle.keys.specs.Keys.{shares_in, repeats_in}
use Rattle.keys.specs.Stands.{key_in, Inside}
use Rattle.keys.proofs.Spaced.{spaced-start, spaced-key}
use Rattle.reader.specs.Judged.{role_of, judged_at, records_tell}
use Rattle.reader.specs.Totals.{total_holds, total_tells, totals_tell}
use Rattle.reader.specs.Keys.{shares_key, repeats, repeat_told, keys_tell}
use Rattle.reader.specs.Reading.{read_as}
use Rattle.reader.proofs.Lengths.{good_length}
use Rattle.reader.proofs.Places.{key-inside}
use Rattle.reader.proofs.Roles.{role-data, role-trailer}
use Rattle.builder.specs.Records.{Head, header_built, body_count, built_worth, built_quantity, built_total, built_totals, trailer_built}
use Rattle.builder.specs.Files.{front_of, file_of}
use Rattle.builder.proofs.Bodies.{body-inside, built-part}
use Rattle.builder.proofs.Built.{file-length}
use Rattle.builder.proofs.Lengths.{trailer-length}
use Rattle.tables.proofs.Counts.{totals-few}
use Rattle.builder.proofs.Sizes.{body-size, key-behind, one_more}
use Rattle.laws.proofs.Pieces.{part-behind}
use Rattle.writer.specs.Writing.{body_spacing, header_told, data_told, trailer_told, sum_told, sums_told, keys_told, built_told}
use Rattle.writer.proofs.Taken.{file-count, file-header, file-data}
use Rattle.writer.proofs.Agree.{file-lengths}
use Rattle.writer.proofs.Told.{told-ends}

-- each key lies inside the bodies
pub keys-inside : (k : Kind) (bodies : List ℕ) → Inside [] (body_spacing k) bodies (body_count k bodies)
keys-inside k bodies i l =
    rw (spaced-start (body_spacing k) i)
    (omega (arith, body-inside k bodies i l, key-inside k, key-behind k, body-size k))

module _ (k : Kind) (h : Head) (bodies : List ℕ) where
  abbrev w : ℕ
  w = (fixed_of k).size

  abbrev n : ℕ
  n = body_count k bodies

  abbrev s : List ℕ
  s = file_of k h bodies

  abbrev H : List ℕ
  H = header_built k h

  abbrev sums : List ℕ
  sums = built_totals k H bodies

  abbrev T : List ℕ
  T = trailer_built k H sums

  -- the last record is the trailer that was built
  pub file-trailer : record_of k s (n + 1) ≡ T
  unfolding record_at file_of part
  file-trailer =
      ap (λ (a : ℕ). part a w (front_of k h bodies ++ T)) start ∙
      (part-behind (front_of k h bodies) T ((n + 1) * w) 0 w front ∙ take_all w T (le_of_eq (trailer-length k H sums)))
    where
      start : (n + 1) * w ≡ (n + 1) * w + 0
      start = omega arith

      front : length (front_of k h bodies) ≡ (n + 1) * w
      front = omega (arith, sym (length-append (front_of k h bodies) T) ∙ file-length k h bodies, trailer-length k H sums, one_more n w)

  last-number : count_of k s - 1 ≡ n + 1
  last-number = omega (arith, file-count k h bodies)

  -- its data records give what was built
  pub file-quantity : (q : Quantity) → quantity_of k s q ≡ built_quantity k H bodies q
  unfolding quantity_of built_quantity worth_at built_worth
  file-quantity q =
      ap (sum (worth_at k s q)) (omega (arith, file-count k h bodies)) ∙
      sum_same (worth_at k s q) (built_worth k H bodies q) n (λ i l. ap (worth q) (file-data k h bodies i l))

  -- total t is among the sums
  pub total-built : (t : ℕ) → t < length (totals_of k) → get_or sums t 0 ≡ built_quantity k H bodies (get_or (totals_of k) t no_total).3
  unfolding built_totals built_total
  total-built t l = tab-at (built_total k H bodies) most_totals t (omega (arith, totals-few k)) ∙ rw (lt-ltb t (length (totals_of k)) l)

  -- each record is judged as it is built
  judged-header : judged_at k s 0 ≡ header_told k H
  unfolding judged_at header_told role_of
  judged-header = rw (file-header k h bodies)

  judged-data : (i : ℕ) → i < n → judged_at k s (i + 1) ≡ data_told k H bodies i
  unfolding judged_at data_told
  judged-data i l = rw (role-data (count_of k s) (i + 1) (omega arith) (omega (arith, file-count k h bodies)), file-data k h bodies i l, file-header k h bodies)

  judged-trailer : judged_at k s (n + 1) ≡ trailer_told k H sums n
  unfolding judged_at trailer_told
  judged-trailer = rw (role-trailer (count_of k s) (n + 1) (omega arith) (omega (arith, file-count k h bodies)), file-trailer, file-header k h bodies)

  -- the totals by the sums
  total-told : (t : ℕ) → t < length (totals_of k) → total_tells k s t ≡ sum_told k T sums (n + 1) t
  unfolding total_tells total_holds sum_told
  total-told t l = rw (last-number, file-trailer, file-quantity (get_or (totals_of k) t no_total).3, total-built t l)

  totals-told : totals_tell k s ≡ sums_told k T sums (n + 1)
  unfolding totals_tell sums_told
  totals-told = told_same (total_tells k s) (sum_told k T sums (n + 1)) (length (totals_of k)) total-told

  -- the keys by their places in the bodies
  pub key-built : (i : ℕ) → i < n → key_at k s i ≡ key_in [] (body_spacing k) bodies i
  unfolding key_at
  key-built i l =
      rw (file-data k h bodies i l) (built-part k H bodies i (fixed_of k).key.start (fixed_of k).key.size l (key-behind k) (key-inside k)) ∙
      sym (spaced-key (body_spacing k) bodies i)

  repeat-built : (i : ℕ) → i < n → repeats k s i ≡ repeats_in (key_in [] (body_spacing k) bodies) i
  unfolding repeats repeats_in shares_key shares_in some
  repeat-built i l =
      ap (λ (m : ℕ). ltb m i) (least-same _ _ i (λ j b. rw (key-built i l, key-built j (omega arith))))

  keys-told : keys_tell k s ≡ keys_told k bodies
  unfolding keys_tell keys_told
  keys-told =
      ap (λ (m : ℕ). repeat_told k m (least (repeats k s) m)) (omega (arith, file-count k h bodies)) ∙
      ap (repeat_told k n) (least-same (repeats k s) (repeats_in (key_in [] (body_spacing k) bodies)) n repeat-built)

  -- the records, one by one, before what follows
  records-told : (records_tell k s then sums_told k T sums (n + 1) then keys_told k bodies) ≡ built_told k H bodies
  unfolding records_tell built_told
  records-told =
      rw (
        file-count k h bodies,
        told-ends (judged_at k s) (sums_told k T sums (n + 1) then keys_told k bodies) n,
        judged-header,
        told_same (λ i. judged_at k s (i + 1)) (data_told k H bodies) n judged-data,
        judged-trailer,
      )

  -- *Told as built*: reading the file to be written says what its records say as they are built, one by one
  pub read-built : n ≤ limit → read_as k s ≡ built_told k H bodies
  unfolding read_as
  read-built l =
      then-second _ _ (number_of (good_length k s (file-lengths k h bodies l))) ∙ rw (totals-told, keys-told) records-told
