-- Read, then written: a request file that meets every rule, taken apart, is written again byte by byte.
-- Assumes nothing.
use Prim.Native.Nat.{ℕ, ◌+◌, ◌-◌, ◌*◌, ◌≤◌, ◌<◌}
use mathlib.Core.Bool.{true}
use mathlib.Core.List.{List, ◌++◌}
use mathlib.Core.Path.{◌≡◌, sym, ◌∙◌, ap}
use native.Mathlib.Nat.{le_of_eq, mul-div_cancel}
use native.Mathlib.Omega.{arith}
use borrow.Author.Tests.{eq-eqb, ne_eqb, lt-ltb, le-leb}
use lib.ListN.{length, get_or, drop}
use lib.Seq.{take_all}
use Rattle.laws.specs.Joined.{joined}
use Rattle.laws.specs.Part.{part}
use Rattle.laws.specs.Sum.{sum}
use Rattle.laws.proofs.Joins.{sized-part, joined_same, joined-first, joined-more, parts-joined}
use Rattle.laws.proofs.Parts.{part_length, part_at}
use Rattle.laws.proofs.Sums.{sum_same}
use Rattle.kinds.specs.declared.of_files.Kind.{Kind}
use Rattle.std.specs.Prelude.{Some}
use Rattle.kinds.specs.declared.of_files.Role.TheVariants.{Header, Data, Trailer}
use Rattle.tables.specs.declared.totals.Quantity.{Quantity}
use Rattle.kinds.specs.Kinds.{fixed_of, limit}
use Rattle.tables.specs.Tables.{rows_of}
use Rattle.tables.specs.Totals.{no_total, totals_of, most_totals}
use Rattle.tables.proofs.Tiling.{size-least}
use Rattle.layout.proofs.Judged.{All-hold}
use Rattle.answers.specs.Answers.{accepted}
use Rattle.records.specs.Records.{record_at, record_of, count_of, data_of, trailer_of}
use Rattle.reader.specs.Judged.{role_of}
use Rattle.records.specs.Quantities.{worth, worth_at, quantity_of}
use Rattle.reader.specs.Totals.{total_holds}
use Rattle.reader.specs.Meets.{Lengths, Meets}
use Rattle.reader.specs.Reading.{read_of}
use Rattle.records.proofs.Places.{record-inside}
use Rattle.reader.proofs.Cut.{record-length}
use Rattle.reader.proofs.Exact.{read-exact, accepted-meets}
use Rattle.reader.proofs.Accepted.{read_named_lem}
use Rattle.builder.specs.Records.{header_built, body_count, data_built, built_worth, built_quantity, built_total, built_totals, trailer_built}
use Rattle.builder.specs.Files.{front_of, file_of}
use Rattle.writer.specs.Writing.{write_as, after_as, write_of, room_after}
use Rattle.kinds.specs.Kinds.{request_of}
use Rattle.writer.specs.Apart.{head_in, body_at, bodies_in}
use Rattle.writer.specs.Says.{Bytes}
use Rattle.tables.proofs.Counts.{totals-few}
use Rattle.laws.proofs.Tabs.{tab-at}
use Rattle.builder.proofs.Sizes.{body-size}
use Rattle.writer.proofs.Sizes.{item6-inside, item7-inside}
use Rattle.writer.proofs.Taken.{Fits, each_fits, bodies-sized, bodies-length}
use Rattle.writer.proofs.Requests.{request-kind, request-written}
use Rattle.writer.proofs.Again.{Said, header-again, data-again, trailer-again}

body-some : (k : Kind) → 0 < (fixed_of k).body
body-some k = omega (arith, size-least k, body-size k)

-- a file of whole records is its header, its data records and its trailer
pub file-records :
    (k : Kind) (s : List ℕ) → Lengths k s →
    s ≡ (record_of k s 0 ++ joined (λ i. record_of k s (i + 1)) (data_of k s)) ++ trailer_of k s
unfolding record_at
file-records k s l =
    sym (take_all (count_of k s * (fixed_of k).size) s (le_of_eq l.whole)) ∙
    (sym (parts-joined (fixed_of k).size (count_of k s) s (le_of_eq (sym l.whole))) ∙
    (ap (joined (record_of k s)) (omega (arith, l.fewest)) ∙
    (joined-more (record_of k s) (data_of k s + 1) ∙
    rw (joined-first (record_of k s) (data_of k s))
    (ap (λ (i : ℕ). (record_of k s 0 ++ joined (λ j. record_of k s (j + 1)) (data_of k s)) ++ record_of k s i) (omega (arith, l.fewest))))))

module _ (k : Kind) (s : List ℕ) (m : Meets k s) where
  abbrev n : ℕ
  n = data_of k s

  abbrev H : List ℕ
  H = record_of k s 0

  abbrev b : ℕ
  b = (fixed_of k).body

  count : count_of k s ≡ n + 2
  count = omega (arith, m.lengths.fewest)

  -- the bodies are as many as the data records, and each is the one of its record
  bodies-count : body_count k (bodies_in k s) ≡ n
  unfolding body_count
  bodies-count = rw (bodies-length k s) (mul-div_cancel n (body-some k))

  bodies-part : (i : ℕ) → i < n → part (i * b) b (bodies_in k s) ≡ part 19 b (record_of k s (i + 1))
  unfolding bodies_in body_at
  bodies-part i l = sized-part (body_at k s) b n (bodies-sized k s) i l

  -- what is taken from a file fits
  pub taken-fits : Fits k (head_in k s) (bodies_in k s)
  unfolding head_in
  taken-fits =
      record {
        date = part_length 27 6 H (omega (arith, size-least k, long));
        code = part_length 9 10 H (omega (arith, size-least k, long));
        item6 = part_length 33 _ H (rw long (item6-inside k));
        item7 = part_length 40 _ H (rw long (item7-inside k));
        whole = rw bodies-count (bodies-length k s);
      }
    where
      long : length H ≡ (fixed_of k).size
      long = record-length k s m 0 (omega (arith, count))

  -- the rows of each record, by its role
  header-holds : All-hold k.own (rows_of k Header) H H 0
  unfolding role_of
  header-holds = m.rows 0 (omega (arith, count))

  data-holds : (i : ℕ) → i < n → All-hold k.own (rows_of k Data) (record_of k s (i + 1)) H (i + 1)
  unfolding role_of
  data-holds i l = rw role at (m.rows (i + 1) (omega (arith, count)))
    where
      role : role_of (count_of k s) (i + 1) ≡ Data
      role = rw (ne_eqb (i + 1) 0 (λ e. omega arith), ne_eqb (i + 1 + 1) (count_of k s) (λ e. omega (arith, count)))

  trailer-holds : All-hold k.own (rows_of k Trailer) (trailer_of k s) H (count_of k s - 1)
  unfolding role_of
  trailer-holds = rw role at (m.rows (count_of k s - 1) (omega (arith, count)))
    where
      role : role_of (count_of k s) (count_of k s - 1) ≡ Trailer
      role =
          rw (ne_eqb (count_of k s - 1) 0 (λ e. omega (arith, count)), eq-eqb (count_of k s - 1 + 1) (count_of k s) (omega (arith, count)))

  -- each record is the one that is built
  pub header-rebuilt : Bytes s → header_built k (head_in k s) ≡ H
  unfolding head_in record_at
  header-rebuilt bytes = header-again k H (record-length k s m 0 (omega (arith, count))) header-bytes header-holds
    where
      header-bytes : Bytes H
      header-bytes i l =
          let inside = record-inside k s 0 (omega (arith, count)) in
          let j : i < (fixed_of k).size = rw (record-length k s m 0 (omega (arith, count))) at l in
          rw (part_at (0 * (fixed_of k).size) (fixed_of k).size s i j) (bytes (0 * (fixed_of k).size + i) (omega arith))

  data-rebuilt : (i : ℕ) → i < n → data_built k H (bodies_in k s) i ≡ record_of k s (i + 1)
  data-rebuilt i l =
      data-again k H (bodies_in k s) (record_of k s (i + 1)) i (record-length k s m (i + 1) (omega (arith, count))) (data-holds i l) (bodies-part i l)

  -- so the totals of the trailer are those of the built records
  quantity-rebuilt : (q : Quantity) → built_quantity k H (bodies_in k s) q ≡ quantity_of k s q
  unfolding built_quantity quantity_of built_worth worth_at
  quantity-rebuilt q =
      ap (sum (built_worth k H (bodies_in k s) q)) bodies-count ∙
      sum_same (built_worth k H (bodies_in k s) q) (worth_at k s q) n (λ i l. ap (worth q) (data-rebuilt i l))

  totals-said : Said k (trailer_of k s) (built_totals k H (bodies_in k s))
  unfolding built_totals built_total total_holds
  totals-said t l =
      rw (
        tab-at (built_total k H (bodies_in k s)) most_totals t (omega (arith, totals-few k)),
        lt-ltb t (length (totals_of k)) l,
        quantity-rebuilt (get_or (totals_of k) t no_total).3,
      ) (m.totals t l)

  trailer-rebuilt : (fixed_of k).written ≡ true → trailer_built k H (built_totals k H (bodies_in k s)) ≡ trailer_of k s
  trailer-rebuilt e =
      trailer-again k e H (trailer_of k s) (built_totals k H (bodies_in k s)) (count_of k s - 1) (record-length k s m (count_of k s - 1) (omega (arith, count))) trailer-holds totals-said

  -- *Taken apart, written*: a request file that meets every rule is the file that is written from its parts
  pub apart-written : (fixed_of k).written ≡ true → Bytes s → file_of k (head_in k s) (bodies_in k s) ≡ s
  unfolding file_of front_of
  apart-written e bytes =
      rw (
        header-rebuilt bytes,
        bodies-count,
        joined_same (data_built k H (bodies_in k s)) (λ i. record_of k s (i + 1)) n data-rebuilt,
        trailer-rebuilt e,
      ) (sym (file-records k s m.lengths))

  -- so the writer accepts them where there is room, and leaves the same file
  pub apart-accepted : (fixed_of k).written ≡ true → Bytes s → (room : ℕ) → length s ≤ room → write_as k (head_in k s) (bodies_in k s) room ≡ accepted
  unfolding write_as
  apart-accepted e bytes room h =
      rw (
        each_fits k (head_in k s) (bodies_in k s) taken-fits,
        bodies-count,
        le-leb n limit (omega (arith, m.lengths.most)),
        ← count,
        ← m.lengths.whole,
        le-leb (length s) room h,
        apart-written e bytes,
      ) ((read-exact k s).1 m)

  pub apart-room : (fixed_of k).written ≡ true → Bytes s → (room : List ℕ) → length s ≤ length room → after_as k (head_in k s) (bodies_in k s) room ≡ s ++ drop (length s) room
  unfolding after_as
  apart-room e bytes room h = rw (apart-accepted e bytes (length room) h, apart-written e bytes)

-- *Read, written*: a request file that is read as accepted is, taken apart and written under the same number, the same file
pub read-written :
    (kind : ℕ) (k : Kind) → request_of kind ≡ Some k → (s room : List ℕ) → (read_of kind s).number ≡ 0 → Bytes s → length s ≤ length room →
    (write_of kind (head_in k s) (bodies_in k s) (length room) ≡ accepted) × (room_after kind (head_in k s) (bodies_in k s) room ≡ s ++ drop (length s) room)
unfolding write_of room_after
read-written kind k e s room z bytes h =
    (rw e (apart-accepted k s m name bytes (length room) h), rw e (apart-room k s m name bytes room h))
  where
    name : (fixed_of k).written ≡ true
    name = request-written kind k e

    m : Meets k s
    m = accepted-meets k s (rw (read_named_lem kind s k (request-kind kind k e)) at z)
