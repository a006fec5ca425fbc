-- A written file taken apart is what it was written from.
-- Assumes nothing.
use Prim.Native.Nat.{ℕ, ◌+◌, ◌-◌, ◌*◌, ◌%◌, ◌≤◌, ◌<◌}
use mathlib.Core.Bool.{true, ◌&&◌}
use mathlib.Core.List.{List, [], ◌∷◌, ◌++◌, append_assoc}
use mathlib.Core.Path.{◌≡◌, refl, sym, ◌∙◌, ap}
use native.Mathlib.Nat.{le_of_eq, zero-mul, suc-mul, add_comm, mul-div_cancel, div-add-mod', mul-mod_left}
use native.Mathlib.Numerals.{add-one}
use native.Mathlib.Omega.{arith}
use borrow.Author.Tests.{eqb-true, eq-eqb}
use lib.Dec.{eqb}
use lib.ListN.{length, get_or}
use lib.Seq.{ext_get_or, take_all, take_at}
use Rattle.laws.specs.Joined.{joined}
use Rattle.laws.specs.Least.{further, least, none}
use Rattle.laws.specs.Part.{part}
use Rattle.laws.proofs.Bools.{and_left, and_right}
use Rattle.laws.proofs.Joins.{Sized, sized-length, joined_length, joined-part, joined_same, parts-joined, size_below}
use Rattle.laws.proofs.Parts.{part_length, part_at}
use Rattle.kinds.specs.declared.of_files.Kind.{Kind}
use Rattle.kinds.specs.declared.of_files.Form.{Form}
use Rattle.kinds.specs.declared.of_files.Form.TheVariants.{EnrolmentRequest, EnrolmentResult, DebitRequest, DebitResult, BankEnrolment}
use Rattle.kinds.specs.declared.of_files.Own.{Own}
use Rattle.kinds.specs.declared.of_files.Role.TheVariants.{Header}
use Rattle.tables.specs.declared.row.Row.{Row}
use Rattle.kinds.specs.Kinds.{fixed_of, fixed_for, kind}
use Rattle.tables.specs.Rows.{blank}
use Rattle.tables.specs.Tables.{header_front, enrolment_header, debit_header, rows_of}
use Rattle.records.specs.Records.{record_at, record_of, count_of, data_of}
use Rattle.records.proofs.Places.{record-inside, size-pos}
use Rattle.builder.specs.Bytes.{fill_by}
use Rattle.builder.specs.Records.{Head, given_item, header_fill, header_byte, header_built, body_count, data_built, built_totals, trailer_built}
use Rattle.builder.specs.Files.{front_of, file_of}
use Rattle.writer.specs.Writing.{parts_fit}
use Rattle.writer.specs.Apart.{head_from, head_in, body_at, bodies_in}
use Rattle.writer.specs.Says.{fitting}
use Rattle.builder.proofs.Bodies.{built-part}
use Rattle.builder.proofs.Lengths.{header-length, data-length}
use Rattle.laws.proofs.Tabs.{tab-at}
use Rattle.laws.proofs.Pieces.{part-within, part-behind}
use Rattle.builder.proofs.Built.{file-length}
use Rattle.builder.proofs.Sizes.{body-size}
use Rattle.builder.proofs.Over.{starts, ends_past, starts-over}

-- of any file, each body is as long as its kind says, and so are all together
pub bodies-sized : (k : Kind) (s : List ℕ) → Sized (body_at k s) (fixed_of k).body (data_of k s)
unfolding body_at record_at
bodies-sized k s i l =
    part_length 19 (fixed_of k).body (record_of k s (i + 1))
    (rw (part_length ((i + 1) * (fixed_of k).size) (fixed_of k).size s (record-inside k s (i + 1) (omega (arith, l)))) (le_of_eq (body-size k)))

pub bodies-length : (k : Kind) (s : List ℕ) → length (bodies_in k s) ≡ data_of k s * (fixed_of k).body
unfolding bodies_in
bodies-length k s = sized-length (body_at k s) (fixed_of k).body (data_of k s) (bodies-sized k s)

-- where a row of the header is given its item, the item stands there
module _ (k : Kind) (h : Head) (i : ℕ) where
  abbrev r : Row
  r = get_or (rows_of k Header) i blank

  abbrev Given : Type 0
  Given = (given letter : ℕ) → fill_by r.3 given letter 0 0 ≡ given

  given-item : starts (rows_of k Header) i ≡ true → Given → r.1 + r.2 ≤ (fixed_of k).size → length (given_item h r.0) ≡ r.2 → part r.1 r.2 (header_built k h) ≡ given_item h r.0
  unfolding header_built header_byte header_fill
  given-item t fills inside long = ext_get_or 0 (part r.1 r.2 (header_built k h)) (given_item h r.0) (size ∙ sym long) same
    where
      size : length (part r.1 r.2 (header_built k h)) ≡ r.2
      size = part_length r.1 r.2 (header_built k h) (rw (header-length k h) inside)

      same : (d : ℕ) → d < length (part r.1 r.2 (header_built k h)) → get_or (part r.1 r.2 (header_built k h)) d 0 ≡ get_or (given_item h r.0) d 0
      same d l =
          let b : d < r.2 = omega (arith, size) in
          rw (
            part_at r.1 r.2 (header_built k h) d b,
            tab-at (header_byte k h) (fixed_of k).size (r.1 + d) (omega arith),
            starts-over (rows_of k Header) i d t b,
            fills (get_or (given_item h r.0) (r.1 + d - r.1) 0),
          ) (ap (λ (x : ℕ). get_or (given_item h r.0) x 0) (omega arith))

-- items 3 and 5 of every header, items 6 and 7 of a debit's
code-built : (k : Kind) (h : Head) → length h.code ≡ 10 → part 9 10 (header_built k h) ≡ h.code
unfolding starts ends_past none least further given_item header_front enrolment_header debit_header
code-built k h e = code-in k.form k.own
  where
    code-in : (f : Form) (o : Own) → part 9 10 (header_built (kind f o) h) ≡ h.code
    code-in EnrolmentRequest o = given-item (kind EnrolmentRequest o) h 2 refl (λ g l. refl) (omega arith) e
    code-in EnrolmentResult o = given-item (kind EnrolmentResult o) h 2 refl (λ g l. refl) (omega arith) e
    code-in DebitRequest o = given-item (kind DebitRequest o) h 2 refl (λ g l. refl) (omega arith) e
    code-in DebitResult o = given-item (kind DebitResult o) h 2 refl (λ g l. refl) (omega arith) e
    code-in BankEnrolment o = given-item (kind BankEnrolment o) h 2 refl (λ g l. refl) (omega arith) e

date-built : (k : Kind) (h : Head) → length h.date ≡ 6 → part 27 6 (header_built k h) ≡ h.date
unfolding starts ends_past none least further given_item header_front enrolment_header debit_header
date-built k h e = date-in k.form k.own
  where
    date-in : (f : Form) (o : Own) → part 27 6 (header_built (kind f o) h) ≡ h.date
    date-in EnrolmentRequest o = given-item (kind EnrolmentRequest o) h 5 refl (λ g l. refl) (omega arith) e
    date-in EnrolmentResult o = given-item (kind EnrolmentResult o) h 5 refl (λ g l. refl) (omega arith) e
    date-in DebitRequest o = given-item (kind DebitRequest o) h 5 refl (λ g l. refl) (omega arith) e
    date-in DebitResult o = given-item (kind DebitResult o) h 5 refl (λ g l. refl) (omega arith) e
    date-in BankEnrolment o = given-item (kind BankEnrolment o) h 5 refl (λ g l. refl) (omega arith) e

nothing : (start : ℕ) (x s : List ℕ) → length x ≡ 0 → part start 0 s ≡ x
unfolding part
nothing start [] s e = refl
nothing start (a ∷ x) s e = absurd (omega arith)

item6-in : (f : Form) (o : Own) (h : Head) → length h.item6 ≡ (fixed_for f).item6 → part 33 (fixed_for f).item6 (header_built (kind f o) h) ≡ h.item6
unfolding starts ends_past none least further given_item header_front enrolment_header debit_header
item6-in EnrolmentRequest o h e = nothing 33 h.item6 (header_built (kind EnrolmentRequest o) h) e
item6-in EnrolmentResult o h e = nothing 33 h.item6 (header_built (kind EnrolmentResult o) h) e
item6-in DebitRequest o h e = given-item (kind DebitRequest o) h 8 refl (λ g l. refl) (omega arith) e
item6-in DebitResult o h e = given-item (kind DebitResult o) h 8 refl (λ g l. refl) (omega arith) e
item6-in BankEnrolment o h e = nothing 33 h.item6 (header_built (kind BankEnrolment o) h) e

item6-built : (k : Kind) (h : Head) → length h.item6 ≡ (fixed_of k).item6 → part 33 (fixed_of k).item6 (header_built k h) ≡ h.item6
item6-built k h e = item6-in k.form k.own h e

item7-in : (f : Form) (o : Own) (h : Head) → length h.item7 ≡ (fixed_for f).item7 → part 40 (fixed_for f).item7 (header_built (kind f o) h) ≡ h.item7
unfolding starts ends_past none least further given_item header_front enrolment_header debit_header
item7-in EnrolmentRequest o h e = nothing 40 h.item7 (header_built (kind EnrolmentRequest o) h) e
item7-in EnrolmentResult o h e = nothing 40 h.item7 (header_built (kind EnrolmentResult o) h) e
item7-in DebitRequest o h e = given-item (kind DebitRequest o) h 9 refl (λ g l. refl) (omega arith) e
item7-in DebitResult o h e = given-item (kind DebitResult o) h 9 refl (λ g l. refl) (omega arith) e
item7-in BankEnrolment o h e = nothing 40 h.item7 (header_built (kind BankEnrolment o) h) e

item7-built : (k : Kind) (h : Head) → length h.item7 ≡ (fixed_of k).item7 → part 40 (fixed_of k).item7 (header_built k h) ≡ h.item7
item7-built k h e = item7-in k.form k.own h e

-- the records of a written file are those that were built
module _ (k : Kind) (h : Head) (bodies : List ℕ) where
  abbrev w : ℕ
  w = (fixed_of k).size

  abbrev n : ℕ
  n = body_count k bodies

  abbrev H : List ℕ
  H = header_built k h

  abbrev D : List ℕ
  D = joined (data_built k H bodies) n

  abbrev T : List ℕ
  T = trailer_built k H (built_totals k H bodies)

  data-long : length D ≡ n * w
  data-long = joined_length (data_built k H bodies) w (data-length k H bodies) n

  pub file-count : count_of k (file_of k h bodies) ≡ n + 2
  unfolding count_of
  file-count = rw (file-length k h bodies) (mul-div_cancel (n + 2) (size-pos k))

  pub file-header : record_of k (file_of k h bodies) 0 ≡ H
  unfolding record_at file_of front_of part
  file-header = rw (zero-mul w, append_assoc H D T) (take_at H (D ++ T) w (header-length k h))

  pub file-data : (i : ℕ) → i < n → record_of k (file_of k h bodies) (i + 1) ≡ data_built k H bodies i
  unfolding record_at file_of front_of
  file-data i l =
      rw (append_assoc H D T, add-one, suc-mul, add_comm (i * w) w)
      (part-behind H (D ++ T) w (i * w) w (header-length k h) ∙
      (part-within D T (i * w) w (rw data-long (size_below i n w l)) ∙
      joined-part (data_built k H bodies) w (data-length k H bodies) n i l))

-- the body of a built record is the one that was given
body-built :
    (k : Kind) (header bodies : List ℕ) (i : ℕ) → i < body_count k bodies →
    part 19 (fixed_of k).body (data_built k header bodies i) ≡ part (i * (fixed_of k).body) (fixed_of k).body bodies
body-built k header bodies i l =
    built-part k header bodies i 19 (fixed_of k).body l (omega arith) (le_of_eq (body-size k)) ∙ ap (λ (a : ℕ). part a (fixed_of k).body bodies) (omega arith)

-- the same, one by one
pub record Fits (k : Kind) (h : Head) (bodies : List ℕ) : Type 0 where
  pub date : length h.date ≡ 6
  pub code : length h.code ≡ 10
  pub item6 : length h.item6 ≡ (fixed_of k).item6
  pub item7 : length h.item7 ≡ (fixed_of k).item7
  pub whole : length bodies ≡ body_count k bodies * (fixed_of k).body

pub fits_each : (k : Kind) (h : Head) (bodies : List ℕ) → fitting k h bodies ≡ true → Fits k h bodies
unfolding parts_fit body_count
fits_each k h bodies t =
    let a = eqb (length h.date) 6 in
    let b = eqb (length h.code) 10 in
    let c = eqb (length h.item6) (fixed_of k).item6 in
    let d = eqb (length h.item7) (fixed_of k).item7 in
    let e = eqb (length bodies % (fixed_of k).body) 0 in
    let t₁ = and_right a (b && (c && (d && e))) t in
    let t₂ = and_right b (c && (d && e)) t₁ in
    let t₃ = and_right c (d && e) t₂ in
    record {
      date = eqb-true _ 6 (and_left a _ t);
      code = eqb-true _ 10 (and_left b _ t₁);
      item6 = eqb-true _ (fixed_of k).item6 (and_left c _ t₂);
      item7 = eqb-true _ (fixed_of k).item7 (and_left d e t₃);
      whole = omega (arith, div-add-mod' (length bodies) (fixed_of k).body, eqb-true (length bodies % (fixed_of k).body) 0 (and_right d e t₃));
    }

pub each_fits : (k : Kind) (h : Head) (bodies : List ℕ) → Fits k h bodies → fitting k h bodies ≡ true
unfolding parts_fit
each_fits k h bodies f =
    rw (
      eq-eqb (length h.date) 6 f.date,
      eq-eqb (length h.code) 10 f.code,
      eq-eqb (length h.item6) (fixed_of k).item6 f.item6,
      eq-eqb (length h.item7) (fixed_of k).item7 f.item7,
      f.whole,
      mul-mod_left (body_count k bodies) (fixed_of k).body,
    )

-- *Written, taken apart*: the header's items and the bodies are those that were given
pub written_apart :
    (k : Kind) (h : Head) (bodies : List ℕ) → fitting k h bodies ≡ true →
    (head_in k (file_of k h bodies) ≡ h) × (bodies_in k (file_of k h bodies) ≡ bodies)
unfolding head_in bodies_in body_at
written_apart k h bodies t = (head, body)
  where
    f : Fits k h bodies
    f = fits_each k h bodies t

    head : head_from k (record_of k (file_of k h bodies) 0) ≡ h
    head =
        rw (
          file-header k h bodies,
          date-built k h f.date,
          code-built k h f.code,
          item6-built k h f.item6,
          item7-built k h f.item7,
        )

    b : ℕ
    b = (fixed_of k).body

    n : ℕ
    n = body_count k bodies

    taken : (i : ℕ) → i < n → part 19 b (record_of k (file_of k h bodies) (i + 1)) ≡ part (i * b) b bodies
    taken i l = rw (file-data k h bodies i l) (body-built k (header_built k h) bodies i l)

    body : joined (body_at k (file_of k h bodies)) (data_of k (file_of k h bodies)) ≡ bodies
    body =
        ap (joined (body_at k (file_of k h bodies))) (omega (arith, file-count k h bodies)) ∙
        (joined_same (body_at k (file_of k h bodies)) (λ i. part (i * b) b bodies) n taken ∙
        (parts-joined b n bodies (le_of_eq (sym f.whole)) ∙ take_all (n * b) bodies (le_of_eq f.whole)))
