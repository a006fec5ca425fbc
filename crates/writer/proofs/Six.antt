-- The writer's 6: it is told exactly of amounts that sum to more than 13 digits say, at item 7 of the trailer.
-- Assumes nothing.
use Prim.Native.Nat.{ℕ, zero, suc, ◌+◌, ◌-◌, ◌*◌, ◌^◌, ◌≤◌, ◌<◌}
use mathlib.Core.Bool.{true, false, cond}
use mathlib.Core.List.{List}
use mathlib.Core.Path.{◌≡◌, refl, sym, ◌∙◌, ap, subst}
use mathlib.Core.Logic.{◌↔◌, ⊎_elim}
use native.Mathlib.Omega.{arith}
use borrow.Author.Tests.{lt-ltb, le-ltb, ltb-true, ltb-false, le-leb}
use lib.Dec.{eqb, ltb}
use lib.ListN.{length, get_or}
use Rattle.laws.proofs.Bools.{either, clash}
use Rattle.laws.proofs.Sums.{sum_bound}
use Rattle.kinds.specs.declared.of_files.Kind.{Kind}
use Rattle.kinds.specs.declared.of_files.Form.{Form}
use Rattle.kinds.specs.declared.of_files.Form.TheVariants.{EnrolmentRequest, EnrolmentResult, DebitRequest, DebitResult, BankEnrolment}
use Rattle.kinds.specs.declared.of_files.Own.{Own}
use Rattle.std.specs.Prelude.{Option, Some, None}
use Rattle.tables.specs.declared.row.Row.{Row}
use Rattle.tables.specs.declared.totals.Quantity.{Quantity}
use Rattle.tables.specs.declared.totals.Quantity.TheVariants.{OfKind, Amounts}
use Rattle.kinds.specs.Kinds.{fixed_of, kind, limit}
use Rattle.tables.specs.Rows.{blank}
use Rattle.tables.specs.Totals.{no_total, enrolment_totals, debit_request_totals, totals_of}
use Rattle.answers.specs.declared.told.Answer.{Answer}
use Rattle.answers.specs.Answers.{refused_at}
use Rattle.answers.proofs.Refusals.{number_of}
use Rattle.layout.specs.Judging.{broken_at}
use Rattle.layout.specs.Items.{application_of}
use Rattle.records.specs.Records.{count_of, data_of}
use Rattle.records.specs.Quantities.{worth, worth_at, quantity_of}
use Rattle.reader.specs.Reading.{read_as}
use Rattle.reader.specs.Meets.{Lengths, rows_at, RowsHold, total_at, TotalsHold}
use Rattle.reader.specs.First.{Says}
use Rattle.reader.proofs.Exact.{first-refusal}
use Rattle.reader.proofs.Lengths.{good_length, length-short}
use Rattle.builder.specs.Records.{Head, body_count}
use Rattle.builder.specs.Files.{file_of}
use Rattle.writer.specs.Writing.{write_as, write_named, write_of}
use Rattle.kinds.specs.Kinds.{request_of}
use Rattle.writer.specs.Says.{Tells, TooMuch, OnlyDebit}
use Rattle.builder.proofs.Built.{file-length}
use Rattle.writer.proofs.Requests.{request-written}
use Rattle.writer.proofs.Taken.{file-count}
use Rattle.writer.proofs.Agree.{file-lengths, writer-tells}
use Rattle.writer.proofs.Totals.{total-within}

-- records, or those of an application kind, are no more than the data records
one-most : (b : ℕ) (rec : List ℕ) → worth (OfKind b) rec ≤ 1
unfolding worth
one-most b rec = elim (eqb (application_of rec) b) as (λ t. cond t 1 0 ≤ 1) [ true ↦ omega arith | false ↦ omega arith ]

counted : (k : Kind) (s : List ℕ) (q : Quantity) → ((rec : List ℕ) → worth q rec ≤ 1) → quantity_of k s q ≤ data_of k s
unfolding quantity_of worth_at
counted k s q h = omega (arith, sum_bound (worth_at k s q) 1 (data_of k s) (λ i _. h _))

module _ (k : Kind) (request : (fixed_of k).written ≡ true) (h : Head) (bodies : List ℕ) (few : body_count k bodies ≤ limit) where
  abbrev s : List ℕ
  s = file_of k h bodies

  -- eight digits are enough for a count
  count-holds :
      (t : ℕ) → t < length (totals_of k) → (get_or (totals_of k) t no_total).2 ≡ 8 →
      ((rec : List ℕ) → worth (get_or (totals_of k) t no_total).3 rec ≤ 1) → total_at k s t ≡ true
  count-holds t l e one =
      total-within k h bodies request t l ∙
      rw e (lt-ltb (quantity_of k s (get_or (totals_of k) t no_total).3) (10 ^ 8) (omega (arith, counted k s (get_or (totals_of k) t no_total).3 one, file-count k h bodies)))

-- an enrolment's totals are counts
module _ (o : Own) (h : Head) (bodies : List ℕ) where
  abbrev enrolment : Kind
  enrolment = kind EnrolmentRequest o

  enrolment-holds : body_count enrolment bodies ≤ limit → (t : ℕ) → t < length (totals_of enrolment) → total_at enrolment (file_of enrolment h bodies) t ≡ true
  unfolding enrolment_totals worth
  enrolment-holds few zero l = count-holds enrolment refl h bodies few 0 l refl (λ rec. omega arith)
  enrolment-holds few (suc zero) l = count-holds enrolment refl h bodies few 1 l refl (one-most 0x31)
  enrolment-holds few (suc (suc zero)) l = count-holds enrolment refl h bodies few 2 l refl (one-most 0x33)
  enrolment-holds few (suc (suc (suc zero))) l = count-holds enrolment refl h bodies few 3 l refl (one-most 0x37)
  enrolment-holds few (suc (suc (suc (suc t)))) l = absurd (omega arith)

-- a debit's are two counts and a sum
module _ (o : Own) (h : Head) (bodies : List ℕ) where
  abbrev debit : Kind
  debit = kind DebitRequest o

  debit-holds : body_count debit bodies ≤ limit → (t : ℕ) → t < 2 → total_at debit (file_of debit h bodies) t ≡ true
  unfolding debit_request_totals worth
  debit-holds few zero l = count-holds debit refl h bodies few 0 (omega arith) refl (λ rec. omega arith)
  debit-holds few (suc zero) l = count-holds debit refl h bodies few 1 (omega arith) refl (λ rec. omega arith)
  debit-holds few (suc (suc t)) l = absurd (omega arith)

  -- thirteen digits for the sum of the amounts
  amounts-within : total_at debit (file_of debit h bodies) 2 ≡ ltb (quantity_of debit (file_of debit h bodies) Amounts) (10 ^ 13)
  unfolding debit_request_totals
  amounts-within = total-within debit h bodies refl 2 (omega arith)

-- what the reader's 6 says: all rows hold, and a total does not
record Six (k : Kind) (s : List ℕ) : Type 0 where
  t : ℕ
  rows : RowsHold k s (count_of k s)
  inside : t < length (totals_of k)
  differs : total_at k s t ≡ false

module _ (k : Kind) (s : List ℕ) where
  broken-six : (n : ℕ) (r : Row) → (broken_at n r).number ≡ 6 → ⊥
  broken-six n r =
      elim (eqb r.4 0x30303030) as (λ b. ◌≡◌ {A = ℕ} (cond b 5 4) 6 → ⊥) [ true ↦ λ e. omega arith | false ↦ λ e. omega arith ]

  six : (a : Answer) → Says k s a → a.number ≡ 6 → Six k s
  six a (Says.good m) e = absurd (omega arith)
  six a (Says.short f) e = absurd (omega arith)
  six a (Says.long t l) e = absurd (omega arith)
  six a (Says.row i j l b c f g h) e = absurd (broken-six i (get_or (rows_at k s i) j blank) e)
  six a (Says.total j l h b f g) e = record { t = j; rows = h; inside = b; differs = f }
  six a (Says.key i l h t b r g) e = absurd (omega arith)

  -- and the first total that does not is told, where nothing else is wrong before it
  module _ (t : ℕ) (l : Lengths k s) (rows : RowsHold k s (count_of k s)) (inside : t < length (totals_of k)) (differs : total_at k s t ≡ false) (before : TotalsHold k s t) where
    abbrev Told : Answer → Type 0
    Told a = a ≡ refused_at 6 (count_of k s - 1) (get_or (totals_of k) t no_total).0 0x30303030

    told-six : (a : Answer) → Says k s a → Told a
    told-six a (Says.good m) = absurd (clash (m.totals t inside) differs)
    told-six a (Says.short f) = absurd (let z : ◌≡◌ {A = ℕ} 2 0 = number_of (sym (length-short k s f) ∙ good_length k s l) in omega arith)
    told-six a (Says.long w m) = absurd (omega (arith, l.most))
    told-six a (Says.row i j w b c f g h) = absurd (clash (rows i b j c) f)
    told-six a (Says.total j w h b f g) = ⊎_elim less (λ n. ⊎_elim more (same n) (either (ltb t j))) (either (ltb j t))
      where
        less : ltb j t ≡ true → Told a
        less u = absurd (clash (before j (ltb-true j t u)) f)

        more : ltb t j ≡ true → Told a
        more u = absurd (clash (g t (ltb-true t j u)) differs)

        same : ltb j t ≡ false → ltb t j ≡ false → Told a
        same n m = let e : j ≡ t = omega (arith, ltb-false j t n, ltb-false t j m) in rw e
    told-six a (Says.key i w h u b r g) = absurd (clash (u t inside) differs)

-- debit requests of any kind
module _ (o : Own) (h : Head) (bodies : List ℕ) (room : ℕ) where
  abbrev k : Kind
  k = kind DebitRequest o

  abbrev file : List ℕ
  file = file_of k h bodies

  past-digits : (t : ℕ) → body_count k bodies ≤ limit → t < 3 → total_at k file t ≡ false → 10 ^ 13 ≤ quantity_of k file Amounts
  past-digits zero few l f = absurd (clash (debit-holds o h bodies few 0 (omega arith)) f)
  past-digits (suc zero) few l f = absurd (clash (debit-holds o h bodies few 1 (omega arith)) f)
  past-digits (suc (suc zero)) few l f = ltb-false (quantity_of k file Amounts) (10 ^ 13) (sym (amounts-within o h bodies) ∙ f)
  past-digits (suc (suc (suc t))) few l f = absurd (omega arith)

  too_much : (a : Answer) → Tells k h bodies room a → a.number ≡ 6 → TooMuch k h bodies room
  unfolding debit_request_totals
  too_much a (Tells.unfit f) e = absurd (omega arith)
  too_much a (Tells.many t l) e = absurd (omega arith)
  too_much a (Tells.short t l b) e = absurd (omega arith)
  too_much a (Tells.read t l b o) e =
      let x = six k file (read_as k file) (first-refusal k file) e in
      record { fits = t; few = l; enough = b; rows = x.rows; past = past-digits x.t l x.inside x.differs }

  as_read : TooMuch k h bodies room → write_as k h bodies room ≡ read_as k file
  unfolding write_as
  as_read m =
      rw (m.fits, le-leb (body_count k bodies) limit m.few, le-leb ((body_count k bodies + 2) * 150) room (rw (file-length k h bodies) at m.enough))

  -- *Sum over 13 digits*: it is told at item 7 of the trailer
  pub sum-place : TooMuch k h bodies room → write_as k h bodies room ≡ refused_at 6 (body_count k bodies + 1) 7 0x30303030
  unfolding debit_request_totals
  sum-place m =
      as_read m ∙
      (told-six k file 2 (file-lengths k h bodies m.few) m.rows (omega arith) (amounts-within o h bodies ∙ le-ltb (quantity_of k file Amounts) (10 ^ 13) m.past) (debit-holds o h bodies m.few) (read_as k file) (first-refusal k file) ∙
      ap (λ (c : ℕ). refused_at 6 c 7 0x30303030) (omega (arith, file-count k h bodies)))

  -- and 6 is told of nothing else
  pub sum-exact : ((write_as k h bodies room).number ≡ 6) ↔ TooMuch k h bodies room
  sum-exact = (too_much (write_as k h bodies room) (writer-tells k h bodies room), λ m. number_of (sum-place m))

-- enrolment requests of any kind
module _ (o : Own) (h : Head) (bodies : List ℕ) (room : ℕ) where
  abbrev e13 : Kind
  e13 = kind EnrolmentRequest o

  -- an enrolment has no sum, and counts never pass their digits
  never-six : (a : Answer) → Tells e13 h bodies room a → a.number ≡ 6 → ⊥
  never-six a (Tells.unfit f) e = omega arith
  never-six a (Tells.many t l) e = omega arith
  never-six a (Tells.short t l b) e = omega arith
  never-six a (Tells.read t l b w) e =
      let x = six e13 (file_of e13 h bodies) (read_as e13 (file_of e13 h bodies)) (first-refusal e13 (file_of e13 h bodies)) e in
      clash (enrolment-holds o h bodies l x.t x.inside) x.differs

  pub enrolment-never : (write_as e13 h bodies room).number ≡ 6 → ⊥
  enrolment-never = never-six (write_as e13 h bodies room) (writer-tells e13 h bodies room)

-- the same by the number of the kind
module _ (number : ℕ) (h : Head) (bodies : List ℕ) (room : ℕ) where
  six-in : (f : Form) (o : Own) → request_of number ≡ Some (kind f o) → (write_as (kind f o) h bodies room).number ≡ 6 → OnlyDebit number h bodies room
  six-in EnrolmentRequest o e z = absurd (enrolment-never o h bodies room z)
  six-in EnrolmentResult o e z = absurd (clash refl (sym (request-written number (kind EnrolmentResult o) e)))
  six-in DebitRequest o e z = record { k = kind DebitRequest o; named = e; debit = refl; much = (sum-exact o h bodies room).0 z }
  six-in DebitResult o e z = absurd (clash refl (sym (request-written number (kind DebitResult o) e)))
  six-in BankEnrolment o e z = absurd (clash refl (sym (request-written number (kind BankEnrolment o) e)))

  six-named : (n : Option Kind) → request_of number ≡ n → (write_named n h bodies room).number ≡ 6 → OnlyDebit number h bodies room
  six-named (Some k) e z = six-in k.form k.own e z
  six-named None e z = absurd (omega arith)

  place_in : (f : Form) (o : Own) → f ≡ DebitRequest → TooMuch (kind f o) h bodies room → write_as (kind f o) h bodies room ≡ refused_at 6 (body_count (kind f o) bodies + 1) 7 0x30303030
  place_in f o e = subst (λ (g : Form). TooMuch (kind g o) h bodies room → write_as (kind g o) h bodies room ≡ refused_at 6 (body_count (kind g o) bodies + 1) 7 0x30303030) (sym e) (sum-place o h bodies room)

  debit-place : (m : OnlyDebit number h bodies room) → write_of number h bodies room ≡ refused_at 6 (body_count m.k bodies + 1) 7 0x30303030
  unfolding write_of
  debit-place m = rw m.named (place_in m.k.form m.k.own m.debit m.much)

  pub sum-named : ((write_of number h bodies room).number ≡ 6) ↔ OnlyDebit number h bodies room
  unfolding write_of
  sum-named = (six-named (request_of number) refl, λ m. number_of (debit-place m))

  pub place-named : (z : (write_of number h bodies room).number ≡ 6) → write_of number h bodies room ≡ refused_at 6 (body_count (sum-named.0 z).k bodies + 1) 7 0x30303030
  place-named z = debit-place (sum-named.0 z)
