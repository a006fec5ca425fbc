-- The writer's answers: its own refusals are 1, 2, 3 and 8, and every other answer is the reader's on the file to be written.
-- Assumes nothing.
use Prim.Native.Nat.{ℕ, ◌+◌, ◌*◌, ◌≤◌}
use mathlib.Core.Bool.{true, false, cond}
use mathlib.Core.List.{List}
use mathlib.Core.Path.{◌≡◌, refl, sym, ◌∙◌, ap}
use mathlib.Core.Logic.{⊎_elim}
use native.Mathlib.Omega.{arith}
use borrow.Author.Tests.{leb-true, leb-false}
use lib.Dec.{leb, eqb}
use lib.ListN.{get_or}
use Rattle.laws.proofs.Bools.{either, clash}
use Rattle.kinds.specs.declared.of_files.Kind.{Kind}
use Rattle.tables.specs.declared.row.Row.{Row}
use Rattle.kinds.specs.Kinds.{fixed_of, limit}
use Rattle.tables.specs.Rows.{blank}
use Rattle.answers.specs.declared.told.Answer.{Answer}
use Rattle.answers.specs.Answers.{refused}
use Rattle.layout.specs.Judging.{broken_at}
use Rattle.reader.specs.Reading.{read_as}
use Rattle.reader.specs.Meets.{Lengths, rows_at}
use Rattle.reader.specs.First.{Says}
use Rattle.reader.proofs.Exact.{first-refusal}
use Rattle.reader.proofs.Lengths.{good_length, length-short}
use Rattle.builder.specs.Records.{Head, body_count}
use Rattle.builder.specs.Files.{file_of}
use Rattle.writer.specs.Writing.{write_as}
use Rattle.writer.specs.Says.{fitting, writers_own, Tells}
use Rattle.builder.proofs.Built.{file-length}
use Rattle.writer.proofs.Taken.{file-count}

-- a file to be written has a length that the reader takes
pub file-lengths : (k : Kind) (h : Head) (bodies : List ℕ) → body_count k bodies ≤ limit → Lengths k (file_of k h bodies)
file-lengths k h bodies l =
    record {
      whole = rw (file-count k h bodies) (file-length k h bodies);
      fewest = omega (arith, file-count k h bodies);
      most = omega (arith, file-count k h bodies);
    }

broken-own : (n : ℕ) (r : Row) → writers_own (broken_at n r).number ≡ false
unfolding writers_own
broken-own n r =
    elim (eqb r.4 0x30303030) as (λ b. writers_own (cond b 5 4) ≡ false) [ true ↦ refl | false ↦ refl ]

-- of a file whose length is right the reader says none of them
says-own : (k : Kind) (s : List ℕ) (a : Answer) → Lengths k s → Says k s a → writers_own a.number ≡ false
unfolding writers_own
says-own k s a l (Says.good m) = refl
says-own k s a l (Says.short f) = absurd (told (ap (λ (b : Answer). b.number) (sym (length-short k s f) ∙ good_length k s l)))
  where
    told : ◌≡◌ {A = ℕ} 2 0 → ⊥
    told e = omega arith
says-own k s a l (Says.long t m) = absurd (omega (arith, l.most))
says-own k s a l (Says.row i j m b c f g h) = broken-own i (get_or (rows_at k s i) j blank)
says-own k s a l (Says.total j m h b f g) = refl
says-own k s a l (Says.key i m h t b r g) = refl

module _ (k : Kind) (h : Head) (bodies : List ℕ) (room : ℕ) where
  -- *Every answer of the writer, by its case*
  pub writer-tells : Tells k h bodies room (write_as k h bodies room)
  unfolding write_as
  writer-tells = ⊎_elim fit (λ f. rw f (Tells.unfit f)) (either (fitting k h bodies))
    where
      size : ℕ
      size = (body_count k bodies + 2) * (fixed_of k).size

      few : fitting k h bodies ≡ true → body_count k bodies ≤ limit → Tells k h bodies room (cond (leb size room) (read_as k (file_of k h bodies)) (refused 8))
      few t l =
          ⊎_elim
          (λ b. rw b (Tells.read t l (rw (file-length k h bodies) (leb-true size room b)) (says-own k (file_of k h bodies) _ (file-lengths k h bodies l) (first-refusal k (file_of k h bodies)))))
          (λ f. rw f (Tells.short t l (rw (file-length k h bodies) (leb-false size room f))))
          (either (leb size room))

      fit : fitting k h bodies ≡ true → Tells k h bodies room (write_as k h bodies room)
      fit t =
          rw t
          (⊎_elim (λ b. rw b (few t (leb-true (body_count k bodies) limit b))) (λ f. rw f (Tells.many t (leb-false (body_count k bodies) limit f)))
          (either (leb (body_count k bodies) limit)))

  tells-read : (a : Answer) → Tells k h bodies room a → writers_own a.number ≡ false → a ≡ read_as k (file_of k h bodies)
  unfolding writers_own
  tells-read a (Tells.unfit f) e = absurd (clash refl e)
  tells-read a (Tells.many t l) e = absurd (clash refl e)
  tells-read a (Tells.short t l b) e = absurd (clash refl e)
  tells-read a (Tells.read t l b o) e = refl

  -- *Answers agree*: an answer of the writer other than 1, 2, 3 and 8 is the reader's on the file to be written
  pub answers_agree : writers_own (write_as k h bodies room).number ≡ false → write_as k h bodies room ≡ read_as k (file_of k h bodies)
  answers_agree = tells-read (write_as k h bodies room) writer-tells
