-- What reading says, in the stages in which it is decided.
-- Assumes nothing.
use Prim.Native.Nat.{ℕ, ◌+◌, ◌≤◌}
use mathlib.Core.Bool.{true, false}
use mathlib.Core.List.{List}
use mathlib.Core.Path.{◌≡◌, sym, ◌∙◌}
use mathlib.Core.Logic.{⊎_elim}
use Rattle.laws.specs.Tabulate.{tabulate}
use Rattle.laws.proofs.Bools.{either}
use Rattle.kinds.specs.declared.of_files.Kind.{Kind}
use Rattle.kinds.specs.Kinds.{limit}
use Rattle.tables.specs.Totals.{most_totals}
use Rattle.answers.specs.declared.told.Answer.{Answer}
use Rattle.answers.specs.Answers.{refuses, first_told, ◌then◌}
use Rattle.answers.proofs.Refusals.{refuses-zero, refuses-other, then-first, then-second}
use Rattle.reader.specs.Reading.{read_as}
use Rattle.builder.specs.Records.{Head, header_built, body_count, trailer_built}
use Rattle.builder.specs.Files.{file_of}
use Rattle.writer.specs.Writing.{header_told, data_told, trailer_told, sum_to, sums_told, keys_told, built_told}
use Rattle.writer.proofs.Built.{read-built}
use Rattle.writer.proofs.Summed.{sums-end}

-- two answers before what follows are one answer before it
then-assoc : (a b x : Answer) → ((a then b) then x) ≡ (a then b then x)
then-assoc a b x = ⊎_elim bad good (either (refuses a))
  where
    bad : refuses a ≡ true → ((a then b) then x) ≡ (a then b then x)
    bad t = let ne = refuses-other a t in rw (then-first a b ne) (then-first a x ne ∙ sym (then-first a (b then x) ne))

    good : refuses a ≡ false → ((a then b) then x) ≡ (a then b then x)
    good f = let z = refuses-zero a f in rw (then-second a b z) (sym (then-second a (b then x) z))

-- the header, the data records, the trailer with its totals, the keys; the header stands in a frame, before and after the data
module _ (k : Kind) (h : Head) (bodies : List ℕ) (n : ℕ) (count : n ≡ body_count k bodies) (few : n ≤ limit) where
  pub stages :
      (header : List ℕ) → header ≡ header_built k h → (front : List ℕ) → front ≡ header →
      (sums : List ℕ) → sums ≡ tabulate (sum_to k header bodies n) most_totals →
      read_as k (file_of k h bodies) ≡
      (header_told k (header_built k h) then first_told (data_told k header bodies) n then
      (trailer_told k front sums n then sums_told k (trailer_built k front sums) sums (n + 1)) then keys_told k bodies)
  unfolding built_told
  stages header same front still sums are =
      rw (are, still, same, count, sums-end k (header_built k h) bodies, then-assoc) (read-built k h bodies (rw (← count) few))
