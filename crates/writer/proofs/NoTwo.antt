-- No two things that the writer accepts give one file, of one kind or of two.
-- Assumes nothing.
use Prim.Native.Nat.{ℕ}
use mathlib.Core.List.{List}
use mathlib.Core.Path.{◌≡◌}
use Rattle.kinds.specs.declared.of_files.Kind.{Kind}
use Rattle.std.specs.Prelude.{Some}
use Rattle.kinds.specs.Kinds.{kind_of}
use Rattle.reader.specs.Meets.{Meets}
use Rattle.reader.proofs.Exact.{read-exact}
use Rattle.reader.proofs.OneKind.{one-kind}
use Rattle.builder.specs.Records.{Head}
use Rattle.builder.specs.Files.{file_of}
use Rattle.writer.specs.Writing.{write_as}
use Rattle.writer.proofs.Trips.{write-good, no-two}

-- what is written is accepted
written-meets : (k : Kind) (h : Head) (bodies : List ℕ) (room : ℕ) → (write_as k h bodies room).number ≡ 0 → Meets k (file_of k h bodies)
written-meets k h bodies room e = (read-exact k (file_of k h bodies)).0 (write-good k h bodies room e).1

-- two things that give one file: the kinds are the same, and so is what was given
pub record SameGiven (k l : Kind) (h h' : Head) (bodies bodies' : List ℕ) : Type 0 where
  pub kind : k ≡ l
  pub head : h ≡ h'
  pub body : bodies ≡ bodies'

module _ (h h' : Head) (bodies bodies' : List ℕ) (room room' : ℕ) where
  same-given :
      (k l : Kind) → k ≡ l → (write_as k h bodies room).number ≡ 0 → (write_as l h' bodies' room').number ≡ 0 →
      file_of k h bodies ≡ file_of l h' bodies' → SameGiven k l h h' bodies bodies'
  same-given k l same a b e =
      let parts = no-two l h h' bodies bodies' room room' (rw same at a) b (rw same at e) in
      record { kind = same; head = parts.0; body = parts.1 }

  -- *No two*, of any kinds that numbers name
  pub no-two-kinds :
      (m n : ℕ) (k l : Kind) → kind_of m ≡ Some k → kind_of n ≡ Some l →
      (write_as k h bodies room).number ≡ 0 → (write_as l h' bodies' room').number ≡ 0 →
      file_of k h bodies ≡ file_of l h' bodies' → SameGiven k l h h' bodies bodies'
  no-two-kinds m n k l p q a b e =
      same-given k l (one-kind m n k l p q (file_of l h' bodies') (rw e at (written-meets k h bodies room a)) (written-meets l h' bodies' room' b)) a b e
