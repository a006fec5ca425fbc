-- The bodies of any file, handed out one by one and stored one behind the other.
-- Assumes nothing.
use Prim.Native.Nat.{ℕ, ◌+◌, ◌*◌, ◌≤◌, ◌<◌}
use mathlib.Core.List.{List, [], ◌++◌}
use mathlib.Core.Path.{◌≡◌, ◌∙◌}
use native.Mathlib.Nat.{le_trans, mul-le-mul, sub-le, div-mul-le_self, suc-mul, zero-mul}
use native.Mathlib.Numerals.{add-one}
use native.Mathlib.Omega.{arith}
use borrow.Author.Tests.{lt-ltb, le-ltb}
use lib.ListN.{length, drop}
use Rattle.laws.specs.Joined.{joined}
use Rattle.laws.proofs.Joins.{sized-length, size_below, joined-start, joined-more}
use Rattle.kinds.specs.declared.of_files.Kind.{Kind}
use Rattle.kinds.specs.Kinds.{fixed_of}
use Rattle.records.specs.Records.{count_of, data_of}
use Rattle.laws.specs.Stored.{stored}
use Rattle.builder.proofs.Sizes.{body-size}
use Rattle.builder.proofs.Stores.{store-next}
use Rattle.writer.specs.Apart.{body_at}
use Rattle.writer.proofs.Taken.{bodies-sized}
use Rattle.apart.specs.Taking.{body_of}

module _ (k : Kind) (s : List ℕ) where
  -- a body is handed out where there is such a record
  pub body_is : (i : ℕ) → i < data_of k s → body_of k s i ≡ body_at k s i
  unfolding body_of
  body_is i l = rw (lt-ltb i (data_of k s) l)

  pub body-none : (i : ℕ) → data_of k s ≤ i → body_of k s i ≡ []
  unfolding body_of
  body-none i h = rw (le-ltb i (data_of k s) h)

  -- each lies within them
  pub body-within : (i : ℕ) → i < data_of k s → i * (fixed_of k).body + length (body_of k s i) ≤ data_of k s * (fixed_of k).body
  body-within i l = rw (body_is i l, bodies-sized k s i l) (size_below i (data_of k s) (fixed_of k).body l)

  -- they are no longer than the file
  pub bodies-within : data_of k s * (fixed_of k).body ≤ length s
  unfolding count_of
  bodies-within =
      le_trans (mul-le-mul (sub-le (count_of k s) 2) (omega (arith, body-size k))) (div-mul-le_self (length s) (fixed_of k).size)

  -- a loop that stores one body behind the other
  module _ (o : List ℕ) where
    abbrev pub Stored : ℕ → List ℕ
    Stored i = joined (body_at k s) i ++ drop (i * (fixed_of k).body) o

    pub store-start : o ≡ Stored 0
    store-start = rw (joined-start (body_at k s), zero-mul)

    pub store-more : (i : ℕ) → i < data_of k s → stored (i * (fixed_of k).body) (body_of k s i) (Stored i) ≡ Stored (i + 1)
    store-more i l =
        rw (body_is i l)
        (store-next (joined (body_at k s) i) (body_at k s i) o (i * (fixed_of k).body) (sized-length (body_at k s) (fixed_of k).body i (λ j h. bodies-sized k s j (omega arith))) ∙
        rw (← joined-more (body_at k s) i, bodies-sized k s i l, ← suc-mul i (fixed_of k).body, ← add-one i))
