-- Bodies one behind the other: each by the lengths before it.
-- Assumes nothing.
use Prim.Native.Nat.{ℕ, ◌<◌}
use mathlib.Core.List.{List}
use mathlib.Core.Path.{◌≡◌, ◌∙◌}
use native.Mathlib.Omega.{arith}
use lib.ListN.{length}
use lib.Seq.{take_all}
use Rattle.laws.specs.Joined.{joined}
use Rattle.laws.specs.Sum.{sum}
use Rattle.laws.proofs.Joins.{joined-piece, pieces-joined}
use Rattle.laws.proofs.Parts.{part_length}
use Rattle.laws.proofs.Sums.{sum_same, sum-up}
use Rattle.day.specs.Bodies.{body_in}

-- the same lengths, the same bodies
pub body_same :
    (size long : ℕ → ℕ) (n : ℕ) (bodies : List ℕ) → ((i : ℕ) → i < n → size i ≡ long i) → (i : ℕ) → i < n → body_in size bodies i ≡ body_in long bodies i
unfolding body_in
body_same size long n bodies sizes i h = rw (sum_same size long i (λ j l. sizes j (omega arith)), sizes i h)

-- where they make up all bytes: how long each is, and that they are those bytes
module _ (size : ℕ → ℕ) (n : ℕ) (bodies : List ℕ) (all : sum size n ≡ length bodies) where
  pub body-long : (i : ℕ) → i < n → length (body_in size bodies i) ≡ size i
  unfolding body_in
  body-long i h = part_length (sum size i) (size i) bodies (omega (arith, sum-up size n i h))

  pub bodies-joined : joined (body_in size bodies) n ≡ bodies
  unfolding body_in
  bodies-joined = pieces-joined size n bodies ∙ take_all (sum size n) bodies (omega arith)

-- and they are found again by how long they are
pub body-found : (body : ℕ → List ℕ) (n i : ℕ) → i < n → body_in (λ j. length (body j)) (joined body n) i ≡ body i
unfolding body_in
body-found body n i h = joined-piece body n i h
