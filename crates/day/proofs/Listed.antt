-- What is told of n bodies: the loop over them, case by case, and that the same names and lengths are told the same.
-- Assumes nothing.
use Prim.Native.Nat.{ℕ, ◌+◌, ◌≤◌, ◌<◌}
use mathlib.Core.List.{List}
use mathlib.Core.Path.{◌≡◌, refl, sym, ap}
use mathlib.Core.Logic.{⊎_elim}
use native.Mathlib.Nat.{le_refl, eq-or-lt_of_le}
use borrow.Author.Tests.{eq-eqb, ne_eqb, lt-ltb, le-ltb, ltb-true, ltb-false}
use lib.ListN.{length}
use Rattle.laws.specs.Least.{least}
use Rattle.laws.specs.Sum.{sum}
use Rattle.laws.proofs.Leasts.{least-is, least-stop, least-same}
use Rattle.laws.proofs.Sums.{sum_same}
use Rattle.answers.specs.Answers.{refuses, refuses_at}
use Rattle.answers.specs.OfDay.{day_accepted, other_length, repeated_name, refused_body}
use Rattle.answers.proofs.Refusals.{So-far, refuses-is}
use Rattle.std.specs.Prelude.{Some, None}
use Rattle.keys.specs.Keys.{repeats_in, below}
use Rattle.keys.proofs.Found.{below-some, below_none}
use Rattle.keys.proofs.Spaced.{first-same}
use Rattle.day.specs.Bodies.{body_told_at, refused_told, bodies_told, repeat_told, names_told, list_told}
use Rattle.day.proofs.Joined.{body_same}

module _ (name : ℕ → List ℕ) (size : ℕ → ℕ) (n : ℕ) (bodies : List ℕ) where
  -- body after body: the first that is refused, or none
  pub bodies-stop : (i : ℕ) → i < n → So-far (body_told_at name size bodies) i → ((body_told_at name size bodies i).number ≡ 0 → ⊥) →
      bodies_told name size n bodies ≡ refused_body (i + 1) (body_told_at name size bodies i)
  unfolding bodies_told refused_told refuses_at
  bodies-stop i h e ne =
      rw (least-stop (refuses_at (body_told_at name size bodies)) i n h e (refuses-is (body_told_at name size bodies i) ne), lt-ltb i n h)

  pub bodies-end : So-far (body_told_at name size bodies) n → bodies_told name size n bodies ≡ day_accepted
  unfolding bodies_told refused_told
  bodies-end e = rw (e, le-ltb n n (le_refl n))

  -- 31, 32, 33 in their order
  pub list-31 : (sum size n ≡ length bodies → ⊥) → list_told name size n bodies ≡ other_length
  unfolding list_told
  list-31 ne = rw (ne_eqb (sum size n) (length bodies) ne)

  module _ (all : sum size n ≡ length bodies) where
    pub list-32 : (i : ℕ) → i ≡ least (repeats_in name) n → i < n → list_told name size n bodies ≡ repeated_name (i + 1)
    unfolding list_told names_told repeat_told
    list-32 i e h = rw (eq-eqb (sum size n) (length bodies) all, ← e, lt-ltb i n h)

    pub list-33 : (i : ℕ) → i ≡ least (repeats_in name) n → n ≤ i → list_told name size n bodies ≡ bodies_told name size n bodies
    unfolding list_told names_told repeat_told
    list-33 i e h = rw (eq-eqb (sum size n) (length bodies) all, ← e, le-ltb i n h)

    -- as a search among as many names says
    module _ (m : ℕ) (each : m ≡ n) where
      pub repeated-told : (i : ℕ) → Some i ≡ below m (least (repeats_in name) m) → list_told name size n bodies ≡ repeated_name (i + 1)
      repeated-told i e =
          let found = below-some n (least (repeats_in name) n) i (rw each at e) in
          list-32 i (sym found.1) (ltb-true i n (rw found.1 at found.0))

      pub distinct-told : None ≡ below m (least (repeats_in name) m) → list_told name size n bodies ≡ bodies_told name size n bodies
      distinct-told e = list-33 (least (repeats_in name) n) refl (ltb-false _ n (below_none n (least (repeats_in name) n) (rw each at e)))

-- the same names and lengths, and the same bodies, are told the same
module _ (name other : ℕ → List ℕ) (size long : ℕ → ℕ) (n : ℕ) (bodies : List ℕ)
    (names : (i : ℕ) → i < n → name i ≡ other i)
    (sizes : (i : ℕ) → i < n → size i ≡ long i)
  where
    told_at : (i : ℕ) → i < n → body_told_at name size bodies i ≡ body_told_at other long bodies i
    unfolding body_told_at
    told_at i h = rw (names i h, body_same size long n bodies sizes i h)

    refuses-same : (i : ℕ) → i < n → refuses_at (body_told_at name size bodies) i ≡ refuses_at (body_told_at other long bodies) i
    unfolding refuses_at
    refuses-same i h = ap refuses (told_at i h)

    first-refused : least (refuses_at (body_told_at name size bodies)) n ≡ least (refuses_at (body_told_at other long bodies)) n
    first-refused = least-same _ _ n refuses-same

    bodies-same : bodies_told name size n bodies ≡ bodies_told other long n bodies
    unfolding bodies_told refused_told
    bodies-same = ⊎_elim none some (eq-or-lt_of_le (least-is (refuses_at (body_told_at other long bodies)) n).within)
      where
        none : least (refuses_at (body_told_at other long bodies)) n ≡ n → bodies_told name size n bodies ≡ bodies_told other long n bodies
        none e = rw (first-refused, e, le-ltb n n (le_refl n))

        some : least (refuses_at (body_told_at other long bodies)) n < n → bodies_told name size n bodies ≡ bodies_told other long n bodies
        some h = rw (first-refused, told_at (least (refuses_at (body_told_at other long bodies)) n) h)

    pub list_same : list_told name size n bodies ≡ list_told other long n bodies
    unfolding list_told names_told
    list_same = rw (sum_same size long n sizes, first-same name other n names, bodies-same)
