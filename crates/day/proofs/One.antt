-- *One day file*: one list of names and bodies in one order has one day file, and a day file is that of one list alone.
-- Assumes nothing.
use Prim.Native.Nat.{ℕ, ◌<◌}
use mathlib.Core.List.{List}
use mathlib.Core.Path.{◌≡◌, sym, ◌∙◌, ap}
use lib.ListN.{length}
use Rattle.laws.specs.Joined.{joined}
use Rattle.laws.proofs.Joins.{joined_same}
use Rattle.day.specs.Contents.{length_in, bodies_in}
use Rattle.day.specs.Bodies.{body_in}
use Rattle.day.specs.Meets.{Composed}
use Rattle.day.specs.One.{Same}
use Rattle.day.proofs.Filed.{file-same}
use Rattle.day.proofs.Joined.{body_same, body-found}
use Rattle.day.proofs.Exact.{composed-holds}

module _ (n : ℕ) (name body other another : ℕ → List ℕ) where
  -- one list has one day file
  pub one-file : (s t : List ℕ) → Composed s n name body → Composed t n other another → ((i : ℕ) → i < n → name i ≡ other i) →
      ((i : ℕ) → i < n → body i ≡ another i) → s ≡ t
  one-file s t a b names bodies =
      a.all ∙
      (file-same name other (λ i. length (body i)) (λ i. length (another i)) n (joined body n) names (λ i h. ap length (bodies i h)) ∙
      rw (joined_same body another n bodies) (sym b.all))

-- a body is found in its file
found : (s : List ℕ) (n : ℕ) (name body : ℕ → List ℕ) → Composed s n name body → (i : ℕ) → i < n → body i ≡ body_in (length_in s) (bodies_in s) i
found s n name body a i h =
    let k = composed-holds s n name body a in
    sym (body-found body n i h) ∙
    (sym (body_same (length_in s) (λ j. length (body j)) n (joined body n) k.lengths i h) ∙ rw k.behind)

-- and a day file is of one list
pub one_list : (s : List ℕ) (n m : ℕ) (name body other another : ℕ → List ℕ) → Composed s n name body → Composed s m other another → Same n m name body other another
one_list s n m name body other another a b =
    let k = composed-holds s n name body a in
    let l = composed-holds s m other another b in
    let e : n ≡ m = sym k.count ∙ l.count in
    record {
      count = e;
      names = λ i h. sym (k.names i h) ∙ l.names i (rw (← e) h);
      bodies = λ i h. found s n name body a i h ∙ sym (found s m other another b i (rw (← e) h));
    }
