-- The kit's searches, comparisons, folds and sums of a list, as this repository's, which go by place.
-- Assumes nothing.
use Rattle.std.proofs.Common.{cond, Decides, ℕ, suc, ◌+◌, ◌<◌, Bool, true, false, not, List, [], ◌∷◌, length, get_or, take, ◌≡◌, refl, sym, ◌∙◌, ap, eqb, ltb, arith}
use Rattle.std.specs.Prelude.{Option, Some, None}
use Rattle.std.specs.Option.{unwrap_or}
use Rattle.std.specs.Cmp.Lexicographic.{pointwise}
use Rattle.std.specs.List.{position_or_len, list_any, list_all, find, fold, sum_by, slice_get, range_with_len}
use Rattle.std.proofs.lemmas.Bool.Decides.{Decides-eqb}
use Rattle.std.proofs.lemmas.Slice.Eq.{slice_eq-Decides}
use Rattle.std.proofs.lemmas.List.FromFn.{get_or-range_with_len, length-range_with_len}
use Rattle.std.proofs.lemmas.List.Folds.{find_at, list_any_at, list_any_none, list_all_at}
use Rattle.std.proofs.lemmas.List.Sums.{position_or_len_is, prefix_len-le-length, list_all-from_AllPass}
use mathlib.Core.Logic.{⊎_elim}
use native.Mathlib.Nat.{le_antisymm}
use borrow.Author.Tests.{ltb-true, ltb-false, ne_eqb, eq-eqb, not-false, not-true}
use Rattle.laws.specs.Least.{least, some, none}
use Rattle.laws.specs.Part.{part, same, begins}
use Rattle.laws.specs.Sum.{sum}
use Rattle.laws.proofs.Bools.{either, clash}
use Rattle.laws.proofs.Leasts.{least-is, least-same}
use Rattle.laws.proofs.Sums.{sum_same}
use Rattle.laws.proofs.Parts.{inside, same-equal, same_self}

module _ {X : Type 0} (p : X → Bool) (xs : List X) (d : X) where
  -- `position`: the first element that passes stands at the least place where one does
  pub least_position : least (λ k. p (get_or xs k d)) (length xs) ≡ position_or_len p xs
  least_position =
      let l = least-is (λ k. p (get_or xs k d)) (length xs) in
      sym (position_or_len_is p xs (least (λ k. p (get_or xs k d)) (length xs)) d l.within l.before l.holds)

  -- `position(..).unwrap_or(xs.len())`: its place, and past the last one where there is none
  pub unwrapped_position : (r : Option ℕ) → r ≡ cond (ltb (position_or_len p xs) (length xs)) (Some (position_or_len p xs)) None → unwrap_or r (length xs) ≡ position_or_len p xs
  unwrapped_position r e = ap (λ (o : Option ℕ). unwrap_or o (length xs)) e ∙ ⊎_elim found absent (either (ltb (position_or_len p xs) (length xs)))
    where
      answer : Bool → ℕ
      answer b = unwrap_or (cond b (Some (position_or_len p xs)) None) (length xs)

      found : ltb (position_or_len p xs) (length xs) ≡ true → answer (ltb (position_or_len p xs) (length xs)) ≡ position_or_len p xs
      found t = ap answer t

      absent : ltb (position_or_len p xs) (length xs) ≡ false → answer (ltb (position_or_len p xs) (length xs)) ≡ position_or_len p xs
      absent f = ap answer f ∙ le_antisymm (ltb-false (position_or_len p xs) (length xs) f) (prefix_len-le-length (λ x. not (p x)) xs)

  pub unwrapped_least : (r : Option ℕ) → r ≡ cond (ltb (position_or_len p xs) (length xs)) (Some (position_or_len p xs)) None → unwrap_or r (length xs) ≡ least (λ k. p (get_or xs k d)) (length xs)
  unwrapped_least r e = unwrapped_position r e ∙ sym least_position

  -- `find`: that element
  pub find_least : find p xs ≡ slice_get xs (least (λ k. p (get_or xs k d)) (length xs))
  find_least = find_at p xs ∙ ap (slice_get xs) (sym least_position)

  -- `any` and `contains`: some place has one
  pub some_any : some (λ k. p (get_or xs k d)) (length xs) ≡ list_any p xs
  unfolding some
  some_any = ⊎_elim found absent (either (ltb (least at (length xs)) (length xs)))
    where
      at : ℕ → Bool
      at k = p (get_or xs k d)

      found : ltb (least at (length xs)) (length xs) ≡ true → ltb (least at (length xs)) (length xs) ≡ list_any p xs
      found t =
          let h = ltb-true (least at (length xs)) (length xs) t in
          t ∙ sym (list_any_at p xs (least at (length xs)) d h ((least-is at (length xs)).holds h))

      absent : ltb (least at (length xs)) (length xs) ≡ false → ltb (least at (length xs)) (length xs) ≡ list_any p xs
      absent f =
          let past = ltb-false (least at (length xs)) (length xs) f in
          f ∙ sym (list_any_none p xs (λ k e h. ap p (inside xs k e d h) ∙ (least-is at (length xs)).before k (omega arith)))

  -- `all`: no place has one that fails
  pub none_all : none (λ k. not (p (get_or xs k d))) (length xs) ≡ list_all p xs
  unfolding none
  none_all = ⊎_elim found absent (either (ltb (least fails (length xs)) (length xs)))
    where
      fails : ℕ → Bool
      fails k = not (p (get_or xs k d))

      found : ltb (least fails (length xs)) (length xs) ≡ true → eqb (least fails (length xs)) (length xs) ≡ list_all p xs
      found t =
          let h = ltb-true (least fails (length xs)) (length xs) t in
          let fail : p (get_or xs (least fails (length xs)) d) ≡ false = not-true _ ((least-is fails (length xs)).holds h) in
          ne_eqb (least fails (length xs)) (length xs) (λ e. absurd (omega arith)) ∙ sym (list_all_at p xs (least fails (length xs)) d h fail)

      absent : ltb (least fails (length xs)) (length xs) ≡ false → eqb (least fails (length xs)) (length xs) ≡ list_all p xs
      absent f =
          let past = ltb-false (least fails (length xs)) (length xs) f in
          eq-eqb (least fails (length xs)) (length xs) (le_antisymm (least-is fails (length xs)).within past) ∙
          sym (list_all-from_AllPass p xs (λ k e h. ap p (inside xs k e d h) ∙ not-false _ ((least-is fails (length xs)).before k (omega arith))))

-- `==`: two lists of bytes are the same
pub same_pointwise : (a b : List ℕ) → pointwise eqb a b ≡ same a b
same_pointwise a b =
    ⊎_elim (λ t. t ∙ sym (ap (same a) (sym (is.0 t)) ∙ same_self a))
    (λ f. ⊎_elim (λ t. absurd (clash (is.1 (same-equal a b t)) f)) (λ g. f ∙ sym g) (either (same a b)))
    (either (pointwise eqb a b))
  where
    is : Decides (pointwise eqb a b) (a ≡ b)
    is = slice_eq-Decides Decides-eqb a b (pointwise eqb a b) refl

-- `starts_with`
pub begins_pointwise : (x s : List ℕ) → pointwise eqb x (take (length x) s) ≡ begins x s
unfolding begins part
begins_pointwise x s = same_pointwise x (take (length x) s)

-- `fold`, and a `for` over a slice: what a definition by place says at the end
pub fold_places : {A X : Type 0} (f : A → X → A) (xs : List X) (d : X) (F : ℕ → A) → ((i : ℕ) → i < length xs → F (suc i) ≡ f (F i) (get_or xs i d)) → fold f (F 0) xs ≡ F (length xs)
fold_places f [] d F more = refl
fold_places f (x ∷ xs) d F more =
    ap (λ a. fold f a xs) (sym (more 0 (omega arith))) ∙ fold_places f xs d (λ i. F (suc i)) (λ i h. more (suc i) (omega arith))

-- `sum`, of the elements or of what is said of each
pub sum_places : {X : Type 0} (f : X → ℕ) (xs : List X) (d : X) → sum_by f xs ≡ sum (λ k. f (get_or xs k d)) (length xs)
unfolding sum
sum_places f xs d = fold_places (λ a x. a + f x) xs d (sum (λ k. f (get_or xs k d))) (λ i h. refl)

-- `sum` over the places below n
pub sum_range : (f : ℕ → ℕ) (n : ℕ) → sum_by f (range_with_len 0 n) ≡ sum f n
sum_range f n =
    let at = λ (k : ℕ). f (get_or (range_with_len 0 n) k 0) in
    sum_places f (range_with_len 0 n) 0 ∙
    (ap (sum at) (length-range_with_len 0 n) ∙ sum_same at f n (λ k h. ap f (get_or-range_with_len 0 n k 0 h ∙ omega arith)))

-- searches over the places below n
module _ (p : ℕ → Bool) (n : ℕ) where
  place : (k : ℕ) → k < n → get_or (range_with_len 0 n) k 0 ≡ k
  place k h = get_or-range_with_len 0 n k 0 h ∙ omega arith

  below : (q : ℕ → Bool) → least (λ k. q (get_or (range_with_len 0 n) k 0)) (length (range_with_len 0 n)) ≡ least q n
  below q =
      let at = λ (k : ℕ). q (get_or (range_with_len 0 n) k 0) in
      ap (least at) (length-range_with_len 0 n) ∙ least-same at q n (λ k h. ap q (place k h))

  pub least_range : least p n ≡ position_or_len p (range_with_len 0 n)
  least_range = sym (below p) ∙ least_position p (range_with_len 0 n) 0

  pub some_range : some p n ≡ list_any p (range_with_len 0 n)
  unfolding some
  some_range =
      let at = below p in
      let long = length-range_with_len 0 n in
      let is = some_any p (range_with_len 0 n) 0 in
      cc

  pub none_range : none (λ k. not (p k)) n ≡ list_all p (range_with_len 0 n)
  unfolding none
  none_range =
      let at = below (λ k. not (p k)) in
      let long = length-range_with_len 0 n in
      let is = none_all p (range_with_len 0 n) 0 in
      cc
