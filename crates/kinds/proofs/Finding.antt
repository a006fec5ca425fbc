-- The kind and the pair kind that a number names, as `find` on the tables.
-- Assumes nothing.
use Rattle.std.proofs.Common.{ℕ, Bool, List, length, get_or, ◌≡◌, sym, ◌∙◌, eqb, ltb, cond}
use Rattle.std.specs.Prelude.{Some, None}
use Rattle.std.specs.List.{find, slice_get}
use Rattle.std.proofs.lemmas.Option.{slice_get-get_or, slice_get_past}
use mathlib.Core.Logic.{⊎_elim}
use borrow.Author.Tests.{ltb-true, ltb-false}
use Rattle.laws.specs.Least.{least}
use Rattle.laws.proofs.Bools.{either}
use Rattle.laws.proofs.Positions.{find_least}
use Rattle.kinds.specs.Kinds.{no_kind, kinds, name_is, kind_from, kind_of}
use Rattle.kinds.specs.Pairs.{no_pair, pairs, request_is, pair_from, pair_of}

at_place : {X : Type 0} (xs : List X) (i : ℕ) (d : X) → slice_get xs i ≡ cond (ltb i (length xs)) (Some (get_or xs i d)) None
at_place xs i d =
    ⊎_elim (λ t. rw t (slice_get-get_or xs i d (ltb-true i (length xs) t)))
    (λ f. rw f (slice_get_past xs i (ltb-false i (length xs) f)))
    (either (ltb i (length xs)))

find_table : {X : Type 0} (p : X → Bool) (xs : List X) (d : X) →
    find p xs ≡ cond (ltb (least (λ k. p (get_or xs k d)) (length xs)) (length xs)) (Some (get_or xs (least (λ k. p (get_or xs k d)) (length xs)) d)) None
find_table p xs d = find_least p xs d ∙ at_place xs (least (λ k. p (get_or xs k d)) (length xs)) d

pub kind_found : (n : ℕ) → kind_of n ≡ find (λ k. eqb k.own.name n) kinds
unfolding kind_of kind_from name_is
kind_found n = sym (find_table (λ k. eqb k.own.name n) kinds no_kind)

pub pair_found : (n : ℕ) → pair_of n ≡ find (λ p. eqb p.request.name n) pairs
unfolding pair_of pair_from request_is
pair_found n = sym (find_table (λ p. eqb p.request.name n) pairs no_pair)
