-- What is found for all at once is what is found for each.
-- Assumes nothing.
use Prim.Native.Nat.{ℕ, ◌≤◌, ◌<◌}
use mathlib.Core.List.{List, []}
use mathlib.Core.Path.{◌≡◌, sym, ◌∙◌, ap}
use native.Mathlib.Omega.{arith}
use lib.ListN.{length, get_or, replicate, length-replicate}
use mir.Syntax.{w64}
use mir.Val.{Fits}
use Rattle.laws.proofs.Leasts.{least-is, least-same}
use Rattle.kinds.specs.declared.of_files.Kind.{Kind}
use Rattle.kinds.specs.Kinds.{limit}
use Rattle.keys.specs.Keys.{has_key_in, place_in}
use Rattle.keys.specs.Stands.{key_in}
use Rattle.keys.proofs.Found.{place-of, places-length}
use Rattle.records.specs.Records.{data_of, key_at}
use Rattle.reader.specs.Keys.{spacing_of}
use Rattle.reader.proofs.Places.{key-place}
use Rattle.kinds.specs.declared.of_pairs.PairKind.{PairKind}
use Rattle.kinds.specs.Pairs.{request_kind, result_kind}
use Rattle.matching.specs.Amounts.{not_taken_by, not_taken_at}
use Rattle.matching.specs.Matching.{has_key, place_of, request_for, result_for, requests_for, results_for}

-- a list that comes zeroed
pub zeros : (n : ℕ) → replicate {A = ℕ} n 0 ≡ replicate (length (replicate {A = ℕ} n 0)) 0
zeros n = ap (λ (k : ℕ). replicate k 0) (sym (length-replicate {A = ℕ} n 0))

-- a key's place by the places of the keys in the file
place-by : (k : Kind) (s key : List ℕ) → place_in (key_in [] (spacing_of k) s) (data_of k s) key ≡ place_of k s key
unfolding place_in place_of has_key_in has_key
place-by k s key = least-same _ _ (data_of k s) (λ i l. rw (key-place k s i (omega arith)))

module _ (p : PairKind) (q r : List ℕ) where
  -- the request of each result
  pub request-of : data_of (result_kind p) r ≤ limit → (j : ℕ) → j < data_of (result_kind p) r → get_or (requests_for p q r) j 0 ≡ request_for p q r j
  unfolding requests_for request_for
  request-of l j h = place-of _ _ _ _ limit l j h ∙ rw (← key-place (result_kind p) r j (omega arith)) (place-by (request_kind p) q (key_at (result_kind p) r j))

  -- the result of each request
  pub result-of : data_of (request_kind p) q ≤ limit → (i : ℕ) → i < data_of (request_kind p) q → get_or (results_for p q r) i 0 ≡ result_for p q r i
  unfolding results_for result_for
  result-of l i h = place-of _ _ _ _ limit l i h ∙ rw (← key-place (request_kind p) q i (omega arith)) (place-by (result_kind p) r (key_at (request_kind p) q i))

  -- a place among so few fits a word
  pub result_fits :
      (list : List ℕ) → list ≡ results_for p q r → data_of (request_kind p) q ≤ limit → data_of (result_kind p) r ≤ limit →
      (i : ℕ) → i < data_of (request_kind p) q → Fits w64 (get_or list i 0)
  unfolding result_for place_of
  result_fits list e l m i h = rw (e, result-of l i h) (record { fits = omega (arith, (least-is (has_key (result_kind p) r (key_at (request_kind p) q i)) (data_of (result_kind p) r)).within) })

  -- so what was not taken of a request is what the result found for it says
  pub left-of : data_of (request_kind p) q ≤ limit → (i : ℕ) → i < data_of (request_kind p) q → not_taken_by p r (get_or (results_for p q r) i 0) ≡ not_taken_at p q r i
  unfolding not_taken_at
  left-of l i h = rw (result-of l i h)

  -- both lists have room for as many as there may be
  pub requests-length : length (requests_for p q r) ≡ limit
  unfolding requests_for
  requests-length = places-length _ _ _ _ limit

  pub results-length : length (results_for p q r) ≡ limit
  unfolding results_for
  results-length = places-length _ _ _ _ limit
