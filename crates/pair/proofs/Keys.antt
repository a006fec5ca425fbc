-- The request of a result and the result of a request, found by key, undo each other where the keys of a file are distinct.
-- Assumes nothing.
use Prim.Native.Nat.{ℕ, ◌≤◌, ◌<◌}
use mathlib.Core.List.{List}
use mathlib.Core.Path.{◌≡◌, sym, ◌∙◌}
use native.Mathlib.Omega.{arith}
use Rattle.laws.proofs.Leasts.{least-is, least-some}
use Rattle.laws.proofs.Parts.{same-equal, same_self}
use Rattle.kinds.specs.declared.of_files.Kind.{Kind}
use Rattle.records.specs.Records.{data_of, key_at}
use Rattle.reader.specs.Meets.{Distinct}
use Rattle.kinds.specs.declared.of_pairs.PairKind.{PairKind}
use Rattle.kinds.specs.Pairs.{request_kind, result_kind}
use Rattle.agreement.specs.Same.{request_at, result_at}
use Rattle.agreement.proofs.Places.{agree-key}
use Rattle.matching.specs.Matching.{has_key, place_of, request_for, result_for}
use Rattle.pair.specs.Assigned.{Matches, Met}

module _ (k : Kind) (s key : List ℕ) where
  -- what is found has the key
  place-key : place_of k s key < data_of k s → key_at k s (place_of k s key) ≡ key
  unfolding place_of has_key
  place-key h = same-equal (key_at k s (place_of k s key)) key ((least-is (has_key k s key) (data_of k s)).holds h)

  -- what has the key is found
  place-some : (i : ℕ) → i < data_of k s → key_at k s i ≡ key → place_of k s key < data_of k s
  unfolding place_of has_key
  place-some i h e = least-some (has_key k s key) (data_of k s) i h (rw e (same_self key))

  -- and nothing else is
  place_is : Distinct k s → (i : ℕ) → i < data_of k s → key_at k s i ≡ key → place_of k s key ≡ i
  place_is d i h e = d (place_of k s key) i (place-some i h e) h (place-key (place-some i h e) ∙ sym e)

module _ (p : PairKind) (q r : List ℕ) where
  -- the request that is found matches; where none is found, none does; there is no other
  pub request-found : (j : ℕ) → j < data_of (result_kind p) r → request_for p q r j < data_of (request_kind p) q → Matches p q r (request_for p q r j) j
  unfolding request_for
  request-found j h l = record { request = l; result = h; key = place-key (request_kind p) q (key_at (result_kind p) r j) l }

  pub request-none : (j : ℕ) → data_of (request_kind p) q ≤ request_for p q r j → (i : ℕ) → Matches p q r i j → ⊥
  unfolding request_for
  request-none j h i x = omega (arith, place-some (request_kind p) q (key_at (result_kind p) r j) i x.request x.key)

  pub request-is : Distinct (request_kind p) q → (i j : ℕ) → Matches p q r i j → request_for p q r j ≡ i
  unfolding request_for
  request-is d i j x = place_is (request_kind p) q (key_at (result_kind p) r j) d i x.request x.key

  -- so it is with the result of a request
  pub result-found : (i : ℕ) → i < data_of (request_kind p) q → result_for p q r i < data_of (result_kind p) r → Matches p q r i (result_for p q r i)
  unfolding result_for
  result-found i h l = record { request = h; result = l; key = sym (place-key (result_kind p) r (key_at (request_kind p) q i) l) }

  pub result-none : (i : ℕ) → data_of (result_kind p) r ≤ result_for p q r i → (j : ℕ) → Matches p q r i j → ⊥
  unfolding result_for
  result-none i h j x = omega (arith, place-some (result_kind p) r (key_at (request_kind p) q i) j x.result (sym x.key))

  pub result-is : Distinct (result_kind p) r → (i j : ℕ) → Matches p q r i j → result_for p q r i ≡ j
  unfolding result_for
  result-is d i j x = place_is (result_kind p) r (key_at (request_kind p) q i) d j x.result (sym x.key)

  -- there and back
  pub result-back :
      Distinct (result_kind p) r → (j : ℕ) → j < data_of (result_kind p) r → request_for p q r j < data_of (request_kind p) q →
      result_for p q r (request_for p q r j) ≡ j
  result-back d j h l = result-is d (request_for p q r j) j (request-found j h l)

  pub request-back :
      Distinct (request_kind p) q → (i : ℕ) → i < data_of (request_kind p) q → result_for p q r i < data_of (result_kind p) r →
      request_for p q r (result_for p q r i) ≡ i
  request-back d i h l = request-is d i (result_for p q r i) (result-found i h l)

-- a result that can answer a request matches it, since they agree in the key
pub met-matches : (p : PairKind) (q r : List ℕ) (i j : ℕ) → j < data_of (result_kind p) r → Met p q r i j → Matches p q r i j
unfolding key_at
met-matches p q r i j h m =
    record { request = m.inside; result = h; key = agree-key p (request_at p q i) (result_at p r j) m.agree }
