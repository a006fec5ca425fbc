-- What a result gives for each request, by any assignment of its records.
-- Assumes nothing.
use Prim.Native.Nat.{ℕ, ◌-◌, ◌<◌}
use mathlib.Core.List.{List}
use mathlib.Core.Path.{◌≡◌, refl, sym, ◌∙◌, ap}
use native.Mathlib.Omega.{arith}
use Rattle.kinds.specs.declared.of_pairs.PairKind.{PairKind}
use Rattle.kinds.specs.Pairs.{request_kind, result_kind}
use Rattle.layout.specs.Items.{amount_of}
use Rattle.records.specs.Records.{data_of}
use Rattle.agreement.specs.Same.{request_at, result_at}
use Rattle.pair.proofs.Exact.{only_one}
use Rattle.two_results.specs.Gives.{Amounts, Gives, Equal}

module _ (p : PairKind) (q r : List ℕ) where
  abbrev m : ℕ
  m = data_of (result_kind p) r

  -- a result that answers request i + 1, where so much was not taken of it
  pub record Answers (to : ℕ → ℕ) (i left : ℕ) : Type 0 where
    pub result : ℕ
    pub inside : result < m
    pub is : to result ≡ i
    pub amount : left ≡ amount_of (result_at p r result)

  -- what was not taken of the request that a result is assigned to is its amount
  pub amounts-failed :
      (to : ℕ → ℕ) → ((j l : ℕ) → j < m → l < m → to j ≡ to l → j ≡ l) → (i : ℕ) {taken left : ℕ} → Amounts p q r to i taken left →
      (j : ℕ) → j < m → to j ≡ i → left ≡ amount_of (result_at p r j)
  amounts-failed to distinct i (Amounts.whole none) j h e = absurd (none j h e)
  amounts-failed to distinct i (Amounts.failed l k f) j h e = ap (λ (x : ℕ). amount_of (result_at p r x)) (distinct l j k h (f ∙ sym e))

  -- where something was not taken, a result says so
  pub amounts-some : (to : ℕ → ℕ) (i : ℕ) {taken left : ℕ} → Amounts p q r to i taken left → 0 < left → Answers to i left
  amounts-some to i (Amounts.whole none) h = absurd (omega arith)
  amounts-some to i (Amounts.failed j k e) h = record { result = j; inside = k; is = e; amount = refl }

  one-amounts :
      (to then : ℕ → ℕ) → ((j l : ℕ) → j < m → l < m → to j ≡ to l → j ≡ l) → ((j : ℕ) → j < m → to j ≡ then j) →
      (i : ℕ) {taken left gone kept : ℕ} → Amounts p q r to i taken left → Amounts p q r then i gone kept → (taken ≡ gone) × (left ≡ kept)
  one-amounts to then distinct same i (Amounts.whole none) (Amounts.whole never) = (refl, refl)
  one-amounts to then distinct same i (Amounts.whole none) (Amounts.failed j h e) = absurd (none j h (same j h ∙ e))
  one-amounts to then distinct same i (Amounts.failed j h e) (Amounts.whole none) = absurd (none j h (sym (same j h) ∙ e))
  one-amounts to then distinct same i (Amounts.failed j h e) (Amounts.failed l k f) =
      let is = distinct j l h k (e ∙ (sym f ∙ sym (same l k))) in
      (ap (λ (x : ℕ). amount_of (request_at p q i) - amount_of (result_at p r x)) is, ap (λ (x : ℕ). amount_of (result_at p r x)) is)

  -- *One pair of lists*: a result gives a request no other lists
  pub gives_one : {taken left gone kept : ℕ → ℕ} → Gives p q r taken left → Gives p q r gone kept → Equal (data_of (request_kind p) q) taken left gone kept
  gives_one g h i l =
      one-amounts g.assignment.to h.assignment.to g.assignment.distinct (only_one p q r g.request g.assignment h.assignment) i (g.amounts i l) (h.amounts i l)
