-- The size that is found at the front of bytes is that of a value, and every value's size is found, whatever stands behind it.
-- Assumes nothing.
use Prim.Native.Nat.{ℕ, zero, suc, ◌+◌, ◌≤◌, ◌<◌}
use mathlib.Core.Bool.{true}
use mathlib.Core.List.{List, [], ◌∷◌, ◌++◌}
use mathlib.Core.Path.{◌≡◌, refl, sym, ◌∙◌, ap}
use mathlib.Core.Logic.{⊎_elim}
use native.Mathlib.Nat.{not-suc-le-zero, le_refl}
use native.Mathlib.Omega.{arith}
use borrow.Author.Tests.{eqb-true, eqb-false}
use lib.Dec.{eqb}
use lib.ListN.{length, get_or, take, drop, length-append, length-drop, take-append-drop}
use lib.Seq.{drop_at}
use Rattle.laws.proofs.Bools.{either, clash}
use Rattle.signed.specs.Shape.{levels, list_bit, Framed, Node, bytes, list, Nodes, none, more, Value, plain, holding, Values, nothing, first}
use Rattle.signed.specs.Checking.{contents_in, framed_in, is_list, size_within}
use Rattle.signed.proofs.Framing.{framed-good, framed-begins}
use Rattle.signed.proofs.Listing.{list-end, list-stop, list-more, size_none, size-plain, size-holding, size-broken}
use Rattle.signed.proofs.Framed.{framed-take, framed-found}

-- a value has a byte at least
framed-some : {tag : ℕ} {c v : List ℕ} → Framed tag c v → 0 < length v
framed-some {tag} {c} {v} f = let e = ap length f.all in omega (arith, e)

pub value-some : {level : ℕ} {node : Node} {v : List ℕ} → Value level node v → 0 < length v
value-some (plain h f b) = framed-some f
value-some (holding h f b vs) = framed-some f

pub value-level : {level : ℕ} {node : Node} {v : List ℕ} → Value level node v → level ≤ levels
value-level (plain h f b) = h
value-level (holding h f b vs) = h

-- a function that gives the size of each value of a level, whatever stands behind it, finds every list of them
module _ (size : List ℕ → ℕ) (level : ℕ) (sized : (node : Node) (v r : List ℕ) → Value level node v → size (v ++ r) ≡ length v) where
  pub list-found : (nodes : Nodes) (s : List ℕ) → Values level nodes s → is_list size s ≡ true
  list-found none s nothing = list-end size [] refl
  list-found (more node nodes) s (first {v = v} {rest = rest} value values e) =
      let n : size (v ++ rest) ≡ length v = sized node v rest value in
      let l : 0 < length (v ++ rest) = omega (arith, length-append v rest, value-some value) in
      rw e (list-more size (v ++ rest) l (omega (arith, n, value-some value)) ∙ rw (n, drop_at v rest (length v) refl) (list-found nodes rest values))

-- the size of every value is found, where its level and the levels that are left make up all
pub value_found : (left level : ℕ) → level + left ≡ levels + 1 → (node : Node) (v r : List ℕ) → Value level node v → size_within left (v ++ r) ≡ length v
value_found zero level e node v r value = absurd (omega (arith, value-level value))
value_found (suc left) level e node v r value = by-node (value_found left (level + 1) (omega arith)) node value
  where
    found : {tag : ℕ} {c : List ℕ} → Framed tag c v → framed_in (v ++ r) ≡ length v
    found {tag} {c} f = let o = framed-found tag c v f r in framed-good (v ++ r) o.begins ∙ o.size

    by-node :
        ((node : Node) (v r : List ℕ) → Value (level + 1) node v → size_within left (v ++ r) ≡ length v) →
        (node : Node) → Value level node v → size_within (suc left) (v ++ r) ≡ length v
    by-node deeper (bytes tag c) (plain h f b) =
        let o = framed-found tag c v f r in
        size-plain left (v ++ r) (rw o.tagged b) ∙ found f
    by-node deeper (list tag nodes) (holding {contents = c} h f b values) =
        let o = framed-found tag c v f r in
        size-holding left (v ++ r) (rw o.held (list-found (size_within left) (level + 1) deeper nodes c values)) ∙ found f

-- what has a size is a value, and what is taken off value by value a list of them
module _ (size : List ℕ → ℕ) (level : ℕ) (sound : (s : List ℕ) → 0 < size s → (node : Node) × Value level node (take (size s) s)) where
  -- one value off, and what is left is a list
  one_more : (s : List ℕ) → 0 < size s → ((nodes : Nodes) × Values level nodes (drop (size s) s)) → (nodes : Nodes) × Values level nodes s
  one_more s k rest = let one = sound s k in (more one.0 rest.0, first one.1 rest.1 (sym (take-append-drop (size s) s)))

  one-off :
      (n : ℕ) → ((s : List ℕ) → length s ≤ n → is_list size s ≡ true → (nodes : Nodes) × Values level nodes s) →
      (s : List ℕ) → length s ≤ suc n → is_list size s ≡ true → (nodes : Nodes) × Values level nodes s
  one-off n again [] h t = (none, nothing)
  one-off n again (x ∷ s) h t =
      ⊎_elim (λ z. absurd (clash t (list-stop size (x ∷ s) (omega arith) (eqb-true (size (x ∷ s)) 0 z))))
      (λ f.
      let k : 0 < size (x ∷ s) = omega (arith, eqb-false (size (x ∷ s)) 0 f) in
      one_more (x ∷ s) k (again (drop (size (x ∷ s)) (x ∷ s)) (rw length-drop (omega arith)) (sym (list-more size (x ∷ s) (omega arith) k) ∙ t)))
      (either (eqb (size (x ∷ s)) 0))

  pub list-sound : (n : ℕ) (s : List ℕ) → length s ≤ n → is_list size s ≡ true → (nodes : Nodes) × Values level nodes s
  list-sound zero [] h t = (none, nothing)
  list-sound zero (x ∷ s) h t = absurd (not-suc-le-zero h)
  list-sound (suc n) s h t = one-off n (list-sound n) s h t

pub size-value : (left level : ℕ) → level + left ≡ levels + 1 → (s : List ℕ) → 0 < size_within left s → (node : Node) × Value level node (take (size_within left s) s)
size-value zero level e s h = absurd (omega (arith, size_none s))
size-value (suc left) level e s h = by-tag (size-value left (level + 1) (omega arith))
  where
    framed : 0 < framed_in s → Framed (get_or s 0 0) (contents_in s) (take (framed_in s) s)
    framed k = let b = framed-begins s k in rw (framed-good s b) (framed-take s b)

    as_plain : list_bit (get_or s 0 0) ≡ 0 → (node : Node) × Value level node (take (size_within (suc left) s) s)
    as_plain b =
        let z = size-plain left s b in
        let deep : level ≤ levels = omega arith in
        let whole : Framed (get_or s 0 0) (contents_in s) (take (size_within (suc left) s) s) = rw z (framed (omega (arith, z))) in
        (bytes (get_or s 0 0) (contents_in s), plain deep whole b)

    as-holding :
        (list_bit (get_or s 0 0) ≡ 0 → ⊥) → ((nodes : Nodes) × Values (level + 1) nodes (contents_in s)) → is_list (size_within left) (contents_in s) ≡ true →
        (node : Node) × Value level node (take (size_within (suc left) s) s)
    as-holding b inside t =
        let z = size-holding left s t in
        let deep : level ≤ levels = omega arith in
        let whole : Framed (get_or s 0 0) (contents_in s) (take (size_within (suc left) s) s) = rw z (framed (omega (arith, z))) in
        let set : list_bit (get_or s 0 0) ≡ 1 = omega (arith, b) in
        (list (get_or s 0 0) inside.0, holding deep whole set inside.1)

    by-tag :
        ((t : List ℕ) → 0 < size_within left t → (node : Node) × Value (level + 1) node (take (size_within left t) t)) →
        (node : Node) × Value level node (take (size_within (suc left) s) s)
    by-tag deeper =
        ⊎_elim (λ b. as_plain (eqb-true (list_bit (get_or s 0 0)) 0 b))
        (λ b.
        ⊎_elim
        (λ t. as-holding (eqb-false (list_bit (get_or s 0 0)) 0 b) (list-sound (size_within left) (level + 1) deeper (length (contents_in s)) (contents_in s) (le_refl _) t) t)
        (λ f. absurd (omega (arith, h, size-broken left s (eqb-false (list_bit (get_or s 0 0)) 0 b) f)))
        (either (is_list (size_within left) (contents_in s))))
        (either (eqb (list_bit (get_or s 0 0)) 0))
