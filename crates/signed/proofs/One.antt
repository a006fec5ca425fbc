-- *One reading*: bytes are taken apart in one way at most. *Cut short*: no beginning of a value is a value.
-- Assumes nothing.
use Prim.Native.Nat.{ℕ, ◌+◌, ◌-◌, ◌<◌}
use mathlib.Core.List.{List, [], ◌++◌, append-nil}
use mathlib.Core.Path.{◌≡◌, refl, sym, ◌∙◌, ap}
use native.Mathlib.Omega.{arith}
use lib.ListN.{length, take, drop, length-append, take-append-drop}
use lib.Seq.{take_at, drop_at, length-take-le}
use Rattle.signed.specs.Shape.{levels, Framed, Node, Nodes, Value, plain, holding, Values, nothing, first, Signed}
use Rattle.signed.specs.Checking.{size_within}
use Rattle.signed.proofs.Framed.{framed-found}
use Rattle.signed.proofs.Reading.{value-some, value-level, value_found}

-- bytes have one tag and one contents
tag_one : {tag other : ℕ} {c d s : List ℕ} → Framed tag c s → Framed other d s → tag ≡ other
tag_one {tag} {other} {c} {d} {s} f g = sym (framed-found tag c s f []).tagged ∙ (framed-found other d s g []).tagged

contents-one : {tag other : ℕ} {c d s : List ℕ} → Framed tag c s → Framed other d s → c ≡ d
contents-one {tag} {other} {c} {d} {s} f g = sym (framed-found tag c s f []).held ∙ (framed-found other d s g []).held

-- of two values in front of the same bytes neither is longer
module _ {level : ℕ} {m n : Node} {v w : List ℕ} (a : Value level m v) (b : Value level n w) (r q : List ℕ) (e : v ++ r ≡ w ++ q) where
  same_length : length v ≡ length w
  same_length =
      let left : ℕ = levels + 1 - level in
      let all : level + left ≡ levels + 1 = omega (arith, value-level a) in
      sym (value_found left level all m v r a) ∙ ap (size_within left) e ∙ value_found left level all n w q b

  pub same-front : v ≡ w
  same-front = sym (take_at v r (length v) refl) ∙ ap (take (length v)) e ∙ take_at w q (length v) (sym same_length)

  pub same_rest : r ≡ q
  same_rest = sym (drop_at v r (length v) refl) ∙ ap (drop (length v)) e ∙ drop_at w q (length v) (sym same_length)

mutual
  pub value-one : {level : ℕ} {m n : Node} {s : List ℕ} → Value level m s → Value level n s → m ≡ n
  value-one (plain h f b) (plain k g d) = let t = tag_one f g in let u = contents-one f g in cc
  value-one (plain h f b) (holding k g d vs) = let t = tag_one f g in absurd (omega (arith, t, b, d))
  value-one (holding h f b vs) (plain k g d) = let t = tag_one f g in absurd (omega (arith, t, b, d))
  value-one (holding h f b vs) (holding k g d ws) =
      let t = tag_one f g in
      let u = values_one vs (rw (sym (contents-one f g)) at ws) in
      cc

  pub values_one : {level : ℕ} {ms ns : Nodes} {s : List ℕ} → Values level ms s → Values level ns s → ms ≡ ns
  values_one nothing nothing = refl
  values_one nothing (first {v = v} {rest = r} a us e) = absurd (omega (arith, ap length e, length-append v r, value-some a))
  values_one (first {v = v} {rest = r} a us e) nothing = absurd (omega (arith, ap length e, length-append v r, value-some a))
  values_one (first {rest = r} a us e) (first {rest = q} b ws f) =
      let same = sym e ∙ f in
      let t = value-one a (rw (sym (same-front a b r q same)) at b) in
      let u = values_one us (rw (sym (same_rest a b r q same)) at ws) in
      cc

-- a value cut short
pub value-cut : {level : ℕ} {m n : Node} {s : List ℕ} → Value level m s → (k : ℕ) → k < length s → Value level n (take k s) → ⊥
value-cut {s = s} a k h b =
    let e : s ++ [] ≡ take k s ++ drop k s = append-nil s ∙ sym (take-append-drop k s) in
    let l : length s ≡ length (take k s) = ap length (same-front a b [] (drop k s) e) in
    omega (arith, l, length-take-le k s (omega arith))

-- the same of signed evidence: one taking apart, and none of what is cut short
pub one-reading : {s : List ℕ} (a b : Signed s) → a.held ≡ b.held
one-reading a b = let e = value-one a.apart b.apart in cc

pub cut_short : {s : List ℕ} → Signed s → (k : ℕ) → k < length s → Signed (take k s) → ⊥
cut_short a k h b = value-cut a.apart k h b.apart
