-- *Shape*: the test says yes exactly where the bytes have the shape.
-- Assumes nothing.
use Prim.Native.Nat.{ℕ, ◌+◌}
use mathlib.Core.Bool.{Bool, true, ◌&&◌}
use mathlib.Core.List.{List, [], ◌∷◌, ◌++◌, append-nil}
use mathlib.Core.Path.{◌≡◌, refl, sym, ◌∙◌, ap}
use mathlib.Core.Logic.{◌↔◌}
use native.Mathlib.Nat.{le_refl}
use native.Mathlib.Omega.{arith}
use borrow.Author.Tests.{eqb-false}
use lib.ListN.{length, take, drop, take-append-drop}
use lib.Seq.{take_all}
use Rattle.laws.specs.Part.{part, begins}
use Rattle.laws.proofs.Bools.{and_left, and_right}
use Rattle.laws.proofs.Parts.{same-equal, same_self}
use Rattle.laws.proofs.Pieces.{part-first}
use Rattle.signed.specs.Shape.{Length, short, long, Framed, Node, bytes, list, Nodes, none, more, Value, plain, holding, Values, nothing, first, identifier, signed_node, Signed}
use Rattle.signed.specs.Checking.{front_of, said_in, contents_in, is_list, size_within, is_one, identified, holds_sequence, is_signed}
use Rattle.signed.proofs.Framing.{one-is, one-if}
use Rattle.signed.proofs.Framed.{Found, framed-take, framed-found}
use Rattle.signed.proofs.Reading.{list-found, list-sound, value_found, size-value}

-- one value with a tag is a frame that is all of s, and the other way round
one-framed : (tag : ℕ) (s : List ℕ) → is_one tag s ≡ true → Framed tag (contents_in s) s
one-framed tag s t =
    let o = one-is tag s t in
    let f = framed-take s o.begins in
    let all : take (front_of s + said_in s) s ≡ s = take_all (front_of s + said_in s) s (omega (arith, o.all)) in
    rw (o.tagged, all) at f

module _ {tag : ℕ} {c s : List ℕ} (f : Framed tag c s) where
  found : Found tag c s s
  found = rw append-nil at (framed-found tag c s f [])

  framed-one : is_one tag s ≡ true
  framed-one = one-if tag s (record { tagged = found.tagged; begins = found.begins; all = found.size })

  framed-held : contents_in s ≡ c
  framed-held = found.held

-- a list of one value is this value
only : {level : ℕ} {node : Node} {s : List ℕ} → Value level node s → Values level (more node none) s
only {s = s} v = first v nothing (sym (append-nil s))

is-only : {level : ℕ} {node : Node} {s : List ℕ} → Values level (more node none) s → Value level node s
is-only (first {v = v} value nothing e) = rw (e, append-nil) value

-- values of level 4, where 13 levels are left
body-values : (s : List ℕ) → is_list (size_within 13) s ≡ true → (nodes : Nodes) × Values 4 nodes s
body-values s t = list-sound (size_within 13) 4 (size-value 13 4 refl) (length s) s (le_refl _) t

body-list : (nodes : Nodes) (s : List ℕ) → Values 4 nodes s → is_list (size_within 13) s ≡ true
body-list = list-found (size_within 13) 4 (value_found 13 4 refl)

-- the value tagged A0
sequence-value : (s : List ℕ) → holds_sequence s ≡ true → (held : Nodes) × Value 2 (list 0xA0 (more (list 0x30 held) none)) s
unfolding holds_sequence
sequence-value s t =
    let a : Bool = is_one 0xA0 s in
    let b : Bool = is_one 0x30 (contents_in s) in
    let d : Bool = is_list (size_within 13) (contents_in (contents_in s)) in
    let u = and_right a (b && d) t in
    let body = body-values (contents_in (contents_in s)) (and_right b d u) in
    let inner : Value 3 (list 0x30 body.0) (contents_in s) = holding {level = 3} (omega arith) (one-framed 0x30 (contents_in s) (and_left b d u)) refl body.1 in
    (body.0, holding {level = 2} (omega arith) (one-framed 0xA0 s (and_left a (b && d) t)) refl (only inner))

value-sequence : {held : Nodes} (s : List ℕ) → Value 2 (list 0xA0 (more (list 0x30 held) none)) s → holds_sequence s ≡ true
unfolding holds_sequence
value-sequence {held} s (holding {contents = c} h f b values) = by-inner (is-only values)
  where
    by-inner : Value 3 (list 0x30 held) c → holds_sequence s ≡ true
    by-inner (holding {contents = d} k g e body) =
        rw (framed-one f, framed-held f, framed-one g, framed-held g) (body-list held d body)

-- the object identifier
identifier-framed : Framed 0x06 identifier identified
identifier-framed = record { one = eqb-false 6 31 refl; field = 9 ∷ []; size = short refl (omega arith); all = refl }

identifier-value : Value 2 (bytes 0x06 identifier) identified
identifier-value = plain {level = 2} (omega arith) identifier-framed refl

value-identifier : {v : List ℕ} → Value 2 (bytes 0x06 identifier) v → v ≡ identified
value-identifier (plain h f b) = by_length f.size f.all
  where
    by_length : {field v : List ℕ} → Length field 9 → v ≡ 0x06 ∷ (field ++ identifier) → v ≡ identified
    by_length (short e k) all = all ∙ ap (λ (x : List ℕ). 0x06 ∷ (x ++ identifier)) e
    by_length (long d e few some number most) all = absurd (omega arith)

begins-identified : (c : List ℕ) → begins identified c ≡ true → c ≡ identified ++ drop 11 c
unfolding begins part
begins-identified c t = sym (take-append-drop 11 c) ∙ ap (λ (x : List ℕ). x ++ drop 11 c) (sym (same-equal identified (take 11 c) t))

identified-begins : (r : List ℕ) → begins identified (identified ++ r) ≡ true
unfolding begins
identified-begins r = rw (part-first identified r 11 refl) (same_self identified)

shape-yes : (s : List ℕ) → is_signed s ≡ true → Signed s
unfolding is_signed
shape-yes s t =
    let a : Bool = is_one 0x30 s in
    let b : Bool = begins identified (contents_in s) in
    let d : Bool = holds_sequence (drop 11 (contents_in s)) in
    let u = and_right a (b && d) t in
    let behind = sequence-value (drop 11 (contents_in s)) (and_right b d u) in
    record {
      held = behind.0;
      apart = holding {level = 1} (omega arith) (one-framed 0x30 s (and_left a (b && d) t)) refl
          (first identifier-value (only behind.1) (begins-identified (contents_in s) (and_left b d u)));
    }

yes-shape : (s : List ℕ) → Signed s → is_signed s ≡ true
unfolding is_signed
yes-shape s signed = by-outer signed.apart
  where
    by_parts : {held : Nodes} {c v r : List ℕ} → Framed 0x30 c s → Value 2 (bytes 0x06 identifier) v → Values 2 (more (list 0xA0 (more (list 0x30 held) none)) none) r → c ≡ v ++ r → is_signed s ≡ true
    by_parts {c = c} {v = v} {r = r} f one others e =
        let all : c ≡ identified ++ r = e ∙ ap (λ (x : List ℕ). x ++ r) (value-identifier one) in
        rw (framed-one f, framed-held f, all, identified-begins r) (value-sequence r (is-only others))

    by-outer : {held : Nodes} → Value 1 (signed_node held) s → is_signed s ≡ true
    by-outer (holding h f b (first one others e)) = by_parts f one others e

pub shape : (s : List ℕ) → is_signed s ≡ true ↔ Signed s
shape s = (shape-yes s, yes-shape s)
