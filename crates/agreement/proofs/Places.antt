-- The two kinds of a pair have records of one size, and what is compared lies inside them and holds the key.
-- Assumes nothing.
use Prim.Native.Nat.{ℕ, ◌+◌, ◌≤◌, ◌<◌}
use mathlib.Core.Bool.{Bool, true}
use mathlib.Core.List.{List}
use mathlib.Core.Path.{◌≡◌, refl, sym}
use native.Mathlib.Omega.{arith}
use borrow.Author.Tests.{eqb-true, leb-true}
use lib.Dec.{eqb, leb}
use lib.ListN.{length, get_or, take}
use lib.Seq.{get_or-take}
use Rattle.laws.specs.Part.{part}
use Rattle.laws.proofs.Every.{every, every-at}
use Rattle.laws.proofs.Parts.{part_join}
use Rattle.tables.specs.declared.copied.Copied.{Copied}
use Rattle.kinds.specs.Kinds.{fixed_of}
use Rattle.kinds.proofs.Forms.{of-family}
use Rattle.tables.specs.Copied.{no_item, among, items_but, enrolment_copied, debit_copied, copied_of}
use Rattle.tables.specs.Tables.{data_front, enrolment_data, debit_data, enrolment_request_data, debit_request_data}
use Rattle.kinds.specs.declared.of_files.Own.{Own}
use Rattle.kinds.specs.declared.of_pairs.PairKind.{PairKind}
use Rattle.kinds.specs.declared.of_pairs.Family.{Family}
use Rattle.kinds.specs.declared.of_pairs.Family.TheVariants.{Enrolment, Debit}
use Rattle.kinds.specs.Pairs.{request_in, result_in, request_kind, result_kind, mark_start, agreed}
use Rattle.agreement.specs.Items.{Compared, Headers, Records, header_items, compared_of}
use Rattle.agreement.specs.Same.{SameItems, Agree}

pub same_size : (p : PairKind) → (fixed_of (result_kind p)).size ≡ (fixed_of (request_kind p)).size
same_size p =
    eqb-true (fixed_of (result_kind p)).size _
    (of-family (λ f. eqb (fixed_of (result_in f p.result)).size (fixed_of (request_in f p.request)).size) refl p.family)

-- a result's mark and code lie inside its record
pub mark-inside : (p : PairKind) → mark_start p + 5 ≤ 120
mark-inside p = leb-true _ 120 (of-family (λ f. leb ((fixed_of (result_in f p.result)).mark + 5) 120) refl p.family)

-- all that is compared, by the family
abbrev in_family : Own → Compared → Family → List Copied
in_family o Headers f = take (fixed_of (request_in f o)).agreed header_items
in_family o Records f = copied_of (request_in f o)

abbrev fits : Own → Family → Copied → Bool
fits o f c = leb (c.1 + c.2) (fixed_of (request_in f o)).size

compared-fit : (p : PairKind) (c : Compared) → every (fits p.request p.family) (compared_of p c) ≡ true
unfolding header_items enrolment_copied debit_copied items_but among enrolment_request_data debit_request_data enrolment_data debit_data data_front
compared-fit p Headers = of-family (λ f. every (fits p.request f) (in_family p.request Headers f)) refl p.family
compared-fit p Records = of-family (λ f. every (fits p.request f) (in_family p.request Records f)) refl p.family

pub compared-inside :
    (p : PairKind) (c : Compared) (i : ℕ) → i < length (compared_of p c) →
    (get_or (compared_of p c) i no_item).1 + (get_or (compared_of p c) i no_item).2 ≤ (fixed_of (request_kind p)).size
compared-inside p c i h = leb-true _ (fixed_of (request_kind p)).size (every-at (fits p.request p.family) (compared_of p c) (compared-fit p c) i no_item h)

-- the headers' items are the first of four
pub headers-agreed : (p : PairKind) → length (compared_of p Headers) ≡ agreed p
unfolding header_items
headers-agreed p =
    eqb-true _ (agreed p)
    (of-family (λ f. eqb (length (in_family p.request Headers f)) (fixed_of (request_in f p.request)).agreed) refl p.family)

pub agreed-most : (p : PairKind) → agreed p ≤ 4
agreed-most p = leb-true (agreed p) 4 (of-family (λ f. leb (fixed_of (request_in f p.request)).agreed 4) refl p.family)

pub header-compared : (p : PairKind) (i : ℕ) → i < length (compared_of p Headers) → get_or header_items i no_item ≡ get_or (compared_of p Headers) i no_item
header-compared p i h = sym (get_or-take (agreed p) header_items i no_item (rw (headers-agreed p) at h))

-- records that agree in every copied item have the same key: it is two copied items, 5 and 6 or 11 and 12
agree-key-in :
    (a b : Own) (f : Family) (request result : List ℕ) → SameItems (in_family a Records f) request result →
    part (fixed_of (request_in f a)).key.start (fixed_of (request_in f a)).key.size request ≡
    part (fixed_of (result_in f b)).key.start (fixed_of (result_in f b)).key.size result
unfolding enrolment_copied debit_copied items_but among enrolment_request_data debit_request_data enrolment_data debit_data data_front
agree-key-in a b Enrolment request result h = part_join 25 1 20 request result (h 2 (omega arith)) (h 3 (omega arith))
agree-key-in a b Debit request result h = part_join 91 20 5 request result (h 6 (omega arith)) (h 7 (omega arith))

pub agree-key :
    (p : PairKind) (request result : List ℕ) → Agree p request result →
    part (fixed_of (request_kind p)).key.start (fixed_of (request_kind p)).key.size request ≡
    part (fixed_of (result_kind p)).key.start (fixed_of (result_kind p)).key.size result
agree-key p request result h = agree-key-in p.request p.result p.family request result h
