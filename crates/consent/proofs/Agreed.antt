-- The evidence that an enrolment asks for is the one that agrees with it, item by item.
-- Assumes nothing.
use Prim.Native.Nat.{ℕ, ◌+◌, ◌*◌, ◌≤◌, ◌<◌}
use mathlib.Core.Bool.{true}
use mathlib.Core.List.{List, ◌++◌, append_assoc}
use mathlib.Core.Path.{◌≡◌, sym, ◌∙◌, ap}
use native.Mathlib.Omega.{arith}
use lib.ListN.{length, take, drop, replicate, length-append, length-replicate}
use lib.Seq.{take_at, drop_at, take-add, drop-drop}
use Rattle.laws.specs.Part.{part, same}
use Rattle.laws.proofs.Bools.{and_left, and_right, and_both}
use Rattle.laws.proofs.Parts.{part_length, same-equal, same_self}
use Rattle.kinds.specs.Kinds.{EB13}
use Rattle.records.specs.Records.{record_at, data_of}
use Rattle.records.proofs.Places.{record-inside}
use Rattle.evidence.specs.Blocks.{records_in}
use Rattle.evidence.specs.Judged.{byte_of}
use Rattle.evidence.specs.Reading.{key_of}
use Rattle.evidence.proofs.Looked.{first-inside}
use Rattle.consent.specs.Comparing.{long_date, asked_by, enrolment, is_new, belongs}
use Rattle.consent.specs.Matched.{Agree}

-- equal lists that are cut at the same place
pub cut : (n : ℕ) (a b x y : List ℕ) → length a ≡ n → length x ≡ n → a ++ b ≡ x ++ y → (a ≡ x) × (b ≡ y)
cut n a b x y p q e = (
  sym (take_at a b n p) ∙ (ap (take n) e ∙ take_at x y n q),
  sym (drop_at a b n p) ∙ (ap (drop n) e ∙ drop_at x y n q),
)

-- a part in two
part_cut : (a b c d : ℕ) (s : List ℕ) → a + b ≡ d → part a (b + c) s ≡ part a b s ++ part d c s
unfolding part
part_cut a b c d s e = rw (← e, take-add b c (drop a s), drop-drop b a s)

-- a part that is filled with spaces
filled-long : (a b c : ℕ) (r : List ℕ) → a + b ≤ length r → length (part a b r ++ replicate c 0x20) ≡ b + c
filled-long a b c r h = rw (length-append (part a b r) (replicate c 0x20), part_length a b r h, length-replicate {A = ℕ} c 0x20)

module _ (r s : List ℕ) (at : ℕ) where
  -- items 6 to 9, one after the other
  key-items : part (at + 45) 61 s ≡ part (at + 45) 30 s ++ (part (at + 75) 3 s ++ (part (at + 78) 20 s ++ part (at + 98) 8 s))
  key-items =
      part_cut (at + 45) 30 31 (at + 75) s (omega arith) ∙
      ap (λ (l : List ℕ). part (at + 45) 30 s ++ l)
      (part_cut (at + 75) 3 28 (at + 78) s (omega arith) ∙
      ap (λ (l : List ℕ). part (at + 75) 3 s ++ l) (part_cut (at + 78) 20 8 (at + 98) s (omega arith)))

  asked-items :
      asked_by r ≡
      (part 26 20 r ++ replicate 10 0x20) ++ (part 46 3 r ++ ((part 53 16 r ++ replicate 4 0x20) ++ long_date (part 19 6 r)))
  unfolding asked_by
  asked-items =
      sym
      (append_assoc (part 26 20 r) (replicate 10 0x20) _ ∙
      ap (λ (l : List ℕ). part 26 20 r ++ (replicate 10 0x20 ++ (part 46 3 r ++ l))) (append_assoc (part 53 16 r) (replicate 4 0x20) (long_date (part 19 6 r))))

  pub agree-key : Agree r s at → part (at + 45) 61 s ≡ asked_by r
  agree-key a = rw (key-items, asked-items, a.payer, a.bank, a.account, a.date)

  pub key-agree : 69 ≤ length r → at + 106 ≤ length s → part (at + 45) 61 s ≡ asked_by r → Agree r s at
  key-agree h g e =
      let all = sym key-items ∙ (e ∙ asked-items) in
      let p = cut 30 (part (at + 45) 30 s) _ (part 26 20 r ++ replicate 10 0x20) _ (part_length (at + 45) 30 s (omega arith)) (filled-long 26 20 10 r (omega arith)) all in
      let b = cut 3 (part (at + 75) 3 s) _ (part 46 3 r) _ (part_length (at + 75) 3 s (omega arith)) (part_length 46 3 r (omega arith)) p.1 in
      let a = cut 20 (part (at + 78) 20 s) _ (part 53 16 r ++ replicate 4 0x20) _ (part_length (at + 78) 20 s (omega arith)) (filled-long 53 16 4 r (omega arith)) b.1 in
      record { payer = p.0; bank = b.0; account = a.0; date = a.1 }

-- an enrolment is as long as a record
pub enrolment-long : (e : List ℕ) (i : ℕ) → i < data_of EB13 e → length (enrolment e i) ≡ 120
unfolding record_at
enrolment-long e i h = part_length ((i + 1) * 120) 120 e (record-inside EB13 e (i + 1) (omega arith))

-- evidence that agrees has the key that is asked for
pub agrees-key : (r s : List ℕ) (j : ℕ) → Agree r s (byte_of s j) → key_of s j ≡ asked_by r
unfolding key_of
agrees-key r s j a = agree-key r s (byte_of s j) a

module _ (e s : List ℕ) (i j : ℕ) where
  pub belongs-new : belongs e s i j ≡ true → is_new e i ≡ true
  unfolding belongs
  belongs-new t = and_left (is_new e i) (same (key_of s j) (asked_by (enrolment e i))) t

  pub belongs-agrees : i < data_of EB13 e → j < records_in s → belongs e s i j ≡ true → Agree (enrolment e i) s (byte_of s j)
  unfolding belongs key_of
  belongs-agrees h g t =
      key-agree (enrolment e i) s (byte_of s j) (omega (arith, enrolment-long e i h)) (omega (arith, first-inside s j g))
      (same-equal (key_of s j) (asked_by (enrolment e i)) (and_right (is_new e i) (same (key_of s j) (asked_by (enrolment e i))) t))

  pub agrees-belongs : is_new e i ≡ true → Agree (enrolment e i) s (byte_of s j) → belongs e s i j ≡ true
  unfolding belongs
  agrees-belongs n a =
      and_both (is_new e i) (same (key_of s j) (asked_by (enrolment e i))) n (rw (agrees-key (enrolment e i) s j a) (same_self (asked_by (enrolment e i))))
