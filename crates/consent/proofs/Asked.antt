-- The evidence that an enrolment asks for, stored piece by piece into spaces.
-- Assumes nothing.
use Prim.Native.Nat.{ℕ}
use mathlib.Core.List.{List, [], ◌∷◌, ◌++◌, append_assoc, append-nil}
use mathlib.Core.Path.{◌≡◌, refl, sym, ◌∙◌, ap}
use native.Mathlib.Omega.{arith}
use lib.ListN.{length, replicate, length-append}
use Rattle.laws.specs.Stored.{stored}
use Rattle.laws.proofs.Stores.{stored-over}
use Rattle.consent.specs.Comparing.{long_date}

pub long-stored : (date : List ℕ) → length date ≡ 6 → stored 2 date (0x32 ∷ 0x30 ∷ replicate 6 0x20) ≡ long_date date
long-stored date e =
    stored-over 2 (0x32 ∷ 0x30 ∷ []) (replicate 6 0x20) [] date refl (sym e) ∙ ap long_date (append-nil date)

-- the five pieces
module _ (payer bank account date : List ℕ) (p : length payer ≡ 20) (b : length bank ≡ 3) (a : length account ≡ 16) (d : length date ≡ 8) where
  first : stored 0 payer (replicate 61 0x20) ≡ payer ++ replicate 41 0x20
  first = stored-over 0 [] (replicate 20 0x20) (replicate 41 0x20) payer refl (sym p)

  second : stored 30 bank (payer ++ replicate 41 0x20) ≡ (payer ++ replicate 10 0x20) ++ (bank ++ replicate 28 0x20)
  second =
      ap (stored 30 bank) (sym (append_assoc payer (replicate 10 0x20) (replicate 31 0x20))) ∙
      stored-over 30 (payer ++ replicate 10 0x20) (replicate 3 0x20) (replicate 28 0x20) bank
      (length-append payer (replicate 10 0x20) ∙ omega (arith, p)) (sym b)

  third :
      stored 33 account ((payer ++ replicate 10 0x20) ++ (bank ++ replicate 28 0x20)) ≡
      ((payer ++ replicate 10 0x20) ++ bank) ++ (account ++ replicate 12 0x20)
  third =
      ap (stored 33 account) (sym (append_assoc (payer ++ replicate 10 0x20) bank (replicate 28 0x20))) ∙
      stored-over 33 ((payer ++ replicate 10 0x20) ++ bank) (replicate 16 0x20) (replicate 12 0x20) account
      (rw (length-append (payer ++ replicate 10 0x20) bank, length-append payer (replicate 10 0x20)) (omega (arith, p, b))) (sym a)

  fourth :
      stored 53 date (((payer ++ replicate 10 0x20) ++ bank) ++ (account ++ replicate 12 0x20)) ≡
      (((payer ++ replicate 10 0x20) ++ bank) ++ (account ++ replicate 4 0x20)) ++ date
  fourth =
      ap (stored 53 date)
      (ap (λ (l : List ℕ). ((payer ++ replicate 10 0x20) ++ bank) ++ l) (sym (append_assoc account (replicate 4 0x20) (replicate 8 0x20))) ∙
      sym (append_assoc ((payer ++ replicate 10 0x20) ++ bank) (account ++ replicate 4 0x20) (replicate 8 0x20))) ∙
      (stored-over 53 (((payer ++ replicate 10 0x20) ++ bank) ++ (account ++ replicate 4 0x20)) (replicate 8 0x20) [] date
      (rw (length-append ((payer ++ replicate 10 0x20) ++ bank) (account ++ replicate 4 0x20), length-append (payer ++ replicate 10 0x20) bank, length-append payer (replicate 10 0x20), length-append account (replicate 4 0x20)) (omega (arith, p, b, a)))
      (sym d) ∙ ap (λ (l : List ℕ). (((payer ++ replicate 10 0x20) ++ bank) ++ (account ++ replicate 4 0x20)) ++ l) (append-nil date))

  pub pieces :
      stored 53 date (stored 33 account (stored 30 bank (stored 0 payer (replicate 61 0x20)))) ≡
      payer ++ (replicate 10 0x20 ++ (bank ++ (account ++ (replicate 4 0x20 ++ date))))
  pieces =
      rw (first, second, third, fourth)
      (append_assoc ((payer ++ replicate 10 0x20) ++ bank) (account ++ replicate 4 0x20) date ∙
      (append_assoc (payer ++ replicate 10 0x20) bank ((account ++ replicate 4 0x20) ++ date) ∙
      (append_assoc payer (replicate 10 0x20) (bank ++ ((account ++ replicate 4 0x20) ++ date)) ∙
      ap (λ (l : List ℕ). payer ++ (replicate 10 0x20 ++ (bank ++ l))) (append_assoc account (replicate 4 0x20) date))))
