-- What each stage of reading says: records, totals, keys.
-- Assumes nothing.
use Prim.Native.Nat.{ℕ, ◌+◌, ◌-◌, ◌<◌}
use mathlib.Core.Bool.{true, false}
use mathlib.Core.List.{List}
use mathlib.Core.Path.{◌≡◌, sym, ◌∙◌}
use mathlib.Core.Logic.{⊎_elim}
use native.Mathlib.Omega.{arith}
use borrow.Author.Tests.{lt-ltb, le-ltb}
use lib.ListN.{length, get_or}
use Rattle.laws.specs.Least.{least}
use Rattle.laws.proofs.Bools.{either}
use Rattle.laws.proofs.Leasts.{least-none}
use Rattle.kinds.specs.declared.of_files.Kind.{Kind}
use Rattle.kinds.specs.Kinds.{fixed_of}
use Rattle.tables.specs.Totals.{no_total, totals_of}
use Rattle.answers.proofs.Refusals.{number_of}
use Rattle.answers.specs.Answers.{accepted, refused_at}
use Rattle.layout.specs.Judging.{judge_of}
use Rattle.layout.proofs.Judged.{judge-exact}
use Rattle.keys.specs.Keys.{shares_in, repeats_in}
use Rattle.keys.proofs.Distinct as keys
use Rattle.records.specs.Records.{count_of, data_of, key_at}
use Rattle.reader.specs.Judged.{judged_at}
use Rattle.reader.specs.Totals.{total_tells}
use Rattle.reader.specs.Keys.{shares_key, repeats, repeat_told, keys_tell}
use Rattle.reader.specs.Meets.{rows_at, row_holds, total_at, Distinct}

module _ (k : Kind) (s : List ℕ) where
  -- record i is good exactly when its rows hold
  pub record-good : (i : ℕ) → (judged_at k s i).number ≡ 0 → (j : ℕ) → j < length (rows_at k s i) → row_holds k s i j ≡ true
  unfolding judged_at judge_of
  record-good i e = (judge-exact k.own (rows_at k s i) _ _ i).0 e

  pub good-record : (i : ℕ) → ((j : ℕ) → j < length (rows_at k s i) → row_holds k s i j ≡ true) → (judged_at k s i).number ≡ 0
  unfolding judged_at judge_of
  good-record i h = (judge-exact k.own (rows_at k s i) _ _ i).1 h

  -- total j is good exactly when it holds
  pub good-total : (j : ℕ) → total_at k s j ≡ true → (total_tells k s j).number ≡ 0
  unfolding total_tells
  good-total j t = rw t

  pub bad-total : (j : ℕ) → total_at k s j ≡ false → total_tells k s j ≡ refused_at 6 (count_of k s - 1) (get_or (totals_of k) j no_total).0 0x30303030
  unfolding total_tells
  bad-total j f = rw f

  pub total-good : (j : ℕ) → (total_tells k s j).number ≡ 0 → total_at k s j ≡ true
  total-good j e =
      ⊎_elim (λ t. t) (λ f. absurd (let z : ◌≡◌ {A = ℕ} 6 0 = number_of (sym (bad-total j f)) ∙ e in omega arith))
      (either (total_at k s j))

  -- keys: no record repeats, or the first that does is told
  pub keys-good : ((i : ℕ) → i < data_of k s → repeats k s i ≡ false) → keys_tell k s ≡ accepted
  unfolding keys_tell repeat_told
  keys-good h = rw (least-none (repeats k s) (data_of k s) h, le-ltb (data_of k s) (data_of k s) (omega arith))

  pub keys-bad : least (repeats k s) (data_of k s) < data_of k s → keys_tell k s ≡ refused_at 7 (least (repeats k s) (data_of k s) + 1) (fixed_of k).key.item 0x30303030
  unfolding keys_tell repeat_told
  keys-bad h = rw (lt-ltb _ _ h)

  -- none repeats exactly when no two share a key
  pub distinct-if : ((i : ℕ) → i < data_of k s → repeats k s i ≡ false) → Distinct k s
  unfolding repeats shares_key repeats_in shares_in
  distinct-if h = keys.distinct-if (key_at k s) (data_of k s) h

  pub repeat-none : Distinct k s → (i : ℕ) → i < data_of k s → repeats k s i ≡ false
  unfolding repeats shares_key repeats_in shares_in
  repeat-none d = keys.repeat-none (key_at k s) (data_of k s) d
