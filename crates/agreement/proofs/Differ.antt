-- The loop over the items that are compared: one more agrees, or this is the first that differs.
-- Assumes nothing.
use Prim.Native.Nat.{ℕ, ◌+◌, ◌<◌}
use mathlib.Core.Bool.{true, false}
use mathlib.Core.List.{List}
use mathlib.Core.Path.{◌≡◌, ◌∙◌}
use native.Mathlib.Omega.{arith}
use lib.ListN.{length, get_or}
use Rattle.tables.specs.declared.copied.Copied.{Copied}
use Rattle.tables.specs.Copied.{no_item}
use Rattle.answers.specs.Answers.{accepted, refused_at}
use Rattle.answers.proofs.Refusals.{So-far, told_more, told-stop}
use Rattle.agreement.specs.Items.{agrees, item_tells, items_tell}

module _ (number rec : ℕ) (items : List Copied) (a b : List ℕ) where
  pub item-good : (i : ℕ) → agrees (get_or items i no_item) a b ≡ true → item_tells number rec items a b i ≡ accepted
  unfolding item_tells
  item-good i t = rw t

  pub item-bad : (i : ℕ) → agrees (get_or items i no_item) a b ≡ false → item_tells number rec items a b i ≡ refused_at number rec (get_or items i no_item).0 0x30303030
  unfolding item_tells
  item-bad i f = rw f

  pub items_more : (i : ℕ) → So-far (item_tells number rec items a b) i → agrees (get_or items i no_item) a b ≡ true → So-far (item_tells number rec items a b) (i + 1)
  items_more i e t = told_more (item_tells number rec items a b) i e (rw (item-good i t))

  -- the number told is a refusal's
  pub items-stop :
      0 < number → (i : ℕ) → i < length items → So-far (item_tells number rec items a b) i → agrees (get_or items i no_item) a b ≡ false →
      items_tell number rec items a b ≡ refused_at number rec (get_or items i no_item).0 0x30303030
  unfolding items_tell
  items-stop pos i h e f = told-stop (item_tells number rec items a b) i (length items) h e (rw (item-bad i f) (λ z. omega arith)) ∙ item-bad i f
