-- What a day file is, with nothing said of the order of reading.
use Rattle.std.specs.Prelude.{ℕ, ◌≤◌, ◌<◌, List, [], ◌∷◌, ◌++◌, ◌≡◌, length}
use Rattle.laws.specs.Joined.{joined}
use Rattle.laws.specs.Part.{part}
use Rattle.numbers.specs.Numbers.{word_of, digits_of}
use Rattle.answers.specs.Answers.{accepted}
use Rattle.keys.specs.Keys.{Distinct}
use Rattle.day.specs.Contents.{form_for, width_for, most, length_end}
use Rattle.day.specs.Bodies.{read_daily}

-- the entry of body i + 1: its name and the digits of its length, so many
unfoldable pub entry_of : ℕ → (ℕ → List ℕ) → (ℕ → ℕ) → ℕ → List ℕ
entry_of width name size i = name i ++ digits_of width (size i)

-- the day file of n bodies: the form that their lengths need, two digits for how many, the entries, the bodies
unfoldable pub file_of : (ℕ → List ℕ) → (ℕ → ℕ) → ℕ → List ℕ → List ℕ
file_of name size n bodies = (form_for size n ∷ []) ++ (digits_of 2 n ++ (joined (entry_of (width_for size n) name size) n ++ bodies))

-- a body is accepted as the kind of a day file that its name says, and item 4 of its header is the name
pub record Belongs (name body : List ℕ) : Type 0 where
  pub good : read_daily (word_of name) body ≡ accepted
  pub item4 : part 19 8 body ≡ name

-- its name has eight bytes, and its length at most six digits
pub record Fits (name body : List ℕ) : Type 0 where
  pub named : length name ≡ 8
  pub short : length body < length_end
  pub belongs : Belongs name body

-- form, count, contents and bodies, with nothing between or after; no two names are the same
pub record Composed (s : List ℕ) (n : ℕ) (name body : ℕ → List ℕ) : Type 0 where
  pub all : s ≡ file_of name (λ i. length (body i)) n (joined body n)
  pub few : n ≤ most
  pub each : (i : ℕ) → i < n → Fits (name i) (body i)
  pub names : Distinct name n

pub record Meets (s : List ℕ) : Type 0 where
  pub count : ℕ
  pub name : ℕ → List ℕ
  pub body : ℕ → List ℕ
  pub composed : Composed s count name body
