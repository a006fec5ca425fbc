-- The frame of signed evidence, with nothing said of how it is checked.
use Rattle.std.specs.Prelude.{ℕ, zero, suc, ◌+◌, ◌*◌, ◌/◌, ◌%◌, ◌≤◌, ◌<◌, List, [], ◌∷◌, ◌++◌, ◌≡◌, length, get_or}

-- the deepest level; the outermost value is level 1
abbrev pub levels : ℕ
levels = 16

-- a tag of one byte: its low five bits are not all ones
abbrev pub OneByte : ℕ → Type 0
OneByte tag = tag % 32 ≡ 31 → ⊥

-- bit hex 20 of a tag: 1 where the value holds a list
abbrev pub list_bit : ℕ → ℕ
list_bit tag = tag / 32 % 2

-- the number that the first w bytes say in base 256, and that all say
unfoldable pub number_to : List ℕ → ℕ → ℕ
number_to s zero = 0
number_to s (suc w) = number_to s w * 256 + get_or s w 0

unfoldable pub number_of : List ℕ → ℕ
number_of s = number_to s (length s)

-- bytes that say a length in the shortest definite form: below 128 the length itself; else 128 and how many bytes follow, of
-- which 127 are too many, and these say the length, the first of them not 0
pub data Length (field : List ℕ) (n : ℕ) : Type 0 where
  short : field ≡ n ∷ [] → n < 128 → Length field n
  long : (digits : List ℕ) → field ≡ (128 + length digits) ∷ digits → length digits < 127 → 0 < get_or digits 0 0 → number_of digits ≡ n →
      128 ≤ n → Length field n

-- s is a tag, a length in the shortest form, and contents of this length
pub record Framed (tag : ℕ) (contents s : List ℕ) : Type 0 where
  pub one : OneByte tag
  pub field : List ℕ
  pub size : Length field (length contents)
  pub all : s ≡ tag ∷ (field ++ contents)

-- what a value is taken apart into: a tag and bytes, or a tag and values
mutual
  pub data Node : Type 0 where
    bytes : ℕ → List ℕ → Node
    list : ℕ → Nodes → Node

  pub data Nodes : Type 0 where
    none : Nodes
    more : Node → Nodes → Nodes

-- s is a value of this level, and is taken apart into this node; s is values of this level one after the other, and into these nodes
mutual
  pub data Value : ℕ → Node → List ℕ → Type 0 where
    plain : {level tag : ℕ} {contents s : List ℕ} → level ≤ levels → Framed tag contents s → list_bit tag ≡ 0 →
        Value level (bytes tag contents) s
    holding : {level tag : ℕ} {contents s : List ℕ} {nodes : Nodes} → level ≤ levels → Framed tag contents s → list_bit tag ≡ 1 →
        Values (level + 1) nodes contents → Value level (list tag nodes) s

  pub data Values : ℕ → Nodes → List ℕ → Type 0 where
    nothing : {level : ℕ} → Values level none []
    first : {level : ℕ} {node : Node} {nodes : Nodes} {v rest s : List ℕ} → Value level node v → Values level nodes rest → s ≡ v ++ rest →
        Values level (more node nodes) s

-- the contents of the object identifier of signed data
abbrev pub identifier : List ℕ
identifier = 0x2A ∷ 0x86 ∷ 0x48 ∷ 0x86 ∷ 0xF7 ∷ 0x0D ∷ 0x01 ∷ 0x07 ∷ 0x02 ∷ []

-- a sequence of exactly two values: the object identifier, then one tagged A0 that holds exactly one sequence
abbrev pub signed_node : Nodes → Node
signed_node held = list 0x30 (more (bytes 0x06 identifier) (more (list 0xA0 (more (list 0x30 held) none)) none))

-- s is such a value, of level 1
pub record Signed (s : List ℕ) : Type 0 where
  pub held : Nodes
  pub apart : Value 1 (signed_node held) s
