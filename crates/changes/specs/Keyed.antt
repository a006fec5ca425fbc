-- How the other half of a record is found: by the key that it must have, along the chains of the keys of the file.
use Rattle.std.specs.Prelude.{ℕ, cond, List, [], ◌∷◌, ◌≡◌, eqb}
use Rattle.kinds.specs.Kinds.{EB11}
use Rattle.tables.specs.Places.{member_place}
use Rattle.keys.specs.Stands.{key_in}
use Rattle.keys.specs.Chains.{Chained}
use Rattle.layout.specs.Items.{bytes_at, application_of}
use Rattle.records.specs.Records.{data_of}
use Rattle.reader.specs.Keys.{spacing_of}
use Rattle.reader.specs.Meets.{Meets}

-- the key that the other half must have: the other kind, and the payer. Of "7" no record is asked for it
unfoldable pub other_kind : ℕ → ℕ
other_kind kind = cond (eqb kind 0x33) 0x31 0x33

unfoldable pub other_key : List ℕ → List ℕ
other_key rec = other_kind (application_of rec) ∷ bytes_at member_place rec

-- an accepted EB11 of n records, whose keys are chained
pub record Keyed (s : List ℕ) (n : ℕ) (links : List ℕ) : Type 0 where
  pub meets : Meets EB11 s
  pub all : n ≡ data_of EB11 s
  pub chained : Chained (key_in [] (spacing_of EB11) s) n links
