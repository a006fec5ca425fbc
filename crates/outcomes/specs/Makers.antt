-- Who said no: what an outcome's maker says of its code, and the requests that the centre refused.
use Rattle.std.specs.Prelude.{ℕ, ◌≡◌, ◌↔◌, get_or}
use Rattle.tables.specs.declared.makers.Maker.TheVariants as makers
use Rattle.tables.specs.Among.{Among}
use Rattle.tables.specs.Codes.{bank_codes, centre_codes}
use Rattle.tables.specs.Makers.{by_centre}
use Rattle.outcomes.specs.declared.cases.Outcome.{Outcome}
use Rattle.outcomes.specs.declared.cases.Outcome.TheVariants.{None, Whole, Part, Refused}
use Rattle.outcomes.specs.Outcomes.{maker_in, numbers_of}

-- the code that an outcome tells
abbrev pub code_told : Outcome → ℕ
code_told o = get_or (numbers_of o) 3 0

-- a bank or the centre exactly when the code is one of that list, none exactly when it is blank
pub record MakerSays (o : Outcome) : Type 0 where
  pub bank : (maker_in o ≡ makers.Bank) ↔ Among bank_codes (code_told o)
  pub centre : (maker_in o ≡ makers.Centre) ↔ Among centre_codes (code_told o)
  pub none : (maker_in o ≡ makers.None) ↔ (code_told o ≡ 0x20202020)

-- 1 for a request that was refused in full with the centre as maker, else 0
abbrev pub refused_by_centre : Outcome → ℕ
refused_by_centre None = 0
refused_by_centre (Whole taken) = 0
refused_by_centre (Part taken notTaken code maker) = 0
refused_by_centre (Refused notTaken code maker) = by_centre maker
