-- What may be sent as evidence: the kinds, with their extensions and sizes.
use Rattle.std.specs.Prelude.{ℕ, ◌+◌, ◌*◌, Bool, cond, List, [], ◌∷◌, ◌++◌, eqb, length, get_or}
use Rattle.laws.specs.Least.{least, some}
use Rattle.text.specs.Characters.{within}
use Rattle.evidence_kinds.specs.declared.allowed.Sized.{Sized}

-- extensions: five small letters and spaces as one number
abbrev gif : ℕ
gif = 0x6769662020

abbrev jpg : ℕ
jpg = 0x6A70672020

abbrev jpeg : ℕ
jpeg = 0x6A70656720

abbrev pdf : ℕ
pdf = 0x7064662020

abbrev png : ℕ
png = 0x706E672020

abbrev tif : ℕ
tif = 0x7469662020

abbrev der : ℕ
der = 0x6465722020

abbrev mp3 : ℕ
mp3 = 0x6D70332020

abbrev wav : ℕ
wav = 0x7761762020

abbrev wma : ℕ
wma = 0x776D612020

abbrev txt : ℕ
txt = 0x7478742020

-- a kind and an extension that it allows, as one number of six bytes
abbrev pub allow : ℕ → ℕ → ℕ
allow kind extension = kind * 0x10000000000 + extension

-- pictures of paper or of a signature, recordings, and everything of kind "6"
abbrev pictures : ℕ → List ℕ
pictures kind = allow kind gif ∷ allow kind jpg ∷ allow kind jpeg ∷ allow kind pdf ∷ allow kind tif ∷ []

abbrev sounds : ℕ → List ℕ
sounds kind = allow kind mp3 ∷ allow kind wav ∷ allow kind wma ∷ []

abbrev others : ℕ → List ℕ
others kind =
    allow kind gif ∷ allow kind jpg ∷ allow kind jpeg ∷ allow kind pdf ∷ allow kind png ∷ allow kind tif ∷ allow kind der ∷ allow kind mp3 ∷ allow kind wav ∷
    allow kind wma ∷ allow kind txt ∷ []

-- "1" paper, "2" signed with an accredited certificate, "3" signed otherwise, "4" recorded, "5" by telephone, "6" other
unfoldable pub allowed : List ℕ
allowed = pictures 0x31 ++ (allow 0x32 der ∷ (pictures 0x33 ++ (sounds 0x34 ++ (sounds 0x35 ++ others 0x36))))

-- 300 KByte and 10, of 1,024 bytes each
abbrev large : ℕ
large = 307200

abbrev signed : ℕ
signed = 10240

-- the kinds, with the most bytes of each
abbrev sized : ℕ → ℕ → Sized
sized kind most = record { kind = kind; most = most }

unfoldable pub sizes : List Sized
sizes = sized 0x31 large ∷ sized 0x32 signed ∷ sized 0x33 large ∷ sized 0x34 large ∷ sized 0x35 large ∷ sized 0x36 large ∷ []

abbrev pub none : Sized
none = sized 0 0

-- capitals as small letters
unfoldable pub small : ℕ → ℕ
small b = cond (within 0x41 0x5A b) (b + 0x20) b

-- five bytes as one number, letters small
unfoldable pub name_of : List ℕ → ℕ
name_of s = (((small (get_or s 0 0) * 256 + small (get_or s 1 0)) * 256 + small (get_or s 2 0)) * 256 + small (get_or s 3 0)) * 256 + small (get_or s 4 0)

-- a kind and five bytes, letters small, byte by byte
unfoldable pub row_of : ℕ → List ℕ → List ℕ
row_of kind s = kind ∷ small (get_or s 0 0) ∷ small (get_or s 1 0) ∷ small (get_or s 2 0) ∷ small (get_or s 3 0) ∷ small (get_or s 4 0) ∷ []

-- row i allows this extension of this kind
unfoldable pub allows_at : ℕ → ℕ → ℕ → Bool
allows_at kind name i = eqb (get_or allowed i 0) (allow kind name)

-- the kind allows the extension, in letters of any case
unfoldable pub extension : ℕ → List ℕ → Bool
extension kind item = some (allows_at kind (name_of item)) (length allowed)

unfoldable pub kind_is : ℕ → ℕ → Bool
kind_is kind i = eqb (get_or sizes i none).kind kind

-- the most bytes of evidence of a kind; none of another kind
unfoldable pub most_at : ℕ → ℕ
most_at i = (get_or sizes i none).most

unfoldable pub most_of : ℕ → ℕ
most_of kind = most_at (least (kind_is kind) (length sizes))
