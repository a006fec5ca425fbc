-- What taking a file apart answers, and what the room holds after it.
use Rattle.std.specs.Prelude.{ℕ, cond, List, [], ltb, length, Option, Some, None}
use Rattle.kinds.specs.declared.of_files.Kind.{Kind}
use Rattle.answers.specs.declared.told.Answer.{Answer}
use Rattle.answers.specs.Storing.{Stored, room_tells, unless_refused, storing, at_front}
use Rattle.answers.specs.Answers.{refused, ◌then◌}
use Rattle.records.specs.Records.{data_of}
use Rattle.reader.specs.Reading.{read_as}
use Rattle.kinds.specs.Kinds.{request_of}
use Rattle.writer.specs.Apart.{body_at, bodies_in}

-- the body of data record i + 1; nothing where there is no such record
unfoldable pub body_of : Kind → List ℕ → ℕ → List ℕ
body_of k s i = cond (ltb i (data_of k s)) (body_at k s i) []

-- as reading the file, then 8 where the room is shorter than all bodies together
unfoldable pub apart_as : Kind → List ℕ → ℕ → Answer
apart_as k s room = read_as k s then room_tells (bodies_in k s) room

-- what is stored: all bodies, one behind the other; nothing when refused
unfoldable pub stored_as : Kind → List ℕ → ℕ → List ℕ
stored_as k s room = unless_refused (apart_as k s room) (bodies_in k s)

-- a kind that is not written is 1
abbrev pub apart_named : Option Kind → List ℕ → ℕ → Answer
apart_named (Some k) s room = apart_as k s room
apart_named None s room = refused 1

abbrev pub stored_named : Option Kind → List ℕ → ℕ → List ℕ
stored_named (Some k) s room = stored_as k s room
stored_named None s room = []

unfoldable pub apart_told : ℕ → List ℕ → ℕ → Answer
apart_told kind s room = apart_named (request_of kind) s room

unfoldable pub apart_stored : ℕ → List ℕ → ℕ → List ℕ
apart_stored kind s room = stored_named (request_of kind) s room

unfoldable pub apart_of : ℕ → List ℕ → ℕ → Stored
apart_of kind s room = storing (apart_told kind s room) (apart_stored kind s room)

unfoldable pub apart_after : ℕ → List ℕ → List ℕ → List ℕ
apart_after kind s room = at_front (apart_stored kind s (length room)) room
