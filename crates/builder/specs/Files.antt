-- The file to be written.
use Rattle.std.specs.Prelude.{ℕ, List, ◌++◌}
use Rattle.laws.specs.Joined.{joined}
use Rattle.kinds.specs.declared.of_files.Kind.{Kind}
use Rattle.builder.specs.Records.{Head, header_built, data_built, body_count, built_totals, trailer_built}

-- header and data records, one after the other
unfoldable pub front_of : Kind → Head → List ℕ → List ℕ
front_of k h bodies = header_built k h ++ joined (data_built k (header_built k h) bodies) (body_count k bodies)

-- the file: header, data records, trailer
unfoldable pub file_of : Kind → Head → List ℕ → List ℕ
file_of k h bodies = front_of k h bodies ++ trailer_built k (header_built k h) (built_totals k (header_built k h) bodies)
