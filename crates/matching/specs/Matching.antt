-- Which request a result answers, and which result answers a request: by key, never by serial.
use Rattle.std.specs.Prelude.{ℕ, Bool, List, []}
use Rattle.laws.specs.Least.{least}
use Rattle.laws.specs.Part.{same}
use Rattle.kinds.specs.declared.of_files.Kind.{Kind}
use Rattle.kinds.specs.Kinds.{limit}
use Rattle.keys.specs.Keys.{places_in}
use Rattle.keys.specs.Stands.{key_in}
use Rattle.records.specs.Records.{data_of, key_at}
use Rattle.reader.specs.Keys.{spacing_of}
use Rattle.kinds.specs.declared.of_pairs.PairKind.{PairKind}
use Rattle.kinds.specs.Pairs.{request_kind, result_kind}

-- data record i + 1 has the key
unfoldable pub has_key : Kind → List ℕ → List ℕ → ℕ → Bool
has_key k s key i = same (key_at k s i) key

-- the first data record that has the key, counted from 0; n where there is none
unfoldable pub place_of : Kind → List ℕ → List ℕ → ℕ
place_of k s key = least (has_key k s key) (data_of k s)

-- the request of result j + 1 and the result of request i + 1
unfoldable pub request_for : PairKind → List ℕ → List ℕ → ℕ → ℕ
request_for p q r j = place_of (request_kind p) q (key_at (result_kind p) r j)

unfoldable pub result_for : PairKind → List ℕ → List ℕ → ℕ → ℕ
result_for p q r i = place_of (result_kind p) r (key_at (request_kind p) q i)

-- those of all results, and of all requests, at once
unfoldable pub requests_for : PairKind → List ℕ → List ℕ → List ℕ
requests_for p q r =
    places_in (key_in [] (spacing_of (request_kind p)) q) (data_of (request_kind p) q) (key_in [] (spacing_of (result_kind p)) r) (data_of (result_kind p) r) limit

unfoldable pub results_for : PairKind → List ℕ → List ℕ → List ℕ
results_for p q r =
    places_in (key_in [] (spacing_of (result_kind p)) r) (data_of (result_kind p) r) (key_in [] (spacing_of (request_kind p)) q) (data_of (request_kind p) q) limit
