-- Text as the list of its characters' codes.
use Rattle.std.specs.Prelude.{ℕ, List, [], ◌∷◌}
use Prim.Native.Char.{code}
use Prim.Native.String.{String}
use Prim.Native.String.{[] as nil, ◌∷◌ as cons}

abbrev pub ascii : String → List ℕ
ascii nil = []
ascii (cons c s) = code c ∷ ascii s
