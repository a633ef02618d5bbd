-- Words as the bytes that print them.
-- Assumes nothing.
use Rattle.std.specs.Prelude.{List, [] as none, ◌∷◌ as ◌then◌, ℕ}
use Prim.Native.Char.{code}
use Prim.Native.String.{String, [], ◌∷◌}

-- every character of a word is one of ASCII, whose byte is its code
abbrev pub bytes : String → List ℕ
bytes [] = none
bytes (c ∷ cs) = code c then bytes cs
