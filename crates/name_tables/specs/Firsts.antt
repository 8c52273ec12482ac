-- Lists of declared names that agree in what the first declaration of each name makes it, and lists of the same names.
use Rattle.std.specs.Prelude.{◌≡◌, List}
use Rattle.script_names.specs.Prelude.{Name, Entities, first_of, is_among}

abbrev pub SameFirsts : Entities → Entities → Type 0
SameFirsts es fs = (x : Name) → first_of es x ≡ first_of fs x

abbrev pub SameNames : List Name → List Name → Type 0
SameNames xs ys = (x : Name) → is_among xs x ≡ is_among ys x
