-- The ends of all bodies, as lists.
use Rattle.script_names.specs.declared.kinds.End.{End}
use Rattle.std.specs.Prelude.{List, Vec, map}
use Rattle.std.specs.declared.alloc.Global.{Global}

abbrev pub rows : List (Vec End Global) → List (List End)
rows all = map (λ ends. ends.items) all
