-- How much a text spells.
use Rattle.std.specs.Prelude.{◌≤◌, ℕ, List, length}
use Rattle.csp_parser.specs.Spells.{Spells}
use Rattle.csp_text.specs.declared.script.Script.{Script}
use Rattle.dl_limits.specs.declared.TheConstants.{MOST_BYTES}
use Rattle.script_sizes.specs.Size.{AreSmall}

-- The declarations of a script that a text within the limit of bytes spells are small: they hold no more than the text has bytes, and their trees are no
-- deeper than the grammar allows.
abbrev pub SpelledScriptsAreSmall : Type 0
SpelledScriptsAreSmall = (text : List ℕ) (script : Script) → Spells text script → length text ≤ MOST_BYTES → AreSmall script.decls
