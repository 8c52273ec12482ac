-- What was found of definitions, as their kinds. Only the private contracts of this crate cite it.
use Rattle.std.specs.Prelude.{◌≡◌, if◌then◌else◌, ℕ, Some, List, length, slice_get}
use Rattle.script_names.specs.Prelude.{first_ends}
use Rattle.script_names.specs.declared.kinds.End.{End}
use Rattle.script_names.specs.declared.kinds.Class.{Class}
use Rattle.script_names.specs.declared.kinds.Kind.{Kind}
use Rattle.definition_kinds.specs.Sources.{AreLeading, marked}
use Rattle.definition_kinds.specs.declared.kinds.Found.{Found}

abbrev pub class_found : Found → ℕ → Class
class_found found d = if marked found.data.items d then Class.Data else (if marked found.nothing.items d then Class.Unknown else Class.Process)

abbrev pub kind_found : Found → ℕ → Kind
kind_found found d = record { class = class_found found d; network = marked found.networks.items d }

-- what is found of definitions with these ends
pub record IsFound (all : List (List End)) (found : Found) : Type 0 where
  pub data_found : AreLeading End.Data (first_ends all) found.data.items
  pub nothing_found : AreLeading End.Nothing (first_ends all) found.nothing.items
  pub networks_found : AreLeading End.Parallel all found.networks.items

-- these are the kinds of so many definitions
pub record AreFound (found : Found) (count : ℕ) (kinds : List Kind) : Type 0 where
  pub one_each : length kinds ≡ count
  pub each : (d : ℕ) (kind : Kind) → slice_get kinds d ≡ Some kind → kind ≡ kind_found found d
