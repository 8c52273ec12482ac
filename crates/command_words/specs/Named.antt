-- The words that name a trial. (For private contracts: no public one cites this.)
use Rattle.std.specs.Prelude.{◌≡◌, ◌≤◌, ℕ, List}
use Rattle.std.specs.Fmt.{decimal}
use Rattle.net_maker.specs.Families.{family_name, greatest, least}
use Rattle.command_words.specs.declared.request.Trial.{Trial}

pub record IsNamed (name number : List ℕ) (trial : Trial) : Type 0 where
  pub least_size : least trial.family ≤ trial.size
  pub greatest_size : trial.size ≤ greatest trial.family
  pub family : name ≡ family_name trial.family
  pub size : number ≡ decimal trial.size
