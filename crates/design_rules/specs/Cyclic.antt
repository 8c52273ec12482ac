-- The rule of cyclic networks, read by the tables of a shape: what its decider decides.
use Rattle.std.specs.Prelude.{◌≡◌, ℕ, List}
use Rattle.csp_tables.specs.Shape.{Shape}
use Rattle.design_rules.specs.ByTables.{by_tables}
pub use Rattle.design_rules.specs.CyclicRule.{links_of, place_after, SamePlace}
use Rattle.design_rules.specs.CyclicRule as rule

abbrev pub ReachesLink : Shape → ℕ → ℕ → List ℕ → ℕ → Type 0
ReachesLink shape = rule.ReachesLink shape (by_tables shape)

-- the component reaches the link at this place
pub record IsReachedAt (shape : Shape) (i q l : ℕ) : Type 0 where
  pub run : List ℕ
  pub event : ℕ
  pub reaches : ReachesLink shape i l run event
  pub place : place_after shape run ≡ q

abbrev pub KeepsPlaces : Shape → ℕ → Type 0
KeepsPlaces shape = rule.KeepsPlaces shape (by_tables shape)

abbrev pub AllKeepPlaces : Shape → Type 0
AllKeepPlaces shape = rule.AllKeepPlaces shape (by_tables shape)

abbrev pub MustPrecede : Shape → ℕ → ℕ → Type 0
MustPrecede shape = rule.MustPrecede shape (by_tables shape)

abbrev pub NumbersRise : Shape → (ℕ → ℕ) → Type 0
NumbersRise shape = rule.NumbersRise shape (by_tables shape)

abbrev pub CanBeNumbered : Shape → Type 0
CanBeNumbered shape = rule.CanBeNumbered shape (by_tables shape)

abbrev pub FallsShort : Shape → ℕ → ℕ → List ℕ → Type 0
FallsShort shape = rule.FallsShort shape (by_tables shape)

abbrev pub IsWholeEnd : Shape → ℕ → ℕ → Type 0
IsWholeEnd shape = rule.IsWholeEnd shape (by_tables shape)

abbrev pub HasWholeEnd : Shape → ℕ → Type 0
HasWholeEnd shape = rule.HasWholeEnd shape (by_tables shape)

abbrev pub IsCyclic : Shape → Type 0
IsCyclic shape = rule.IsCyclic shape (by_tables shape)
