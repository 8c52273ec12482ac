-- What the proofs of this crate cite of the crates below, and of its own definitions.
pub use Rattle.csp_base.proofs.Booleans.{and_false, is_and, same_tests}
pub use Rattle.csp_base.proofs.Lists.{slice_get_some}
pub use Rattle.csp_base.proofs.Standard.{cases_Bool, cases_lt, cond-false, cond-true, eq-eqb, false≢true, length-map, mul-le-mul_left, nat_tests, ne_eqb, none-some, or_cases, or_left, or_right, same_Some}
pub use Rattle.csp_base.specs.Members.{has}
pub use Rattle.csp_tables.specs.Prelude.{After, AllTakePart, Component, ComponentStep, FlatStep, Label, NetworkStep, OneMoves, Path, Reached, Tree, WellNested, in_some_component, leaves, project, silent, visible, visible_events}
pub use Rattle.digraph.specs.Walk.{Walk}
pub use Rattle.hidden_steps.specs.Bounded.{HiddenStep, HiddenStepsAreBounded}
pub use Rattle.hidden_steps.specs.Order.{AreTaken, GoesRound, HasNoOrder, IsAmong, IsHeight, IsNext, IsNotFree, IsOrder, OwnEvent, OwnStep, Taken, bound_over, hidden_bound, is_passed, share_hidden, shared_bounds}
pub use Rattle.net_sound.proofs.FlatLists.{alphabets, by_test, flat_alphabets, match_false, match_true, same_some, step_alphabet}
pub use Rattle.std.proofs.Common.{Bool, IsTrue, List, MatchBool, Some, [], ap, ap₂, arith, false, inl, inr, length, nat_eq, not, refl, slice_get, subst, suc, sym, true, zero, ℕ, ◌&&◌, ◌*◌, ◌++◌, ◌+◌, ◌<◌, ◌||◌, ◌∙◌, ◌∷◌, ◌≡◌, ◌≤◌, ◌⊎◌}
