-- The event of a channel that has given values, as the value of an expression of it.
use Rattle.step_values.proofs.Prelude.{◌≡◌, ℕ, Ok, Err, List, [], ◌∷◌, ◌++◌, map, length, refl, ap, ◌∙◌, Atom, Value, One, Outcome, and_then, front_events, meanings, one_event, value_of, Expr, Content, at, as_event, literals, new_event, Expr-F}
use Rattle.csp_atoms.specs.declared.atom.Atom.TheVariants as atom
use Rattle.csp_program.specs.declared.expressions.Expr.TheVariants as expr

literals_then : (vs : List Value) (atoms : List Atom) → literals vs ++ map (λ a. expr.Lit (One a)) atoms ≡ literals (vs ++ map (λ a. One a) atoms)
literals_then [] [] = refl
literals_then [] (a ∷ atoms) = ap (λ es. expr.Lit (One a) ∷ es) (literals_then [] atoms)
literals_then (v ∷ vs) atoms = ap (λ es. expr.Lit v ∷ es) (literals_then vs atoms)

event_of_one : (o : Outcome (List ℕ)) → and_then (and_then o (λ es. and_then (one_event es) (λ e. Ok (One (atom.Event e))))) as_event ≡ and_then o one_event
event_of_one (Ok []) = refl
event_of_one (Ok (e ∷ es)) = refl
event_of_one (Err k) = refl

module _ (p : Content) where
  values_meant : (vs : List Value) → meanings p (length p.defs) (literals vs) ≡ map (λ v env. Ok v) vs
  values_meant [] = refl
  values_meant (v ∷ vs) = λ i. (λ env. at p (length p.defs) env (expr.Lit v) (Expr-F.Lit v) (expr.rolls-Lit v) i) ∷ values_meant vs i

  pub event_is : (c : ℕ) (fields : List Expr) (vs : List Value) (atoms : List Atom) → fields ≡ literals vs ++ map (λ a. expr.Lit (One a)) atoms
      → and_then (value_of p (expr.Event c fields)) as_event ≡ new_event p c vs atoms
  event_is c fields vs atoms are =
      let all = vs ++ map (λ a. One a) atoms in
      ap (λ es. and_then (value_of p (expr.Event c es)) as_event) (are ∙ literals_then vs atoms) ∙
      ap (λ o. and_then o as_event) (at p (length p.defs) [] (expr.Event c (literals all)) (Expr-F.Event c (literals all)) (expr.rolls-Event c (literals all))) ∙
      event_of_one (front_events p.channels c (meanings p (length p.defs) (literals all)) []) ∙
      ap (λ ms. and_then (front_events p.channels c ms []) one_event) (values_meant all)
