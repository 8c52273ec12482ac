-- The steps of a process, from what a look at it has found.
use Rattle.csp_steps.proofs.Prelude.{◌≡◌, ◌+◌, ◌*◌, ◌<◌, Ok, true, List, [], map, length, refl, ap, sym, ◌∙◌, subst, arith, proc_depth, Outcome, and_then, Proc, Content, Move, steps_of, steps_of_choice, all_below, tree_at, ProcId, AreAround, AreOfChoice, AreThoseAt, IsListing, IsLook, around, Look, StepTo, greatest}
use Rattle.csp_steps.specs.declared.look.Look.TheVariants as look

module _ (p : Content) (trees : List Proc) (t : Proc) (found : Look) (h : IsLook p trees found t) where
  pub these : (steps : List StepTo) → found ≡ look.Steps steps → IsListing trees steps (steps_of p t)
  these steps e = subst (λ (f : Look). IsLook p trees f t) e h

  pub those : (id : ProcId) → found ≡ look.Same id → AreThoseAt p trees id t
  those id e = subst (λ (f : Look). IsLook p trees f t) e h

  pub of_choice : (ids : List ProcId) → found ≡ look.Choice ids → AreOfChoice p trees ids t
  of_choice ids e = subst (λ (f : Look). IsLook p trees f t) e h

  pub made_of : (id : ProcId) → found ≡ look.Around id → AreAround p trees id t
  made_of id e = subst (λ (f : Look). IsLook p trees f t) e h

pub less_same : (p : Content) (trees : List Proc) (id : ProcId) (t : Proc) → AreThoseAt p trees id t → 2 * proc_depth (tree_at trees id) < 2 * proc_depth t
less_same p trees id t h = let l = h.less in omega (arith, l)

pub less_around : (p : Content) (trees : List Proc) (id : ProcId) (t : Proc) → AreAround p trees id t → 2 * proc_depth (tree_at trees id) < 2 * proc_depth t
less_around p trees id t h = let l = h.less in omega (arith, l)

pub less_choice : (p : Content) (trees : List Proc) (ids slice : List ProcId) (t : Proc) → AreOfChoice p trees ids t → slice ≡ ids → 2 * greatest (map proc_depth (map (tree_at trees) slice)) + 1 < 2 * proc_depth t
less_choice p trees ids slice t h e =
    let same = ap (λ (qs : List ProcId). greatest (map proc_depth (map (tree_at trees) qs))) e in
    let l = h.less in
    omega (arith, l, same)

pub choice_steps : (p : Content) (trees : List Proc) (ids slice : List ProcId) (t : Proc) → AreOfChoice p trees ids t → slice ≡ ids → steps_of p t ≡ steps_of_choice p (steps_of p) (map (tree_at trees) slice)
choice_steps p trees ids slice t h e = h.same ∙ ap (λ (qs : List ProcId). steps_of_choice p (steps_of p) (map (tree_at trees) qs)) (sym e)

pub choice_below : (p : Content) (trees : List Proc) (ids slice : List ProcId) (t : Proc) → AreOfChoice p trees ids t → slice ≡ ids → all_below (length trees) slice ≡ true
choice_below p trees ids slice t h e = ap (all_below (length trees)) e ∙ h.within

pub around_is : (p : Content) (trees : List Proc) (id : ProcId) (t : Proc) (moves : List Move) → AreAround p trees id t → steps_of p (tree_at trees id) ≡ Ok moves → steps_of p t ≡ around p t moves
around_is p trees id t moves is e = is.same ∙ ap (λ o. and_then o (around p t)) e

-- no steps
pub none_listed : (trees : List Proc) (steps : List StepTo) (o : Outcome (List Move)) → steps ≡ [] → o ≡ Ok [] → IsListing trees steps o
none_listed trees steps o e h = subst (λ (ss : List StepTo). IsListing trees ss o) (sym e) (record { same = h; within = refl })
