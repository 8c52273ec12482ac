-- What is told of components, one after another.
use Rattle.network_layout.proofs.Prelude.{◌≡◌, ℕ, ◌+◌, ◌<◌, ◌≤◌, Ok, Err, List, [], ◌∷◌, ◌++◌, length, take, get_or, refl, ap, sym, ◌∙◌, subst, take_all, Stop, take_read, Outcome, and_then, Proc, Component, all_outcomes, Gives, slice_get_read, Tells, IsUntold, noted_fault, NotedFault, EvalFault}
use Rattle.csp_base.specs.declared.stop.Stop.TheVariants as evaluation

last_of : {A : Type 0} (o : Outcome A) (rest : Outcome (List A)) (last : Outcome A)
    → and_then o (λ w. and_then (and_then rest (λ ys. and_then last (λ y. Ok (ys ++ y ∷ [])))) (λ ws. Ok (w ∷ ws)))
    ≡ and_then (and_then o (λ w. and_then rest (λ ws. Ok (w ∷ ws)))) (λ ys. and_then last (λ y. Ok (ys ++ y ∷ [])))
last_of (Ok w) (Ok ws) (Ok y) = refl
last_of (Ok w) (Ok ws) (Err k) = refl
last_of (Ok w) (Err k) last = refl
last_of (Err k) rest last = refl

outcomes-last : {C A : Type 0} (f : C → Outcome A) (xs : List C) (x : C) → all_outcomes f (xs ++ x ∷ []) ≡ and_then (all_outcomes f xs) (λ ys. and_then (f x) (λ y. Ok (ys ++ y ∷ [])))
outcomes-last f [] x = refl
outcomes-last f (z ∷ zs) x =
    ap (λ rest. and_then (f z) (λ w. and_then rest (λ ws. Ok (w ∷ ws)))) (outcomes-last f zs x) ∙ last_of (f z) (all_outcomes f zs) (f x)

module _ {A : Type 0} (f : Component Proc → Outcome A) (seats : List (Component Proc)) (i : ℕ) (ys : List A) (far : all_outcomes f (take i seats) ≡ Ok ys) where
  module _ (c : Component Proc) (lt : i < length seats) (is : c ≡ get_or seats i c) where
    pub told_next : (more : List A) (y : A) → f c ≡ Ok y → more ≡ ys ++ y ∷ [] → all_outcomes f (take (i + 1) seats) ≡ Ok more
    told_next more y found grown =
        ap (all_outcomes f) (take_read seats i c lt is) ∙ (outcomes-last f (take i seats) c ∙
        (ap (λ o. and_then o (λ zs. and_then (f c) (λ z. Ok (zs ++ z ∷ [])))) far ∙ (ap (λ o. and_then o (λ z. Ok (ys ++ z ∷ []))) found ∙ ap (λ zs. Ok zs) (sym grown))))

    -- the fault of the first component without
    pub untold_first : (s : Stop NotedFault) (e : EvalFault) → Gives {A = A} (Err e) (f c) → s ≡ noted_fault i e → Tells (IsUntold f seats) s
    untold_first s evaluation.NoMemory lacks tells = subst (Tells (IsUntold f seats)) (sym tells) tt
    untold_first s (evaluation.Told k) lacks tells =
        subst (Tells (IsUntold f seats)) (sym tells) (record { component = c; stands = slice_get_read seats (length seats) i c refl lt is; lacks = lacks; before = (ys, far) })

  -- the front of a list that is the whole
  pub told_end : length seats ≤ i → all_outcomes f seats ≡ Ok ys
  told_end past = ap (all_outcomes f) (sym (take_all i seats past)) ∙ far
