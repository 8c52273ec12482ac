-- Walks over the members of a set.
use Rattle.normal_form.proofs.Prelude.{◌≡◌, ℕ, List, [], ◌∷◌, ◌++◌, sym, ap, ◌∙◌, append-nil, append_assoc}

pub walk_step : (made : List ℕ) (e number : ℕ) (left more whole grown : List ℕ) → left ≡ e ∷ more → made ++ left ≡ whole → e ≡ number → grown ≡ made ++ number ∷ [] → grown ++ more ≡ whole
walk_step made e number left more whole grown is h same new =
    ap (λ (xs : List ℕ). xs ++ more) new ∙ append_assoc made (number ∷ []) more
    ∙ ap (λ (n : ℕ). made ++ n ∷ more) (sym same) ∙ ap (λ (xs : List ℕ). made ++ xs) (sym is) ∙ h

pub walk_end : (made left whole : List ℕ) → left ≡ [] → made ++ left ≡ whole → made ≡ whole
walk_end made left whole is h = sym (append-nil made) ∙ ap (λ (xs : List ℕ). made ++ xs) (sym is) ∙ h
