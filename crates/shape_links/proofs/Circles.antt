-- Circles, passed the other way round.
use Rattle.shape_links.proofs.Prelude.{◌≡◌, ℕ, zero, suc, ◌-◌, ◌<◌, inl, inr, List, [], ◌∷◌, ◌++◌, length, get_or, take, drop, sym, ap, subst, ◌∙◌, refl, arith, reverse, cases_eq, get_or-reverse, length-reverse, reverse-append, drop-append_seam, take-append_seam, Leads, IsLeastCircle, turned_circle}

module _ (A B : ℕ → ℕ → Type 0) (flip : (x y : ℕ) → A x y → B y x) where
  leads_more : (x : ℕ) (vs : List ℕ) (y z : ℕ) → Leads B x vs y → B y z → Leads B x (vs ++ y ∷ []) z
  leads_more x [] y z arc last = (arc, last)
  leads_more x (v ∷ vs) y z l last = (l.0, leads_more v vs y z l.1 last)

  back_leads : (x : ℕ) (vs : List ℕ) (y : ℕ) → Leads A x vs y → Leads B y (reverse vs) x
  back_leads x [] y arc = flip x y arc
  back_leads x (v ∷ vs) y l = subst (λ us. Leads B y us x) (sym (reverse-cons v vs)) (leads_more y (reverse vs) v x (back_leads v vs y l.1) (flip x v l.0))
    where
      reverse-cons : (u : ℕ) (us : List ℕ) → reverse (u ∷ us) ≡ reverse us ++ u ∷ []
      reverse-cons u us = reverse-append (u ∷ []) us

  at_turned : (v : ℕ) (vs : List ℕ) (k : ℕ) → 0 < k → k < length (v ∷ vs) → get_or (v ∷ reverse vs) k 0 ≡ get_or (v ∷ vs) (length (v ∷ vs) - k) 0
  at_turned v vs zero some h = absurd (omega arith)
  at_turned v vs (suc k) some h =
      get_or-reverse vs k 0 (omega arith) ∙ ap (λ j. get_or (v ∷ vs) j 0) (let e : suc (length vs - 1 - k) ≡ length (v ∷ vs) - suc k = omega arith in e)

  pub turned_least : (vs : List ℕ) → IsLeastCircle A vs → IsLeastCircle B (turned_circle vs)
  turned_least [] c = absurd c.circle
  turned_least (v ∷ vs) c = record {
    circle = back_leads v vs v c.circle;
    distinct = λ j k less h same.
        let within : k < length (v ∷ vs) = omega (arith, length-reverse vs) in
        elim (cases_eq j 0) [
          | inl none ↦ c.distinct 0 (length (v ∷ vs) - k) (omega arith) (omega arith) (subst (λ i. get_or (v ∷ reverse vs) i 0 ≡ get_or (v ∷ reverse vs) k 0) none same ∙ at_turned v vs k (omega arith) within)
          | inr some ↦ c.distinct (length (v ∷ vs) - k) (length (v ∷ vs) - j) (omega arith) (omega arith) (sym (at_turned v vs k (omega arith) within) ∙ sym same ∙ at_turned v vs j (omega arith) (omega arith))
        ];
    least_first = λ k some h.
        let within : k < length (v ∷ vs) = omega (arith, length-reverse vs) in
        subst (λ x. v < x) (sym (at_turned v vs k some within)) (c.least_first (length (v ∷ vs) - k) (omega arith) (omega arith));
  }

pub circle_some : (A : ℕ → ℕ → Type 0) (vs : List ℕ) → IsLeastCircle A vs → 0 < length vs
circle_some A [] c = absurd c.circle
circle_some A (v ∷ vs) c = omega arith

pub turned_by : (xs : List ℕ) (n : ℕ) → 0 < length xs → n ≡ length xs - 1 → drop n (reverse xs) ++ take n (reverse xs) ≡ turned_circle xs
turned_by [] n some is = absurd (omega arith)
turned_by (v ∷ vs) n some is =
    let whole : reverse (v ∷ vs) ≡ reverse vs ++ v ∷ [] = reverse-append (v ∷ []) vs in
    let count : n ≡ length (reverse vs) = omega (arith, length-reverse vs) in
    let back : drop (length (reverse vs)) (reverse vs ++ v ∷ []) ≡ v ∷ [] = drop-append_seam (reverse vs) (v ∷ []) in
    let front : take (length (reverse vs)) (reverse vs ++ v ∷ []) ≡ reverse vs = take-append_seam (reverse vs) (v ∷ []) in
    rw (whole, count, back, front) refl
