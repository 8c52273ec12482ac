-- What definitions are, from what is found of them.
use Rattle.definition_kinds.proofs.Prelude.{◌≡◌, ℕ, suc, ◌+◌, ◌<◌, Bool, false, List, [], ◌∷◌, ◌++◌, inl, inr, length, take, get_or, refl, sym, ap, ◌∙◌, subst, arith, slice_get, Vec, ◌↔◌, IsTrue, if◌then◌else◌, flat_map, Global, fun_ext, get_or-append_seam, cases_Bool, cases_lt, false≢true, get_or_append_left, length-append, take_more, slice_get_within, has, Decl, AreKindsOf, HasClass, LeadsTo, body_ends, first_ends, script_ends, Entities, declared, first_of, meanings_of, End, rows, AreLeading, AreReached, marked, Class, Kind, SameFirsts, Found, AreFound, IsFound, class_found, kind_found, push_cases}

pub found_step : (found : Found) (d : ℕ) (kinds new : List Kind) (kind : Kind) → new ≡ kinds ++ kind ∷ [] → kind ≡ kind_found found d → AreFound found d kinds → AreFound found (d + 1) new
found_step found d kinds new kind new_is is so_far = record {
  one_each = ap length new_is ∙ length-append kinds (kind ∷ []) ∙ ap (λ n. n + 1) so_far.one_each;
  each =
      λ k one at.
      elim (push_cases kinds kind k one (ap (λ (ks : List Kind). slice_get ks k) (sym new_is) ∙ at)) as (λ _. one ≡ kind_found found k) [
        | inl before ↦ so_far.each k one before
        | inr last ↦ sym last.1 ∙ is ∙ ap (kind_found found) (sym (last.0 ∙ so_far.one_each))
      ];
}

pub rows-snoc : (xs : List (Vec End Global)) (x : Vec End Global) → rows (xs ++ x ∷ []) ≡ rows xs ++ x.items ∷ []
rows-snoc [] x = refl
rows-snoc (y ∷ ys) x = ap (λ zs. y.items ∷ zs) (rows-snoc ys x)

firsts-snoc : (xs : List (List End)) (x : List End) → first_ends (xs ++ x ∷ []) ≡ first_ends xs ++ take 1 x ∷ []
firsts-snoc [] x = refl
firsts-snoc (y ∷ ys) x = ap (λ zs. take 1 y ∷ zs) (firsts-snoc ys x)

pub firsts_step : (all : List (Vec End Global)) (i : ℕ) (ends : Vec End Global) (old new : List (Vec End Global)) → i < length all → ends ≡ get_or all i ends
    → rows new ≡ rows old ++ take 1 ends.items ∷ [] → rows old ≡ first_ends (rows (take i all)) → rows new ≡ first_ends (rows (take (i + 1) all))
firsts_step all i ends old new within is new_is so_far =
    new_is ∙ (λ j. so_far j ++ take 1 ends.items ∷ [])
    ∙ sym (firsts-snoc (rows (take i all)) ends.items)
    ∙ ap first_ends (sym (rows-snoc (take i all) ends))
    ∙ ap (λ zs. first_ends (rows zs)) (ap (λ e. take i all ++ e ∷ []) is ∙ sym (take_more all i ends within))

pub rows-length : (xs : List (Vec End Global)) → length (rows xs) ≡ length xs
rows-length [] = refl
rows-length (x ∷ xs) = ap suc (rows-length xs)

pub firsts-length : (xs : List (List End)) → length (first_ends xs) ≡ length xs
firsts-length [] = refl
firsts-length (x ∷ xs) = ap suc (firsts-length xs)

never : {P : Type 0} (b : Bool) → b ≡ false → (P → IsTrue b) → P → ⊥
never b no_b from p = false≢true (sym no_b ∙ from p)

module _ (all : List (List End)) (found : Found) (is : IsFound all found) (d : ℕ) (within : d < length all) where
  firsts_within : d < length (first_ends all)
  firsts_within = let e = firsts-length all in omega arith

  class_is : HasClass all d (class_found found d)
  class_is =
      elim (cases_Bool (marked found.data.items d)) as (λ _. HasClass all d (class_found found d)) [
        | inl data_here ↦ subst (HasClass all d) (sym (ap (λ b. if b then Class.Data else (if marked found.nothing.items d then Class.Unknown else Class.Process)) data_here)) ((is.data_found d firsts_within).0 data_here)
        | inr no_data ↦
            elim (cases_Bool (marked found.nothing.items d)) as (λ _. HasClass all d (class_found found d)) [
              | inl nothing_here ↦
                  subst (HasClass all d) (sym (λ i. if no_data i then Class.Data else (if nothing_here i then Class.Unknown else Class.Process))) ((is.nothing_found d firsts_within).0 nothing_here)
              | inr no_nothing ↦
                  subst (HasClass all d) (sym (λ i. if no_data i then Class.Data else (if no_nothing i then Class.Unknown else Class.Process)))
                  (never (marked found.data.items d) no_data (is.data_found d firsts_within).1, never (marked found.nothing.items d) no_nothing (is.nothing_found d firsts_within).1)
            ]
      ]

pub are_kinds : (all : List (List End)) (found : Found) (kinds : List Kind) (count : ℕ) → count ≡ length all → IsFound all found → AreFound found count kinds → AreKindsOf all kinds
are_kinds all found kinds count count_is is each = record {
  one_each = each.one_each ∙ count_is;
  each =
      λ d kind at.
      let kind_is = each.each d kind at in
      let within : d < length all = let below = slice_get_within kinds d kind at in let e = each.one_each in omega arith in
      record {
        class = subst (HasClass all d) (ap (λ (k : Kind). k.class) (sym kind_is)) (class_is all found is d within);
        network = subst (λ (b : Bool). IsTrue b ↔ LeadsTo End.Parallel all d) (ap (λ (k : Kind). k.network) (sym kind_is)) (is.networks_found d within);
      };
}

pub same_ends : (names : Entities) (decls : List Decl) → SameFirsts names (declared decls) → flat_map (body_ends (first_of names)) decls ≡ script_ends decls
same_ends names decls same = let means : first_of names ≡ meanings_of decls = fun_ext same in ap (λ m. flat_map (body_ends m) decls) means

-- the marks of numbers below n are these
pub record AreMarks (marks : List Bool) (n : ℕ) (test : ℕ → Bool) : Type 0 where
  pub one_each : length marks ≡ n
  pub each : (d : ℕ) → d < n → marked marks d ≡ test d

pub marks_step : (marks new : List Bool) (n : ℕ) (test : ℕ → Bool) (mark : Bool) → new ≡ marks ++ mark ∷ [] → mark ≡ test n → AreMarks marks n test → AreMarks new (n + 1) test
marks_step marks new n test mark new_is is so_far = record {
  one_each = ap length new_is ∙ length-append marks (mark ∷ []) ∙ ap (λ k. k + 1) so_far.one_each;
  each =
      λ d below.
      let same = so_far.one_each in
      ap (λ ms. marked ms d) new_is
      ∙ elim (cases_lt d n) as (λ _. marked (marks ++ mark ∷ []) d ≡ test d) [
        | inl before ↦ get_or_append_left marks (mark ∷ []) false d (omega arith) ∙ so_far.each d before
        | inr past ↦
            let last : d ≡ n = omega arith in
            ap (marked (marks ++ mark ∷ [])) (last ∙ sym same) ∙ get_or-append_seam marks mark [] false ∙ is ∙ ap test (sym last)
      ];
}

pub leading_from : (target : End) (all : List (List End)) (found : List ℕ) (marks : List Bool) → AreReached target all found
    → ((d : ℕ) → d < length all → marked marks d ≡ has found d) → AreLeading target all marks
leading_from target all found marks reached same d below = subst (λ (b : Bool). IsTrue b ↔ LeadsTo target all d) (sym (same d below)) (reached d below)
