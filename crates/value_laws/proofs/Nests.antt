-- Uses in a program in order nest no deeper than there are definitions: along a way of uses each definition comes once.
use Rattle.value_laws.proofs.Prelude.{◌≡◌, ℕ, zero, suc, ◌+◌, ◌<◌, ◌≤◌, Bool, true, false, eqb, nat_eq, IsTrue, Option, Some, None, List, [], ◌∷◌, map, length, refl, sym, ap, subst, inl, inr, arith, slice_get, false≢true, or_cases, eqb-true, false_from_ne_true, or_left, or_right, length-le_from_distinct_below, IsInOrder, body_in_order, def_in_order, expr_in_order, all_true, BodyNests, DefNests, NestsWithin, Reaches, body_uses, def_uses, expr_uses, by_use, by_way, Expr, Body, Content, Def, value_within_same, DefinitionsAreEnough, MoreUsesChangeNothing, UsesNestWithinDefinitions, is_first, is_second, AllByRecursion, IsDistinct, list_any}
use Rattle.value_laws.proofs.UsesInRange.{uses_in_range}
use Rattle.csp_program.specs.declared.programs.Body.TheVariants as body

apart : (d : ℕ) (seen : List ℕ) → (list_any (eqb d) seen ≡ true → ⊥) → AllByRecursion (λ y. eqb d y ≡ false) seen
apart d [] h = tt
apart d (y ∷ seen) h = (false_from_ne_true (eqb d y) (λ e. h (or_left (eqb d y) (list_any (eqb d) seen) e)), apart d seen (λ e. h (or_right (eqb d y) (list_any (eqb d) seen) e)))

pub all_at : (order : Def → Bool) (defs : List Def) (d : ℕ) (def : Def) → IsTrue (all_true (map order defs)) → slice_get defs d ≡ Some def → IsTrue (order def)
all_at order [] d def all h = absurd (cc)
all_at order (first ∷ defs) zero def all h = let e : first ≡ def = cc in subst (λ (x : Def). IsTrue (order x)) e (is_first (order first) (all_true (map order defs)) all)
all_at order (first ∷ defs) (suc d) def all h = all_at order defs d def (is_second (order first) (all_true (map order defs)) all) h

-- one use more at the end
way_on : (defs : List Def) (i j k : ℕ) → Reaches defs i j → IsTrue (def_uses (slice_get defs j) k) → Reaches defs i k
way_on defs i j k (by_use _ _ u) v = by_way i j k u (by_use j k v)
way_on defs i j k (by_way _ m _ u r) v = by_way i m k u (way_on defs m j k r v)

def_nests : (within : Expr → Type 0) (o : Option Def) → ((def : Def) → o ≡ Some def → BodyNests within def.body) → DefNests within o
def_nests within None h = tt
def_nests within (Some def) h = h def refl

module _ (p : Content) where
  body_nests : (within : Expr → Type 0) (params : List ℕ) (b : Body)
      → ((e : Expr) → IsTrue (expr_in_order p e) → ((j : ℕ) → IsTrue (expr_uses e j) → IsTrue (body_uses b j)) → within e) → IsTrue (body_in_order p params b) → BodyNests within b
  body_nests within params (body.Datum e) h o = h e o (λ j t. t)
  body_nests within params (body.Nametype e) h o = h e (is_second (nat_eq (length params) 0) (expr_in_order p e) o) (λ j t. t)
  body_nests within params _ h o = tt

  -- definitions that lead here, each of which comes once
  pub record Way (seen : List ℕ) (e : Expr) : Type 0 where
    pub distinct : IsDistinct eqb seen
    pub below : (q : ℕ) → list_any (eqb q) seen ≡ true → q < length p.defs
    pub lead : (s : ℕ) → list_any (eqb s) seen ≡ true → (d : ℕ) → IsTrue (expr_uses e d) → Reaches p.defs s d

  -- what is used next has not come yet
  new_use : ((n : ℕ) → Reaches p.defs n n → ⊥) → (seen : List ℕ) (e : Expr) → Way seen e → (d : ℕ) → IsTrue (expr_uses e d) → list_any (eqb d) seen ≡ true → ⊥
  new_use no_circle seen e w d t h = no_circle d (w.lead d h d t)

  below_then : (seen : List ℕ) (e : Expr) → Way seen e → (d : ℕ) → d < length p.defs → (q : ℕ) → list_any (eqb q) (d ∷ seen) ≡ true → q < length p.defs
  below_then seen e w d l q h =
      elim (or_cases (eqb q d) (list_any (eqb q) seen) h) [ inl is ↦ let e : q ≡ d = eqb-true q d is in omega arith | inr r ↦ w.below q r ]

  way_then : ((n : ℕ) → Reaches p.defs n n → ⊥) → (seen : List ℕ) (e : Expr) → Way seen e → (d : ℕ) → IsTrue (expr_uses e d) → d < length p.defs
      → (inner : Expr) → ((j : ℕ) → IsTrue (expr_uses inner j) → IsTrue (def_uses (slice_get p.defs d) j)) → Way (d ∷ seen) inner
  unfolding IsDistinct
  way_then no_circle seen e w d t l inner uses = record {
    distinct = (apart d seen (new_use no_circle seen e w d t), w.distinct);
    below = below_then seen e w d l;
    lead = λ s h j u. elim (or_cases (eqb s d) (list_any (eqb s) seen) h) [
      | inl is ↦ subst (λ i. Reaches p.defs i j) (sym (eqb-true s d is)) (by_use d j (uses j u))
      | inr r ↦ way_on p.defs s d j (w.lead s r d t) (uses j u)
    ];
  }

  pub nests : IsInOrder p → (n : ℕ) (seen : List ℕ) → n + length seen ≡ length p.defs → (e : Expr) → IsTrue (expr_in_order p e) → Way seen e → NestsWithin p.defs n e
  unfolding IsDistinct
  nests ordered zero seen count e o w =
      λ d. false_from_ne_true (expr_uses e d)
      (λ t. let l = uses_in_range p e o d t in
      let most : length (d ∷ seen) ≤ length p.defs = length-le_from_distinct_below (d ∷ seen) (length p.defs) (apart d seen (new_use ordered.no_circle seen e w d t), w.distinct) (below_then seen e w d l) in
      omega arith)
  nests ordered (suc n) seen count e o w =
      λ d t. def_nests (NestsWithin p.defs n) (slice_get p.defs d)
      (λ def is. body_nests (NestsWithin p.defs n) def.params def.body
      (λ inner inner_order uses. nests ordered n (d ∷ seen) (omega arith) inner inner_order
      (way_then ordered.no_circle seen e w d t (uses_in_range p e o d t) inner
      (λ j u. subst (λ (x : Option Def). IsTrue (def_uses x j)) (sym is) (uses j u))))
      (all_at (def_in_order p) p.defs d def ordered.defs_used is))

pub uses_nest_within_definitions : UsesNestWithinDefinitions
unfolding IsDistinct
uses_nest_within_definitions p ordered e o =
    nests p ordered (length p.defs) [] (omega arith) e o (record { distinct = tt; below = λ q h. absurd (false≢true h); lead = λ s h. absurd (false≢true h) })

pub more_uses_change_nothing : MoreUsesChangeNothing
more_uses_change_nothing p n m le e h env = ap (λ f. f env) (sym (value_within_same p n m le e h))

pub definitions_are_enough : DefinitionsAreEnough
definitions_are_enough p ordered e o n le env = more_uses_change_nothing p (length p.defs) n le e (uses_nest_within_definitions p ordered e o) env
