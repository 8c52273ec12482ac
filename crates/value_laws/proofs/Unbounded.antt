-- Evaluation without a bound, in a program in order.
use Rattle.value_laws.proofs.Prelude.{◌≡◌, ℕ, zero, suc, IsTrue, Option, Some, None, List, [], length, refl, sym, ◌∙◌, arith, nat_eq, slice_get, false≢true, IsInOrder, body_in_order, def_in_order, expr_in_order, BodyNests, DefNests, NestsWithin, Meaning, body_value, bound_to, def_value, uses_within, value_within, Expr, Body, Content, Def, meaning_same, IsUnbounded, UnboundedIsWorth, WorthIsUnbounded, uses_by, is_second}
use Rattle.value_laws.proofs.Nests.{all_at, definitions_are_enough, uses_nest_within_definitions}
use Rattle.csp_program.specs.declared.programs.Body.TheVariants as body

pub worth_is_unbounded : WorthIsUnbounded
worth_is_unbounded p ordered e o env = sym (definitions_are_enough p ordered e o (suc (length p.defs)) (omega arith) env)

-- two evaluations that agree on the bodies in order agree on their uses
module _ (p : Content) (f g : Expr → Meaning) (within : Expr → Type 0) (agree : (e : Expr) → IsTrue (expr_in_order p e) → within e → f e ≡ g e) where
  bodies_agree : (params : List ℕ) (b : Body) → IsTrue (body_in_order p params b) → BodyNests within b → body_value f params b ≡ body_value g params b
  bodies_agree params (body.Datum e) o h = λ i args. agree e o h i (bound_to params args)
  bodies_agree params (body.Nametype e) o h = λ i args. agree e (is_second (nat_eq (length params) 0) (expr_in_order p e) o) h i []
  bodies_agree params _ o h = refl

  pub defs_agree : (def : Option Def) → ((d : Def) → def ≡ Some d → IsTrue (def_in_order p d)) → DefNests within def → def_value f def ≡ def_value g def
  defs_agree None o h = refl
  defs_agree (Some d) o h = bodies_agree d.params d.body (o d refl) h

module _ (p : Content) (ordered : IsInOrder p) (w : Expr → Meaning) (unbounded : IsUnbounded p w) where
  pub nested_worth : (n : ℕ) (e : Expr) → IsTrue (expr_in_order p e) → NestsWithin p.defs n e → w e ≡ value_within p n e
  nested_worth zero e o h =
      (λ i env. unbounded e o env i) ∙
      meaning_same (uses_by p w) (uses_within p zero) p.channels e (λ d t. absurd (false≢true (sym (h d) ∙ t)))
  nested_worth (suc n) e o h =
      (λ i env. unbounded e o env i) ∙
      meaning_same (uses_by p w) (uses_within p (suc n)) p.channels e
      (λ d t. defs_agree p w (value_within p n) (NestsWithin p.defs n) (λ b b_order inside. nested_worth n b b_order inside) (slice_get p.defs d)
      (λ def is. all_at (def_in_order p) p.defs d def ordered.defs_used is) (h d t))

pub unbounded_is_worth : UnboundedIsWorth
unbounded_is_worth p ordered w unbounded e o env =
    let same = nested_worth p ordered w unbounded (length p.defs) e o (uses_nest_within_definitions p ordered e o) in
    λ i. same i env
