-- Where the bounds in an order pass a limit: at one component, and then they have passed it for good.
use Rattle.hidden_bounds.proofs.Prelude.{◌≡◌, ℕ, ◌+◌, ◌^◌, ◌<◌, ◌≤◌, List, [], ◌∷◌, ◌++◌, sym, ◌∙◌, arith, inl, inr, Taken, bound_over, hidden_bound, PassesAt}

le_more : (limit bound rest : ℕ) → limit ≤ rest → limit ≤ bound + rest
le_more limit bound rest h = omega arith

not_both : (limit sum : ℕ) → sum < limit → limit ≤ sum → ⊥
not_both limit sum h k = omega arith

pub bound_grows : (hidden : List ℕ) (later ts : List Taken) → hidden_bound hidden ts ≤ hidden_bound hidden (later ++ ts)
bound_grows hidden [] ts = omega arith
bound_grows hidden (t ∷ later) ts = le_more (hidden_bound hidden ts) (bound_over hidden (later ++ ts) t) (hidden_bound hidden (later ++ ts)) (bound_grows hidden later ts)

pub passes_grows : (hidden : List ℕ) (later ts : List Taken) (part : ℕ) → PassesAt hidden ts part → PassesAt hidden (later ++ ts) part
passes_grows hidden [] ts part passes = passes
passes_grows hidden (t ∷ later) ts part passes = inr (passes_grows hidden later ts part passes)

pub passes_whole : (hidden : List ℕ) (order : List Taken) (part : ℕ) → PassesAt hidden order part → 2 ^ 64 ≤ hidden_bound hidden order
passes_whole hidden [] part passes = absurd passes
passes_whole hidden (t ∷ ts) part (inl here) = here.2
passes_whole hidden (t ∷ ts) part (inr before) = le_more (2 ^ 64) (bound_over hidden ts t) (hidden_bound hidden ts) (passes_whole hidden ts part before)

pub passes_excludes : (hidden : List ℕ) (order : List Taken) (part bound : ℕ) → PassesAt hidden order part → bound ≡ hidden_bound hidden order → bound < 2 ^ 64 → ⊥
passes_excludes hidden order part bound passes is fits = not_both (2 ^ 64) (hidden_bound hidden order) (rw is at fits) (passes_whole hidden order part passes)

pub passes_once : (hidden : List ℕ) (order : List Taken) (part other : ℕ) → PassesAt hidden order part → PassesAt hidden order other → part ≡ other
passes_once hidden [] part other a b = absurd a
passes_once hidden (t ∷ ts) part other (inl a) (inl b) = sym a.0 ∙ b.0
passes_once hidden (t ∷ ts) part other (inl a) (inr b) = absurd (not_both (2 ^ 64) (hidden_bound hidden ts) a.1 (passes_whole hidden ts other b))
passes_once hidden (t ∷ ts) part other (inr a) (inl b) = absurd (not_both (2 ^ 64) (hidden_bound hidden ts) b.1 (passes_whole hidden ts part a))
passes_once hidden (t ∷ ts) part other (inr a) (inr b) = passes_once hidden ts part other a b
