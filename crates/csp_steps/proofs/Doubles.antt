-- Steps that are added one after another to those that are numbered.
use Rattle.csp_steps.proofs.Prelude.{◌≡◌, ℕ, ◌+◌, ◌<◌, ◌≤◌, Bool, true, false, cond, Some, List, [], ◌∷◌, ◌++◌, take, length, get_or, slice_get, refl, ap, sym, ◌∙◌, subst, append_assoc, append-nil, false≢true, take_all, any_passes_from_place, AreAdded, eq_step, AreFirsts, AreFirstsAfter, none, again, first, laws-law, StepTo, take_read, StandsIn, is_member, with_new}
use Rattle.csp_steps.proofs.Firsts.{firsts_append}

unknown : (xs : List StepTo) (s : StepTo) → is_member eq_step xs s ≡ false → StandsIn xs s → ⊥
unknown xs s new h = false≢true (sym new ∙ any_passes_from_place (eq_step s) xs h.0 s h.1 (laws-law.refl s))

-- one step is added
one_added : (known : Bool) (old new : List StepTo) (s : StepTo) (place : ℕ) → is_member eq_step old s ≡ known → new ≡ cond known old (old ++ s ∷ []) → slice_get new place ≡ Some s → AreAdded old (s ∷ []) new
one_added true old new s place member grown here =
    record { more = []; grown = grown ∙ sym (append-nil old); firsts = again s [] old [] (place, ap (λ xs. slice_get xs place) (sym grown) ∙ here) (none old) }
one_added false old new s place member grown here = record { more = s ∷ []; grown = grown; firsts = first s [] old [] (unknown old s member) (none (s ∷ old)) }

then_added : (old mid new xs ys : List StepTo) → AreAdded old xs mid → AreAdded mid ys new → AreAdded old (xs ++ ys) new
then_added old mid new xs ys h g = record {
  more = h.more ++ g.more;
  grown = g.grown ∙ ap (λ zs. zs ++ g.more) h.grown ∙ append_assoc old h.more g.more;
  firsts = firsts_append xs ys old h.more g.more h.firsts (subst (λ ss. AreFirstsAfter ys ss g.more) h.grown g.firsts);
}

-- one more of the steps is numbered
pub added_next : (begin xs : List StepTo) (i : ℕ) (s : StepTo) → i < length xs → s ≡ get_or xs i s → (old new : List StepTo) (place : ℕ)
    → new ≡ with_new eq_step old s → slice_get new place ≡ Some s → AreAdded begin (take i xs) old → AreAdded begin (take (i + 1) xs) new
added_next begin xs i s lt is old new place grown here h =
    subst (λ ys. AreAdded begin ys new) (sym (take_read xs i s lt is))
    (then_added begin old new (take i xs) (s ∷ []) h (one_added (is_member eq_step old s) old new s place refl grown here))

pub added_begin : (old xs : List StepTo) → AreAdded old (take 0 xs) old
added_begin old xs = record { more = []; grown = sym (append-nil old); firsts = none old }

pub added_end : (old xs new : List StepTo) (i : ℕ) → length xs ≤ i → AreAdded old (take i xs) new → AreAdded old xs new
added_end old xs new i past h = subst (λ us. AreAdded old us new) (take_all i xs past) h

-- those that are added to none
pub once_of : (none_yet xs numbered made : List StepTo) → none_yet ≡ [] → AreAdded none_yet xs numbered → made ≡ numbered → AreFirsts xs made
once_of none_yet xs numbered made empty h is =
    subst (λ ys. AreFirsts xs ys) (sym (is ∙ h.grown ∙ ap (λ zs. zs ++ h.more) empty)) (subst (λ ss. AreFirstsAfter xs ss h.more) empty h.firsts)
