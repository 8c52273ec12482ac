-- The field sets of channels, one declaration after another.
use Rattle.csp_resolve.proofs.Prelude.{◌≡◌, ℕ, ◌+◌, ◌<◌, ◌≤◌, List, [], ◌∷◌, ◌++◌, length, drop, get_or, replicate, refl, sym, ap, ◌∙◌, append_assoc, Ok, Err, Atom, Expr, Content, Decl, Tree, GrowsBy, sets_of, SharedSets, spread, Name, Answer, and_next, channel_sets, field_sets, told_in, ResolveFault, drop_read}
use Rattle.csp_base.proofs.Standard.{drop_of_length-le, append-nil}

abbrev pub Sets : Type 0
Sets = List (List (List Atom))

-- these sets, and those of the declarations that are left
abbrev pub sets_with : Sets → Answer Sets → Answer Sets
sets_with sets rest = and_next rest (λ more. Ok (sets ++ more))

abbrev with_first : Answer Sets → Answer Sets → Answer Sets
with_first own rest = and_next own (λ sets. sets_with sets rest)

with_none : (rest : Answer Sets) → rest ≡ sets_with [] rest
with_none (Ok more) = refl
with_none (Err f) = refl

shared_first : (told : Answer (List (List Atom))) (n : ℕ) (rest : Answer Sets)
    → and_next told (λ sets. and_next rest (λ more. Ok (replicate n sets ++ more))) ≡ with_first (and_next told (λ sets. Ok (replicate n sets))) rest
shared_first (Ok sets) n rest = refl
shared_first (Err f) n rest = refl

module _ (p : Content) (types_of : List Tree → List Expr) where
  first_then : (i : ℕ) (d : Decl) (decls : List Decl) → channel_sets p types_of i (d ∷ decls) ≡ with_first (sets_of p types_of i d) (channel_sets p types_of (i + 1) decls)
  first_then i (Decl.Channel xs types) decls = shared_first (told_in i (field_sets p (types_of types))) (length xs) (channel_sets p types_of (i + 1) decls)
  first_then i _ decls = with_none (channel_sets p types_of (i + 1) decls)

  moved : (sets own : Sets) (rest : Answer Sets) → sets_with sets (with_first (Ok own) rest) ≡ sets_with (sets ++ own) rest
  moved sets own (Ok more) = ap Ok (sym (append_assoc sets own more))
  moved sets own (Err f) = refl

  pub sets_begin : (decls : List Decl) → channel_sets p types_of 0 decls ≡ sets_with [] (channel_sets p types_of 0 decls)
  sets_begin decls = with_none (channel_sets p types_of 0 decls)

  pub sets_end : (decls : List Decl) (k i : ℕ) (sets : Sets) (whole : Answer Sets) → length decls ≤ i → whole ≡ sets_with sets (channel_sets p types_of k (drop i decls)) → whole ≡ Ok sets
  sets_end decls k i sets whole at_end so_far =
      so_far ∙ ap (λ rest. sets_with sets (channel_sets p types_of k rest)) (drop_of_length-le decls at_end) ∙ ap Ok (append-nil sets)

  module _ (decls : List Decl) (i k : ℕ) (d : Decl) (within : i < length decls) (is : d ≡ get_or decls i d)
      (sets : Sets) (whole : Answer Sets) (so_far : whole ≡ sets_with sets (channel_sets p types_of k (drop i decls))) where
    at_first : whole ≡ sets_with sets (with_first (sets_of p types_of k d) (channel_sets p types_of (k + 1) (drop (i + 1) decls)))
    at_first = so_far ∙ ap (λ rest. sets_with sets (channel_sets p types_of k rest)) (drop_read decls i d within is)
        ∙ ap (sets_with sets) (first_then k d (drop (i + 1) decls))

    pub sets_step : (own new : Sets) → sets_of p types_of k d ≡ Ok own → new ≡ sets ++ own → whole ≡ sets_with new (channel_sets p types_of (k + 1) (drop (i + 1) decls))
    sets_step own new found grown =
        at_first
        ∙ ap (λ o. sets_with sets (with_first o (channel_sets p types_of (k + 1) (drop (i + 1) decls)))) found
        ∙ moved sets own (channel_sets p types_of (k + 1) (drop (i + 1) decls))
        ∙ ap (λ s. sets_with s (channel_sets p types_of (k + 1) (drop (i + 1) decls))) (sym grown)

    pub sets_stop : (f : ResolveFault) → sets_of p types_of k d ≡ Err f → whole ≡ Err f
    sets_stop f none = at_first ∙ ap (λ o. sets_with sets (with_first o (channel_sets p types_of (k + 1) (drop (i + 1) decls)))) none

spread-snoc : (shared : List SharedSets) (one : SharedSets) → spread (shared ++ one ∷ []) ≡ spread shared ++ replicate one.channels one.sets
spread-snoc [] one = append-nil (replicate one.channels one.sets)
spread-snoc (first ∷ shared) one =
    ap (λ sets. replicate first.channels first.sets ++ sets) (spread-snoc shared one)
    ∙ sym (append_assoc (replicate first.channels first.sets) (spread shared) (replicate one.channels one.sets))

-- a declaration of channels adds the sets of each of them
pub grows_by_channels : (p : Content) (types_of : List Tree → List Expr) (i : ℕ) (xs : List Name) (types : List Tree) (sets : List (List Atom)) (one : SharedSets) (old new : List SharedSets)
    → told_in i (field_sets p (types_of types)) ≡ Ok sets → one.channels ≡ length xs → one.sets ≡ sets → new ≡ old ++ one ∷ [] → GrowsBy old new (sets_of p types_of i (Decl.Channel xs types))
grows_by_channels p types_of i xs types sets one old new told channels_is sets_is new_is = (
  replicate (length xs) sets,
  ap (λ o. and_next o (λ s. Ok (replicate (length xs) s))) told,
  ap spread new_is ∙ spread-snoc old one ∙ (λ j. spread old ++ replicate (channels_is j) (sets_is j)),
)
