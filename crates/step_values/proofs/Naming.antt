-- The new events that a renaming names for an old one, pair by pair.
use Rattle.step_values.proofs.Prelude.{◌≡◌, ℕ, ◌+◌, ◌<◌, Bool, true, false, cond, List, [], ◌∷◌, ◌++◌, map, length, get_or, take, refl, ap, sym, ◌∙◌, nat_eq, Renamed, filter_more, map-append, filter}

new_side : (b : Bool) (x : Renamed) → map (λ (r : Renamed). r.1) (cond b (x ∷ []) []) ≡ cond b (x.1 ∷ []) []
new_side true x = refl
new_side false x = refl

pub more_named : (e : ℕ) (xs : List Renamed) (i : ℕ) (x : Renamed) → i < length xs → x ≡ get_or xs i x
    → map (λ (r : Renamed). r.1) (filter (λ (r : Renamed). nat_eq r.0 e) (take (i + 1) xs)) ≡
    map (λ (r : Renamed). r.1) (filter (λ (r : Renamed). nat_eq r.0 e) (take i xs)) ++ cond (nat_eq x.0 e) (x.1 ∷ []) []
more_named e xs i x lt is =
    let before = filter (λ (r : Renamed). nat_eq r.0 e) (take i xs) in
    ap (map (λ (r : Renamed). r.1)) (filter_more (λ (r : Renamed). nat_eq r.0 e) xs i x lt ∙ ap (λ (y : Renamed). before ++ cond (nat_eq y.0 e) (y ∷ []) []) (sym is)) ∙
    (map-append (λ (r : Renamed). r.1) before (cond (nat_eq x.0 e) (x ∷ []) []) ∙ ap (λ ys. map (λ (r : Renamed). r.1) before ++ ys) (new_side (nat_eq x.0 e) x))
