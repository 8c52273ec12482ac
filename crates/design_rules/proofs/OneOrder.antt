-- A part that keeps places has an order that it keeps: its reached links by their places, and the others after them.
use Rattle.design_rules.proofs.Prelude.{◌≡◌, ℕ, zero, suc, ◌+◌, ◌*◌, ◌%◌, ◌<◌, ◌≤◌, ◌⊎◌, inl, inr, List, length, refl, sym, ap, subst, ◌∙◌, arith, cases_lt, mod-mul-add, mod_below, mod-le, Shape, below_suc, links_of, ReachesLink, place_after, KeepsPlaces, by_tables, HasOrder, PlacesAreOrders}
use Rattle.design_rules.proofs.Places.{Keeping, some_links, one_place_of, first_lap, RiseAt, place_is}
use Rattle.design_rules.proofs.CyclicRule.{less_by, order_keeps}

record IsReached (shape : Shape) (i l : ℕ) : Type 0 where
  run : List ℕ
  event : ℕ
  reaches : ReachesLink shape i l run event

-- of each link below n it is known whether the part reaches it
abbrev Known : Shape → ℕ → ℕ → Type 0
Known shape i n = (l : ℕ) → l < n → IsReached shape i l ⊎ (IsReached shape i l → ⊥)

either : (P : Type 0) → (P ⊎ (P → ⊥) → ⊥) → ⊥
either P h = h (inr (λ p. h (inl p)))

known : (shape : Shape) (i n : ℕ) → (Known shape i n → ⊥) → ⊥
known shape i zero h = h (λ l k. absurd (omega arith))
known shape i (suc n) h = known shape i n (λ d. either (IsReached shape i n) (λ here. h (below_suc (λ l. IsReached shape i l ⊎ (IsReached shape i l → ⊥)) n d here)))

-- the place where a link is reached; after all places for one that is not
abbrev key_of : (shape : Shape) (i l : ℕ) → IsReached shape i l ⊎ (IsReached shape i l → ⊥) → ℕ
key_of shape i l (inl r) = place_after shape r.run % links_of shape i
key_of shape i l (inr none) = links_of shape i

abbrev key_where : (shape : Shape) (i : ℕ) → Known shape i (length shape.links) → (l : ℕ) → (l < length shape.links) ⊎ (length shape.links ≤ l) → ℕ
key_where shape i d l (inl h) = key_of shape i l (d l h)
key_where shape i d l (inr past) = 0

abbrev key : (shape : Shape) (i : ℕ) → Known shape i (length shape.links) → ℕ → ℕ
key shape i d l = key_where shape i d l (cases_lt l (length shape.links))

key_reached : (shape : Shape) (i l : ℕ) (s : List ℕ) (e : ℕ) (d : Known shape i (length shape.links)) → KeepsPlaces shape i → ReachesLink shape i l s e → key shape i d l ≡ place_after shape s % links_of shape i
key_reached shape i l s e d keeps a = at (cases_lt l (length shape.links))
  where
    told : (x : IsReached shape i l ⊎ (IsReached shape i l → ⊥)) → key_of shape i l x ≡ place_after shape s % links_of shape i
    told (inl r) = one_place_of shape i l r.run s r.event e keeps r.reaches a
    told (inr none) = absurd (none (record { run = s; event = e; reaches = a }))

    at : (x : (l < length shape.links) ⊎ (length shape.links ≤ l)) → key_where shape i d l x ≡ place_after shape s % links_of shape i
    at (inl h) = told (d l h)
    at (inr past) = let within : l < length shape.links = a.on.within in absurd (omega arith)

-- what is known of the key of a link
data Keyed (shape : Shape) (i l n : ℕ) : Type 0 where
  reached : (r : IsReached shape i l) → n ≡ place_after shape r.run % links_of shape i → Keyed shape i l n
  never : n ≡ links_of shape i → Keyed shape i l n

keyed : (shape : Shape) (i l : ℕ) (d : Known shape i (length shape.links)) → l < length shape.links → Keyed shape i l (key shape i d l)
keyed shape i l d h = at (cases_lt l (length shape.links))
  where
    told : (x : IsReached shape i l ⊎ (IsReached shape i l → ⊥)) → Keyed shape i l (key_of shape i l x)
    told (inl r) = reached r refl
    told (inr none) = never refl

    at : (x : (l < length shape.links) ⊎ (length shape.links ≤ l)) → Keyed shape i l (key_where shape i d l x)
    at (inl k) = told (d l k)
    at (inr past) = absurd (omega arith)

abbrev number : (shape : Shape) (i : ℕ) → Known shape i (length shape.links) → ℕ → ℕ
number shape i d l = key shape i d l * length shape.links + l

rise : (shape : Shape) (i : ℕ) (d : Known shape i (length shape.links)) → Keeping shape i → RiseAt shape i (number shape i d)
rise shape i d g l m before same =
    let own = subst (λ p. ReachesLink shape p l before.run before.event) same before.reaches in
    let low : key shape i d l ≡ place_after shape before.run % links_of shape i = key_reached shape i l before.run before.event d g.keeps own in
    let below : place_after shape before.run % links_of shape i < links_of shape i = mod_below (place_after shape before.run) (links_of shape i) (some_links shape i l own.on.within own.on.end) in
    let most : place_after shape before.run % links_of shape i ≤ place_after shape before.run = mod-le (place_after shape before.run) (links_of shape i) in
    less_by (key shape i d l) (key shape i d m) (length shape.links) l m (higher low below most (keyed shape i m d before.within)) own.on.within
  where
    higher : key shape i d l ≡ place_after shape before.run % links_of shape i → place_after shape before.run % links_of shape i < links_of shape i → place_after shape before.run % links_of shape i ≤ place_after shape before.run → Keyed shape i m (key shape i d m) → key shape i d l < key shape i d m
    higher low below most (reached r is) =
        let x = first_lap shape i m r.run r.event g r.reaches in
        let after : place_after shape before.run < place_after shape x.run = before.later x.run x.event (subst (λ p. ReachesLink shape p m x.run x.event) (sym same) x.reaches) in
        let place : place_after shape x.run ≡ place_after shape r.run % links_of shape i = x.place in
        omega arith
    higher low below most (never is) = omega arith

order : (shape : Shape) (i : ℕ) → Known shape i (length shape.links) → Keeping shape i → HasOrder shape (by_tables shape) i
order shape i d g = record {
  number = number shape i d;
  differ = λ l m h k _ _ ne same. ne (sym (mod-mul-add (key shape i d l) (length shape.links) l h) ∙ ap (λ n. n % length shape.links) same ∙ mod-mul-add (key shape i d m) (length shape.links) m k);
  order = λ l s e possible on. place_is shape (number shape i d) i l s e g (rise shape i d g) (record { possible = possible; on = on });
}

pub places_are_orders : PlacesAreOrders
places_are_orders = record { sound = λ shape i w keeps none. known shape i (length shape.links) (λ d. none (order shape i d (record { form = w; keeps = keeps }))); complete = order_keeps }
