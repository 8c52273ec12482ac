-- A text is put over the one of its name, or at the end where there is none.
use Rattle.std.proofs.Common.{◌≡◌, ◌≢◌, ℕ, ◌<◌, Bool, true, false, not, List, [], ◌∷◌, ◌++◌, length, get_or, set, refl, sym, ◌∙◌, ap, subst, arith, Some, None}
use Rattle.std.specs.Prelude.{Option, cond}
use Rattle.csp_base.specs.Standard.{find, position, position_or_len, option_map, option_or, bytes_eq}
use Rattle.csp_base.proofs.Standard.{find-set, find_past, find-append, find_at, prefix_len_stops, slice_get_past, bytes_eq-Decides, nat_tests, not-false}
use Rattle.dl_outside.specs.Prelude.{NamedText, has_name, PutsText}

-- where a place is found, it is the first one
pub place_found : {X : Type 0} (p : X → Bool) (xs : List X) (k : ℕ) → Some k ≡ position p xs → (k < length xs) × (k ≡ position_or_len p xs)
place_found p xs k is = grind (arith, nat_tests)

-- where no place is found, no element is
pub none_found : {X : Type 0} (p : X → Bool) (xs : List X) → None ≡ position p xs → find p xs ≡ None
none_found p xs is = rw (find_at p xs) (slice_get_past xs (position_or_len p xs) (grind (arith, nat_tests)))

-- a name is that of itself alone
pub same_name : (name : List ℕ) → bytes_eq name name ≡ true
same_name name = (bytes_eq-Decides name name).1 refl

pub other_name : (held name : List ℕ) → held ≢ name → bytes_eq held name ≡ false
other_name held name differ =
    elim (bytes_eq held name) as (λ b. bytes_eq held name ≡ b → b ≡ false) [
      | true ↦ λ is. absurd (differ ((bytes_eq-Decides held name).0 is))
      | false ↦ λ _. refl
    ] refl

pub name_found : (name : List ℕ) (texts : List NamedText) (k : ℕ) (held : NamedText) → Some k ≡ position (has_name name) texts → held ≡ get_or texts k held → held.name ≡ name
name_found name texts k held is at =
    let found = place_found (has_name name) texts k is in
    let first : ℕ = position_or_len (has_name name) texts in
    let within : first < length texts = omega arith in
    let stops : not (bytes_eq (get_or texts first held).name name) ≡ false = prefix_len_stops (λ x. not (has_name name x)) texts held within in
    let here : held ≡ get_or texts first held = subst (λ (i : ℕ). held ≡ get_or texts i held) found.1 at in
    let same : not (bytes_eq held.name name) ≡ false = subst (λ (h : NamedText). not (bytes_eq h.name name) ≡ false) (sym here) stops in
    (bytes_eq-Decides held.name name).0 (not-false _ same)

-- over the text of its name
pub PutsText-set : (texts : List NamedText) (name text : List ℕ) (k : ℕ) (held : NamedText) → Some k ≡ position (has_name name) texts → held ≡ get_or texts k held → PutsText texts (set texts k (record { name = held.name; text = text })) name text
PutsText-set texts name text k held is at =
    let found = place_found (has_name name) texts k is in
    let called : held.name ≡ name = name_found name texts k held is at in
    let put : NamedText = record { name = held.name; text = text } in
    record {
      named = ap (option_map (λ (h : NamedText). h.text)) (find-set (has_name name) texts k put found.1 found.0 ((bytes_eq-Decides held.name name).1 called));
      others = λ other differs.
          let no : bytes_eq held.name other ≡ false = other_name held.name other (λ e. differs (sym e ∙ called)) in
          ap (option_map (λ (h : NamedText). h.text)) (find_past (has_name other) texts k put held (subst (λ (h : NamedText). bytes_eq h.name other ≡ false) at no) no);
    }

-- at the end
option_or-None : {X : Type 0} (o : Option X) → option_or o None ≡ o
option_or-None None = refl
option_or-None (Some x) = refl

pub PutsText-append : (texts : List NamedText) (name text : List ℕ) → None ≡ position (has_name name) texts → PutsText texts (texts ++ record { name = name; text = text } ∷ []) name text
PutsText-append texts name text is =
    let put : NamedText = record { name = name; text = text } in
    let none = none_found (has_name name) texts is in
    record {
      named = ap (option_map (λ (h : NamedText). h.text))
          (find-append (has_name name) texts (put ∷ []) ∙ (ap (λ o. option_or o (find (has_name name) (put ∷ []))) none ∙ ap (λ b. cond b (Some put) None) (same_name name)));
      others = λ other differs. ap (option_map (λ (h : NamedText). h.text))
          (find-append (has_name other) texts (put ∷ []) ∙ (ap (λ b. option_or (find (has_name other) texts) (cond b (Some put) None)) (other_name name other (λ e. differs (sym e))) ∙ option_or-None _));
    }
