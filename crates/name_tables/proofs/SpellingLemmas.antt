-- Maps in which names are found by their bytes: the order of names tells the same names apart as their equality.
use Rattle.name_tables.proofs.Prelude.{◌≡◌, ℕ, Bool, true, false, cond, List, Option, Some, None, is_some, refl, sym, ◌∙◌, ap, slice_cmp, texts_ties, IsKeyTest, AreApart, lookup, eq_by_cmp, is_eq, nat_cmp, Ordering, Name, same_name, Spelling, at_name, BTreeMap, KeepsOthers, eq_by_cmp_equiv, nat_list_cmp_total}
use Rattle.std.specs.BTreeMap as tree
use Rattle.name_tables.proofs.NameLemmas.{same_exact}

-- the order of two spellings
abbrev pub compared : Spelling → Spelling → Ordering
compared a b = slice_cmp nat_cmp a.items b.items

-- whether this is how the name x is spelled
abbrev pub spells : Name → Spelling → Bool
spells x k = is_eq (slice_cmp nat_cmp x k.items)

pub spells_same : (x : Name) (k : Spelling) → spells x k ≡ same_name x k.items
spells_same x k = sym (texts_ties x k.items)

-- a test for a name is one for all spellings that the order does not tell apart
test_of_name : (y : Name) → IsKeyTest (eq_by_cmp compared) (spells y)
test_of_name y a b = (eq_by_cmp_equiv nat_list_cmp_total).congr y a.items b.items

apart : (x y : Name) → same_name y x ≡ false → AreApart (spells x) (spells y)
apart x y differ k here =
    spells_same y k ∙ ap (same_name y) (sym (same_exact x k.items (sym (spells_same x k) ∙ here))) ∙ differ

keeps_entries : {X : Type 0} (x y : Name) (old new : List (Spelling × X)) → KeepsOthers (eq_by_cmp compared) (spells x) old new → same_name y x ≡ false → lookup (spells y) new ≡ lookup (spells y) old
unfolding KeepsOthers
keeps_entries x y old new keeps differ = keeps (spells y) (test_of_name y) (apart x y differ)

-- what a change at the name x leaves for each name
pub updates_at : {X : Type 0} (x : Name) (old new : BTreeMap Spelling X) (w : Option X) → tree.UpdatesBy compared (λ k. slice_cmp nat_cmp x k.items) old new w
    → (y : Name) → at_name new y ≡ cond (same_name y x) w (at_name old y)
updates_at x old new w updates y = by (same_name y x) refl
  where
    by : (b : Bool) → same_name y x ≡ b → at_name new y ≡ cond b w (at_name old y)
    by true h = ap (at_name new) (same_exact y x h) ∙ updates.1
    by false h = keeps_entries x y old.entries new.entries updates.3 h

-- what a map has for a name is not absent
pub never_absent : (o p q : Option ℕ) → is_some o ≡ true → o ≡ None → p ≡ q
never_absent (Some n) p q h e = cc
never_absent None p q h e = cc
