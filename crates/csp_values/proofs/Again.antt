-- What a binding adds once more changes nothing.
use Rattle.csp_values.proofs.Prelude.{or_right, ◌≡◌, ℕ, ◌+◌, Bool, true, false, cond, ◌||◌, Ok, Err, List, [], ◌∷◌, ◌++◌, map, refl, ap, sym, ◌∙◌, inr, arith, if◌then◌else◌, IsTrue, nat_lt, Atom, added, all_added, limited, Outcome, and_then, Env, Front, Gathered, Meaning, as_atom, front, front_events, fronts_added, gathered, items_added, meanings, uses_within, EventPart, Expr, Kind, SetLimit, Channel, Content, came_through, one_more_binding, with_fronts, with_items, yielded, false≢true, kind_of, same, AllOfKind, IsOneKind, fits, has_atom, with_atom, same_exact, same_itself, IsSetValue, all_grow, with_member, limited_few, MOST_BINDINGS}
use Rattle.csp_atoms.specs.declared.atom.Atom.TheVariants as atom

-- ---- members that are added

kind_of_member : (k : ℕ) (xs : List Atom) (a : Atom) → AllOfKind k xs → has_atom xs a ≡ true → kind_of a ≡ k
kind_of_member k [] a kinds has = absurd (false≢true has)
kind_of_member k (x ∷ xs) a kinds has = at_first (λ h. kind_of_member k xs a kinds.1 h) (same x a) refl has
  where
    at_first : (has_atom xs a ≡ true → kind_of a ≡ k) → (b : Bool) → same x a ≡ b → (b || has_atom xs a) ≡ true → kind_of a ≡ k
    at_first later true is h = ap kind_of (sym (same_exact x a is)) ∙ kinds.0
    at_first later false is h = later h

fits_member : (xs : List Atom) (a : Atom) → IsOneKind xs → has_atom xs a ≡ true → fits xs a ≡ true
fits_member [] a kinds has = refl
fits_member (x ∷ xs) a kinds has =
    let same_kinds : kind_of a ≡ kind_of x = kind_of_member (kind_of x) (x ∷ xs) a (refl, kinds) has in
    grind arith

member_added : (xs : List Atom) (a : Atom) → IsSetValue xs → has_atom xs a ≡ true → added xs a ≡ Ok xs
member_added xs a set has =
    ap (λ b. cond b (limited (with_atom xs a)) (Err Kind)) (fits_member xs a set.0.1 has) ∙ (ap limited (with_member xs a set.0.0 has) ∙ limited_few xs set.1)

members_added : (xs ys : List Atom) → IsSetValue xs → ((a : Atom) → IsTrue (has_atom ys a) → IsTrue (has_atom xs a)) → all_added xs ys ≡ Ok xs
members_added xs [] set all = refl
members_added xs (y ∷ ys) set all =
    ap (λ o. and_then o (λ more. all_added more ys)) (member_added xs y set (all y (ap (λ b. b || has_atom ys y) (same_itself y)))) ∙
    members_added xs ys set (λ a has. all a (or_right (same y a) (has_atom ys a) has))

-- ---- what a binding adds is a list of atoms

record Adds (f : List Atom → Outcome (List Atom)) : Type 0 where
  list : List Atom
  all : (xs : List Atom) → f xs ≡ all_added xs list

then_added : (o : Outcome (List Atom)) (ys zs : List Atom) → ((xs : List Atom) → and_then (all_added xs ys) (λ more. all_added more zs) ≡ all_added xs (ys ++ zs))
    → and_then (and_then o (λ more. all_added more ys)) (λ more. all_added more zs) ≡ and_then o (λ more. all_added more (ys ++ zs))
then_added (Ok more) ys zs joined = joined more
then_added (Err k) ys zs joined = refl

joined_adds : (xs ys zs : List Atom) → and_then (all_added xs ys) (λ more. all_added more zs) ≡ all_added xs (ys ++ zs)
joined_adds xs [] zs = refl
joined_adds xs (y ∷ ys) zs = then_added (added xs y) ys zs (λ more. joined_adds more ys zs)

both_add : (f g : List Atom → Outcome (List Atom)) → Adds f → Adds g → Adds (λ xs. and_then (f xs) g)
both_add f g one other = record {
  list = one.list ++ other.list;
  all = λ xs. (λ i. and_then (one.all xs i) (λ more. other.all more i)) ∙ joined_adds xs one.list other.list;
}

items_add : (es : List Meaning) (env : Env) (atoms more : List Atom) → items_added es env atoms ≡ Ok more → Adds (items_added es env)
items_add [] env atoms more h = record { list = []; all = λ xs. refl }
items_add (e ∷ es) env atoms more h =
    let first = came_through (e env) (λ v. and_then (as_atom v) (λ a. and_then (added atoms a) (λ l. items_added es env l))) more h in
    let second = came_through (as_atom first.0) (λ a. and_then (added atoms a) (λ l. items_added es env l)) more first.2 in
    let third = came_through (added atoms second.0) (λ l. items_added es env l) more second.2 in
    let rest = items_add es env third.0 more third.2 in
    record {
      list = second.0 ∷ rest.list;
      all = λ xs.
          ap (λ o. and_then o (λ v. and_then (as_atom v) (λ a. and_then (added xs a) (λ l. items_added es env l)))) first.1 ∙
          (ap (λ o. and_then o (λ a. and_then (added xs a) (λ l. items_added es env l))) second.1 ∙
          (λ i. and_then (added xs second.0) (λ l. rest.all l i)));
    }

fronts_add : (channels : List Channel) (fs : List Front) (env : Env) (atoms more : List Atom) → fronts_added channels fs env atoms ≡ Ok more → Adds (fronts_added channels fs env)
fronts_add channels [] env atoms more h = record { list = []; all = λ xs. refl }
fronts_add channels (f ∷ fs) env atoms more h =
    let first = came_through (front_events channels f.channel f.fields env) (λ es. and_then (all_added atoms (map (λ e. atom.Event e) es)) (λ l. fronts_added channels fs env l)) more h in
    let second = came_through (all_added atoms (map (λ e. atom.Event e) first.0)) (λ l. fronts_added channels fs env l) more first.2 in
    let rest = fronts_add channels fs env second.0 more second.2 in
    record {
      list = map (λ e. atom.Event e) first.0 ++ rest.list;
      all = λ xs.
          ap (λ o. and_then o (λ es. and_then (all_added xs (map (λ e. atom.Event e) es)) (λ l. fronts_added channels fs env l))) first.1 ∙
          ((λ i. and_then (all_added xs (map (λ e. atom.Event e) first.0)) (λ l. rest.all l i)) ∙
          joined_adds xs (map (λ e. atom.Event e) first.0) rest.list);
    }

pub yielded_again : (p : Content) (n : ℕ) (items : List Expr) (parts : List EventPart) (env : Env) (atoms more : List Atom) → IsSetValue atoms
    → yielded p n items parts env atoms ≡ Ok more → yielded p n items parts env more ≡ Ok more
unfolding with_items with_fronts
yielded_again p n items parts env atoms more set h =
    let first = came_through (with_items p n env items atoms) (λ l. with_fronts p n env parts l) more h in
    let adds = both_add (with_items p n env items) (with_fronts p n env parts) (items_add (meanings p n items) env atoms first.0 first.1)
    (fronts_add p.channels (map (front (uses_within p n) p.channels) parts) env first.0 more first.2) in
    let grows = all_grow atoms adds.list more (sym (adds.all atoms) ∙ h) in
    adds.all more ∙ members_added more adds.list (grows.0 set) (λ a has. (grows.1 a).1 (inr has))

-- one more binding, which adds nothing
pub adds_nothing : (p : Content) (n : ℕ) (items : List Expr) (parts : List EventPart) (env : Env) (state : Gathered) → yielded p n items parts env state.atoms ≡ Ok state.atoms
    → one_more_binding p n items parts env state ≡ gathered (λ _ atoms. Ok atoms) [] state
unfolding one_more_binding
adds_nothing p n items parts env state h =
    ap (λ o. if nat_lt state.bindings MOST_BINDINGS then and_then o (λ atoms. Ok (record { bindings = state.bindings + 1; atoms = atoms })) else Err SetLimit) h

binding_adds : (b : Bool) (o : Outcome (List Atom)) (k : ℕ) (next : Gathered) → (if b then and_then o (λ atoms. Ok (record { bindings = k; atoms = atoms })) else Err SetLimit) ≡ Ok next
    → o ≡ Ok next.atoms
binding_adds true (Ok atoms) k next h = let same : record { bindings = k; atoms = atoms } ≡ next = cc in ap (λ (g : Gathered). Ok g.atoms) same
binding_adds true (Err e) k next h = absurd cc
binding_adds false o k next h = absurd cc

-- what a binding has added is there
pub there_after : (p : Content) (n : ℕ) (items : List Expr) (parts : List EventPart) (env : Env) (state next : Gathered) → IsSetValue state.atoms
    → one_more_binding p n items parts env state ≡ Ok next → yielded p n items parts env next.atoms ≡ Ok next.atoms
unfolding one_more_binding
there_after p n items parts env state next set h =
    yielded_again p n items parts env state.atoms next.atoms set
    (binding_adds (nat_lt state.bindings MOST_BINDINGS) (yielded p n items parts env state.atoms) (state.bindings + 1) next h)
