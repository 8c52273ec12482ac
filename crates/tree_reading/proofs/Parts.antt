-- The readers' steps from a part to a whole, and lists behind one another.
use Rattle.tree_reading.proofs.Prelude.{◌≡◌, ℕ, ◌+◌, ◌≤◌, max, Bool, true, false, nat_eq, nat_le, if◌then◌else◌, Option, Some, None, List, [], ◌∷◌, map, refl, sym, ap, subst, ◌∙◌, arith, tree_depth, Token, FieldTree, GenTree, Tree, Choice, choice_of, choice_sign, DotsText, FieldsText, ConditionsText, external, internal, Level, and_then, begins_event, case, with_first, begins, skip, Found, number, of_process, Limited, read_side, read_guard, limits, chain_symbol, dot_fields, first_chain, prefix_start, Chain, Binding, greatest}
use Rattle.csp_text.specs.declared.token.Token.TheVariants as token
use Rattle.csp_text.specs.declared.token.Symbol.TheVariants as symbol
use Rattle.csp_text.specs.declared.tree.FieldTree.TheVariants as field
use Rattle.csp_text.specs.declared.tree.Tree.TheVariants as tree
use Rattle.csp_grammar.specs.Grammar as g
use Rattle.tree_reading.specs.declared.look.Chain.TheVariants as chain
use Rattle.tree_reading.specs.declared.look.PrefixStart.TheVariants as opening
use Rattle.tree_reading.specs.declared.read.Binding.TheVariants as bound
use Rattle.tree_reading.proofs.DotFields as dotted
use Rattle.tree_reading.proofs.Settling.{later, now, bind, there, not_there, granted, second}
use Rattle.tree_reading.proofs.Fitting.{about, first_part, less}
use Rattle.tree_reading.proofs.Gives.{Gives}
use Rattle.tree_reading.proofs.Follow.{Stops, more, not_symbol}
use Rattle.tree_reading.proofs.Levels.{Reads, read_at, tightness}
use Rattle.tree_reading.proofs.Looks.{binding_of}
use Rattle.tree_reading.proofs.NodeDepths as depths
use Rattle.tree_reading.proofs.Starts.{IsPlain}

-- what is read is bound at least as tightly as the binding
pub record Bounded {A : Type 0} (least : Binding) (F : Limited → Found A) (a : A) (r : List Token) : Type 0 where
  pub k : Binding
  pub tight : nat_le (number least) (number k) ≡ true
  pub gives : Gives F (k, a, r)

trans : (a b c : ℕ) → nat_le a b ≡ true → nat_le b c ≡ true → nat_le a c ≡ true
trans a b c h k = grind (arith)

pub one_of_two : (k : Binding) → nat_le 2 (number k) ≡ true → nat_le 1 (number k) ≡ true
one_of_two k h = trans 1 2 (number k) refl h

pub still_closed : (k : Binding) → nat_le 2 (number k) ≡ true → nat_le 2 (number (of_process k)) ≡ true
still_closed k h = subst (λ b. nat_le 2 (number (if b then bound.Closed else bound.Open)) ≡ true) (sym h) refl

-- fields

pub dots_begin : {n : ℕ} {ts : List Token} {fields : List Tree} {r : List Token} → DotsText n ts fields r → Stops 10 r → Stops 11 ts
dots_begin {r = r} g.dots-none s = more 10 11 r refl s
dots_begin (g.dots-more a d) s = refl

pub fields_begin : {n : ℕ} {dot : Bool} {ts : List Token} {fs : List FieldTree} {r : List Token} →
    FieldsText n dot ts fs r → nat_eq (begins r) 10 ≡ true → nat_eq (begins ts) 10 ≡ true
fields_begin g.fields-none h = h
fields_begin _ h = refl

pub fields_no_colon : {n : ℕ} {dot : Bool} {ts : List Token} {fs : List FieldTree} {r : List Token} →
    FieldsText n dot ts fs r → skip symbol.Colon r ≡ None → skip symbol.Colon ts ≡ None
fields_no_colon g.fields-none h = h
fields_no_colon _ h = refl

pub dots_more : {n d : ℕ} {k : Binding} {ts : List Token} {a : Tree} {us : List Token} {fields : List Tree} {r : List Token} →
    Gives (λ L. L.expression (limits n d) bound.Sum ts) (k, a, us) → Gives (λ L. L.dots (limits n d) us) (fields, r) →
    Gives (λ L. L.dots (limits n d) (token.Symbol symbol.Dot ∷ ts)) (a ∷ fields, r)
dots_more a d = later (bind _ a (bind _ d now))

-- the fields of a dotted event as they are read in front of a process
pub record AreDots (n d : ℕ) (ts : List Token) (fields : List Tree) (r : List Token) : Type 0 where
  pub trees : List FieldTree
  pub gives : Gives (λ L. L.fields (limits n d) true ts) (trees, r)
  pub dots : dot_fields trees ≡ Some fields

pub no_dots : (n d : ℕ) (r : List Token) → Stops 10 r → AreDots n d r [] r
no_dots n d r s = record {
  trees = [];
  gives = later (bind _ (not_there _ _ (not_symbol symbol.Dot 10 r refl s) (not_there _ _ (not_symbol symbol.Bang 10 r refl s) (not_there _ _ (not_symbol symbol.Question 10 r refl s) now))) now);
  dots = refl;
}

pub more_dots : {n d : ℕ} {k : Binding} {ts : List Token} {a : Tree} {us : List Token} {fields : List Tree} {r : List Token} →
    Gives (λ L. L.expression (limits n d) bound.Sum ts) (k, a, us) → AreDots n d us fields r → AreDots n d (token.Symbol symbol.Dot ∷ ts) (a ∷ fields) r
more_dots {n} {d} {k} {ts} {a} e rest = record {
  trees = field.Dot a ∷ rest.trees;
  gives = later (bind _ (bind _ e now) (bind _ rest.gives now));
  dots = dotted.dots_more a rest.trees ∙ ap (with_first a) rest.dots;
}

pub conditions_begin : {n : ℕ} {ts : List Token} {gs : List GenTree} {r : List Token} →
    ConditionsText n ts gs r → Stops 1 r → skip symbol.Comma r ≡ None → Stops 1 ts × (skip symbol.Comma ts ≡ None)
conditions_begin g.conditions-none s c = (s, c)
conditions_begin (g.conditions-some gs) s c = (refl, refl)

-- expressions in front of a process

neither : (o p : Option (List Token)) → o ≡ None → p ≡ None →
    ◌≡◌ {A = Option (Chain × List Token)} (case o (λ us. Some (chain.External, us)) (λ _. and_then p (λ us. Some (chain.Internal, us)))) None
neither o p e f =
    subst (λ o. ◌≡◌ {A = Option (Chain × List Token)} (case o (λ us. Some (chain.External, us)) (λ _. and_then p (λ us. Some (chain.Internal, us)))) None) (sym e)
    (subst (λ p. ◌≡◌ {A = Option (Chain × List Token)} (and_then p (λ us. Some (chain.Internal, us))) None) (sym f) refl)

starts : (ts : List Token) → begins_event ts ≡ false → IsPlain ts → Gives (λ L. prefix_start ts) (opening.Expression, ts)
starts ts e is =
    second _ _ e (not_there _ _ is.no_if (not_there _ _ (neither (skip symbol.ExternalChoice ts) (skip symbol.InternalChoice ts) is.no_external is.no_internal) (not_there _ _ is.no_parallel now)))

pub into_guard : {n d : ℕ} {ts : List Token} {x : Binding × Tree × List Token} → begins_event ts ≡ false → IsPlain ts → Gives (λ L. read_guard L (limits n d) ts) x → Gives (λ L. L.prefix (limits n d) ts) x
into_guard {ts = ts} e is h = later (bind _ (starts ts e is) h)

pub prefix_alone : {n d : ℕ} {l : Level} {ts : List Token} {t : Tree} {r : List Token} → nat_le 11 (tightness l) ≡ true → begins_event ts ≡ false → IsPlain ts →
    Reads n d l ts t r → Stops 9 r → Bounded (binding_of l) (λ L. L.prefix (limits n d) ts) t r
prefix_alone {n} {d} {l} {ts} {t} {r} le e is p s = record {
  k = p.k;
  tight = p.tight;
  gives = into_guard e is (bind _ (read_at p bound.Disjunction le (more 9 11 r refl s)) (not_there _ _ (not_symbol symbol.Ampersand 9 r refl s) now));
}

-- from a process to a sequence, a side and a tree

pub sequence_alone : {n d : ℕ} {k : Binding} {ts : List Token} {t : Tree} {r : List Token} → Stops 8 r → Gives (λ L. L.prefix (limits n d) ts) (k, t, r) → Gives (λ L. L.sequence (limits n d) ts) (k, t, r)
sequence_alone {r = r} s h = later (bind _ h (not_there _ _ (not_symbol symbol.Semicolon 8 r refl s) now))

no_chain : (r : List Token) → Stops 7 r → first_chain r ≡ None
no_chain r s = neither (skip symbol.ExternalChoice r) (skip symbol.InternalChoice r) (not_symbol symbol.ExternalChoice 7 r refl s) (not_symbol symbol.InternalChoice 7 r refl s)

pub side_alone : {n d : ℕ} {k : Binding} {ts : List Token} {t : Tree} {r : List Token} → Stops 7 r → Gives (λ L. L.sequence (limits n d) ts) (k, t, r) → Gives (λ L. read_side L (limits n d) ts) (k, t, r)
side_alone {r = r} s h = bind _ h (not_there _ _ (no_chain r s) (not_there _ _ (not_symbol symbol.Backslash 7 r refl s) now))

pub tree_alone : {n d : ℕ} {k : Binding} {ts : List Token} {t : Tree} {r : List Token} → Stops 6 r → Gives (λ L. read_side L (limits n d) ts) (k, t, r) → Gives (λ L. L.tree (limits n d) ts) (t, r)
tree_alone {r = r} s h = later (bind _ h (not_there _ _ (not_symbol symbol.OpenBracket 6 r refl s) now))

-- chains of choices

abbrev pub chain_of : Choice → Chain
chain_of external = chain.External
chain_of internal = chain.Internal

pub choice_stops : (c : Choice) (us : List Token) → Stops 8 (choice_sign c ∷ us)
choice_stops external us = refl
choice_stops internal us = refl

choice_skipped : (c : Choice) (us : List Token) → skip (chain_symbol (chain_of c)) (choice_sign c ∷ us) ≡ Some us
choice_skipped external us = refl
choice_skipped internal us = refl

choice_ended : (c : Choice) (r : List Token) → Stops 7 r → skip (chain_symbol (chain_of c)) r ≡ None
choice_ended external r s = not_symbol symbol.ExternalChoice 7 r refl s
choice_ended internal r s = not_symbol symbol.InternalChoice 7 r refl s

pub last_choice : {n d : ℕ} {k : Binding} (c : Choice) {ts : List Token} {q : Tree} {r : List Token} → nat_le 1 (number k) ≡ true → Stops 7 r →
    Gives (λ L. L.sequence (limits n d) ts) (k, q, r) → Gives (λ L. L.choices (limits n d) (chain_of c) ts) (of_process k, q ∷ [], r)
last_choice c {r = r} le s h = later (bind _ h (granted _ le (not_there _ _ (choice_ended c r s) now)))

pub more_choices : {n d : ℕ} {k : Binding} (c : Choice) {ts : List Token} {p : Tree} {us : List Token} {ps : List Tree} {r : List Token} →
    Bounded bound.Closed (λ L. L.sequence (limits n d) ts) p (choice_sign c ∷ us) → Gives (λ L. L.choices (limits n d) (chain_of c) us) (k, ps, r) →
    Gives (λ L. L.choices (limits n d) (chain_of c) ts) (k, p ∷ ps, r)
more_choices c {us = us} p h =
    later (bind _ p.gives (granted _ (one_of_two p.k p.tight) (there _ _ (choice_skipped c us) (granted _ p.tight (bind _ h now)))))

pub chosen_depth : (c : Choice) (p : Tree) (ps : List Tree) → tree_depth (choice_of c (p ∷ ps)) ≡ 1 + max (tree_depth p) (greatest (map tree_depth ps))
chosen_depth external p ps = depths.of_tree _ (tree.rolls-External (p ∷ ps))
chosen_depth internal p ps = depths.of_tree _ (tree.rolls-Internal (p ∷ ps))

pub side_of_choices : {n d : ℕ} {k : Binding} {ts : List Token} {p : Tree} {us : List Token} {ps : List Tree} {r : List Token} (c : Choice) → tree_depth (choice_of c (p ∷ ps)) ≤ d →
    Bounded bound.Closed (λ L. L.sequence (limits n d) ts) p (choice_sign c ∷ us) →
    Gives (λ L. L.choices (limits n (less d)) (chain_of c) us) (k, ps, r) → Gives (λ L. read_side L (limits n d) ts) (k, choice_of c (p ∷ ps), r)
side_of_choices {d = d} {p = p} {ps = ps} external fits front h =
    bind _ front.gives (granted _ front.tight (about d p _ (chosen_depth external p ps) (first_part (tree_depth p) (greatest (map tree_depth ps))) fits (bind _ h now)))
side_of_choices {d = d} {p = p} {ps = ps} internal fits front h =
    bind _ front.gives (granted _ front.tight (about d p _ (chosen_depth internal p ps) (first_part (tree_depth p) (greatest (map tree_depth ps))) fits (bind _ h now)))

-- the first bound of a range, read as an item
pub bound_alone : {n d : ℕ} {k : Binding} {ts : List Token} {a : Tree} {us : List Token} → begins_event ts ≡ false →
    Gives (λ L. L.expression (limits n d) bound.Disjunction ts) (k, a, token.Symbol symbol.DotDot ∷ us) →
    Gives (λ L. L.items (limits n d) ts) (k, a ∷ [], token.Symbol symbol.DotDot ∷ us)
bound_alone e h = later (bind _ (second _ _ e h) now)
