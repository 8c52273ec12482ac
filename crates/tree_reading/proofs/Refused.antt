-- Texts that have no tree: the reader reads something else in them, or nothing.
use Rattle.tree_reading.proofs.Prelude.{◌≡◌, ℕ, zero, suc, ◌≤◌, max, None, List, [], ◌∷◌, refl, sym, ap, ◌∙◌, arith, tree_depth, Token, Name, Tree, prefix_tokens, plain_prefix, SequenceText, SideText, closed, external, skip, alphabets_between, MixedChoiceHasNoTree, NoDotBehindQuestion, ChainOfParallelsHasNoTree, HidingBesideChoiceHasNoTree, NoBracketBeyondTheLimit, NoEmptySetBeyondTheLimit, limited, limits, Settles, none-some, ExternalChoice, InternalChoice, Question, Dot, Backslash, OpenParen, OpenBracket, OpenBrace, CloseBrace, process}
use Rattle.csp_text.specs.declared.token.Token.TheVariants.{Symbol}
use Rattle.csp_text.specs.declared.tree.Tree.TheVariants as tree
use Rattle.csp_grammar.specs.Grammar as g
use Rattle.tree_reading.proofs.Complete.{atom_read, sequence_read, side_read, first_fits, first_of_four, rest_fit, tree_read}
use Rattle.tree_reading.proofs.Fitting.{about, first_part, left, less, parts, right, second_part, up}
use Rattle.tree_reading.proofs.Follow.{Stops}
use Rattle.tree_reading.proofs.Gives.{Gives}
use Rattle.tree_reading.proofs.NodeDepths as depths
use Rattle.tree_reading.proofs.Parts.{one_of_two, side_of_choices}
use Rattle.tree_reading.proofs.Settling.{bind, granted, later, not_there, now, one_answer, same}

left_over : (sign : Token) (r : List Token) → ◌≡◌ {A = List Token} (sign ∷ r) [] → ⊥
left_over sign r e = cc

-- what leaves a token is not the whole
not_all : {n d : ℕ} {ts : List Token} {t u : Tree} {sign : Token} {r : List Token} → Gives (λ L. L.tree (limits n d) ts) (t, sign ∷ r) → Gives (λ L. L.tree (limits n d) ts) (u, []) → ⊥
not_all {sign = sign} {r = r} g h = left_over sign r (ap (λ x. x.1) (same g h))

-- what is nothing is no tree
none_read : {n d : ℕ} {ts : List Token} {t : Tree} → Settles (λ L. L.tree (limits n d) ts) None → Gives (λ L. L.tree (limits n d) ts) (t, []) → ⊥
none_read {t = t} s h = none-some (t, []) (one_answer s h)

-- p [] q, with a rest that goes on with neither
choice_read : (n d : ℕ) (p q : Tree) {ts us : List Token} (sign : Token) (r : List Token) → tree_depth (tree.External (p ∷ q ∷ [])) ≤ d → SequenceText n closed ts p (Symbol ExternalChoice ∷ us) →
    SequenceText n closed us q (sign ∷ r) → Stops 8 (sign ∷ r) → skip ExternalChoice (sign ∷ r) ≡ None → skip OpenBracket (sign ∷ r) ≡ None →
    Gives (λ L. L.tree (limits n d) ts) (tree.External (p ∷ q ∷ []), sign ∷ r)
choice_read n d p q sign r fits first second s not_choice not_bracket =
    let one = sequence_read first d (first_fits external p (q ∷ []) d fits) refl in
    let two = sequence_read second (less d) (left _ 0 (rest_fit external p (q ∷ []) d fits)) s in
    later (bind _ (side_of_choices external fits one (later (bind _ two.gives (granted _ (one_of_two two.k two.tight) (not_there _ _ not_choice now))))) (not_there _ _ not_bracket now))

prefixed : {n : ℕ} {a p : List ℕ} {r : List Token} → SequenceText n closed (prefix_tokens a p r) (plain_prefix a (tree.Name p)) r
prefixed = g.sequence-one (g.prefix-event (g.event-fields g.fields-none) (process g.atom-name))

named : {n : ℕ} {p : List ℕ} {r : List Token} → SequenceText n closed (Name p ∷ r) (tree.Name p) r
named = g.sequence-one (process g.atom-name)

pub mixed : MixedChoiceHasNoTree
mixed n a p t h =
    let one = plain_prefix a (tree.Name p) in
    let front = tree_depth (tree.External (one ∷ one ∷ [])) in
    not_all (choice_read n (max (tree_depth t) front) one one (Symbol InternalChoice) (prefix_tokens a p []) (second_part (tree_depth t) front) prefixed prefixed refl refl refl)
    (tree_read h (max (tree_depth t) front) (first_part (tree_depth t) front) refl)

pub hiding : HidingBesideChoiceHasNoTree
hiding n a p q t h =
    let front = tree_depth (tree.External (tree.Name p ∷ tree.Name q ∷ [])) in
    not_all (choice_read n (max (tree_depth t) front) (tree.Name p) (tree.Name q) (Symbol Backslash) (Name a ∷ []) (second_part (tree_depth t) front) named named refl refl refl)
    (tree_read h (max (tree_depth t) front) (first_part (tree_depth t) front) refl)

side : {n : ℕ} {p : List ℕ} {r : List Token} → SideText n closed (Name p ∷ r) (tree.Name p) r
side = g.side-sequence named

both_parallel : (n d : ℕ) (a b p q : List ℕ) (r : List Token) → tree_depth (tree.Parallel (tree.Name p) (tree.Name a) (tree.Name b) (tree.Name q)) ≤ d → Stops 7 r →
    Gives (λ L. L.tree (limits (suc n) d) (Name p ∷ alphabets_between a b (Name q ∷ r))) (tree.Parallel (tree.Name p) (tree.Name a) (tree.Name b) (tree.Name q), r)
both_parallel n d a b p q r fits s =
    let is = depths.of_tree _ (tree.rolls-Parallel (tree.Name p) (tree.Name a) (tree.Name b) (tree.Name q)) in
    let within : max (max (tree_depth (tree.Name p)) (tree_depth (tree.Name a))) (max (tree_depth (tree.Name b)) (tree_depth (tree.Name q))) ≤ less d = parts d is fits in
    let before : max (tree_depth (tree.Name p)) (tree_depth (tree.Name a)) ≤ less d = left _ _ within in
    let after : max (tree_depth (tree.Name b)) (tree_depth (tree.Name q)) ≤ less d = right _ _ within in
    let front = side_read side d (up d (left _ _ before)) refl in
    let back = side_read side (less d) (right _ _ after) s in
    later (bind _ front.gives (granted _ front.tight (about d (tree.Name p) _ is
    (first_of_four (tree_depth (tree.Name p)) (tree_depth (tree.Name a)) (tree_depth (tree.Name b)) (tree_depth (tree.Name q))) fits
    (bind _ (atom_read g.atom-name (less d) (right _ _ before) refl) (bind _ (atom_read g.atom-name (less d) (left _ _ after) refl)
    (bind _ back.gives (granted _ (one_of_two back.k back.tight) now)))))))

no_bracket : (d : ℕ) (a b p : List ℕ) (r : List Token) (q : Tree) → tree_depth (tree.Parallel (tree.Name p) (tree.Name a) (tree.Name b) q) ≤ d →
    Settles (λ L. L.tree (limits 0 d) (Name p ∷ alphabets_between a b r)) None
no_bracket d a b p r q fits =
    let is = depths.of_tree _ (tree.rolls-Parallel (tree.Name p) (tree.Name a) (tree.Name b) q) in
    let within : max (max (tree_depth (tree.Name p)) (tree_depth (tree.Name a))) (max (tree_depth (tree.Name b)) (tree_depth q)) ≤ less d = parts d is fits in
    let before : max (tree_depth (tree.Name p)) (tree_depth (tree.Name a)) ≤ less d = left _ _ within in
    let front = side_read side d (up d (left _ _ before)) refl in
    later (bind _ front.gives (granted _ front.tight (about d (tree.Name p) _ is
    (first_of_four (tree_depth (tree.Name p)) (tree_depth (tree.Name a)) (tree_depth (tree.Name b)) (tree_depth q)) fits now)))

pub parallels : ChainOfParallelsHasNoTree
parallels zero a b p q s t h =
    let front = tree_depth (tree.Parallel (tree.Name p) (tree.Name a) (tree.Name b) (tree.Name q)) in
    none_read (no_bracket (max (tree_depth t) front) a b p (Name q ∷ alphabets_between a b (Name s ∷ [])) (tree.Name q) (second_part (tree_depth t) front))
    (tree_read h (max (tree_depth t) front) (first_part (tree_depth t) front) refl)
parallels (suc n) a b p q s t h =
    let front = tree_depth (tree.Parallel (tree.Name p) (tree.Name a) (tree.Name b) (tree.Name q)) in
    not_all (both_parallel n (max (tree_depth t) front) a b p q (alphabets_between a b (Name s ∷ [])) (second_part (tree_depth t) front) refl)
    (tree_read h (max (tree_depth t) front) (first_part (tree_depth t) front) refl)

-- texts in which nothing is read

abbrev ten_more : ℕ → ℕ
ten_more f = suc (suc (suc (suc (suc (suc (suc (suc (suc (suc f)))))))))

no_more : (a : ℕ) → a ≤ a
no_more a = omega arith

dot_front : (n d : ℕ) (a x p : List ℕ) (f : ℕ) → (limited (ten_more f)).tree (limits n d) (Name a ∷ Symbol Question ∷ Name x ∷ Symbol Dot ∷ prefix_tokens x p []) ≡ None
unfolding limited
dot_front n zero a x p f = refl
dot_front n (suc d) a x p f = refl

pub dot_behind_question : NoDotBehindQuestion
dot_behind_question n a x p t h =
    let read = tree_read h (tree_depth t) (no_more (tree_depth t)) refl in
    none-some (t, []) (sym (dot_front n (tree_depth t) a x p read.enough) ∙ read.settles (ten_more read.enough) (omega arith))

bracket_none : (d : ℕ) (ts : List Token) (f : ℕ) → (limited (ten_more f)).tree (limits 0 d) (Symbol OpenParen ∷ ts) ≡ None
unfolding limited
bracket_none d ts f = refl

pub bracket : NoBracketBeyondTheLimit
bracket ts t h =
    let read = tree_read h (tree_depth t) (no_more (tree_depth t)) refl in
    none-some (t, []) (sym (bracket_none (tree_depth t) ts read.enough) ∙ read.settles (ten_more read.enough) (omega arith))

set_none : (d f : ℕ) → (limited (ten_more f)).tree (limits 0 d) (Symbol OpenBrace ∷ Symbol CloseBrace ∷ []) ≡ None
unfolding limited
set_none d f = refl

pub empty_set : NoEmptySetBeyondTheLimit
empty_set t h =
    let read = tree_read h (tree_depth t) (no_more (tree_depth t)) refl in
    none-some (t, []) (sym (set_none (tree_depth t) read.enough) ∙ read.settles (ten_more read.enough) (omega arith))
