-- What declarations put into a program, one after another.
use Rattle.script_contents.proofs.Prelude.{◌≡◌, ℕ, suc, ◌+◌, ◌-◌, ◌<◌, ◌≤◌, List, [], ◌∷◌, ◌++◌, length, drop, get_or, refl, sym, ap, ◌∙◌, arith, append_assoc, flat_map, Some, Decl, Tree, constants_in, resources_in, roles_in, channels_of, constants_of, definitions_from, defined, first_assertion, numbers_from, plain_content, resources_of, roles_of, root_of, Counts, Entities, Name, counted, declared, first_of, meanings_of, none_yet, reading, Kind, drop_of_length-le, fun_ext, append-nil, Content, Def, ResourceNote, RolesNote, SameFirsts, drop_read, same_meanings}
use Rattle.script_names.specs.Prelude.{Meanings}

pub definitions_step : (meanings : Meanings) (kinds : List Kind) (new old whole : List Def) (n next : Counts) (i : ℕ) (decls : List Decl) (d : Decl)
    → i < length decls → d ≡ get_or decls i d → next ≡ counted n d → new ≡ old ++ defined meanings kinds n d
    → old ++ definitions_from meanings kinds n (drop i decls) ≡ whole → new ++ definitions_from meanings kinds next (drop (i + 1) decls) ≡ whole
definitions_step meanings kinds new old whole n next i decls d within is next_is new_is so_far =
    (λ j. new_is j ++ definitions_from meanings kinds (next_is j) (drop (i + 1) decls))
    ∙ append_assoc old (defined meanings kinds n d) (definitions_from meanings kinds (counted n d) (drop (i + 1) decls))
    ∙ ap (λ rest. old ++ definitions_from meanings kinds n rest) (sym (drop_read decls i d within is))
    ∙ so_far

pub definitions_end : (meanings : Meanings) (kinds : List Kind) (old whole : List Def) (n : Counts) (i : ℕ) (decls : List Decl) → length decls ≤ i
    → old ++ definitions_from meanings kinds n (drop i decls) ≡ whole → old ≡ whole
definitions_end meanings kinds old whole n i decls at_end so_far =
    sym (append-nil old) ∙ ap (λ rest. old ++ definitions_from meanings kinds n rest) (sym (drop_of_length-le decls at_end)) ∙ so_far

pub numbers_step : (made new whole : List ℕ) (number next count place : ℕ) → place < count → next ≡ number + 1 → new ≡ made ++ number ∷ []
    → made ++ numbers_from number (count - place) ≡ whole → new ++ numbers_from next (count - (place + 1)) ≡ whole
numbers_step made new whole number next count place within next_is new_is so_far =
    let left : count - place ≡ suc (count - (place + 1)) = omega arith in
    (λ i. new_is i ++ numbers_from (next_is i) (count - (place + 1)))
    ∙ append_assoc made (number ∷ []) (numbers_from (number + 1) (count - (place + 1)))
    ∙ ap (λ k. made ++ numbers_from number k) (sym left)
    ∙ so_far

pub numbers_end : (made whole : List ℕ) (number count place : ℕ) → count ≤ place → made ++ numbers_from number (count - place) ≡ whole → made ≡ whole
numbers_end made whole number count place at_end so_far =
    let none : count - place ≡ 0 = omega arith in
    sym (append-nil made) ∙ ap (λ k. made ++ numbers_from number k) (sym none) ∙ so_far

-- annotations and constants look at no kinds, constants at no names
same_constants : (meanings : Meanings) (kinds : List Kind) (d : Decl) → constants_in d ≡ constants_of meanings kinds d
same_constants meanings kinds (Decl.Datatype x ks) = refl
same_constants meanings kinds _ = refl

same_roles : (meanings : Meanings) (kinds : List Kind) (d : Decl) → roles_in meanings d ≡ roles_of meanings kinds d
same_roles meanings kinds (Decl.Roles names) = refl
same_roles meanings kinds _ = refl

same_resources : (meanings : Meanings) (kinds : List Kind) (d : Decl) → resources_in meanings d ≡ resources_of meanings kinds d
same_resources meanings kinds (Decl.Resource names) = refl
same_resources meanings kinds _ = refl

-- what all declarations put into a program
pub content_is : (names : Entities) (decls : List Decl) (kinds : List Kind) (root : Tree) (made : Content) → SameFirsts names (declared decls) → first_assertion decls ≡ Some root
    → made.events ≡ [] → made.channels ≡ flat_map (channels_of (first_of names) kinds) decls → made.consts ≡ flat_map constants_in decls
    → made.defs ≡ definitions_from (first_of names) kinds none_yet decls → made.roles ≡ flat_map (roles_in (first_of names)) decls
    → made.resources ≡ flat_map (resources_in (first_of names)) decls → made.root ≡ (reading (first_of names) kinds root).net [] 0
    → made ≡ plain_content decls kinds
content_is names decls kinds root made same asserted events_is channels_is consts_is defs_is roles_is resources_is root_is =
    let means : first_of names ≡ meanings_of decls = same_meanings decls names same in
    let channels_are = channels_is ∙ ap (λ m. flat_map (channels_of m kinds) decls) means in
    let consts_are = consts_is ∙ ap (λ (f : Decl → List Name). flat_map f decls) (fun_ext (same_constants (meanings_of decls) kinds)) in
    let defs_are = defs_is ∙ ap (λ m. definitions_from m kinds none_yet decls) means in
    let roles_are = roles_is ∙ ap (λ (f : Decl → List RolesNote). flat_map f decls) (fun_ext (same_roles (first_of names) kinds)) ∙ ap (λ m. flat_map (roles_of m kinds) decls) means in
    let resources_are =
    resources_is ∙ ap (λ (f : Decl → List ResourceNote). flat_map f decls) (fun_ext (same_resources (first_of names) kinds)) ∙ ap (λ m. flat_map (resources_of m kinds) decls) means in
    let root_are = root_is ∙ ap (λ m. (reading m kinds root).net [] 0) means ∙ ap (root_of (meanings_of decls) kinds) (sym asserted) in
    λ i. record {
      events = events_is i;
      channels = channels_are i;
      consts = consts_are i;
      defs = defs_are i;
      roles = roles_are i;
      resources = resources_are i;
      root = root_are i;
    }
