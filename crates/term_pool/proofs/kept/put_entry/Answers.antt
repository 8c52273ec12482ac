-- An entry that is known keeps its place; a new one is kept with its measure, or taken out again.
use Rattle.term_pool.proofs.Prelude.{◌≡◌, true, false, List, [], ◌∷◌, ◌++◌, Some, slice_get, refl, sym, ap, ◌∙◌, subst, if◌then◌else◌, Ok, Err, AllocError, entry_layer, eq_entry, processes, trees_in, IsKept, Puts, IsNodeMeasure, Has, layer_tree, Entry, Measure, is_member, not-false, not-true}
use Rattle.term_pool.proofs.KeptLemmas.{kept_push, on_err, puts_push, puts_there, puts_unknown, taken_out}
use Rattle.term_pool.proofs.HeldLemmas.{puts_none}
use Rattle.term_pool.proofs.kept.put_entry.Goals as goal

pub returns-in_err-place-clause-err_only_new : goal.returns-in_err-place-clause-err_only_new
returns-in_err-place-clause-err_only_new c =
    on_err c.from_residual.result (Has (trees_in c.args.nodes.now) (layer_tree (trees_in c.args.nodes.now) (entry_layer c.args.nodes.now.parts c.args.entry)) → ⊥)
    (puts_unknown c.args.nodes.now.parts c.args.nodes.now.entries c.args.nodes.now.measures c.requires.kept c.args.entry c.requires.fits c.requires.below c.in_err-place.ensures.err_only_new)

pub returns-then-not-new-clause-puts : goal.returns-then-not-new-clause-puts
returns-then-not-new-clause-puts c =
    let es = c.args.nodes.now.entries in
    let e = c.args.entry in
    let known : is_member eq_entry es e ≡ true = not-false _ (sym c.in_ok-place.ensures.new ∙ c.if-not-new.true) in
    let entries : c.insert_full.new.self ≡ es = c.in_ok-place.ensures.list ∙ ap (λ b. if b then es else (es ++ e ∷ [])) known in
    subst (λ (xs : List Entry). Puts (processes c.args.nodes.now.parts es) (processes c.args.nodes.now.parts xs) (Ok (record { 0 = c.in_ok-place.place })) (layer_tree (processes c.args.nodes.now.parts es) (entry_layer c.args.nodes.now.parts e))) (sym entries)
    (puts_there c.args.nodes.now.parts es c.args.nodes.now.measures c.requires.kept e c.requires.fits c.requires.below c.in_ok-place.place
    (subst (λ (xs : List Entry). slice_get xs c.in_ok-place.place ≡ Some e) entries c.in_ok-place.ensures.place))

pub returns-in-Ok-clause-kept : goal.returns-in-Ok-clause-kept
returns-in-Ok-clause-kept c =
    let es = c.args.nodes.now.entries in
    let ms = c.args.nodes.now.measures in
    let e = c.args.entry in
    let n = entry_layer c.args.nodes.now.parts e in
    let m = c.of_entry-measure.result in
    let unknown : is_member eq_entry es e ≡ false = not-true _ (sym c.in_ok-place.ensures.new ∙ c.if-not-new.false) in
    let is : IsNodeMeasure ms n m = subst (λ (xs : List Measure). IsNodeMeasure xs n m) c.as_slice.ensures
    (record { depth = c.of_entry-measure.ensures.depth; size = c.of_entry-measure.ensures.size; own = c.of_entry-measure.ensures.own; places = c.of_entry-measure.ensures.places }) in
    let entries : c.insert_full.new.self ≡ es ++ e ∷ [] = c.in_ok-place.ensures.list ∙ ap (λ b. if b then es else (es ++ e ∷ [])) unknown in
    let measures : c.push.new.self ≡ ms ++ m ∷ [] = c.in-Ok.ensures.ok in
    subst (λ (xs : List Entry). IsKept c.args.nodes.now.parts xs c.push.new.self) (sym entries)
    (subst (λ (xs : List Measure). IsKept c.args.nodes.now.parts (es ++ e ∷ []) xs) (sym measures) (kept_push c.args.nodes.now.parts es ms c.requires.kept e c.requires.fits c.requires.below unknown m is))

pub returns-in-Ok-clause-puts : goal.returns-in-Ok-clause-puts
returns-in-Ok-clause-puts c =
    let es = c.args.nodes.now.entries in
    let e = c.args.entry in
    let unknown : is_member eq_entry es e ≡ false = not-true _ (sym c.in_ok-place.ensures.new ∙ c.if-not-new.false) in
    let entries : c.insert_full.new.self ≡ es ++ e ∷ [] = c.in_ok-place.ensures.list ∙ ap (λ b. if b then es else (es ++ e ∷ [])) unknown in
    subst (λ (xs : List Entry). Puts (processes c.args.nodes.now.parts es) (processes c.args.nodes.now.parts xs) (Ok (record { 0 = c.in_ok-place.place })) (layer_tree (processes c.args.nodes.now.parts es) (entry_layer c.args.nodes.now.parts e))) (sym entries)
    (puts_push c.args.nodes.now.parts es c.args.nodes.now.measures c.requires.kept e c.requires.fits c.requires.below unknown c.in_ok-place.place
    (subst (λ (xs : List Entry). slice_get xs c.in_ok-place.place ≡ Some e) entries c.in_ok-place.ensures.place))

pub returns-in-Err-clause-kept : goal.returns-in-Err-clause-kept
returns-in-Err-clause-kept c =
    let es = c.args.nodes.now.entries in
    let e = c.args.entry in
    let unknown : is_member eq_entry es e ≡ false = not-true _ (sym c.in_ok-place.ensures.new ∙ c.if-not-new.false) in
    let entries : c.insert_full.new.self ≡ es ++ e ∷ [] = c.in_ok-place.ensures.list ∙ ap (λ b. if b then es else (es ++ e ∷ [])) unknown in
    let left : c.pop.new.self ≡ es = taken_out c.insert_full.new.self es c.pop.new.self e c.pop.result entries c.pop.ensures in
    subst (λ (xs : List Entry). IsKept c.args.nodes.now.parts xs c.push.new.self) (sym left)
    (subst (λ (xs : List Measure). IsKept c.args.nodes.now.parts es xs) (sym c.in-Err.ensures.err) c.requires.kept)

pub returns-in-Err-clause-puts : goal.returns-in-Err-clause-puts
returns-in-Err-clause-puts c =
    let es = c.args.nodes.now.entries in
    let e = c.args.entry in
    let t = layer_tree (processes c.args.nodes.now.parts es) (entry_layer c.args.nodes.now.parts e) in
    let unknown : is_member eq_entry es e ≡ false = not-true _ (sym c.in_ok-place.ensures.new ∙ c.if-not-new.false) in
    let entries : c.insert_full.new.self ≡ es ++ e ∷ [] = c.in_ok-place.ensures.list ∙ ap (λ b. if b then es else (es ++ e ∷ [])) unknown in
    let left : c.pop.new.self ≡ es = taken_out c.insert_full.new.self es c.pop.new.self e c.pop.result entries c.pop.ensures in
    subst (λ (xs : List Entry). Puts {E = AllocError} (processes c.args.nodes.now.parts es) (processes c.args.nodes.now.parts xs) (Err (record {})) t) (sym left)
    (puts_none (processes c.args.nodes.now.parts es) t (Err (record {})) refl)

pub returns-in-Err-clause-err_only_new : goal.returns-in-Err-clause-err_only_new
returns-in-Err-clause-err_only_new c =
    puts_unknown c.args.nodes.now.parts c.args.nodes.now.entries c.args.nodes.now.measures c.requires.kept c.args.entry c.requires.fits c.requires.below
    (not-true _ (sym c.in_ok-place.ensures.new ∙ c.if-not-new.false))
