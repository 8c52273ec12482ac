use Rattle.std.proofs.Common.{◌≡◌, List, [], ◌∷◌, ◌++◌, Some, None, sym, subst}
use Rattle.std.specs.List.{position}
use Rattle.std.proofs.lemmas.Result.{on_ok_weaker}
use Rattle.dl_outside.specs.Prelude.{has_name, PutsText, NamedText}
use Rattle.dl_outside.proofs.TextsLemmas.{PutsText-set, PutsText-append}
use Rattle.dl_outside.proofs.texts.put_text.Goals as goal

pub returns-in-Some-clause-ok : goal.returns-in-Some-clause-ok
returns-in-Some-clause-ok c =
    let found : Some c.in-Some.place ≡ position (has_name c.args.name.now) c.args.texts.now.items = cc in
    rw (← c.in_ok-text.ensures)
    (PutsText-set c.args.texts.now.items c.args.name.now c.in_ok-text.text c.in-Some.place c.index_mut-held.result.now found c.index_mut-held.ensures.value)

pub returns-in-None-clause-ok : goal.returns-in-None-clause-ok
returns-in-None-clause-ok c =
    let absent : None ≡ position (has_name c.args.name.now) c.args.texts.now.items = cc in
    let old = c.args.texts.now.items in
    let name = c.args.name.now in
    let puts = subst (PutsText old (old ++ record { name = name; text = c.in_ok-text.text } ∷ []) name) c.in_ok-text.ensures (PutsText-append old name c.in_ok-text.text absent) in
    on_ok_weaker c.add_text.result (λ added. subst (λ (new : List NamedText). PutsText old new name c.args.text.now) (sym added) puts) c.add_text.ensures.ok
