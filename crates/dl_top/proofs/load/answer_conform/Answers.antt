use Rattle.dl_top.proofs.Prelude.{List, [], ◌∷◌, inr, refl, subst, ℕ, IsLoad, Loaded, TextsCallFor, TextsCompare}
use Rattle.command_words.specs.declared.request.Request.TheVariants as request
use Rattle.report.specs.declared.answer.Side.TheVariants as side
use Rattle.dl_top.proofs.Loading.{at_load, at_second}
use Rattle.dl_top.proofs.Walks.{at_short}
use Rattle.dl_top.proofs.load.answer_conform.Goals as goal

pub returns-in_err-text-clause-calls : goal.returns-in_err-text-clause-calls
returns-in_err-text-clause-calls g c =
    let shelf = g.S.Shelf in
    at_load (IsLoad shelf.texts shelf.counts shelf.gives) side.Script c.args.shelf.now c.load.new.shelf c.args.script.now (c.args.specification.now ∷ [])
    (TextsCallFor (request.Conform c.args.script.now c.args.specification.now)) c.from_residual.result _ c.from_residual.ensures.1 c.in_err-text.ensures.told

pub returns-in_err-other-clause-calls : goal.returns-in_err-other-clause-calls
returns-in_err-other-clause-calls g c =
    let shelf = g.S.Shelf in
    at_second (IsLoad shelf.texts shelf.counts shelf.gives) c.args.shelf.now c.load.new.shelf c.load-2.new.shelf c.args.script.now c.args.specification.now c.in_ok-text.text
    (TextsCallFor (request.Conform c.args.script.now c.args.specification.now)) c.from_residual-in_err-other.result _ c.in_ok-text.ensures.ok c.from_residual-in_err-other.ensures.1 c.in_err-other.ensures.told

pub returns-in_err-answer-clause-calls : goal.returns-in_err-answer-clause-calls
returns-in_err-answer-clause-calls g c =
    let shelf = g.S.Shelf in
    at_short (Loaded (IsLoad shelf.texts shelf.counts shelf.gives) side.Script c.args.shelf.now c.load-2.new.shelf (c.args.script.now ∷ c.args.specification.now ∷ [])
    (TextsCallFor (request.Conform c.args.script.now c.args.specification.now))) c.from_residual-in_err-answer.result c.from_residual-in_err-answer.ensures.1

pub returns-clause-calls : goal.returns-clause-calls
returns-clause-calls g c =
    let first = subst (λ (t : List ℕ). TextsCompare t c.as_slice-2.result.now c.in_ok-answer.answer) c.as_slice.ensures c.in_ok-answer.ensures.answer in
    let both = subst (λ (t : List ℕ). TextsCompare c.in_ok-text.text t c.in_ok-answer.answer) c.as_slice-2.ensures first in
    inr (c.in_ok-text.text, c.load.new.shelf, c.in_ok-text.ensures.ok, inr (c.in_ok-other.other, c.load-2.new.shelf, c.in_ok-other.ensures.ok, (refl, both)))
