use Rattle.dl_top.proofs.Prelude.{◌≡◌, ◌≢◌, ℕ, refl, sym, ◌∙◌, arith, HasRisen, IsFree, IsStuckRun, Promised}
use Rattle.dl_top.proofs.Held.{kept_by_text}
use Rattle.dl_top.proofs.Loading.{held_not_four, quiet_gives}
use Rattle.dl_top.proofs.Printing.{ends_weaker}
use Rattle.dl_top.proofs.sure.dl_sure.Goals as goal

-- a count that stays 0 hasn't risen
quiet : ¬ HasRisen 0 0
quiet risen = absurd (omega arith)

not_five : (n : ℕ) → n ≡ 4 → n ≢ 5
not_five n four five = absurd (omega arith)

pub returns-clause-proved : goal.returns-clause-proved
returns-clause-proved c asks zero = kept_by_text IsFree _ _ _ _ _ (c.dl_main.ensures.proved asks zero)

pub returns-clause-tried : goal.returns-clause-tried
returns-clause-tried c asks zero = kept_by_text IsFree _ _ _ _ _ (c.dl_main.ensures.tried asks zero)

pub returns-clause-promised : goal.returns-clause-promised
returns-clause-promised c zero = kept_by_text Promised _ _ _ _ _ (c.dl_main.ensures.promised zero)

pub returns-clause-stuck : goal.returns-clause-stuck
returns-clause-stuck c asks one = kept_by_text IsStuckRun _ _ _ _ _ (c.dl_main.ensures.stuck asks one)

pub returns-clause-ends : goal.returns-clause-ends
returns-clause-ends c =
    ends_weaker _ _ (λ reply. quiet_gives _ _ _ c.args.shelf.now c.args.words.now c.args.shelf.now c.dl_main.new.shelf reply refl quiet) _ c.dl_main.result c.dl_main.ensures.ends

pub returns-clause-shelf_fault : goal.returns-clause-shelf_fault
returns-clause-shelf_fault c four =
    let ended = c.dl_main.ensures.shelf_fault four quiet in
    (ended.0, ended.1, quiet_gives _ _ _ c.args.shelf.now c.args.words.now c.args.shelf.now c.dl_main.new.shelf ended.0 refl quiet ended.2, ended.3)

pub returns-clause-held : goal.returns-clause-held
returns-clause-held c held four =
    let settled = c.dl_main.ensures.settled (not_five _ four) quiet quiet in
    held_not_four _ _ settled.0 held settled.1 (sym settled.3 ∙ four)
