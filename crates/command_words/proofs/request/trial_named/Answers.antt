use Rattle.command_words.proofs.Prelude.{◌≡◌, ◌<◌, ◌≤◌, ℕ, List, Option, None, Some, IfNone, sym, subst, ◌∙◌, arith, decimal, family_name, greatest, least, Family, IsNamed, Trial}
use Rattle.command_words.proofs.AskOnce.{few}
use Rattle.command_words.proofs.Digits.{same_number}
use Rattle.command_words.proofs.Names.{same_family}
use Rattle.command_words.proofs.request.trial_named.Goals as goal

-- a family that hasn't the size
unnamed : (name number : List ℕ) (f : Family) (n : ℕ) (found : Option Trial) → name ≡ family_name f → n < 1000000 → number ≡ decimal n
    → IfNone found (least f ≤ n → n ≤ greatest f → ⊥) → IfNone found ((trial : Trial) → IsNamed name number trial → ⊥)
unnamed name number f n (Some trial) is small num none = tt
unnamed name number f n None is small num none = λ trial named.
    let family = same_family trial.family f (sym named.family ∙ is) in
    let most = few trial.family in
    let size = same_number trial.size n (let top = named.greatest_size in omega arith) small (sym named.size ∙ num) in
    none (subst (λ m. least f ≤ m) size (subst (λ (g : Family). least g ≤ trial.size) family named.least_size))
    (subst (λ m. m ≤ greatest f) size (subst (λ (g : Family). trial.size ≤ greatest g) family named.greatest_size))

pub returns-clause-none : goal.returns-clause-none
returns-clause-none c =
    unnamed _ _ c.in-Some.family c.in-Some-spelled_number.size c.trial_of.result c.in-Some.ensures.named c.in-Some-spelled_number.ensures.number.0
    c.in-Some-spelled_number.ensures.number.1 c.trial_of.ensures.none
