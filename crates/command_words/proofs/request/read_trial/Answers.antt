use Rattle.command_words.proofs.Prelude.{◌≡◌, ◌<◌, ◌≤◌, ℕ, List, Option, None, Some, IfSome, codes, get_or, length, sym, ◌∙◌, bytes_eq-Decides, Asks, IsNamed, Trial}
use Rattle.command_words.specs.declared.request.Request.TheVariants as request
use Rattle.command_words.proofs.Items.{three_words}
use Rattle.command_words.proofs.request.read_trial.Goals as goal

-- three words that ask for a trial
asks : (words : List (List ℕ)) (x y z p q r : List ℕ) (trial : Option Trial) → 3 ≤ length words → length words < 4
    → x ≡ get_or words 0 x → y ≡ get_or words 1 y → z ≡ get_or words 2 z
    → p ≡ x → q ≡ y → r ≡ z → p ≡ codes "trial" → IfSome trial (IsNamed q r) → IfSome trial (λ found. Asks words (request.Trial found))
asks words x y z p q r None low high hx hy hz px qy rz pa named = tt
asks words x y z p q r (Some trial) low high hx hy hz px qy rz pa named = record {
  within = (named.least_size, named.greatest_size);
  are = three_words words x y z p q r _ _ _ low high hx hy hz px qy rz pa named.family named.size;
}

pub returns-in-len3-clause-asks : goal.returns-in-len3-clause-asks
returns-in-len3-clause-asks c =
    asks _ _ _ _ _ _ _ c.trial_named.result c.in-len3.len_at_least c.in-len3.len_below c.trial-item.is c.family-item.is c.size-item.is
    c.as_slice.ensures c.as_slice-in-len3.ensures c.as_slice-in-len3-2.ensures ((bytes_eq-Decides _ _).0 (sym c.eq.ensures ∙ c.if-eq.true))
    c.trial_named.ensures.named
