-- The texts that loads handed over are held from the beginning, and over texts that never fail nothing more is known of a load.
use Rattle.dl_top.proofs.Prelude.{◌≡◌, ℕ, List, [], ◌∷◌, Option, Some, IfSome, subst, ◌∙◌, NamedText, Request, text_of, Handed, HaveGiven, Kept}
use Rattle.dl_outside.specs.Texts.{IsTextOf}
use Rattle.dl_top.specs.Kept.{AreHeld, HandedTextsAreHeld}

module _ {S : Type 0} (texts : S → Option (List NamedText)) (gives : S → S → List ℕ → List ℕ → Type 0) where
  pub held_before : HandedTextsAreHeld texts gives
  held_before held old new [] [] told loads = tt
  held_before held old new [] (t ∷ ts) told loads = absurd loads
  held_before held old new (n ∷ ns) [] told loads = absurd loads
  held_before held old new (n ∷ ns) (t ∷ ts) told (between, handed, rest) =
      (subst (λ (o : Option (List NamedText)). IfSome o (λ h. text_of h n ≡ Some t)) told handed.2, held_before held between new ns ts (handed.1 ∙ told) rest)

-- ---- a shelf without faults, which states of a load that the text is held under the name

loads_by_text : (old new : List NamedText) (names given : List (List ℕ)) → HaveGiven (Handed Some IsTextOf) old new names given → HaveGiven IsTextOf old new names given
loads_by_text old new [] [] loads = loads
loads_by_text old new [] (t ∷ ts) loads = absurd loads
loads_by_text old new (n ∷ ns) [] loads = absurd loads
loads_by_text old new (n ∷ ns) (t ∷ ts) (between, handed, rest) = (between, handed.0, loads_by_text between new ns ts rest)

pub kept_by_text : (Promise : Request → List (List ℕ) → List ℕ → Type 0) (old new : List NamedText) (words : List (List ℕ)) (sent_before sent_after : Option (List ℕ))
    → Kept Promise (Handed Some IsTextOf) old new words sent_before sent_after → Kept Promise IsTextOf old new words sent_before sent_after
kept_by_text Promise old new words sent_before sent_after kept = record {
  request = kept.request;
  asked = kept.asked;
  texts = kept.texts;
  given = loads_by_text old new _ kept.texts kept.given;
  report = kept.report;
  promise = kept.promise;
  printed = kept.printed;
}
