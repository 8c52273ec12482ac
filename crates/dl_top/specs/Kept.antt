-- What a call did that keeps its promise: what the words asked for, the texts that the shelf handed over for it, and what was sent.
use Rattle.std.specs.Prelude.{◌≡◌, ℕ, List, [], ◌∷◌, ◌++◌, Option, Some, IfSome}
use Rattle.command_words.specs.Prelude.{Asks, names, trial_of}
use Rattle.command_words.specs.declared.request.Request.{Request}
use Rattle.dl_outside.specs.Texts.{text_of}
use Rattle.dl_outside.specs.Write.{GrowsBy}
use Rattle.dl_outside.specs.declared.texts.NamedText.{NamedText}
use Rattle.dl_top.specs.Reply.{heading_text}

-- A load of this name handed over this text: what the shelf itself states of the load (`gives`) holds, its texts stay as they were, and where it reports its
-- texts, this is the one that it holds under the name.
abbrev pub Handed : {S : Type 0} → (S → Option (List NamedText)) → (S → S → List ℕ → List ℕ → Type 0) → S → S → List ℕ → List ℕ → Type 0
Handed texts gives old new name text = gives old new name text × (texts new ≡ texts old) × IfSome (texts old) (λ held. text_of held name ≡ Some text)

-- Loads of these names, one after another, gave these texts: `Gave` is what is known of one load, with the shelf before it and after it.
abbrev pub HaveGiven : {S : Type 0} → (S → S → List ℕ → List ℕ → Type 0) → S → S → List (List ℕ) → List (List ℕ) → Type 0
HaveGiven Gave old new [] [] = new ≡ old
HaveGiven {S} Gave old new (name ∷ names) (text ∷ texts) = (between : S) × Gave old between name text × HaveGiven Gave between new names texts
HaveGiven Gave old new _ _ = ⊥

-- These texts are held under these names.
abbrev pub AreHeld : List NamedText → List (List ℕ) → List (List ℕ) → Type 0
AreHeld held [] [] = Unit {0}
AreHeld held (name ∷ names) (text ∷ texts) = (text_of held name ≡ Some text) × AreHeld held names texts
AreHeld held _ _ = ⊥

-- Where a shelf reports its texts, those that its loads handed over are the ones that it held under their names before the first load.
abbrev pub HandedTextsAreHeld : {S : Type 0} → (S → Option (List NamedText)) → (S → S → List ℕ → List ℕ → Type 0) → Type 0
HandedTextsAreHeld {S} texts gives =
    (held : List NamedText) (old new : S) (names handed : List (List ℕ)) → texts old ≡ Some held → HaveGiven (Handed texts gives) old new names handed → AreHeld held names handed

-- The words ask for this request, and the loads of its texts gave these. The sink, where it tells, grew by exactly the report, which keeps the promise.
pub record Kept {S : Type 0} (Promise : Request → List (List ℕ) → List ℕ → Type 0) (gives : S → S → List ℕ → List ℕ → Type 0) (old new : S) (words : List (List ℕ)) (sent_before sent_after : Option (List ℕ)) : Type 0 where
  pub request : Request
  pub asked : Asks words request
  pub texts : List (List ℕ)
  pub given : HaveGiven gives old new (names request) texts
  pub report : List ℕ
  pub promise : Promise request texts report
  pub printed : GrowsBy sent_before sent_after (heading_text (trial_of request) ++ report)
