-- Texts that are cut into these tokens, wherever they begin.
use Rattle.csp_lexer.proofs.Prelude.{◌≡◌, ℕ, zero, suc, ◌≤◌, ◌<◌, List, [], ◌∷◌, ◌++◌, length, refl, ap, ◌∙◌, arith, map-append, Option, Some, Result, Ok, Place, Token, added, before, cut, then_cut, Piece, PlacedTokens, tokens_of, behind_all}

-- the cut gives these tokens
pub record IsCut (result : Result PlacedTokens Place) (tokens : List Token) : Type 0 where
  pub found : PlacedTokens
  pub is : result ≡ Ok found
  pub same : tokens_of found.placed ≡ tokens

-- the text is cut into these tokens
pub record Cuts (front : Place → List ℕ → Option Piece) (text : List ℕ) (tokens : List Token) : Type 0 where
  pub cuts : (n : ℕ) (at : Place) → length text ≤ n → IsCut (cut front n at text) tokens

-- a piece with its place
pub record IsPiece (result : Option Piece) (tokens : List Token) (rest : List ℕ) : Type 0 where
  pub piece : Piece
  pub is : result ≡ Some piece
  pub tokens_are : tokens_of piece.placed ≡ tokens
  pub rest_is : piece.rest ≡ rest

-- a piece of these tokens stands at the front of the text
pub record Stands (front : Place → List ℕ → Option Piece) (text : List ℕ) (tokens : List Token) (rest : List ℕ) : Type 0 where
  pub stands : (at : Place) → IsPiece (front at text) tokens rest
  pub shorter : length rest < length text

added_is : (ts us : List Token) (piece : Piece) (result : Result PlacedTokens Place) → tokens_of piece.placed ≡ ts → IsCut result us → IsCut (added piece.placed result) (ts ++ us)
added_is ts us piece result e c = record {
  found = record { placed = piece.placed ++ c.found.placed; end = c.found.end };
  is = ap (added piece.placed) c.is;
  same = map-append (λ p. p.0) piece.placed c.found.placed ∙ (λ i. e i ++ c.same i);
}

cut_step : (front : Place → List ℕ → Option Piece) (text rest : List ℕ) (ts us : List Token) → Stands front text ts rest → Cuts front rest us →
    (n : ℕ) (at : Place) → length text ≤ n → IsCut (cut front n at text) (ts ++ us)
unfolding cut
cut_step front [] rest ts us s c n at h = absurd (omega (arith, s.shorter))
cut_step front (b ∷ text) rest ts us s c zero at h = absurd (omega arith)
cut_step front (b ∷ text) rest ts us s c (suc n) at h =
    let p = s.stands at in
    let at' : Place = behind_all at (before (b ∷ text) p.piece.rest) in
    let short = s.shorter in
    let more : IsCut (cut front n at' rest) us = c.cuts n at' (omega (arith, short)) in
    let made = added_is ts us p.piece (cut front n at' rest) p.tokens_are more in
    record {
      found = made.found;
      is =
          ap (λ o. then_cut o at (λ piece. cut front n (behind_all at (before (b ∷ text) piece.rest)) piece.rest)) p.is
          ∙ ap (λ r. added p.piece.placed (cut front n at' r)) p.rest_is ∙ made.is;
      same = made.same;
    }

-- the piece at the front and then the rest
pub cuts_more : {front : Place → List ℕ → Option Piece} {text rest : List ℕ} {ts us : List Token} → Stands front text ts rest → Cuts front rest us → Cuts front text (ts ++ us)
cuts_more {front} {text} {rest} {ts} {us} s c = record { cuts = cut_step front text rest ts us s c }

nothing_cut : (front : Place → List ℕ → Option Piece) (n : ℕ) (at : Place) → IsCut (cut front n at []) []
unfolding cut
nothing_cut front zero at = record { found = record { placed = []; end = at }; is = refl; same = refl }
nothing_cut front (suc n) at = record { found = record { placed = []; end = at }; is = refl; same = refl }

pub cuts_nothing : (front : Place → List ℕ → Option Piece) → Cuts front [] []
cuts_nothing front = record { cuts = λ n at h. nothing_cut front n at }
