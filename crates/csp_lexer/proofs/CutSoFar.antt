-- How far a text is cut: from the tokens so far and what is left of the text.
use Rattle.csp_lexer.proofs.Prelude.{◌≡◌, ℕ, zero, suc, ◌<◌, ◌≤◌, eqb, false, List, [], ◌∷◌, ◌++◌, length, refl, sym, ap, ◌∙◌, subst, append_assoc, append-nil, arith, Option, Some, None, Result, Ok, Err, Place, Token, added, before, cut, then_cut, Passed, Piece, PlacedTokens, behind_all}

-- the cut of the whole text is these tokens and then the cut of what is left
pub record IsCutSoFar (front : Place → List ℕ → Option Piece) (whole : Result PlacedTokens Place) (placed : List (Token × Place)) (at : Place) (rest : List ℕ) : Type 0 where
  pub pieces : ℕ
  pub enough : length rest ≤ pieces
  pub same : whole ≡ added placed (cut front pieces at rest)

added-added : (ts us : List (Token × Place)) (r : Result PlacedTokens Place) → added ts (added us r) ≡ added (ts ++ us) r
added-added ts us (Ok cut) = λ i. Ok (record { placed = sym (append_assoc ts us cut.placed) i; end = cut.end })
added-added ts us (Err at) = refl

-- the first piece of what is left
cut-piece : (front : Place → List ℕ → Option Piece) (n : ℕ) (at : Place) (rest : List ℕ) (piece : Piece) → front at rest ≡ Some piece → 0 < length rest
    → cut front (suc n) at rest ≡ added piece.placed (cut front n (behind_all at (before rest piece.rest)) piece.rest)
unfolding cut
cut-piece front n at [] piece is has_byte = absurd (omega arith)
cut-piece front n at (b ∷ text) piece is has_byte = ap (λ o. then_cut o at (λ p. cut front n (behind_all at (before (b ∷ text) p.rest)) p.rest)) is

cut-none : (front : Place → List ℕ → Option Piece) (n : ℕ) (at : Place) (rest : List ℕ) → front at rest ≡ None → 0 < length rest → cut front n at rest ≡ Err at
unfolding cut
cut-none front n at [] is has_byte = absurd (omega arith)
cut-none front zero at (b ∷ text) is has_byte = refl
cut-none front (suc n) at (b ∷ text) is has_byte = ap (λ o. then_cut o at (λ p. cut front n (behind_all at (before (b ∷ text) p.rest)) p.rest)) is

cut-nil : (front : Place → List ℕ → Option Piece) (n : ℕ) (at : Place) → cut front n at [] ≡ Ok (record { placed = []; end = at })
unfolding cut
cut-nil front zero at = refl
cut-nil front (suc n) at = refl

module _ (front : Place → List ℕ → Option Piece) (whole : Result PlacedTokens Place) where
  piece_more : (ts : List (Token × Place)) (at : Place) (rest : List ℕ) (piece : Piece) (n : ℕ) → length rest ≤ n → whole ≡ added ts (cut front n at rest)
      → front at rest ≡ Some piece → 0 < length rest → length piece.rest < length rest
      → IsCutSoFar front whole (ts ++ piece.placed) (behind_all at (before rest piece.rest)) piece.rest
  piece_more ts at rest piece zero enough same is has_byte shorter = absurd (omega arith)
  piece_more ts at rest piece (suc n) enough same is has_byte shorter = record {
    pieces = n;
    enough = omega arith;
    same = same ∙ ap (added ts) (cut-piece front n at rest piece is has_byte) ∙ added-added ts piece.placed _;
  }

  -- a piece is passed
  passed_at : (old new : PlacedTokens) (at : Place) (rest left : List ℕ) (o : Option Piece) → front at rest ≡ o → Passed o old new (Some left) → IsCutSoFar front whole old.placed at rest
      → 0 < length rest → length left < length rest
      → IsCutSoFar front whole new.placed (behind_all at (before rest left)) left
  passed_at old new at rest left None is passed so_far has_byte shorter = absurd cc
  passed_at old new at rest left (Some piece) is passed so_far has_byte shorter =
      let left_is : left ≡ piece.rest = cc in
      let shorter' : length piece.rest < length rest = subst (λ l. length l < length rest) left_is shorter in
      let made = piece_more old.placed at rest piece so_far.pieces so_far.enough so_far.same is has_byte shorter' in
      subst (λ l. IsCutSoFar front whole new.placed (behind_all at (before rest l)) l) (sym left_is)
      (subst (λ ts. IsCutSoFar front whole ts (behind_all at (before rest piece.rest)) piece.rest) (sym passed.1) made)

  -- no piece stands there
  none_at : (old new : PlacedTokens) (at : Place) (rest : List ℕ) (o : Option Piece) → front at rest ≡ o → Passed o old new None → IsCutSoFar front whole old.placed at rest
      → 0 < length rest → whole ≡ Err at
  none_at old new at rest None is passed so_far has_byte = so_far.same ∙ ap (added old.placed) (cut-none front so_far.pieces at rest is has_byte)
  none_at old new at rest (Some piece) is passed so_far has_byte = absurd cc

  pub no_piece : (old new : PlacedTokens) (at : Place) (rest : List ℕ) → Passed (front at rest) old new None → IsCutSoFar front whole old.placed at rest
      → 0 < length rest → whole ≡ Err at
  no_piece old new at rest = none_at old new at rest (front at rest) refl

  -- nothing is left
  pub at_end : (ts : List (Token × Place)) (at : Place) (rest : List ℕ) → length rest ≡ 0 → IsCutSoFar front whole ts at rest
      → whole ≡ Ok (record { placed = ts; end = at })
  at_end ts at [] is_end so_far =
      so_far.same ∙ ap (added ts) (cut-nil front so_far.pieces at) ∙ (λ i. Ok (record { placed = append-nil ts i; end = at }))
  at_end ts at (b ∷ rest) is_end so_far = absurd (omega arith)

  -- a piece is passed, and the place behind it is taken from its bytes
  pub piece_passed : (old new : PlacedTokens) (at at' : Place) (rest left : List ℕ) → at' ≡ behind_all at (before rest left) → Passed (front at rest) old new (Some left) → IsCutSoFar front whole old.placed at rest
      → length left < length rest
      → IsCutSoFar front whole new.placed at' left
  piece_passed old new at at' rest left at_is passed so_far shorter =
      subst (λ p. IsCutSoFar front whole new.placed p left) (sym at_is)
      (passed_at old new at rest left (front at rest) refl passed so_far (omega arith) shorter)

-- a text that is not empty has a byte
pub not_empty : (text : List ℕ) → false ≡ eqb (length text) 0 → 0 < length text
not_empty [] is = absurd cc
not_empty (b ∷ text) is = omega arith
