-- A network's tree as a list that gives it back: its nodes, each after its parts. (For the types of the stages alone: contracts see these with trees.)
use Rattle.std.specs.Prelude.{◌≡◌, ◌⊎◌, ℕ, List, [], ◌∷◌, Bool, true, false, refl}
use Rattle.std.proofs.Common.{◌∙◌, inl, inr}
use Rattle.std.specs.Coded.{Coded, code_by, coded_bool, coded_list, coded_ℕ, coded×, coded⊎}
use Rattle.csp_tables.specs.Prelude.{Operands, Tree, none, operand, leaf, parallel}

-- a leaf; an operand with its alphabet; no operands (true), or operands side by side (false)
abbrev pub Token : Type 0 → Type 0
Token T = (List ℕ × T) ⊎ (List ℕ ⊎ Bool)

-- the tokens of a tree, and then others
abbrev mutual
  pub spell_tree : {T : Type 0} → Tree T → List (Token T) → List (Token T)
  spell_tree (leaf c) rest = inl (c.alphabet, c.term) ∷ rest
  spell_tree (parallel os) rest = spell_operands os (inr (inr false) ∷ rest)

  pub spell_operands : {T : Type 0} → Operands T → List (Token T) → List (Token T)
  spell_operands none rest = inr (inr true) ∷ rest
  spell_operands (operand a t os) rest = spell_tree t (spell_operands os (inr (inl a) ∷ rest))

-- the tree of tokens, after these trees and operands are read
abbrev pub read_tokens : {T : Type 0} → List (Token T) → List (Tree T) → List (Operands T) → Tree T
read_tokens [] [] oss = parallel none
read_tokens [] (t ∷ ts) oss = t
read_tokens (inl c ∷ rest) ts oss = read_tokens rest (leaf (record { alphabet = c.0; term = c.1 }) ∷ ts) oss
read_tokens (inr (inl a) ∷ rest) [] oss = parallel none
read_tokens (inr (inl a) ∷ rest) (t ∷ ts) [] = parallel none
read_tokens (inr (inl a) ∷ rest) (t ∷ ts) (os ∷ oss) = read_tokens rest ts (operand a t os ∷ oss)
read_tokens (inr (inr true) ∷ rest) ts oss = read_tokens rest ts (none ∷ oss)
read_tokens (inr (inr false) ∷ rest) ts [] = parallel none
read_tokens (inr (inr false) ∷ rest) ts (os ∷ oss) = read_tokens rest (parallel os ∷ ts) oss

abbrev mutual
  pub tree_read : {T : Type 0} (t : Tree T) (rest : List (Token T)) (ts : List (Tree T)) (oss : List (Operands T)) → read_tokens (spell_tree t rest) ts oss ≡ read_tokens rest (t ∷ ts) oss
  tree_read (leaf c) rest ts oss = refl
  tree_read (parallel os) rest ts oss = operands_read os (inr (inr false) ∷ rest) ts oss

  pub operands_read : {T : Type 0} (os : Operands T) (rest : List (Token T)) (ts : List (Tree T)) (oss : List (Operands T)) → read_tokens (spell_operands os rest) ts oss ≡ read_tokens rest ts (os ∷ oss)
  operands_read none rest ts oss = refl
  operands_read (operand a t os) rest ts oss = tree_read t (spell_operands os (inr (inl a) ∷ rest)) ts oss ∙ operands_read os (inr (inl a) ∷ rest) (t ∷ ts) oss

-- a tree is stored as its tokens
abbrev pub tree_code : {T : Type 0} → Coded T → Coded (Tree T)
tree_code {T} code =
    code_by (List (Token T)) (coded_list (coded⊎ (coded× (coded_list coded_ℕ) code) (coded⊎ (coded_list coded_ℕ) coded_bool)))
    (λ t. spell_tree t []) (λ tokens. read_tokens tokens [] []) (λ t. tree_read t [] [] [])
