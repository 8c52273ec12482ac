-- Options of components that are given by their tables: an option is what leads to a state.
use Rattle.network_walks.proofs.Prelude.{◌≡◌, ℕ, inl, inr, IsTrue, MatchBool, List, [], ◌∷◌, set, refl, MatchBool-at_true, cases_Bool, has, visible, RawStep, match_false, match_true, AllCan, AllDo, Can, Numbered, Move}
use Rattle.numbered_walks.specs.Prelude.{Has, Takes}
use Rattle.numbered_walks.specs.declared.moves.Move.TheVariants as move

-- one component does the event that it can do, or stays
one_does : (e : ℕ) (c : Numbered) (x : ℕ) → (IsTrue (has c.alphabet e) → Can (visible e) c x) → (y : ℕ) × MatchBool (has c.alphabet e) (RawStep c.table x (visible e) y) (x ≡ y)
one_does e c x can = elim (cases_Bool (has c.alphabet e)) [
  | inl owned ↦ ((can owned).0, match_true (has c.alphabet e) _ _ owned (can owned).1)
  | inr other ↦ (x, match_false (has c.alphabet e) _ _ other refl)
]

all_do : (e : ℕ) (cs : List Numbered) (xs : List ℕ) → AllCan e cs xs → (ys : List ℕ) × AllDo e cs xs ys
all_do e [] [] can = ([], tt)
all_do e [] (x ∷ xs) can = absurd can
all_do e (c ∷ cs) [] can = absurd can
all_do e (c ∷ cs) (x ∷ xs) can =
    let one = one_does e c x can.0 in
    let rest = all_do e cs xs can.1 in
    (one.0 ∷ rest.0, (one.1, rest.1))

all_can : (e : ℕ) (cs : List Numbered) (xs ys : List ℕ) → AllDo e cs xs ys → AllCan e cs xs
all_can e [] [] [] does = tt
all_can e (c ∷ cs) (x ∷ xs) (y ∷ ys) does = (λ owned. (y, MatchBool-at_true _ _ owned does.0), all_can e cs xs ys does.1)
all_can e _ _ _ does = absurd does

pub leads : (cs : List Numbered) (xs : List ℕ) (m : Move) → Has cs xs m → (ys : List ℕ) × Takes cs xs m ys
leads cs xs (move.Silent i) can = (
  set xs i can.can.0,
  record {
    component = can.component;
    there = can.there;
    term = can.term;
    at = can.at;
    next = can.can.0;
    step = can.can.1;
    others = refl;
  },
)
leads cs xs (move.Event e) can = let r = all_do e cs xs can.1 in (r.0, (can.0, r.1))

pub led : (cs : List Numbered) (xs : List ℕ) (m : Move) (ys : List ℕ) → Takes cs xs m ys → Has cs xs m
led cs xs (move.Silent i) ys does = record { component = does.component; there = does.there; term = does.term; at = does.at; can = (does.next, does.step) }
led cs xs (move.Event e) ys does = (does.0, all_can e cs xs ys does.1)
