-- Four components in a row are cyclic, and the ranking by the places of their three links is the one by longest chains.
use Rattle.design_rules.proofs.Prelude.{◌≡◌, ℕ, zero, suc, ◌%◌, ◌<◌, List, [], ◌∷◌, refl, arith, IsWellFormed, Walk, place_after, by_tables, KeepsOrder, IsNumberedCyclic, MustPrecede, NumbersRise, IsCyclic, ComesAfter, AreChainNumbers, row_of_three, row_ranking, RowIsCyclic}
use Rattle.design_rules.proofs.Walks.{walk_bound}
use Rattle.design_rules.proofs.FormCheck.{well_formed}
use Rattle.design_rules.proofs.CyclicCheck.{keeps_order, full_ends, cyclic_ranks}
use Rattle.design_rules.proofs.CyclicRule.{complete, numbered_rise}

-- each event leads to the link in its place, and a component's second node is reached by its first event
abbrev runs : ℕ → ℕ → List ℕ
runs (suc zero) (suc n) = 0 ∷ []
runs (suc (suc i)) (suc n) = 1 ∷ []
runs i n = []

abbrev link_of : ℕ → ℕ → ℕ
link_of i j = i

-- every node is the one of its place
abbrev told : ℕ → ℕ → ℕ
told i n = n

row_form : IsWellFormed row_of_three
row_form = (well_formed row_of_three runs link_of).shows refl

row_order : KeepsOrder row_of_three (by_tables row_of_three) (λ l. l)
row_order = (keeps_order row_of_three (λ l. l) told).shows refl

abbrev row_numbered : IsNumberedCyclic row_of_three (by_tables row_of_three)
row_numbered = record { number = λ l. l; differ = λ i l m _ _ _ _ ne same. ne same; order = row_order; full = (full_ends row_of_three (λ l. l) told).shows refl }

row_rule : IsCyclic row_of_three
row_rule = complete row_of_three row_form row_numbered

-- the second link of a component is never the first one that it comes to
not_first : (c : ℕ) → 1 ≡ c % 2 → 0 < c
not_first c h = omega arith

-- the component between two links comes to the first one first
before : (l : ℕ) → l < 2 → MustPrecede row_of_three l (suc l)
before zero h = record {
  part = 1;
  run = [];
  event = 0;
  reaches = record { possible = record { runs = record { part = omega arith; follows = refl }; next = refl }; on = record { within = omega arith; end = refl; event = refl } };
  within = omega arith;
  end = refl;
  later = λ s e r. not_first (place_after row_of_three s) (row_order 1 1 s e r.possible r.on);
}
before (suc zero) h = record {
  part = 2;
  run = [];
  event = 1;
  reaches = record { possible = record { runs = record { part = omega arith; follows = refl }; next = refl }; on = record { within = omega arith; end = refl; event = refl } };
  within = omega arith;
  end = refl;
  later = λ s e r. not_first (place_after row_of_three s) (row_order 2 2 s e r.possible r.on);
}
before (suc (suc l)) h = absurd (omega arith)

chain : (l : ℕ) → l < 3 → Walk (ComesAfter row_of_three) l l 0
chain zero h = refl
chain (suc l) h = (l, before l (omega arith), chain l (omega arith))

number_rise : NumbersRise row_of_three (λ l. l)
number_rise = numbered_rise row_of_three row_form row_numbered

row_numbers : AreChainNumbers row_of_three (λ l. l)
row_numbers l h = record { end = 0; attained = chain l h; most = λ n y w. walk_bound (ComesAfter row_of_three) (λ x. x) (λ x y a. number_rise y x a) n l y w }

pub row_is_cyclic : RowIsCyclic
row_is_cyclic = record {
  form = row_form;
  rule = row_rule;
  ranking = record { number = λ l. l; numbers = row_numbers; ranks = (cyclic_ranks row_of_three (λ l. l) row_ranking).shows refl };
}
