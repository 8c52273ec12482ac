-- The order in which a part first comes to the links that it reaches. (No rule's decider cites this.)
use Rattle.std.specs.Prelude.{◌≡◌, ◌<◌, ℕ, List, [], Some, length, slice_get, slice_index_or}
use Rattle.csp_tables.specs.Shape.{Shape}
use Rattle.design_rules.specs.Cyclic.{IsReachedAt, links_of}

-- in the first lap the part reaches exactly these links, each at its place of the list
pub record IsOrder (shape : Shape) (i : ℕ) (order : List ℕ) : Type 0 where
  pub listed : (q l : ℕ) → slice_get order q ≡ Some l → (q < links_of shape i) × IsReachedAt shape i q l
  pub all : (q l : ℕ) → q < links_of shape i → IsReachedAt shape i q l → slice_get order q ≡ Some l

abbrev pub order_at : List (List ℕ) → ℕ → List ℕ
order_at orders i = slice_index_or orders i []

pub record AreOrders (shape : Shape) (orders : List (List ℕ)) : Type 0 where
  pub count : length orders ≡ length shape.parts
  pub each : (i : ℕ) → i < length shape.parts → IsOrder shape i (order_at orders i)
