-- As what contracts see the stages of a walk: a network with what is there now. (For the types of the stages alone.)
use Rattle.std.specs.Prelude.{ℕ, List}
use Rattle.csp_program.specs.declared.processes.Proc.{Proc}
use Rattle.csp_program.specs.declared.programs.Content.{Content}
use Rattle.csp_tables.specs.Prelude.{Component, Part, Shape}
use Rattle.network_stages.specs.declared.component_tables.ComponentTable.{ComponentTable}
use Rattle.network_stages.specs.Networks.{Network}

-- the tables of its components
pub record TabledNetwork : Type 0 where
  pub network : Network
  pub tables : List ComponentTable

-- their parts: their alphabets with their normal tables
pub record PartedNetwork : Type 0 where
  pub network : Network
  pub parts : List Part

-- the shape that the parts make
pub record ShapedNetwork : Type 0 where
  pub network : Network
  pub shape : Shape

-- one component of a program, with its number
pub record ChosenComponent : Type 0 where
  pub program : Content
  pub number : ℕ
  pub component : Component Proc
