-- What declarations put into a program while its channels have no field sets, and the field sets of its channels: one rule for each declaration.
-- `Declares n decls p sets` says that these declarations put p into the program, and that its channels have these field sets. Channels, constants
-- and definitions were declared before them as often as n says. `whole` is what all declarations put into the program: in it types are evaluated
-- and uses expanded. `HasSets types sets` says which field sets a channel of these types has.
-- A rule holds for all that its letters in braces can stand for: of what type each is, its places in the rule say.
use Rattle.std.specs.Prelude.{◌≡◌, ◌∷◌, ◌++◌}
use Rattle.script_names.specs.Sources.{ℕ, Bool, Some, None, List, [], length, map, replicate, slice_get, Atom, EachOnce, StandsIn, Decl, Tree, Expr, Net, Proc, Channel, Content, Kind, Body, Class, Entity}
use Rattle.csp_text.specs.declared.token.ResourceNames.{ResourceNames}
use Rattle.csp_text.specs.declared.token.RolesNames.{RolesNames}
use Rattle.csp_program.specs.declared.networks.Net.TheVariants as net
use Rattle.csp_program.specs.declared.processes.Proc.TheVariants as proc
use Rattle.script_names.specs.DataDepth.{IsShallow}
use Rattle.script_names.specs.Names.{Name, Meanings, Counts, counted}
use Rattle.script_names.specs.Scopes.{numbers_from, parameters}
use Rattle.script_names.specs.Typing.{AreExprs, IsData, IsExpr, IsNet, IsNetwork, IsProc, IsProcess, MayBind}

abbrev pub nothing_yet : Content
nothing_yet = record { events = []; channels = []; consts = []; defs = []; roles = []; resources = []; root = net.Leaf proc.Stop }

-- channels of these types, before their field sets are known
abbrev pub channels_of_types : List Name → List Expr → List Channel
channels_of_types xs types = map (λ x. record { name = x; types = types; fields = None; first = 0 }) xs

module _ (meanings : Meanings) (kinds : List Kind) where
  -- the names of parameters: distinct, and none is a constant
  pub record AreParameters (xs : List Name) : Type 0 where
    pub once : EachOnce xs
    pub free : (x : Name) → StandsIn xs x → MayBind meanings kinds x

  -- the process that an annotation names is the definition with the number d, with so many parameters
  pub record IsAnnotated (x : Name) (d params : ℕ) : Type 0 where
    pub means : meanings x ≡ Some (Entity.Definition d params)
    pub network : Bool
    pub process : slice_get kinds d ≡ Some (record { class = Class.Process; network = network })

  -- a set that an annotation names is the definition with the number d, with the parameters of the process
  pub record IsEventSet (x : Name) (d params : ℕ) : Type 0 where
    pub means : meanings x ≡ Some (Entity.Definition d params)
    pub set : IsData meanings kinds d

module _ (meanings : Meanings) (kinds : List Kind) (whole : Content) (HasSets : List Expr → List (List Atom) → Type 0) where
  pub data Declares : Counts → List Decl → Content → List (List (List Atom)) → Type 0 where
    nothing : {n : Counts} → Declares n [] nothing_yet []
    channels : {n : Counts} {m xs types es sets decls p all : _} → AreExprs meanings kinds [] 0 types es m → HasSets es sets →
        Declares (counted n (Decl.Channel xs types)) decls p all →
        Declares n (Decl.Channel xs types ∷ decls) (record p { channels = channels_of_types xs es ++ p.channels }) (replicate (length xs) sets ++ all)
    datatype : {n : Counts} {x cs decls p all : _} → Declares (counted n (Decl.Datatype x cs)) decls p all →
        Declares n (Decl.Datatype x cs ∷ decls) (record p {
          consts = cs ++ p.consts;
          defs = record { name = x; params = []; body = Body.Datatype (numbers_from n.constants (length cs)) } ∷ p.defs;
        }) all
    nametype : {n : Counts} {m x t e decls p all : _} → IsExpr meanings kinds [] 0 t e m → IsShallow whole n.definitions →
        Declares (counted n (Decl.Nametype x t)) decls p all →
        Declares n (Decl.Nametype x t ∷ decls) (record p { defs = record { name = x; params = []; body = Body.Nametype e } ∷ p.defs }) all
    data_definition : {n : Counts} {m x params t e decls p all : _} → AreParameters meanings kinds params → IsData meanings kinds n.definitions →
        IsExpr meanings kinds (parameters 0 params) (length params) t e m → IsShallow whole n.definitions →
        Declares (counted n (Decl.Define x params t)) decls p all → Declares n (Decl.Define x params t ∷ decls)
        (record p { defs = record { name = x; params = numbers_from 0 (length params); body = Body.Datum e } ∷ p.defs }) all
    process_definition : {n : Counts} {m x params t q decls p all : _} → AreParameters meanings kinds params →
        IsProcess meanings kinds n.definitions → IsProc meanings kinds (parameters 0 params) (length params) t q m →
        Declares (counted n (Decl.Define x params t)) decls p all → Declares n (Decl.Define x params t ∷ decls)
        (record p { defs = record { name = x; params = numbers_from 0 (length params); body = Body.Process q } ∷ p.defs }) all
    network_definition : {n : Counts} {m x params t w decls p all : _} → AreParameters meanings kinds params →
        IsNetwork meanings kinds n.definitions → IsNet meanings kinds (parameters 0 params) (length params) t w m →
        Declares (counted n (Decl.Define x params t)) decls p all → Declares n (Decl.Define x params t ∷ decls)
        (record p { defs = record { name = x; params = numbers_from 0 (length params); body = Body.Network w } ∷ p.defs }) all
    -- the first assertion is the root: it is put in after those that follow
    assertion : {n : Counts} {m t w decls p all : _} → IsNet meanings kinds [] 0 t w m → Declares n decls p all →
        Declares n (Decl.Assert t ∷ decls) (record p { root = w }) all
    roles : {n : Counts} {names : RolesNames} {d a b c e k decls p all : _} → IsAnnotated meanings kinds names.process d k →
        IsEventSet meanings kinds names.creq a k → IsEventSet meanings kinds names.cack b k → IsEventSet meanings kinds names.sreq c k →
        IsEventSet meanings kinds names.sack e k → Declares n decls p all →
        Declares n (Decl.Roles names ∷ decls) (record p { roles = record { process = d; creq = a; cack = b; sreq = c; sack = e } ∷ p.roles }) all
    resource : {n : Counts} {names : ResourceNames} {d a b k decls p all : _} → IsAnnotated meanings kinds names.process d k →
        IsEventSet meanings kinds names.acquire a k → IsEventSet meanings kinds names.release b k → Declares n decls p all →
        Declares n (Decl.Resource names ∷ decls) (record p { resources = record { process = d; acquire = a; release = b } ∷ p.resources }) all
