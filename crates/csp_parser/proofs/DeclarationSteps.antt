-- Declarations, one after another.
use Rattle.csp_parser.proofs.Prelude.{◌≡◌, ℕ, suc, false, true, eqb, ◌-◌, ◌≤◌, Option, Some, None, List, [], ◌∷◌, ◌++◌, Err, length, refl, sym, ap, ◌∙◌, append-nil, append_assoc, arith, Decl, Token, and_then, Reads, later, Comes, limited, read_declaration, NoText, Stop, eqb-true}
use Rattle.csp_base.specs.declared.stop.Stop.TheVariants as stop

-- declarations with these in front
abbrev pub behind : List Decl → Option (List Decl) → Option (List Decl)
behind done o = and_then o λ ds. Some (done ++ ds)

-- what the reading of all declarations comes to is what is read so far, and what the reading of the rest comes to
pub record DeclarationsSoFar (n : ℕ) (all : List Token) (done : List Decl) (m : ℕ) (rest : List Token) : Type 0 where
  pub goes_on : (o : Option (List Decl)) → Comes m (λ L. L.declarations rest) o → Comes n (λ L. L.declarations all) (behind done o)

behind_none : (o : Option (List Decl)) → behind [] o ≡ o
behind_none None = refl
behind_none (Some ds) = refl

pub at_start : (n : ℕ) (ts : List Token) (done : List Decl) → done ≡ [] → DeclarationsSoFar n ts done n ts
at_start n ts done e = record { goes_on = λ o c f le. c f le ∙ sym (behind_none o) ∙ ap (λ ds. behind ds o) (sym e) }

behind_one : (done : List Decl) (d : Decl) (o : Option (List Decl)) → behind done (behind (d ∷ []) o) ≡ behind (done ++ d ∷ []) o
behind_one done d None = refl
behind_one done d (Some ds) = ap (λ x. Some x) (sym (append_assoc done (d ∷ []) ds))

pub one_more : {n m p k : ℕ} {all vs : List Token} {done new : List Decl} {d : Decl} (ts : List Token) → false ≡ eqb (length ts) 0 → DeclarationsSoFar n all done m ts → new ≡ done ++ d ∷ [] →
    Comes p (λ L. read_declaration L ts) (Some (d, vs)) → suc p ≤ m → suc k ≤ m → DeclarationsSoFar n all new k vs
one_more [] some s e c low less = absurd cc
one_more {n} {m} {p} {k} {all} {vs} {done} {new} {d} (t ∷ ts) some s e c low less = record {
  goes_on = λ o h g lg. s.goes_on (behind (d ∷ []) o)
      (later (λ L. L.declarations (t ∷ ts)) (m - 1) m (behind (d ∷ []) o) (λ f le.
      let fp : p ≤ f = omega arith in let fk : k ≤ f = omega arith in
      ap (λ x. and_then x λ q. behind (q.0 ∷ []) ((limited f).declarations q.1)) (c f fp) ∙ ap (behind (d ∷ [])) (h f fk)) (omega arith)) g lg
      ∙ behind_one done d o ∙ ap (λ ds. behind ds o) (sym e);
}

pub at_end : {n m : ℕ} {all : List Token} {done : List Decl} (ts : List Token) → true ≡ eqb (length ts) 0 → 1 ≤ m → DeclarationsSoFar n all done m ts → Comes n (λ L. L.declarations all) (Some done)
at_end {n} {m} {all} {done} [] none some s = λ g lg.
    s.goes_on (Some []) (later (λ L. L.declarations []) 0 m (Some []) (λ f le. refl) some) g lg ∙ ap (λ ds. Some ds) (append-nil done)
at_end (t ∷ ts) none some s = absurd (let e = eqb-true (length (t ∷ ts)) 0 (sym none) in omega (arith, e))

pub stops : {B C : Type 0} {n p m : ℕ} {all : List Token} {done : List Decl} (seen : B → Decl × List Token) (shown : C → List Decl) (r : Stop NoText) (ts : List Token) → false ≡ eqb (length ts) 0 →
    DeclarationsSoFar n all done m ts → Reads (Err r) seen p (λ L. read_declaration L ts) → suc p ≤ m → Reads (Err r) shown n (λ L. L.declarations all)
stops seen shown r [] some s c low = absurd cc
stops seen shown stop.NoMemory (t ∷ ts) some s c low = λ g lg. tt
stops {n = n} {p = p} {m = m} seen shown (stop.Told none) (t ∷ ts) some s c low =
    s.goes_on None (later (λ L. L.declarations (t ∷ ts)) p m None (λ f le. ap (λ x. and_then x λ q. behind (q.0 ∷ []) ((limited f).declarations q.1)) (c f le)) low)
