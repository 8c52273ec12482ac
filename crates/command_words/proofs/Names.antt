-- No two rules have one name, and no two families.
use Rattle.command_words.proofs.Prelude.{◌≡◌, ℕ, List, get_or, refl, ap, arith, family_name, Family, Chain, Forks, Mesh}
use Rattle.csp_tables.specs.declared.rule.Rule.{Rule}
use Rattle.csp_tables.specs.declared.rule.Rule.TheVariants.{ClientServer, Cyclic, Resource}
use Rattle.report.specs.Report.{rule_text}

-- texts with different letters in this place
pub apart : (k : ℕ) (x y : List ℕ) → x ≡ y → (get_or x k 0 ≡ get_or y k 0 → ⊥) → ⊥
apart k x y is never = never (ap (λ (s : List ℕ). get_or s k 0) is)

pub same_family : (f g : Family) → family_name f ≡ family_name g → f ≡ g
same_family Forks Forks is = refl
same_family Forks Chain is = absurd (apart 0 (family_name Forks) (family_name Chain) is (λ e. omega (arith, e)))
same_family Forks Mesh is = absurd (apart 0 (family_name Forks) (family_name Mesh) is (λ e. omega (arith, e)))
same_family Chain Forks is = absurd (apart 0 (family_name Chain) (family_name Forks) is (λ e. omega (arith, e)))
same_family Chain Chain is = refl
same_family Chain Mesh is = absurd (apart 0 (family_name Chain) (family_name Mesh) is (λ e. omega (arith, e)))
same_family Mesh Forks is = absurd (apart 0 (family_name Mesh) (family_name Forks) is (λ e. omega (arith, e)))
same_family Mesh Chain is = absurd (apart 0 (family_name Mesh) (family_name Chain) is (λ e. omega (arith, e)))
same_family Mesh Mesh is = refl

pub same_rule : (r s : Rule) → rule_text r ≡ rule_text s → r ≡ s
same_rule Cyclic Cyclic is = refl
same_rule Cyclic ClientServer is = absurd (apart 1 (rule_text Cyclic) (rule_text ClientServer) is (λ e. omega (arith, e)))
same_rule Cyclic Resource is = absurd (apart 1 (rule_text Cyclic) (rule_text Resource) is (λ e. omega (arith, e)))
same_rule ClientServer Cyclic is = absurd (apart 1 (rule_text ClientServer) (rule_text Cyclic) is (λ e. omega (arith, e)))
same_rule ClientServer ClientServer is = refl
same_rule ClientServer Resource is = absurd (apart 1 (rule_text ClientServer) (rule_text Resource) is (λ e. omega (arith, e)))
same_rule Resource Cyclic is = absurd (apart 1 (rule_text Resource) (rule_text Cyclic) is (λ e. omega (arith, e)))
same_rule Resource ClientServer is = absurd (apart 1 (rule_text Resource) (rule_text ClientServer) is (λ e. omega (arith, e)))
same_rule Resource Resource is = refl
