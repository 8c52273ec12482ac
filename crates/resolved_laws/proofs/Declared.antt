-- Names that fit a program: what a declared name stands for is there, of its class and with its number of parameters or fields.
use Rattle.resolved_laws.proofs.Sources.{◌≡◌, ℕ, ◌+◌, ◌-◌, nat_eq, nat_lt, nat_le, IsTrue, Option, Some, None, List, length, arith, slice_get, false≢true, eqb-true, field_count, is_datum, is_process, is_set_name, takes, with_fields, Meanings, Name, IsData, IsNetwork, IsProcess, Channel, Content, Kind, Entity}
use Rattle.csp_program.specs.InOrder as order

pub record Fits (m : Meanings) (ks : List Kind) (p : Content) : Type 0 where
  pub channel : (x : Name) (c n : ℕ) → m x ≡ Some (Entity.Channel c n) → IsTrue (with_fields (λ k. nat_eq k n) (slice_get p.channels c))
  pub constant : (x : Name) (k : ℕ) → m x ≡ Some (Entity.Constant k) → IsTrue (nat_lt k (length p.consts))
  pub set : (x : Name) (d : ℕ) → m x ≡ Some (Entity.Set d) → IsTrue (takes is_set_name 0 (slice_get p.defs d))
  pub datum : (x : Name) (d n : ℕ) → m x ≡ Some (Entity.Definition d n) → IsData m ks d → IsTrue (takes is_datum n (slice_get p.defs d))
  pub process : (x : Name) (d n : ℕ) → m x ≡ Some (Entity.Definition d n) → IsProcess m ks d → IsTrue (takes is_process n (slice_get p.defs d))
  pub network : (x : Name) (d n : ℕ) → m x ≡ Some (Entity.Definition d n) → IsNetwork m ks d → IsTrue (takes order.is_network n (slice_get p.defs d))

fewer : (k left n j : ℕ) → k + left ≡ n → IsTrue (nat_eq j n) → IsTrue (nat_le k j)
fewer k left n j e h = let i : j ≡ n = eqb-true j n h in grind arith

-- a front of so many fields, and what it leaves
pub at_most : (k left n : ℕ) (channel : Option Channel) → k + left ≡ n → IsTrue (with_fields (λ i. nat_eq i n) channel)
    → IsTrue (with_fields (nat_le k) channel)
at_most k left n None e h = absurd (false≢true h)
at_most k left n (Some channel) e h = fewer k left n (length channel.types) e h

pub leaves : (k left n : ℕ) (channel : Option Channel) → k + left ≡ n → IsTrue (with_fields (λ i. nat_eq i n) channel) → field_count channel - k ≡ left
leaves k left n None e h = absurd (false≢true h)
leaves k left n (Some channel) e h = let i : length channel.types ≡ n = eqb-true (length channel.types) n h in omega arith
