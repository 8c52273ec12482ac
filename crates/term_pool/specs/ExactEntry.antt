-- `==` on entries is equality.
use Rattle.std.specs.Prelude.{◌≡◌, Bool, true, ◌&&◌, nat_eq, refl}
use Rattle.std.proofs.lemmas.Bool.{eqb-true, false≢true}
use Rattle.std.specs.Cmp.{first_so, second_so}
use Rattle.pool_parts.specs.ExactId.{eq_id, exact_id}
use Rattle.term_pool.specs.contracts.entry.EntryPartialEq.TheImpl as entries
use Rattle.term_pool.specs.declared.entry.Entry.{Entry}
use Rattle.term_pool.specs.declared.entry.Entry.TheVariants as entry

abbrev pub eq_entry : Entry → Entry → Bool
eq_entry = (entries.ghosts).eq

pub exact_entry : (x y : Entry) → eq_entry x y ≡ true → x ≡ y
exact_entry entry.Stop entry.Stop h = refl
exact_entry (entry.Prefix a b c) (entry.Prefix a' b' c') h = λ i. entry.Prefix (eqb-true a a' (first_so (nat_eq a a') ((nat_eq b b') && (eq_id c c')) h) i) (eqb-true b b' (first_so (nat_eq b b') (eq_id c c') (second_so (nat_eq a a') ((nat_eq b b') && (eq_id c c')) h)) i) (exact_id c c' (second_so (nat_eq b b') (eq_id c c') (second_so (nat_eq a a') ((nat_eq b b') && (eq_id c c')) h)) i)
exact_entry (entry.Guard a b) (entry.Guard a' b') h = λ i. entry.Guard (eqb-true a a' (first_so (nat_eq a a') (eq_id b b') h) i) (exact_id b b' (second_so (nat_eq a a') (eq_id b b') h) i)
exact_entry (entry.If a b c) (entry.If a' b' c') h = λ i. entry.If (eqb-true a a' (first_so (nat_eq a a') ((eq_id b b') && (eq_id c c')) h) i) (exact_id b b' (first_so (eq_id b b') (eq_id c c') (second_so (nat_eq a a') ((eq_id b b') && (eq_id c c')) h)) i) (exact_id c c' (second_so (eq_id b b') (eq_id c c') (second_so (nat_eq a a') ((eq_id b b') && (eq_id c c')) h)) i)
exact_entry (entry.External a) (entry.External a') h = λ i. entry.External (eqb-true a a' h i)
exact_entry (entry.Internal a) (entry.Internal a') h = λ i. entry.Internal (eqb-true a a' h i)
exact_entry (entry.EachExternal a b c) (entry.EachExternal a' b' c') h = λ i. entry.EachExternal (eqb-true a a' (first_so (nat_eq a a') ((nat_eq b b') && (eq_id c c')) h) i) (eqb-true b b' (first_so (nat_eq b b') (eq_id c c') (second_so (nat_eq a a') ((nat_eq b b') && (eq_id c c')) h)) i) (exact_id c c' (second_so (nat_eq b b') (eq_id c c') (second_so (nat_eq a a') ((nat_eq b b') && (eq_id c c')) h)) i)
exact_entry (entry.EachInternal a b c) (entry.EachInternal a' b' c') h = λ i. entry.EachInternal (eqb-true a a' (first_so (nat_eq a a') ((nat_eq b b') && (eq_id c c')) h) i) (eqb-true b b' (first_so (nat_eq b b') (eq_id c c') (second_so (nat_eq a a') ((nat_eq b b') && (eq_id c c')) h)) i) (exact_id c c' (second_so (nat_eq b b') (eq_id c c') (second_so (nat_eq a a') ((nat_eq b b') && (eq_id c c')) h)) i)
exact_entry (entry.Hide a b) (entry.Hide a' b') h = λ i. entry.Hide (exact_id a a' (first_so (eq_id a a') (nat_eq b b') h) i) (eqb-true b b' (second_so (eq_id a a') (nat_eq b b') h) i)
exact_entry (entry.Rename a b c) (entry.Rename a' b' c') h = λ i. entry.Rename (exact_id a a' (first_so (eq_id a a') ((nat_eq b b') && (nat_eq c c')) h) i) (eqb-true b b' (first_so (nat_eq b b') (nat_eq c c') (second_so (eq_id a a') ((nat_eq b b') && (nat_eq c c')) h)) i) (eqb-true c c' (second_so (nat_eq b b') (nat_eq c c') (second_so (eq_id a a') ((nat_eq b b') && (nat_eq c c')) h)) i)
exact_entry (entry.Call a b) (entry.Call a' b') h = λ i. entry.Call (eqb-true a a' (first_so (nat_eq a a') (nat_eq b b') h) i) (eqb-true b b' (second_so (nat_eq a a') (nat_eq b b') h) i)
exact_entry entry.Skip entry.Skip h = refl
exact_entry (entry.Seq a b) (entry.Seq a' b') h = λ i. entry.Seq (exact_id a a' (first_so (eq_id a a') (eq_id b b') h) i) (exact_id b b' (second_so (eq_id a a') (eq_id b b') h) i)
exact_entry entry.Ended entry.Ended h = refl
exact_entry x y h = absurd (false≢true h)
