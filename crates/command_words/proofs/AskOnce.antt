-- No words ask for two things: the first word tells which request it is, and the others what it is for.
use Rattle.command_words.proofs.Prelude.{◌≡◌, ℕ, ◌+◌, ◌<◌, List, [], get_or, sym, ap, ◌∙◌, arith, greatest, Family, Chain, Forks, Mesh, IsWithin, WordsAskOnce, written, Trial}
use Rattle.command_words.specs.declared.request.Job.TheVariants.{Check, Livelock, Run, Table}
use Rattle.command_words.specs.declared.request.Request.{Request}
use Rattle.command_words.specs.declared.request.Request.TheVariants.{Conform, Script, Show, Trial as trial}
use Rattle.command_words.proofs.Digits.{same_number}
use Rattle.command_words.proofs.Names.{same_family, same_rule}

-- the word in a place
word : (k : ℕ) (xs ys : List (List ℕ)) → xs ≡ ys → get_or xs k [] ≡ get_or ys k []
word k xs ys is = ap (λ (ws : List (List ℕ)). get_or ws k []) is

-- the second and the third letter of the first word together tell the forms of requests apart
differ : (xs ys : List (List ℕ)) → xs ≡ ys
    → (get_or (get_or xs 0 []) 1 0 + get_or (get_or xs 0 []) 2 0 ≡ get_or (get_or ys 0 []) 1 0 + get_or (get_or ys 0 []) 2 0 → ⊥) → ⊥
differ xs ys is never = never (ap (λ (words : List (List ℕ)). get_or (get_or words 0 []) 1 0 + get_or (get_or words 0 []) 2 0) is)

pub few : (f : Family) → greatest f < 1000000
few Forks = omega arith
few Chain = omega arith
few Mesh = omega arith

same_trial : (t u : Trial) → t.family ≡ u.family → t.size ≡ u.size → t ≡ u
same_trial t u families sizes =
    let first : t ≡ record { family = u.family; size = t.size } = ap (λ (f : Family). record { family = f; size = t.size }) families in
    first ∙ ap (λ (n : ℕ). record { family = u.family; size = n }) sizes

one_request : (r s : Request) → IsWithin r → IsWithin s → written r ≡ written s → r ≡ s
one_request (Show name) (Show more) a b is = ap Show (word 1 _ _ is)
one_request (Script (Check rule) name) (Script (Check other) more) a b is =
    let rules : rule ≡ other = same_rule rule other (word 1 _ _ is) in
    let scripts : name ≡ more = word 2 _ _ is in cc
one_request (Script (Table i) name) (Script (Table j) more) a b is =
    let indices : i ≡ j = same_number i j a b (word 2 _ _ is) in
    let scripts : name ≡ more = word 1 _ _ is in cc
one_request (Script (Run seed steps) name) (Script (Run other number) more) a b is =
    let seeds : seed ≡ other = same_number seed other a.0 b.0 (word 2 _ _ is) in
    let counts : steps ≡ number = same_number steps number a.1 b.1 (word 3 _ _ is) in
    let scripts : name ≡ more = word 1 _ _ is in cc
one_request (Script (Livelock set) name) (Script (Livelock other) more) a b is =
    let sets : set ≡ other = word 2 _ _ is in
    let scripts : name ≡ more = word 1 _ _ is in cc
one_request (trial t) (trial u) a b is =
    let families = same_family t.family u.family (word 1 _ _ is) in
    let low = few t.family in
    let high = few u.family in
    let sizes = same_number t.size u.size (let top = a.1 in omega arith) (let top = b.1 in omega arith) (word 2 _ _ is) in
    ap trial (same_trial t u families sizes)
one_request (Conform script specification) (Conform more other) a b is =
    let scripts : script ≡ more = word 1 _ _ is in
    let specifications : specification ≡ other = word 2 _ _ is in cc
one_request (Show name) (Script (Check rule) more) a b is = absurd (differ _ _ is (λ e. omega (arith, e)))
one_request (trial t) (Script (Check rule) name) a b is = absurd (differ _ _ is (λ e. omega (arith, e)))
one_request (Conform script specification) (Script (Check rule) name) a b is = absurd (differ _ _ is (λ e. omega (arith, e)))
one_request r s a b is = absurd (differ _ _ is (λ e. omega (arith, e)))

pub words_ask_once : WordsAskOnce
words_ask_once words r s a b = one_request r s a.within b.within (sym a.are ∙ b.are)
