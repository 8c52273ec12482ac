-- Pieces that are sent one after another.
use Rattle.dl_top.proofs.Prelude.{◌≡◌, ℕ, ◌+◌, ◌-◌, ◌≤◌, List, ◌++◌, length, take, drop, Option, None, Some, Ok, Err, sym, ◌∙◌, ap, arith, subst, append_assoc, length-drop, take-append-drop, length-take-le, take_rest, take-append-add, GrowsBy, WriteAnswers, GrowsByFront, option_map, SinkFault}
use Rattle.dl_outside.specs.declared.sink.SinkFault.TheVariants.{Failed, NoMemory}

-- a front in two parts
take_two : (n k : ℕ) (xs : List ℕ) → n ≤ length xs → take (n + k) xs ≡ take n xs ++ take k (drop n xs)
take_two n k xs within =
    let parts : take n xs ++ drop n xs ≡ xs = take-append-drop n xs in
    let long : length (take n xs) ≡ n = length-take-le n xs within in
    let P : ℕ → Type 0 = λ m. take (m + k) (take n xs ++ drop n xs) ≡ take n xs ++ take k (drop n xs) in
    ap (take (n + k)) (sym parts) ∙ subst P long (take-append-add (take n xs) (drop n xs) k)

-- what was sent in two pieces was sent
both_sent : (old mid new : Option (List ℕ)) (first second : List ℕ) → GrowsBy old mid first → GrowsBy mid new second → GrowsBy old new (first ++ second)
both_sent None mid new first second a b = b ∙ ap (option_map (λ sent. sent ++ second)) a
both_sent (Some sent) mid new first second a b = b ∙ ap (option_map (λ told. told ++ second)) a ∙ ap Some (append_assoc sent first second)

-- What a turn of the loop leaves: the report's first n bytes were sent before it, and k of the rest in it.
pub more_sent : (old mid new : Option (List ℕ)) (report : List ℕ) (n k : ℕ) (rose : Type 0) → n ≤ length report → GrowsBy old mid (take n report)
    → WriteAnswers mid new (take (length report - n) (drop n report)) rose (Ok k) → (n + k ≤ length report) × GrowsBy old new (take (n + k) report)
more_sent old mid new report n k rose within before (grew, few, some) =
    let P : List ℕ → Type 0 = λ piece. k ≤ length piece in
    let Q : List ℕ → Type 0 = λ piece. GrowsBy mid new (take k piece) in
    let fewer : k ≤ length (drop n report) = subst P (take_rest report n) few in
    (omega (arith, length-drop n report, fewer), rw (take_two n k report within) (both_sent old mid new _ _ before (subst Q (take_rest report n) grew)))

-- After an error what was sent is a front.
pub broken : (old mid new : Option (List ℕ)) (report piece : List ℕ) (n : ℕ) (rose : Type 0) (fault : SinkFault) → GrowsBy old mid (take n report) → WriteAnswers mid new piece rose (Err fault) → GrowsByFront old new report
broken old mid new report piece n rose Failed a b = (take n report, drop n report, sym (take-append-drop n report), b.0 ∙ a)
broken old mid new report piece n rose NoMemory a b = (take n report, drop n report, sym (take-append-drop n report), b ∙ a)
