-- Lists in which nothing stands twice, and lists that grow at their end.
use Rattle.pool_parts.proofs.Prelude.{◌≡◌, ℕ, zero, suc, ◌<◌, Bool, true, false, cond, ◌||◌, Some, None, Option, List, [], ◌∷◌, ◌++◌, length, get_or, slice_get, refl, ap, sym, ◌∙◌, subst, false≢true, or_right, slice_get-get_or, IsDistinct-head, IsDistinct-tail, IsDistinct, AllByRecursion, is_member, is_some, IfSome, MatchOption, Result, Ok, Err, OnOk, OnErr, slice_get-append_left, with_new, AreNoted, IsAbsent, IsMeasure, IsStart, Measure, Names, EachOnce}

every_at : {T : Type 0} (P : T → Type 0) (xs : List T) → AllByRecursion P xs → (k : ℕ) (x : T) → slice_get xs k ≡ Some x → P x
every_at P [] h k x g = cc
every_at P (y ∷ ys) h zero x g = let e : y ≡ x = cc in subst P e h.0
every_at P (y ∷ ys) h (suc k) x g = every_at P ys h.1 k x g

module _ {T : Type 0} (eq : T → T → Bool) (same : (x : T) → eq x x ≡ true) where
  once_at : (y : T) (xs : List T) → AllByRecursion (λ x. eq y x ≡ false) xs → (k : ℕ) (x : T) → slice_get xs k ≡ Some x → y ≡ x → ⊥
  once_at y xs h k x g e =
      let differs : eq y x ≡ false = every_at (λ z. eq y z ≡ false) xs h k x g in
      let equal : eq y x ≡ true = subst (λ (z : T). eq y z ≡ true) e (same y) in
      false≢true (sym differs ∙ equal)

  -- what stands once by an equality test stands once
  pub are_once : (xs : List T) → IsDistinct eq xs → EachOnce xs
  are_once [] d i j x h g = cc
  are_once (y ∷ ys) d zero zero x h g = refl
  are_once (y ∷ ys) d zero (suc j) x h g = let e : y ≡ x = cc in absurd (once_at y ys (IsDistinct-head eq y ys d) j x g e)
  are_once (y ∷ ys) d (suc i) zero x h g = let e : y ≡ x = cc in absurd (once_at y ys (IsDistinct-head eq y ys d) i x h e)
  are_once (y ∷ ys) d (suc i) (suc j) x h g = ap suc (are_once ys (IsDistinct-tail eq y ys d) i j x h g)

  member_at : (xs : List T) (k : ℕ) (x : T) → slice_get xs k ≡ Some x → is_member eq xs x ≡ true
  member_at [] k x g = cc
  member_at (y ∷ ys) zero x g =
      let e : x ≡ y = cc in
      let equal : eq x y ≡ true = subst (λ (z : T). eq x z ≡ true) e (same x) in
      ap (λ b. b || is_member eq ys x) equal
  member_at (y ∷ ys) (suc k) x g = or_right (eq x y) (is_member eq ys x) (member_at ys k x g)

  -- what is no member stands nowhere
  pub is_absent : (xs : List T) (x : T) → is_member eq xs x ≡ false → IsAbsent xs x
  is_absent xs x h k g = false≢true (sym h ∙ member_at xs k x g)

-- a list with one element more
start_push : {T : Type 0} (old new : List T) (x : T) → new ≡ old ++ x ∷ [] → IsStart old new
start_push {T} old new x e k y h = subst (λ (xs : List T). slice_get xs k ≡ Some y) (sym e) (slice_get-append_left old (x ∷ []) k y h)

-- what a search finds, or doesn't
pub is_found : {T : Type 0} (eq : T → T → Bool) (same : (x : T) → eq x x ≡ true) (xs : List T) (x : T) (found : Option ℕ) → is_some found ≡ is_member eq xs x → IfSome found (λ k. slice_get xs k ≡ Some x)
    → MatchOption found (IsAbsent xs x) (λ k. slice_get xs k ≡ Some x)
is_found eq same xs x (Some k) e h = h
is_found eq same xs x None e h = is_absent eq same xs x (sym e)

-- the same of an error
pub absent_on_err : {T : Type 0} {U E : Type 0} (eq : T → T → Bool) (same : (x : T) → eq x x ≡ true) (xs : List T) (x : T) (result : Result U E) → is_member eq xs x ≡ false → OnErr result (IsAbsent xs x)
absent_on_err eq same xs x (Ok u) h = tt
absent_on_err eq same xs x (Err e) h = is_absent eq same xs x h

-- what numbering makes of a list: the same list, or one element more
pub start_new : {T : Type 0} (eq : T → T → Bool) (old new : List T) (x : T) → new ≡ with_new eq old x → IsStart old new
start_new {T} eq old new x e = either (is_member eq old x) refl
  where
    either : (b : Bool) → is_member eq old x ≡ b → IsStart old new
    either true h k y g = subst (λ (xs : List T). slice_get xs k ≡ Some y) (sym (e ∙ ap (λ (b : Bool). cond b old (old ++ x ∷ [])) h)) g
    either false h k y g = start_push old new x (e ∙ ap (λ (b : Bool). cond b old (old ++ x ∷ [])) h) k y g

pub start_numbered : {T E : Type 0} (eq : T → T → Bool) (old new : List T) (x : T) (r : Result ℕ E) → OnOk r (new ≡ with_new eq old x) → OnErr r (new ≡ old) → IsStart old new
start_numbered eq old new x (Ok place) ok err k y g = start_new eq old new x ok k y g
start_numbered {T} eq old new x (Err f) ok err k y g = subst (λ (xs : List T). slice_get xs k ≡ Some y) (sym err) g

-- what is noted of the parts
module _ {T : Type 0} (d s : T → ℕ) (l : T → Names) where
  pub noted_more : (notes : List Measure) (xs more : List T) → AreNoted d s l notes xs → AreNoted d s l notes (xs ++ more)
  noted_more [] xs more h = tt
  noted_more (note ∷ notes) [] more h = absurd h
  noted_more (note ∷ notes) (x ∷ xs) more h = (h.0, noted_more notes xs more h.1)

  noted_new : (eq : T → T → Bool) (notes : List Measure) (old new : List T) (x : T) → new ≡ with_new eq old x → AreNoted d s l notes old → AreNoted d s l notes new
  noted_new eq notes old new x e h = either (is_member eq old x) refl
    where
      either : (b : Bool) → is_member eq old x ≡ b → AreNoted d s l notes new
      either true g = subst (λ (xs : List T). AreNoted d s l notes xs) (sym (e ∙ ap (λ (b : Bool). cond b old (old ++ x ∷ [])) g)) h
      either false g = subst (λ (xs : List T). AreNoted d s l notes xs) (sym (e ∙ ap (λ (b : Bool). cond b old (old ++ x ∷ [])) g)) (noted_more notes old (x ∷ []) h)

  pub noted_numbered : {E : Type 0} (eq : T → T → Bool) (notes : List Measure) (old new : List T) (x : T) (r : Result ℕ E) → OnOk r (new ≡ with_new eq old x) → OnErr r (new ≡ old) → AreNoted d s l notes old → AreNoted d s l notes new
  noted_numbered eq notes old new x (Ok k) ok err h = noted_new eq notes old new x ok h
  noted_numbered eq notes old new x (Err f) ok err h = subst (λ (xs : List T). AreNoted d s l notes xs) (sym err) h

  pub noted_push : (notes : List Measure) (xs : List T) (note : Measure) (x : T) → AreNoted d s l notes xs → slice_get xs (length notes) ≡ Some x → IsMeasure d s l x note → AreNoted d s l (notes ++ note ∷ []) xs
  noted_push [] [] note x h g is = cc
  noted_push [] (y ∷ xs) note x h g is = let e : y ≡ x = cc in (subst (λ (z : T). IsMeasure d s l z note) (sym e) is, tt)
  noted_push (n ∷ notes) [] note x h g is = absurd h
  noted_push (n ∷ notes) (y ∷ xs) note x h g is = (h.0, noted_push notes xs note x h.1 g is)

  -- whether memory failed or not
  pub noted_pushed : {A E : Type 0} (old new : List Measure) (xs : List T) (note : Measure) (x : T) (r : Result A E) → OnOk r (new ≡ old ++ note ∷ []) → OnErr r (new ≡ old) → AreNoted d s l old xs
      → slice_get xs (length old) ≡ Some x → IsMeasure d s l x note → AreNoted d s l new xs
  noted_pushed old new xs note x (Ok a) ok err h g is = subst (λ (notes : List Measure). AreNoted d s l notes xs) (sym ok) (noted_push old xs note x h g is)
  noted_pushed old new xs note x (Err f) ok err h g is = subst (λ (notes : List Measure). AreNoted d s l notes xs) (sym err) h

  pub noted_at : (notes : List Measure) (xs : List T) (k : ℕ) (note : Measure) (other : T) → AreNoted d s l notes xs → slice_get notes k ≡ Some note → IsMeasure d s l (get_or xs k other) note
  noted_at [] xs k note other h g = cc
  noted_at (n ∷ notes) [] k note other h g = absurd h
  noted_at (n ∷ notes) (x ∷ xs) zero note other h g = let e : n ≡ note = cc in subst (λ (m : Measure). IsMeasure d s l x m) e h.0
  noted_at (n ∷ notes) (x ∷ xs) (suc k) note other h g = noted_at notes xs k note other h.1 g

-- the part at the end of what is noted
pub next_part : {T : Type 0} (xs ys : List T) (i count : ℕ) (x : T) → ys ≡ xs → i ≡ count → i < length xs → x ≡ get_or ys i x → slice_get xs count ≡ Some x
next_part {T} xs ys i count x e f h g =
    subst (λ (k : ℕ). slice_get xs k ≡ Some x) f
    (slice_get-get_or xs i x h ∙ (λ j. Some (get_or (sym e j) i x)) ∙ ap (λ (y : T). Some y) (sym g))
