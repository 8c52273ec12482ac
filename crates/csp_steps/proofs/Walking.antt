-- What walks over the ways to fill fields come to, as they go on.
use Rattle.csp_steps.proofs.Prelude.{◌≡◌, ℕ, zero, suc, ◌+◌, ◌<◌, ◌≤◌, true, Option, Some, None, Ok, Err, List, [], ◌∷◌, ◌++◌, map, drop, length, get_or, slice_get, take, take_read, take_all, take-append-le, take-take, length-take, length-take-le, length_push, refl, subst, ap, sym, ◌∙◌, arith, append_assoc, append-nil, map_push, Atom, One, Outcome, Env, Field, Proc, Content, ProcId, Expr, Value, ValueKind, and_then, field_place, value_in, value_under, each_joined, Move, where_given, IsFront, tree_at, with_bound, AreMoves, seen, filled, frames_left, frames_weight, input_ways, is_blocked, name_of, number_from, number_of, number_with, number_with_value, then_ways, turn_ways, turned_ways, turned_weight, values_left, values_weight, walk_moves, walk_ways, way_move, ways_by_number, weight, HasGone, HasTurned, AreNested, BindsNames, IsBegun, IsLonger, IsSound, IsTaken, IsUnder, Way, StepTo, with_bound-last, FieldValue, Frame, Input, Turn, Walk}
use Rattle.csp_program.specs.declared.processes.Field.TheVariants as field
use Rattle.csp_steps.proofs.Places.{tree_stays}

-- ---- lists

read_some : {A : Type 0} (xs : List A) (i : ℕ) (x : A) → slice_get xs i ≡ Some x → drop i xs ≡ x ∷ drop (i + 1) xs
read_some [] i x h = absurd (cc)
read_some (y ∷ ys) zero x h = let same : y ≡ x = cc in ap (λ z. z ∷ ys) same
read_some (y ∷ ys) (suc i) x h = let next : suc (i + 1) ≡ suc i + 1 = omega arith in read_some ys i x h ∙ ap (λ k. x ∷ drop k (y ∷ ys)) next

past_end : {A : Type 0} (xs : List A) (i : ℕ) → slice_get xs i ≡ None → drop i xs ≡ []
past_end [] zero h = refl
past_end [] (suc i) h = refl
past_end (y ∷ ys) zero h = absurd (cc)
past_end (y ∷ ys) (suc i) h = past_end ys i h

-- ---- ways one after another

after_both : (ys zs : List Way) (c : Outcome (List Way)) → then_ways (Ok (ys ++ zs)) c ≡ then_ways (Ok ys) (then_ways (Ok zs) c)
after_both ys zs (Ok us) = ap (λ ws. Ok ws) (append_assoc ys zs us)
after_both ys zs (Err k) = refl

then_regroup : (a b c : Outcome (List Way)) → then_ways (then_ways a b) c ≡ then_ways a (then_ways b c)
then_regroup (Err k) b c = refl
then_regroup (Ok ys) (Err k) c = refl
then_regroup (Ok ys) (Ok zs) c = after_both ys zs c

none_before : (o : Outcome (List Way)) → then_ways (Ok []) o ≡ o
none_before (Ok ys) = refl
none_before (Err k) = refl

none_after : (o : Outcome (List Way)) → then_ways o (Ok []) ≡ o
none_after (Ok ys) = ap (λ zs. Ok zs) (append-nil ys)
none_after (Err k) = refl

-- ---- fields that can't be filled

none_joined : (f : ℕ → Atom → Outcome (List Way)) → ((k : ℕ) (a : Atom) → f k a ≡ Ok []) → (k : ℕ) (atoms : List Atom) → each_joined f k atoms ≡ Ok []
none_joined f none k [] = refl
none_joined f none k (a ∷ atoms) = λ i. then_ways (none k a i) (none_joined f none (k + 1) atoms i)

pub no_ways : (p : Content) (sets : List (List Atom)) (fs : List Field) → is_blocked sets fs ≡ true → (env : Env) (n : ℕ) → ways_by_number p sets fs env n ≡ Ok []
no_ways p [] fs h env n = cc
no_ways p (set ∷ sets) [] h env n = cc
no_ways p (set ∷ sets) (field.Put e ∷ fs) h env n = cc
no_ways p (set ∷ sets) (field.Get x (Some s) ∷ fs) h env n = cc
no_ways p ([] ∷ sets) (field.Get x None ∷ fs) h env n = refl
no_ways p ((b ∷ set) ∷ sets) (field.Get x None ∷ fs) h env n =
    none_joined (where_given None (λ k a. ways_by_number p sets fs ((x, One a) ∷ env) (number_with n (b ∷ set) k)))
    (λ k a. no_ways p sets fs h ((x, One a) ∷ env) (number_with n (b ∷ set) k)) 0 (b ∷ set)

-- ---- the values of fields

pub number_push : (n : ℕ) (values : List FieldValue) (v : FieldValue) → number_from n (values ++ v ∷ []) ≡ number_with_value (number_from n values) v
number_push n [] v = refl
number_push n (w ∷ values) v = number_push (number_with_value n w) values v

any_default : (values : List FieldValue) (i : ℕ) (v w : FieldValue) → i < length values → get_or values i v ≡ get_or values i w
any_default [] i v w h = absurd (omega (arith, h))
any_default (x ∷ values) zero v w h = refl
any_default (x ∷ values) (suc i) v w h = any_default values i v w (omega (arith, h))

-- the number with one more value of a list
pub number_next : (values : List FieldValue) (i : ℕ) (d : FieldValue) (n m : ℕ) → i < length values → n ≡ number_of (take i values) → m ≡ number_with_value n (get_or values i d)
    → m ≡ number_of (take (i + 1) values)
number_next values i d n m within so_far h =
    let v : FieldValue = get_or values i d in
    h ∙ (ap (λ k. number_with_value k v) so_far ∙ (sym (number_push 0 (take i values) v) ∙ ap number_of (sym (take_read values i v within (any_default values i d v within)))))

-- lists that are the same up to a place
same_before : (old new : List FieldValue) (b n : ℕ) → b ≤ n → take n old ≡ take n new → take b old ≡ take b new
same_before old new b n within same = sym (take-take b n old within) ∙ (ap (take b) same ∙ take-take b n new within)

-- ---- inputs that stand one after another

nested_from : (low : ℕ) (frames : List Frame) (high : ℕ) → AreNested low frames high → low ≤ high
nested_from low [] high h = h
nested_from low (f ∷ frames) high h =
    let here = h.0 in
    let rest = nested_from f.input.before frames high h.1 in
    omega (arith, here, rest)

pub nested_more : (low : ℕ) (frames : List Frame) (high more : ℕ) → AreNested low frames high → high ≤ more → AreNested low frames more
nested_more low [] high more h above = omega (arith, h, above)
nested_more low (f ∷ frames) high more h above = (h.0, nested_more f.input.before frames high more h.1 above)

nested_push : (low : ℕ) (frames : List Frame) (f : Frame) (high : ℕ) → AreNested low frames f.input.before → f.input.before ≤ high → AreNested low (frames ++ f ∷ []) high
nested_push low [] f high h within = (h, within)
nested_push low (g ∷ frames) f high h within = (h.0, nested_push g.input.before frames f high h.1 within)

nested_pop : (low : ℕ) (frames : List Frame) (f : Frame) (high : ℕ) → AreNested low (frames ++ f ∷ []) high → AreNested low frames f.input.before × (f.input.before ≤ high)
nested_pop low [] f high h = h
nested_pop low (g ∷ frames) f high h = let rest = nested_pop g.input.before frames f high h.1 in ((h.0, rest.0), rest.1)

-- ---- inputs under which a walk stands

frames_push : (p : Content) (values : List FieldValue) (frames : List Frame) (f : Frame) (env : Env) (rest : Outcome (List Way))
    → frames_left p values (frames ++ f ∷ []) env rest
    ≡ then_ways (values_left p (with_bound (map name_of frames) env) (number_of (take f.input.before values)) f.input f.next) (frames_left p values frames env rest)
unfolding frames_left
frames_push p values [] f env rest = refl
frames_push p values (g ∷ frames) f env rest =
    frames_push p values frames f ((g.input.name, One g.atom) ∷ env) (then_ways (values_left p env (number_of (take g.input.before values)) g.input g.next) rest)

-- what is left to them depends on the values of the fields before them alone
frames_same : (p : Content) (old new : List FieldValue) (low : ℕ) (frames : List Frame) (high : ℕ) → AreNested low frames high → take high old ≡ take high new → (env : Env) (rest : Outcome (List Way))
    → frames_left p old frames env rest ≡ frames_left p new frames env rest
unfolding frames_left
frames_same p old new low [] high h same env rest = refl
frames_same p old new low (f ∷ frames) high h same env rest =
    let here = same_before old new f.input.before high (nested_from f.input.before frames high h.1) same in
    ap (λ (vs : List FieldValue). frames_left p old frames ((f.input.name, One f.atom) ∷ env) (then_ways (values_left p env (number_of vs) f.input f.next) rest)) here ∙
    frames_same p old new f.input.before frames high h.1 same ((f.input.name, One f.atom) ∷ env) (then_ways (values_left p env (number_of (take f.input.before new)) f.input f.next) rest)

weight_push : (frames : List Frame) (f : Frame) → frames_weight (frames ++ f ∷ []) ≡ values_weight (weight f.input.sets.now) (drop f.next f.input.set.now) + frames_weight frames
weight_push [] f = refl
weight_push (g ∷ frames) f =
    let more = weight_push frames f in
    let a = values_weight (weight g.input.sets.now) (drop g.next g.input.set.now) in
    let b = values_weight (weight f.input.sets.now) (drop f.next f.input.set.now) in
    let c = frames_weight (frames ++ f ∷ []) in
    let d = frames_weight frames in
    let moved : (u v w z : ℕ) → w ≡ v + z → u + w ≡ v + (u + z) = λ u v w z e. omega (arith, e) in
    moved a b c d more

-- ---- a value of an input

module _ (walk after : Walk) (input : Input) (k : ℕ) (under : IsUnder walk input) where
  abbrev before : List FieldValue
  before = take input.before walk.values.items

  count : length before ≡ input.before
  count = length-take-le input.before walk.values.items under.within

  kept : (p : Content) → frames_left p walk.values.items walk.frames [] (Ok []) ≡ frames_left p before walk.frames [] (Ok [])
  kept p = frames_same p walk.values.items before 0 walk.frames input.before under.nested (sym (take-take input.before input.before walk.values.items (omega arith))) [] (Ok [])

  -- there is none
  pub taken_none : slice_get input.set.now k ≡ None → after.bound ≡ walk.bound → after.frames ≡ walk.frames → after.turn ≡ None → after.values.items ≡ before → IsTaken walk after input k
  taken_none none bound frames turn values = record {
    ways = λ p. ap (λ atoms. then_ways (each_joined (input_ways p (with_bound walk.bound.items []) (number_of before) input) k atoms) (frames_left p walk.values.items walk.frames [] (Ok []))) (past_end input.set.now k none) ∙
        (none_before (frames_left p walk.values.items walk.frames [] (Ok [])) ∙
        (kept p ∙
        (sym (none_before (frames_left p before walk.frames [] (Ok []))) ∙
        (λ i. then_ways (turned_ways p (with_bound (sym bound i).items []) (number_of (sym values i)) (sym turn i)) (frames_left p (sym values i) (sym frames i) [] (Ok []))))));
    sound = record {
      names = (λ i. (bound i).items) ∙ (under.names ∙ ap (map name_of) (sym frames));
      nested = subst (λ (fs : List Frame). AreNested 0 fs (length after.values.items)) (sym frames)
          (subst (λ (n : ℕ). AreNested 0 walk.frames n) (sym (ap length values ∙ count)) under.nested);
    };
    less =
        let t = ap turned_weight turn in
        let f = ap frames_weight frames in
        let v = ap (values_weight (weight input.sets.now)) (past_end input.set.now k none) in
        omega (arith, t, f, v);
  }

  number : (v : FieldValue) → v ≡ record { place = k; count = length input.set.now } → number_with (number_of before) input.set.now k ≡ number_of (before ++ v ∷ [])
  number v is = ap (number_with_value (number_of before)) (sym is) ∙ sym (number_push 0 before v)

  -- the inputs before it, and this one, have the same values before them
  stays : (p : Content) (v : FieldValue) (a : Atom) (next : ℕ) → let fs : List Frame = walk.frames ++ record { input = input; atom = a; next = next } ∷ [] in
      frames_left p walk.values.items fs [] (Ok []) ≡ frames_left p (before ++ v ∷ []) fs [] (Ok [])
  stays p v a next =
      let f : Frame = record { input = input; atom = a; next = next } in
      let within : input.before ≤ length before = omega (arith, count) in
      frames_same p walk.values.items (before ++ v ∷ []) 0 (walk.frames ++ f ∷ []) input.before (nested_push 0 walk.frames f input.before under.nested (omega arith))
      (sym (take-append-le input.before before (v ∷ []) within ∙ take-take input.before input.before walk.values.items (omega arith))) [] (Ok [])

  -- this one is on turn
  pub taken_one : (a : Atom) (turn : Option Turn) (v : FieldValue) → slice_get input.set.now k ≡ Some a → v ≡ record { place = k; count = length input.set.now }
      → after.bound.items ≡ walk.bound.items ++ (input.name, a) ∷ [] → after.frames ≡ walk.frames ++ record { input = input; atom = a; next = k + 1 } ∷ [] → after.turn ≡ turn
      → after.values.items ≡ before ++ v ∷ []
      → ((p : Content) (env : Env) (n j : ℕ) → turned_ways p ((input.name, One a) ∷ env) (number_with n input.set.now j) turn ≡ input_ways p env n input j a)
      → turned_weight turn ≤ weight input.sets.now → IsTaken walk after input k
  taken_one a turn v here is bound frames on values goes lighter = record {
    ways = λ p.
        let env : Env = with_bound walk.bound.items [] in
        let f : Frame = record { input = input; atom = a; next = k + 1 } in
        let n : ℕ = number_of before in
        ap (λ atoms. then_ways (each_joined (input_ways p env n input) k atoms) (frames_left p walk.values.items walk.frames [] (Ok []))) (read_some input.set.now k a here) ∙
        (then_regroup (input_ways p env n input k a) (values_left p env n input (k + 1)) (frames_left p walk.values.items walk.frames [] (Ok [])) ∙
        ((λ i. then_ways (sym (goes p env n k) i) (sym (frames_push p walk.values.items walk.frames f [] (Ok []) ∙
        ap (λ bs. then_ways (values_left p (with_bound bs []) n input (k + 1)) (frames_left p walk.values.items walk.frames [] (Ok []))) (sym under.names)) i)) ∙
        ((λ i. then_ways (turned_ways p (sym (with_bound-last walk.bound.items (input.name, a) []) i) (number v is i) turn) (stays p v a (k + 1) i)) ∙
        (λ i. then_ways (turned_ways p (with_bound (sym bound i) []) (number_of (sym values i)) (sym on i)) (frames_left p (sym values i) (sym frames i) [] (Ok []))))));
    sound = record {
      names = bound ∙ (ap (λ bs. bs ++ (input.name, a) ∷ []) under.names ∙ (sym (map_push name_of walk.frames (record { input = input; atom = a; next = k + 1 })) ∙ ap (map name_of) (sym frames)));
      nested = subst (λ (fs : List Frame). AreNested 0 fs (length after.values.items)) (sym frames)
          (nested_push 0 walk.frames (record { input = input; atom = a; next = k + 1 }) (length after.values.items) under.nested
          (let l = ap length values ∙ length_push before v in omega (arith, l, count)));
    };
    less =
        let t = ap turned_weight on in
        let f = ap frames_weight frames ∙ weight_push walk.frames (record { input = input; atom = a; next = k + 1 }) in
        let v = ap (values_weight (weight input.sets.now)) (read_some input.set.now k a here) in
        omega (arith, t, f, v, lighter);
  }

-- ---- turns

-- a walk with the values of more fields
longer_length : (old new : List FieldValue) → IsLonger old new → length old ≤ length new
longer_length old new longer = let e = sym (ap length longer) ∙ length-take (length old) new in omega (arith, e)

longer_nested : (walk : Walk) (more : List FieldValue) → IsSound walk → IsLonger walk.values.items more → AreNested 0 walk.frames (length more)
longer_nested walk more sound longer = nested_more 0 walk.frames (length walk.values.items) (length more) sound.nested (longer_length walk.values.items more longer)

longer_same : (p : Content) (walk : Walk) (more : List FieldValue) → IsSound walk → IsLonger walk.values.items more
    → frames_left p walk.values.items walk.frames [] (Ok []) ≡ frames_left p more walk.frames [] (Ok [])
longer_same p walk more sound longer =
    frames_same p walk.values.items more 0 walk.frames (length walk.values.items) sound.nested (take_all (length walk.values.items) walk.values.items (omega arith) ∙ sym longer) [] (Ok [])

-- an input after the fields of a walk with the values of more fields
pub input_under : (walk mid : Walk) (input : Input) → IsSound walk → mid.bound ≡ walk.bound → mid.frames ≡ walk.frames → IsLonger walk.values.items mid.values.items → input.before ≡ length mid.values.items → IsUnder mid input
input_under walk mid input sound bound frames longer at = record {
  names = (λ i. (bound i).items) ∙ (sound.names ∙ ap (map name_of) (sym frames));
  nested = subst (λ (fs : List Frame). AreNested 0 fs input.before) (sym frames) (subst (λ (n : ℕ). AreNested 0 walk.frames n) (sym at) (longer_nested walk mid.values.items sound longer));
  within = omega (arith, at);
}

-- the last input of a walk, once it is taken away
pub popped_under : (walk popped : Walk) (f : Frame) → IsSound walk → walk.frames ≡ popped.frames ++ f ∷ [] → walk.values ≡ popped.values → BindsNames popped → IsUnder popped f.input
popped_under walk popped f sound frames values names =
    let parts = nested_pop 0 popped.frames f (length walk.values.items) (subst (λ (fs : List Frame). AreNested 0 fs (length walk.values.items)) frames sound.nested) in
    record {
      names = names;
      nested = parts.0;
      within = let last = parts.1 in let same : length walk.values.items ≡ length popped.values.items = (λ i. length (values i).items) in omega (arith, last, same);
    }

module _ (p : Content) (walk after : Walk) where
  -- the last input goes on
  pub turned_to_value : (popped : Walk) (f : Frame) → IsSound walk → walk.turn ≡ None → walk.frames ≡ popped.frames ++ f ∷ [] → walk.values ≡ popped.values → BindsNames popped → IsTaken popped after f.input f.next
      → HasTurned p [] walk after
  turned_to_value popped f sound on frames values names taken = record {
    ways = (λ j. then_ways (turned_ways p (with_bound walk.bound.items []) (number_of walk.values.items) (on j)) (frames_left p (values j).items (frames j) [] (Ok []))) ∙
        (none_before (frames_left p popped.values.items (popped.frames ++ f ∷ []) [] (Ok [])) ∙
        (frames_push p popped.values.items popped.frames f [] (Ok []) ∙
        (ap (λ bs. then_ways (values_left p (with_bound bs []) (number_of (take f.input.before popped.values.items)) f.input f.next) (frames_left p popped.values.items popped.frames [] (Ok []))) (sym names) ∙
        (taken.ways p ∙ sym (none_before (walk_ways p after))))));
    sound = taken.sound;
    less =
        let w = ap turned_weight on in
        let v = ap frames_weight frames ∙ weight_push popped.frames f in
        let less = taken.less in
        omega (arith, w, v, less);
  }

  -- the fields on turn come to their end
  pub turned_to_way : (turn : Turn) → IsSound walk → walk.turn ≡ Some turn → after.bound ≡ walk.bound → after.frames ≡ walk.frames → after.turn ≡ None → IsLonger walk.values.items after.values.items
      → turn_ways p (with_bound walk.bound.items []) (number_of walk.values.items) turn ≡ Ok ((with_bound walk.bound.items [], number_of after.values.items) ∷ []) → 1 ≤ weight turn.sets.now
      → HasTurned p ((with_bound after.bound.items [], number_of after.values.items) ∷ []) walk after
  turned_to_way turn sound on bound frames off longer goes heavy = record {
    ways = (λ i. then_ways (turned_ways p (with_bound walk.bound.items []) (number_of walk.values.items) (on i)) (longer_same p walk after.values.items sound longer i)) ∙
        ((λ i. then_ways (goes i) (sym (none_before (frames_left p after.values.items walk.frames [] (Ok []))) i)) ∙
        (λ i. then_ways (Ok ((with_bound (sym bound i).items [], number_of after.values.items) ∷ []))
        (then_ways (turned_ways p (with_bound (sym bound i).items []) (number_of after.values.items) (sym off i)) (frames_left p after.values.items (sym frames i) [] (Ok [])))));
    sound = record {
      names = (λ i. (bound i).items) ∙ (sound.names ∙ ap (map name_of) (sym frames));
      nested = subst (λ (fs : List Frame). AreNested 0 fs (length after.values.items)) (sym frames) (longer_nested walk after.values.items sound longer);
    };
    less =
        let w = ap turned_weight on in
        let o = ap turned_weight off in
        let f = ap frames_weight frames in
        omega (arith, w, o, f, heavy);
  }

  -- they come to an input
  pub turned_to_input : (turn : Turn) (input : Input) (mid : Walk) → IsSound walk → walk.turn ≡ Some turn → mid.bound ≡ walk.bound → mid.frames ≡ walk.frames → IsLonger walk.values.items mid.values.items
      → input.before ≡ length mid.values.items
      → turn_ways p (with_bound walk.bound.items []) (number_of walk.values.items) turn ≡ values_left p (with_bound walk.bound.items []) (number_of mid.values.items) input 0
      → weight (input.set.now ∷ input.sets.now) ≤ weight turn.sets.now → IsTaken mid after input 0 → HasTurned p [] walk after
  turned_to_input turn input mid sound on bound frames longer at goes heavy taken = record {
    ways = (λ i. then_ways (turned_ways p (with_bound walk.bound.items []) (number_of walk.values.items) (on i)) (longer_same p walk mid.values.items sound longer i)) ∙
        ((λ i. then_ways (goes i) (frames_left p mid.values.items walk.frames [] (Ok []))) ∙
        ((λ i. then_ways (values_left p (with_bound (sym bound i).items []) (number_of (sym whole i)) input 0) (frames_left p mid.values.items (sym frames i) [] (Ok []))) ∙
        (taken.ways p ∙ sym (none_before (walk_ways p after)))));
    sound = taken.sound;
    less =
        let w = ap turned_weight on in
        let f = ap frames_weight frames in
        let less = taken.less in
        omega (arith, w, f, less, heavy);
  }
    where
      whole : take input.before mid.values.items ≡ mid.values.items
      whole = take_all input.before mid.values.items (omega (arith, at))

  -- nothing is left
  pub turned_to_end : walk.turn ≡ None → walk.frames ≡ [] → walk_ways p walk ≡ Ok []
  unfolding frames_left
  turned_to_end off frames = λ i. then_ways (turned_ways p (with_bound walk.bound.items []) (number_of walk.values.items) (off i)) (frames_left p walk.values.items (frames i) [] (Ok []))

-- ---- the steps of ways

one_more_way : (moves : List Move) (first : ℕ) (q : Proc) (w : Way) (o : Outcome (List Way)) → filled moves first q (then_ways (Ok (w ∷ [])) o) ≡ filled (moves ++ way_move first q w ∷ []) first q o
one_more_way moves first q w (Ok ways) = ap (λ ms. Ok ms) (sym (append_assoc moves (way_move first q w ∷ []) (map (way_move first q) ways)))
one_more_way moves first q w (Err k) = refl

module _ (p : Content) (first : ℕ) (to : ProcId) (old new : List Proc) (walk after : Walk) (steps more : List StepTo) where
  pub gone_to_way : (w : Way) → IsFront old new → to.0 < length old → HasTurned p (w ∷ []) walk after → AreMoves new more (map (seen old) steps ++ way_move first (tree_at old to) w ∷ [])
      → HasGone p first to old new walk after steps more
  gone_to_way w front within h are = record {
    moves = ap (filled (map (seen old) steps) first (tree_at old to)) h.ways ∙
        (one_more_way (map (seen old) steps) first (tree_at old to) w (walk_ways p after) ∙
        (λ i. filled (sym are.same i) first (sym (tree_stays old new front to within) i) (walk_ways p after)));
    sound = h.sound;
    less = h.less;
    within = are.within;
  }

-- ---- a walk that begins

pub begins : (p : Content) (first : ℕ) (to : ProcId) (trees : List Proc) (t : Turn) (walk : Walk) (steps : List StepTo) → IsBegun t walk → steps ≡ [] → filled [] first (tree_at trees to) (turn_ways p [] 0 t) ≡ walk_moves p first to trees walk steps
unfolding frames_left
begins p first to trees t walk steps is none =
    ap (filled [] first (tree_at trees to)) (sym (none_after (turn_ways p [] 0 t))) ∙
    (λ i. filled (map (seen trees) (sym none i)) first (tree_at trees to)
    (then_ways (turned_ways p (with_bound (sym is.bound i) []) (number_of (sym is.values i)) (sym is.turn i)) (frames_left p (sym is.values i) (sym is.frames i) [] (Ok []))))

pub begins_sound : (t : Turn) (walk : Walk) → IsBegun t walk → IsSound walk
begins_sound t walk is = record {
  names = is.bound ∙ ap (map name_of) (sym is.frames);
  nested = subst (λ (fs : List Frame). AreNested 0 fs (length walk.values.items)) (sym is.frames) (omega arith);
}

-- ---- the value of an output

-- what is done with the place of a value is done with the value
at_place : (o : Outcome ℕ) (set : List Atom) (n : ℕ) (f : ℕ → Outcome (List Way)) (v : FieldValue) → and_then o (λ k. Ok (record { place = k; count = length set })) ≡ Ok v
    → and_then o (λ k. f (number_with n set k)) ≡ f (number_with_value n v)
at_place (Ok k) set n f v h = let same : record { place = k; count = length set } ≡ v = cc in ap (λ (w : FieldValue). f (number_with_value n w)) same
at_place (Err why) set n f v h = absurd (cc)

no_place : (o : Outcome ℕ) (set : List Atom) (n : ℕ) (f : ℕ → Outcome (List Way)) (k : ValueKind) → and_then {B = FieldValue} o (λ j. Ok (record { place = j; count = length set })) ≡ Err k
    → and_then o (λ j. f (number_with n set j)) ≡ Err k
no_place (Ok j) set n f k h = absurd (cc)
no_place (Err why) set n f k h = let same : why ≡ k = cc in ap (λ (z : ValueKind). Err z) same

at_value : (o : Outcome Value) (set : List Atom) (n : ℕ) (f : ℕ → Outcome (List Way)) (v : FieldValue) → and_then o (value_in set) ≡ Ok v
    → and_then o (λ w. and_then (field_place set w) (λ k. f (number_with n set k))) ≡ f (number_with_value n v)
at_value (Ok w) set n f v h = at_place (field_place set w) set n f v h
at_value (Err why) set n f v h = absurd (cc)

no_value : (o : Outcome Value) (set : List Atom) (n : ℕ) (f : ℕ → Outcome (List Way)) (k : ValueKind) → and_then o (value_in set) ≡ Err k
    → and_then o (λ w. and_then (field_place set w) (λ j. f (number_with n set j))) ≡ Err k
no_value (Ok w) set n f k h = no_place (field_place set w) set n f k h
no_value (Err why) set n f k h = let same : why ≡ k = cc in ap (λ (z : ValueKind). Err z) same

module _ (p : Content) (set : List Atom) (sets : List (List Atom)) (e : Expr) (fields : List Field) (env : Env) where
  pub output_filled : (values more : List FieldValue) (v : FieldValue) → and_then (value_under p env e) (value_in set) ≡ Ok v → more ≡ values ++ v ∷ []
      → ways_by_number p (set ∷ sets) (field.Put e ∷ fields) env (number_of values) ≡ ways_by_number p sets fields env (number_of more)
  output_filled values more v h is =
      at_value (value_under p env e) set (number_of values) (ways_by_number p sets fields env) v h ∙
      ap (ways_by_number p sets fields env) (sym (number_push 0 values v) ∙ ap number_of (sym is))

  pub output_fault : (n : ℕ) (k : ValueKind) → and_then (value_under p env e) (value_in set) ≡ Err k → ways_by_number p (set ∷ sets) (field.Put e ∷ fields) env n ≡ Err k
  output_fault n k h = no_value (value_under p env e) set n (ways_by_number p sets fields env) k h

pub longer_push : (old values more : List FieldValue) (v : FieldValue) → IsLonger old values → more ≡ values ++ v ∷ [] → IsLonger old more
longer_push old values more v longer is = ap (take (length old)) is ∙ (take-append-le (length old) values (v ∷ []) (longer_length old values longer) ∙ longer)
