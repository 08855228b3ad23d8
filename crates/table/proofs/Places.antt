-- What a write at the place of a key does to the map, and why there is no such place.
use Rattle.std.proofs.Common.{◌≡◌, ℕ, suc, ◌+◌, ◌<◌, ◌≤◌, Bool, true, false, cond, ltb, List, [], ◌∷◌, length, get_or, set, is_some, Some, None, Option, sym, refl, ap, ◌∙◌, arith, ltb-false, ltb-true}
use borrow.Author.Tests.{clash}
use Rattle.table.specs.declared.key_table.Entry.{Entry}
use Rattle.std.specs.Prelude.{position}
use Rattle.std.specs.Option.{option_map}
use Rattle.std.specs.List.{position_or_len, count_by}
use Rattle.std.specs.Option.{is_none}
use Rattle.std.proofs.lemmas.List.Recursion.{is_position_or_len, is_count_by}
use Rattle.table.specs.Entries.{look, find, first_blank, held, stands, place}
use Rattle.std.specs.Option.{option_or}
use Rattle.std.specs.Cmp.{IsEquivalence}

-- what is like one of two keys is unlike the other, if those are unlike
apart : {K : Type 0} {like : K → K → Bool} (same : IsEquivalence like) (q k x : K) → like q k ≡ false → like k x ≡ true → like q x ≡ false
apart same q k x n h = same.symm q x ∙ sym (same.congr k x q h) ∙ same.symm k q ∙ n

swapped : {X : Type 0} (a b : Bool) (u w r : X) → (a ≡ true → b ≡ false) → cond b w (cond a u r) ≡ cond a u (cond b w r)
swapped true true u w r h = absurd (clash (sym (h refl)))
swapped true false u w r h = refl
swapped false true u w r h = refl
swapped false false u w r h = refl

covered : {X : Type 0} (a b : Bool) (u w r : X) → b ≡ a → cond a u r ≡ cond a u (cond b w r)
covered true b u w r h = refl
covered false true u w r h = absurd (clash (sym h))
covered false false u w r h = refl

-- blanks and what is held

first_within : {K V : Type 0} (es : List (Option (Entry K V))) → first_blank es ≤ length es
first_within [] = omega arith
first_within (None ∷ es) = omega arith
first_within (Some en ∷ es) = omega (arith, first_within es)

held_within : {K V : Type 0} (es : List (Option (Entry K V))) → held es ≤ length es
held_within [] = omega arith
held_within (None ∷ es) = omega (arith, held_within es)
held_within (Some en ∷ es) = omega (arith, held_within es)

all_held : {K V : Type 0} (es : List (Option (Entry K V))) → first_blank es ≡ length es → held es ≡ length es
all_held [] h = refl
all_held (None ∷ es) h = absurd (omega arith)
all_held (Some en ∷ es) h = ap suc (all_held es (omega arith))

one_more : {K V : Type 0} (es : List (Option (Entry K V))) (k : K) (v : V) → first_blank es < length es → held (set es (first_blank es) (Some (record { key = k; value = v }))) ≡ suc (held es)
one_more [] k v h = absurd (omega arith)
one_more (None ∷ es) k v h = refl
one_more (Some en ∷ es) k v h = ap suc (one_more es k v (omega arith))

some_blank : {K V : Type 0} (es : List (Option (Entry K V))) → first_blank es < length es → held es < length es
some_blank [] h = absurd (omega arith)
some_blank (None ∷ es) h = omega (arith, held_within es)
some_blank (Some en ∷ es) h = let t : first_blank es < length es = omega arith in omega (arith, some_blank es t)

-- where a key stands

module _ {K V : Type 0} (like : K → K → Bool) (k : K) where
  find_within : (es : List (Option (Entry K V))) → find like es k ≤ length es
  find_within [] = omega arith
  find_within (None ∷ es) = omega (arith, find_within es)
  find_within (Some en ∷ es) = by_test (like en.key k) (find_within es)
    where
      by_test : (b : Bool) → find like es k ≤ length es → cond b 0 (suc (find like es k)) ≤ suc (length es)
      by_test true h = omega arith
      by_test false h = omega arith

  stands_not : (es : List (Option (Entry K V))) → find like es k ≡ length es → look like es k ≡ None
  stands_not [] h = refl
  stands_not (None ∷ es) h = stands_not es (omega arith)
  stands_not (Some en ∷ es) h = by_test (like en.key k) h (stands_not es)
    where
      by_test : (b : Bool) → cond b 0 (suc (find like es k)) ≡ suc (length es) → (find like es k ≡ length es → look like es k ≡ None) → cond b (Some en.value) (look like es k) ≡ None
      by_test true e ih = absurd (omega arith)
      by_test false e ih = ih (omega arith)

  stands_there : (es : List (Option (Entry K V))) → find like es k < length es → is_some (look like es k) ≡ true
  stands_there [] h = absurd (omega arith)
  stands_there (None ∷ es) h = stands_there es (omega arith)
  stands_there (Some en ∷ es) h = by_test (like en.key k) h (stands_there es)
    where
      by_test : (b : Bool) → cond b 0 (suc (find like es k)) < suc (length es) → (find like es k < length es → is_some (look like es k) ≡ true) → is_some (cond b (Some en.value) (look like es k)) ≡ true
      by_test true e ih = refl
      by_test false e ih = ih (omega arith)

  as_many : (es : List (Option (Entry K V))) (v : V) → find like es k < length es → held (set es (find like es k) (Some (record { key = k; value = v }))) ≡ held es
  as_many [] v h = absurd (omega arith)
  as_many (None ∷ es) v h = as_many es v (omega arith)
  as_many (Some en ∷ es) v h = by_test (like en.key k) h (as_many es v)
    where
      by_test : (b : Bool) → cond b 0 (suc (find like es k)) < suc (length es) → (find like es k < length es → held (set es (find like es k) (Some (record { key = k; value = v }))) ≡ held es) → held (set (Some en ∷ es) (cond b 0 (suc (find like es k))) (Some (record { key = k; value = v }))) ≡ suc (held es)
      by_test true e ih = refl
      by_test false e ih = ap suc (ih (omega arith))

-- the map after a write

module _ {K V : Type 0} (like : K → K → Bool) (same : IsEquivalence like) (k : K) (v : V) (x : K) where
  put_found : (es : List (Option (Entry K V))) → find like es k < length es → look like (set es (find like es k) (Some (record { key = k; value = v }))) x ≡ cond (like k x) (Some v) (look like es x)
  put_found [] h = absurd (omega arith)
  put_found (None ∷ es) h = put_found es (omega arith)
  put_found (Some en ∷ es) h = by_test (like en.key k) refl h (put_found es)
    where
      by_test : (b : Bool) → like en.key k ≡ b → cond b 0 (suc (find like es k)) < suc (length es) → (find like es k < length es → look like (set es (find like es k) (Some (record { key = k; value = v }))) x ≡ cond (like k x) (Some v) (look like es x)) → look like (set (Some en ∷ es) (cond b 0 (suc (find like es k))) (Some (record { key = k; value = v }))) x ≡ cond (like k x) (Some v) (cond (like en.key x) (Some en.value) (look like es x))
      by_test true e f ih = covered (like k x) (like en.key x) (Some v) (Some en.value) (look like es x) (same.congr en.key k x e)
      by_test false e f ih = ap (cond (like en.key x) (Some en.value)) (ih (omega arith)) ∙ swapped (like k x) (like en.key x) (Some v) (Some en.value) (look like es x) (apart same en.key k x e)

  put_blank : (es : List (Option (Entry K V))) → find like es k ≡ length es → first_blank es < length es → look like (set es (first_blank es) (Some (record { key = k; value = v }))) x ≡ cond (like k x) (Some v) (look like es x)
  put_blank [] n h = absurd (omega arith)
  put_blank (None ∷ es) n h = refl
  put_blank (Some en ∷ es) n h = by_test (like en.key k) refl n (λ m. put_blank es m (omega arith))
    where
      by_test : (b : Bool) → like en.key k ≡ b → cond b 0 (suc (find like es k)) ≡ suc (length es) → (find like es k ≡ length es → look like (set es (first_blank es) (Some (record { key = k; value = v }))) x ≡ cond (like k x) (Some v) (look like es x)) → cond (like en.key x) (Some en.value) (look like (set es (first_blank es) (Some (record { key = k; value = v }))) x) ≡ cond (like k x) (Some v) (cond (like en.key x) (Some en.value) (look like es x))
      by_test true e f ih = absurd (omega arith)
      by_test false e f ih = ap (cond (like en.key x) (Some en.value)) (ih (omega arith)) ∙ swapped (like k x) (like en.key x) (Some v) (Some en.value) (look like es x) (apart same en.key k x e)

-- searches by position

module _ {K V : Type 0} (like : K → K → Bool) (k : K) where
  find_step : (x : Option (Entry K V)) (es : List (Option (Entry K V))) → find like (x ∷ es) k ≡ cond (stands like k x) 0 (1 + find like es k)
  find_step None es = omega arith
  find_step (Some en) es = ap (cond (like en.key k) 0) (omega arith)

  find_is : (es : List (Option (Entry K V))) → find like es k ≡ position_or_len (stands like k) es
  find_is es = is_position_or_len (λ es. find like es k) (stands like k) refl find_step es

blank_step : {K V : Type 0} (x : Option (Entry K V)) (es : List (Option (Entry K V))) → first_blank (x ∷ es) ≡ cond (is_none x) 0 (1 + first_blank es)
blank_step None es = refl
blank_step (Some en) es = omega arith

blank_is : {K V : Type 0} (es : List (Option (Entry K V))) → first_blank es ≡ position_or_len is_none es
blank_is es = is_position_or_len first_blank is_none refl blank_step es

abbrev index : Option ℕ → ℕ
index None = 0
index (Some i) = i

-- the place of a key: it stands there, or it stands nowhere and the place is the first blank one

pub data Placed {K V : Type 0} (like : K → K → Bool) (es : List (Option (Entry K V))) (k : K) (at : ℕ) : Type 0 where
  found : at ≡ find like es k → at < length es → Placed like es k at
  fresh : at ≡ first_blank es → at < length es → find like es k ≡ length es → Placed like es k at

module _ {K V : Type 0} (like : K → K → Bool) (es : List (Option (Entry K V))) (k : K) where
  abbrev i : ℕ
  i = position_or_len (stands like k) es

  abbrev j : ℕ
  j = position_or_len is_none es

  key_missed : ltb i (length es) ≡ false → find like es k ≡ length es
  key_missed e = let f = find_is like k es in omega (arith, find_within like k es, ltb-false _ _ e)

  placed : (at : ℕ) → Some at ≡ place like es k → Placed like es k at
  placed at is = by_tests (ltb i (length es)) (ltb j (length es)) refl refl is
    where
      by_tests : (b c : Bool) → ltb i (length es) ≡ b → ltb j (length es) ≡ c → Some at ≡ option_or (cond b (Some i) None) (cond c (Some j) None) → Placed like es k at
      by_tests true c e f h = let a = ap index h in found (a ∙ sym (find_is like k es)) (omega (arith, a, ltb-true _ _ e))
      by_tests false true e f h = let a = ap index h in fresh (a ∙ sym (blank_is es)) (omega (arith, a, ltb-true _ _ f)) (key_missed e)
      by_tests false false e f h = absurd (clash (sym (ap is_some h)))

  -- no place is left
  pub no_place : None ≡ place like es k → (look like es k ≡ None) × (held es ≡ length es)
  no_place is = by_tests (ltb i (length es)) (ltb j (length es)) refl refl is
    where
      by_tests : (b c : Bool) → ltb i (length es) ≡ b → ltb j (length es) ≡ c → None ≡ option_or (cond b (Some i) None) (cond c (Some j) None) → (look like es k ≡ None) × (held es ≡ length es)
      by_tests true c e f h = absurd (clash (ap is_some h))
      by_tests false true e f h = absurd (clash (ap is_some h))
      by_tests false false e f h =
          let b = blank_is es in
          (stands_not like k es (key_missed e), all_held es (omega (arith, first_within es, ltb-false _ _ f)))

module _ {K V : Type 0} (like : K → K → Bool) (es : List (Option (Entry K V))) (k : K) (at : ℕ) (is : Some at ≡ place like es k) where
  pub put_count : (v : V) → held (set es at (Some (record { key = k; value = v }))) ≡ held es + cond (is_some (look like es k)) 0 1
  put_count v = by_place (placed like es k at is)
    where
      by_place : Placed like es k at → held (set es at (Some (record { key = k; value = v }))) ≡ held es + cond (is_some (look like es k)) 0 1
      by_place (found e l) =
          let f : find like es k < length es = omega arith in
          let m : held (set es at (Some (record { key = k; value = v }))) ≡ held es = ap (λ n. held (set es n (Some (record { key = k; value = v })))) e ∙ as_many like k es v f in
          let n : ◌≡◌ {A = ℕ} (cond (is_some (look like es k)) 0 1) 0 = ap (λ b. cond b 0 1) (stands_there like k es f) in
          omega arith
      by_place (fresh e l f) =
          let m : held (set es at (Some (record { key = k; value = v }))) ≡ suc (held es) = ap (λ n. held (set es n (Some (record { key = k; value = v })))) e ∙ one_more es k v (omega arith) in
          let n : ◌≡◌ {A = ℕ} (cond (is_some (look like es k)) 0 1) 1 = ap (λ o. cond (is_some o) 0 1) (stands_not like k es f) in
          omega arith

  pub put_fits : look like es k ≡ None → held es < length es
  put_fits none = by_place (placed like es k at is)
    where
      by_place : Placed like es k at → held es < length es
      by_place (found e l) = absurd (clash (sym (ap is_some none) ∙ stands_there like k es (omega arith)))
      by_place (fresh e l f) = some_blank es (omega arith)

  pub put_maps : IsEquivalence like → (v : V) (x : K) → look like (set es at (Some (record { key = k; value = v }))) x ≡ cond (like k x) (Some v) (look like es x)
  put_maps same v x = by_place (placed like es k at is)
    where
      by_place : Placed like es k at → look like (set es at (Some (record { key = k; value = v }))) x ≡ cond (like k x) (Some v) (look like es x)
      by_place (found e l) = ap (λ n. look like (set es n (Some (record { key = k; value = v }))) x) e ∙ put_found like same k v x es (omega arith)
      by_place (fresh e l f) = ap (λ n. look like (set es n (Some (record { key = k; value = v }))) x) e ∙ put_blank like same k v x es f (omega arith)

-- a look at the place where the key stands

module _ {K V : Type 0} (like : K → K → Bool) (k : K) where
  value_there : (es : List (Option (Entry K V))) (d : Option (Entry K V)) → find like es k < length es → option_map (λ e. e.value) (get_or es (find like es k) d) ≡ look like es k
  value_there [] d h = absurd (omega arith)
  value_there (None ∷ es) d h = value_there es d (omega arith)
  value_there (Some en ∷ es) d h = by_test (like en.key k) h (value_there es d)
    where
      by_test : (b : Bool) → cond b 0 (suc (find like es k)) < suc (length es) → (find like es k < length es → option_map (λ e. e.value) (get_or es (find like es k) d) ≡ look like es k) → option_map (λ e. e.value) (get_or (Some en ∷ es) (cond b 0 (suc (find like es k))) d) ≡ cond b (Some en.value) (look like es k)
      by_test true h ih = refl
      by_test false h ih = ih (omega arith)

  module _ (es : List (Option (Entry K V))) where
    pub look_none : None ≡ position (stands like k) es → None ≡ look like es k
    look_none is = by_test (ltb (i like es k) (length es)) refl is
      where
        by_test : (b : Bool) → ltb (i like es k) (length es) ≡ b → None ≡ cond b (Some (i like es k)) None → None ≡ look like es k
        by_test true e h = absurd (clash (ap is_some h))
        by_test false e h = sym (stands_not like k es (key_missed like es k e))

    pub look_at : (at : ℕ) (d o : Option (Entry K V)) → Some at ≡ position (stands like k) es → o ≡ get_or es at d → option_map (λ e. e.value) o ≡ look like es k
    look_at at d o is e = by_test (ltb (i like es k) (length es)) refl is
      where
        by_test : (b : Bool) → ltb (i like es k) (length es) ≡ b → Some at ≡ cond b (Some (i like es k)) None → option_map (λ e. e.value) o ≡ look like es k
        by_test true t h =
            let f = find_is like k es in
            let a : at ≡ find like es k = ap index h ∙ sym f in
            ap (option_map (λ e. e.value)) (e ∙ ap (λ n. get_or es n d) a) ∙ value_there es d (omega (arith, a, f, ltb-true _ _ t))
        by_test false t h = absurd (clash (sym (ap is_some h)))

-- how many places hold a key, as a count

held_step : {K V : Type 0} (x : Option (Entry K V)) (es : List (Option (Entry K V))) → held (x ∷ es) ≡ cond (is_some x) (1 + held es) (held es)
held_step None es = refl
held_step (Some en) es = omega arith

pub held_is : {K V : Type 0} (es : List (Option (Entry K V))) → held es ≡ count_by is_some es
held_is es = is_count_by held is_some refl held_step es
