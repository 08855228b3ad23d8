-- What rows say of each entry, and after each change of them.
use Rattle.std.proofs.Common.{◌≡◌, ℕ, zero, suc, ◌+◌, ◌<◌, Bool, true, false, cond, ◌&&◌, ltb, ◌⊎◌, List, [], ◌∷◌, map, length, get_or, set, is_some, MatchOption, Some, None, Option, subst, sym, refl, ap, ◌∙◌, inl, inr, arith}
use Rattle.std.specs.List.{position_from, find}
use Rattle.std.specs.Option.{option_map, option_or}
use Rattle.std.proofs.lemmas.Slice.Eq.{bytes_eq-Decides}
use Rattle.std.proofs.lemmas.Iterator.Adapters.{position_from-zero}
use Rattle.std.proofs.lemmas.List.Quantifiers.{position-Some}
use Rattle.std.proofs.lemmas.List.{get_or-map, map-set, set-get_or}
use Rattle.std.proofs.lemmas.Bool.{and_parts, both_ways, false≢true, lt-ltb}
use Rattle.word.specs.Words.{spelling}
use Rattle.store.specs.declared.Kind.{Kind}
use Rattle.store.specs.declared.Kind.TheVariants.{Text, Artefact}
use Rattle.store.specs.declared.Key.{Key}
use Rattle.store.specs.Maps.{same_kind, same_place, Writes, Map}
use Rattle.store.specs.Rows.{Line, said, saying, is_at, is_free, look, place_for, set_at, written, cleared, struck, emptied, over}

same_kind_path : (a b : Kind) → same_kind a b ≡ true → a ≡ b
same_kind_path Text Text t = refl
same_kind_path Text Artefact t = absurd (false≢true t)
same_kind_path Artefact Text t = absurd (false≢true t)
same_kind_path Artefact Artefact t = refl

place_same : (n : List ℕ) (k : Kind) (m : List ℕ) (j : Kind) → same_place n k m j ≡ true → (n ≡ m) × (k ≡ j)
place_same n k m j t = let h = and_parts _ _ t in ((bytes_eq-Decides n m).0 h.0, same_kind_path k j h.1)

module _ (n : List ℕ) (k : Kind) where
  -- a row that has one entry has no other
  at_other : (x : Line) (m : List ℕ) (j : Kind) → is_at n k x ≡ true → same_place n k m j ≡ false → is_at m j x ≡ false
  at_other None m j t f = refl
  at_other (Some s) m j t f =
      let e : (s.name ≡ n) × (s.kind ≡ k) = place_same s.name s.kind n k t in
      let u : same_place s.name s.kind m j ≡ same_place n k m j = cc in
      u ∙ f

  -- the row that has an entry, by the entry's two names
  at_same : (x : Line) (m : List ℕ) (j : Kind) → same_place n k m j ≡ true → is_at m j x ≡ is_at n k x
  at_same x m j t = let e = place_same n k m j t in cc

  -- the row that an entry may be written to, and that no row before it has the entry
  abbrev Goes : List Line → ℕ → Type 0
  Goes xs i = (i < length xs) × ((is_at n k (get_or xs i None) ≡ true) ⊎ (get_or xs i None ≡ None)) × ((m : ℕ) → m < i → is_at n k (get_or xs m None) ≡ false)

  none_at : (xs : List Line) (c : ℕ) → position_from (is_at n k) c xs ≡ None → (m : ℕ) → is_at n k (get_or xs m None) ≡ false
  none_at [] c e m = refl
  none_at (x ∷ xs) c e m = by (none_at xs (c + 1)) m (is_at n k x) refl
    where
      by : (position_from (is_at n k) (c + 1) xs ≡ None → (i : ℕ) → is_at n k (get_or xs i None) ≡ false) → (i : ℕ) (b : Bool) → is_at n k x ≡ b → is_at n k (get_or (x ∷ xs) i None) ≡ false
      by more i true t = let z : Some c ≡ None = rw t at e in absurd (let y : ◌≡◌ {A = ℕ} 0 1 = cc in omega arith)
      by more zero false t = t
      by more (suc i) false t = more (rw t at e) i

  free_none : (x : Line) → is_free x ≡ true → x ≡ None
  free_none None t = refl
  free_none (Some s) t = absurd (false≢true t)

  goes_place : (xs : List Line) (i : ℕ) → place_for xs n k ≡ Some i → Goes xs i
  goes_place xs i e = by (position_from (is_at n k) 0 xs) refl
    where
      by : (o : Option ℕ) → position_from (is_at n k) 0 xs ≡ o → Goes xs i
      by (Some m) t =
          let f : Some m ≡ Some i = rw t at e in
          let h = position-Some (is_at n k) xs i None (position_from-zero (is_at n k) xs ∙ t ∙ f) in
          (h.0, inl h.1, h.2)
      by None t =
          let f : position_from is_free 0 xs ≡ Some i = rw t at e in
          let h = position-Some is_free xs i None (position_from-zero is_free xs ∙ f) in
          (h.0, inr (free_none _ h.1), λ m l. none_at xs 0 t m)

  module _ (v : Option (List ℕ)) (m : List ℕ) (j : Kind) (base : Option (List ℕ)) where
    look_set : (xs : List Line) (i : ℕ) → Goes xs i → look (set xs i (Some (record { name = n; kind = k; value = v }))) m j base ≡ cond (same_place n k m j) v (look xs m j base)
    look_set [] i h = absurd (let z : ◌≡◌ {A = ℕ} 0 1 = omega (arith, h.0) in omega arith)
    look_set (x ∷ xs) zero h = by (same_place n k m j) refl
      where
        by : (b : Bool) → same_place n k m j ≡ b → cond (same_place n k m j) v (look xs m j base) ≡ cond (same_place n k m j) v (look (x ∷ xs) m j base)
        by true t = rw t
        by false t =
            let o : is_at m j x ≡ false = elim h.1 [ inl a ↦ at_other x m j a t | inr a ↦ ap (is_at m j) a ] in
            rw (t, o)
    look_set (x ∷ xs) (suc i) h = by (look_set xs i (omega (arith, h.0), h.1, λ l t. h.2 (suc l) (omega arith))) (same_place n k m j) refl
      where
        by : look (set xs i (Some (record { name = n; kind = k; value = v }))) m j base ≡ cond (same_place n k m j) v (look xs m j base) → (b : Bool) → same_place n k m j ≡ b → look (x ∷ set xs i (Some (record { name = n; kind = k; value = v }))) m j base ≡ cond (same_place n k m j) v (look (x ∷ xs) m j base)
        by more true t =
            let o : is_at m j x ≡ false = at_same x m j t ∙ h.2 0 (omega arith) in
            let f : look (set xs i (Some (record { name = n; kind = k; value = v }))) m j base ≡ v = rw t at more in
            rw (o, t) f
        by more false t =
            let f : look (set xs i (Some (record { name = n; kind = k; value = v }))) m j base ≡ look xs m j base = rw t at more in
            rw (t, f)

  module _ (m : List ℕ) (j : Kind) (base : Option (List ℕ)) where
    cleared_same : (x : Line) → same_place n k m j ≡ true → is_at m j (cleared n k x) ≡ false
    cleared_same x t = by (is_at n k x) refl
      where
        by : (b : Bool) → is_at n k x ≡ b → is_at m j (cleared n k x) ≡ false
        by true a = rw a
        by false a = rw a (at_same x m j t ∙ a)

    cleared_other : (x : Line) (rest : Option (List ℕ)) → same_place n k m j ≡ false → cond (is_at m j (cleared n k x)) (said (cleared n k x)) rest ≡ cond (is_at m j x) (said x) rest
    cleared_other x rest t = by (is_at n k x) refl
      where
        by : (b : Bool) → is_at n k x ≡ b → cond (is_at m j (cleared n k x)) (said (cleared n k x)) rest ≡ cond (is_at m j x) (said x) rest
        by true a = let o = at_other x m j a t in rw (a, o)
        by false a = rw a

    look_cleared : (xs : List Line) → look (map (cleared n k) xs) m j base ≡ cond (same_place n k m j) base (look xs m j base)
    look_cleared [] = by (same_place n k m j) refl
      where
        by : (b : Bool) → same_place n k m j ≡ b → base ≡ cond (same_place n k m j) base base
        by true t = rw t
        by false t = rw t
    look_cleared (x ∷ xs) = by (look_cleared xs) (same_place n k m j) refl
      where
        by : look (map (cleared n k) xs) m j base ≡ cond (same_place n k m j) base (look xs m j base) → (b : Bool) → same_place n k m j ≡ b → look (map (cleared n k) (x ∷ xs)) m j base ≡ cond (same_place n k m j) base (look (x ∷ xs) m j base)
        by more true t =
            let f : look (map (cleared n k) xs) m j base ≡ base = rw t at more in
            let o = cleared_same x t in
            rw (o, t) f
        by more false t =
            let f : look (map (cleared n k) xs) m j base ≡ look xs m j base = rw t at more in
            rw (t, f) (cleared_other x (look xs m j base) t)

-- the row that was found, by what it says, or that none was
module _ {X : Type 0} (f : X → Line) (n : List ℕ) (k : Kind) where
  abbrev Says : List X → Option X → Type 0
  Says xs o = MatchOption o ((b : Option (List ℕ)) → look (map f xs) n k b ≡ b) (λ x. (b : Option (List ℕ)) → look (map f xs) n k b ≡ said (f x))

  says_more : (x : X) (xs : List X) (o : Option X) → is_at n k (f x) ≡ false → Says xs o → Says (x ∷ xs) o
  says_more x xs None t h = λ b. rw t (h b)
  says_more x xs (Some y) t h = λ b. rw t (h b)

  look_find : (xs : List X) → Says xs (find (λ x. is_at n k (f x)) xs)
  look_find [] = λ b. refl
  look_find (x ∷ xs) = by (look_find xs) (is_at n k (f x)) refl
    where
      by : Says xs (find (λ y. is_at n k (f y)) xs) → (c : Bool) → is_at n k (f x) ≡ c → Says (x ∷ xs) (find (λ y. is_at n k (f y)) (x ∷ xs))
      by more true t =
          let h : (b : Option (List ℕ)) → look (map f (x ∷ xs)) n k b ≡ said (f x) = λ b. rw t in
          let e : find (λ y. is_at n k (f y)) (x ∷ xs) ≡ Some x = rw t in
          subst (Says (x ∷ xs)) (sym e) h
      by more false t =
          let h = says_more x xs (find (λ y. is_at n k (f y)) xs) t more in
          let e : find (λ y. is_at n k (f y)) (x ∷ xs) ≡ find (λ y. is_at n k (f y)) xs = rw t in
          subst (Says (x ∷ xs)) (sym e) h

  pub look_found : {R : Type 0} (now : R → X) (o : Option R) (xs : List X) → option_map now o ≡ find (λ x. is_at n k (f x)) xs → MatchOption o ((b : Option (List ℕ)) → look (map f xs) n k b ≡ b) (λ r. (b : Option (List ℕ)) → look (map f xs) n k b ≡ said (f (now r)))
  look_found now None xs e = subst (Says xs) (sym e) (look_find xs)
  look_found now (Some r) xs e = subst (Says xs) (sym e) (look_find xs)

-- a row that was written, or left since the bytes do not fit
module _ {X : Type 0} (f : X → Line) (xs : List X) (key : Key) (i : ℕ) (e : Some i ≡ place_for (map f xs) (spelling key.name) key.kind) where
  pub write_after : (x y : X) (ok : Bool) (v : Option (List ℕ)) → i < length xs → f y ≡ cond ok (saying key v) (f (get_or xs i x)) → map f (set xs i y) ≡ cond ok (written (map f xs) key v) (map f xs)
  write_after x y true v l t = map-set f xs i y ∙ ap (set (map f xs) i) t ∙ ap (λ o. set_at (map f xs) o (saying key v)) e
  write_after x y false v l t = map-set f xs i y ∙ ap (set (map f xs) i) (t ∙ sym (get_or-map f xs i x (f x) l)) ∙ set-get_or (map f xs) i (f x)

-- rows over a map, after a row was written or was not
module _ (rows : List Line) (key : Key) (below : Map) (v : Option (List ℕ)) where
  pub written_writes : is_some (place_for rows (spelling key.name) key.kind) ≡ true → Writes true (over rows below) (over (written rows key v) below) (spelling key.name) key.kind v
  written_writes t m j = by (place_for rows (spelling key.name) key.kind) refl
    where
      by : (o : Option ℕ) → place_for rows (spelling key.name) key.kind ≡ o → over (written rows key v) below m j ≡ cond (same_place (spelling key.name) key.kind m j) v (over rows below m j)
      by None e = absurd (both_ways _ (ap is_some e) t)
      by (Some i) e =
          ap (λ o. look (set_at rows o (saying key v)) m j (below m j)) e
          ∙ look_set (spelling key.name) key.kind v m j (below m j) rows i (goes_place (spelling key.name) key.kind rows i e)

  pub write_writes : (after : List Line) (ok fits : Bool) → ok ≡ (fits && is_some (place_for rows (spelling key.name) key.kind)) → after ≡ cond ok (written rows key v) rows → Writes ok (over rows below) (over after below) (spelling key.name) key.kind v
  write_writes after true fits t e m j = ap (λ rs. over rs below m j) e ∙ written_writes (and_parts _ _ (sym t)).1 m j
  write_writes after false fits t e m j = ap (λ rs. over rs below m j) e

  -- a row that marks the entry as absent, or none where there is no room for it
  pub hide_writes : (after : List Line) (ok : Bool) → ok ≡ is_some (place_for rows (spelling key.name) key.kind) → after ≡ written rows key v → Writes ok (over rows below) (over after below) (spelling key.name) key.kind v
  hide_writes after true t e m j = write_writes after true true t e m j
  hide_writes after false t e m j = by (place_for rows (spelling key.name) key.kind) refl
    where
      by : (o : Option ℕ) → place_for rows (spelling key.name) key.kind ≡ o → over after below m j ≡ over rows below m j
      by None q = ap (λ rs. over rs below m j) (e ∙ ap (λ o. set_at rows o (saying key v)) q)
      by (Some i) q = absurd (both_ways _ (sym t) (ap is_some q))

-- rows over nothing, once none has the entry
pub struck_writes : (rows after : List Line) (key : Key) (below : Map) → below (spelling key.name) key.kind ≡ None → after ≡ struck rows key → Writes true (over rows below) (over after below) (spelling key.name) key.kind None
struck_writes rows after key below none e m j = ap (λ rs. over rs below m j) e ∙ look_cleared (spelling key.name) key.kind m j (below m j) rows ∙ by (same_place (spelling key.name) key.kind m j) refl
  where
    by : (b : Bool) → same_place (spelling key.name) key.kind m j ≡ b → cond (same_place (spelling key.name) key.kind m j) (below m j) (over rows below m j) ≡ cond (same_place (spelling key.name) key.kind m j) None (over rows below m j)
    by true t =
        let h = place_same (spelling key.name) key.kind m j t in
        let f : below m j ≡ None = ap (λ x. below x j) (sym h.0) ∙ ap (below (spelling key.name)) (sym h.1) ∙ none in
        rw t f
    by false t = rw t

-- rows that are all free
look_emptied : (rows : List Line) (n : List ℕ) (k : Kind) (b : Option (List ℕ)) → look (emptied rows) n k b ≡ b
look_emptied [] n k b = refl
look_emptied (r ∷ rows) n k b = look_emptied rows n k b

pub over_emptied : (rows after : List Line) → after ≡ emptied rows → (n : List ℕ) (k : Kind) (below : Map) → over after below n k ≡ below n k
over_emptied rows after e n k below = ap (λ rs. over rs below n k) e ∙ look_emptied rows n k (below n k)

first_emptied : (rows : List Line) (n : List ℕ) (k : Kind) (c : ℕ) → position_from (is_at n k) c (emptied rows) ≡ None
first_emptied [] n k c = refl
first_emptied (r ∷ rows) n k c = first_emptied rows n k (c + 1)

free_emptied : (rows : List Line) → is_some (position_from is_free 0 (emptied rows)) ≡ ltb 0 (length rows)
free_emptied [] = refl
free_emptied (r ∷ rows) = sym (lt-ltb 0 (length (r ∷ rows)) (omega arith))

pub place_emptied : (rows after : List Line) → after ≡ emptied rows → (n : List ℕ) (k : Kind) → is_some (place_for after n k) ≡ ltb 0 (length rows)
place_emptied rows after e n k =
    ap (λ rs. is_some (place_for rs n k)) e
    ∙ ap (λ o. is_some (option_or o (position_from is_free 0 (emptied rows)))) (first_emptied rows n k 0)
    ∙ free_emptied rows
