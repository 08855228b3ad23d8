-- Whether a node is one of a list's.
use Rattle.std.proofs.Common.{◌≡◌, Bool, true, false, ◌||◌, ◌⊎◌, List, [], ◌∷◌, ◌++◌, length, sym, refl, ap, ◌∙◌, inl, inr, ⊎_elim, arith, length-append}
use Rattle.std.proofs.lemmas.Bool.{or_cases, or_parts, or_from, or_left, or_right, false≢true}
use Rattle.table.specs.Graphs.{Once, SuccessorsFirst}
use Rattle.table.specs.Order.{among}
use Rattle.std.specs.Cmp.{IsEquivalence}
use Rattle.std.specs.List.{list_any}

-- what a search of the list by `==` answers
pub among_any : {N : Type 0} {like : N → N → Bool} (same : IsEquivalence like) (n : N) (ms : List N) → list_any (λ m. like m n) ms ≡ among like n ms
among_any same n [] = refl
among_any {like = like} same n (m ∷ ms) = ap (λ b. b || list_any (λ m. like m n) ms) (same.symm m n) ∙ ap (λ b. like n m || b) (among_any same n ms)

-- one more at the end

pub in_or_out : (b : Bool) → (b ≡ true) ⊎ (b ≡ false)
in_or_out true = inl refl
in_or_out false = inr refl

module _ {N : Type 0} (like : N → N → Bool) where
  pub in_left : (x n : N) (xs : List N) → among like x xs ≡ true → among like x (xs ++ (n ∷ [])) ≡ true
  in_left x n [] h = absurd (false≢true h)
  in_left x n (y ∷ xs) h = ⊎_elim (λ e. or_left _ _ e) (λ e. or_right _ _ (in_left x n xs e)) (or_cases _ _ h)

  pub in_last : (x n : N) (xs : List N) → like x n ≡ true → among like x (xs ++ (n ∷ [])) ≡ true
  in_last x n [] h = or_left _ _ h
  in_last x n (y ∷ xs) h = or_right _ _ (in_last x n xs h)

  pub in_push : (x n : N) (xs : List N) → among like x (xs ++ (n ∷ [])) ≡ true → (among like x xs ≡ true) ⊎ (like x n ≡ true)
  in_push x n [] h = ⊎_elim inr (λ e. absurd (false≢true e)) (or_cases _ _ h)
  in_push x n (y ∷ xs) h = ⊎_elim (λ e. inl (or_left _ _ e)) (λ e. ⊎_elim (λ i. inl (or_right _ _ i)) inr (in_push x n xs e)) (or_cases _ _ h)

  pub out_push : (x n : N) (xs : List N) → among like x xs ≡ false → like x n ≡ false → among like x (xs ++ (n ∷ [])) ≡ false
  out_push x n [] h e = or_from _ _ e refl
  out_push x n (y ∷ xs) h e = let q = or_parts _ _ h in or_from _ _ q.0 (out_push x n xs q.1 e)

  module _ (same : IsEquivalence like) where
    -- nodes that are the same are both there or both not
    pub among_same : (x y : N) (xs : List N) → like x y ≡ true → among like x xs ≡ among like y xs
    among_same x y [] h = refl
    among_same x y (z ∷ xs) h = ap (λ b. b || among like x xs) (same.congr x y z h) ∙ ap (λ b. like y z || b) (among_same x y xs h)

    pub once_push : (n : N) (xs : List N) → Once like xs → among like n xs ≡ false → Once like (xs ++ (n ∷ []))
    once_push n [] o h = (refl, tt)
    once_push n (x ∷ xs) o h = let q = or_parts _ _ h in (out_push x n xs o.0 (same.symm x n ∙ q.0), once_push n xs o.1 q.1)

-- a list with one more at the end, cut at a node: at that one, or before it
snoc_cut : {N : Type 0} (xs : List N) (n : N) (front : List N) (m : N) (rest : List N) → xs ++ (n ∷ []) ≡ front ++ (m ∷ rest) → ((xs ≡ front) × (n ≡ m)) ⊎ ((r : List N) × (xs ≡ front ++ (m ∷ r)))
snoc_cut [] n [] m rest e = inl (refl, cc)
snoc_cut [] n (f ∷ fs) m rest e = absurd (omega (arith, ap length e, length-append fs (m ∷ rest)))
snoc_cut (x ∷ xs) n [] m rest e = let h : x ≡ m = cc in inr (xs, ap (λ y. y ∷ xs) h)
snoc_cut (x ∷ xs) n (f ∷ fs) m rest e =
    let h : x ≡ f = cc in
    let t : xs ++ (n ∷ []) ≡ fs ++ (m ∷ rest) = cc in
    ⊎_elim (λ q. inl (ap (λ y. y ∷ xs) h ∙ ap (λ ys. f ∷ ys) q.0, q.1)) (λ q. inr (q.0, ap (λ y. y ∷ xs) h ∙ ap (λ ys. f ∷ ys) q.1)) (snoc_cut xs n fs m rest t)

pub first_push : {N : Type 0} (like : N → N → Bool) (next : N → List N) (xs : List N) (n : N) → SuccessorsFirst like next xs → ((m : N) → among like m (next n) ≡ true → among like m xs ≡ true) → SuccessorsFirst like next (xs ++ (n ∷ []))
first_push like next xs n f h front x rest e m i =
    ⊎_elim (λ q. sym (ap (among like m) q.0) ∙ h m (ap (λ y. among like m (next y)) q.1 ∙ i)) (λ q. f front x q.0 q.1 m i) (snoc_cut xs n front x rest e)
