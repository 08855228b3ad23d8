-- The first row that passes a test, and loops that change each row in place.
use Rattle.std.proofs.Common.{◌≡◌, ℕ, ◌+◌, ◌<◌, Bool, cond, List, [], ◌∷◌, ◌++◌, map, length, get_or, take, drop, set, Some, sym, refl, ap, ◌∙◌, arith}
use Rattle.std.specs.List.{position_from}
use Rattle.std.proofs.lemmas.List.{length-map, get_or-map, map-set}
use Rattle.std.proofs.lemmas.List.Edits.{map_over_more}

-- the first of the rows whose words pass
pub position_from-map : {X Y : Type 0} (f : X → Y) (p : Y → Bool) (xs : List X) (n : ℕ) → position_from p n (map f xs) ≡ position_from (λ x. p (f x)) n xs
position_from-map f p [] n = refl
position_from-map f p (x ∷ xs) n = ap (cond (p (f x)) (Some n)) (position_from-map f p xs (n + 1))

-- one turn of a loop that changes in place what each row says
module _ {X Y : Type 0} (f : X → Y) (h : Y → Y) (xs ys : List X) (i : ℕ) (same : length ys ≡ length xs) (inv : map f ys ≡ map h (take i (map f xs)) ++ drop i (map f xs)) where
  module _ (l : i < length xs) (x : X) (is : x ≡ get_or ys i x) where
    said_there : f x ≡ get_or (map f ys) i (f x)
    said_there = let k : i < length ys = omega arith in ap f is ∙ sym (get_or-map f ys i x (f x) k)

    over_more : set (map f ys) i (h (f x)) ≡ map h (take (i + 1) (map f xs)) ++ drop (i + 1) (map f xs)
    over_more = let k : i < length (map f xs) = let e = length-map xs f in omega arith in map_over_more h (map f xs) (map f ys) i (f x) k inv said_there

    pub changed_more : (y : X) → f y ≡ h (f (get_or ys i x)) → map f (set ys i y) ≡ map h (take (i + 1) (map f xs)) ++ drop (i + 1) (map f xs)
    changed_more y e = map-set f ys i y ∙ ap (set (map f ys) i) (e ∙ ap (λ z. h (f z)) (sym is)) ∙ over_more
