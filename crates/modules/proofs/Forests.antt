-- Rows and the trees that they are: each list of rows is at most one list of trees.
use Rattle.std.proofs.Common.{◌≡◌, ℕ, zero, suc, ◌+◌, true, List, [], ◌∷◌, ◌++◌, length, sym, refl, ap, ◌∙◌, zero-add, one-add, arith}
use Rattle.std.proofs.lemmas.List.{append-nil, append_assoc, length-append}
use Rattle.std.proofs.lemmas.Bool.{false≢true}
use Rattle.rules.specs.Rows.{Expr, Exprs, number, empty, name, local, variable, set, if, bind, seq, call, prim, none, more, size, sizes, count, flat, flats}
use Rattle.rules.specs.Rows.{Row, number_row, empty_row, name_row, local_row, variable_row, set_row, if_row, let_row, do_row, call_row, prim_row}
use Rattle.modules.specs.Trees.{children, closes}

one_more : (n k : ℕ) → 1 + n + k ≡ suc (n + k)
one_more n k = omega arith

two_more : (k : ℕ) → 2 + k ≡ suc (suc k)
two_more k = omega arith

three_more : (k : ℕ) → 3 + k ≡ suc (suc (suc k))
three_more k = omega arith

-- a tree's rows close one tree, and leave what comes after
mutual
  pub closes_flat : (e : Expr) (k : ℕ) (rest : List Row) → closes (suc k) (flat e ++ rest) ≡ closes k rest
  closes_flat (number z) k rest = ap (λ n. closes n rest) (zero-add k)
  closes_flat empty k rest = ap (λ n. closes n rest) (zero-add k)
  closes_flat (name w h) k rest = ap (λ n. closes n rest) (zero-add k)
  closes_flat (local i) k rest = ap (λ n. closes n rest) (zero-add k)
  closes_flat (variable w h) k rest = ap (λ n. closes n rest) (zero-add k)
  closes_flat (set w a) k rest = ap (λ n. closes n (flat a ++ rest)) (one-add k) ∙ closes_flat a k rest
  closes_flat (if a b c) k rest =
      ap (closes (3 + k)) (append_assoc (flat a) (flat b ++ flat c) rest ∙ ap (λ z. flat a ++ z) (append_assoc (flat b) (flat c) rest)) ∙ ap (λ n. closes n (flat a ++ (flat b ++ (flat c ++ rest)))) (three_more k) ∙ closes_flat a (suc (suc k)) (flat b ++ (flat c ++ rest)) ∙ closes_flat b (suc k) (flat c ++ rest) ∙ closes_flat c k rest
  closes_flat (bind a b) k rest =
      ap (closes (2 + k)) (append_assoc (flat a) (flat b) rest) ∙ ap (λ n. closes n (flat a ++ (flat b ++ rest))) (two_more k) ∙ closes_flat a (suc k) (flat b ++ rest) ∙ closes_flat b k rest
  closes_flat (seq es) k rest = closes_flats es k rest
  closes_flat (call w h es) k rest = closes_flats es k rest
  closes_flat (prim p es) k rest = closes_flats es k rest

  pub closes_flats : (es : Exprs) (k : ℕ) (rest : List Row) → closes (count es + k) (flats es ++ rest) ≡ closes k rest
  closes_flats none k rest = ap (λ n. closes n rest) (zero-add k)
  closes_flats (more e es) k rest =
      ap (closes (1 + count es + k)) (append_assoc (flat e) (flats es) rest) ∙ ap (λ n. closes n (flat e ++ (flats es ++ rest))) (one_more (count es) k) ∙ closes_flat e (count es + k) (flats es ++ rest) ∙ closes_flats es k rest

-- the first n trees, and those after them
abbrev pub front : ℕ → Exprs → Exprs
front zero es = none
front (suc n) none = none
front (suc n) (more e es) = more e (front n es)

abbrev pub back : ℕ → Exprs → Exprs
back zero es = es
back (suc n) none = none
back (suc n) (more e es) = back n es

abbrev pub first_of : Exprs → Expr
first_of none = empty
first_of (more e es) = e

abbrev pub rest_of : Exprs → Exprs
rest_of none = none
rest_of (more e es) = es

-- the tree of a row and its children
abbrev pub node : Row → Exprs → Expr
node (number_row z) es = number z
node empty_row es = empty
node (name_row w h) es = name w h
node (local_row i) es = local i
node (variable_row w h) es = variable w h
node (set_row w) es = set w (first_of es)
node if_row es = if (first_of es) (first_of (rest_of es)) (first_of (rest_of (rest_of es)))
node let_row es = bind (first_of es) (first_of (rest_of es))
node (do_row n) es = seq es
node (call_row w h n) es = call w h es
node (prim_row p n) es = prim p es

-- the trees that rows are
abbrev pub forest : List Row → Exprs
forest [] = none
forest (r ∷ rs) = more (node r (front (children r) (forest rs))) (back (children r) (forest rs))

none_left : (es : Exprs) → count es ≡ 0 → flats es ≡ []
none_left none p = refl
none_left (more e es) p = absurd (omega arith)

one_left : (es : Exprs) → count es ≡ 1 → flats es ≡ flat (first_of es)
one_left none p = absurd (omega arith)
one_left (more e es) p = ap (λ k. flat e ++ k) (none_left es (omega arith)) ∙ append-nil (flat e)

two_left : (es : Exprs) → count es ≡ 2 → flats es ≡ flat (first_of es) ++ flat (first_of (rest_of es))
two_left none p = absurd (omega arith)
two_left (more e es) p = ap (λ k. flat e ++ k) (one_left es (omega arith))

three_left : (es : Exprs) → count es ≡ 3 → flats es ≡ flat (first_of es) ++ (flat (first_of (rest_of es)) ++ flat (first_of (rest_of (rest_of es))))
three_left none p = absurd (omega arith)
three_left (more e es) p = ap (λ k. flat e ++ k) (two_left es (omega arith))

node_flat : (r : Row) (es : Exprs) → count es ≡ children r → flat (node r es) ≡ r ∷ flats es
node_flat (number_row z) es p = ap (λ k. number_row z ∷ k) (sym (none_left es p))
node_flat empty_row es p = ap (λ k. empty_row ∷ k) (sym (none_left es p))
node_flat (name_row w h) es p = ap (λ k. name_row w h ∷ k) (sym (none_left es p))
node_flat (local_row i) es p = ap (λ k. local_row i ∷ k) (sym (none_left es p))
node_flat (variable_row w h) es p = ap (λ k. variable_row w h ∷ k) (sym (none_left es p))
node_flat (set_row w) es p = ap (λ k. set_row w ∷ k) (sym (one_left es p))
node_flat if_row es p = ap (λ k. if_row ∷ k) (sym (three_left es p))
node_flat let_row es p = ap (λ k. let_row ∷ k) (sym (two_left es p))
node_flat (do_row n) es p = ap (λ k. do_row k ∷ flats es) p
node_flat (call_row w h n) es p = ap (λ k. call_row w h k ∷ flats es) p
node_flat (prim_row q n) es p = ap (λ k. prim_row q k ∷ flats es) p

count_front : (n k : ℕ) (es : Exprs) → count es ≡ n + k → count (front n es) ≡ n
count_front zero k es p = refl
count_front (suc n) k none p = absurd (omega arith)
count_front (suc n) k (more e es) p = ap (λ m. 1 + m) (count_front n k es (omega arith)) ∙ one-add n

count_back : (n k : ℕ) (es : Exprs) → count es ≡ n + k → count (back n es) ≡ k
count_back zero k es p = p ∙ zero-add k
count_back (suc n) k none p = absurd (omega arith)
count_back (suc n) k (more e es) p = count_back n k es (omega arith)

flats_parts : (n : ℕ) (es : Exprs) → flats (front n es) ++ flats (back n es) ≡ flats es
flats_parts zero es = refl
flats_parts (suc n) none = refl
flats_parts (suc n) (more e es) = append_assoc (flat e) (flats (front n es)) (flats (back n es)) ∙ ap (λ k. flat e ++ k) (flats_parts n es)

-- rows that close so many trees are the rows of these
pub forest_rows : (k : ℕ) (rs : List Row) → closes k rs ≡ true → (count (forest rs) ≡ k) × (flats (forest rs) ≡ rs)
forest_rows zero [] p = (refl, refl)
forest_rows zero (r ∷ rs) p = absurd (false≢true p)
forest_rows (suc k) [] p = absurd (false≢true p)
forest_rows (suc k) (r ∷ rs) p =
    let all = forest_rows (children r + k) rs p in
    let n = count_front (children r) k (forest rs) all.0 in (
      ap (λ m. 1 + m) (count_back (children r) k (forest rs) all.0) ∙ one-add k,
      ap (λ z. z ++ flats (back (children r) (forest rs))) (node_flat r (front (children r) (forest rs)) n) ∙ ap (λ z. r ∷ z) (flats_parts (children r) (forest rs) ∙ all.1),
    )

-- the one tree that rows are
abbrev pub tree_of : List Row → Expr
tree_of rs = first_of (forest rs)

pub tree_rows : (rs : List Row) → closes 1 rs ≡ true → flat (tree_of rs) ≡ rs
tree_rows rs p = let all = forest_rows 1 rs p in sym (one_left (forest rs) all.0) ∙ all.1

abbrev joined : Exprs → Exprs → Exprs
joined none fs = fs
joined (more e es) fs = more e (joined es fs)

front_joined : (es fs : Exprs) → front (count es) (joined es fs) ≡ es
front_joined none fs = refl
front_joined (more e es) fs = ap (λ n. front n (more e (joined es fs))) (one-add (count es)) ∙ ap (more e) (front_joined es fs)

back_joined : (es fs : Exprs) → back (count es) (joined es fs) ≡ fs
back_joined none fs = refl
back_joined (more e es) fs = ap (λ n. back n (more e (joined es fs))) (one-add (count es)) ∙ back_joined es fs

grown : (f : Exprs → Expr) (es fs : Exprs) → more (f (front (count es) (joined es fs))) (back (count es) (joined es fs)) ≡ more (f es) fs
grown f es fs = ap (λ z. more (f z) (back (count es) (joined es fs))) (front_joined es fs) ∙ ap (more (f es)) (back_joined es fs)

-- so a tree is told by its rows
mutual
  pub forest_flat : (e : Expr) (rest : List Row) → forest (flat e ++ rest) ≡ more e (forest rest)
  forest_flat (number z) rest = refl
  forest_flat empty rest = refl
  forest_flat (name w h) rest = refl
  forest_flat (local i) rest = refl
  forest_flat (variable w h) rest = refl
  forest_flat (set w a) rest = ap (λ f. more (node (set_row w) (front 1 f)) (back 1 f)) (forest_flat a rest)
  forest_flat (if a b c) rest =
      ap (λ f. more (node if_row (front 3 f)) (back 3 f)) (ap forest (append_assoc (flat a) (flat b ++ flat c) rest ∙ ap (λ z. flat a ++ z) (append_assoc (flat b) (flat c) rest)) ∙ forest_flat a (flat b ++ (flat c ++ rest)) ∙ ap (more a) (forest_flat b (flat c ++ rest) ∙ ap (more b) (forest_flat c rest)))
  forest_flat (bind a b) rest =
      ap (λ f. more (node let_row (front 2 f)) (back 2 f)) (ap forest (append_assoc (flat a) (flat b) rest) ∙ forest_flat a (flat b ++ rest) ∙ ap (more a) (forest_flat b rest))
  forest_flat (seq es) rest = ap (λ f. more (seq (front (count es) f)) (back (count es) f)) (forest_flats es rest) ∙ grown seq es (forest rest)
  forest_flat (call w h es) rest = ap (λ f. more (call w h (front (count es) f)) (back (count es) f)) (forest_flats es rest) ∙ grown (call w h) es (forest rest)
  forest_flat (prim p es) rest = ap (λ f. more (prim p (front (count es) f)) (back (count es) f)) (forest_flats es rest) ∙ grown (prim p) es (forest rest)

  pub forest_flats : (es : Exprs) (rest : List Row) → forest (flats es ++ rest) ≡ joined es (forest rest)
  forest_flats none rest = refl
  forest_flats (more e es) rest = ap forest (append_assoc (flat e) (flats es) rest) ∙ forest_flat e (flats es ++ rest) ∙ ap (more e) (forest_flats es rest)

-- a tree is as large as its rows are many
mutual
  pub length-flat : (e : Expr) → length (flat e) ≡ size e
  length-flat (number z) = refl
  length-flat empty = refl
  length-flat (name w h) = refl
  length-flat (local i) = refl
  length-flat (variable w h) = refl
  length-flat (set w a) = let p = length-flat a in omega arith
  length-flat (if a b c) = let p = length-flat a in let q = length-flat b in let r = length-flat c in simp length-append (omega arith)
  length-flat (bind a b) = let p = length-flat a in let q = length-flat b in simp length-append (omega arith)
  length-flat (seq es) = let p = length-flats es in omega arith
  length-flat (call w h es) = let p = length-flats es in omega arith
  length-flat (prim q es) = let p = length-flats es in omega arith

  length-flats : (es : Exprs) → length (flats es) ≡ sizes es
  length-flats none = refl
  length-flats (more e es) = let p = length-flat e in let q = length-flats es in simp length-append (omega arith)
