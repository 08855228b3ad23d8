-- Whether rows are trees, from front to back.
use Rattle.std.proofs.Common.{◌≡◌, ℕ, zero, suc, ◌+◌, ◌-◌, ◌<◌, ◌≤◌, Bool, true, false, ◌&&◌, eqb, List, [], ◌∷◌, map, length, get_or, take, drop, pos, None, sym, refl, ap, ◌∙◌, arith, rules}
use Rattle.std.proofs.lemmas.List.{at_drop_more, at_drop_all, length-map, take-map, drop-map}
use Rattle.std.proofs.lemmas.Bool.{and_left, and_right, and_from, le-leb}
use Rattle.std.specs.List.{IsSplitAt}
use Rattle.rules.specs.Rows.{Row as PureRow}
use Rattle.modules.specs.declared.module.Row.{Row}
use Rattle.modules.specs.declared.module.Kind.{Kind}
use Rattle.modules.specs.declared.module.Definition.{Definition}
use Rattle.modules.specs.Says.{meant}
use Rattle.modules.specs.Trees.{children, closes}
use Rattle.modules.specs.Whole.{trees}

-- what elements past the end of a list are taken to be; nothing depends on it
abbrev pub no_row : Row
no_row = Row.Number (pos 0)

abbrev pub no_definition : Definition
no_definition = record { level = 0; name = None; kind = Kind.Variable; rows = 0 }

at_none : (left : ℕ) (r : PureRow) (rs : List PureRow) (b : Bool) → left ≡ 0 → closes left (r ∷ rs) ≡ b → false ≡ b
at_none zero r rs b z h = h
at_none (suc k) r rs b z h = absurd (omega arith)

at_more : (left n : ℕ) (r : PureRow) (rs : List PureRow) (b : Bool) → (left ≡ 0 → ⊥) → n ≡ children r → closes left (r ∷ rs) ≡ b → closes (left - 1 + n) rs ≡ b
at_more zero n r rs b z e h = absurd (z refl)
at_more (suc k) n r rs b z e h = ap (λ m. closes m rs) (sum (children r) n k e) ∙ h
  where
    sum : (c n k : ℕ) → n ≡ c → suc k - 1 + n ≡ c + k
    sum c n k e = omega arith

at_end : (left : ℕ) (b : Bool) → closes left [] ≡ b → eqb left 0 ≡ b
at_end zero b h = h
at_end (suc k) b h = let t : eqb (suc k) 0 ≡ false = search rules in t ∙ h

module _ (rows : List Row) (i left : ℕ) (b : Bool) (h : closes left (map meant (drop i rows)) ≡ b) where
  here : i < length rows → closes left (meant (get_or rows i no_row) ∷ map meant (drop (i + 1) rows)) ≡ b
  here l = sym (at_drop_more (λ rs. closes left (map meant rs)) rows i no_row l) ∙ h

  pub tree_stop : i < length rows → left ≡ 0 → false ≡ b
  tree_stop l z = at_none left (meant (get_or rows i no_row)) (map meant (drop (i + 1) rows)) b z (here l)

  pub tree_next : (n : ℕ) → i < length rows → (left ≡ 0 → ⊥) → n ≡ children (meant (get_or rows i no_row)) → closes (left - 1 + n) (map meant (drop (i + 1) rows)) ≡ b
  tree_next n l z e = at_more left n (meant (get_or rows i no_row)) (map meant (drop (i + 1) rows)) b z e (here l)

  pub tree_end : length rows ≤ i → eqb left 0 ≡ b
  tree_end l = at_end left b (sym (at_drop_all (λ rs. closes left (map meant rs)) rows i l) ∙ h)

-- the first definition, with the rows that are left
module _ (d : Definition) (ds : List Definition) (rows : List PureRow) (b : Bool) (h : trees (d ∷ ds) rows ≡ b) where
  no_tree : closes 1 (take d.rows rows) ≡ false → false ≡ b
  no_tree e = sym (and_left _ _ (and_right _ _ e)) ∙ h

  one_tree : d.rows ≤ length rows → closes 1 (take d.rows rows) ≡ true → trees ds (drop d.rows rows) ≡ b
  one_tree l e = sym (ap (λ t. t && trees ds (drop d.rows rows)) (and_from _ _ (le-leb d.rows (length rows) l) e)) ∙ h

module _ (ds : List Definition) (i : ℕ) (rest : List Row) (b : Bool) (h : trees (drop i ds) (map meant rest) ≡ b) (l : i < length ds) where
  abbrev n : ℕ
  n = (get_or ds i no_definition).rows

  first : trees (get_or ds i no_definition ∷ drop (i + 1) ds) (map meant rest) ≡ b
  first = sym (at_drop_more (λ es. trees es (map meant rest)) ds i no_definition l) ∙ h

  -- the rows in front are those of the first definition
  module _ (body others : List Row) (cut : IsSplitAt rest n body others) (t : Bool) (e : t ≡ closes 1 (map meant body)) where
    front : closes 1 (take n (map meant rest)) ≡ t
    front = ap (closes 1) (take-map meant n rest ∙ ap (map meant) (sym cut.1)) ∙ sym e

    pub trees_broken : t ≡ false → false ≡ b
    trees_broken f = no_tree (get_or ds i no_definition) (drop (i + 1) ds) (map meant rest) b first (front ∙ f)

    pub trees_next : t ≡ true → trees (drop (i + 1) ds) (map meant others) ≡ b
    trees_next f =
        ap (λ rs. trees (drop (i + 1) ds) (map meant rs)) cut.2 ∙ ap (trees (drop (i + 1) ds)) (sym (drop-map meant n rest)) ∙ one_tree (get_or ds i no_definition) (drop (i + 1) ds) (map meant rest) b first (simp length-map cut.0) (front ∙ f)
