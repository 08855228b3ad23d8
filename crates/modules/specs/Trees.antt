-- How rows make trees. Assumes nothing.
use Rattle.std.specs.Prelude.{ℕ, zero, suc, ◌+◌, Bool, true, false, List, [], ◌∷◌}
use Rattle.rules.specs.Rows.{Row, number_row, empty_row, name_row, local_row, variable_row, set_row, if_row, let_row, do_row, call_row, prim_row}

-- how many trees come after a row as its children
abbrev pub children : Row → ℕ
children (number_row z) = 0
children empty_row = 0
children (name_row w h) = 0
children (local_row i) = 0
children (variable_row w h) = 0
children (set_row w) = 1
children if_row = 3
children let_row = 2
children (do_row n) = n
children (call_row w h n) = n
children (prim_row p n) = n

-- the rows are so many trees, one after another
abbrev pub closes : ℕ → List Row → Bool
closes zero [] = true
closes zero (r ∷ rs) = false
closes (suc k) [] = false
closes (suc k) (r ∷ rs) = closes (children r + k) rs
