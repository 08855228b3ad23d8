-- How the fields of a line are read. Assumes nothing.
use Rattle.std.specs.Prelude.{◌≡◌, ℕ, Bool, true, false, cond, ◌&&◌, List, [], ◌∷◌, ◌++◌, ℤ, pos, negsuc, Some, None, codes, Option, ◌==◌, nat_le}
use Rattle.std.specs.Option.{option_map}
use Rattle.std.specs.Str.{bytes_eq}
use Rattle.rules.specs.Words.{Spelling, Home, is_word, arity_of, prim_named}
use Rattle.rules.specs.Reading.{numeral}
use Rattle.rules.specs.Rows.{Row, number_row, empty_row, name_row, local_row, variable_row, set_row, if_row, let_row, do_row, call_row, prim_row}
use Rattle.rules.specs.Rows.{Kind, variable_of, procedure_of, macro_of, action, Require}
use Rattle.modules.specs.declared.module.Row.{Row as CodeRow}
use Rattle.modules.specs.Says.{meant}
use Rattle.modules.specs.Limits.{free_name}
use Rattle.modules.specs.Whole.{Heading}

-- five fields with single spaces between them
abbrev pub five : List ℕ → List ℕ → List ℕ → List ℕ → List ℕ → List ℕ
five a b c d e = a ++ (32 ∷ (b ++ (32 ∷ (c ++ (32 ∷ (d ++ (32 ∷ e)))))))

module _ {X : Type 0} where
  abbrev pub when : Bool → Option X → Option X
  when true o = o
  when false o = None

  abbrev pub chain : {Y : Type 0} → Option Y → (Y → Option X) → Option X
  chain None f = None
  chain (Some y) f = f y

  -- the first that stands under a word
  abbrev pub pick : Spelling → List (Spelling × Option X) → Option X
  pick w [] = None
  pick w (x ∷ xs) = cond (bytes_eq w x.0) x.1 (pick w xs)

abbrev pub is_unused : Spelling → Bool
is_unused w = bytes_eq w (codes "-")

-- a number of 0 to `most`
abbrev pub bounded : ℕ → Option ℤ → Option ℕ
bounded most None = None
bounded most (Some (pos n)) = when (nat_le n most) (Some n)
bounded most (Some (negsuc n)) = None

abbrev pub small : ℕ → Spelling → Option ℕ
small most w = bounded most (numeral w)

abbrev pub home_from : Spelling → Spelling → Option Home
home_from m b = when (is_word m) (option_map (λ n. record { module_name = m; base = n }) (small 15 b))

-- the rows by their op: those that use their number at the most
abbrev pub plain_arms : Spelling → List (Spelling × Option Row)
plain_arms n =
    (codes "number", option_map number_row (numeral n)) ∷
    (codes "empty", when (is_unused n) (Some empty_row)) ∷
    (codes "local", option_map local_row (small 15 n)) ∷
    (codes "if", when (is_unused n) (Some if_row)) ∷
    (codes "let", when (is_unused n) (Some let_row)) ∷
    (codes "do", chain (small 127 n) (λ k. when (nat_le 1 k) (Some (do_row k)))) ∷ []

-- those that use a word, and no home
abbrev pub worded_arms : Spelling → Spelling → List (Spelling × Option Row)
worded_arms w n =
    (codes "set", when (is_word w) (when (is_unused n) (Some (set_row w)))) ∷
    (codes "prim", chain (prim_named w) (λ p. chain (small 2 n) (λ k. when (k == arity_of p) (Some (prim_row p k))))) ∷ []

-- those that use a word and its home
abbrev pub named_arms : Spelling → Home → Spelling → List (Spelling × Option Row)
named_arms w h n =
    (codes "name", when (is_unused n) (Some (name_row w h))) ∷
    (codes "variable", when (is_unused n) (Some (variable_row w h))) ∷
    (codes "call", option_map (call_row w h) (small 4 n)) ∷ []

abbrev pub row_from : Spelling → Spelling → Spelling → Spelling → Spelling → Option Row
row_from op w m b n =
    cond (is_unused m && is_unused b) (cond (is_unused w) (pick op (plain_arms n)) (pick op (worded_arms w n))) (chain (home_from m b) (λ h. when (is_word w) (pick op (named_arms w h n))))

abbrev pub kind_arms : Spelling → Spelling → List (Spelling × Option Kind)
kind_arms w n =
    (codes "variable", when (bytes_eq n (codes "0")) (when (free_name w) (Some (variable_of w)))) ∷
    (codes "procedure", when (free_name w) (option_map (procedure_of w) (small 4 n))) ∷
    (codes "macro", when (bytes_eq n (codes "1")) (when (free_name w) (Some (macro_of w)))) ∷
    (codes "action", when (bytes_eq n (codes "0")) (when (is_unused w) (Some action))) ∷ []

-- a macro's body stands one level up, so a macro stands at 2 at the most
abbrev pub may_stand : ℕ → Kind → Bool
may_stand level (variable_of w) = true
may_stand level (procedure_of w n) = true
may_stand level (macro_of w) = nat_le level 2
may_stand level action = true

abbrev pub heading_from : Spelling → Spelling → Spelling → Spelling → Spelling → Option Heading
heading_from l k w n r =
    chain (small 3 l) (λ level. chain (pick k (kind_arms w n)) (λ kind. chain (small 128 r) (λ rows. when (may_stand level kind) (Some (record { level = level; kind = kind; rows = rows })))))

abbrev pub require_from : Spelling → Spelling → Option Require
require_from w s = when (is_word w) (option_map (λ n. record { from = w; shift = n }) (small 1 s))

-- what the code has read is what the rules read
abbrev pub Got : {X Q : Type 0} → (X → Q → Type 0) → Option Q → Option X → Type 0
Got same None None = Unit {0}
Got same None (Some x) = ⊥
Got same (Some q) None = ⊥
Got same (Some q) (Some x) = same x q

abbrev pub GotRow : Option Row → Option CodeRow → Type 0
GotRow = Got (λ x q. meant x ≡ q)
