-- The entries of a table, and where in them a key stands. Assumes nothing.
use Rattle.std.specs.Prelude.{ℕ, suc, Bool, false, cond, List, [], ◌∷◌, Some, None, Option, position}
use Rattle.std.specs.Option.{is_none, option_or}
use Rattle.table.specs.declared.key_table.Entry.{Entry}

-- the index of the first blank place, or the length
abbrev pub first_blank : {K V : Type 0} → List (Option (Entry K V)) → ℕ
first_blank [] = 0
first_blank (None ∷ es) = 0
first_blank (Some e ∷ es) = suc (first_blank es)

-- how many places hold a key
abbrev pub held : {K V : Type 0} → List (Option (Entry K V)) → ℕ
held [] = 0
held (None ∷ es) = held es
held (Some e ∷ es) = suc (held es)

module _ {K V : Type 0} (like : K → K → Bool) where
  abbrev pub stands : K → Option (Entry K V) → Bool
  stands k None = false
  stands k (Some e) = like e.key k

  -- the value at a key: that of the first entry whose key is like it
  abbrev pub look : List (Option (Entry K V)) → K → Option V
  look [] k = None
  look (None ∷ es) k = look es k
  look (Some e ∷ es) k = cond (like e.key k) (Some e.value) (look es k)

  -- the index of that entry, or the length
  abbrev pub find : List (Option (Entry K V)) → K → ℕ
  find [] k = 0
  find (None ∷ es) k = suc (find es k)
  find (Some e ∷ es) k = cond (like e.key k) 0 (suc (find es k))

  -- where a value for a key is written: where the key stands, else in the first blank place, if there is one
  abbrev pub place : List (Option (Entry K V)) → K → Option ℕ
  place es k = option_or (position (stands k) es) (position is_none es)
