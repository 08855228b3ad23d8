-- A table as a map from keys to values, with a count of its keys and room for so many. Assumes nothing.
use Rattle.std.specs.Prelude.{◌≡◌, ℕ, ◌+◌, ◌<◌, Bool, cond, length, is_some, Some, None, Option}
use Rattle.table.specs.declared.key_table.KeyTable.{KeyTable}
use Rattle.table.specs.Entries.{look, held}

module _ {K V : Type 0} where
  -- the value that a key stands with, if it stands
  abbrev pub mapping : (K → K → Bool) → KeyTable K V → K → Option V
  mapping like t k = look like t.entries.now k

  -- how many keys stand
  abbrev pub size : KeyTable K V → ℕ
  size t = held t.entries.now

  -- how many keys can stand
  abbrev pub capacity : KeyTable K V → ℕ
  capacity t = length t.entries.now

-- no key stands, and there is room for so many
pub record Empty {K V : Type 0} (like : K → K → Bool) (most : ℕ) (t : KeyTable K V) : Type 0 where
  pub none : (k : K) → mapping like t k ≡ None
  pub count : size t ≡ 0
  pub room : capacity t ≡ most

-- the key stands with the value, and all other keys as before; there was room for it
pub record Put {K V : Type 0} (like : K → K → Bool) (before : KeyTable K V) (key : K) (value : V) (after : KeyTable K V) : Type 0 where
  pub maps : (k : K) → mapping like after k ≡ cond (like key k) (Some value) (mapping like before k)
  pub count : size after ≡ size before + cond (is_some (mapping like before key)) 0 1
  pub room : capacity after ≡ capacity before
  pub fits : mapping like before key ≡ None → size before < capacity before

-- the key did not stand and there was no room for one more: all is as before
pub record Refused {K V : Type 0} (like : K → K → Bool) (before : KeyTable K V) (key : K) (after : KeyTable K V) : Type 0 where
  pub absent : mapping like before key ≡ None
  pub full : size before ≡ capacity before
  pub maps : (k : K) → mapping like after k ≡ mapping like before k
  pub count : size after ≡ size before
  pub room : capacity after ≡ capacity before
