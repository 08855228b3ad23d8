-- How a text reads. Assumes nothing.
use Rattle.std.specs.Prelude.{ℕ, ◌+◌, ◌-◌, ◌*◌, Bool, true, cond, ◌&&◌, ◌||◌, List, [], ◌∷◌, reverse, length, ℤ, pos, neg_ℤ, Some, None, codes, Option, ◌==◌, nat_le, nat_lt}
use Rattle.rules.specs.declared.cause.Cause.{Cause}
use Rattle.rules.specs.Words.{Spelling, Home, Datum, number, word, empty, pair, list_of, digit, item_byte, is_word}

pub data Read (A : Type 0) : Type 0 where
  reads : A → Read A
  -- the cause and the offset
  refused : Cause → ℕ → Read A

abbrev pub ◌>>=◌ : {A B : Type 0} → Read A → (A → Read B) → Read B
◌>>=◌ (reads a) f = f a
◌>>=◌ (refused c at) f = refused c at

-- a form of a text, and where it begins
pub record Form : Type 0 where
  pub offset : ℕ
  pub datum : Datum

-- one list, or one quote, that is still open: what it has so far, newest first
pub data Open : Type 0 where
  bracket : List Datum → Open
  quoted : Open

abbrev pub all_digits : Spelling → Bool
all_digits [] = true
all_digits (b ∷ bs) = digit b && all_digits bs

abbrev pub value_from : ℕ → Spelling → ℕ
value_from n [] = n
value_from n (b ∷ bs) = value_from (n * 10 + (b - 48)) bs

-- digits that do not start with 0, as a number of at most the given size
abbrev pub magnitude : ℕ → Spelling → Option ℕ
magnitude most [] = None
magnitude most (b ∷ bs) = cond (nat_lt 48 b && all_digits (b ∷ bs) && nat_le (value_from 0 (b ∷ bs)) most) (Some (value_from 0 (b ∷ bs))) None

abbrev pub with_sign : (ℕ → ℤ) → Option ℕ → Option ℤ
with_sign f None = None
with_sign f (Some n) = Some (f n)

-- a number of 32 bits: 0, or an optional `-` and digits that do not start with 0
abbrev pub numeral : Spelling → Option ℤ
numeral [] = None
numeral (b ∷ bs) =
    cond (b == 48 && length bs == 0) (Some (pos 0)) (cond (b == 45) (with_sign (λ n. neg_ℤ (pos n)) (magnitude 2147483648 bs)) (with_sign pos (magnitude 2147483647 (b ∷ bs))))

abbrev pub numbered : Option ℤ → Option Datum
numbered None = None
numbered (Some z) = Some (number z)

-- an item is a word, or else a number
abbrev pub item_of : Home → Spelling → Option Datum
item_of h w = cond (is_word w) (Some (word w h)) (numbered (numeral w))

-- `'d` means `(quote d)`
abbrev pub quote_of : Home → Datum → Datum
quote_of h d = pair (word (codes "quote") h) (pair d empty)

-- what has been read: the lists and quotes still open, innermost first, where the present form begins, and the forms, newest first
pub record Progress : Type 0 where
  pub opened : List Open
  pub begun : ℕ
  pub forms : List Form

-- A datum is complete. It closes the quotes around it, and goes into the innermost list, or is a form.
abbrev pub settle : Home → ℕ → List Form → List Open → Datum → Progress
settle h begun forms [] d = record { opened = []; begun = begun; forms = record { offset = begun; datum = d } ∷ forms }
settle h begun forms (bracket ds ∷ more) d = record { opened = bracket (d ∷ ds) ∷ more; begun = begun; forms = forms }
settle h begun forms (quoted ∷ more) d = settle h begun forms more (quote_of h d)

-- where the form begins that the byte at `at` belongs to
abbrev pub start : List Open → ℕ → ℕ → ℕ
start [] begun at = at
start (o ∷ os) begun at = begun

-- lists and quotes nest at most 64 deep
abbrev pub nest : Progress → ℕ → Open → Read Progress
nest p at o =
    cond (nat_le 64 (length p.opened)) (refused Cause.NestedTooDeep at) (reads (record { opened = o ∷ p.opened; begun = start p.opened p.begun at; forms = p.forms }))

abbrev pub close : Home → ℕ → ℕ → List Form → List Open → Read Progress
close h at begun forms [] = refused Cause.Unbalanced at
close h at begun forms (bracket ds ∷ more) = reads (settle h begun forms more (list_of (reverse ds)))
close h at begun forms (quoted ∷ more) = refused Cause.Unbalanced at

-- a byte that is part of no item: blanks, `(`, `'`, `)`, and any other is refused
abbrev pub mark : Home → ℕ → ℕ → Progress → Read Progress
mark h b at p =
    cond (b == 32 || b == 10) (reads p)
    (cond (b == 40) (nest p at (bracket []))
    (cond (b == 39) (nest p at quoted)
    (cond (b == 41) (close h at p.begun p.forms p.opened)
    (refused Cause.StrayByte at))))

abbrev pub placed : Home → ℕ → Progress → Option Datum → Read Progress
placed h at p None = refused Cause.BadItem at
placed h at p (Some d) = reads (settle h (start p.opened p.begun at) p.forms p.opened d)

-- the item that ends before `at`, its bytes newest first; none where there are no bytes
abbrev pub finish : Home → ℕ → List ℕ → Progress → Read Progress
finish h at [] p = reads p
finish h at (b ∷ bs) p = placed h (at - length (b ∷ bs)) p (item_of h (reverse (b ∷ bs)))

-- at the end of the text nothing may be open
abbrev pub ended : ℕ → List Form → List Open → Read (List Form)
ended at forms [] = reads (reverse forms)
ended at forms (o ∷ os) = refused Cause.Unbalanced at

-- the bytes from `at` on, after the pending bytes of an item, newest first
unfoldable pub scan : Home → List ℕ → ℕ → List ℕ → Progress → Read (List Form)
scan h [] at pending p = do
  q ← finish h at pending p
  ended at q.forms q.opened
scan h (b ∷ bs) at pending p =
    cond (item_byte b) (scan h bs (at + 1) (b ∷ pending) p) (do
      q ← finish h at pending p
      r ← mark h b at q
      scan h bs (at + 1) [] r)

abbrev pub nothing_read : Progress
nothing_read = record { opened = []; begun = 0; forms = [] }

-- the forms of a text, or why it is refused and where; every word is at home in the text's module
abbrev pub read : Home → List ℕ → Read (List Form)
read h bytes = scan h bytes 0 [] nothing_read
